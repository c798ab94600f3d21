use Rattle.std.proofs.Common.{◌≡◌, ◌≤◌, ℕ, arith, inl, inr}
use Rattle.std.proofs.lemmas.Bool.{cases_Bool}
use Rattle.mutator_calls.specs.Effects.{nothing, takes}
use Rattle.plain_row.specs.Steps.{IsUsed, Lacks, books_of}
use Rattle.plain_row.proofs.GoesWithBlock.{used-still}
use Rattle.plain_row.proofs.HolesFound.{enters-current, enters-goes, enters-room, enters-offers, enters-others, enters-books, leaves-books, leaves-goes, leaves-ready, leaves-lacks, leaves-offers, leaves-others, leaves-full}
use Rattle.plain_row.proofs.row_steps.PlainRowAllocationSteps.take_hole.Goals as goal

some : (size : ℕ) → 3 ≤ size → 1 ≤ size
some size least = omega arith

pub returns-clause-found : goal.returns-clause-found
returns-clause-found c = λ took. enters-room c.args.self.now c.take_hole_in.new.self c.args.block c.args.size (some c.args.size c.requires.least) c.requires.ready (c.take_hole_in.ensures.found took)

pub returns-clause-offered : goal.returns-clause-offered
returns-clause-offered c = λ took. enters-offers c.args.self.now c.take_hole_in.new.self c.args.block c.args.size c.requires.least c.requires.most c.requires.ready c.requires.full (c.take_hole_in.ensures.found took)

pub returns-clause-taken : goal.returns-clause-taken
returns-clause-taken c = λ took. enters-goes c.args.self.now c.take_hole_in.new.self c.args.block c.args.size (some c.args.size c.requires.least) c.requires.ready (c.take_hole_in.ensures.found took)

pub returns-clause-ready : goal.returns-clause-ready
returns-clause-ready c = λ failed. leaves-ready c.args.self.now c.take_hole_in.new.self c.args.block c.args.size c.requires.least c.requires.most c.requires.ready (c.take_hole_in.ensures.none failed)

pub returns-clause-goes : goal.returns-clause-goes
returns-clause-goes c = λ failed. leaves-goes c.args.self.now c.take_hole_in.new.self c.args.block c.args.size c.requires.least c.requires.most c.requires.ready (c.take_hole_in.ensures.none failed)

pub returns-clause-lacks : goal.returns-clause-lacks
returns-clause-lacks c = λ failed. leaves-lacks c.args.self.now c.take_hole_in.new.self c.args.block c.args.size c.requires.least c.requires.most c.requires.ready (c.take_hole_in.ensures.none failed)

pub returns-clause-same : goal.returns-clause-same
returns-clause-same c = λ other n failed. leaves-offers c.args.self.now c.take_hole_in.new.self c.args.block c.args.size c.requires.ready (c.take_hole_in.ensures.none failed) other n

pub returns-clause-stays : goal.returns-clause-stays
returns-clause-stays c = λ n k failed. leaves-others c.args.self.now c.take_hole_in.new.self c.args.block c.args.size c.requires.ready (c.take_hole_in.ensures.none failed) n k

pub returns-clause-others : goal.returns-clause-others
returns-clause-others c = λ n k other lacks.
    let a = c.args.self.now in
    let b = c.take_hole_in.new.self in
    elim (cases_Bool c.take_hole_in.result) as (λ _. Lacks b n k) [
      | inl took ↦ enters-others a b c.args.block c.args.size (some c.args.size c.requires.least) c.requires.ready (c.take_hole_in.ensures.found took) n k other lacks
      | inr failed ↦ leaves-others a b c.args.block c.args.size c.requires.ready (c.take_hole_in.ensures.none failed) n k lacks
    ]

pub returns-clause-region : goal.returns-clause-region
returns-clause-region c = λ took. enters-current c.args.self.now c.take_hole_in.new.self c.args.block c.args.size (some c.args.size c.requires.least) c.requires.ready (c.take_hole_in.ensures.found took)

pub returns-clause-still : goal.returns-clause-still
returns-clause-still c = λ k used.
    let a = c.args.self.now in
    let b = c.take_hole_in.new.self in
    elim (cases_Bool c.take_hole_in.result) as (λ _. IsUsed b k) [
      | inl took ↦
          (let goes = enters-goes a b c.args.block c.args.size (some c.args.size c.requires.least) c.requires.ready (c.take_hole_in.ensures.found took) in
          used-still a b (takes goes.0) goes.2 k used)
      | inr failed ↦ used-still a b nothing (leaves-goes a b c.args.block c.args.size c.requires.least c.requires.most c.requires.ready (c.take_hole_in.ensures.none failed)) k used
    ]

pub returns-clause-books : goal.returns-clause-books
returns-clause-books c =
    let a = c.args.self.now in
    let b = c.take_hole_in.new.self in
    elim (cases_Bool c.take_hole_in.result) as (λ _. books_of b ≡ books_of a) [
      | inl took ↦ enters-books a b c.args.block c.args.size (some c.args.size c.requires.least) c.requires.ready (c.take_hole_in.ensures.found took)
      | inr failed ↦ leaves-books a b c.args.block c.args.size c.requires.least c.requires.most c.requires.ready (c.take_hole_in.ensures.none failed)
    ]

pub returns-clause-full : goal.returns-clause-full
returns-clause-full c = λ failed. leaves-full c.args.self.now c.take_hole_in.new.self c.args.block c.args.size c.requires.ready (c.take_hole_in.ensures.none failed) c.requires.full
