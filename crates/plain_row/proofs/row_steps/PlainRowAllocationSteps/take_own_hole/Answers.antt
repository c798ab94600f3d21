use Rattle.std.proofs.Common.{◌≡◌, refl, sym, subst, ℕ, ◌≤◌, arith, inl, inr, Bool, true, false, if◌then◌else◌, []}
use Rattle.std.specs.Prelude.{Some}
use Rattle.plain_row.specs.declared.plain_row.PlainRow.{PlainRow}
use Rattle.plain_row.specs.Rows.{seat_at_turn}
use Rattle.local_allocators.specs.Seats.{block_of}
use Rattle.local_allocators.specs.MutatorRegions.{FillsLines}
use Rattle.plain_row.specs.Changes.{FindsHole}
use Rattle.std.proofs.lemmas.Bool.{cases_Bool}
use Rattle.mutator_calls.specs.Effects.{nothing, takes}
use Rattle.plain_row.specs.Worlds.{Goes, MayCall}
use Rattle.plain_row.specs.SeatLaws.{goes-nothing}
use Rattle.plain_row.specs.Steps.{IsFull, Lacks, Offers, books_of}
use Rattle.plain_row.proofs.GoesWithBlock.{used-still}
use Rattle.plain_row.proofs.HolesFound.{enters-current, enters-room, enters-offers, enters-books, own-tries, own-goes, spent-blocks}
use Rattle.plain_row.proofs.row_steps.PlainRowAllocationSteps.take_own_hole.Goals as goal

some : (size : ℕ) → 3 ≤ size → 1 ≤ size
some size least = omega arith

pub returns-clause-found : goal.returns-clause-found
returns-clause-found c = λ took.
    let next = c.take_hole_in_own.ensures.found took in
    enters-room c.args.self.now c.take_hole_in_own.new.self next.1.0 c.args.size (some c.args.size c.requires.least) c.requires.ready next.1.2

pub returns-clause-offered : goal.returns-clause-offered
returns-clause-offered c = λ took.
    let next = c.take_hole_in_own.ensures.found took in
    enters-offers c.args.self.now c.take_hole_in_own.new.self next.1.0 c.args.size c.requires.least c.requires.most c.requires.ready c.requires.full next.1.2

pub returns-clause-region : goal.returns-clause-region
returns-clause-region c = λ took.
    let a = c.args.self.now in
    let b = c.take_hole_in_own.new.self in
    let next = c.take_hole_in_own.ensures.found took in (
      next.1.0,
      own-tries a b next.1.0 c.args.size c.requires.ready next.0 next.1.1,
      enters-current a b next.1.0 c.args.size (some c.args.size c.requires.least) c.requires.ready next.1.2,
    )

goes-on : (a b : PlainRow) (size : ℕ) (took : Bool) → 3 ≤ size → MayCall a
    → (took ≡ true → FillsLines a.fill × ((k : ℕ) × (block_of (seat_at_turn a) 0 ≡ Some k) × FindsHole a b k size))
    → (took ≡ false → b ≡ a) → Goes a (if took then takes [] else nothing) b
goes-on a b size true least ready found same = let next = found refl in own-goes a b next.1.0 size ready next.0 next.1.1 (some size least) next.1.2
goes-on a b size false least ready found same = goes-nothing a b (same refl)

pub returns-clause-goes : goal.returns-clause-goes
returns-clause-goes c = goes-on c.args.self.now c.take_hole_in_own.new.self c.args.size c.take_hole_in_own.result c.requires.least c.requires.ready
    c.take_hole_in_own.ensures.found c.take_hole_in_own.ensures.same

pub returns-clause-still : goal.returns-clause-still
returns-clause-still c = λ k used. used-still c.args.self.now c.take_hole_in_own.new.self (if c.take_hole_in_own.result then takes [] else nothing)
    (goes-on c.args.self.now c.take_hole_in_own.new.self c.args.size c.take_hole_in_own.result c.requires.least c.requires.ready c.take_hole_in_own.ensures.found
    c.take_hole_in_own.ensures.same) k used

pub returns-clause-lacks : goal.returns-clause-lacks
returns-clause-lacks c = λ failed k tries.
    spent-blocks c.args.self.now c.take_hole_in_own.new.self c.args.size c.requires.least c.requires.most c.requires.ready
    c.requires.full (λ block lines is. c.take_hole_in_own.ensures.none block failed lines is)
    (c.take_hole_in_own.ensures.same failed) k tries

pub returns-clause-ready : goal.returns-clause-ready
returns-clause-ready c = λ failed. subst MayCall (sym (c.take_hole_in_own.ensures.same failed)) c.requires.ready

pub returns-clause-full : goal.returns-clause-full
returns-clause-full c = λ failed. subst (λ w. IsFull w c.args.size) (sym (c.take_hole_in_own.ensures.same failed)) c.requires.full

pub returns-clause-stays : goal.returns-clause-stays
returns-clause-stays c = λ n k failed is. subst (λ w. Lacks w n k) (sym (c.take_hole_in_own.ensures.same failed)) is

pub returns-clause-same : goal.returns-clause-same
returns-clause-same c = λ other n failed is. subst (λ w. Offers w other n) (c.take_hole_in_own.ensures.same failed) is

pub returns-clause-books : goal.returns-clause-books
returns-clause-books c =
    let a = c.args.self.now in
    let b = c.take_hole_in_own.new.self in
    elim (cases_Bool c.take_hole_in_own.result) as (λ _. books_of b ≡ books_of a) [
      | inl took ↦ (let next = c.take_hole_in_own.ensures.found took in
          enters-books a b next.1.0 c.args.size (some c.args.size c.requires.least) c.requires.ready next.1.2)
      | inr failed ↦ subst (λ w. books_of w ≡ books_of a) (sym (c.take_hole_in_own.ensures.same failed)) refl
    ]
