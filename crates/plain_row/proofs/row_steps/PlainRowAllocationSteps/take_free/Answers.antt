use Rattle.std.proofs.Common.{Bool, inl, inr, refl, subst, sym, if◌then◌else◌}
use Rattle.std.proofs.lemmas.Bool.{cases_Bool}
use Rattle.mutator_calls.specs.Effects.{grants, nothing}
use Rattle.plain_row.specs.Worlds.{Goes}
use Rattle.plain_row.specs.SeatLaws.{goes-nothing}
use Rattle.plain_row.specs.Steps.{IsOverflow, KeepsRegion, Lacks, IsUsed, Offers}
use Rattle.plain_row.proofs.GoesWithBlock.{free-goes, free-room, free-offers, free-current, free-lacks, free-keeps, free-overflows, used-still}
use Rattle.plain_row.proofs.row_steps.PlainRowAllocationSteps.take_free.Goals as goal

pub returns-clause-goes : goal.returns-clause-goes
returns-clause-goes c =
    let a = c.args.self.now in
    let b = c.take_free_block.new.self in
    elim (cases_Bool c.take_free_block.result) as (λ _. Goes a (if c.take_free_block.result then grants c.args.block else nothing) b) [
      | inl took ↦
          (let found = c.take_free_block.ensures.found took in
          subst (λ (t : Bool). Goes a (if t then grants c.args.block else nothing) b) (sym took)
          (free-goes a b c.requires.ready c.args.block c.args.size c.requires.block found.0 found.1.0 found.1.1 found.1.2 c.requires.ticket))
      | inr failed ↦ subst (λ (t : Bool). Goes a (if t then grants c.args.block else nothing) b) (sym failed) (goes-nothing a b (c.take_free_block.ensures.none failed).1)
    ]

pub returns-clause-found : goal.returns-clause-found
returns-clause-found c = λ took.
    let found = c.take_free_block.ensures.found took in
    free-room c.args.self.now c.take_free_block.new.self c.requires.ready c.args.block c.args.size c.requires.block found.0 found.1.0 found.1.1 found.1.2 c.requires.ticket c.requires.most

pub returns-clause-stays : goal.returns-clause-stays
returns-clause-stays c = λ n k other lacks.
    let a = c.args.self.now in
    let b = c.take_free_block.new.self in
    elim (cases_Bool c.take_free_block.result) as (λ _. Lacks b n k) [
      | inl took ↦
          (let found = c.take_free_block.ensures.found took in
          free-lacks a b c.requires.ready c.args.block c.args.size c.requires.block found.0 found.1.0 found.1.1 found.1.2 c.requires.ticket n k other lacks)
      | inr failed ↦ subst (λ w. Lacks w n k) (sym (c.take_free_block.ensures.none failed).1) lacks
    ]

pub returns-clause-offered : goal.returns-clause-offered
returns-clause-offered c = λ took.
    let found = c.take_free_block.ensures.found took in
    free-offers c.args.self.now c.take_free_block.new.self c.requires.ready c.args.block c.args.size c.requires.block found.0 found.1.0 found.1.1 found.1.2 c.requires.ticket c.requires.most

pub returns-clause-offers : goal.returns-clause-offers
returns-clause-offers c = λ other n no. subst (λ w. Offers c.take_free_block.new.self other n → Offers w other n) (c.take_free_block.ensures.none no).1 (λ offers. offers)

pub returns-clause-still : goal.returns-clause-still
returns-clause-still c = λ k used.
    let a = c.args.self.now in
    let b = c.take_free_block.new.self in
    elim (cases_Bool c.take_free_block.result) as (λ _. IsUsed b k) [
      | inl took ↦
          (let found = c.take_free_block.ensures.found took in
          used-still a b (grants c.args.block)
          (free-goes a b c.requires.ready c.args.block c.args.size c.requires.block found.0 found.1.0 found.1.1 found.1.2 c.requires.ticket) k used)
      | inr failed ↦ subst (λ w. IsUsed w k) (sym (c.take_free_block.ensures.none failed).1) used
    ]

pub returns-clause-region : goal.returns-clause-region
returns-clause-region c = λ took.
    let found = c.take_free_block.ensures.found took in
    free-current c.args.self.now c.take_free_block.new.self c.requires.ready c.args.block c.args.size c.requires.block found.0 found.1.0 found.1.1 found.1.2 c.requires.ticket c.requires.most

pub returns-clause-keeps : goal.returns-clause-keeps
returns-clause-keeps c = λ flows.
    let a = c.args.self.now in
    let b = c.take_free_block.new.self in
    elim (cases_Bool c.take_free_block.result) as (λ _. KeepsRegion a b) [
      | inl took ↦
          (let found = c.take_free_block.ensures.found took in
          free-keeps a b c.requires.ready c.args.block c.args.size c.requires.block found.0 found.1.0 found.1.1 found.1.2 c.requires.ticket flows)
      | inr failed ↦ subst (λ w. KeepsRegion a w) (sym (c.take_free_block.ensures.none failed).1) (record { block = refl; region = refl })
    ]

pub returns-clause-overflow : goal.returns-clause-overflow
returns-clause-overflow c = λ flows.
    let a = c.args.self.now in
    let b = c.take_free_block.new.self in
    elim (cases_Bool c.take_free_block.result) as (λ _. IsOverflow b c.args.size) [
      | inl took ↦
          (let found = c.take_free_block.ensures.found took in
          free-overflows a b c.requires.ready c.args.block c.args.size c.requires.block found.0 found.1.0 found.1.1 found.1.2 c.requires.ticket flows)
      | inr failed ↦ subst (λ w. IsOverflow w c.args.size) (sym (c.take_free_block.ensures.none failed).1) flows
    ]
