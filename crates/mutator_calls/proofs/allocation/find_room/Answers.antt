use Rattle.std.proofs.Common.{ℕ, ◌<◌, ◌∙◌, refl, ap, subst, inl, inr, [], ◌∷◌, zero-add}
use Rattle.std.specs.Prelude.{Some}
use Rattle.mutator_calls.specs.Effects.{nothing, draws, takes}
use Rattle.mutator_calls.specs.Allocating.{IsNextTicket, ComesToHoles, FindsRoom, Draws, searches}
use Rattle.mutator_calls.proofs.RoomFoundLater.{draws-from}
use Rattle.mutator_calls.proofs.allocation.find_room.Goals as goal

pub returns-then-take_own_hole-clause-finds : goal.returns-then-take_own_hole-clause-finds
returns-then-take_own_hole-clause-finds g c = λ _.
    let own = c.if-take_own_hole.ensures.region refl in record {
      taken = [];
      granted = [];
      drawn = 0;
      effect = c.if-take_own_hole.ensures.goes;
      finds = FindsRoom.in_hole (record {
        block = own.0;
        now = own.2;
        takes = inl refl;
        none_granted = refl;
        full = c.requires.full;
        comes = ComesToHoles.at_once (c.if-overflows.ensures.no refl) refl (ap (λ b. b.ticket) c.if-take_own_hole.ensures.books);
        first = inl own.1;
      });
    }

pub returns-then-take_some_hole-clause-offered : goal.returns-then-take_some_hole-clause-offered
returns-then-take_some_hole-clause-offered g c = λ _.
    c.if-take_own_hole.ensures.same c.take_some_hole.new.seat c.args.size refl (c.if-take_some_hole.ensures.offered refl)

pub returns-then-take_some_hole-clause-finds : goal.returns-then-take_some_hole-clause-finds
returns-then-take_some_hole-clause-finds g c = λ _.
    let took = c.if-take_some_hole.ensures.taken refl in record {
      taken = took.1;
      granted = [];
      drawn = 0;
      effect = g.met.S.MutatorSteps.one_after_another _ _ _ nothing (takes took.1) c.if-take_own_hole.ensures.goes took.3;
      finds = FindsRoom.in_hole (record {
        block = took.0;
        now = took.5;
        takes = took.2;
        none_granted = refl;
        full = c.requires.full;
        comes = ComesToHoles.at_once (c.if-overflows.ensures.no refl) refl
            (ap (λ b. b.ticket) (c.if-take_some_hole.ensures.books ∙ c.if-take_own_hole.ensures.books));
        first = inr (c.if-take_own_hole.ensures.lacks refl, took.4);
      });
    }

pub returns-clause-offered : goal.returns-clause-offered
returns-clause-offered g c = λ yes.
    c.if-take_own_hole.ensures.same c.take_free_block.new.seat c.args.size refl
    (c.if-take_some_hole.ensures.same c.take_free_block.new.seat c.args.size refl (c.take_free_block.ensures.offered yes))

pub returns-clause-finds : goal.returns-clause-finds
returns-clause-finds g c = λ yes.
    let took = c.take_free_block.ensures.takes yes in
    let free = took.3 in
    let went = g.met.S.MutatorSteps.one_after_another _ _ _ nothing nothing c.if-take_own_hole.ensures.goes (c.if-take_some_hole.ensures.goes refl) in
    let same = c.if-take_some_hole.ensures.books ∙ c.if-take_own_hole.ensures.books in
    let next : ℕ → Type 0 = IsNextTicket g.S.MutatorSteps.makes_steps g.S.AllocationSteps.has_budget c.args.seat.now in record {
      taken = took.0 ∷ [];
      granted = took.0 ∷ [];
      drawn = took.1;
      effect = subst (λ n. g.S.MutatorSteps.makes_steps c.args.seat.now (searches (took.0 ∷ []) (took.0 ∷ []) n) c.take_free_block.new.seat) (zero-add took.1)
          (g.met.S.MutatorSteps.one_after_another _ _ _ nothing (searches (took.0 ∷ []) (took.0 ∷ []) took.1) went took.2);
      finds = FindsRoom.in_free_block (record {
        block = took.0;
        now = free.here;
        takes = refl;
        grants = refl;
        full = c.requires.full;
        ticket = free.ticket;
        draws = subst (λ o. Draws next o (Some free.ticket) took.1) (ap (λ b. b.ticket) same)
            (draws-from (IsNextTicket g.S.MutatorSteps.makes_steps g.S.AllocationSteps.has_budget c.take_some_hole.new.seat) next (g.S.AllocationSteps.books c.take_some_hole.new.seat).ticket (Some free.ticket) took.1
            (λ t is. record { later = is.later; steps = g.met.S.MutatorSteps.one_after_another _ _ _ nothing nothing went is.steps; budget = is.budget }) free.draws);
        good = free.few;
        used_up = free.none;
        lowest = free.lower;
        last_resort = inr (
          c.if-overflows.ensures.no refl,
          c.if-take_own_hole.ensures.lacks refl,
          λ j below other. took.4 j (c.if-take_some_hole.ensures.lacks j refl
              (subst (λ n. j < n) (c.take_free_block.ensures.blocks) below)) other,
        );
      });
    }

pub returns-clause-goes : goal.returns-clause-goes
returns-clause-goes g c = λ no.
    let drew = c.take_free_block.ensures.goes no in
    let went = g.met.S.MutatorSteps.one_after_another _ _ _ nothing nothing c.if-take_own_hole.ensures.goes (c.if-take_some_hole.ensures.goes refl) in
    let same = c.if-take_some_hole.ensures.books ∙ c.if-take_own_hole.ensures.books in
    let next : ℕ → Type 0 = IsNextTicket g.S.MutatorSteps.makes_steps g.S.AllocationSteps.has_budget c.args.seat.now in (
      drew.0,
      subst (λ n. g.S.MutatorSteps.makes_steps c.args.seat.now (draws n) c.take_free_block.new.seat) (zero-add drew.0)
          (g.met.S.MutatorSteps.one_after_another _ _ _ nothing (draws drew.0) went drew.1),
      subst (λ o. Draws next o (g.S.AllocationSteps.books c.take_free_block.new.seat).ticket drew.0) (ap (λ b. b.ticket) same)
          (draws-from (IsNextTicket g.S.MutatorSteps.makes_steps g.S.AllocationSteps.has_budget c.take_some_hole.new.seat) next (g.S.AllocationSteps.books c.take_some_hole.new.seat).ticket
          (g.S.AllocationSteps.books c.take_free_block.new.seat).ticket drew.0
          (λ t is. record { later = is.later; steps = g.met.S.MutatorSteps.one_after_another _ _ _ nothing nothing went is.steps; budget = is.budget }) drew.2),
    )

pub returns-clause-spent : goal.returns-clause-spent
returns-clause-spent g c = λ _. c.if-take_own_hole.ensures.lacks refl
