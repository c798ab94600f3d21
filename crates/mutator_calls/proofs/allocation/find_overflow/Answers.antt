use Rattle.std.proofs.Common.{◌∙◌, refl, sym, ap, subst, inl, inr, [], ◌∷◌, add-zero}
use Rattle.mutator_calls.specs.Effects.{nothing, draws, takes}
use Rattle.mutator_calls.specs.Allocating.{IsNextTicket, ComesToHoles, FindsRoom, Draws, IsShort, searches}
use Rattle.mutator_calls.proofs.allocation.find_overflow.Goals as goal

pub returns-in_default-clause-finds : goal.returns-in_default-clause-finds
returns-in_default-clause-finds g c = λ _.
    let took = c.in_default.ensures.takes refl in
    let free = took.3 in record {
      taken = took.0 ∷ [];
      granted = took.0 ∷ [];
      drawn = took.1;
      effect = took.2;
      finds = FindsRoom.in_free_block (record {
        block = took.0;
        now = free.here;
        takes = refl;
        grants = refl;
        full = c.requires.full;
        ticket = free.ticket;
        draws = free.draws;
        good = free.few;
        used_up = free.none;
        lowest = free.lower;
        last_resort = inl (c.requires.overflow, (c.in_default.ensures.keeps c.requires.overflow, c.in_default.ensures.overflow c.requires.overflow));
      });
    }

pub returns-then-take_own_hole-clause-offered : goal.returns-then-take_own_hole-clause-offered
returns-then-take_own_hole-clause-offered g c = λ _.
    c.in-Err.ensures.same c.take_own_hole.new.self c.args.size refl (c.if-take_own_hole.ensures.offered refl)

pub returns-then-take_own_hole-clause-finds : goal.returns-then-take_own_hole-clause-finds
returns-then-take_own_hole-clause-finds g c = λ _.
    let drew = c.in-Err.ensures.goes refl in
    let own = c.if-take_own_hole.ensures.region refl in
    let same = c.if-take_own_hole.ensures.books in
    let short : IsShort (g.S.AllocationSteps.books c.take_own_hole.new.self) c.in-Err.ticket = subst (λ b. IsShort b c.in-Err.ticket) (sym same) c.in-Err.ensures.short in
    let stayed = g.met.S.AllocationSteps.regions_stay _ _ (draws drew.0) drew.1 refl in record {
      taken = [];
      granted = [];
      drawn = drew.0;
      effect = subst (λ n. g.S.MutatorSteps.makes_steps c.args.seat.now (searches [] [] n) c.take_own_hole.new.self) (add-zero drew.0)
          (g.met.S.MutatorSteps.one_after_another _ _ _ (draws drew.0) (takes []) drew.1 c.if-take_own_hole.ensures.goes);
      finds = FindsRoom.in_hole (record {
        block = own.0;
        now = own.2;
        takes = inl refl;
        none_granted = refl;
        full = c.requires.full;
        comes = ComesToHoles.in_vain c.in-Err.ticket c.requires.overflow (subst (λ o. Draws (IsNextTicket g.S.MutatorSteps.makes_steps g.S.AllocationSteps.has_budget c.args.seat.now)
            (g.S.AllocationSteps.books c.args.seat.now).ticket o drew.0) c.in-Err.ensures.short.ticket drew.2) short.ticket short.few;
        first = inl ((g.met.S.AllocationSteps.tried_blocks_stay _ _ c.args.size own.0 stayed).1 own.1);
      });
    }

pub returns-then-take_some_hole-clause-offered : goal.returns-then-take_some_hole-clause-offered
returns-then-take_some_hole-clause-offered g c = λ _.
    c.in-Err.ensures.same c.take_some_hole.new.seat c.args.size refl
    (c.if-take_own_hole.ensures.same c.take_some_hole.new.seat c.args.size refl (c.if-take_some_hole.ensures.offered refl))

pub returns-then-take_some_hole-clause-finds : goal.returns-then-take_some_hole-clause-finds
returns-then-take_some_hole-clause-finds g c = λ _.
    let drew = c.in-Err.ensures.goes refl in
    let took = c.if-take_some_hole.ensures.taken refl in
    let same = c.if-take_some_hole.ensures.books ∙ c.if-take_own_hole.ensures.books in
    let short : IsShort (g.S.AllocationSteps.books c.take_some_hole.new.seat) c.in-Err.ticket = subst (λ b. IsShort b c.in-Err.ticket) (sym same) c.in-Err.ensures.short in
    let stayed = g.met.S.AllocationSteps.regions_stay _ _ (draws drew.0) drew.1 refl in record {
      taken = took.1;
      granted = [];
      drawn = drew.0;
      effect = subst (λ n. g.S.MutatorSteps.makes_steps c.args.seat.now (searches took.1 [] n) c.take_some_hole.new.seat) (add-zero drew.0)
          (g.met.S.MutatorSteps.one_after_another _ _ _ (draws drew.0) (takes took.1) drew.1
          (g.met.S.MutatorSteps.one_after_another _ _ _ nothing (takes took.1) c.if-take_own_hole.ensures.goes took.3));
      finds = FindsRoom.in_hole (record {
        block = took.0;
        now = took.5;
        takes = took.2;
        none_granted = refl;
        full = c.requires.full;
        comes = ComesToHoles.in_vain c.in-Err.ticket c.requires.overflow (subst (λ o. Draws (IsNextTicket g.S.MutatorSteps.makes_steps g.S.AllocationSteps.has_budget c.args.seat.now)
            (g.S.AllocationSteps.books c.args.seat.now).ticket o drew.0) c.in-Err.ensures.short.ticket drew.2) short.ticket short.few;
        first = inr (
          (λ j tried. c.in-Err.ensures.lacked j refl tried
              (c.if-take_own_hole.ensures.lacks refl j ((g.met.S.AllocationSteps.tried_blocks_stay _ _ c.args.size j stayed).0 tried))),
          took.4,
        );
      });
    }

pub returns-clause-goes : goal.returns-clause-goes
returns-clause-goes g c = λ _.
    let drew = c.in-Err.ensures.goes refl in (
      drew.0,
      subst (λ n. g.S.MutatorSteps.makes_steps c.args.seat.now (draws n) c.take_some_hole.new.seat) (add-zero drew.0)
          (g.met.S.MutatorSteps.one_after_another _ _ _ (draws drew.0) nothing drew.1
          (g.met.S.MutatorSteps.one_after_another _ _ _ nothing nothing c.if-take_own_hole.ensures.goes (c.if-take_some_hole.ensures.goes refl))),
      subst (λ o. Draws (IsNextTicket g.S.MutatorSteps.makes_steps g.S.AllocationSteps.has_budget c.args.seat.now) (g.S.AllocationSteps.books c.args.seat.now).ticket o drew.0)
          (sym (ap (λ b. b.ticket) (c.if-take_some_hole.ensures.books ∙ c.if-take_own_hole.ensures.books))) drew.2,
    )

pub returns-clause-spent : goal.returns-clause-spent
returns-clause-spent g c = λ _ j tried.
    let drew = c.in-Err.ensures.goes refl in
    let stayed = g.met.S.AllocationSteps.regions_stay _ _ (draws drew.0) drew.1 refl in
    c.in-Err.ensures.lacked j refl tried
    (c.if-take_own_hole.ensures.lacks refl j ((g.met.S.AllocationSteps.tried_blocks_stay _ _ c.args.size j stayed).0 tried))

pub returns-clause-cause : goal.returns-clause-cause
returns-clause-cause g c =
    let same = c.if-take_some_hole.ensures.books ∙ c.if-take_own_hole.ensures.books in
    let short : IsShort (g.S.AllocationSteps.books c.take_some_hole.new.seat) c.in-Err.ticket = subst (λ b. IsShort b c.in-Err.ticket) (sym same) c.in-Err.ensures.short in (
      c.requires.most,
      (λ k below. c.if-take_some_hole.ensures.lacks k refl below),
      short.ticket,
      short.few,
    )
