use Rattle.std.proofs.Common.{◌≡◌, ◌<◌, arith, refl, ap, subst, [], ◌∷◌, add-zero}
use Rattle.mutator_calls.specs.Effects.{grants, draws}
use Rattle.mutator_calls.specs.Allocating.{searches}
use Rattle.mutator_calls.proofs.allocation.take_free_block.Goals as goal

pub returns-clause-takes : goal.returns-clause-takes
returns-clause-takes g c = λ _.
    let drew = c.hold_ticket-ticket.ensures.goes in
    let found = c.take_some_free.ensures.grants in
    let bound : c.allowance.result ≡ (g.S.AllocationSteps.books c.hold_ticket-ticket.new.seat).allowance = c.allowance.ensures in
    let same : (g.S.AllocationSteps.books c.take_some_free.new.seat).allowance ≡ (g.S.AllocationSteps.books c.hold_ticket-ticket.new.seat).allowance
    = ap (λ b. b.allowance) c.take_some_free.ensures.books in
    let over : c.hold_ticket-ticket.result < c.allowance.result = c.if-ticket-allowance.false in
    let few : c.hold_ticket-ticket.result < (g.S.AllocationSteps.books c.take_some_free.new.seat).allowance = omega arith in (
      found.0,
      drew.0,
      subst (λ n. g.S.MutatorSteps.makes_steps c.args.seat.now (searches (found.0 ∷ []) (found.0 ∷ []) n) c.take_some_free.new.seat) (add-zero drew.0)
          (g.met.S.MutatorSteps.one_after_another _ _ _ (draws drew.0) (grants found.0) drew.1 found.1),
      record {
        ticket = c.hold_ticket-ticket.result;
        draws = drew.2;
        few = few;
        none = ap (λ b. b.ticket) c.take_some_free.ensures.books;
        here = found.4;
        lower = found.3;
      },
      λ j lacks other. found.2 j (c.hold_ticket-ticket.ensures.stays c.args.size j lacks) other,
    )

pub returns-clause-keeps : goal.returns-clause-keeps
returns-clause-keeps g c = λ is.
    let drew = c.hold_ticket-ticket.ensures.goes in
    let stayed = g.met.S.AllocationSteps.regions_stay _ _ (draws drew.0) drew.1 refl in
    g.met.S.AllocationSteps.hole_stays_kept _ _ _ (g.met.S.AllocationSteps.hole_stays _ _ stayed)
    (c.take_some_free.ensures.keeps (g.met.S.AllocationSteps.overflows_stay _ _ c.args.size stayed is))

pub returns-clause-overflow : goal.returns-clause-overflow
returns-clause-overflow g c = λ is.
    let drew = c.hold_ticket-ticket.ensures.goes in
    let stayed = g.met.S.AllocationSteps.regions_stay _ _ (draws drew.0) drew.1 refl in
    c.take_some_free.ensures.overflow (g.met.S.AllocationSteps.overflows_stay _ _ c.args.size stayed is)

pub returns-then-ticket-allowance-clause-keeps : goal.returns-then-ticket-allowance-clause-keeps
returns-then-ticket-allowance-clause-keeps g c = λ is.
    let drew = c.hold_ticket-ticket.ensures.goes in
    g.met.S.AllocationSteps.hole_stays _ _ (g.met.S.AllocationSteps.regions_stay _ _ (draws drew.0) drew.1 refl)

pub returns-then-ticket-allowance-clause-overflow : goal.returns-then-ticket-allowance-clause-overflow
returns-then-ticket-allowance-clause-overflow g c = λ is.
    let drew = c.hold_ticket-ticket.ensures.goes in
    g.met.S.AllocationSteps.overflows_stay _ _ c.args.size (g.met.S.AllocationSteps.regions_stay _ _ (draws drew.0) drew.1 refl) is
