-- The rest of the parts and the stop make the epoch whole.
use Rattle.std.proofs.Common.{sym, subst, List}
use Rattle.std.specs.Prelude.{All}
use Rattle.mm_runtime.specs.declared.progress.PartEnd.{PartEnd}
use Rattle.mm_runtime.specs.declared.seat_part.Part.{Part}
use Rattle.mm_runtime.specs.SeatParts.{IsPartOf}
use Rattle.mm_runtime.specs.Parts.{AreGcs, AreNeeds}
use Rattle.mm_runtime.specs.OpenEpochs.{EndsParts}
use Rattle.mm_runtime.proofs.Advancing.{goes-on-more}
use Rattle.mm_runtime.proofs.PartsLater as later
use Rattle.mm_runtime.proofs.Remaining.{fewer, whole}
use Rattle.mm_runtime.proofs.epochs.Epoch.close_epoch.Goals as goal

pub run_in_turn-requires-clause-parts : goal.run_in_turn-requires-clause-parts
run_in_turn-requires-clause-parts g c κs within =
    let ready = c.requires.ready in
    subst (λ (ps : List Part). All (IsPartOf g.P.Plan.rules c.args.self.world) ps) (sym c.as_mut_slice.ensures.value)
    (later.all-belong g.P.Plan.rules ready.0 c.args.self c.args.parts.items ready.2)

pub close-requires-clause-ready : goal.close-requires-clause-ready
close-requires-clause-ready g c =
    let ready = c.requires.ready in (
      ready.0,
      ready.1,
      later.later g.P.Plan.rules ready.0 c.args.self c.args.parts.items _ ready.2
          (later.ran-lent g.P.Plan.rules c.args.self.world c.args.parts.items c.run_in_turn.new.parts c.as_mut_slice.result.now c.args.parts.len c.as_mut_slice.ensures.value c.args.parts.ok.0 c.run_in_turn.ensures),
    )

pub close-requires-clause-ended : goal.close-requires-clause-ended
close-requires-clause-ended g c =
    let ready = c.requires.ready in
    later.all-ended g.P.Plan.rules ready.0 c.args.self c.args.parts.items _ ready.2
    (later.ran-lent g.P.Plan.rules c.args.self.world c.args.parts.items c.run_in_turn.new.parts c.as_mut_slice.result.now c.args.parts.len c.as_mut_slice.ensures.value c.args.parts.ok.0 c.run_in_turn.ensures)

pub make_stop-requires-clause-stop : goal.make_stop-requires-clause-stop
make_stop-requires-clause-stop g c κs within =
    let ready = c.requires.ready in
    let part = c.in_ok-manager.ensures.part ready.0 (later.later g.P.Plan.rules ready.0 c.args.self c.args.parts.items _ ready.2
    (later.ran-lent g.P.Plan.rules c.args.self.world c.args.parts.items c.run_in_turn.new.parts c.as_mut_slice.result.now c.args.parts.len c.as_mut_slice.ensures.value c.args.parts.ok.0 c.run_in_turn.ensures)) ready.1.setting ready.1.now ready.1.closes in
    record { order = c.in_ok-manager.ensures.order; setting = ready.1.setting; now = part.0; stands = part.2 }

pub make_stop-requires-clause-gcs : goal.make_stop-requires-clause-gcs
make_stop-requires-clause-gcs g c κs within =
    subst (λ (es : List PartEnd). AreGcs c.in_ok-manager.manager.progress.items es) (sym c.deref.ensures.value) c.in_ok-manager.ensures.gcs

pub make_stop-requires-clause-needs : goal.make_stop-requires-clause-needs
make_stop-requires-clause-needs g c κs within =
    subst (λ (es : List PartEnd). AreNeeds c.in_ok-manager.manager.progress.items es) (sym c.deref.ensures.value) c.in_ok-manager.ensures.needs

pub returns-clause-epoch : goal.returns-clause-epoch
returns-clause-epoch g c old is = c.in_ok-manager-2.ensures.epoch old
    (subst (λ (es : List PartEnd). EndsParts g.P.Plan.rules old es c.in_ok-manager.manager) (sym c.deref.ensures.value)
    (c.in_ok-manager.ensures.part old (later.later g.P.Plan.rules old c.args.self c.args.parts.items _ is
    (later.ran-lent g.P.Plan.rules c.args.self.world c.args.parts.items c.run_in_turn.new.parts c.as_mut_slice.result.now c.args.parts.len c.as_mut_slice.ensures.value c.args.parts.ok.0 c.run_in_turn.ensures))))

pub returns-clause-ready : goal.returns-clause-ready
returns-clause-ready g c =
    let ready = c.requires.ready in
    let next = returns-clause-epoch g c ready.0 ready.2 ready.1.setting ready.1.now ready.1.closes in
    record { order = c.in_ok-manager-2.ensures.order; setting = ready.1.setting; now = next.0; closes = next.2 }

pub returns-clause-more : goal.returns-clause-more
returns-clause-more g c old ready is more =
    goes-on-more g.P.Plan.rules old c.in_ok-manager-2.manager c.in_ok-manager-2.turn (returns-clause-epoch g c old is) ready.setting ready.now ready.closes c.in_ok-manager-2.ensures.ended.1 more

pub returns-clause-left : goal.returns-clause-left
returns-clause-left g c old ready is more =
    let next = returns-clause-epoch g c old is ready.setting ready.now ready.closes in
    fewer g.P.Plan.rules old c.in_ok-manager-2.manager ready.setting ready.now next.0 ready.closes.stands next.2.stands ready.order.each c.in_ok-manager-2.ensures.order.each
    (returns-clause-more g c old ready is more)

pub returns-clause-whole : goal.returns-clause-whole
returns-clause-whole g c ended t now closes = whole g.P.Plan.rules c.in_ok-manager-2.manager t now closes (c.in_ok-manager-2.ensures.ended.0 ended)
