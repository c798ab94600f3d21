use Rattle.std.proofs.Common.{◌≡◌, refl, subst}
use Rattle.heap_layout.specs.Zones.{UnlogBits, first}
use Rattle.plain_tracer.proofs.TracedRows.{row-extent}
use Rattle.plain_tracer.proofs.BitStores.{set-row}
use Rattle.plain_tracer.proofs.CopiedObjects.{wins-stage, target-address, tracks-in-place}
use Rattle.plain_tracer.proofs.plain_trace.PlainTrace.copy_in_place.Goals as goal

pub set_bit-requires-clause-extent : goal.set_bit-requires-clause-extent
set_bit-requires-clause-extent c = let r = c.requires.tracing in row-extent r.setup r.events c.args.self.now r.view r.tracks

pub set_bit-requires-clause-address : goal.set_bit-requires-clause-address
set_bit-requires-clause-address c = let r = c.requires.tracing in target-address r.setup r.events c.args.self.now r.view r.tracks c.args.x c.args.x
    (wins-stage r.setup r.events c.args.self.now r.view r.tracks c.args.x c.args.x r.right.right r.right.target)

pub returns-clause-copies : goal.returns-clause-copies
returns-clause-copies c = λ p es v tracks here.
    tracks-in-place p es c.args.self.now c.set_bit.new.self v tracks c.args.x c.args.x
    (wins-stage p es c.args.self.now v tracks c.args.x c.args.x here.right here.target) refl
    (set-row c.args.self.now c.set_bit.new.self c.unlog_base.result c.args.x c.set_bit.ensures p.before UnlogBits _ tracks.row
    (subst (λ b. c.unlog_base.result ≡ first b UnlogBits) c.requires.layout c.unlog_base.ensures))
    c.set_bit.ensures.run c.set_bit.ensures.block c.set_bit.ensures.room c.set_bit.ensures.next_block
