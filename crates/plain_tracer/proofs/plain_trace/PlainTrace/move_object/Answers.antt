use Rattle.std.proofs.Common.{◌≡◌, ◌+◌, ◌≤◌, length, sym, ap, ◌∙◌, subst, arith}
use Rattle.heap_layout.specs.Zones.{StartBits, UnlogBits, IsAddress, first}
use Rattle.object_model.specs.Objects.{with_words}
use Rattle.trace_core.specs.Setups.{size}
use Rattle.plain_tracer.proofs.TracedRows.{row-extent}
use Rattle.plain_tracer.proofs.BitStores.{set-row, set-blocks, set-extent}
use Rattle.plain_tracer.proofs.CopiedObjects.{moving-stage, object-end, target-end, target-address, tracks-moved}
use Rattle.plain_tracer.proofs.plain_trace.PlainTrace.move_object.Goals as goal

pub copy_within-requires : goal.copy_within-requires
copy_within-requires c = let r = c.requires.tracing in
    let stage = moving-stage r.setup r.events c.args.self.now r.view r.tracks c.args.object c.args.target c.args.size r.right in
    let from : c.args.object + size r.setup c.args.object ≤ length c.args.self.now.row.words = object-end r.setup r.events c.args.self.now r.view r.tracks c.args.object c.args.target stage in
    let to : c.args.target + size r.setup c.args.object ≤ length c.args.self.now.row.words = target-end r.setup r.events c.args.self.now r.view r.tracks c.args.object c.args.target stage in
    let same : c.args.size ≡ size r.setup c.args.object = r.right.size in (omega arith, omega arith)

pub set_bit-requires-clause-extent : goal.set_bit-requires-clause-extent
set_bit-requires-clause-extent c = let r = c.requires.tracing in c.copy_within.ensures.count ∙ row-extent r.setup r.events c.args.self.now r.view r.tracks

pub set_bit-requires-clause-address : goal.set_bit-requires-clause-address
set_bit-requires-clause-address c = let r = c.requires.tracing in target-address r.setup r.events c.args.self.now r.view r.tracks c.args.object c.args.target
    (moving-stage r.setup r.events c.args.self.now r.view r.tracks c.args.object c.args.target c.args.size r.right)

pub set_bit-requires-2-clause-extent : goal.set_bit-requires-2-clause-extent
set_bit-requires-2-clause-extent c = let r = c.requires.tracing in
    set-extent _ c.set_bit.new.self c.unlog_base.result c.args.target c.set_bit.ensures (c.copy_within.ensures.count ∙ row-extent r.setup r.events c.args.self.now r.view r.tracks)

pub set_bit-requires-2-clause-address : goal.set_bit-requires-2-clause-address
set_bit-requires-2-clause-address c = let r = c.requires.tracing in
    subst (λ n. IsAddress n c.args.target) (sym (set-blocks _ c.set_bit.new.self c.unlog_base.result c.args.target c.set_bit.ensures))
    (target-address r.setup r.events c.args.self.now r.view r.tracks c.args.object c.args.target
    (moving-stage r.setup r.events c.args.self.now r.view r.tracks c.args.object c.args.target c.args.size r.right))

pub set_bit-requires-2-clause-layout : goal.set_bit-requires-2-clause-layout
set_bit-requires-2-clause-layout c = c.requires.layout ∙ sym (set-blocks _ c.set_bit.new.self c.unlog_base.result c.args.target c.set_bit.ensures)

pub returns-clause-moves : goal.returns-clause-moves
returns-clause-moves c = λ p es v tracks moving.
    let stage = moving-stage p es c.args.self.now v tracks c.args.object c.args.target c.args.size moving in
    let ws = c.copy_within.new.self in
    let marked = set-row _ c.set_bit.new.self c.unlog_base.result c.args.target c.set_bit.ensures p.before UnlogBits ws (ap (λ s. with_words s ws) tracks.row)
    (subst (λ b. c.unlog_base.result ≡ first b UnlogBits) c.requires.layout c.unlog_base.ensures) in
    let second = set-row c.set_bit.new.self c.set_bit-2.new.self c.start_base.result c.args.target c.set_bit-2.ensures p.before StartBits _ marked
    (subst (λ b. c.start_base.result ≡ first b StartBits) (c.requires.layout ∙ sym (set-blocks _ c.set_bit.new.self c.unlog_base.result c.args.target c.set_bit.ensures)) c.start_base.ensures) in
    tracks-moved p es c.args.self.now c.set_bit-2.new.self v tracks c.args.object c.args.target c.args.size stage moving.moves moving.size ws c.copy_within.ensures.count
    c.copy_within.ensures.copied second
    (c.set_bit-2.ensures.run ∙ c.set_bit.ensures.run) (c.set_bit-2.ensures.block ∙ c.set_bit.ensures.block) (c.set_bit-2.ensures.room ∙ c.set_bit.ensures.room)
    (c.set_bit-2.ensures.next_block ∙ c.set_bit.ensures.next_block)
