use Rattle.std.proofs.Common.{◌≡◌, ◌<◌, nat_le, sym, ap, ◌∙◌, subst, arith, length, vec_len}
use Rattle.heap_layout.specs.Zones.{block_at, first, PinBits, IsAddress}
use Rattle.plain_tracer.proofs.BitStores.{bit-read}
use Rattle.plain_tracer.proofs.TracedRows.{blocks-are, row-extent}
use Rattle.plain_tracer.proofs.ObjectsRead.{from-within, may-move-from, may-move-pinned, may-move-small}
use Rattle.plain_tracer.proofs.plain_trace.PlainTrace.may_move.Goals as goal

pub index-leaves-requires : goal.index-leaves-requires
index-leaves-requires c = let r = c.requires.tracing in
    let within : c.block_of.result < length c.args.self.now.run.from.items = from-within r.setup r.events c.args.self.now r.view r.tracks c.args.x r.right c.block_of.result (subst (λ b. c.block_of.result ≡ block_at b c.args.x) c.requires.layout c.block_of.ensures.block) in
    let many : vec_len c.args.self.now.run.from ≡ length c.args.self.now.run.from.items = c.args.self.now.run.from.ok.0 in omega arith

pub returns-then-not-leaves : goal.returns-then-not-leaves
returns-then-not-leaves c = λ p es v tracks held size.
    sym (may-move-from p es c.args.self.now v tracks c.args.x held c.block_of.result c.index-leaves.result.now (subst (λ b. c.block_of.result ≡ block_at b c.args.x) c.requires.layout c.block_of.ensures.block) c.index-leaves.ensures c.if-not-leaves.true)

pub has_bit-pinned-requires-clause-extent : goal.has_bit-pinned-requires-clause-extent
has_bit-pinned-requires-clause-extent c = let r = c.requires.tracing in row-extent r.setup r.events c.args.self.now r.view r.tracks

pub has_bit-pinned-requires-clause-address : goal.has_bit-pinned-requires-clause-address
has_bit-pinned-requires-clause-address c = let r = c.requires.tracing in
    subst (λ b. IsAddress b c.args.x) (sym (blocks-are r.setup r.events c.args.self.now r.view r.tracks)) r.right.address

pub returns-then-pinned : goal.returns-then-pinned
returns-then-pinned c = λ p es v tracks held size.
    let t = c.args.self.now in
    let there : IsAddress t.row.layout.blocks c.args.x = subst (λ n. IsAddress n c.args.x) (sym (blocks-are p es t v tracks)) held.address in
    let pinned = bit-read t PinBits c.pin_base.result c.args.x c.has_bit-pinned.result there
    (subst (λ b. c.pin_base.result ≡ first b PinBits) c.requires.layout c.pin_base.ensures) c.has_bit-pinned.ensures in
    sym (may-move-pinned p es c.args.self.now v tracks c.args.x held (pinned ∙ c.if-pinned.true))

pub returns : goal.returns
returns c = λ p es v tracks held size.
    let t = c.args.self.now in
    let there : IsAddress t.row.layout.blocks c.args.x = subst (λ n. IsAddress n c.args.x) (sym (blocks-are p es t v tracks)) held.address in
    let pinned = bit-read t PinBits c.pin_base.result c.args.x c.has_bit-pinned.result there
    (subst (λ b. c.pin_base.result ≡ first b PinBits) c.requires.layout c.pin_base.ensures) c.has_bit-pinned.ensures in
    ap (λ n. nat_le n 2048) size ∙ sym (may-move-small p es c.args.self.now v tracks c.args.x held c.block_of.result c.index-leaves.result.now (subst (λ b. c.block_of.result ≡ block_at b c.args.x) c.requires.layout c.block_of.ensures.block) c.index-leaves.ensures c.if-not-leaves.false
    (pinned ∙ c.if-pinned.false))
