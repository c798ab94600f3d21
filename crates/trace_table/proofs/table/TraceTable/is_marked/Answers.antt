use Rattle.std.proofs.Common.{◌≡◌, ◌≢◌, ℕ, ◌+◌, ◌-◌, ◌/◌, ◌%◌, ◌<◌, length, vec_len, ap, ◌∙◌, subst, arith}
use Rattle.std.specs.Int.{bit_at}
use Rattle.heap_layout.specs.Zones.{block_at, heap_of, first, UnlogBits}
use Rattle.object_model.specs.BitWords.{bit_place}
use Rattle.trace_core.specs.Setups.{Setup, blocks}
use Rattle.trace_core.specs.Runs.{IsRunOf}
use Rattle.trace_table.proofs.ObjectReads.{from-within}
use Rattle.trace_table.proofs.table.TraceTable.is_marked.Goals as goal

pub index-leaves-requires : goal.index-leaves-requires
index-leaves-requires g c = let p : Setup = g.C.About.setup in let run : IsRunOf p c.args.self.now.run = subst (λ (q : Setup). IsRunOf q c.args.self.now.run) c.requires.about.0 c.requires.table.run in
    let block : c.block_of.result ≡ block_at (blocks p) g.C.About.object = c.block_of.ensures.block ∙ ap (λ n. block_at n c.args.x) (c.requires.table.layout ∙ ap (λ (q : Setup). blocks q) c.requires.about.0) ∙ ap (block_at (blocks p)) c.requires.about.1 in
    let within : c.block_of.result < length c.args.self.now.run.from.items = from-within p c.args.self.now.run run g.C.About.object c.requires.held c.block_of.result block in
    let many : vec_len c.args.self.now.run.from ≡ length c.args.self.now.run.from.items = c.args.self.now.run.from.ok.0 in omega arith

pub look_at_bit-bits-requires-clause-about : goal.look_at_bit-bits-requires-clause-about
look_at_bit-bits-requires-clause-about g c = let p : Setup = g.C.About.setup in let x : ℕ = g.C.About.object in
    let size-same : c.args.self.now.layout.blocks ≡ blocks p = c.requires.table.layout ∙ ap (λ (q : Setup). blocks q) c.requires.about.0 in
    let base : c.heap_base.result ≡ heap_of (blocks p) = c.heap_base.ensures ∙ ap heap_of size-same in
    let bits : c.unlog_base.result ≡ first (blocks p) UnlogBits = c.unlog_base.ensures ∙ ap (λ n. first n UnlogBits) size-same in
    let index : c.args.x - c.heap_base.result ≡ x - heap_of (blocks p) = ap (λ n. n - c.heap_base.result) c.requires.about.1 ∙ ap (λ n. x - n) base in (
      c.requires.about.0,
      ap (λ n. n + (c.args.x - c.heap_base.result) / 64) bits ∙ ap (λ n. first (blocks p) UnlogBits + n / 64) index,
    )

place-is : (p : Setup) (x a base : ℕ) → a ≡ x → base ≡ heap_of (blocks p) → (a - base) % 64 ≡ bit_place (blocks p) x
place-is p x a base same at = ap (λ n. (n - base) % 64) same ∙ ap (λ n. (x - n) % 64) at

pub returns-clause-marked : goal.returns-clause-marked
returns-clause-marked g c = λ set. (let p : Setup = g.C.About.setup in
    let size-same : c.args.self.now.layout.blocks ≡ blocks p = c.requires.table.layout ∙ ap (λ (q : Setup). blocks q) c.requires.about.0 in
    let place = place-is p g.C.About.object c.args.x c.heap_base.result c.requires.about.1 (c.heap_base.ensures ∙ ap heap_of size-same) in
    c.look_at_bit-bits.ensures.bit.0 (subst (λ k. bit_at c.look_at_bit-bits.result k ≡ 1) place (c.is_set.ensures.set set)))

pub returns-clause-clear : goal.returns-clause-clear
returns-clause-clear g c = λ none. (let p : Setup = g.C.About.setup in
    let size-same : c.args.self.now.layout.blocks ≡ blocks p = c.requires.table.layout ∙ ap (λ (q : Setup). blocks q) c.requires.about.0 in
    let place = place-is p g.C.About.object c.args.x c.heap_base.result c.requires.about.1 (c.heap_base.ensures ∙ ap heap_of size-same) in
    c.look_at_bit-bits.ensures.bit.1 (subst (λ k. bit_at c.look_at_bit-bits.result k ≢ 1) place (c.is_set.ensures.clear none)))
