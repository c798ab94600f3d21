use Rattle.std.proofs.Common.{◌≡◌, ℕ, ◌+◌, ◌*◌, ◌<◌, ap, arith, sym, subst, ◌∙◌, inl, inr, true≢false, ◌⊎◌}
use Rattle.heap_layout.specs.Zones.{first, heap_of, StartBits, UnlogBits}
use Rattle.heap_layout.specs.declared.block.Kind.TheVariants as kinds
use Rattle.object_model.specs.Heaps.{heap_state}
use Rattle.object_model.specs.Objects.{HasKind}
use Rattle.object_model.proofs.WordReads.{has-shown}
use Rattle.write_barrier.specs.Listed.{logged_below}
use Rattle.write_barrier.proofs.LoggedWords.{none-here, none-in-word, bits-read}
use Rattle.write_barrier.proofs.list.add_block.Goals as goal
use Rattle.write_barrier.proofs.list.add_block.Goals.{in-Free, in_default, then-bits-ne0+in_ok-add_word, else-bits-ne0}

pub returns-then-matches : goal.returns-then-matches
returns-then-matches c =
    let s = heap_state c.args.heap.now in
    let shown : HasKind s c.args.block c.block.result.kind = has-shown s c.args.block c.block.result c.requires.block c.block.ensures.valid c.block.ensures.code in
    let none : HasKind s c.args.block kinds.Free ⊎ HasKind s c.args.block kinds.LargeTail = elim c.match-matches.branch as (λ _. HasKind s c.args.block kinds.Free ⊎ HasKind s c.args.block kinds.LargeTail) [
      | in-Free w ↦ (elim w.in-Free.is as (λ _. HasKind s c.args.block kinds.Free ⊎ HasKind s c.args.block kinds.LargeTail) [
        | inl free ↦ inl (subst (λ k. HasKind s c.args.block k) free shown)
        | inr tail ↦ inr (subst (λ k. HasKind s c.args.block k) tail shown)
      ])
      | in_default w ↦ absurd (true≢false (sym c.if-matches.true ∙ w.matches-is))
    ] in
    c.requires.before ∙ sym (none-here s c.args.heap.now.lawful c.args.block c.requires.block none)

pub add_word-requires-clause-bits : goal.add_word-requires-clause-bits
add_word-requires-clause-bits c =
    bits-read (heap_state c.args.heap.now) c.words-words.result.now c.start_base.result c.unlog_base.result c.args.block c.loop-word.word
    c.words-words.ensures (c.start_base.ensures ∙ ap (λ b. first b StartBits) c.layout.ensures)
    (c.unlog_base.ensures ∙ ap (λ b. first b UnlogBits) c.layout-2.ensures) c.requires.block (omega (arith, c.loop-word-test.true))
    c.get-held.result c.get.result c.get-held.ensures c.get.ensures (omega arith)

pub loop-word-preserved : goal.loop-word-preserved
loop-word-preserved c =
    let s = heap_state c.args.heap.now in
    let i : ℕ = 64 * c.args.block + c.loop-word.word in
    let end : heap_of s.blocks + 64 * i + 64 ≡ heap_of s.blocks + 64 * (64 * c.args.block + (c.loop-word.word + 1)) = omega arith in
    let there : i < 64 * s.blocks = omega (arith, c.requires.block, c.loop-word-test.true) in
    elim c.if-bits-ne0.branch as (λ _. c.if-bits-ne0.logged.items ≡ logged_below s (heap_of s.blocks + 64 * (64 * c.args.block + (c.loop-word.word + 1)))) [
      | then-bits-ne0+in_ok-add_word w ↦ ap (λ v. v.items) w.logged-is ∙ w.in_ok-add_word.ensures ∙ ap (logged_below s) end
      | else-bits-ne0 w ↦ ap (λ v. v.items) w.logged-is
          ∙ none-in-word s i _ c.loop-word.logged.items there (bits-read s c.words-words.result.now c.start_base.result c.unlog_base.result c.args.block c.loop-word.word
          c.words-words.ensures (c.start_base.ensures ∙ ap (λ b. first b StartBits) c.layout.ensures)
          (c.unlog_base.ensures ∙ ap (λ b. first b UnlogBits) c.layout-2.ensures) c.requires.block (omega (arith, c.loop-word-test.true))
          c.get-held.result c.get.result c.get-held.ensures c.get.ensures (omega arith))
          w.if-bits-ne0.false c.loop-word.invariant ∙ ap (logged_below s) end
    ]
