use Rattle.std.proofs.Common.{◌≡◌, ℕ, ◌+◌, ◌*◌, ◌<◌, ◌∙◌, ap, sym, subst, subst₂, arith, w64, length, List, [], ◌∷◌, ◌++◌}
use Rattle.std.specs.Int.{trailing_zeros}
use Rattle.std.proofs.lemmas.Nat.Bits.{bit_at-trailing_zeros}
use Rattle.heap_layout.specs.Zones.{heap_of}
use Rattle.object_model.specs.Heaps.{heap_state}
use Rattle.object_model.specs.Objects.{IsHeld}
use Rattle.object_model.proofs.ObjectReads.{in_words}
use Rattle.write_barrier.specs.Listed.{address_of}
use Rattle.write_barrier.proofs.LoggedWords.{WordLeft, word-begins, word-ends, next-held, next-old, next-young, old-read}
use Rattle.object_model.proofs.WordReads.{without-less}
use Rattle.write_barrier.proofs.list.add_word.Goals as goal
use Rattle.write_barrier.proofs.list.add_word.Goals.{then-is_old+in_ok-push, else-is_old}

pub loop-rest-init : goal.loop-rest-init
loop-rest-init c = word-begins (heap_state c.args.heap.now) c.args.index c.args.bits c.args.logged.now.items (omega arith) c.requires.bits c.requires.before

pub is_old-requires-clause-word : goal.is_old-requires-clause-word
is_old-requires-clause-word c =
    let s = heap_state c.args.heap.now in
    let i : ℕ = c.args.index in
    let b = trailing_zeros w64 c.loop-rest.rest in
    let found = bit_at-trailing_zeros w64 c.loop-rest.rest (omega (arith, c.loop-rest-test.true)) c.loop-rest.invariant.fits in
    let held : IsHeld s (address_of s i b) = next-held s i c.loop-rest.rest c.loop-rest.logged.items c.requires.index c.loop-rest.invariant b found.0 found.1 found.2 in
    let there : address_of s i b + 2 < length s.words = in_words s c.args.heap.now.lawful.but_lines.order (address_of s i b) 2 held (omega arith) in
    let base : c.heap_base.result ≡ heap_of s.blocks = c.heap_base.ensures ∙ ap heap_of c.layout.ensures in
    subst₂ (λ (n : ℕ) (w : List ℕ). n + 64 * i + b + 2 < length w) (sym base) (sym c.words.ensures) there

pub without-rest-requires : goal.without-rest-requires
without-rest-requires c = (bit_at-trailing_zeros w64 c.loop-rest.rest (omega (arith, c.loop-rest-test.true)) c.loop-rest.invariant.fits).0

pub loop-rest-smaller : goal.loop-rest-smaller
loop-rest-smaller c =
    let found = bit_at-trailing_zeros w64 c.loop-rest.rest (omega (arith, c.loop-rest-test.true)) c.loop-rest.invariant.fits in
    subst (λ (n : ℕ). n < c.loop-rest.rest) (sym c.without-rest.ensures) (without-less c.loop-rest.rest (trailing_zeros w64 c.loop-rest.rest) found.0 found.1)

pub loop-rest-preserved : goal.loop-rest-preserved
loop-rest-preserved c =
    let s = heap_state c.args.heap.now in
    let i : ℕ = c.args.index in
    let rest : ℕ = c.loop-rest.rest in
    let old : List ℕ = c.loop-rest.logged.items in
    let b = trailing_zeros w64 rest in
    let found = bit_at-trailing_zeros w64 rest (omega (arith, c.loop-rest-test.true)) c.loop-rest.invariant.fits in
    let base : c.heap_base.result ≡ heap_of s.blocks = c.heap_base.ensures ∙ ap heap_of c.layout.ensures in
    let at : c.heap_base.result + 64 * i + b ≡ address_of s i b = ap (λ n. n + 64 * i + b) base in
    let read = c.is_old.ensures c.layout.result.now 0 ∙ old-read s c.words.result.now c.base-base.result (c.heap_base.result + 64 * i + b) (address_of s i b) c.words.ensures c.base-base.ensures at in
    elim c.if-is_old.branch as (λ _. WordLeft s i c.without-rest.result c.if-is_old.logged.items) [
      | then-is_old+in_ok-push w ↦
          subst₂ (WordLeft s i) (sym c.without-rest.ensures) (sym (ap (λ v. v.items) w.logged-is ∙ w.in_ok-push.ensures.items ∙ ap (λ n. old ++ n ∷ []) at))
          (next-old s i rest old c.requires.index c.loop-rest.invariant b found.0 found.1 found.2 (sym read ∙ w.if-is_old.true))
      | else-is_old w ↦
          subst₂ (WordLeft s i) (sym c.without-rest.ensures) (sym (ap (λ v. v.items) w.logged-is))
          (next-young s i rest old c.requires.index c.loop-rest.invariant b found.0 found.1 found.2 (sym read ∙ w.if-is_old.false))
    ]

pub returns : goal.returns
returns c = word-ends (heap_state c.args.heap.now) c.args.index c.loop-rest.rest c.loop-rest.logged.items c.requires.index c.loop-rest.invariant c.loop-rest-test.false
