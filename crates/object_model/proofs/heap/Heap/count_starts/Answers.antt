use Rattle.std.proofs.Common.{◌≡◌, ◌+◌, ◌*◌, ◌^◌, ◌≤◌, w64, get_or, slice_index, sym, ap, subst, ◌∙◌, arith}
use Rattle.std.specs.Int.{trailing_zeros}
use Rattle.std.proofs.lemmas.Nat.Bits.{bit_at-trailing_zeros}
use Rattle.object_model.specs.Heaps.{heap_state}
use Rattle.object_model.specs.Objects.{IsHeld, size_at}
use Rattle.object_model.specs.BitWords.{address_of}
use Rattle.heap_layout.specs.Zones.{heap_of, first, StartBits}
use Rattle.object_model.proofs.HeldWords.{start_word, cleared-less, CountsBut, none-counted, held-next, next-counted, few-counted, few-words}
use Rattle.object_model.proofs.heap.Heap.count_starts.Goals as goal

pub loop-rest-init : goal.loop-rest-init
loop-rest-init c =
    let s = heap_state c.args.self.now in
    let e : c.get-rest.result ≡ start_word s c.args.index =
    (let at : c.start_base.result + c.args.index ≡ first s.blocks StartBits + c.args.index = ap (λ n. n + c.args.index) (c.start_base.ensures ∙ ap (λ b. first b StartBits) c.layout-2.ensures) in
    c.get-rest.ensures ∙ ap (λ l. get_or l (c.start_base.result + c.args.index) 0) c.words.ensures ∙ ap (slice_index s.words) at) in
    subst (λ r. CountsBut s c.args.index r 0 0) (sym e) (none-counted s c.args.index c.requires)

pub overflow_add-objects : goal.overflow_add-objects
overflow_add-objects c =
    let few = few-counted (heap_state c.args.self.now) c.args.index c.loop-rest.rest c.loop-rest.objects c.loop-rest.words c.loop-rest.invariant in
    omega (arith, few)

pub shape_at-requires : goal.shape_at-requires
shape_at-requires c =
    let s = heap_state c.args.self.now in
    let found = bit_at-trailing_zeros w64 c.loop-rest.rest (omega (arith, c.loop-rest-test.true)) c.loop-rest.auto.rest-fits.fits in
    let base : c.heap_base.result ≡ heap_of s.blocks = c.heap_base.ensures ∙ ap heap_of c.layout.ensures in
    subst (λ n. IsHeld s (n + 64 * c.args.index + trailing_zeros w64 c.loop-rest.rest)) (sym base)
    (held-next s c.args.index c.loop-rest.rest c.loop-rest.objects c.loop-rest.words c.requires c.loop-rest.invariant (trailing_zeros w64 c.loop-rest.rest) found.0 found.1)

pub overflow_add-words : goal.overflow_add-words
overflow_add-words c =
    let few = few-words (heap_state c.args.self.now) c.args.index c.loop-rest.rest c.loop-rest.objects c.loop-rest.words c.loop-rest.invariant in
    omega (arith, few, c.size_words-words.ensures, c.shape_at.ensures.refs_most, c.shape_at.ensures.nums_most)

pub loop-rest-smaller : goal.loop-rest-smaller
loop-rest-smaller c =
    let found = bit_at-trailing_zeros w64 c.loop-rest.rest (omega (arith, c.loop-rest-test.true)) c.loop-rest.auto.rest-fits.fits in
    cleared-less c.loop-rest.rest (trailing_zeros w64 c.loop-rest.rest) found.0 found.1

pub loop-rest-preserved : goal.loop-rest-preserved
loop-rest-preserved c =
    let s = heap_state c.args.self.now in
    let b = trailing_zeros w64 c.loop-rest.rest in
    let found = bit_at-trailing_zeros w64 c.loop-rest.rest (omega (arith, c.loop-rest-test.true)) c.loop-rest.auto.rest-fits.fits in
    let base : c.heap_base.result ≡ heap_of s.blocks = c.heap_base.ensures ∙ ap heap_of c.layout.ensures in
    let read : c.size_words-words.result ≡ size_at s (c.heap_base.result + 64 * c.args.index + b) = omega (arith, c.size_words-words.ensures, c.shape_at.ensures.refs, c.shape_at.ensures.nums) in
    let size : c.size_words-words.result ≡ size_at s (address_of s c.args.index b) = read ∙ ap (λ n. size_at s (n + 64 * c.args.index + b)) base in
    let small : c.size_words-words.result ≤ 2 ^ 20 = omega (arith, c.size_words-words.ensures, c.shape_at.ensures.refs_most, c.shape_at.ensures.nums_most) in
    next-counted s c.args.index c.loop-rest.rest c.loop-rest.objects c.loop-rest.words c.requires c.loop-rest.invariant b found.0 found.1 c.size_words-words.result size small
