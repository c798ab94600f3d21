use Rattle.std.proofs.Common.{◌≡◌, ℕ, ◌+◌, ◌*◌, ◌<◌, ◌∙◌, ap, sym, subst, arith, w64, true≢false, refl}
use Rattle.std.specs.Int.{trailing_zeros}
use Rattle.std.proofs.lemmas.Nat.Bits.{bit_at-trailing_zeros}
use Rattle.heap_layout.specs.Zones.{row_words}
use Rattle.object_model.specs.Objects.{HeapState, state_over, is_start}
use Rattle.object_model.specs.Ages.{is_old}
use Rattle.write_barrier.specs.Listed.{address_of}
use Rattle.object_model.proofs.WordReads.{without-less}
use Rattle.std.proofs.lemmas.Bool.{and_parts}
use Rattle.plan_api.proofs.YoungBits.{YoungLeft, young-begins, young-none, young-found, young-next, next-lacks, header-inside}
use Rattle.plan_api.proofs.ages.begins_young_in.Goals as goal

pub loop-rest-init : goal.loop-rest-init
loop-rest-init g c = young-begins (state_over (g.W.Words.words c.args.words.now) c.args.layout.now 0 c.args.base) c.args.index c.starts_without_unlog_bit-rest.result
    c.starts_without_unlog_bit-rest.ensures.fits (c.starts_without_unlog_bit-rest.ensures.bits 0 c.args.base)

pub is_old-requires : goal.is_old-requires
is_old-requires g c =
    let l = c.args.layout.now in
    let s : HeapState = state_over (g.W.Words.words c.args.words.now) l 0 c.args.base in
    let i : ℕ = c.args.index in
    let b : ℕ = trailing_zeros w64 c.loop-rest.rest in
    let found = bit_at-trailing_zeros w64 c.loop-rest.rest (omega (arith, c.loop-rest-test.true)) c.loop-rest.invariant.fits in
    let start = (and_parts (is_start s (address_of s i b)) _ (next-lacks s i c.loop-rest.rest c.loop-rest.invariant b found.0 found.1)).0 in
    let inside : address_of s i b + 2 < row_words l.blocks = header-inside (g.W.Words.words c.args.words.now) l c.requires.readable (address_of s i b) start in
    let base = c.heap_base.ensures in
    let extent = c.requires.extent in
    let most = l.most in
    record { word = omega (arith, inside, base, extent); index = omega (arith, inside, base, most) }

pub without-rest-requires : goal.without-rest-requires
without-rest-requires g c = (bit_at-trailing_zeros w64 c.loop-rest.rest (omega (arith, c.loop-rest-test.true)) c.loop-rest.invariant.fits).0

pub loop-rest-smaller : goal.loop-rest-smaller
loop-rest-smaller g c =
    let found = bit_at-trailing_zeros w64 c.loop-rest.rest (omega (arith, c.loop-rest-test.true)) c.loop-rest.invariant.fits in
    subst (λ (n : ℕ). n < c.loop-rest.rest) (sym c.without-rest.ensures) (without-less c.loop-rest.rest (trailing_zeros w64 c.loop-rest.rest) found.0 found.1)

pub loop-rest-preserved : goal.loop-rest-preserved
loop-rest-preserved g c =
    let l = c.args.layout.now in
    let s : HeapState = state_over (g.W.Words.words c.args.words.now) l 0 c.args.base in
    let i : ℕ = c.args.index in
    let b : ℕ = trailing_zeros w64 c.loop-rest.rest in
    let found = bit_at-trailing_zeros w64 c.loop-rest.rest (omega (arith, c.loop-rest-test.true)) c.loop-rest.invariant.fits in
    let at : c.heap_base.result + 64 * i + b ≡ address_of s i b = ap (λ n. n + 64 * i + b) c.heap_base.ensures in
    subst (YoungLeft s i) (sym c.without-rest.ensures) (young-next s i c.loop-rest.rest c.loop-rest.invariant b found.0 found.1
    (ap (is_old s) (sym at) ∙ sym (c.is_old.ensures l 0) ∙ c.if-not-is_old.false))

pub returns-then-not-is_old : goal.returns-then-not-is_old
returns-then-not-is_old g c =
    let l = c.args.layout.now in
    let s : HeapState = state_over (g.W.Words.words c.args.words.now) l 0 c.args.base in
    let i : ℕ = c.args.index in
    let b : ℕ = trailing_zeros w64 c.loop-rest.rest in
    let found = bit_at-trailing_zeros w64 c.loop-rest.rest (omega (arith, c.loop-rest-test.true)) c.loop-rest.invariant.fits in
    let at : c.heap_base.result + 64 * i + b ≡ address_of s i b = ap (λ n. n + 64 * i + b) c.heap_base.ensures in
    let young = young-found s i c.loop-rest.rest c.loop-rest.invariant b found.0 found.1 (ap (is_old s) (sym at) ∙ sym (c.is_old.ensures l 0) ∙ c.if-not-is_old.true) in
    ((λ is. young), (λ young. refl))

pub returns : goal.returns
returns g c =
    let s : HeapState = state_over (g.W.Words.words c.args.words.now) c.args.layout.now 0 c.args.base in
    ((λ wrong. absurd (true≢false (sym wrong))), (λ young. absurd (young-none s c.args.index c.loop-rest.rest c.loop-rest.invariant c.loop-rest-test.false young)))
