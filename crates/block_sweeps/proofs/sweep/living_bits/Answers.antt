use Rattle.std.proofs.Common.{◌≡◌, ◌+◌, ◌<◌, ◌^◌, ℕ, IsTrue, Bool, arith, w64, sym, ◌∙◌, length, eq-eqb}
use Rattle.side_meta.specs.BitWords.{has_bit}
use Rattle.std.specs.Int.{bit_at, trailing_zeros}
use Rattle.std.proofs.lemmas.Nat.Bits.{bit_at-trailing_zeros}
use Rattle.block_sweeps.specs.WordSweeps.{survives}
use Rattle.block_sweeps.proofs.LivingBits.{rest-within, with-living, without-dead}
use Rattle.block_sweeps.proofs.TouchedWords.{cleared-less}
use Rattle.block_sweeps.proofs.sweep.living_bits.Goals as goal

-- the object of the lowest bit that is left has its collector word in the row
module _ (starts rest first row : ℕ) (some : rest ≡ 0 → ⊥) (fits : rest < 2 ^ 64)
    (words : (j : ℕ) → j < 64 → IsTrue (has_bit starts j) → first + j + 2 < row)
    (within : (j : ℕ) → j < 64 → IsTrue (has_bit rest j) → IsTrue (has_bit starts j)) where
  inside : first + trailing_zeros w64 rest + 2 < row
  inside =
      let found = bit_at-trailing_zeros w64 rest (omega arith) fits in
      words (trailing_zeros w64 rest) found.0 (within (trailing_zeros w64 rest) found.0 (eq-eqb (bit_at rest (trailing_zeros w64 rest)) 1 found.1))

pub overflow_add-first : goal.overflow_add-first
overflow_add-first g c = (let below = inside c.args.starts c.loop-rest.rest c.args.first (length (g.W.Words.words c.args.words.now)) c.loop-rest-test.true c.loop-rest.auto.rest-fits.fits c.requires.words c.loop-rest.invariant.within in
    let small = c.requires.index in omega arith)

pub lives-requires-clause-index : goal.lives-requires-clause-index
lives-requires-clause-index g c = (let below = inside c.args.starts c.loop-rest.rest c.args.first (length (g.W.Words.words c.args.words.now)) c.loop-rest-test.true c.loop-rest.auto.rest-fits.fits c.requires.words c.loop-rest.invariant.within in
    let small = c.requires.index in omega arith)

pub lives-requires-clause-word : goal.lives-requires-clause-word
lives-requires-clause-word g c = inside c.args.starts c.loop-rest.rest c.args.first (length (g.W.Words.words c.args.words.now)) c.loop-rest-test.true c.loop-rest.auto.rest-fits.fits c.requires.words c.loop-rest.invariant.within

pub loop-rest-smaller-then-not-lives : goal.loop-rest-smaller-then-not-lives
loop-rest-smaller-then-not-lives g c =
    let found = bit_at-trailing_zeros w64 c.loop-rest.rest (omega arith) c.loop-rest.auto.rest-fits.fits in
    cleared-less c.loop-rest.rest (trailing_zeros w64 c.loop-rest.rest) found.0 found.1

pub loop-rest-preserved-then-not-lives : goal.loop-rest-preserved-then-not-lives
loop-rest-preserved-then-not-lives g c =
    let words = g.W.Words.words c.args.words.now in
    let found = bit_at-trailing_zeros w64 c.loop-rest.rest (omega arith) c.loop-rest.auto.rest-fits.fits in
    let alive : ℕ → Bool = λ j. survives words c.args.base (c.args.first + j) in
    let b = trailing_zeros w64 c.loop-rest.rest in
    record {
      within = rest-within alive c.args.starts c.loop-rest.living c.loop-rest.rest b found.0 c.loop-rest.invariant.within c.loop-rest.invariant.living;
      living = without-dead alive c.args.starts c.loop-rest.living c.loop-rest.rest b found.0 c.loop-rest.invariant.within c.loop-rest.invariant.living (sym c.lives.ensures ∙ c.if-not-lives.true);
    }

pub loop-rest-smaller : goal.loop-rest-smaller
loop-rest-smaller g c =
    let found = bit_at-trailing_zeros w64 c.loop-rest.rest (omega arith) c.loop-rest.auto.rest-fits.fits in
    cleared-less c.loop-rest.rest (trailing_zeros w64 c.loop-rest.rest) found.0 found.1

pub loop-rest-preserved : goal.loop-rest-preserved
loop-rest-preserved g c =
    let words = g.W.Words.words c.args.words.now in
    let found = bit_at-trailing_zeros w64 c.loop-rest.rest (omega arith) c.loop-rest.auto.rest-fits.fits in
    let alive : ℕ → Bool = λ j. survives words c.args.base (c.args.first + j) in
    let b = trailing_zeros w64 c.loop-rest.rest in
    record {
      within = rest-within alive c.args.starts c.loop-rest.living c.loop-rest.rest b found.0 c.loop-rest.invariant.within c.loop-rest.invariant.living;
      living = with-living alive c.args.starts c.loop-rest.living c.loop-rest.rest b found.0 c.loop-rest.invariant.within c.loop-rest.invariant.living (sym c.lives.ensures ∙ c.if-not-lives.false);
    }
