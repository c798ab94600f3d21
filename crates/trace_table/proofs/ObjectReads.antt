-- What a tracer reads of an object that was held as the trace began.
use Rattle.std.proofs.Common.{◌≡◌, ◌≢◌, ℕ, ◌<◌, ◌≤◌, Bool, true, false, true≢false, ◌&&◌, not, nat_le, nat_eq, length, refl, sym, ap, ◌∙◌, Option, Some, None}
use Rattle.std.specs.Prelude.{slice_get, get_or}
use Rattle.std.specs.Int.{bit_at}
use Rattle.std.proofs.lemmas.Bool.{and_parts, le-leb, eq-eqb, ne_eqb}
use Rattle.std.proofs.lemmas.Option.{slice_get_within, slice_get-get_or}
use Rattle.heap_layout.specs.Zones.{block_at, PinBits}
use Rattle.heap_layout.specs.declared.block.Kind.TheVariants as kinds
use Rattle.heap_layout.proofs.MarkLemmas.{address_bit-at_address}
use Rattle.object_model.specs.BitWords.{bit_word, bit_place}
use Rattle.object_model.specs.Objects.{IsHeld, word_at, is_pinned}
use Rattle.object_model.proofs.ObjectReads as reads
use Rattle.trace_core.specs.Setups.{Setup, TraceMayBegin, blocks, size, may_be_moved}
use Rattle.trace_core.specs.Runs.{IsRunOf}
use Rattle.trace_core.specs.declared.run.TraceRun.{TraceRun}

module _ (p : Setup) (run : TraceRun) (is-run : IsRunOf p run) (x : ℕ) (held : IsHeld p.before x) where
  from-read : (b : ℕ) → b ≡ block_at (blocks p) x → slice_get run.from.items b ≡ Some (p.from (block_at (blocks p) x))
  from-read b is = let inside : block_at (blocks p) x < blocks p = (reads.place_of_address (blocks p) x held.address).0 in
      ap (slice_get run.from.items) is ∙ is-run.from (block_at (blocks p) x) inside

  pub from-within : (b : ℕ) → b ≡ block_at (blocks p) x → b < length run.from.items
  from-within b is = slice_get_within run.from.items b (p.from (block_at (blocks p) x)) (from-read b is)

  leaves-read : (b : ℕ) (leaves : Bool) → b ≡ block_at (blocks p) x → leaves ≡ get_or run.from.items b leaves → p.from (block_at (blocks p) x) ≡ leaves
  leaves-read b leaves is read = some-bool (sym (from-read b is) ∙ slice_get-get_or run.from.items b leaves (from-within b is)) ∙ sym read
    where
      value : Option Bool → Bool
      value None = false
      value (Some c) = c

      some-bool : {c d : Bool} → Some c ≡ Some d → c ≡ d
      some-bool e = ap value e

  pub stays-from : (b : ℕ) (leaves : Bool) → b ≡ block_at (blocks p) x → leaves ≡ get_or run.from.items b leaves → leaves ≡ false → may_be_moved p x ≡ false
  stays-from b leaves is read not-from = ap (λ z. z && not (is_pinned p.before x) && nat_le (size p x) 2048) (leaves-read b leaves is read ∙ not-from)

  pub moves-loose : (b : ℕ) (leaves pinned : Bool) → b ≡ block_at (blocks p) x → leaves ≡ get_or run.from.items b leaves → leaves ≡ true → size p x ≤ 2048 → is_pinned p.before x ≡ pinned → not pinned ≡ may_be_moved p x
  moves-loose b leaves pinned is read from small loose = sym (ap (λ z. z && not (is_pinned p.before x) && nat_le (size p x) 2048) (leaves-read b leaves is read ∙ from)
      ∙ ap (λ z. true && not (is_pinned p.before x) && z) (le-is-true (size p x) 2048 small) ∙ and-true (true && not (is_pinned p.before x)) ∙ ap not loose)
    where
      and-true : (c : Bool) → c && true ≡ c
      and-true true = refl
      and-true false = refl

      le-is-true : (n m : ℕ) → n ≤ m → nat_le n m ≡ true
      le-is-true n m l = le-leb n m l

-- where an object may move, objects are copied
pub copies-some : (p : Setup) → TraceMayBegin p → (x : ℕ) → may_be_moved p x ≡ true → p.copy ≢ kinds.Free
copies-some p ready x moves none = let right = and_parts (p.from (block_at (blocks p) x) && not (is_pinned p.before x)) (nat_le (size p x) 2048) moves in
    let from = and_parts (p.from (block_at (blocks p) x)) (not (is_pinned p.before x)) right.0 in true≢false (sym from.0 ∙ ready.fixed none (block_at (blocks p) x))

-- the bit that is read in the word of pins of an object
pub pin-is : (p : Setup) (x w : ℕ) → IsHeld p.before x → w ≡ word_at p.before (bit_word (blocks p) PinBits x) → is_pinned p.before x ≡ nat_eq (bit_at w (bit_place (blocks p) x)) 1
pin-is p x w held is = address_bit-at_address (blocks p) PinBits p.before.words x held.address ∙ ap (λ n. nat_eq (bit_at n (bit_place (blocks p) x)) 1) (sym is)

-- a test of the bit
pub set-is : (b : Bool) (n : ℕ) → (b ≡ true → n ≡ 1) → (b ≡ false → n ≢ 1) → nat_eq n 1 ≡ b
set-is true n set clear = eq-eqb n 1 (set refl)
set-is false n set clear = ne_eqb n 1 (clear refl)
