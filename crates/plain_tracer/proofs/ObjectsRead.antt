-- What a tracer reads of an object that was held as the trace began.
use Rattle.std.proofs.Common.{◌≡◌, ℕ, ◌+◌, ◌<◌, Bool, true, false, ◌&&◌, not, nat_le, List, length, get_or, refl, sym, ap, ◌∙◌, subst, arith, Option, Some, None}
use Rattle.std.specs.Prelude.{slice_get}
use Rattle.std.proofs.lemmas.Bool.{and_right}
use Rattle.std.proofs.lemmas.Option.{slice_get_within, slice_get-get_or}
use Rattle.heap_layout.specs.Zones.{row_words, block_at, IsAddress}
use Rattle.object_model.specs.Objects.{IsHeld, state_of, word_at, refs_at, nums_at, is_pinned}
use Rattle.object_model.specs.Lawful.{IsReadable}
use Rattle.object_model.proofs.Marks as marks
use Rattle.object_model.proofs.ObjectReads as reads
use Rattle.trace_core.specs.Setups.{Setup, blocks, size, refs, may_be_moved}
use Rattle.trace_core.specs.Machine.{Event}
use Rattle.trace_core.specs.Traces.{heap_after}
use Rattle.trace_core.specs.Views.{View, hits}
use Rattle.plain_tracer.specs.Tracers.{Tracks}
use Rattle.plain_tracer.specs.declared.plain_trace.PlainTrace.{PlainTrace}
use Rattle.trace_core.proofs.Clauses.{pins, held-of}
use Rattle.plain_tracer.proofs.TracedRows.{row-extent, blocks-are, words-are}
use Rattle.trace_core.proofs.HeaderWords.{refs-same, nums-same, readable-after}

-- an object whose target is known was held
pub known-held : (p : Setup) (es : List Event) (t : PlainTrace) (v : View) → Tracks p es t v → (x u : ℕ) → 0 < hits x u v.known → IsHeld p.before x
known-held p es t v tracks x u some = marks.held p.before x (held-of p es tracks.trace x u (tracks.holds.known x u some))

module _ (p : Setup) (es : List Event) (t : PlainTrace) (v : View) (tracks : Tracks p es t v) (x : ℕ) (held : IsHeld p.before x) where
  pub readable : IsReadable (state_of t.row) x
  readable = subst (λ s. IsReadable s x) (sym tracks.row) (readable-after p es tracks.trace x held)

  pub refs-read : refs_at (state_of t.row) x ≡ refs p x
  refs-read = ap (λ s. refs_at s x) tracks.row ∙ refs-same p es tracks.trace x held

  pub nums-read : nums_at (state_of t.row) x ≡ nums_at p.before x
  nums-read = ap (λ s. nums_at s x) tracks.row ∙ nums-same p es tracks.trace x held

  pub pin-read : is_pinned (state_of t.row) x ≡ is_pinned p.before x
  pin-read = ap (λ s. is_pinned s x) tracks.row ∙ pins p es tracks.trace x

  pub from-read : (b : ℕ) → b ≡ block_at t.row.layout.blocks x → slice_get t.run.from.items b ≡ Some (p.from (block_at (blocks p) x))
  from-read b is =
      let there : IsAddress (blocks p) x = held.address in
      let same : b ≡ block_at (blocks p) x = is ∙ ap (λ n. block_at n x) (blocks-are p es t v tracks) in
      let inside : block_at (blocks p) x < blocks p = (reads.place_of_address (blocks p) x there).0 in
      ap (slice_get t.run.from.items) same ∙ tracks.run.from (block_at (blocks p) x) inside

  pub from-within : (b : ℕ) → b ≡ block_at t.row.layout.blocks x → b < length t.run.from.items
  from-within b is = slice_get_within t.run.from.items b (p.from (block_at (blocks p) x)) (from-read b is)

  -- the word at an offset of the object is a word of the row
  pub word-within : (o : ℕ) → o < size p x → x + o < length t.row.words
  word-within o l =
      let below : x + o < row_words (blocks p) = reads.in_row p.before tracks.trace.ready.lawful.order x o held l in
      let extent : length t.row.words ≡ row_words t.row.layout.blocks = row-extent p es t v tracks in
      let same : t.row.layout.blocks ≡ blocks p = blocks-are p es t v tracks in omega arith

  leaves-read : (b : ℕ) (leaves : Bool) → b ≡ block_at t.row.layout.blocks x → leaves ≡ get_or t.run.from.items b leaves → p.from (block_at (blocks p) x) ≡ leaves
  leaves-read b leaves is read = some-bool (sym (from-read b is) ∙ slice_get-get_or t.run.from.items b leaves (from-within b is)) ∙ sym read
    where
      value : Option Bool → Bool
      value None = false
      value (Some c) = c

      some-bool : {c d : Bool} → Some c ≡ Some d → c ≡ d
      some-bool e = ap value e

  -- whether the object may move, by the tests of a tracer in their order
  pub may-move-from : (b : ℕ) (leaves : Bool) → b ≡ block_at t.row.layout.blocks x → leaves ≡ get_or t.run.from.items b leaves → leaves ≡ false → may_be_moved p x ≡ false
  may-move-from b leaves is read not-from = ap (λ z. z && not (is_pinned p.before x) && nat_le (size p x) 2048) (leaves-read b leaves is read ∙ not-from)

  pub may-move-pinned : is_pinned (state_of t.row) x ≡ true → may_be_moved p x ≡ false
  may-move-pinned pinned = ap (λ z. p.from (block_at (blocks p) x) && not z && nat_le (size p x) 2048) (sym pin-read ∙ pinned)
      ∙ ap (λ z. z && nat_le (size p x) 2048) (and_right (p.from (block_at (blocks p) x)) false refl)

  pub may-move-small : (b : ℕ) (leaves : Bool) → b ≡ block_at t.row.layout.blocks x → leaves ≡ get_or t.run.from.items b leaves → leaves ≡ true → is_pinned (state_of t.row) x ≡ false
      → may_be_moved p x ≡ nat_le (size p x) 2048
  may-move-small b leaves is read from loose = ap (λ z. z && not (is_pinned p.before x) && nat_le (size p x) 2048) (leaves-read b leaves is read ∙ from)
      ∙ ap (λ z. true && not z && nat_le (size p x) 2048) (sym pin-read ∙ loose)

-- the collector word that a tracer reads
pub collector-read : (p : Setup) (es : List Event) (t : PlainTrace) (v : View) → Tracks p es t v → (x : ℕ) → IsHeld p.before x → (w : ℕ)
    → w ≡ get_or t.row.words (x + 2) 0 → w ≡ word_at (heap_after p es) (x + 2)
collector-read p es t v tracks x there w is = is ∙ ap (λ ws. get_or ws (x + 2) 0) (words-are p es t v tracks)
