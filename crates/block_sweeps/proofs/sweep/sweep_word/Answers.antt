use Rattle.std.proofs.Common.{◌^◌, ◌≡◌, ◌+◌, ◌<◌, ℕ, sym, subst, ◌∙◌, ap, List, bit_and, slice_index, ◌&&◌}
use Rattle.side_meta.specs.BitWords.{has_bit}
use Rattle.std.specs.Prelude.{count_ones}
use Rattle.heap_layout.specs.Zones.{first, StartBits, PinBits, UnlogBits}
use Rattle.object_model.specs.Objects.{HeapState, state_over, with_words}
use Rattle.object_model.specs.Ages.{is_survivor}
use Rattle.block_sweeps.specs.Stores.{Stores}
use Rattle.block_sweeps.specs.WordSweeps.{SweepsWords, start_word, address_of}
use Rattle.block_sweeps.proofs.SweptWords.{all-live, some-die, start-after, read-bits}
use Rattle.block_sweeps.proofs.sweep.sweep_word.Goals as goal
use Rattle.block_sweeps.proofs.sweep.sweep_word.Goals.{then-living-starts, else-living-starts}

-- the words after the call, whether or not any changed
abbrev After : ℕ → ℕ → ℕ → HeapState → List ℕ → Type 0
After base i living s ws = SweepsWords base i 1 s (with_words s ws) × (start_word (with_words s ws) i ≡ living)

pub returns : goal.returns
returns g c =
    let words : List ℕ = g.W.Words.words c.args.words.now in
    let s : HeapState = state_over words c.args.layout.now 0 0 in
    let i : ℕ = c.args.index in
    let base : ℕ = c.args.base in
    let living : ℕ = c.living_bits-living.result in
    let read : c.get-starts.result ≡ start_word s i = c.get-starts.ensures ∙ ap (λ (p : ℕ). slice_index words (p + i)) c.start_base.ensures in
    let bits : (j : ℕ) → j < 64 → has_bit living j ≡ (has_bit (start_word s i) j && is_survivor s base (address_of s i j)) =
    read-bits s base i c.get-starts.result c.heap_base.result living read c.heap_base.ensures c.living_bits-living.ensures in
    let after : After base i living s (g.W.Words.words c.if-living-starts.words) = elim c.if-living-starts.branch as (λ _. After base i living s (g.W.Words.words c.if-living-starts.words)) [
      | then-living-starts w ↦
          let ws : List ℕ = g.W.Words.words w.store.new.words in
          let ws' : List ℕ = g.W.Words.words w.mask.new.words in
          let ws'' : List ℕ = g.W.Words.words w.mask-then-living-starts.new.words in
          let start : Stores words ws (first s.blocks StartBits + i) living =
          subst (λ (p : ℕ). Stores words ws (p + i) living) w.start_base-then-living-starts.ensures w.store.ensures in
          let pin : Stores ws ws' (first s.blocks PinBits + i) (bit_and (slice_index ws (first s.blocks PinBits + i)) living) =
          subst (λ (p : ℕ). Stores ws ws' (p + i) (bit_and (slice_index ws (p + i)) living)) w.pin_base.ensures w.mask.ensures in
          let unlog : Stores ws' ws'' (first s.blocks UnlogBits + i) (bit_and (slice_index ws' (first s.blocks UnlogBits + i)) living) =
          subst (λ (p : ℕ). Stores ws' ws'' (p + i) (bit_and (slice_index ws' (p + i)) living)) w.unlog_base.ensures w.mask-then-living-starts.ensures in
          subst (λ x. After base i living s (g.W.Words.words x)) (sym w.words-is)
          (some-die base i living s c.requires ws ws' ws'' bits start pin unlog, start-after base i living s c.requires ws ws' ws'' bits start pin unlog)
      | else-living-starts w ↦
          let same : living ≡ start_word s i = w.if-living-starts.false ∙ read in
          subst (λ x. After base i living s (g.W.Words.words x)) (sym w.words-is)
          (all-live base i s c.requires (λ j small. ap (λ v. has_bit v j) (sym same) ∙ bits j small), sym same)
    ] in
    record { swept = after.0; count = ap count_ones (sym after.1); fits = subst (λ (n : ℕ). n < 2 ^ 64) (sym after.1) c.living_bits-living.type_inv }
