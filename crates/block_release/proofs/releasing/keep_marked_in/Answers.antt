use Rattle.std.proofs.Common.{◌≡◌, ◌+◌, ℕ, sym, subst, ◌∙◌, ap, List, bit_and, slice_index}
use Rattle.heap_layout.specs.Zones.{first, StartBits, PinBits}
use Rattle.object_model.specs.Objects.{HeapState, state_over}
use Rattle.block_sweeps.specs.Stores.{Stores}
use Rattle.block_sweeps.specs.WordSweeps.{start_word, unlog_word}
use Rattle.block_release.proofs.MarkedBlocks.{word-stays, word-falls}
use Rattle.block_release.proofs.releasing.keep_marked_in.Goals as goal

pub returns-then-living-starts : goal.returns-then-living-starts
returns-then-living-starts g c = λ base shows.
    let words : List ℕ = g.W.Words.words c.args.words.now in
    let s : HeapState = state_over words c.args.layout.now 0 0 in
    let i : ℕ = c.args.index in
    let living : ℕ = c.get-living.result in
    let marks : living ≡ unlog_word s i = c.get-living.ensures ∙ ap (λ (p : ℕ). slice_index words (p + i)) c.unlog_base.ensures in
    let ws : List ℕ = g.W.Words.words c.store.new.words in
    let ws' : List ℕ = g.W.Words.words c.store-then-living-starts.new.words in
    let start : Stores words ws (first s.blocks StartBits + i) (unlog_word s i) =
    subst (λ (v : ℕ). Stores words ws (first s.blocks StartBits + i) v) marks (subst (λ (p : ℕ). Stores words ws (p + i) living) c.start_base-then-living-starts.ensures c.store.ensures) in
    let pins : c.get-pins.result ≡ slice_index ws (first s.blocks PinBits + i) = c.get-pins.ensures ∙ ap (λ (p : ℕ). slice_index ws (p + i)) c.pin_base.ensures in
    let pin : Stores ws ws' (first s.blocks PinBits + i) (bit_and (slice_index ws (first s.blocks PinBits + i)) (unlog_word s i)) =
    subst (λ (v : ℕ). Stores ws ws' (first s.blocks PinBits + i) (bit_and (slice_index ws (first s.blocks PinBits + i)) v)) marks
    (subst (λ (v : ℕ). Stores ws ws' (first s.blocks PinBits + i) (bit_and v living)) pins
    (subst (λ (p : ℕ). Stores ws ws' (p + i) (bit_and c.get-pins.result living)) c.pin_base-then-living-starts.ensures c.store-then-living-starts.ensures)) in
    word-falls base i s c.requires shows ws ws' start pin

pub returns-else-living-starts : goal.returns-else-living-starts
returns-else-living-starts g c = λ base shows.
    let words : List ℕ = g.W.Words.words c.args.words.now in
    let s : HeapState = state_over words c.args.layout.now 0 0 in
    let i : ℕ = c.args.index in
    let marks : c.get-living.result ≡ unlog_word s i = c.get-living.ensures ∙ ap (λ (p : ℕ). slice_index words (p + i)) c.unlog_base.ensures in
    let read : c.get-starts.result ≡ start_word s i = c.get-starts.ensures ∙ ap (λ (p : ℕ). slice_index words (p + i)) c.start_base.ensures in
    word-stays base i s c.requires shows (sym marks ∙ c.if-living-starts.false ∙ read)
