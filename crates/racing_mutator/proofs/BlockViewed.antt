-- The view of a block that a mutator looked at, while the block has no owner.
use Rattle.std.proofs.Common.{◌≡◌, sym, ◌∙◌, ap, subst, ℕ, ◌+◌, ◌*◌, ◌-◌, ◌<◌, inl, inr, arith, List, slice_index}
use Rattle.heap_layout.specs.Zones.{StartBits, HeapWords, InZone, IsAddress, first, block_at, block_start}
use Rattle.ideal_heap.specs.Ideal.{IdealHeap}
use Rattle.line_marks.specs.Bits.{bit_in, IsLastBit}
use Rattle.object_model.specs.BitWords.{bit_word}
use Rattle.object_model.specs.Objects.{HeapState, word_at, owner_at, is_start, IsHeld, size_at, size_of}
use Rattle.plan_api.specs.declared.block_view.BlockView.{BlockView}
use Rattle.plan_api.specs.Views.{IsViewOf, IsObjectsEnd}
use Rattle.plan_api.proofs.BlockViews as viewing
use Rattle.line_marks.proofs.HoleRuns.{lines-read}
use Rattle.mutator_core.specs.declared.state.Loaded.{Loaded}
use Rattle.mutator_core.specs.declared.state.LogEntry.{LogEntry}
use Rattle.mutator_core.specs.Machine.{Epoch, refs_in, nums_in}
use Rattle.mutator_core.specs.Epochs.{IsInEpoch}
use Rattle.mutator_core.specs.Logs.{IsEpochLog, machine_after, heap_after, local_after_log}
use Rattle.mutator_core.specs.Seen.{AreLoaded}
use Rattle.mutator_core.proofs.EpochEnds.{log-loaded}
use Rattle.mutator_core.proofs.LoadedWords.{unowned-word}
use Rattle.mutator_core.proofs.Regions.{unowned-starts}
use Rattle.mutator_rule.proofs.Moments as moments
use Rattle.racing_mutator.specs.Looks.{HasLooked, HasLoaded}

module _ (p : Epoch) (i : IdealHeap) (log : List LogEntry) (is : IsEpochLog p i log) (m k : ℕ) (v : BlockView) (there : k < p.before.blocks) (looked : HasLooked p (local_after_log p log m) k v) (nobody : owner_at (heap_after p log) k ≡ 0) where
  abbrev s : HeapState
  s = heap_after p log

  loaded : AreLoaded p s (machine_after p log).locals
  loaded = log-loaded p i log is

  now : IsInEpoch p s (machine_after p log).locals
  now = moments.epoch p i log is

  start-word : (n : ℕ) → n < 64 → slice_index v.starts n ≡ slice_index p.before.words (first p.before.blocks StartBits + 64 * k + n)
  start-word n few =
      let a : ℕ = block_start p.before.blocks k + 64 * n in
      let x : Loaded = record { at = first p.before.blocks StartBits + 64 * k + n; word = slice_index v.starts n } in
      let address : IsAddress p.before.blocks a = record { from = omega arith; below = omega arith } in
      let at : x.at ≡ bit_word p.before.blocks StartBits a = (let b : ℕ = p.before.blocks in omega arith) in
      let here : block_at p.before.blocks a ≡ k = (let b : ℕ = p.before.blocks in omega arith) in
      unowned-word p s x a (loaded.words m x (looked.starts n few)) address at
      (λ j. unowned-starts p is.ready (machine_after p log) now a j address (subst (λ (q : ℕ). owner_at s q ≡ 0) (sym here) nobody) (moments.order p i log is).row.words)

  bits : (w : ℕ) → w < 4096 → bit_in v.starts w ≡ is_start p.before (block_start p.before.blocks k + w)
  bits w below = viewing.starts-read p.before v.starts k w there start-word below

  -- the size of the last object, as its shape word was loaded
  last-size : (n word : ℕ) → IsLastBit v.starts n → HasLoaded (local_after_log p log m) (block_start p.before.blocks k + n + 1) word → size_of (refs_in word) (nums_in word) ≡ size_at p.before (block_start p.before.blocks k + n)
  last-size n word last has =
      let o : ℕ = block_start p.before.blocks k + n in
      let below : n < 4096 = (let inside = last.inside in let many = looked.len in omega arith) in
      let before : IsHeld p.before o = viewing.held-of-bit p.before k v.starts there looked.len bits n below last.set in
      let stays = now.stays o before in
      let ends = moments.held-ends p i log is o stays.0 in
      let extent = moments.extent p i log is in
      let x : Loaded = record { at = o + 1; word = word } in
      let zone : InZone p.before.blocks HeapWords (o + 1) = (let b : ℕ = p.before.blocks in let from = stays.0.address.from in record { from = omega arith; below = omega arith }) in
      let header = (loaded.words m x has).header zone in
      let same : word ≡ word_at p.before (o + 1) = header.5 ∙ stays.1 1 (omega arith) in
      ap (λ w. size_of (refs_in w) (nums_in w)) same

  end-known : IsObjectsEnd p.before k v.end
  end-known = elim looked.end as (λ _. IsObjectsEnd p.before k v.end) [
    | inl none ↦ inl (viewing.none-held p.before k v.starts there looked.len bits none.0, none.1)
    | inr some ↦ inr (
      block_start p.before.blocks k + some.0,
      viewing.last-held p.before k v.starts there looked.len bits some.0 v.end some.2
          (ap (λ z. some.0 + z) (sym (last-size some.0 some.1 some.2 some.3)) ∙ sym some.4),
    )
  ]

  -- it is the view of the block as the epoch began
  pub viewed : IsViewOf p.before k v
  viewed = record {
    block = there;
    code = looked.code;
    valid = looked.valid;
    lines = λ line below. lines-read p.before v.lines k line looked.lines below;
    starts = bits;
    end = end-known;
  }
