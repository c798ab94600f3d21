-- What is known of blocks is right after a large object was placed in a run of them.
use Rattle.std.proofs.Common.{◌≡◌, ◌≢◌, sym, ◌∙◌, ap, subst, ℕ, ◌+◌, ◌-◌, ◌/◌, ◌%◌, ◌<◌, ◌≤◌, ◌⊎◌, inl, inr, arith}
use Rattle.std.specs.Prelude.{Some, slice_get, vec_capacity}
use Rattle.std.proofs.lemmas.Bool.{cases_eq, cases_lt}
use Rattle.heap_layout.specs.Zones.{block_at}
use Rattle.heap_layout.specs.Blocks.{kind_code, code_of}
use Rattle.heap_layout.specs.declared.block.Kind.{Kind}
use Rattle.heap_layout.specs.declared.block.Kind.TheVariants as kinds
use Rattle.object_model.specs.Objects.{HeapState, block_word, IsHeld, size_at, size_of, blocks_for}
use Rattle.object_model.specs.Lawful.{IsLawful}
use Rattle.object_model.proofs.OneKind.{kind-code}
use Rattle.sessions.specs.Fitting.{HasHole, counts_of}
use Rattle.sessions.specs.Sessions.{block_of_kind}
use Rattle.plan_api.specs.Counting.{session_counts}
use Rattle.block_regions.specs.declared.block_notes.BlockNotes.{BlockNotes}
use Rattle.block_regions.specs.declared.block_notes.BlockNote.{BlockNote}
use Rattle.block_regions.specs.declared.block_notes.BlockNote.TheVariants.{Unowned, Owned}
use Rattle.block_regions.specs.Notes.{FillsHoles, IsBlockNote, HasNotes, AreUnowned, AreNotes, PlacesRun}
use Rattle.block_regions.proofs.Lists.{get-below}
use Rattle.block_regions.proofs.PlacedNotes.{filled-code}
use Rattle.block_regions.proofs.Regions.{hole-kind}
use Rattle.block_regions.proofs.BlockFrames.{SameBlock}
use Rattle.block_regions.proofs.GrownLines.{hole-grown}
use Rattle.block_regions.proofs.RegionFrames.{turn-round}

head-code : (n : ℕ) → code_of (block_of_kind kinds.LargeHead n) % 256 ≡ 6
head-code n = omega arith

module _ (fill : Kind) (fills : FillsHoles fill) (s t : HeapState) (lawful : IsLawful t) (a refs nums block : ℕ) (placed : PlacesRun s t a refs nums block) where
  abbrev n : ℕ
  n = blocks_for (size_of refs nums)

  some : 1 ≤ n
  some = omega arith

  -- no block of the run has a hole
  none-in : (k at size : ℕ) → block ≤ k → k < block + n → HasHole fill t k at size → ⊥
  none-in k at size from below hole =
      let code : block_word t k % 256 ≡ kind_code fill = kind-code t k fill (hole-kind fill t k at size hole) in
      let few : kind_code fill ≤ 5 = (filled-code fill fills).1 in
      elim (cases_eq k block) as (λ _. ⊥) [
        | inl first ↦ (let six : block_word t k % 256 ≡ 6 = ap (λ (q : ℕ). block_word t q % 256) first ∙ ap (λ (v : ℕ). v % 256) placed.uses.head ∙ head-code n in omega arith)
        | inr other ↦ (let away : k ≢ block = other in
            let place : k ≡ block + (k - block) = omega arith in
            let seven : block_word t k % 256 ≡ 7 = ap (λ (q : ℕ). block_word t q % 256) place ∙ ap (λ (v : ℕ). v % 256) (placed.uses.tails (k - block) (omega arith) (omega arith)) in omega arith)
      ]

  size-same : (x : ℕ) → IsHeld s x → size_at t x ≡ size_at s x
  size-same x holds = ap (λ v. size_of (v % 65536) (v / 65536)) (placed.object.words x 1 holds (omega arith))

  -- all others stay as they are
  same-block : (k : ℕ) → k < s.blocks → (k < block) ⊎ (block + n ≤ k) → SameBlock s t k
  same-block k there away = record {
    there = there;
    blocks = placed.blocks;
    word = ap (λ v. v % 65536) (placed.uses.others k there away);
    held = λ x holds inside. ((placed.object.others x (apart x inside)).0 holds, size-same x holds);
    back = λ x holds inside. (placed.object.others x (apart x inside)).1 holds;
  }
    where
      elsewhere : k ≢ block
      elsewhere = λ same. let one : 1 ≤ n = some in elim away as (λ _. ⊥) [ inl before ↦ omega arith | inr past ↦ omega arith ]

      apart : (x : ℕ) → block_at s.blocks x ≡ k → x ≢ a
      apart x inside own = elsewhere (sym inside ∙ ap (block_at s.blocks) own ∙ placed.here)

  note-after : (k : ℕ) → k < s.blocks → (least : ℕ) → IsBlockNote fill s k (Unowned least) → IsBlockNote fill t k (Unowned least)
  note-after k there least is = record {
    owner = (lawful.but_lines.blocks k (subst (λ (b : ℕ). k < b) (sym placed.blocks) there)).owner;
    none = λ at size most hole. elim (cases_lt k block) as (λ _. ⊥) [
      | inl before ↦ stays (inl before) at size most hole
      | inr from ↦ elim (cases_lt k (block + n)) as (λ _. ⊥) [
        | inl inside ↦ none-in k at size from inside hole
        | inr past ↦ stays (inr past) at size most hole
      ]
    ];
  }
    where
      stays : (k < block) ⊎ (block + n ≤ k) → (at size : ℕ) → least ≤ size → HasHole fill t k at size → ⊥
      stays away at size most hole =
          let was = hole-grown fill fills s t k at size (turn-round s t k (same-block k there away)) (λ line few. placed.lines k line there few) hole in
          is.none was.0 size most was.1

  pub after-run : (notes later : BlockNotes) → AreNotes fill s notes → session_counts later.counts ≡ counts_of t → later.notes ≡ notes.notes → later.owned ≡ notes.owned → AreNotes fill t later
  after-run notes later are counts same owned = record {
    counts = counts;
    notes = subst (λ v. HasNotes fill t v.items) (sym same) (record { len = are.notes.len ∙ sym placed.blocks; each = each });
    unowned = subst (λ v. AreUnowned v.items) (sym same) are.unowned;
    owned = ap (λ v. v.items) owned ∙ are.owned;
    room = subst (λ v. t.blocks ≤ vec_capacity v) (sym owned) (subst (λ (b : ℕ). b ≤ vec_capacity notes.owned) (sym placed.blocks) are.room);
  }
    where
      of-note : (k : ℕ) (note : BlockNote) → slice_get notes.notes.items k ≡ Some note → k < s.blocks → IsBlockNote fill s k note → IsBlockNote fill t k note
      of-note k (Owned owner region) is there right = absurd (are.unowned k owner region is)
      of-note k (Unowned least) is there right = note-after k there least right

      each : (k : ℕ) (note : BlockNote) → slice_get notes.notes.items k ≡ Some note → IsBlockNote fill t k note
      each k note is = of-note k note is (subst (λ (b : ℕ). k < b) are.notes.len (get-below notes.notes.items k note is)) (are.notes.each k note is)
