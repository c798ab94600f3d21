-- What a mutator knows of the words of its own blocks.
use Rattle.std.proofs.Common.{◌≡◌, ◌≢◌, refl, sym, ◌∙◌, ap, subst, ℕ, ◌+◌, ◌*◌, ◌-◌, ◌/◌, ◌%◌, ◌<◌, ◌≤◌, ◌⊎◌, inl, inr, arith, true, false, IsTrue, List, slice_index, eq-eqb}
use Rattle.std.specs.Prelude.{Some}
use Rattle.std.specs.List.{Contains}
use Rattle.std.specs.Int.{bit_at}
use Rattle.std.proofs.lemmas.Bool.{cases_Bool, cases_lt, eqb-true, true≢false}
use Rattle.side_meta.specs.BitWords.{has_bit}
use Rattle.heap_layout.specs.Zones.{StartBits, LineWords, InZone, IsAddress, first, heap_of, block_at, offset_at, block_start}
use Rattle.heap_layout.specs.declared.block.Kind.{Kind}
use Rattle.heap_layout.specs.declared.block.Kind.TheVariants as kinds
use Rattle.heap_layout.specs.declared.region.Region.{Region}
use Rattle.heap_layout.proofs.MarkLemmas.{bit_from_mark, address_bit-at_address}
use Rattle.line_marks.specs.Bits.{bit_in}
use Rattle.line_marks.proofs.HoleRuns.{lines-read}
use Rattle.object_model.specs.BitWords.{bit_word, bit_place}
use Rattle.object_model.specs.Objects.{HeapState, word_at, owner_at, class_at, HasKind, is_start, IsHeld, size_at, size_of, cell_words, line_marked}
use Rattle.object_model.proofs.Marks as marks
use Rattle.sessions.specs.Fitting.{HasHole, IsTail, IsFreeCell, class_of}
use Rattle.sessions.proofs.Holes.{class-room}
use Rattle.block_regions.specs.Notes.{FillsTails}
use Rattle.mutator_core.specs.declared.state.Extent.{Extent}
use Rattle.mutator_core.specs.declared.state.Loaded.{Loaded}
use Rattle.mutator_core.specs.declared.state.Local.{Local}
use Rattle.mutator_core.specs.Machine.{Epoch}
use Rattle.mutator_core.specs.Guards.{HasSeenStart}
use Rattle.mutator_core.specs.Epochs.{IsInEpoch, IsOwned, IsMade}
use Rattle.mutator_core.specs.Logs.{machine_after, heap_after, local_after_log, IsListed}
use Rattle.mutator_core.specs.Seen.{IsLoaded}
use Rattle.mutator_core.proofs.EpochEnds.{log-loaded}
use Rattle.mutator_core.proofs.Fills.{owned-owner, owned-class, owned-kind}
use Rattle.mutator_core.proofs.Places.{place-owner}
use Rattle.mutator_core.proofs.Regions.{owner-lists}
use Rattle.mutator_rule.specs.declared.views.MutatorView.{MutatorView}
use Rattle.mutator_rule.specs.Logs.{KnowsLog}
use Rattle.mutator_rule.proofs.Moments as moments
use Rattle.racing_rooms.specs.Rooms.{holdings, HasObjectAt, HasEndAt, IsOwnRegion}
use Rattle.racing_rooms.proofs.Known.{knows}

module _ (p : Epoch) (v : MutatorView) (told : KnowsLog p v) where
  abbrev h : HeapState
  h = heap_after p v.seen

  now : IsInEpoch p h (machine_after p v.seen).locals
  now = moments.epoch p told.ideal v.seen told.epoch

  word-loaded : (x : Loaded) → Contains v.local.loaded x → IsLoaded p h x
  word-loaded x among = (log-loaded p told.ideal v.seen told.epoch).words v.local.number x (subst (λ (l : Local). Contains l.loaded x) told.now among)

  bit-zone : (a : ℕ) → IsAddress p.before.blocks a → InZone p.before.blocks StartBits (bit_word p.before.blocks StartBits a)
  bit-zone a address = let from = address.from in let below = address.below in record { from = omega arith; below = omega arith }

  -- a block of the mutator's, and the objects in it
  module _ (k class : ℕ) (mine : Contains v.local.owned (record { block = k; class = class })) where
    owned-now : IsOwned p h v.local.number (record { block = k; class = class })
    owned-now = (knows p v told).owned (record { block = k; class = class }) mine

    pub own-class : class_at h k ≡ class
    own-class = owned-class p h v.local.number (record { block = k; class = class }) owned-now

    pub own-kind : HasKind h k p.rules.fill
    own-kind = owned-kind p h v.local.number (record { block = k; class = class }) owned-now

    -- an object of which it saw the start bit was held as the epoch began, or is its own
    pub seen-object : (a : ℕ) → IsAddress p.before.blocks a → block_at p.before.blocks a ≡ k → HasSeenStart p v.local a → HasObjectAt p v.local.made a
    seen-object a address here saw =
        let x : Loaded = saw.0 in
        let set : bit_at (word_at h x.at) (bit_place p.before.blocks a) ≡ 1 =
        (word-loaded x saw.1).still (subst (InZone p.before.blocks StartBits) (sym saw.2) (bit-zone a address)) (bit_place p.before.blocks a) saw.3 in
        let held : IsHeld h a = marks.held h a (address_bit-at_address p.before.blocks StartBits h.words a address
        ∙ eq-eqb (bit_at (word_at h (bit_word p.before.blocks StartBits a)) (bit_place p.before.blocks a)) 1 (subst (λ (i : ℕ). bit_at (word_at h i) (bit_place p.before.blocks a) ≡ 1) saw.2 set)) in
        elim (now.births a held) as (λ _. HasObjectAt p v.local.made a) [
          | inl before ↦ inl before
          | inr made ↦
              (let y : Extent = record { address = a; size = size_at h a } in
              let m : ℕ = made.0 in
              let is : IsMade p h (local_after_log p v.seen m).owned y = (now.knows m).objects y made.1 in
              let owner : owner_at h (block_at p.before.blocks a) ≡ m = (place-owner p (machine_after p v.seen) now m a y.size is.place).0 in
              let number : owner_at h k ≡ v.local.number = owned-owner p h v.local.number (record { block = k; class = class }) owned-now in
              let same : m ≡ v.local.number = sym owner ∙ ap (owner_at h) here ∙ number in
              inr (y, subst (λ (l : Local). Contains l.made y) (sym told.now) (subst (λ (j : ℕ). Contains (local_after_log p v.seen j).made y) same made.1), refl))
        ]

  -- each block of the mutator's has one class
  pub one-class : (k c d : ℕ) → Contains v.local.owned (record { block = k; class = c }) → Contains v.local.owned (record { block = k; class = d }) → c ≡ d
  one-class k c d one two = sym (own-class k c one) ∙ own-class k d two

  -- a block that has the mutator as owner is one that it took
  pub own-listed : (k : ℕ) → k < p.before.blocks → owner_at h k ≡ v.local.number → (class : ℕ) × Contains v.local.owned (record { block = k; class = class })
  own-listed k there owner =
      let state = moments.state p told.ideal v.seen told.epoch v.local.number told.known in
      let some : 0 < v.local.number = (let least : 1 ≤ (local_after_log p v.seen v.local.number).number = state.least in let e = moments.number p told.ideal v.seen told.epoch v.local.number in omega arith) in
      let lists : IsListed (local_after_log p v.seen (owner_at h k)) k = owner-lists p told.epoch.ready (machine_after p v.seen) now k there (subst (λ (n : ℕ). 0 < n) (sym owner) some) in
      let among : Contains v.local.owned lists.block = subst (λ (l : Local). Contains l.owned lists.block) (sym told.now) (subst (λ (j : ℕ). Contains (local_after_log p v.seen j).owned lists.block) owner lists.listed) in
      (lists.block.class, subst (λ (j : ℕ). Contains v.local.owned (record { block = j; class = lists.block.class })) lists.same among)

  -- the line bits of any block are as the epoch began
  pub lines-now : (k : ℕ) (lines : List ℕ) → k < p.before.blocks → ((n : ℕ) → n < 4 → slice_index lines n ≡ slice_index p.before.words (first p.before.blocks LineWords + 4 * k + n)) → (line : ℕ) → line < 256 → bit_in lines line ≡ line_marked h k line
  lines-now k lines there read line below = lines-read p.before lines k line read below ∙ sym (now.lines k line there below)

  -- an object that was held is held still, and as large
  pub size-kept : (a : ℕ) → IsHeld p.before a → size_at h a ≡ size_at p.before a
  size-kept a before = ap (λ (w : ℕ). size_of (w % 65536) (w / 65536)) ((now.stays a before).1 1 (omega arith))

  object-held : (a : ℕ) → HasObjectAt p v.local.made a → IsHeld h a
  object-held a (inl before) = (now.stays a before).0
  object-held a (inr own) = subst (IsHeld h) own.2 ((knows p v told).objects own.0 own.1).held

  -- a tail begins where an object ends, or later
  tail-after : (k at next : ℕ) → IsTail h k at → (next ≡ 0) ⊎ HasEndAt p v.local.made k next → next ≤ at
  tail-after k at next tail (inl none) = omega arith
  tail-after k at next tail (inr (inl before)) =
      let last : offset_at p.before.blocks before.0 + size_at h before.0 ≤ at = tail.after before.0 (now.stays before.0 before.1).0 before.2 in
      let size : size_at h before.0 ≡ size_at p.before before.0 = size-kept before.0 before.1 in
      let ends : offset_at p.before.blocks before.0 + size_at p.before before.0 ≡ next = before.3 in
      omega arith
  tail-after k at next tail (inr (inr own)) =
      let x : Extent = own.0 in
      let is : IsMade p h v.local.owned x = (knows p v told).objects x own.1 in
      let last : offset_at p.before.blocks x.address + size_at h x.address ≤ at = tail.after x.address is.held own.2 in
      let size : size_at h x.address ≡ x.size = is.same in
      let from : heap_of p.before.blocks ≤ x.address = is.place.address.from in
      let here : block_at p.before.blocks x.address ≡ k = own.2 in
      let ends : x.address + x.size ≡ block_start p.before.blocks k + next = own.3 in
      omega arith

  -- a hole of a block of the mutator's that is no run of lines lies in what the region has left
  module _ (k class : ℕ) (region : Region) (own : IsOwnRegion p (holdings v.local) k class region) where
    tail-inside : (at size : ℕ) → FillsTails p.rules.fill → IsTail h k at → at + size ≤ 4096 → region.next + size ≤ region.end
    tail-inside at size tails tail room =
        let kept = own.kept.tail tails in
        let end : region.end ≡ 4096 = kept.0 in
        let after : region.next ≤ at = tail-after k at region.next tail kept.1 in
        omega arith

    cell-inside : (at size : ℕ) → 0 < size → p.rules.fill ≡ kinds.Cells → IsFreeCell h k at → class_of size ≡ Some (class_at h k) → region.next + size ≤ region.end
    cell-inside at size some cells cell suits =
        let is : class_at h k ≡ class = own-class k class own.mine in
        let room : size ≤ cell_words class = class-room size class (suits ∙ ap (λ (c : ℕ). Some c) is) in
        let start : at ≡ cell.index * cell_words class = subst (λ (c : ℕ). at ≡ cell.index * cell_words c) is cell.start in
        let inside : at + cell_words class ≤ 4096 = subst (λ (c : ℕ). at + cell_words c ≤ 4096) is cell.inside in
        elim (cases_lt at region.next) as (λ _. region.next + size ≤ region.end) [
          | inl before ↦ absurd (cell.free (subst (λ (n : ℕ). IsTrue (is_start h (block_start p.before.blocks k + n))) (sym start)
              (object-held (block_start p.before.blocks k + cell.index * cell_words class) (own.kept.taken cells cell.index (omega arith) (omega arith))).start))
          | inr after ↦ (let whole : region.next + cell_words class ≤ region.end = own.kept.whole cells (omega arith) in omega arith)
        ]

    hole-in : (fill : Kind) → p.rules.fill ≡ fill → fill ≢ kinds.Immix → (at size : ℕ) → 0 < size → HasHole fill h k at size → region.next + size ≤ region.end
    hole-in kinds.Bump is plain at size some hole = tail-inside at size (inl is) hole.1 hole.2
    hole-in kinds.Young is plain at size some hole = tail-inside at size (inr is) hole.1 hole.2
    hole-in kinds.Cells is plain at size some hole = cell-inside at size some is hole.1 hole.2
    hole-in kinds.Immix is plain at size some hole = absurd (plain refl)
    hole-in kinds.Free is plain at size some hole = absurd hole
    hole-in kinds.Mature is plain at size some hole = absurd hole
    hole-in kinds.LargeHead is plain at size some hole = absurd hole
    hole-in kinds.LargeTail is plain at size some hole = absurd hole
    hole-in kinds.Kept is plain at size some hole = absurd hole

    pub hole-inside : p.rules.fill ≢ kinds.Immix → (at size : ℕ) → 0 < size → HasHole p.rules.fill h k at size → region.next + size ≤ region.end
    hole-inside plain at size some hole = hole-in p.rules.fill refl plain at size some hole

  -- a start word that the mutator loaded tells of an object, and that none was there as the epoch began
  module _ (k o at n : ℕ) (there : k < p.before.blocks) (below : o < 4096) (is-at : at ≡ first p.before.blocks StartBits + 64 * k + o / 64) (among : Contains v.local.loaded (record { at = at; word = n })) where
    abbrev a : ℕ
    a = block_start p.before.blocks k + o

    address : IsAddress p.before.blocks a
    address = record { from = omega arith; below = omega arith }

    word-is : at ≡ bit_word p.before.blocks StartBits a
    word-is = omega arith

    place-is : o % 64 ≡ bit_place p.before.blocks a
    place-is = omega arith

    pub start-seen : has_bit n (o % 64) ≡ true → HasSeenStart p v.local a
    start-seen set = (record { at = at; word = n }, among, word-is, subst (λ (j : ℕ). bit_at n j ≡ 1) place-is (eqb-true (bit_at n (o % 64)) 1 set))

    pub start-clear : has_bit n (o % 64) ≡ false → is_start p.before a ≡ false
    start-clear clear = elim (cases_Bool (is_start p.before a)) as (λ _. is_start p.before a ≡ false) [
      | inr none ↦ none
      | inl starts ↦ absurd (
          let bit : bit_at (word_at p.before (bit_word p.before.blocks StartBits a)) (bit_place p.before.blocks a) ≡ 1 =
          eqb-true (bit_at (word_at p.before (bit_word p.before.blocks StartBits a)) (bit_place p.before.blocks a)) 1 (bit_from_mark p.before.blocks StartBits p.before.words a starts) in
          let set : bit_at n (bit_place p.before.blocks a) ≡ 1 =
          (word-loaded (record { at = at; word = n }) among).since (subst (InZone p.before.blocks StartBits) (sym word-is) (bit-zone a address)) (bit_place p.before.blocks a)
          (subst (λ (i : ℕ). bit_at (word_at p.before i) (bit_place p.before.blocks a) ≡ 1) (sym word-is) bit) in
          true≢false (sym (eq-eqb (bit_at n (o % 64)) 1 (subst (λ (j : ℕ). bit_at n j ≡ 1) (sym place-is) set)) ∙ clear))
    ]
