-- Each block of a session's heap without a word of an object is Free.
use Rattle.std.proofs.Common.{◌≡◌, sym, ◌∙◌, ap, subst, ℕ, ◌+◌, ◌-◌, ◌*◌, ◌/◌, ◌%◌, ◌<◌, ◌≤◌, arith, inl, inr, Bool, true, false, ◌||◌, List, [], ◌∷◌}
use Rattle.std.proofs.lemmas.Bool.{cases_Bool, cases_eq, cases_lt, or_left, or_right, true≢false}
use Rattle.heap_layout.specs.Zones.{block_at, heap_of, offset_at}
use Rattle.heap_layout.specs.Blocks.{code_of}
use Rattle.heap_layout.specs.declared.block.Kind.TheVariants as kinds
use Rattle.ideal_heap.specs.Runs.{Entry}
use Rattle.object_model.specs.Lawful.{IsWellFormed}
use Rattle.object_model.specs.Graphs.{roots_of}
use Rattle.object_model.specs.Objects.{HeapState, HasKind, IsHeld, block_word, blocks_for, has_kind, size_at, size_of, word_at}
use Rattle.object_model.specs.declared.collect.Collect.{Collect}
use Rattle.object_model.specs.declared.collect.Collect.TheVariants.{Nursery, Full}
use Rattle.object_model.proofs.OneKind.{kind-code, kind-from}
use Rattle.object_model.proofs.Zeros as zeros
use Rattle.sessions.specs.Collecting.{CollectsIf, IsEmptied}
use Rattle.sessions.specs.Sessions as sessions
use Rattle.sessions.specs.Sessions.{AddsObject, CollectsFor, FirstTry, InSession, IsEpoch, MakesCollection, MeetsIf, Moment, OnlyReplies, Places, ServesAll, ServesNeed, Setting, UsesBlock, UsesRun, block_of_kind}
use Rattle.session_counts.specs.Sizes.{own_blocks}
use Rattle.session_counts.proofs.LargeBlocks.{block-of, owner}

-- a block without a word of an object is Free
abbrev pub IsFilled : HeapState → Type 0
IsFilled s = (k : ℕ) → k < s.blocks → IsEmptied s k → HasKind s k kinds.Free

-- the block of a held object is not empty
not-emptied : (s : HeapState) (a k : ℕ) → IsHeld s a → block_at s.blocks a ≡ k → IsEmptied s k → ⊥
not-emptied s a k held at empty = empty a a held (record { from = omega arith; below = omega arith }) at

same-size : (old new : HeapState) (a : ℕ) → word_at new (a + 1) ≡ word_at old (a + 1) → size_at new a ≡ size_at old a
same-size old new a same = ap (λ (w : ℕ). size_of (w % 65536) (w / 65536)) same

-- the block stays Free, where its word does
free-kept : (old new : HeapState) (k : ℕ) → k < new.blocks → block_word new k ≡ block_word old k → HasKind old k kinds.Free → HasKind new k kinds.Free
free-kept old new k low same free = kind-from new k kinds.Free low (ap (λ v. v % 256) same ∙ kind-code old k kinds.Free free)

-- what was held is held, with its size
record Stays (old new : HeapState) : Type 0 where
  blocks : new.blocks ≡ old.blocks
  held : (a : ℕ) → IsHeld old a → IsHeld new a
  size : (a : ℕ) → IsHeld old a → size_at new a ≡ size_at old a

emptied-before : (old new : HeapState) (k : ℕ) → Stays old new → IsEmptied new k → IsEmptied old k
emptied-before old new k stays empty a i held in_extent at =
    let from : a ≤ i = in_extent.from in
    let less : i < a + size_at old a = in_extent.below in
    let same : size_at new a ≡ size_at old a = stays.size a held in
    empty a i (stays.held a held) (record { from = from; below = omega (arith, less, same) }) (ap (λ b. block_at b i) stays.blocks ∙ at)

renumbered : (old : HeapState) (m : ℕ) → IsFilled old → IsFilled (record old { number = m })
renumbered old m filled k low empty = filled k low (λ a i held within at. empty a i (record { address = held.address; start = held.start }) within at)

low-byte : (k class v : ℕ) → k ≤ 8 → v ≡ k + 256 * class + 65536 * 0 → v % 256 ≡ k
low-byte k class v small is = omega arith

-- a block of a large object is not empty
large-filled : (s : HeapState) → IsWellFormed s → (k : ℕ) → (has_kind s k kinds.LargeHead || has_kind s k kinds.LargeTail) ≡ true → IsEmptied s k → ⊥
large-filled s order k is empty =
    let one = owner s order k is in
    let x : ℕ = one.object in
    let at = block-of s order x k one.held one.has in
    let start : offset_at s.blocks x ≡ 0 = at.runs.run.start in
    let blocks : own_blocks (size_at s x) ≡ blocks_for (size_at s x) = at.runs.blocks in
    let high : heap_of s.blocks ≤ x = one.held.address.from in
    let from : block_at s.blocks x ≤ k = at.from in
    let less : k < block_at s.blocks x + own_blocks (size_at s x) = at.below in
    let i : ℕ = x + 4096 * (k - block_at s.blocks x) in
    empty x i one.held (record { from = omega arith; below = omega (arith, blocks, from, less) }) (omega (arith, high, start, from))

module _ (t : Setting) where
  of-part : (before now : Moment) (ends : ℕ → sessions.Cause) → sessions.RunsPart t before ends now → IsFilled before.heap → IsFilled now.heap
  of-part before now ends part filled k low empty =
      let old : HeapState = before.heap in
      let new : HeapState = now.heap in
      let stopped = part.stopped in
      let in_old : k < old.blocks = subst (λ (n : ℕ). k < n) stopped.blocks low in
      let stays : Stays old new = record {
        blocks = stopped.blocks;
        held = λ a held. (stopped.stays a held).0;
        size = λ a held. same-size old new a ((stopped.stays a held).1 1 (omega arith));
      } in
      let was : HasKind old k kinds.Free = filled k in_old (emptied-before old new k stays empty) in
      elim (cases_Bool (has_kind new k kinds.Free)) as (λ _. HasKind new k kinds.Free) [
        | inl is ↦ is
        | inr not ↦ (
            let used = stopped.used k was (λ is. true≢false (sym is ∙ not)) in
            absurd (not-emptied new used.0 k used.1 used.2 empty))
      ]

  of-collection : (collects : Bool) (kind : Collect) (old new : HeapState) (roots after : List ℕ) → CollectsIf collects t.rules t.workers kind old roots new after → IsFilled old → IsFilled new
  of-collection true kind old new roots after made filled k low empty =
      let in_old : k < old.blocks = subst (λ (n : ℕ). k < n) made.layout low in
      (made.block k in_old).emptied empty
  of-collection false kind old new roots after counts filled k low empty = subst IsFilled (sym counts.heap) (renumbered old (old.number + 1) filled) k low empty

  -- one object more
  one-more : (old new : HeapState) (a refs nums : ℕ) → new.blocks ≡ old.blocks → AddsObject old new a refs nums → Stays old new
  one-more old new a refs nums blocks adds = record {
    blocks = blocks;
    held = λ x held. elim (cases_eq x a) as (λ _. IsHeld new x) [
      | inl same ↦ absurd (adds.fresh (subst (IsHeld old) same held))
      | inr differ ↦ (adds.others x differ).0 held
    ];
    size = λ x held. same-size old new x (adds.words x 1 held (omega arith));
  }

  of-used : (old new : HeapState) (a refs nums words : ℕ) → new.blocks ≡ old.blocks → AddsObject old new a refs nums → UsesBlock t.rules old new (block_at old.blocks a) words → IsFilled old → IsFilled new
  of-used old new a refs nums words blocks adds uses filled k low empty =
      let in_old : k < old.blocks = subst (λ (n : ℕ). k < n) blocks low in
      elim (cases_eq k (block_at old.blocks a)) as (λ _. HasKind new k kinds.Free) [
        | inl same ↦ absurd (not-emptied new a k adds.held (ap (λ b. block_at b a) blocks ∙ sym same) empty)
        | inr differ ↦ free-kept old new k low (uses.others k in_old differ) (filled k in_old (emptied-before old new k (one-more old new a refs nums blocks adds) empty))
      ]

  of-run : (old new : HeapState) (a refs nums n : ℕ) → IsWellFormed new → new.blocks ≡ old.blocks → AddsObject old new a refs nums → UsesRun old new (block_at old.blocks a) n → IsFilled old → IsFilled new
  of-run old new a refs nums n order blocks adds uses filled k low empty =
      let in_old : k < old.blocks = subst (λ (m : ℕ). k < m) blocks low in
      let used : ℕ = block_at old.blocks a in
      let kept : block_word new k ≡ block_word old k → HasKind new k kinds.Free =
      λ same. free-kept old new k low same (filled k in_old (emptied-before old new k (one-more old new a refs nums blocks adds) empty)) in
      elim (cases_lt k used) as (λ _. HasKind new k kinds.Free) [
        | inl before ↦ kept (uses.others k in_old (inl before))
        | inr from ↦ elim (cases_lt k (used + n)) as (λ _. HasKind new k kinds.Free) [
          | inr after ↦ kept (uses.others k in_old (inr (omega (arith, after))))
          | inl within ↦ absurd (elim (cases_eq k used) as (λ _. ⊥) [
            | inl same ↦ large-filled new order k (or_left _ (has_kind new k kinds.LargeTail)
                (kind-from new k kinds.LargeHead low (low-byte 6 n (block_word new k) (omega arith) (ap (block_word new) same ∙ uses.head)))) empty
            | inr differ ↦ (
                let at : used + (k - used) ≡ k = omega (arith, from) in
                let word : block_word new k ≡ code_of (block_of_kind kinds.LargeTail 0) = subst (λ (j : ℕ). block_word new j ≡ code_of (block_of_kind kinds.LargeTail 0)) at (uses.tails (k - used) (omega (arith, from, differ)) (omega (arith, from, within))) in
                large-filled new order k (or_right (has_kind new k kinds.LargeHead) _ (kind-from new k kinds.LargeTail low (low-byte 7 0 (block_word new k) (omega arith) word))) empty)
          ])
        ]
      ]

  same : (before now : Moment) → now ≡ before → IsFilled before.heap → IsFilled now.heap
  same before now is filled = subst (λ (x : Moment). IsFilled x.heap) (sym is) filled

  replied : (es : List Entry) (before now : Moment) → OnlyReplies es before now → IsFilled before.heap → IsFilled now.heap
  replied es before now replies filled = subst (λ (x : Moment). IsFilled x.heap) (sym replies.rest) filled

  made : (kind : Collect) (before now : Moment) → MakesCollection t kind before now → IsFilled before.heap → IsFilled now.heap
  made kind before now makes filled = of-collection t.rules.collects kind before.heap now.heap (roots_of before.mutators) (roots_of now.mutators) makes.collection filled

  tried : (words : ℕ) (kind : Collect) (before mid : Moment) → FirstTry t words kind before mid → IsFilled before.heap → IsFilled mid.heap
  tried words Full before mid nothing filled = same before mid nothing filled
  tried words Nursery before mid try filled = made Nursery before mid try.0 filled

  placed : (m d refs nums : ℕ) (before now : Moment) → Places t m d refs nums before now → IsFilled before.heap → IsFilled now.heap
  placed m d refs nums before now places filled = elim (cases_lt 2048 (size_of refs nums)) as (λ _. IsFilled now.heap) [
    | inl large ↦ of-run before.heap now.heap places.place refs nums (blocks_for (size_of refs nums)) places.sound.lawful.but_lines.order places.layout.0 places.object (places.large large).1 filled
    | inr small ↦ of-used before.heap now.heap places.place refs nums (size_of refs nums) places.layout.0 places.object (places.small small).1 filled
  ]

  served : (m d refs nums : ℕ) (before now : Moment) → ServesNeed t m d refs nums before now → IsFilled before.heap → IsFilled now.heap
  served m d refs nums before now (sessions.at_once places) filled = placed m d refs nums before now places filled
  served m d refs nums before now (sessions.after_nursery mid no_fit first makes places) filled = placed m d refs nums mid now places (made Nursery before mid makes filled)
  served m d refs nums before now (sessions.after_full mid late no_fit first makes places) filled = placed m d refs nums late now places (made Full mid late makes (tried _ _ before mid first filled))
  served m d refs nums before now (sessions.refused mid late no_fit first makes no_fit_after replies) filled = replied _ late now replies (made Full mid late makes (tried _ _ before mid first filled))

  served-all : (ms : List ℕ) (before now : Moment) → ServesAll t ms before now → IsFilled before.heap → IsFilled now.heap
  served-all [] before now nothing filled = same before now nothing filled
  served-all (m ∷ ms) before now (d, refs, nums, mid, need, serves, rest) filled = served-all ms mid now rest (served m d refs nums before mid serves filled)

  collected : (ms : List ℕ) (before now : Moment) → CollectsFor t ms before now → IsFilled before.heap → IsFilled now.heap
  collected [] before now nothing filled = same before now nothing filled
  collected (m ∷ ms) before now (mid, makes, replies) filled = replied _ mid now replies (made Full before mid makes filled)

  met : (all : Bool) (ms : List ℕ) (before now : Moment) → MeetsIf all ms before now → IsFilled before.heap → IsFilled now.heap
  met true ms before now replies filled = replied _ before now replies filled
  met false ms before now nothing filled = same before now nothing filled

  epoch-filled : (before now : Moment) → IsEpoch t before now → IsFilled before.heap → IsFilled now.heap
  epoch-filled before now epoch filled =
      met _ _ epoch.served now epoch.meet
      (served-all _ epoch.collected epoch.served epoch.needs
      (collected _ epoch.stop epoch.collected epoch.gc
      (of-part before epoch.stop epoch.ends epoch.part filled)))

  pub session-filled : (now : Moment) → InSession t now → IsFilled now.heap
  session-filled now sessions.begun = λ k low empty. kind-from (sessions.first_moment t).heap k kinds.Free low (ap (λ v. v % 256) (zeros.zero_word t.blocks _))
  session-filled now (sessions.longer before session epoch) = epoch-filled before now epoch (session-filled before session)
