-- What became of each block of a row whose blocks were released, and what of its words and bits.
use Rattle.std.proofs.Common.{◌≡◌, ◌≢◌, refl, sym, ◌∙◌, ap, subst, ℕ, ◌+◌, ◌/◌, ◌%◌, ◌<◌, ◌≤◌, ◌⊎◌, inl, inr, arith, Bool, true, false, ◌&&◌, ◌||◌, IsTrue, List}
use Rattle.std.proofs.lemmas.Bool.{cases_Bool, and_parts, or_cases, cond-true, cond-false, or_left}
use Rattle.heap_layout.specs.Zones.{heap_of, block_at, IsAddress, PinBits, UnlogBits}
use Rattle.heap_layout.specs.declared.block.Kind.{Kind}
use Rattle.heap_layout.specs.declared.block.Kind.TheVariants as kinds
use Rattle.heap_layout.specs.Blocks.{kind_code}
use Rattle.heap_layout.proofs.MarkLemmas.{is-address_from_mark}
use Rattle.object_model.specs.declared.collect.Collect.{Collect}
use Rattle.object_model.specs.Objects.{HeapState, word_at, block_word, HasKind, line_marked, class_at, is_start, is_pinned, is_unlogged, IsHeld, IsInExtent, size_at}
use Rattle.object_model.specs.Ages.{Lives}
use Rattle.object_model.specs.Releasing.{InSpan}
use Rattle.object_model.proofs.OneKind.{kind-code, kind-within, kind-from, one-kind}
use Rattle.object_model.proofs.Marks as marks
use Rattle.block_sweeps.specs.Sweeping.{IsFreed, HasNoLiving}
use Rattle.sessions.specs.Plans.{Rules}
use Rattle.plan_api.specs.Releasing.{IsReleased, is_kept_after, word_after}
use Rattle.block_release.specs.Released.{AreReleased}
use Rattle.block_release.proofs.Alike as alike
use Rattle.block_release.proofs.Alike.{SameRest, rest-back}
use Rattle.block_sweeps.proofs.LargeRuns.{tail-of, one-lives}
use Rattle.block_release.proofs.Spans.{IsToRelease, FirstOf, first-of, address-block}

-- Nothing lives in the span that block j is of, and the block was freed.
pub record WasFreed (base : ℕ) (s t : HeapState) (j : ℕ) : Type 0 where
  pub first : FirstOf s j
  pub none : HasNoLiving base s (InSpan s first.first)
  pub freed : IsFreed t j

-- An object lives in block j, or in the large run that begins there.
pub record IsInUse (r : Rules) (c : Collect) (base : ℕ) (s t : HeapState) (j : ℕ) : Type 0 where
  pub object : ℕ
  pub span : InSpan s j object
  pub lives : Lives base s object
  pub there : j < s.blocks
  pub plain : HasKind s j kinds.LargeTail → ⊥
  pub word : block_word t j ≡ word_after r c s j

-- Block j is a tail of a large run whose first block is in use.
pub record IsInLargeUse (r : Rules) (c : Collect) (base : ℕ) (s t : HeapState) (j : ℕ) : Type 0 where
  pub first : ℕ
  pub head : HasKind s first kinds.LargeHead
  pub past : first < j
  pub below : j < first + class_at s first
  pub used : IsInUse r c base s t first
  pub word : block_word t j ≡ block_word s j

-- the low half of a block word has kind and class, and no owner
pub low-half : (v : ℕ) → (v % 65536 % 256 ≡ v % 256) × (v % 65536 / 256 % 256 ≡ v / 256 % 256) × (v % 65536 / 65536 ≡ 0)
low-half v = (omega arith, omega arith, omega arith)

-- a heap with these words and numbers, in which each block of the row s was released
pub record IsAllReleased (r : Rules) (c : Collect) (base : ℕ) (s : HeapState) (w : List ℕ) (number age : ℕ) : Type 0 where
  pub before : IsToRelease s
  pub after : AreReleased r c base s (record { words = w; blocks = s.blocks; number = number; base = age }) s.blocks

module _ {r : Rules} {c : Collect} {base : ℕ} {s : HeapState} {w : List ℕ} {number age : ℕ} (all : IsAllReleased r c base s w number age) where
  abbrev new : HeapState
  new = record { words = w; blocks = s.blocks; number = number; base = age }

  pub rest : SameRest s new
  rest = record { blocks = refl; others = all.after.others }

  -- words before the side metadata, and words of objects
  pub low-word : (i : ℕ) → i < 18 → word_at new i ≡ word_at s i
  low-word i few = all.after.others i (λ k there meta. omega arith)

  pub word-same : (a o : ℕ) → IsHeld new a → word_at new (a + o) ≡ word_at s (a + o)
  word-same a o there = let from : heap_of s.blocks ≤ a = there.address.from in alike.word-same s new rest (a + o) (omega arith)

  pub size-same : (a : ℕ) → IsHeld new a → size_at new a ≡ size_at s a
  size-same a there = alike.size-same s new rest a there.address

  pub inside-before : (a i : ℕ) → IsHeld new a → IsInExtent new a i → IsInExtent s a i
  inside-before a i there inside = alike.extent-after new s (rest-back s new rest) a i there.address inside

  -- an address belongs to the span of a block that was released
  released-at : (a : ℕ) → IsAddress s.blocks a → (k : ℕ) × InSpan s k a × IsReleased r c base s new k
  released-at a there = let first = first-of all.before (block_at s.blocks a) (address-block s.blocks a there) in
      (first.first, record { address = there; block = first.of }, all.after.each first.first first.there first.there first.plain)

  pub held-lives : (a : ℕ) → IsHeld new a → Lives base s a
  held-lives a there = let d = released-at a there.address in (d.2.held a d.1).0 there

  pub lives-held : (a : ℕ) → Lives base s a → IsHeld new a
  lives-held a lives = let d = released-at a lives.held.address in (d.2.held a d.1).1 lives

  pub unlogged : (a : ℕ) → IsHeld new a → IsTrue (is_unlogged new a)
  unlogged a there = let d = released-at a there.address in d.2.unlogs a d.1 ∙ there.start

  pub pin-same : (a : ℕ) → IsHeld new a → is_pinned new a ≡ is_pinned s a
  pin-same a there = let d = released-at a there.address in d.2.pins a d.1 ∙ ap (λ start. is_pinned s a && start) there.start ∙ and-true (is_pinned s a)
    where
      and-true : (b : Bool) → (b && true) ≡ b
      and-true false = refl
      and-true true = refl

  pub marked-held : (a : ℕ) → IsTrue (is_pinned new a || is_unlogged new a) → IsHeld new a
  marked-held a set = elim (or_cases (is_pinned new a) (is_unlogged new a) set) as (λ _. IsHeld new a) [
    | inl pin ↦ (let d = released-at a (is-address_from_mark s.blocks PinBits w a pin) in
        marks.held new a (and_parts (is_pinned s a) (is_start new a) (sym (d.2.pins a d.1) ∙ pin)).1)
    | inr unlog ↦ (let d = released-at a (is-address_from_mark s.blocks UnlogBits w a unlog) in marks.held new a (sym (d.2.unlogs a d.1) ∙ unlog))
  ]

  -- a block that is no Immix block, and in which an object that lives begins, keeps its line bits
  pub lines-same : (a line : ℕ) → Lives base s a → (HasKind s (block_at s.blocks a) kinds.Immix → ⊥) → line < 256
      → line_marked new (block_at s.blocks a) line ≡ line_marked s (block_at s.blocks a) line
  lines-same a line lives other few =
      let there = lives.held.address in
      let first = first-of all.before (block_at s.blocks a) (address-block s.blocks a there) in
      let is : IsReleased r c base s new first.first = all.after.each first.first first.there first.there first.plain in
      is.lines a (block_at s.blocks a) line (record { address = there; block = first.of }) lives
      (λ immix. elim first.of as (λ _. ⊥) [
        | inl e ↦ other (subst (λ k. HasKind s k kinds.Immix) (sym e) immix)
        | inr later ↦ (let wrong = one-kind s first.first kinds.Immix kinds.LargeHead immix later.0 in omega arith)
      ]) first.of few

  -- what became of block j
  abbrev pub Fate : ℕ → Type 0
  Fate j = WasFreed base s new j ⊎ (IsInUse r c base s new j ⊎ IsInLargeUse r c base s new j)

  -- a block with an object that lives is in use, and the rest of a run in use keeps its words
  pub used-at : (a : ℕ) → Lives base s a → (HasKind s (block_at s.blocks a) kinds.LargeTail → ⊥) → IsInUse r c base s new (block_at s.blocks a)
  used-at a lives plain =
      let there : block_at s.blocks a < s.blocks = address-block s.blocks a lives.held.address in
      let span : InSpan s (block_at s.blocks a) a = record { address = lives.held.address; block = inl refl } in
      record { object = a; span = span; lives = lives; there = there; plain = plain; word = (all.after.each (block_at s.blocks a) there there plain).word a span lives }

  pub tail-word : (h j : ℕ) → HasKind s h kinds.LargeHead → IsInUse r c base s new h → h < j → j < h + class_at s h → block_word new j ≡ block_word s j
  tail-word h j head used past below = (all.after.each h used.there used.there used.plain).tails used.object j used.span used.lives (inr (head, past, below)) (λ e. omega arith)

  pub fate : (j : ℕ) → j < s.blocks → Fate j
  fate j there =
      let first : FirstOf s j = first-of all.before j there in
      let is : IsReleased r c base s new first.first = all.after.each first.first first.there first.there first.plain in
      elim (one-lives base s first.first) as (λ _. Fate j) [
        | inl some ↦ (let used : IsInUse r c base s new first.first = record {
          object = some.0;
          span = some.1;
          lives = some.2;
          there = first.there;
          plain = first.plain;
          word = is.word some.0 some.1 some.2;
        } in elim first.of as (λ _. Fate j) [
          | inl e ↦ inr (inl (subst (IsInUse r c base s new) (sym e) used))
          | inr later ↦ inr (inr (record {
            first = first.first;
            head = later.0;
            past = later.1;
            below = later.2;
            used = used;
            word = tail-word first.first j later.0 used later.1 later.2;
          }))
        ])
        | inr none ↦ inl (record { first = first; none = none; freed = is.empty none j first.of })
      ]

  -- A block in use is Kept, or has kind and class as before.
  pub used-word : (j : ℕ) → IsInUse r c base s new j → ((IsTrue (is_kept_after r c s j)) × (block_word new j ≡ 8)) ⊎ (block_word new j ≡ block_word s j % 65536)
  used-word j used = elim (cases_Bool (is_kept_after r c s j)) as (λ _. ((IsTrue (is_kept_after r c s j)) × (block_word new j ≡ 8)) ⊎ (block_word new j ≡ block_word s j % 65536)) [
    | inl kept ↦ inl (kept, used.word ∙ cond-true (is_kept_after r c s j) 8 (block_word s j % 65536) kept)
    | inr same ↦ inr (used.word ∙ cond-false (is_kept_after r c s j) 8 (block_word s j % 65536) same)
  ]

  -- its kind now, if it is not Kept, was its kind
  pub used-kind : (j : ℕ) (kind : Kind) → kind_code kind ≢ 8 → IsInUse r c base s new j → HasKind new j kind → HasKind s j kind × (class_at new j ≡ class_at s j)
  used-kind j kind other used is = elim (used-word j used) as (λ _. HasKind s j kind × (class_at new j ≡ class_at s j)) [
    | inl kept ↦ absurd (other (sym (kind-code new j kind is) ∙ ap (λ v. v % 256) kept.1))
    | inr same ↦ (let half = low-half (block_word s j) in
        (kind-from s j kind used.there (sym half.0 ∙ ap (λ v. v % 256) (sym same) ∙ kind-code new j kind is), ap (λ v. v / 256 % 256) same ∙ half.1))
  ]

  pub large-tail : (j : ℕ) → IsInLargeUse r c base s new j → HasKind new j kinds.LargeTail
  large-tail j large =
      let tail : HasKind s j kinds.LargeTail = tail-of s all.before.blocks large.first j large.head large.past large.below in
      kind-from new j kinds.LargeTail (kind-within s j kinds.LargeTail tail) (ap (λ v. v % 256) large.word ∙ kind-code s j kinds.LargeTail tail)

  pub freed-free : (j : ℕ) → j < s.blocks → WasFreed base s new j → HasKind new j kinds.Free
  freed-free j there was = kind-from new j kinds.Free there (ap (λ v. v % 256) was.freed.word)

  pub used-not-free : (j : ℕ) → IsInUse r c base s new j → HasKind s j kinds.Free → ⊥
  used-not-free j used free = elim used.span.block as (λ _. ⊥) [
    | inl here ↦ (all.before.blocks j used.there).bits free used.object here (or_left (is_start s used.object || is_pinned s used.object) (is_unlogged s used.object)
        (or_left (is_start s used.object) (is_pinned s used.object) used.lives.held.start))
    | inr later ↦ (let e = one-kind s j kinds.LargeHead kinds.Free later.0 free in omega arith)
  ]

  -- a block's fate by its kind now
  pub free-freed : (j : ℕ) → HasKind new j kinds.Free → WasFreed base s new j
  free-freed j free = elim (fate j (kind-within new j kinds.Free free)) as (λ _. WasFreed base s new j) [
    | inl freed ↦ freed
    | inr some ↦ elim some as (λ _. WasFreed base s new j) [
      | inl used ↦ absurd (used-not-free j used (used-kind j kinds.Free (λ e. omega arith) used free).0)
      | inr large ↦ absurd (let e = one-kind new j kinds.Free kinds.LargeTail free (large-tail j large) in omega arith)
    ]
  ]

  pub tail-in-use : (j : ℕ) → HasKind new j kinds.LargeTail → IsInLargeUse r c base s new j
  tail-in-use j tail = elim (fate j (kind-within new j kinds.LargeTail tail)) as (λ _. IsInLargeUse r c base s new j) [
    | inl freed ↦ absurd (let e = one-kind new j kinds.Free kinds.LargeTail (freed-free j (kind-within new j kinds.LargeTail tail) freed) tail in omega arith)
    | inr some ↦ elim some as (λ _. IsInLargeUse r c base s new j) [
      | inl used ↦ absurd (used.plain (used-kind j kinds.LargeTail (λ e. omega arith) used tail).0)
      | inr large ↦ large
    ]
  ]

  pub kind-in-use : (j : ℕ) (kind : Kind) → kind_code kind ≢ 0 → kind_code kind ≢ 7 → kind_code kind ≢ 8 → HasKind new j kind → IsInUse r c base s new j × HasKind s j kind
  kind-in-use j kind some no-tail other is = elim (fate j (kind-within new j kind is)) as (λ _. IsInUse r c base s new j × HasKind s j kind) [
    | inl freed ↦ absurd (some (one-kind new j kind kinds.Free is (freed-free j (kind-within new j kind is) freed)))
    | inr more ↦ elim more as (λ _. IsInUse r c base s new j × HasKind s j kind) [
      | inl used ↦ (used, (used-kind j kind other used is).0)
      | inr large ↦ absurd (no-tail (one-kind new j kind kinds.LargeTail is (large-tail j large)))
    ]
  ]
