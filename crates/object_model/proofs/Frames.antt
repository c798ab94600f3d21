-- A heap whose objects, blocks and bits stay is lawful as before, if references refer to objects and only objects are pinned.
use Rattle.std.proofs.Common.{◌≡◌, refl, sym, ◌∙◌, ap, subst, ℕ, ◌+◌, ◌/◌, ◌%◌, ◌^◌, ◌<◌, ◌≤◌, inl, inr, arith, ◌&&◌, ◌||◌, IsTrue, List, nat_eq, nat_lt, add-zero, ◌↔◌}
use Rattle.std.proofs.Math.Logic.{∥∥₁_map}
use Rattle.std.proofs.lemmas.Bool.{cases_lt, and_parts, and_left, le-ltb, ltb-true, or_cases, or_left, or_right}
use Rattle.heap_layout.specs.Zones.{IsAddress}
use Rattle.heap_layout.specs.declared.block.Kind.{Kind}
use Rattle.heap_layout.specs.declared.block.Kind.TheVariants as kinds
use Rattle.heap_layout.specs.Blocks.{is_block_code, kind_code}
use Rattle.object_model.specs.Objects.{HeapState, with_words, word_at, global_at, block_word, has_kind, HasKind, is_start, is_pinned, is_unlogged, IsHeld, IsInExtent, name_at, refs_at, nums_at, size_at, ref_at, size_of}
use Rattle.object_model.specs.Lawful.{IsLawful, IsWellFormed, HasLawfulObjects, HasHeader, Lies, IsRefField, IsRoot, IsClear, IsTouched, LineBitsAreExact, IsUnowned}
use Rattle.ideal_heap.specs.Names.{IsName, name_of}
use Rattle.object_model.specs.Changes.{ObjectsStay}
use Rattle.object_model.proofs.UsedBlocks as used
use Rattle.object_model.proofs.Lines.{touched-as}

-- block words alone decide kinds
module _ (s : HeapState) (w : List ℕ) (same : (k : ℕ) → k < s.blocks → block_word (with_words s w) k ≡ block_word s k) where
  abbrev new : HeapState
  new = with_words s w

  pub has_kind-same : (k : ℕ) (kind : Kind) → has_kind new k kind ≡ has_kind s k kind
  has_kind-same k kind = elim (cases_lt k s.blocks) as (λ _. has_kind new k kind ≡ has_kind s k kind) [
    | inl h ↦ ap (λ v. nat_lt k s.blocks && nat_eq (v % 256) (kind_code kind)) (same k h)
    | inr h ↦ and_left (nat_lt k s.blocks) _ (le-ltb k s.blocks h) ∙ sym (and_left (nat_lt k s.blocks) _ (le-ltb k s.blocks h))
  ]

  pub HasKind-from : (k : ℕ) (kind : Kind) → HasKind s k kind → HasKind new k kind
  HasKind-from k kind is = has_kind-same k kind ∙ is

  pub HasKind-back : (k : ℕ) (kind : Kind) → HasKind new k kind → HasKind s k kind
  HasKind-back k kind is = sym (has_kind-same k kind) ∙ is

  pub kind-in : (k : ℕ) (kind : Kind) → HasKind s k kind → k < s.blocks
  kind-in k kind is = ltb-true k s.blocks (and_parts (nat_lt k s.blocks) _ is).0

-- objects stay
module _ (s : HeapState) (w : List ℕ) (keeps : ObjectsStay s (with_words s w)) where
  abbrev after : HeapState
  after = with_words s w

  pub held-after : (a : ℕ) → IsHeld s a → IsHeld after a
  held-after a h = record { address = h.address; start = keeps.starts a ∙ h.start }

  pub held-before : (a : ℕ) → IsHeld after a → IsHeld s a
  held-before a h = record { address = h.address; start = sym (keeps.starts a) ∙ h.start }

  shape-after : (a : ℕ) → IsHeld s a → word_at after (a + 1) ≡ word_at s (a + 1)
  shape-after a h = keeps.headers a 1 h (omega arith)

  pub refs-after : (a : ℕ) → IsHeld s a → refs_at after a ≡ refs_at s a
  refs-after a h = ap (λ v. v % 65536) (shape-after a h)

  pub nums-after : (a : ℕ) → IsHeld s a → nums_at after a ≡ nums_at s a
  nums-after a h = ap (λ v. v / 65536) (shape-after a h)

  pub size-after : (a : ℕ) → IsHeld s a → size_at after a ≡ size_at s a
  size-after a h = ap (λ v. size_of (v % 65536) (v / 65536)) (shape-after a h)

  pub name-after : (a : ℕ) → IsHeld s a → name_at after a ≡ name_at s a
  name-after a h = ap name_of (ap (word_at after) (sym (add-zero a)) ∙ keeps.headers a 0 h (omega arith) ∙ ap (word_at s) (add-zero a))

  pub extent-before : (a i : ℕ) → IsHeld s a → IsInExtent after a i → IsInExtent s a i
  extent-before a i h x = record { from = x.from; below = subst (λ (n : ℕ). i < a + n) (size-after a h) x.below }

  pub field-after : (v : ℕ) → IsRefField s v → IsRefField after v
  field-after v r some = held-after v (r some)

  pub root-after : (v : ℕ) → IsRoot s v → IsRoot after v
  root-after v r some = held-after v (r some)

  header-after : (a : ℕ) → IsHeld s a → HasHeader s a → HasHeader after a
  header-after a h old =
      let collector : word_at after (a + 2) ≡ word_at s (a + 2) = keeps.headers a 2 h (omega arith) in
      record {
        object = record {
          name = subst IsName (sym (name-after a h)) old.object.name;
          refs = subst (λ (n : ℕ). n ≤ 1024) (sym (refs-after a h)) old.object.refs;
          nums = subst (λ (n : ℕ). n ≤ 60000) (sym (nums-after a h)) old.object.nums;
        };
        number = subst (λ (v : ℕ). v / 2 ^ 24 ≤ s.number) (sym collector) old.number;
        target = subst (λ (v : ℕ). 0 < v / 2 ^ 24 → v % 2 ^ 24 ≡ a) (sym collector) old.target;
      }

  module _ (order : IsWellFormed s) where
    objects-after : ((a : ℕ) → IsTrue (is_pinned after a) → IsHeld s a)
        → ((a i : ℕ) → IsHeld s a → i < refs_at s a → IsRefField s (ref_at after a i))
        → ((g : ℕ) → g < 16 → IsRoot s (global_at after g)) → HasLawfulObjects after
    objects-after pins fields globals = let old = order.objects in record {
      headers = λ a h. header-after a (held-before a h) (old.headers a (held-before a h));
      marks = λ a h. elim (or_cases (is_pinned after a) (is_unlogged after a) h) as (λ _. IsHeld after a) [
        | inl p ↦ held-after a (pins a p)
        | inr u ↦ held-after a (old.marks a (or_right (is_pinned s a) (is_unlogged s a) (keeps.unlogs a u)))
      ];
      lies = λ a h. let before = held-before a h in
          subst (Lies after a) (sym (size-after a before)) (used.lies-kept s w (λ k there in_use. keeps.block_words k there) a (size_at s a) (old.lies a before));
      apart = λ a x i ha hx ia ix. let ba = held-before a ha in let bx = held-before x hx in
          old.apart a x i ba bx (extent-before a i ba ia) (extent-before x i bx ix);
      heads = λ k is. let before = old.heads k (HasKind-back s w keeps.block_words k kinds.LargeHead is) in
          (held-after _ before.0, subst (λ (n : ℕ). 2048 < n) (sym (size-after _ before.0)) before.1);
      tails = λ k is. used.in_run-kept s w (λ j there in_use. keeps.block_words j there) k (old.tails k (HasKind-back s w keeps.block_words k kinds.LargeTail is));
      references = λ a i h less. let before = held-before a h in
          field-after _ (fields a i before (subst (λ (n : ℕ). i < n) (refs-after a before) less));
      globals = λ g small. root-after _ (globals g small);
      names = λ a x ha hx e. let ba = held-before a ha in let bx = held-before x hx in
          old.names a x ba bx (sym (name-after a ba) ∙ e ∙ name-after x bx);
    }

    -- the row is well formed afterwards
    pub orderly-after : ((i : ℕ) → word_at after i < 2 ^ 64)
        → ((a : ℕ) → IsTrue (is_pinned after a) → IsHeld s a)
        → ((a i : ℕ) → IsHeld s a → i < refs_at s a → IsRefField s (ref_at after a i))
        → ((g : ℕ) → g < 16 → IsRoot s (global_at after g)) → IsWellFormed after
    orderly-after words pins fields globals = record {
      row = record { least = order.row.least; most = order.row.most; extent = keeps.extent ∙ order.row.extent; words = words; base = order.row.base };
      objects = objects-after pins fields globals;
    }

  pub clear-after : ((a : ℕ) → IsTrue (is_pinned after a) → IsHeld s a) → (k : ℕ) → k < s.blocks → IsClear s k → IsClear after k
  clear-after pins k there old = record {
    empty = λ a i h inside. let before = held-before a h in old.empty a i before (extent-before a i before inside);
    lines = λ line small marked. old.lines line small (sym (keeps.lines k line there small) ∙ marked);
    marks = λ a in_block h. old.marks a in_block
        (elim (or_cases (is_start after a || is_pinned after a) (is_unlogged after a) h) as (λ _. IsTrue (is_start s a || is_pinned s a || is_unlogged s a)) [
          | inl either ↦ or_left (is_start s a || is_pinned s a) (is_unlogged s a) (or_left (is_start s a) (is_pinned s a)
              (elim (or_cases (is_start after a) (is_pinned after a) either) as (λ _. IsTrue (is_start s a)) [
                | inl start ↦ sym (keeps.starts a) ∙ start
                | inr pin ↦ (pins a pin).start
              ]))
          | inr unlog ↦ or_right (is_start s a || is_pinned s a) (is_unlogged s a) (keeps.unlogs a unlog)
        ]);
  }

  touched-after : (k line : ℕ) → IsTouched s k line → IsTouched after k line
  touched-after k line t = touched-as s after k line t refl (held-after t.object t.held) (size-after t.object t.held)

  touched-before : (k line : ℕ) → IsTouched after k line → IsTouched s k line
  touched-before k line t = let before = held-before t.object t.held in touched-as after s k line t refl before (sym (size-after t.object before))

  pub lines-after : (k : ℕ) → LineBitsAreExact s k → LineBitsAreExact after k
  lines-after k old = record {
    marked = λ line is small marked.
        let before : HasKind s k kinds.Immix = HasKind-back s w keeps.block_words k kinds.Immix is in
        let there : k < s.blocks = kind-in s w keeps.block_words k kinds.Immix before in
        ∥∥₁_map (old.marked line before small (sym (keeps.lines k line there small) ∙ marked)) (touched-after k line);
    touched = λ line is small t.
        let before : HasKind s k kinds.Immix = HasKind-back s w keeps.block_words k kinds.Immix is in
        let there : k < s.blocks = kind-in s w keeps.block_words k kinds.Immix before in
        keeps.lines k line there small ∙ old.touched line before small (touched-before k line t);
  }

  unowned-after : (k : ℕ) → k < s.blocks → IsUnowned s k → IsUnowned after k
  unowned-after k there old = record {
    code = subst (λ (v : ℕ). IsTrue (is_block_code v)) (sym (keeps.block_words k there)) old.code;
    owner = ap (λ v. v / 65536) (keeps.block_words k there) ∙ old.owner;
  }

  -- and if it is well formed afterwards, it is lawful if it was before
  lawful-words : IsLawful s → IsWellFormed after → IsLawful after
  lawful-words lawful order =
      let pins : (a : ℕ) → IsTrue (is_pinned after a) → IsHeld s a = λ a pin. held-before a (order.objects.marks a (or_left (is_pinned after a) (is_unlogged after a) pin)) in
      record {
        but_lines = record {
          order = order;
          blocks = λ k there. unowned-after k there (lawful.but_lines.blocks k there);
          free = λ k is. let before : HasKind s k kinds.Free = HasKind-back s w keeps.block_words k kinds.Free is in
              clear-after pins k (kind-in s w keeps.block_words k kinds.Free before) (lawful.but_lines.free k before);
        };
        lines = λ k. lines-after k (lawful.lines k);
      }

-- two heaps with the same layout and numbers differ only in their words
pub same-layout : (s t : HeapState) → t.blocks ≡ s.blocks → t.number ≡ s.number → t.base ≡ s.base → t ≡ with_words s t.words
same-layout s t blocks number base =
    let at : ℕ → ℕ → ℕ → HeapState = λ x y z. record { words = t.words; blocks = x; number = y; base = z } in
    ap (λ x. at x t.number t.base) blocks ∙ ap (λ y. at s.blocks y t.base) number ∙ ap (λ z. at s.blocks s.number z) base

-- if the objects stay and the heap is well formed, it is lawful if it was before
pub lawful-kept : (s t : HeapState) → ObjectsStay s t → IsLawful s → IsWellFormed t → IsLawful t
lawful-kept s t keeps lawful order =
    let same : t ≡ with_words s t.words = same-layout s t keeps.blocks keeps.number keeps.base in
    subst IsLawful (sym same) (lawful-words s t.words (subst (ObjectsStay s) same keeps) lawful (subst IsWellFormed same order))

-- the same addresses are held before and after
pub held-kept : (s t : HeapState) → ObjectsStay s t → (a : ℕ) → IsHeld s a ↔ IsHeld t a
held-kept s t keeps a = (
  λ h. record { address = subst (λ (b : ℕ). IsAddress b a) (sym keeps.blocks) h.address; start = keeps.starts a ∙ h.start },
  λ h. record { address = subst (λ (b : ℕ). IsAddress b a) keeps.blocks h.address; start = sym (keeps.starts a) ∙ h.start },
)
