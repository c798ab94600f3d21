-- A lawful heap whose stop word and budget word become 0.
use Rattle.std.proofs.Common.{◌≡◌, refl, sym, ◌∙◌, ap, subst, ℕ, ◌+◌, ◌*◌, ◌-◌, ◌/◌, ◌%◌, ◌^◌, ◌<◌, ◌≤◌, inl, inr, arith, Bool, ◌&&◌, ◌||◌, IsTrue, nat_lt, nat_le, List, length, slice_set, nat_eq}
use Rattle.std.proofs.Math.Path.{fun_ext}
use Rattle.std.specs.Int.{bit_at}
use Rattle.std.specs.List.{count_by, range_with_len}
use Rattle.std.proofs.lemmas.Bool.{cases_eq}
use Rattle.std.proofs.lemmas.List.{get_or-set_same, get_or-set_other, length-set}
use Rattle.heap_layout.specs.Zones.{Zone, Globals, BlockWords, LineWords, StartBits, PinBits, UnlogBits, row_words, heap_of, first, address_bit}
use Rattle.heap_layout.specs.declared.block.Kind.{Kind}
use Rattle.heap_layout.specs.declared.block.Kind.TheVariants as kinds
use Rattle.ideal_heap.specs.Ideal.{IdealHeap}
use Rattle.object_model.specs.Objects.{HeapState, word_at, global_at, is_pinned, is_unlogged, IsHeld, size_at, refs_at, ref_at, is_reference, has_kind}
use Rattle.object_model.specs.Lawful.{IsWellFormed, IsLawful}
use Rattle.object_model.specs.Graphs.{MutatorState, Represents, IsReachable, roots_of}
use Rattle.object_model.specs.Ages.{is_old, RemembersYoung}
use Rattle.object_model.specs.Changes.{ObjectsStay}
use Rattle.object_model.proofs.Frames as frames
use Rattle.object_model.proofs.Marks.{mark-same}
use Rattle.object_model.proofs.QuietStores.{quiet-order, quiet-models}
use Rattle.object_model.proofs.Representation as standing
use Rattle.sessions.specs.Plans.{Rules, Reserve}
use Rattle.sessions.specs.Collecting.{Remembers}
use Rattle.sessions.specs.Fitting.{allowance_of, free_of, large_of, counts_of}
use Rattle.sessions.specs.Grants.{allowance_in, counts_with}
use Rattle.heap_users.specs.Beginnings.{without_stop}
use Rattle.block_regions.specs.Notes.{FlagsCover}
use Rattle.block_regions.proofs.BlockFlags.{covers-kept}
use Rattle.block_regions.proofs.NoteLemmas.{KeepsBlocks}

module _ (s : HeapState) (lawful : IsLawful s) where
  order : IsWellFormed s
  order = lawful.but_lines.order

  cleared : List ℕ
  cleared = (without_stop s).words

  other : (q : ℕ) → 2 ≤ q → word_at (without_stop s) q ≡ word_at s q
  other q beyond = get_or-set_other (slice_set s.words 0 0) 1 q 0 0 (λ e. omega arith) ∙ get_or-set_other s.words 0 q 0 0 (λ e. omega arith)

  pub stop : word_at (without_stop s) 0 ≡ 0
  stop = get_or-set_other (slice_set s.words 0 0) 1 0 0 0 (λ e. omega arith)
      ∙ get_or-set_same s.words 0 0 0 (let many : length s.words ≡ row_words s.blocks = order.row.extent in omega arith)

  pub tickets : word_at (without_stop s) 1 ≡ 0
  tickets = get_or-set_same (slice_set s.words 0 0) 1 0 0
      (let many : length s.words ≡ row_words s.blocks = order.row.extent in
      let same : length (slice_set s.words 0 0) ≡ length s.words = length-set s.words 0 0 in omega arith)

  marks : (z : Zone) (x : ℕ) → 18 ≤ first s.blocks z → address_bit s.blocks z (without_stop s).words x ≡ address_bit s.blocks z s.words x
  marks z x beyond = mark-same s.blocks z s.words (without_stop s).words x (λ there.
      ap (λ word. nat_eq (bit_at word ((x - heap_of s.blocks) % 64)) 1) (other (first s.blocks z + (x - heap_of s.blocks) / 64) (omega arith)))

  pub keeps : ObjectsStay s (without_stop s)
  keeps = record {
    blocks = refl;
    number = refl;
    base = refl;
    extent = length-set (slice_set s.words 0 0) 1 0 ∙ length-set s.words 0 0;
    starts = λ x. marks StartBits x (omega arith);
    unlogs = λ x is. sym (marks UnlogBits x (omega arith)) ∙ is;
    lines = λ k line there few. ap (λ word. nat_eq (bit_at word ((256 * k + line) % 64)) 1) (other (first s.blocks LineWords + (256 * k + line) / 64) (omega arith));
    block_words = λ k there. other (first s.blocks BlockWords + k) (omega arith);
    headers = λ x k holds few. other (x + k) (let from : heap_of s.blocks ≤ x = holds.address.from in omega arith);
  }

  fits : (q : ℕ) → word_at (without_stop s) q < 2 ^ 64
  fits q = elim (cases_eq q 0) as (λ _. word_at (without_stop s) q < 2 ^ 64) [
    | inl zero ↦ (let e : word_at (without_stop s) q ≡ 0 = ap (word_at (without_stop s)) zero ∙ stop in omega arith)
    | inr some ↦ elim (cases_eq q 1) as (λ _. word_at (without_stop s) q < 2 ^ 64) [
      | inl one ↦ (let e : word_at (without_stop s) q ≡ 0 = ap (word_at (without_stop s)) one ∙ tickets in omega arith)
      | inr more ↦ subst (λ (x : ℕ). x < 2 ^ 64) (sym (other q (omega arith))) (order.row.words q)
    ]
  ]

  pins : (x : ℕ) → is_pinned (without_stop s) x ≡ is_pinned s x
  pins x = marks PinBits x (omega arith)

  globals : (g : ℕ) → g < 16 → global_at (without_stop s) g ≡ global_at s g
  globals g small = other (first s.blocks Globals + g) (omega arith)

  objects : (x i : ℕ) → IsHeld s x → i < size_at s x → word_at (without_stop s) (x + i) ≡ word_at s (x + i)
  objects x i holds less = other (x + i) (let from : heap_of s.blocks ≤ x = holds.address.from in omega arith)

  pub lawful-cleared : IsLawful (without_stop s)
  lawful-cleared = frames.lawful-kept s (without_stop s) keeps lawful
      (quiet-order s (without_stop s).words keeps order fits pins globals objects)

  pub represents-cleared : (ms : List MutatorState) (i : IdealHeap) → Represents s ms i → Represents (without_stop s) ms i
  represents-cleared ms i stands = standing.represents (without_stop s) ms i (IsReachable s (roots_of ms))
      (quiet-models s (without_stop s).words keeps order fits pins globals objects ms i (IsReachable s (roots_of ms)) (standing.models s ms i order stands))

  old-same : (x : ℕ) → is_old (without_stop s) x ≡ is_old s x
  old-same x = ap (λ word. age word) (other (x + 2) (omega arith))
    where
      age : ℕ → Bool
      age word = nat_lt 0 s.base && nat_le s.base (word / 2 ^ 24)

  fields-cleared : RemembersYoung s → (a i : ℕ) → IsHeld (without_stop s) a → IsTrue (is_old (without_stop s) a) → IsTrue (is_unlogged (without_stop s) a)
      → i < refs_at (without_stop s) a → IsTrue (is_reference (ref_at (without_stop s) a i))
      → IsHeld (without_stop s) (ref_at (without_stop s) a i) × IsTrue (is_old (without_stop s) (ref_at (without_stop s) a i))
  fields-cleared remembers a i holds aged unlogged less some =
      let before : IsHeld s a = frames.held-before s (without_stop s).words keeps a holds in
      let few : i < refs_at s a = subst (λ n. i < n) (frames.refs-after s (without_stop s).words keeps a before) less in
      let same : ref_at (without_stop s) a i ≡ ref_at s a i = other (a + 3 + i) (omega arith) in
      let there = remembers.fields a i before (sym (old-same a) ∙ aged) (keeps.unlogs a unlogged) few (subst (λ v. IsTrue (is_reference v)) same some) in
      subst (λ v. IsHeld (without_stop s) v × IsTrue (is_old (without_stop s) v)) (sym same)
      (frames.held-after s (without_stop s).words keeps (ref_at s a i) there.0, old-same (ref_at s a i) ∙ there.1)

  marks-cleared : RemembersYoung s → (a : ℕ) → IsHeld (without_stop s) a → IsTrue (is_unlogged (without_stop s) a) → IsTrue (is_old (without_stop s) a)
  marks-cleared remembers a holds unlogged = old-same a ∙ remembers.marked a (frames.held-before s (without_stop s).words keeps a holds) (keeps.unlogs a unlogged)

  pub remembers-cleared : (r : Rules) → Remembers r s → Remembers r (without_stop s)
  remembers-cleared r remembers young = record { fields = fields-cleared (remembers young); marked = marks-cleared (remembers young) }

  pub covers-cleared : (r : Rules) (flags : List Bool) → FlagsCover r s flags → FlagsCover r (without_stop s) flags
  covers-cleared r flags = covers-kept r s (without_stop s) flags refl (λ a is. record {
    held = frames.held-before s (without_stop s).words keeps a is.held;
    old = sym (old-same a) ∙ is.old;
    clear = sym (marks UnlogBits a (omega arith)) ∙ is.clear;
  })

  kinds-same : (k : ℕ) (kind : Kind) → has_kind (without_stop s) k kind ≡ has_kind s k kind
  kinds-same = frames.has_kind-same s (without_stop s).words keeps.block_words

  free-same : free_of (without_stop s) ≡ free_of s
  free-same = ap (λ f. count_by f (range_with_len 0 s.blocks)) (fun_ext (λ k. kinds-same k kinds.Free))

  large-same : large_of (without_stop s) ≡ large_of s
  large-same = ap (λ f. count_by f (range_with_len 0 s.blocks))
      (fun_ext (λ k. ap (λ b. b || has_kind (without_stop s) k kinds.LargeTail) (kinds-same k kinds.LargeHead) ∙ ap (λ b. has_kind s k kinds.LargeHead || b) (kinds-same k kinds.LargeTail)))

  pub counts-cleared : counts_of (without_stop s) ≡ counts_of s
  counts-cleared = ap (λ free. counts_with s.blocks free (large_of (without_stop s))) free-same ∙ ap (counts_with s.blocks (free_of s)) large-same

  pub keeps-blocks : KeepsBlocks s (without_stop s).words
  keeps-blocks = record {
    words = keeps.block_words;
    after = frames.held-after s (without_stop s).words keeps;
    before = frames.held-before s (without_stop s).words keeps;
    sizes = frames.size-after s (without_stop s).words keeps;
    lines = keeps.lines;
  }

  pub allowance-cleared : (r : Reserve) → allowance_of r (without_stop s) ≡ allowance_of r s
  allowance-cleared r = ap (λ free. allowance_in r (counts_with s.blocks free (large_of (without_stop s)))) free-same
      ∙ ap (λ large. allowance_in r (counts_with s.blocks (free_of s) large)) large-same
