-- The heap invariant by tests that compute, for worked heaps.
use Rattle.std.proofs.Common.{◌≡◌, refl, sym, ◌∙◌, ap, ℕ, zero, suc, ◌+◌, ◌*◌, ◌-◌, ◌%◌, ◌^◌, ◌<◌, ◌≤◌, inl, inr, arith, Bool, true, false, ◌&&◌, ◌||◌, IsTrue, List, [], ◌∷◌, length, slice_index, nat_eq, nat_lt, nat_le}
use Rattle.std.specs.Prelude.{if◌then◌else◌, not, filter}
use Rattle.std.specs.List.{range_with_len, list_all, list_any}
use Rattle.std.proofs.lemmas.Bool.{and_parts, cases_Bool, cases_eq, eqb-true, leb-true, ltb-true, lt-ltb, le-leb, eq-eqb, cond-true, cond-false, or_cases, and_from}
use Rattle.heap_layout.specs.Zones.{row_words, heap_of, block_at, offset_at, block_start, IsAddress, StartBits, PinBits, UnlogBits}
use Rattle.heap_layout.proofs.MarkLemmas.{is-address_from_mark}
use Rattle.heap_layout.specs.Blocks.{is_block_code}
use Rattle.heap_layout.specs.declared.block.Kind.{Kind}
use Rattle.heap_layout.specs.declared.block.Kind.TheVariants as kinds
use Rattle.object_model.specs.Objects.{HeapState, word_at, global_at, block_word, has_kind, HasKind, class_at, owner_at, line_marked, is_start, is_pinned, is_unlogged, IsHeld, IsInExtent, name_at, refs_at, nums_at, size_at, number_at, target_at, ref_at, is_reference, cell_words, blocks_for}
use Rattle.object_model.specs.Ages.{is_old, RemembersYoung}
use Rattle.object_model.specs.Lawful.{IsLawful, IsWellFormed, HasHeader, LiesInBlock, LiesInRun, IsClear, IsRefField, IsRoot, has_small, is_in_run, IsTouched}
use Rattle.object_model.proofs.Marks as marks
use Rattle.object_model.proofs.OneKind.{kind-within}

pub implied : (p q : Bool) → (if p then q else true) ≡ true → p ≡ true → q ≡ true
implied true q h e = h
implied false q h e = absurd (let wrong : false ≡ true = e in cc)

-- what holds of each number in a range
pub in-range : (p : ℕ → Bool) (k n : ℕ) → list_all p (range_with_len k n) ≡ true → (m : ℕ) → k ≤ m → m < k + n → p m ≡ true
in-range p k zero all m low high = absurd (omega arith)
in-range p k (suc n) all m low high =
    let both = and_parts (p k) (list_all p (range_with_len (k + 1) n)) all in
    elim (cases_eq k m) as (λ _. p m ≡ true) [
      | inl same ↦ ap p (sym same) ∙ both.0
      | inr differ ↦ in-range p (k + 1) n both.1 m (omega arith) (omega arith)
    ]

-- what holds of each number below one
pub below : (p : ℕ → Bool) (n : ℕ) → list_all p (range_with_len 0 n) ≡ true → (m : ℕ) → m < n → p m ≡ true
below p n all m less = in-range p 0 n all m (omega arith) (omega arith)

-- what holds of each number in a range that passes a test
in-filter : (t p : ℕ → Bool) (k n : ℕ) → list_all p (filter t (range_with_len k n)) ≡ true → (m : ℕ) → k ≤ m → m < k + n → t m ≡ true → p m ≡ true
in-filter t p k zero all m low high is = absurd (omega arith)
in-filter t p k (suc n) all m low high is =
    elim (cases_Bool (t k)) as (λ _. p m ≡ true) [
      | inl first ↦
          let both = and_parts (p k) (list_all p (filter t (range_with_len (k + 1) n)))
          (sym (ap (list_all p) (cond-true (t k) (k ∷ filter t (range_with_len (k + 1) n)) (filter t (range_with_len (k + 1) n)) first)) ∙ all) in
          elim (cases_eq k m) as (λ _. p m ≡ true) [
            | inl same ↦ ap p (sym same) ∙ both.0
            | inr differ ↦ in-filter t p (k + 1) n both.1 m (omega arith) (omega arith) is
          ]
      | inr other ↦
          let rest = sym (ap (list_all p) (cond-false (t k) (k ∷ filter t (range_with_len (k + 1) n)) (filter t (range_with_len (k + 1) n)) other)) ∙ all in
          elim (cases_eq k m) as (λ _. p m ≡ true) [
            | inl same ↦ absurd (let wrong : false ≡ true = sym other ∙ ap t same ∙ is in cc)
            | inr differ ↦ in-filter t p (k + 1) n rest m (omega arith) (omega arith) is
          ]
    ]

pub in-list : (p : ℕ → Bool) (xs : List ℕ) → p 0 ≡ true → list_all p xs ≡ true → (i : ℕ) → p (slice_index xs i) ≡ true
in-list p [] none all i = none
in-list p (x ∷ xs) none all zero = (and_parts (p x) (list_all p xs) all).0
in-list p (x ∷ xs) none all (suc i) = in-list p xs none (and_parts (p x) (list_all p xs) all).1 i

some-of : (p q : ℕ → Bool) (xs : List ℕ) → list_any p xs ≡ true → list_all q xs ≡ true → (x : ℕ) × (p x ≡ true) × (q x ≡ true)
some-of p q [] any all = absurd (let wrong : false ≡ true = any in cc)
some-of p q (x ∷ xs) any all =
    let both = and_parts (q x) (list_all q xs) all in
    elim (or_cases (p x) (list_any p xs) any) as (λ _. (y : ℕ) × (p y ≡ true) × (q y ≡ true)) [
      | inl here ↦ (x, here, both.0)
      | inr later ↦ some-of p q xs later both.1
    ]

none-of : (p : ℕ → Bool) (xs : List ℕ) → list_any p xs ≡ false → list_all (λ x. not (p x)) xs ≡ true
none-of p [] none = refl
none-of p (x ∷ xs) none =
    elim (cases_Bool (p x)) as (λ _. list_all (λ y. not (p y)) (x ∷ xs) ≡ true) [
      | inl here ↦ absurd (let wrong : true ≡ false = sym (ap (λ b. b || list_any p xs) here) ∙ none in cc)
      | inr other ↦ and_from (not (p x)) _ (ap not other) (none-of p xs (sym (ap (λ b. b || list_any p xs) other) ∙ none))
    ]

filtered-out : (t : ℕ → Bool) (xs : List ℕ) → filter t xs ≡ [] → list_all (λ x. not (t x)) xs ≡ true
filtered-out t [] none = refl
filtered-out t (x ∷ xs) none =
    elim (cases_Bool (t x)) as (λ _. list_all (λ y. not (t y)) (x ∷ xs) ≡ true) [
      | inl here ↦ absurd (let wrong : x ∷ filter t xs ≡ [] = sym (cond-true (t x) (x ∷ filter t xs) (filter t xs) here) ∙ none in cc)
      | inr other ↦ and_from (not (t x)) _ (ap not other) (filtered-out t xs (sym (cond-false (t x) (x ∷ filter t xs) (filter t xs) other) ∙ none))
    ]

-- one of two tests fails
fails : (x y : Bool) → not (x && y) ≡ true → x ≡ true → y ≡ false
fails true true h e = absurd (let wrong : false ≡ true = h in cc)
fails true false h e = refl
fails false y h e = absurd (let wrong : false ≡ true = e in cc)

abbrev same : Bool → Bool → Bool
same x y = if x then y else not y

same-true : (x y : Bool) → same x y ≡ true → x ≡ y
same-true true y h = sym h
same-true false true h = absurd (let wrong : false ≡ true = h in cc)
same-true false false h = refl

-- the object at a has a word in the line
abbrev touches : HeapState → ℕ → ℕ → ℕ → Bool
touches s k line a = nat_lt a (block_start s.blocks k + 16 * (line + 1)) && nat_lt (block_start s.blocks k + 16 * line) (a + size_at s a)

abbrev cell_of : HeapState → ℕ → ℕ
cell_of s a = cell_words (class_at s (block_at s.blocks a))

abbrev in_cell : HeapState → ℕ → Bool
in_cell s a = nat_eq (offset_at s.blocks a % cell_of s a) 0 && (nat_le (size_at s a) (cell_of s a) && nat_le (offset_at s.blocks a + cell_of s a) 4096)

abbrev in_run : HeapState → ℕ → Bool
in_run s a =
    let k : ℕ = block_at s.blocks a in
    let n : ℕ = blocks_for (size_at s a) in
    nat_eq (offset_at s.blocks a) 0 && (has_kind s k kinds.LargeHead && (nat_eq (class_at s k) n && (nat_le (k + n) s.blocks
    && list_all (λ j. has_kind s (k + j) kinds.LargeTail) (range_with_len 1 (n - 1)))))

abbrev is_named : HeapState → ℕ → Bool
is_named s a =
    nat_le 1 (name_at s a).mutator && (nat_le (name_at s a).mutator 16 && (nat_le 1 (name_at s a).birth && nat_lt (name_at s a).birth (2 ^ 32)))

abbrev addresses : HeapState → List ℕ
addresses s = range_with_len (heap_of s.blocks) (4096 * s.blocks)

-- The heap passes each test. The list has the addresses of its held objects.
pub record PassesTests (s : HeapState) (hs : List ℕ) : Type 0 where
  pub held : filter (is_start s) (addresses s) ≡ hs
  pub starts : list_all (is_start s) hs ≡ true
  pub least : nat_le 4 s.blocks ≡ true
  pub most : nat_le s.blocks 1024 ≡ true
  pub extent : length s.words ≡ row_words s.blocks
  pub words : (i : ℕ) → word_at s i < 2 ^ 64
  pub base : nat_le s.base s.number ≡ true
  pub named : list_all (is_named s) hs ≡ true
  pub refs : list_all (λ a. nat_le (refs_at s a) 1024) hs ≡ true
  pub nums : list_all (λ a. nat_le (nums_at s a) 60000) hs ≡ true
  pub number : list_all (λ a. nat_le (number_at s a) s.number) hs ≡ true
  pub target : list_all (λ a. if nat_lt 0 (number_at s a) then nat_eq (target_at s a) a else true) hs ≡ true
  pub marks : filter (λ a. (is_pinned s a || is_unlogged s a) && not (is_start s a)) (addresses s) ≡ []
  pub within : list_all (λ a. if nat_le (size_at s a) 2048 then nat_le (offset_at s.blocks a + size_at s a) 4096 else true) hs ≡ true
  pub kind : list_all (λ a. if nat_le (size_at s a) 2048 then has_small s (block_at s.blocks a) else true) hs ≡ true
  pub cell : list_all (λ a. if nat_le (size_at s a) 2048 then (if has_kind s (block_at s.blocks a) kinds.Cells then in_cell s a else true) else true) hs ≡ true
  pub run : list_all (λ a. if nat_lt 2048 (size_at s a) then in_run s a else true) hs ≡ true
  pub apart : list_all (λ a. list_all (λ x. nat_eq a x || (nat_le (a + size_at s a) x || nat_le (x + size_at s x) a)) hs) hs ≡ true
  pub heads : list_all (λ k. if has_kind s k kinds.LargeHead then is_start s (block_start s.blocks k) && nat_lt 2048 (size_at s (block_start s.blocks k)) else true)
      (range_with_len 0 s.blocks) ≡ true
  pub tails : list_all (λ k. if has_kind s k kinds.LargeTail then is_in_run s k else true) (range_with_len 0 s.blocks) ≡ true
  pub references : list_all (λ a. list_all (λ i. if is_reference (ref_at s a i) then is_start s (ref_at s a i) else true) (range_with_len 0 (refs_at s a))) hs ≡ true
  pub globals : list_all (λ g. nat_eq (global_at s g) 0 || is_start s (global_at s g)) (range_with_len 0 16) ≡ true
  pub names : list_all (λ a. list_all (λ x. nat_eq a x || not (nat_eq (name_at s a).mutator (name_at s x).mutator && nat_eq (name_at s a).birth (name_at s x).birth)) hs) hs ≡ true
  pub codes : list_all (λ k. is_block_code (block_word s k)) (range_with_len 0 s.blocks) ≡ true
  pub owners : list_all (λ k. nat_eq (owner_at s k) 0) (range_with_len 0 s.blocks) ≡ true
  pub free_words : list_all (λ k. if has_kind s k kinds.Free then list_all (λ a. nat_lt (block_at s.blocks (a + size_at s a - 1)) k || nat_lt k (block_at s.blocks a)) hs else true)
      (range_with_len 0 s.blocks) ≡ true
  pub free_lines : list_all (λ k. if has_kind s k kinds.Free then list_all (λ line. not (line_marked s k line)) (range_with_len 0 256) else true) (range_with_len 0 s.blocks) ≡ true
  pub free_marks : filter (λ a. (is_start s a || is_pinned s a || is_unlogged s a) && has_kind s (block_at s.blocks a) kinds.Free) (addresses s) ≡ []
  pub lines : list_all (λ k. if has_kind s k kinds.Immix then list_all (λ line. same (line_marked s k line) (list_any (touches s k line) hs)) (range_with_len 0 256) else true)
      (range_with_len 0 s.blocks) ≡ true

-- what the tests of the held objects' list say of each held object
pub held-test : (s : HeapState) (hs : List ℕ) → filter (is_start s) (addresses s) ≡ hs → (p : ℕ → Bool) → list_all p hs ≡ true → (a : ℕ) → IsHeld s a → p a ≡ true
held-test s hs held p all a holds =
    let from : heap_of s.blocks ≤ a = holds.address.from in
    let below : a < row_words s.blocks = holds.address.below in
    in-filter (is_start s) p (heap_of s.blocks) (4096 * s.blocks) (ap (list_all p) held ∙ all) a from (omega arith) holds.start

-- an object is held where the tests compute so
pub held-at : (s : HeapState) (a : ℕ) → is_start s a ≡ true → IsHeld s a
held-at s a start = marks.held s a start

-- none is held if no start bit is set
pub none-held-by : (s : HeapState) → filter (is_start s) (addresses s) ≡ [] → (a : ℕ) → IsHeld s a → ⊥
none-held-by s none a holds = let wrong : false ≡ true = held-test s [] none (λ x. false) refl a holds in cc

-- a reference of an object goes to an old one
abbrev refers_old : HeapState → ℕ → ℕ → Bool
refers_old s a i = if is_reference (ref_at s a i) then is_start s (ref_at s a i) && is_old s (ref_at s a i) else true

-- an object whose unlog bit is set is old, and each of its references goes to an old one
abbrev pub remembers_at : HeapState → ℕ → Bool
remembers_at s a = if is_unlogged s a then is_old s a && list_all (refers_old s a) (range_with_len 0 (refs_at s a)) else true

pub remembers : (s : HeapState) (hs : List ℕ) → filter (is_start s) (addresses s) ≡ hs → list_all (remembers_at s) hs ≡ true → RemembersYoung s
remembers s hs held all = record {
  fields = λ a i holds old unlogged less some. (
      let both = and_parts (is_start s (ref_at s a i)) _
      (implied (is_reference (ref_at s a i)) _ (below (refers_old s a) (refs_at s a) (passes a holds unlogged).1 i less) some) in
      (held-at s (ref_at s a i) both.0, both.1));
  marked = λ a holds unlogged. (passes a holds unlogged).0;
}
  where
    passes : (a : ℕ) → IsHeld s a → IsTrue (is_unlogged s a) → IsTrue (is_old s a) × (list_all (refers_old s a) (range_with_len 0 (refs_at s a)) ≡ true)
    passes a holds unlogged = and_parts (is_old s a) _ (implied (is_unlogged s a) _ (held-test s hs held (remembers_at s) all a holds) unlogged)

module _ (s : HeapState) (hs : List ℕ) (tests : PassesTests s hs) where
  each-held : (p : ℕ → Bool) → list_all p hs ≡ true → (a : ℕ) → IsHeld s a → p a ≡ true
  each-held p all a holds = held-test s hs tests.held p all a holds

  each-mark : (p : ℕ → Bool) → list_all p (addresses s) ≡ true → (a : ℕ) → heap_of s.blocks ≤ a → a < row_words s.blocks → p a ≡ true
  each-mark p all a from below = in-range p (heap_of s.blocks) (4096 * s.blocks) all a from (omega arith)

  each-kind : (kind : Kind) (p : ℕ → Bool) → list_all (λ k. if has_kind s k kind then p k else true) (range_with_len 0 s.blocks) ≡ true → (k : ℕ) → HasKind s k kind → p k ≡ true
  each-kind kind p all k is =
      let within : k < s.blocks = kind-within s k kind is in
      implied (has_kind s k kind) (p k) (in-range (λ j. if has_kind s j kind then p j else true) 0 s.blocks all k (omega arith) (omega arith)) is

  block-passes : (p : ℕ → Bool) → list_all p (range_with_len 0 s.blocks) ≡ true → (k : ℕ) → k < s.blocks → p k ≡ true
  block-passes p all k within = in-range p 0 s.blocks all k (omega arith) (omega arith)

  header : (a : ℕ) → IsHeld s a → HasHeader s a
  header a holds =
      let name = name_at s a in
      let parts = and_parts (nat_le 1 name.mutator) _ (each-held (is_named s) tests.named a holds) in
      let more = and_parts (nat_le name.mutator 16) _ parts.1 in
      let last = and_parts (nat_le 1 name.birth) _ more.1 in
      record {
        object = record {
          name = record { least = leb-true _ _ parts.0; most = leb-true _ _ more.0; born = leb-true _ _ last.0; fits = ltb-true _ _ last.1 };
          refs = leb-true _ _ (each-held (λ x. nat_le (refs_at s x) 1024) tests.refs a holds);
          nums = leb-true _ _ (each-held (λ x. nat_le (nums_at s x) 60000) tests.nums a holds);
        };
        number = leb-true _ _ (each-held (λ x. nat_le (number_at s x) s.number) tests.number a holds);
        target = λ some. eqb-true _ _ (implied (nat_lt 0 (number_at s a)) (nat_eq (target_at s a) a)
            (each-held (λ x. if nat_lt 0 (number_at s x) then nat_eq (target_at s x) x else true) tests.target a holds) (lt-ltb 0 (number_at s a) some));
      }

  small-in-block : (a : ℕ) → IsHeld s a → size_at s a ≤ 2048 → LiesInBlock s a (size_at s a)
  small-in-block a holds small =
      let is : nat_le (size_at s a) 2048 ≡ true = le-leb _ _ small in
      record {
        address = holds.address;
        within = leb-true _ _ (implied (nat_le (size_at s a) 2048) _
            (each-held (λ x. if nat_le (size_at s x) 2048 then nat_le (offset_at s.blocks x + size_at s x) 4096 else true) tests.within a holds) is);
        kind = implied (nat_le (size_at s a) 2048) _ (each-held (λ x. if nat_le (size_at s x) 2048 then has_small s (block_at s.blocks x) else true) tests.kind a holds) is;
        cell = λ cells.
            let fits : in_cell s a ≡ true = implied (has_kind s (block_at s.blocks a) kinds.Cells) (in_cell s a) (implied (nat_le (size_at s a) 2048) _
            (each-held (λ x. if nat_le (size_at s x) 2048 then (if has_kind s (block_at s.blocks x) kinds.Cells then in_cell s x else true) else true) tests.cell a holds) is) cells in
            let parts = and_parts (nat_eq (offset_at s.blocks a % cell_of s a) 0) _ fits in
            let more = and_parts (nat_le (size_at s a) (cell_of s a)) _ parts.1 in
            record { start = eqb-true _ _ parts.0; room = leb-true _ _ more.0; within = leb-true _ _ more.1 };
      }

  large-in-run : (a : ℕ) → IsHeld s a → 2048 < size_at s a → LiesInRun s a (size_at s a)
  large-in-run a holds large =
      let k : ℕ = block_at s.blocks a in
      let n : ℕ = blocks_for (size_at s a) in
      let fits : in_run s a ≡ true = implied (nat_lt 2048 (size_at s a)) (in_run s a)
      (each-held (λ x. if nat_lt 2048 (size_at s x) then in_run s x else true) tests.run a holds) (lt-ltb _ _ large) in
      let one = and_parts (nat_eq (offset_at s.blocks a) 0) _ fits in
      let two = and_parts (has_kind s k kinds.LargeHead) _ one.1 in
      let three = and_parts (nat_eq (class_at s k) n) _ two.1 in
      let four = and_parts (nat_le (k + n) s.blocks) _ three.1 in
      record {
        address = holds.address;
        start = eqb-true _ _ one.0;
        run = record {
          head = two.0;
          class = eqb-true _ _ three.0;
          inside = leb-true _ _ four.0;
          tails = λ j some less. in-range (λ i. has_kind s (k + i) kinds.LargeTail) 1 (n - 1) four.1 j some (omega (arith, some, less));
        };
      }

  no-overlap : (a x i : ℕ) → IsHeld s a → IsHeld s x → IsInExtent s a i → IsInExtent s x i → a ≡ x
  no-overlap a x i holds holds' inside inside' =
      let row = each-held (λ y. list_all (λ z. nat_eq y z || (nat_le (y + size_at s y) z || nat_le (z + size_at s z) y)) hs) tests.apart a holds in
      let pair = each-held (λ z. nat_eq a z || (nat_le (a + size_at s a) z || nat_le (z + size_at s z) a)) row x holds' in
      let from : a ≤ i = inside.from in
      let below : i < a + size_at s a = inside.below in
      let from' : x ≤ i = inside'.from in
      let below' : i < x + size_at s x = inside'.below in
      elim (or_cases (nat_eq a x) _ pair) as (λ _. a ≡ x) [
        | inl equal ↦ eqb-true a x equal
        | inr apart ↦ elim (or_cases (nat_le (a + size_at s a) x) _ apart) as (λ _. a ≡ x) [
          | inl before ↦ absurd (let e : a + size_at s a ≤ x = leb-true _ _ before in omega arith)
          | inr past ↦ absurd (let e : x + size_at s x ≤ a = leb-true _ _ past in omega arith)
        ]
      ]

  different-names : (a x : ℕ) → IsHeld s a → IsHeld s x → name_at s a ≡ name_at s x → a ≡ x
  different-names a x holds holds' equal =
      let row = each-held (λ y. list_all (λ z. nat_eq y z || not (nat_eq (name_at s y).mutator (name_at s z).mutator && nat_eq (name_at s y).birth (name_at s z).birth)) hs) tests.names a holds in
      let pair = each-held (λ z. nat_eq a z || not (nat_eq (name_at s a).mutator (name_at s z).mutator && nat_eq (name_at s a).birth (name_at s z).birth)) row x holds' in
      elim (or_cases (nat_eq a x) _ pair) as (λ _. a ≡ x) [
        | inl e ↦ eqb-true a x e
        | inr differ ↦ absurd (
            let both : (nat_eq (name_at s a).mutator (name_at s x).mutator && nat_eq (name_at s a).birth (name_at s x).birth) ≡ true =
            and_from _ _ (eq-eqb _ _ (ap (λ n. n.mutator) equal)) (eq-eqb _ _ (ap (λ n. n.birth) equal)) in
            let wrong : false ≡ true = sym (ap not both) ∙ differ in cc)
      ]

  root-held : (g : ℕ) → g < 16 → IsRoot s (global_at s g)
  root-held g small some =
      let test = in-range (λ i. nat_eq (global_at s i) 0 || is_start s (global_at s i)) 0 16 tests.globals g (omega arith) (omega arith) in
      elim (or_cases (nat_eq (global_at s g) 0) _ test) as (λ _. IsHeld s (global_at s g)) [
        | inl nil ↦ absurd (some (eqb-true _ _ nil))
        | inr start ↦ marks.held s (global_at s g) start
      ]

  field-held : (a i : ℕ) → IsHeld s a → i < refs_at s a → IsRefField s (ref_at s a i)
  field-held a i holds within some =
      let row = each-held (λ y. list_all (λ j. if is_reference (ref_at s y j) then is_start s (ref_at s y j) else true) (range_with_len 0 (refs_at s y))) tests.references a holds in
      marks.held s (ref_at s a i) (implied (is_reference (ref_at s a i)) _
      (in-range (λ j. if is_reference (ref_at s a j) then is_start s (ref_at s a j) else true) 0 (refs_at s a) row i (omega arith) (omega arith)) some)

  mark-held : (a : ℕ) → IsTrue (is_pinned s a || is_unlogged s a) → IsHeld s a
  mark-held a marked =
      let there : IsAddress s.blocks a = elim (or_cases (is_pinned s a) (is_unlogged s a) marked) as (λ _. IsAddress s.blocks a) [
        | inl pin ↦ is-address_from_mark s.blocks PinBits s.words a pin
        | inr unlog ↦ is-address_from_mark s.blocks UnlogBits s.words a unlog
      ] in
      let alone : not (is_start s a) ≡ false = fails (is_pinned s a || is_unlogged s a) (not (is_start s a))
      (each-mark _ (filtered-out (λ x. (is_pinned s x || is_unlogged s x) && not (is_start s x)) (addresses s) tests.marks) a there.from there.below) marked in
      elim (cases_Bool (is_start s a)) as (λ _. IsHeld s a) [
        | inl start ↦ marks.held s a start
        | inr none ↦ absurd (let wrong : true ≡ false = sym (ap not none) ∙ alone in cc)
      ]

  order : IsWellFormed s
  order = record {
    row = record {
      least = leb-true _ _ tests.least;
      most = leb-true _ _ tests.most;
      extent = tests.extent;
      words = tests.words;
      base = leb-true _ _ tests.base;
    };
    objects = record {
      headers = header;
      marks = mark-held;
      lies = λ a holds. record { small = small-in-block a holds; large = large-in-run a holds };
      apart = no-overlap;
      heads = λ k is.
          let both = and_parts (is_start s (block_start s.blocks k)) _ (each-kind kinds.LargeHead
          (λ j. is_start s (block_start s.blocks j) && nat_lt 2048 (size_at s (block_start s.blocks j))) tests.heads k is) in
          (marks.held s (block_start s.blocks k) both.0, ltb-true _ _ both.1);
      tails = each-kind kinds.LargeTail (is_in_run s) tests.tails;
      references = field-held;
      globals = root-held;
      names = different-names;
    };
  }

  clear : (k : ℕ) → HasKind s k kinds.Free → IsClear s k
  clear k is = record {
    empty = λ a i holds inside there.
        let row = each-kind kinds.Free (λ j. list_all (λ x. nat_lt (block_at s.blocks (x + size_at s x - 1)) j || nat_lt j (block_at s.blocks x)) hs) tests.free_words k is in
        let from : a ≤ i = inside.from in
        let below : i < a + size_at s a = inside.below in
        elim (or_cases (nat_lt (block_at s.blocks (a + size_at s a - 1)) k) _ (each-held (λ x. nat_lt (block_at s.blocks (x + size_at s x - 1)) k || nat_lt k (block_at s.blocks x)) row a holds)) [
          | inl before ↦ (let e : block_at s.blocks (a + size_at s a - 1) < k = ltb-true _ _ before in omega arith)
          | inr past ↦ (let e : k < block_at s.blocks a = ltb-true _ _ past in omega arith)
        ];
    lines = λ line less marked.
        let row = each-kind kinds.Free (λ j. list_all (λ l. not (line_marked s j l)) (range_with_len 0 256)) tests.free_lines k is in
        let off : not (line_marked s k line) ≡ true = in-range (λ l. not (line_marked s k l)) 0 256 row line (omega arith) (omega arith) in
        let wrong : false ≡ true = sym (ap not marked) ∙ off in cc;
    marks = λ a there marked.
        let address : IsAddress s.blocks a = elim (or_cases (is_start s a || is_pinned s a) (is_unlogged s a) marked) as (λ _. IsAddress s.blocks a) [
          | inl first ↦ elim (or_cases (is_start s a) (is_pinned s a) first) as (λ _. IsAddress s.blocks a) [
            | inl start ↦ is-address_from_mark s.blocks StartBits s.words a start
            | inr pin ↦ is-address_from_mark s.blocks PinBits s.words a pin
          ]
          | inr unlog ↦ is-address_from_mark s.blocks UnlogBits s.words a unlog
        ] in
        let off : has_kind s (block_at s.blocks a) kinds.Free ≡ false = fails (is_start s a || is_pinned s a || is_unlogged s a) (has_kind s (block_at s.blocks a) kinds.Free)
        (each-mark _ (filtered-out (λ x. (is_start s x || is_pinned s x || is_unlogged s x) && has_kind s (block_at s.blocks x) kinds.Free) (addresses s) tests.free_marks)
        a address.from address.below) marked in
        let wrong : true ≡ false = sym (ap (λ j. has_kind s j kinds.Free) there ∙ is) ∙ off in cc;
  }

  exact : (k line : ℕ) → HasKind s k kinds.Immix → line < 256 → line_marked s k line ≡ list_any (touches s k line) hs
  exact k line is less =
      let row = each-kind kinds.Immix (λ j. list_all (λ l. same (line_marked s j l) (list_any (touches s j l) hs)) (range_with_len 0 256)) tests.lines k is in
      same-true _ _ (in-range (λ l. same (line_marked s k l) (list_any (touches s k l) hs)) 0 256 row line (omega arith) (omega arith))

  touched-line : (k line : ℕ) → HasKind s k kinds.Immix → line < 256 → IsTrue (line_marked s k line) → IsTouched s k line
  touched-line k line is less marked =
      let some = some-of (touches s k line) (is_start s) hs (sym (exact k line is less) ∙ marked) tests.starts in
      let a : ℕ = some.0 in
      let both = and_parts (nat_lt a (block_start s.blocks k + 16 * (line + 1))) _ some.1 in
      let before : a < block_start s.blocks k + 16 * (line + 1) = ltb-true _ _ both.0 in
      let past : block_start s.blocks k + 16 * line < a + size_at s a = ltb-true _ _ both.1 in
      record { object = a; held = marks.held s a some.2; touches = record { from = omega arith; below = omega arith } }

  marked-line : (k line : ℕ) → HasKind s k kinds.Immix → line < 256 → IsTouched s k line → IsTrue (line_marked s k line)
  marked-line k line is less touched =
      let a : ℕ = touched.object in
      let from : heap_of s.blocks + 16 * (256 * k + line) < a + size_at s a = touched.touches.from in
      let below : a < heap_of s.blocks + 16 * (256 * k + line + 1) = touched.touches.below in
      let there : touches s k line a ≡ true = and_from _ _ (lt-ltb a (block_start s.blocks k + 16 * (line + 1)) (omega arith)) (lt-ltb (block_start s.blocks k + 16 * line) (a + size_at s a) (omega arith)) in
      elim (cases_Bool (list_any (touches s k line) hs)) as (λ _. IsTrue (line_marked s k line)) [
        | inl any ↦ exact k line is less ∙ any
        | inr none ↦ absurd (
            let off : not (touches s k line a) ≡ true = each-held (λ x. not (touches s k line x)) (none-of (touches s k line) hs none) a touched.held in
            let wrong : false ≡ true = sym (ap not there) ∙ off in cc)
      ]

  pub lawful : IsLawful s
  lawful = record {
    but_lines = record {
      order = order;
      blocks = λ k within. record {
        code = block-passes (λ j. is_block_code (block_word s j)) tests.codes k within;
        owner = eqb-true _ _ (block-passes (λ j. nat_eq (owner_at s j) 0) tests.owners k within);
      };
      free = clear;
    };
    lines = λ k. record {
      marked = λ line is less marked. ∣ touched-line k line is less marked ∣₁;
      touched = marked-line k;
    };
  }
