-- A row of zeros.
use Rattle.std.proofs.Common.{◌≡◌, ◌≢◌, refl, sym, ◌∙◌, ap, subst, ℕ, ◌+◌, ◌-◌, ◌/◌, ◌%◌, ◌^◌, ◌<◌, ◌≤◌, inl, inr, arith, true, false, ◌||◌, replicate, slice_index, length, IsTrue, nat_eq, nat_lt, List, [], ◌∷◌, ◌++◌, None, Some, map, lit<}
use Rattle.std.specs.List.{AllByRecursion}
use Rattle.std.proofs.lemmas.List.{get_or-replicate, length-replicate, get_or_past}
use Rattle.std.proofs.Math.ListN.{get_or-append}
use Rattle.std.proofs.Math.Seq.{get_or-append_right}
use Rattle.std.proofs.lemmas.Bool.{cases_lt, and_parts, or_cases, eqb-true, and_from, lt-ltb, eq-eqb}
use Rattle.std.proofs.Math.Nat.{zero-div, zero-mod}
use Rattle.std.specs.Int.{bit_at}
use Rattle.heap_layout.specs.Zones.{Zone, StartBits, PinBits, UnlogBits, LineWords, row_words, first, bit_of, address_bit}
use Rattle.heap_layout.specs.Blocks.{is_block_code, kind_code}
use Rattle.heap_layout.specs.declared.block.Kind.{Kind}
use Rattle.heap_layout.specs.declared.block.Kind.TheVariants as kinds
use Rattle.heap_layout.proofs.MarkLemmas.{bit_from_mark}
use Rattle.ideal_heap.specs.declared.name.Name.{Name}
use Rattle.ideal_heap.specs.Names.{IsName}
use Rattle.ideal_heap.specs.Ideal.{empty}
use Rattle.ideal_heap.specs.Reach.{PathReaches, from_register, from_global, from_field}
use Rattle.object_model.specs.Objects.{HeapState, empty_heap, word_at, global_at, block_word, is_start, is_pinned, is_unlogged, IsHeld, HasKind, size_of, blocks_for}
use Rattle.object_model.specs.Lawful.{IsLawful}
use Rattle.object_model.specs.Ages.{RemembersYoung}
use Rattle.object_model.specs.Births.{IsLargeRoom}
use Rattle.object_model.specs.Graphs as graphs
use Rattle.object_model.specs.Graphs.{Represents, IsReachable, MutatorState, IsMutatorState, AreDifferent, new_mutator, numbers_of, roots_of, register_at, PointsTo}
use Rattle.object_model.specs.Agreement.{RepresentsOn}

abbrev pub zeros : ℕ → HeapState
zeros b = empty_heap b

pub zero_of : (n i : ℕ) → slice_index (replicate n 0) i ≡ 0
zero_of n i = elim (cases_lt i n) as (λ _. slice_index (replicate n 0) i ≡ 0) [
  | inl h ↦ get_or-replicate n i 0 0 h
  | inr h ↦ get_or_past (replicate n 0) i 0 (rw length-replicate h)
]

pub zero_word : (b i : ℕ) → word_at (zeros b) i ≡ 0
zero_word b i = zero_of (row_words b) i

no_bit : (n k : ℕ) → n ≡ 0 → IsTrue (nat_eq (bit_at n k) 1) → ⊥
no_bit n k e h =
    let f : bit_at n k ≡ 0 = ap (λ x. x / 2 ^ k % 2) e ∙ ap (λ x. x % 2) (zero-div (2 ^ k)) ∙ zero-mod 2 in
    let P : ℕ → Type 0 = λ x. IsTrue (nat_eq x 1) in
    let wrong : false ≡ true = subst P f h in
    cc

no_bit_of : (b : ℕ) (z : Zone) (n : ℕ) → IsTrue (bit_of b z (zeros b).words n) → ⊥
no_bit_of b z n h = no_bit _ (n % 64) (zero_word b (first b z + n / 64)) h

no_mark : (b : ℕ) (z : Zone) (a : ℕ) → IsTrue (address_bit b z (zeros b).words a) → ⊥
no_mark b z a h = no_bit_of b z _ (bit_from_mark b z (zeros b).words a h)

pub none_held : (b a : ℕ) → IsHeld (zeros b) a → ⊥
none_held b a held = no_mark b StartBits a held.start

either_mark : (b a : ℕ) → IsTrue (is_pinned (zeros b) a || is_unlogged (zeros b) a) → ⊥
either_mark b a h =
    elim (or_cases (is_pinned (zeros b) a) (is_unlogged (zeros b) a) h) [ inl p ↦ no_mark b PinBits a p | inr p ↦ no_mark b UnlogBits a p ]

any_mark : (b a : ℕ) → IsTrue (is_start (zeros b) a || is_pinned (zeros b) a || is_unlogged (zeros b) a) → ⊥
any_mark b a h =
    elim (or_cases (is_start (zeros b) a || is_pinned (zeros b) a) (is_unlogged (zeros b) a) h) [
      | inl p ↦ elim (or_cases (is_start (zeros b) a) (is_pinned (zeros b) a) p) [ inl q ↦ no_mark b StartBits a q | inr q ↦ no_mark b PinBits a q ]
      | inr p ↦ no_mark b UnlogBits a p
    ]

is_free : (b k : ℕ) → block_word (zeros b) k ≡ 0
is_free b k = zero_word b _

not_kind : (b k : ℕ) (kind : Kind) → 0 < kind_code kind → HasKind (zeros b) k kind → ⊥
not_kind b k kind h is =
    let same : IsTrue (nat_eq (block_word (zeros b) k % 256) (kind_code kind)) = (and_parts (nat_lt k b) _ is).1 in
    let code : block_word (zeros b) k % 256 ≡ kind_code kind = eqb-true _ _ same in
    let zero : block_word (zeros b) k % 256 ≡ 0 = ap (λ x. x % 256) (is_free b k) ∙ zero-mod 256 in
    omega arith

pub lawful : (b : ℕ) → 4 ≤ b → b ≤ 1024 → IsLawful (zeros b)
lawful b least most = record {
  but_lines = record {
    order = record {
      row = record {
        least = least;
        most = most;
        extent = length-replicate (row_words b) 0;
        words = λ i. let zero : word_at (zeros b) i ≡ 0 = zero_word b i in let P : ℕ → Type 0 = λ x. x < 2 ^ 64 in subst P (sym zero) (lit< tt);
        base = omega arith;
      };
      objects = record {
        headers = λ a held. absurd (none_held b a held);
        marks = λ a h. absurd (either_mark b a h);
        lies = λ a held. absurd (none_held b a held);
        apart = λ a x i held. absurd (none_held b a held);
        heads = λ k is. absurd (not_kind b k kinds.LargeHead (lit< tt) is);
        tails = λ k is. absurd (not_kind b k kinds.LargeTail (lit< tt) is);
        references = λ a i held. absurd (none_held b a held);
        globals = λ g small some. absurd (some (zero_word b _));
        names = λ a x held. absurd (none_held b a held);
      };
    };
    blocks = λ k in_row. record {
      code = let P : ℕ → Type 0 = λ v. IsTrue (is_block_code v) in subst P (sym (is_free b k)) refl;
      owner = ap (λ x. x / 65536) (is_free b k) ∙ zero-div 65536;
    };
    free = λ k is. record {
      empty = λ a i held. absurd (none_held b a held);
      lines = λ line small marked. no_bit_of b LineWords _ marked;
      marks = λ a there h. any_mark b a h;
    };
  };
  lines = λ k. record {
    marked = λ line is. absurd (not_kind b k kinds.Immix (lit< tt) is);
    touched = λ line is. absurd (not_kind b k kinds.Immix (lit< tt) is);
  };
}

-- no object is held
pub remembers : (b : ℕ) → RemembersYoung (zeros b)
remembers b = record { fields = λ a i holds. absurd (none_held b a holds); marked = λ a holds. absurd (none_held b a holds) }

kind-free : (b k : ℕ) → k < b → HasKind (zeros b) k kinds.Free
kind-free b k there = and_from (nat_lt k b) _ (lt-ltb k b there) (eq-eqb _ _ (ap (λ x. x % 256) (is_free b k) ∙ zero-mod 256))

-- a large object may be written where the blocks that it needs are the heap's
pub large-room : (b k refs nums : ℕ) (n : Name) → 4 ≤ b → b ≤ 1024 → IsName n → refs ≤ 1024 → nums ≤ 60000
    → 2048 < size_of refs nums → k + blocks_for (size_of refs nums) ≤ b → IsLargeRoom (zeros b) k n refs nums
large-room b k refs nums n least most named few_refs few_nums big inside = record {
  named = named;
  few_refs = few_refs;
  few_nums = few_nums;
  large = big;
  inside = inside;
  free = λ j less. kind-free b (k + j) (omega arith);
  clear = λ j less. (lawful b least most).but_lines.free (k + j) (kind-free b (k + j) (omega arith));
  fresh = λ x holds. absurd (none_held b x holds);
}

abbrev pub new_mutators : List ℕ → List MutatorState
new_mutators numbers = map new_mutator numbers

abbrev nils : List ℕ
nils = replicate 16 0

nil_root : (ms : List ℕ) (i : ℕ) → slice_index (roots_of (new_mutators ms)) i ≡ 0
nil_root [] i = refl
nil_root (m ∷ ms) i = elim (cases_lt i (length nils)) as (λ _. slice_index (nils ++ roots_of (new_mutators ms)) i ≡ 0) [
  | inl h ↦ get_or-append nils (roots_of (new_mutators ms)) 0 i h ∙ zero_of 16 i
  | inr h ↦ get_or-append_right nils (roots_of (new_mutators ms)) i 0 h ∙ nil_root ms (i - length nils)
]

nothing_arrives : (b : ℕ) (ms : List ℕ) (a : ℕ) → IsReachable (zeros b) (roots_of (new_mutators ms)) a → ⊥
nothing_arrives b ms a (graphs.from_root i e some) = let z : slice_index (roots_of (new_mutators ms)) i ≡ 0 = nil_root ms i in omega arith
nothing_arrives b ms a (graphs.from_global g small e some) = let z : global_at (zeros b) g ≡ 0 = zero_word b _ in omega arith
nothing_arrives b ms a (graphs.from_field x i there small e some) = nothing_arrives b ms x there

nothing_reached : (n : Name) → PathReaches empty n → ⊥
nothing_reached n (from_register m d e) = cc
nothing_reached n (from_global g e) = cc
nothing_reached n (from_field k i there e) = nothing_reached k there

not_some : {n : Name} → None ≡ Some n → ⊥
not_some e = cc

numbers-new_mutators : (ms : List ℕ) → numbers_of (new_mutators ms) ≡ ms
numbers-new_mutators [] = refl
numbers-new_mutators (m ∷ ms) = ap (λ xs. m ∷ xs) (numbers-new_mutators ms)

each : (ms : List ℕ) → AllByRecursion (λ m. (1 ≤ m) × (m ≤ 16)) ms → AllByRecursion IsMutatorState (new_mutators ms)
each [] h = tt
each (m ∷ ms) h = (record { least = h.0.0; most = h.0.1; registers = length-replicate {A = ℕ} 16 0 }, each ms h.1)

nil_registers : (b : ℕ) (ms : List ℕ) → AllByRecursion (λ m. (d : ℕ) → d < 16 → PointsTo (zeros b) (register_at m d) (empty.registers m.number d)) (new_mutators ms)
nil_registers b [] = tt
nil_registers b (m ∷ ms) = (λ d small. zero_of 16 d, nil_registers b ms)

no_births : (ms : List ℕ) → AllByRecursion (λ m. empty.births m.number ≡ m.births) (new_mutators ms)
no_births [] = tt
no_births (m ∷ ms) = (refl, no_births ms)

pub represents : (b : ℕ) (ms : List ℕ) → AllByRecursion (λ m. (1 ≤ m) × (m ≤ 16)) ms → AreDifferent ms → Represents (zeros b) (new_mutators ms) empty
represents b ms small differ = record {
  mutators = record {
    each = each ms small;
    differ = let P : List ℕ → Type 0 = AreDifferent in subst P (sym (numbers-new_mutators ms)) differ;
  };
  pointers = record {
    registers = nil_registers b ms;
    globals = λ g small. zero_word b _;
    confined = record { registers = λ m d n e. absurd (not_some e); globals = λ g n e. absurd (not_some e) };
  };
  births = record {
    births = no_births ms;
    held = λ a held. absurd (none_held b a held);
    pinned = λ n is. absurd (let wrong : false ≡ true = is in cc);
  };
  there = λ a arrives. absurd (nothing_arrives b ms a arrives);
  all = λ n reached. absurd (nothing_reached n reached);
  pins = λ a arrives. absurd (nothing_arrives b ms a arrives);
}

-- no object is held, so the empty heap represents the empty ideal heap on that set
pub models : (b : ℕ) → 4 ≤ b → b ≤ 1024 → (ms : List ℕ) → AllByRecursion (λ m. (1 ≤ m) × (m ≤ 16)) ms → AreDifferent ms → RepresentsOn (zeros b) (new_mutators ms) empty (IsHeld (zeros b))
models b least most ms small differ =
    let standing = represents b ms small differ in
    record {
      order = (lawful b least most).but_lines.order;
      mutators = standing.mutators;
      pointers = standing.pointers;
      births = standing.births;
      mirrors = record {
        held = λ a holds. holds;
        fields = λ a i holds. absurd (none_held b a holds);
        registers = nothing-held ms;
        globals = λ g small' some. absurd (some (zero_word b _));
        records = λ a holds. absurd (none_held b a holds);
        pins = λ a holds. absurd (none_held b a holds);
      };
    }
  where
    nothing-held : (ns : List ℕ) → AllByRecursion (λ m. (d : ℕ) → d < 16 → register_at m d ≢ 0 → IsHeld (zeros b) (register_at m d)) (new_mutators ns)
    nothing-held [] = tt
    nothing-held (n ∷ ns) = (λ d small' some. absurd (some (zero_of 16 d)), nothing-held ns)
