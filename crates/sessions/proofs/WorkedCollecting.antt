-- Tests that decide whether a heap is another one after a collection, where a list has each kept object's target.
use Rattle.std.proofs.Common.{◌≡◌, refl, sym, ◌∙◌, ap, subst, ℕ, zero, suc, ◌+◌, ◌*◌, ◌<◌, ◌≤◌, ◌≢◌, ◌⊎◌, inl, inr, arith, Bool, true, false, ◌&&◌, ◌||◌, not, IsTrue, nat_eq, nat_lt, nat_le, if◌then◌else◌, List, [], ◌∷◌, map, slice_index}
use Rattle.std.specs.List.{range_with_len, list_all, AllByRecursion}
use Rattle.std.proofs.lemmas.Bool.{and_parts, or_cases, cond-true, cond-false, true≢false, false≢true, eqb-true, ltb-true, ltb-false, leb-true, cases_Bool, lt-ltb, le-leb, eq-eqb, ne_eqb}
use Rattle.heap_layout.specs.Zones.{heap_of, block_at, block_start, StartBits}
use Rattle.heap_layout.specs.declared.block.Kind.TheVariants as kinds
use Rattle.heap_layout.proofs.MarkLemmas.{is-address_from_mark}
use Rattle.ideal_heap.specs.Names.{name_of}
use Rattle.object_model.specs.declared.collect.Collect.{Collect}
use Rattle.object_model.specs.declared.collect.Collect.TheVariants.{Nursery, Full}
use Rattle.object_model.specs.Objects.{HeapState, word_at, global_at, is_start, is_pinned, is_unlogged, IsHeld, number_at, refs_at, nums_at, size_at, ref_at, num_at, is_reference, IsInExtent, block_word, has_kind}
use Rattle.object_model.specs.Graphs as graphs
use Rattle.object_model.specs.Graphs.{IsReachable}
use Rattle.object_model.specs.Ages.{is_old, is_logged}
use Rattle.object_model.specs.Preserving.{SameObject, field_after}
use Rattle.sessions.specs.Plans.{Rules}
use Rattle.sessions.specs.Collecting as collecting
use Rattle.sessions.specs.Collecting.{Collects, IsNurseryReachable, IsPrecise, IsEmptied, BlockAfter, is_evacuated, is_old_under, is_logged_under, may_move, base_after, still_free}

-- tests

-- if the first test holds, the second does
abbrev pub if_so : Bool → Bool → Bool
if_so p q = not p || q

pub so : (p q : Bool) → if_so p q ≡ true → p ≡ true → q ≡ true
so true q both first = both
so false q both first = absurd (false≢true first)

-- both tests hold or neither
abbrev pub agree : Bool → Bool → Bool
agree true q = q
agree false q = not q

agree-same : (p q : Bool) → agree p q ≡ true → p ≡ q
agree-same true true both = refl
agree-same true false both = absurd (false≢true both)
agree-same false true both = absurd (false≢true both)
agree-same false false both = refl

-- what passes at each number of a range passes at one of them
pub each-passes : (p : ℕ → Bool) (from n : ℕ) → list_all p (range_with_len from n) ≡ true → (i : ℕ) → from ≤ i → i < from + n → p i ≡ true
each-passes p from zero all i least less = absurd (omega arith)
each-passes p from (suc n) all i least less =
    let both = and_parts (p from) (list_all p (range_with_len (from + 1) n)) all in
    elim (cases_Bool (nat_eq i from)) as (λ _. p i ≡ true) [
      | inl same ↦ ap p (eqb-true i from same) ∙ both.0
      | inr other ↦ (let away : nat_eq i from ≡ false = other in each-passes p (from + 1) n both.1 i (grind arith) (omega arith))
    ]

-- what passes at 0 and at each element passes at each index
index-passes : (p : ℕ → Bool) → p 0 ≡ true → (xs : List ℕ) → list_all p xs ≡ true → (i : ℕ) → p (slice_index xs i) ≡ true
index-passes p nil [] all i = nil
index-passes p nil (x ∷ xs) all zero = (and_parts (p x) (list_all p xs) all).0
index-passes p nil (x ∷ xs) all (suc i) = index-passes p nil xs (and_parts (p x) (list_all p xs) all).1 i

-- what passes at each word where an object may begin passes at each held object
abbrev pub at_objects : HeapState → (ℕ → Bool) → Bool
at_objects s p = list_all (λ a. if_so (is_start s a) (p a)) (range_with_len (heap_of s.blocks) (4096 * s.blocks))

pub object-passes : (s : HeapState) (p : ℕ → Bool) → at_objects s p ≡ true → (a : ℕ) → IsHeld s a → p a ≡ true
object-passes s p all a holds =
    so (is_start s a) (p a) (each-passes (λ x. if_so (is_start s x) (p x)) (heap_of s.blocks) (4096 * s.blocks) all a holds.address.from (let below = holds.address.below in omega arith)) holds.start

pub held-from : (s : HeapState) (a : ℕ) → is_start s a ≡ true → IsHeld s a
held-from s a start = record { address = is-address_from_mark s.blocks StartBits s.words a start; start = start }

-- targets

-- the second of the pair that begins with a, or 0
abbrev pub goes : List (ℕ × ℕ) → ℕ → ℕ
goes [] a = 0
goes (p ∷ ps) a = if nat_eq a p.0 then p.1 else goes ps a

abbrev pub back : List (ℕ × ℕ) → List (ℕ × ℕ)
back ps = map (λ p. (p.1, p.0)) ps

-- what is so of each first is so of each address with a target
pub goes-all : (Q : ℕ → Type 0) (ps : List (ℕ × ℕ)) → AllByRecursion (λ p. Q p.0) ps → (a : ℕ) → 0 < goes ps a → Q a
goes-all Q [] all a some = absurd (omega arith)
goes-all Q (p ∷ ps) all a some = by (goes-all Q ps all.1 a) (nat_eq a p.0) refl some
  where
    by : (0 < goes ps a → Q a) → (b : Bool) → nat_eq a p.0 ≡ b → 0 < (if b then p.1 else goes ps a) → Q a
    by later true same more = subst Q (sym (eqb-true a p.0 same)) all.0
    by later false other more = later more

pub goes-passes : (test : ℕ → Bool) (ps : List (ℕ × ℕ)) → list_all (λ p. test p.0) ps ≡ true → (a : ℕ) → 0 < goes ps a → test a ≡ true
goes-passes test [] all a some = absurd (omega arith)
goes-passes test (p ∷ ps) all a some = by (goes-passes test ps both.1 a) (nat_eq a p.0) refl some
  where
    both : (test p.0 ≡ true) × (list_all (λ q. test q.0) ps ≡ true)
    both = and_parts (test p.0) (list_all (λ q. test q.0) ps) all

    by : (0 < goes ps a → test a ≡ true) → (b : Bool) → nat_eq a p.0 ≡ b → 0 < (if b then p.1 else goes ps a) → test a ≡ true
    by later true same more = ap test (eqb-true a p.0 same) ∙ both.0
    by later false other more = later more

-- if not all fail, one passes
some-passes : (test held : ℕ → Bool) (ps : List (ℕ × ℕ)) → list_all (λ p. not (test p.0)) ps ≡ false → list_all (λ p. held p.0) ps ≡ true
    → ((a : ℕ) → test a ≡ true → held a ≡ true → ⊥) → ⊥
some-passes test held [] none all wrong = true≢false none
some-passes test held (p ∷ ps) none all wrong = by (λ rest. some-passes test held ps rest both.1 wrong) (test p.0) refl none
  where
    both : (held p.0 ≡ true) × (list_all (λ q. held q.0) ps ≡ true)
    both = and_parts (held p.0) (list_all (λ q. held q.0) ps) all

    by : (list_all (λ q. not (test q.0)) ps ≡ false → ⊥) → (b : Bool) → test p.0 ≡ b → not b && list_all (λ q. not (test q.0)) ps ≡ false → ⊥
    by later true is rest = wrong p.0 is both.0
    by later false is rest = later rest

-- blocks

-- what the test of a block says in each case
block-cases : (e f v i n t k o : Bool) → (if e then n else if f then t else if v && not i then k else o) ≡ true
    → (e ≡ true → n ≡ true) × (e ≡ false → f ≡ true → t ≡ true)
    × (e ≡ false → v ≡ true → (i ≡ true → ⊥) → (f ≡ true → ⊥) → k ≡ true)
    × (e ≡ false → (f ≡ true → ⊥) → (v ≡ true → i ≡ true) → o ≡ true)
block-cases true f v i n t k o h = (λ _. h, λ e. absurd (true≢false e), λ e. absurd (true≢false e), λ e. absurd (true≢false e))
block-cases false true v i n t k o h = (λ e. absurd (false≢true e), λ _ _. h, λ _ _ _ no. absurd (no refl), λ _ no. absurd (no refl))
block-cases false false true true n t k o h = (λ e. absurd (false≢true e), λ _ e. absurd (false≢true e), λ _ _ no. absurd (no refl), λ _ _ _. h)
block-cases false false true false n t k o h = (λ e. absurd (false≢true e), λ _ e. absurd (false≢true e), λ _ _ _ _. h, λ _ _ is. absurd (false≢true (is refl)))
block-cases false false false i n t k o h = (λ e. absurd (false≢true e), λ _ e. absurd (false≢true e), λ _ e. absurd (false≢true e), λ _ _ _. h)

-- an object at x has a word in block k
abbrev pub touches : HeapState → ℕ → ℕ → Bool
touches s k x = nat_eq (block_at s.blocks x) k || (nat_le x (block_start s.blocks k) && nat_lt (block_start s.blocks k) (x + size_at s x))

touches-from : (s : HeapState) (k x i : ℕ) → IsHeld s x → IsInExtent s x i → block_at s.blocks i ≡ k → touches s k x ≡ true
touches-from s k x i holds inside there =
    let from : heap_of s.blocks ≤ x = holds.address.from in
    let low : x ≤ i = inside.from in
    let high : i < x + size_at s x = inside.below in
    by (nat_eq (block_at s.blocks x) k) refl from low high
  where
    by : (b : Bool) → nat_eq (block_at s.blocks x) k ≡ b → heap_of s.blocks ≤ x → x ≤ i → i < x + size_at s x → b || (nat_le x (block_start s.blocks k) && nat_lt (block_start s.blocks k) (x + size_at s x)) ≡ true
    by true is from low high = refl
    by false is from low high =
        let apart : block_at s.blocks x ≢ k = λ e. true≢false (sym (eq-eqb (block_at s.blocks x) k e) ∙ is) in
        let one : nat_le x (block_start s.blocks k) ≡ true = le-leb _ _ (omega (arith, from, low, there, apart)) in
        let two : nat_lt (block_start s.blocks k) (x + size_at s x) ≡ true = lt-ltb _ _ (omega (arith, from, low, high, there, apart)) in
        ap (λ b. b && nat_lt (block_start s.blocks k) (x + size_at s x)) one ∙ two

-- no held object has a word in block k
pub emptied-from : (s : HeapState) (k : ℕ) → at_objects s (λ a. not (touches s k a)) ≡ true → IsEmptied s k
emptied-from s k none a i holds inside there =
    true≢false (sym (object-passes s (λ x. not (touches s k x)) none a holds) ∙ ap not (touches-from s k a i holds inside there))

pub not-emptied : (s : HeapState) (k x : ℕ) → IsHeld s x → touches s k x ≡ true → IsEmptied s k → ⊥
not-emptied s k x holds touch empty = elim (or_cases (nat_eq (block_at s.blocks x) k) (nat_le x (block_start s.blocks k) && nat_lt (block_start s.blocks k) (x + size_at s x)) touch) as (λ _. ⊥) [
  | inl here ↦ empty x x holds (record { from = omega arith; below = omega arith }) (eqb-true _ k here)
  | inr over ↦
      let both = and_parts (nat_le x (block_start s.blocks k)) (nat_lt (block_start s.blocks k) (x + size_at s x)) over in
      empty x (block_start s.blocks k) holds (record { from = leb-true _ _ both.0; below = ltb-true _ _ both.1 }) (omega arith)
]

module _ (r : Rules) (workers : ℕ) (c : Collect) (old new : HeapState) (roots roots' : List ℕ) (ps : List (ℕ × ℕ)) where
  abbrev target : ℕ → ℕ
  target = goes ps

  abbrev source : ℕ → ℕ
  source = goes (back ps)

  abbrev pub held_both : ℕ → Bool
  held_both a = is_start old a && is_start new (target a)

  abbrev pub alone : ℕ → Bool
  alone a = list_all (λ q. if_so (nat_eq (target a) (target q.0)) (nat_eq a q.0)) ps

  abbrev pub looks_same : ℕ → Bool
  looks_same a = nat_eq (word_at new (target a)) (word_at old a) && (nat_eq (refs_at new (target a)) (refs_at old a)
      && (nat_eq (nums_at new (target a)) (nums_at old a) && (agree (is_pinned new (target a)) (is_pinned old a)
      && list_all (λ j. nat_eq (num_at new (target a) j) (num_at old a j)) (range_with_len 0 (nums_at old a)))))

  abbrev pub has_target : ℕ → Bool
  has_target v = if_so (is_reference v) (nat_lt 0 (target v))

  abbrev pub field_follows : ℕ → ℕ → Bool
  field_follows a i = nat_eq (ref_at new (target a) i) (field_after target (ref_at old a i)) && has_target (ref_at old a i)

  abbrev pub fields_follow : ℕ → Bool
  fields_follow a = list_all (field_follows a) (range_with_len 0 (refs_at old a))

  abbrev pub stays_put : ℕ → Bool
  stays_put a = may_move r c old a || nat_eq (target a) a

  -- in a nursery collection an old object stays with its number, and another has that of the collection
  abbrev pub keeps_age : Collect → ℕ → Bool
  keeps_age Full a = true
  keeps_age Nursery a = if is_old_under r old a then nat_eq (target a) a && nat_eq (number_at new a) (number_at old a) else nat_eq (number_at new (target a)) new.number

  abbrev pub stays_as_it_may : ℕ → Bool
  stays_as_it_may a = stays_put a && keeps_age c a

  abbrev pub is_due : Collect → ℕ → Bool
  is_due Full a = true
  is_due Nursery a = not (is_old_under r old a)

  abbrev pub has_left : ℕ → Bool
  has_left a = if_so (is_due c a) (if_so (may_move r c old a) (if_so (nat_eq (target a) a) (nat_le (still_free old new) workers)))

  abbrev pub global_follows : ℕ → Bool
  global_follows g = nat_eq (global_at new g) (target (global_at old g)) && has_target (global_at old g)

  abbrev pub has_number : Collect → ℕ → Bool
  has_number Full x = nat_eq (number_at new x) new.number
  has_number Nursery x = true

  abbrev pub is_in_order : ℕ → Bool
  is_in_order x = nat_eq (target (source x)) x && (if_so r.young (is_old_under r new x) && (not (is_logged_under r new x)
      && (is_unlogged new x && has_number c x)))

  abbrev pub is_empty_in : ℕ → Bool
  is_empty_in k = list_all (λ p. not (touches new k (target p.0))) ps

  abbrev pub is_block_after : ℕ → Bool
  is_block_after k = if is_empty_in k then has_kind new k kinds.Free else if has_kind old k kinds.Free then has_kind new k r.copy
      else if is_evacuated r c old k && not (has_kind old k kinds.Immix) then has_kind new k kinds.Kept
      else nat_eq (block_word new k) (block_word old k)

  abbrev pub Each : (ℕ → Bool) → Type 0
  Each test = list_all (λ p. test p.0) ps ≡ true

  module _ (both : Each held_both) (once : Each alone) (same : Each looks_same) (fields : Each fields_follow) (put : Each stays_as_it_may) (left : Each has_left)
      (first_roots : list_all has_target roots ≡ true) (globals : list_all global_follows (range_with_len 0 16) ≡ true)
      (order : at_objects new is_in_order ≡ true) (blocks : list_all is_block_after (range_with_len 0 old.blocks) ≡ true)
      (registers : roots' ≡ map target roots) where
    passes : (test : ℕ → Bool) → Each test → (a : ℕ) → 0 < target a → test a ≡ true
    passes test all = goes-passes test ps all

    holds : (a : ℕ) → 0 < target a → (is_start old a ≡ true) × (is_start new (target a) ≡ true)
    holds a some = and_parts (is_start old a) (is_start new (target a)) (passes held_both both a some)

    nil : target 0 ≡ 0
    nil = elim (cases_Bool (nat_lt 0 (target 0))) as (λ _. target 0 ≡ 0) [
      | inl some ↦ (let address = (is-address_from_mark old.blocks StartBits old.words 0 (holds 0 (ltb-true 0 (target 0) some)).0).from in absurd (omega arith))
      | inr none ↦ (let least : target 0 ≤ 0 = ltb-false 0 (target 0) none in omega arith)
    ]

    follows : (a i : ℕ) → 0 < target a → i < refs_at old a → (nat_eq (ref_at new (target a) i) (field_after target (ref_at old a i)) ≡ true) × (has_target (ref_at old a i) ≡ true)
    follows a i some less =
        and_parts (nat_eq (ref_at new (target a) i) (field_after target (ref_at old a i))) (has_target (ref_at old a i))
        (each-passes (field_follows a) 0 (refs_at old a) (passes fields_follow fields a some) i (omega arith) (omega (arith, less)))

    aimed : (v : ℕ) → has_target v ≡ true → IsTrue (is_reference v) → 0 < target v
    aimed v has is = ltb-true 0 (target v) (so (is_reference v) (nat_lt 0 (target v)) has is)

    refers : (v : ℕ) → 0 < v → IsTrue (is_reference v)
    refers v some = ap not (ne_eqb v 0 (omega (arith, some)))

    global-both : (g : ℕ) → g < 16 → (nat_eq (global_at new g) (target (global_at old g)) ≡ true) × (has_target (global_at old g) ≡ true)
    global-both g few = and_parts (nat_eq (global_at new g) (target (global_at old g))) (has_target (global_at old g)) (each-passes global_follows 0 16 globals g (omega arith) (omega (arith, few)))

    root-aimed : (i a : ℕ) → slice_index roots i ≡ a → 0 < a → 0 < target a
    root-aimed i a e some = aimed a (subst (λ (v : ℕ). has_target v ≡ true) e (index-passes has_target refl roots first_roots i)) (refers a some)

    pub reached : (a : ℕ) → IsReachable old roots a → 0 < target a
    reached a (graphs.from_root i e some) = root-aimed i a e some
    reached a (graphs.from_global g few e some) = aimed a (subst (λ (v : ℕ). has_target v ≡ true) e (global-both g few).1) (refers a some)
    reached a (graphs.from_field x i before within e some) = aimed a (subst (λ (v : ℕ). has_target v ≡ true) e (follows x i (reached x before) within).1) some

    pub reached-young : at_objects old (λ a. if_so (is_old_under r old a) (nat_lt 0 (target a))) ≡ true → (a : ℕ) → IsNurseryReachable r old roots a → 0 < target a
    reached-young olds a (collecting.is_root i e some) = root-aimed i a e some
    reached-young olds a (collecting.is_global g few e some) = aimed a (subst (λ (v : ℕ). has_target v ≡ true) e (global-both g few).1) (refers a some)
    reached-young olds a (collecting.was_old held old_one) = ltb-true 0 (target a) (so (is_old_under r old a) (nat_lt 0 (target a)) (object-passes old (λ x. if_so (is_old_under r old x) (nat_lt 0 (target x))) olds a held) old_one)
    reached-young olds a (collecting.is_field x i before within e some) = aimed a (subst (λ (v : ℕ). has_target v ≡ true) e (follows x i (reached-young olds x before) within).1) some

    in-order : (x : ℕ) → IsHeld new x → (nat_eq (target (source x)) x ≡ true) × (if_so r.young (is_old_under r new x) ≡ true) × (not (is_logged_under r new x) ≡ true)
        × (is_unlogged new x ≡ true) × (has_number c x ≡ true)
    in-order x held =
        let first = and_parts (nat_eq (target (source x)) x) _ (object-passes new is_in_order order x held) in
        let aged = and_parts (if_so r.young (is_old_under r new x)) _ first.1 in
        let bits = and_parts (not (is_logged_under r new x)) _ aged.1 in
        let last = and_parts (is_unlogged new x) (has_number c x) bits.1 in
        (first.0, aged.0, bits.0, last.0, last.1)

    numbered : c ≡ Full → (x : ℕ) → IsHeld new x → number_at new x ≡ new.number
    numbered full x held = eqb-true (number_at new x) new.number (subst (λ (d : Collect). has_number d x ≡ true) full (in-order x held).4)

    onto : (x : ℕ) → IsHeld new x → (a : ℕ) × (0 < target a) × (target a ≡ x)
    onto x held =
        let e : target (source x) ≡ x = eqb-true (target (source x)) x (in-order x held).0 in
        let from = held.address.from in
        (source x, subst (λ (v : ℕ). 0 < v) (sym e) (omega arith), e)

    empty-if : (k : ℕ) → is_empty_in k ≡ true → IsEmptied new k
    empty-if k none x i held inside there =
        let from = onto x held in
        let off : not (touches new k (target from.0)) ≡ true = goes-passes (λ a. not (touches new k (target a))) ps none from.0 from.1 in
        let on : touches new k (target from.0) ≡ true = subst (λ (v : ℕ). touches new k v ≡ true) (sym from.2) (touches-from new k x i held inside there) in
        false≢true (sym (ap not on) ∙ off)

    not-empty-if : (k : ℕ) → is_empty_in k ≡ false → IsEmptied new k → ⊥
    not-empty-if k some empty = some-passes (λ a. touches new k (target a)) held_both ps some both
        (λ a touch held. not-emptied new k (target a) (held-from new (target a) (and_parts (is_start old a) (is_start new (target a)) held).1) touch empty)

    is-empty : (k : ℕ) → IsEmptied new k → is_empty_in k ≡ true
    is-empty k empty = elim (cases_Bool (is_empty_in k)) as (λ _. is_empty_in k ≡ true) [
      | inl is ↦ is
      | inr used ↦ absurd (not-empty-if k used empty)
    ]

    is-used : (k : ℕ) → (IsEmptied new k → ⊥) → is_empty_in k ≡ false
    is-used k full = elim (cases_Bool (is_empty_in k)) as (λ _. is_empty_in k ≡ false) [
      | inl is ↦ absurd (full (empty-if k is))
      | inr used ↦ used
    ]

    block-after : (k : ℕ) → k < old.blocks → BlockAfter r c old new k
    block-after k there =
        let cases = block-cases (is_empty_in k) (has_kind old k kinds.Free) (is_evacuated r c old k) (has_kind old k kinds.Immix)
        (has_kind new k kinds.Free) (has_kind new k r.copy) (has_kind new k kinds.Kept) (nat_eq (block_word new k) (block_word old k))
        (each-passes is_block_after 0 old.blocks blocks k (omega arith) (omega (arith, there))) in
        record {
          emptied = λ empty. cases.0 (is-empty k empty);
          taken = λ full free. cases.1 (is-used k full) free;
          kept = λ full evacuated no_lines no_free. cases.2 (is-used k full) evacuated no_lines no_free;
          others = λ full no_free lines. eqb-true (block_word new k) (block_word old k) (cases.3 (is-used k full) no_free lines);
        }

    same-object : (a : ℕ) → 0 < target a → SameObject old a new (target a)
    same-object a some =
        let x : ℕ = target a in
        let one = and_parts (nat_eq (word_at new (target a)) (word_at old a)) _ (passes looks_same same a some) in
        let two = and_parts (nat_eq (refs_at new (target a)) (refs_at old a)) _ one.1 in
        let three = and_parts (nat_eq (nums_at new (target a)) (nums_at old a)) _ two.1 in
        let four = and_parts (agree (is_pinned new (target a)) (is_pinned old a)) _ three.1 in
        record {
          name = ap name_of (eqb-true _ _ one.0);
          refs = eqb-true _ _ two.0;
          nums = eqb-true _ _ three.0;
          numbers = λ j less. eqb-true _ _ (each-passes (λ j. nat_eq (num_at new (target a) j) (num_at old a j)) 0 (nums_at old a) four.1 j (omega arith) (omega (arith, less)));
          pin = agree-same (is_pinned new (target a)) (is_pinned old a) four.0;
        }

    due : (a : ℕ) → (c ≡ Full) ⊎ (is_old_under r old a ≡ false) → is_due c a ≡ true
    due a which = by c refl which
      where
        by : (d : Collect) → c ≡ d → (d ≡ Full) ⊎ (is_old_under r old a ≡ false) → is_due d a ≡ true
        by Full e either = refl
        by Nursery e (inl wrong) = (let clash : Nursery ≡ Full = wrong in cc)
        by Nursery e (inr young) = ap not young

    moved-out : (a : ℕ) → 0 < target a → (c ≡ Full) ⊎ (is_old_under r old a ≡ false) → IsTrue (may_move r c old a) → target a ≡ a → still_free old new ≤ workers
    moved-out a some which may stays =
        leb-true (still_free old new) workers
        (so (nat_eq (target a) a) _
        (so (may_move r c old a) _
        (so (is_due c a) _ (passes has_left left a some) (due a which)) may) (eq-eqb (target a) a stays))

    age-kept : c ≡ Nursery → (a : ℕ) → 0 < target a → keeps_age Nursery a ≡ true
    age-kept young a some = subst (λ (d : Collect). keeps_age d a ≡ true) young (and_parts (stays_put a) (keeps_age c a) (passes stays_as_it_may put a some)).1

    claimed-one : c ≡ Nursery → (a : ℕ) → 0 < target a → is_old_under r old a ≡ false → number_at new (target a) ≡ new.number
    claimed-one young a some aged = eqb-true _ _ (sym (cond-false (is_old_under r old a) _ _ aged) ∙ age-kept young a some)

    old-one : c ≡ Nursery → (a : ℕ) → 0 < target a → IsTrue (is_old_under r old a) → (target a ≡ a) × (number_at new a ≡ number_at old a)
    old-one young a some aged =
        let both = and_parts (nat_eq (target a) a) (nat_eq (number_at new a) (number_at old a)) (sym (cond-true (is_old_under r old a) _ _ aged) ∙ age-kept young a some) in
        (eqb-true _ _ both.0, eqb-true _ _ both.1)

    pub collected : IsPrecise r c old roots target → ((a : ℕ) → IsReachable old roots a → 0 < target a) → new.number ≡ old.number + 1 → new.base ≡ base_after c new.number old.base → new.blocks ≡ old.blocks
        → Collects r workers c old roots new roots'
    collected precise reach number base layout = record {
      target = target;
      kept = record {
        nil = nil;
        held = λ a some. held-from old a (holds a some).0;
        one_to_one = λ a x some e.
            let other : 0 < target x = subst (λ (v : ℕ). 0 < v) e some in
            eqb-true a x (so (nat_eq (target a) (target x)) (nat_eq a x)
            (goes-passes (λ q. if_so (nat_eq (target a) (target q)) (nat_eq a q)) ps (passes alone once a some) x other) (eq-eqb _ _ e));
        there = λ a some. held-from new (target a) (holds a some).1;
        onto = onto;
        same = same-object;
        fields = λ a i some less. eqb-true _ _ (follows a i some less).0;
        closed = λ a i some less is. aimed (ref_at old a i) (follows a i some less).1 is;
        globals = λ g few. eqb-true _ _ (global-both g few).0;
        registers = registers;
        stays = λ a some still.
            elim (or_cases (may_move r c old a) (nat_eq (target a) a) (and_parts (stays_put a) (keeps_age c a) (passes stays_as_it_may put a some)).0) as (λ _. target a ≡ a) [
              | inl may ↦ absurd (false≢true (sym still ∙ may))
              | inr there ↦ eqb-true _ _ there
            ];
        reached = reach;
      };
      precise = precise;
      ages = λ x held young. so r.young (is_old_under r new x) (in-order x held).1 young;
      block = block-after;
      logged = λ x is.
          let first = and_parts r.young (is_logged new x) is in
          let started = (and_parts (is_start new x && is_old new x) (not (is_unlogged new x)) first.1).0 in
          let held : IsHeld new x = held-from new x (and_parts (is_start new x) (is_old new x) started).0 in
          true≢false (sym (in-order x held).2 ∙ ap not is);
      unlogged = λ x held. (in-order x held).3;
      numbers = numbered;
      claimed = claimed-one;
      stays = old-one;
      number = number;
      base = base;
      layout = layout;
      moved = moved-out;
    }

    -- a full collection preserves what the paths given reach
    pub collected-full : c ≡ Full → AllByRecursion (λ p. IsReachable old roots p.0) ps → new.number ≡ old.number + 1 → new.base ≡ new.number → new.blocks ≡ old.blocks → Collects r workers c old roots new roots'
    collected-full is each number base layout =
        collected (subst (λ (d : Collect). IsPrecise r d old roots target) (sym is) (λ a. (goes-all (IsReachable old roots) ps each a, reached a))) reached number
        (subst (λ (d : Collect). new.base ≡ base_after d new.number old.base) (sym is) base) layout

    -- a nursery collection preserves what the paths given reach, and each old object
    pub collected-nursery : c ≡ Nursery → at_objects old (λ a. if_so (is_old_under r old a) (nat_lt 0 (target a))) ≡ true → AllByRecursion (λ p. IsNurseryReachable r old roots p.0) ps
        → new.number ≡ old.number + 1 → new.base ≡ old.base → new.blocks ≡ old.blocks → Collects r workers c old roots new roots'
    collected-nursery is olds each number base layout =
        collected (subst (λ (d : Collect). IsPrecise r d old roots target) (sym is) (λ a. (goes-all (IsNurseryReachable r old roots) ps each a, reached-young olds a))) reached number
        (subst (λ (d : Collect). new.base ≡ base_after d new.number old.base) (sym is) base) layout
