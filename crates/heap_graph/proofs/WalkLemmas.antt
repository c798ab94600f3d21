-- What a walk has visited, as addresses are appended.
use Rattle.std.proofs.Common.{◌≡◌, ◌≢◌, refl, sym, ◌∙◌, ap, subst, ℕ, ◌+◌, ◌<◌, ◌≤◌, inl, inr, arith, Bool, true, false, ◌||◌, List, [], ◌∷◌, ◌++◌, length, slice_index, slice_index_or, nat_eq, IsTrue, append_assoc}
use Rattle.std.specs.List.{All, IsDistinct, list_any}
use Rattle.std.proofs.lemmas.List.{append-nil, get_or_default, length-append}
use Rattle.std.proofs.Math.ListN.{get_or-append}
use Rattle.std.proofs.lemmas.List.Elements.{All-append, All-cons, All-nil, All-weaker, All-push, All-get_or}
use Rattle.std.proofs.lemmas.List.Folds.{list_any-append}
use Rattle.std.proofs.lemmas.Map.Keys.{IsDistinct-push}
use Rattle.std.proofs.lemmas.Map.Steps.{length-le_from_distinct_below}
use Rattle.std.proofs.lemmas.Map.Views.{Contains-from_any}
use Rattle.std.proofs.lemmas.Cmp.{nat_eq_equiv}
use Rattle.std.proofs.lemmas.Bool.{cases_eq, cases_lt, eq-eqb, eqb-true, ne_eqb}
use Rattle.heap_layout.specs.Zones.{IsAddress, row_words}
use Rattle.heap_graph.specs.declared.walk.Walk.{Walk}
use Rattle.heap_graph.specs.AddressSets.{has_address}
use Rattle.object_model.specs.Objects.{HeapState, IsHeld, refs_at, ref_at}
use Rattle.object_model.specs.Graphs.{IsReachable, from_field}
use Rattle.object_model.proofs.References.{refers}
use Rattle.heap_graph.specs.Walks.{met, is_among, IsWalk, Adds, HasFields, ClosesFields}

-- an address in the list stays in it

pub among-more : (xs ys : List ℕ) (a : ℕ) → IsTrue (is_among xs a) → IsTrue (is_among (xs ++ ys) a)
among-more xs ys a there = list_any-append (nat_eq a) xs ys ∙ ap (λ b. b || list_any (nat_eq a) ys) there

or-true : (b : Bool) → (b || (true || false)) ≡ true
or-true true = refl
or-true false = refl

pub among-pushed : (xs : List ℕ) (a : ℕ) → IsTrue (is_among (xs ++ a ∷ []) a)
among-pushed xs a =
    let itself : nat_eq a a ≡ true = eq-eqb a a refl in
    list_any-append (nat_eq a) xs (a ∷ []) ∙ ap (λ b. list_any (nat_eq a) xs || (b || false)) itself ∙ or-true (list_any (nat_eq a) xs)

or-false : (b : Bool) → (b || (false || false)) ≡ b
or-false true = refl
or-false false = refl

pub among-other : (xs : List ℕ) (a x : ℕ) → x ≢ a → is_among (xs ++ a ∷ []) x ≡ is_among xs x
among-other xs a x other =
    let apart : nat_eq x a ≡ false = ne_eqb x a other in
    list_any-append (nat_eq x) xs (a ∷ []) ∙ ap (λ b. list_any (nat_eq x) xs || (b || false)) apart ∙ or-false (list_any (nat_eq x) xs)

distinct-none : IsDistinct nat_eq []
unfolding IsDistinct
distinct-none = tt

fields-more : (s : HeapState) (xs ys : List ℕ) (a : ℕ) → HasFields s xs a → HasFields s (xs ++ ys) a
fields-more s xs ys a has_address i less some = among-more xs ys (ref_at s a i) (has_address i less some)

-- one address

pub adds-known : (xs : List ℕ) (a : ℕ) → IsTrue (is_among xs a) → Adds (λ _. a) 1 xs xs
adds-known xs a there = record { more = []; is = sym (append-nil xs); only = λ k d below. absurd (omega arith); there = λ i less some. there }

adds-pushed : (xs : List ℕ) (a : ℕ) → a ≢ 0 → Adds (λ _. a) 1 xs (xs ++ a ∷ [])
adds-pushed xs a some =
    let P : ℕ → Type 0 = λ x. (i : ℕ) × (i < 1) × (a ≡ x) × (x ≢ 0) in
    record {
      more = a ∷ [];
      is = refl;
      only = All-cons P a [] (0, omega arith, refl, some) (All-nil P);
      there = λ i less some. among-pushed xs a;
    }

-- several addresses

pub adds-nothing : (f : ℕ → ℕ) (xs : List ℕ) → Adds f 0 xs xs
adds-nothing f xs = record { more = []; is = sym (append-nil xs); only = λ k d below. absurd (omega arith); there = λ i less some. absurd (omega arith) }

pub adds-next : (f : ℕ → ℕ) (n a : ℕ) (old mid new : List ℕ) → a ≡ f n → Adds f n old mid → Adds (λ _. a) 1 mid new → Adds f (n + 1) old new
adds-next f n a old mid new is first last =
    let P : ℕ → Type 0 = λ x. (i : ℕ) × (i < n + 1) × (f i ≡ x) × (x ≢ 0) in
    record {
      more = first.more ++ last.more;
      is = last.is ∙ ap (λ l. l ++ last.more) first.is ∙ append_assoc old first.more last.more;
      only = All-append P first.more last.more
          (All-weaker (λ x. (i : ℕ) × (i < n) × (f i ≡ x) × (x ≢ 0)) P (λ x h. (h.0, omega arith, h.2, h.3)) first.more first.only)
          (All-weaker (λ x. (i : ℕ) × (i < 1) × (a ≡ x) × (x ≢ 0)) P (λ x h. (n, omega arith, sym is ∙ h.2, h.3)) last.more last.only);
      there = λ i less some. elim (cases_lt i n) as (λ _. IsTrue (is_among new (f i))) [
        | inl before ↦ subst (λ l. IsTrue (is_among l (f i))) (sym last.is) (among-more mid last.more (f i) (first.there i before some))
        | inr late ↦
            let same : i ≡ n = omega arith in
            let value : a ≡ f i = is ∙ ap f (sym same) in
            subst (λ x. IsTrue (is_among new x)) value (last.there 0 (omega arith) (λ nil. some (sym value ∙ nil)))
      ];
    }

pub more-met : (old new : List ℕ) (f : ℕ → ℕ) (n : ℕ) → Adds f n old new → length old ≤ length new
more-met old new f n adds = omega (arith, length-append old adds.more, ap length adds.is)

-- fields

pub closes-nothing : (s : HeapState) (xs : List ℕ) → ClosesFields s 0 xs xs
closes-nothing s xs = record { kept = λ a there. there; closed = λ k less. absurd (omega arith); reached = λ roots all. all }

pub closes-next : (s : HeapState) (n a : ℕ) (old mid new : List ℕ) → n < length mid → a ≡ slice_index mid n → ClosesFields s n old mid → Adds (ref_at s a) (refs_at s a) mid new
    → ClosesFields s (n + 1) old new
closes-next s n a old mid new inside is first last =
    let same : (k : ℕ) → k < length mid → slice_index new k ≡ slice_index mid k = λ k less. ap (λ l. slice_index l k) last.is ∙ get_or-append mid last.more 0 k less in
    record {
      kept = λ x there. subst (λ l. IsTrue (is_among l x)) (sym last.is) (among-more mid last.more x (first.kept x there));
      closed = λ k less. elim (cases_lt k n) as (λ _. HasFields s new (slice_index new k)) [
        | inl before ↦
            let there : k < length mid = omega arith in
            subst (HasFields s new) (sym (same k there)) (subst (λ l. HasFields s l (slice_index mid k)) (sym last.is) (fields-more s mid last.more (slice_index mid k) (first.closed k before)))
        | inr late ↦
            let there : k ≡ n = omega arith in
            let value : a ≡ slice_index new k = is ∙ sym (same n inside) ∙ ap (slice_index new) (sym there) in
            subst (HasFields s new) value last.there
      ];
      reached = λ roots all.
          let before : All (IsReachable s roots) mid = first.reached roots all in
          let here : IsReachable s roots a = subst (IsReachable s roots) (sym is) (All-get_or (IsReachable s roots) mid n 0 inside before) in
          subst (All (IsReachable s roots)) (sym last.is) (All-append (IsReachable s roots) mid last.more before
          (All-weaker (λ x. (i : ℕ) × (i < refs_at s a) × (ref_at s a i ≡ x) × (x ≢ 0)) (IsReachable s roots)
          (λ x h. from_field a h.0 here h.1 h.2 (refers x h.3)) last.more last.only));
    }

-- the walk itself

pub met-at : (w : Walk) (k a : ℕ) → k < length (met w) → a ≡ slice_index_or (met w) k a → a ≡ slice_index (met w) k
met-at w k a inside is = is ∙ sym (get_or_default (met w) k 0 a inside)

-- it visits at most as many objects as the row has words
pub met-most : (s : HeapState) (w : Walk) → IsWalk s w → length (met w) ≤ row_words s.blocks
met-most s w walk = length-le_from_distinct_below (met w) (row_words s.blocks) walk.apart (λ q there.
    let place = Contains-from_any eqb-true q (met w) there in
    let held : IsHeld s (slice_index_or (met w) place.0 q) = walk.held place.0 q place.1 in
    subst (λ x. x < row_words s.blocks) place.2 held.address.below)

pub walk-empty : (s : HeapState) (w : Walk) → met w ≡ [] → w.visited.layout.blocks ≡ s.blocks → ((a : ℕ) → has_address w.visited a ≡ false) → IsWalk s w
walk-empty s w none blocks empty = record {
  blocks = blocks;
  visited = λ a at. empty a ∙ ap (λ l. is_among l a) (sym none);
  held = subst (All (IsHeld s)) (sym none) (All-nil (IsHeld s));
  apart = subst (IsDistinct nat_eq) (sym none) distinct-none;
}

pub walk-known : (s : HeapState) (w w' : Walk) (a : ℕ) → IsWalk s w → met w' ≡ met w → w'.visited.layout.blocks ≡ w.visited.layout.blocks
    → has_address w.visited a ≡ true → has_address w'.visited a ≡ true → ((x : ℕ) → IsAddress w.visited.layout.blocks x → x ≢ a → has_address w'.visited x ≡ has_address w.visited x)
    → IsWalk s w'
walk-known s w w' a walk same_met blocks had has' others = record {
  blocks = blocks ∙ walk.blocks;
  visited = λ x at. elim (cases_eq x a) as (λ _. has_address w'.visited x ≡ is_among (met w') x) [
    | inl same ↦ ap (has_address w'.visited) same ∙ has' ∙ sym had ∙ ap (has_address w.visited) (sym same) ∙ walk.visited x at ∙ ap (λ l. is_among l x) (sym same_met)
    | inr other ↦ others x (subst (λ b. IsAddress b x) (sym walk.blocks) at) other ∙ walk.visited x at ∙ ap (λ l. is_among l x) (sym same_met)
  ];
  held = subst (All (IsHeld s)) (sym same_met) walk.held;
  apart = subst (IsDistinct nat_eq) (sym same_met) walk.apart;
}

pub adds-address : (w w' : Walk) (a : ℕ) → a ≢ 0 → met w' ≡ met w ++ a ∷ [] → Adds (λ _. a) 1 (met w) (met w')
adds-address w w' a some now = subst (Adds (λ _. a) 1 (met w)) (sym now) (adds-pushed (met w) a some)

pub walk-pushed : (s : HeapState) (w w' : Walk) (a : ℕ) → IsWalk s w → IsHeld s a → met w' ≡ met w ++ a ∷ []
    → w'.visited.layout.blocks ≡ w.visited.layout.blocks → has_address w.visited a ≡ false → has_address w'.visited a ≡ true
    → ((x : ℕ) → IsAddress w.visited.layout.blocks x → x ≢ a → has_address w'.visited x ≡ has_address w.visited x)
    → IsWalk s w'
walk-pushed s w w' a walk held now blocks had has' others =
    let new : is_among (met w) a ≡ false = sym (walk.visited a held.address) ∙ had in
    record {
      blocks = blocks ∙ walk.blocks;
      visited = λ x at. elim (cases_eq x a) as (λ _. has_address w'.visited x ≡ is_among (met w') x) [
        | inl same ↦ ap (has_address w'.visited) same ∙ has' ∙ sym (among-pushed (met w) a) ∙ ap (is_among (met w ++ a ∷ [])) (sym same) ∙ ap (λ l. is_among l x) (sym now)
        | inr other ↦ others x (subst (λ b. IsAddress b x) (sym walk.blocks) at) other ∙ walk.visited x at ∙ sym (among-other (met w) a x other) ∙ ap (λ l. is_among l x) (sym now)
      ];
      held = subst (All (IsHeld s)) (sym now) (All-push (IsHeld s) (met w) a walk.held held);
      apart = subst (IsDistinct nat_eq) (sym now) (IsDistinct-push nat_eq_equiv (met w) a walk.apart new);
    }
