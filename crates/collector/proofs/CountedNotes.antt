-- The note of a collection that reclaims nothing.
use Rattle.std.proofs.Common.{nat_eq, not, eq-eqb, ◌≡◌, ℕ, ◌+◌, ◌*◌, ◌<◌, inl, inr, Bool, true, false, ◌&&◌, nat_lt, true≢false, List, [], ◌∷◌, length, refl, sym, ap, ap₂, ◌∙◌, subst, arith}
use Rattle.std.specs.Prelude.{sum_by, if◌then◌else◌}
use Rattle.std.specs.List.{range_with_len}
use Rattle.std.proofs.lemmas.Bool.{cases_Bool, cases_lt, lt-ltb, and_right, and_from}
use Rattle.std.proofs.lemmas.List.Sums.{sum_by-cons}
use Rattle.heap_layout.specs.Zones.{row_words, heap_of}
use Rattle.heap_layout.specs.declared.block.Kind.TheVariants as kinds
use Rattle.object_model.specs.Objects.{HeapState, is_start, size_at, has_kind, block_count}
use Rattle.object_model.specs.Counting.{held_in, count_words_at}
use Rattle.object_model.specs.Times.{one_if}
use Rattle.object_model.specs.declared.collect.Collect.{Collect}
use Rattle.object_model.specs.declared.collect.Collect.TheVariants.{Full}
use Rattle.object_model.proofs.Counts.{counted}
use Rattle.object_model.proofs.HeldCounts.{below-none, no-start, held-count, held-words}
use Rattle.collector.specs.declared.outcome.Note.{Note}
use Rattle.racing_collector.specs.Together.{total}
use Rattle.collector.specs.Tallies.{stays_in_place, IsNote}

-- A collection that reclaims nothing preserves what is held, where it is.
sum-same : (f g : ℕ → ℕ) → ((a : ℕ) → f a ≡ g a) → (ns : List ℕ) → sum_by f ns ≡ sum_by g ns
sum-same f g same [] = refl
sum-same f g same (n ∷ ns) = sum_by-cons f n ns ∙ ap₂ (λ (a b : ℕ). a + b) (same n) (sum-same f g same ns) ∙ sym (sum_by-cons g n ns)

total-same : (b : ℕ) (f g : ℕ → ℕ) → ((a : ℕ) → f a ≡ g a) → total b f ≡ total b g
total-same b f g same = sum-same f g same (range_with_len 0 (row_words b))

not-nil : (s : HeapState) (a : ℕ) → is_start s a ≡ true → 0 < a
not-nil s a set = elim (cases_lt a (heap_of s.blocks)) as (λ _. 0 < a) [
  | inl before ↦ absurd (true≢false (sym set ∙ no-start s a before))
  | inr from ↦ omega (arith, from)
]

stays : (s : HeapState) (P : Bool → ℕ → Type 0) (a : ℕ) → (0 < a → P true a) → P false 0 → P (is_start s a) (stays_in_place s a)
stays s P a set clear = elim (cases_Bool (is_start s a)) as (λ _. P (is_start s a) (stays_in_place s a)) [
  | inl is ↦ subst (λ (b : Bool). P b (if b then a else 0)) (sym is) (set (not-nil s a is))
  | inr none ↦ subst (λ (b : Bool). P b (if b then a else 0)) (sym none) clear
]

pub note-counted : (c : Collect) (s new : HeapState) (note : Note) (n m : ℕ) → c ≡ Full → new ≡ counted s
    → n ≡ length (held_in s) → m ≡ count_words_at s (held_in s)
    → note.collect ≡ c → note.kept ≡ n → note.moved ≡ 0 → note.in_place ≡ n → note.kept_words ≡ m
    → note.free_blocks ≡ block_count s (λ k. has_kind s k kinds.Free) → IsNote c s (stays_in_place s) new note
note-counted c s new note n m full is objects words of kept moved left size free = subst (λ k. IsNote k s (stays_in_place s) new note) (sym full) (record {
  collect = of ∙ full;
  kept = kept ∙ objects ∙ held-count s ∙ total-same s.blocks _ _ (λ a. stays s (λ (b : Bool) (t : ℕ). one_if b ≡ one_if (nat_lt 0 t)) a
      (λ some. sym (ap one_if (lt-ltb 0 a some))) refl);
  moved = moved ∙ sym (total-none s.blocks _ (λ a. stays s (λ (b : Bool) (t : ℕ). one_if (nat_lt 0 t && not (nat_eq t a)) ≡ 0) a
      (λ some. ap one_if (and_right (nat_lt 0 a) (not (nat_eq a a)) (ap not (eq-eqb a a refl)))) refl));
  in_place = left ∙ objects ∙ held-count s ∙ total-same s.blocks _ _ (λ a. stays s (λ (b : Bool) (t : ℕ). one_if b ≡ one_if (nat_lt 0 t && nat_eq t a)) a
      (λ some. sym (ap one_if (and_from (nat_lt 0 a) (nat_eq a a) (lt-ltb 0 a some) (eq-eqb a a refl)))) refl);
  words = size ∙ words ∙ held-words s ∙ total-same s.blocks _ _ (λ a. stays s (λ (b : Bool) (t : ℕ). one_if b * size_at s a ≡ one_if (nat_lt 0 t) * size_at s a) a
      (λ some. sym (ap (λ b. one_if b * size_at s a) (lt-ltb 0 a some))) refl);
  free = subst (λ (h : HeapState). note.free_blocks ≡ block_count h (λ k. has_kind h k kinds.Free)) (sym is) free;
})
  where
    total-none : (b : ℕ) (f : ℕ → ℕ) → ((a : ℕ) → f a ≡ 0) → total b f ≡ 0
    total-none b f none = below-none f (row_words b) (λ a less. none a)
