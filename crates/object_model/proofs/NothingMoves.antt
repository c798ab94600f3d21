-- If nothing moves, all that a well-formed heap holds is preserved.
use Rattle.std.proofs.Common.{◌≡◌, refl, sym, ◌∙◌, ap, subst, ℕ, zero, suc, ◌<◌, ◌≤◌, inl, inr, arith, false, IsTrue, List, [], ◌∷◌, map, slice_index}
use Rattle.std.specs.Prelude.{if◌then◌else◌}
use Rattle.std.specs.List.{AllByRecursion}
use Rattle.std.proofs.lemmas.Bool.{cases_eq, cases_Bool, cond-true, cond-false}
use Rattle.heap_layout.specs.Zones.{heap_of}
use Rattle.object_model.specs.Objects.{HeapState, is_start, IsHeld, refs_at, ref_at, is_reference}
use Rattle.object_model.specs.Lawful.{IsWellFormed, IsRoot}
use Rattle.object_model.specs.Graphs as graphs
use Rattle.object_model.specs.Graphs.{IsReachable}
use Rattle.object_model.specs.Preserving.{SameObject, PreservesObjects, field_after}
use Rattle.object_model.proofs.Marks as marks
use Rattle.object_model.proofs.References.{refers-cases}

module _ (s : HeapState) where
  -- a held object stays, and no other address is a target
  abbrev pub place : ℕ → ℕ
  place a = if is_start s a then a else 0

  held-place : (a : ℕ) → IsHeld s a → place a ≡ a
  held-place a held = cond-true (is_start s a) a 0 held.start

  some-place : (a : ℕ) → IsHeld s a → 0 < place a
  some-place a held = let e : place a ≡ a = held-place a held in let from : heap_of s.blocks ≤ a = held.address.from in omega arith

  place-held : (a : ℕ) → 0 < place a → IsHeld s a
  place-held a some = elim (cases_Bool (is_start s a)) as (λ _. IsHeld s a) [
    | inl start ↦ marks.held s a start
    | inr none ↦ absurd (let e : place a ≡ 0 = cond-false (is_start s a) a 0 none in omega arith)
  ]

  place-same : (a : ℕ) → 0 < place a → place a ≡ a
  place-same a some = held-place a (place-held a some)

  nil-place : place 0 ≡ 0
  nil-place = elim (cases_Bool (is_start s 0)) as (λ _. place 0 ≡ 0) [ inl e ↦ cond-true (is_start s 0) 0 0 e | inr e ↦ cond-false (is_start s 0) 0 0 e ]

  root-place : (v : ℕ) → IsRoot s v → v ≡ place v
  root-place v root = elim (cases_eq v 0) as (λ _. v ≡ place v) [
    | inl nil ↦ nil ∙ sym (ap place nil ∙ nil-place)
    | inr some ↦ sym (held-place v (root some))
  ]

  root-at : (roots : List ℕ) (i : ℕ) → AllByRecursion (IsRoot s) roots → IsRoot s (slice_index roots i)
  root-at [] i all = λ some. absurd (some refl)
  root-at (v ∷ vs) zero all = all.0
  root-at (v ∷ vs) (suc i) all = root-at vs i all.1

  roots-place : (roots : List ℕ) → AllByRecursion (IsRoot s) roots → roots ≡ map place roots
  roots-place [] all = refl
  roots-place (v ∷ vs) all = ap (λ x. x ∷ vs) (root-place v all.0) ∙ ap (λ xs. place v ∷ xs) (roots-place vs all.1)

  module _ (roots : List ℕ) (order : IsWellFormed s) (all : AllByRecursion (IsRoot s) roots) where
    arrives-held : (a : ℕ) → IsReachable s roots a → IsHeld s a
    arrives-held a (graphs.from_root i e some) = subst (IsHeld s) e (root-at roots i all (λ nil. let same : a ≡ 0 = sym e ∙ nil in omega arith))
    arrives-held a (graphs.from_global g small e some) = subst (IsHeld s) e (order.objects.globals g small (λ nil. let same : a ≡ 0 = sym e ∙ nil in omega arith))
    arrives-held a (graphs.from_field x i before within e some) =
        subst (IsHeld s) e (order.objects.references x i (arrives-held x before) within (subst (λ (v : ℕ). IsTrue (is_reference v)) (sym e) some))

    field-place : (a i : ℕ) → 0 < place a → i < refs_at s a → ref_at s (place a) i ≡ field_after place (ref_at s a i)
    field-place a i some within = ap (λ x. ref_at s x i) (place-same a some) ∙ sym (elim (refers-cases (ref_at s a i)) as (λ _. field_after place (ref_at s a i) ≡ ref_at s a i) [
      | inl other ↦ cond-false (is_reference (ref_at s a i)) (place (ref_at s a i)) (ref_at s a i) other
      | inr is ↦ cond-true (is_reference (ref_at s a i)) (place (ref_at s a i)) (ref_at s a i) is
          ∙ held-place (ref_at s a i) (order.objects.references a i (place-held a some) within is)
    ])

    pub still : PreservesObjects (λ a. false) s roots (IsHeld s) s roots place
    still = record {
      nil = nil-place;
      held = place-held;
      one_to_one = λ a x some e. sym (place-same a some) ∙ e ∙ place-same x (subst (λ (y : ℕ). 0 < y) e some);
      there = λ a some. subst (IsHeld s) (sym (place-same a some)) (place-held a some);
      onto = λ x holds. (x, some-place x holds, held-place x holds);
      same = λ a some. subst (SameObject s a s) (sym (place-same a some)) (record { name = refl; refs = refl; nums = refl; numbers = λ j less. refl; pin = refl });
      fields = field-place;
      closed = λ a i some within is. some-place (ref_at s a i) (order.objects.references a i (place-held a some) within is);
      globals = λ g small. root-place _ (order.objects.globals g small);
      registers = roots-place roots all;
      stays = λ a some fixed. place-same a some;
      reached = λ a arrives. some-place a (arrives-held a arrives);
    }
