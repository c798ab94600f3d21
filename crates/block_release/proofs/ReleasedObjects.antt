-- The objects of a row are lawful once its blocks were released, if those that live are what preserved objects became.
use Rattle.std.proofs.Common.{◌≡◌, ◌≢◌, sym, ◌∙◌, ap, subst, ℕ, ◌+◌, ◌%◌, ◌<◌, ◌≤◌, inl, inr, arith, Bool, IsTrue, nat_eq, nat_le, List, add-zero}
use Rattle.std.proofs.lemmas.Bool.{true≢false, cond-true, cond-false, and_parts, eqb-true}
use Rattle.forward_word.specs.CollectorWords.{number_in, target_in}
use Rattle.heap_layout.specs.Zones.{first, Globals}
use Rattle.ideal_heap.specs.Names.{name_of}
use Rattle.object_model.specs.declared.collect.Collect.{Collect}
use Rattle.object_model.specs.Objects.{HeapState, word_at, global_at, IsHeld, IsInExtent, name_at, refs_at, number_at, target_at, ref_at, is_reference}
use Rattle.object_model.specs.Lawful.{HasObject, HasHeader}
use Rattle.object_model.specs.Ages.{Lives}
use Rattle.object_model.specs.Preserving.{PreservesObjects, field_after}
use Rattle.object_model.proofs.ObjectParts.{AreObjectsRight}
use Rattle.object_model.proofs.References.{refers-cases}
use Rattle.sessions.specs.Plans.{Rules}
use Rattle.block_release.proofs.Alike.{object-after}
use Rattle.block_sweeps.proofs.LargeRuns.{object}
use Rattle.block_release.proofs.Fates as fates
use Rattle.block_release.proofs.Fates.{IsAllReleased}

module _ {r : Rules} {c : Collect} {base : ℕ} {s : HeapState} {w : List ℕ} {number age : ℕ} (all : IsAllReleased r c base s w number age) where
  abbrev new : HeapState
  new = record { words = w; blocks = s.blocks; number = number; base = age }

  lives-of : (a : ℕ) → IsHeld new a → Lives base s a
  lives-of = fates.held-lives all

  word-same : (a o : ℕ) → IsHeld new a → word_at new (a + o) ≡ word_at s (a + o)
  word-same = fates.word-same all

  pub refs-same : (a : ℕ) → IsHeld new a → refs_at new a ≡ refs_at s a
  refs-same a there = ap (λ v. v % 65536) (word-same a 1 there)

  pub name-same : (a : ℕ) → IsHeld new a → name_at new a ≡ name_at s a
  name-same a there = ap name_of (ap (word_at new) (sym (add-zero a)) ∙ word-same a 0 there ∙ ap (word_at s) (add-zero a))

  pub field-same : (a i : ℕ) → IsHeld new a → ref_at new a i ≡ ref_at s a i
  field-same a i there = let e : a + 3 + i ≡ a + (3 + i) = omega arith in ap (word_at new) e ∙ word-same a (3 + i) there ∙ ap (word_at s) (sym e)

  pub global-same : (g : ℕ) → g < 16 → global_at new g ≡ global_at s g
  global-same g few = fates.low-word all (first s.blocks Globals + g) (omega arith)

  inside : (a i : ℕ) → IsHeld new a → IsInExtent new a i → IsInExtent s a i
  inside = fates.inside-before all

  -- objects, by what they were before the trace
  module _ (moves : ℕ → Bool) (old : HeapState) (roots roots' : List ℕ) (F : ℕ → ℕ) (kept : PreservesObjects moves old roots (Lives base s) s roots' F)
      (low : (a : ℕ) → Lives base s a → number_at s a ≤ number)
      (apart : (a x i : ℕ) → IsHeld s a → IsHeld s x → IsInExtent s a i → IsInExtent s x i → a ≡ x)
      (names : (a x : ℕ) → IsHeld old a → IsHeld old x → name_at old a ≡ name_at old x → a ≡ x) where
    header : (a : ℕ) → IsHeld new a → HasHeader new a
    header a there =
        let lives : Lives base s a = lives-of a there in
        let was : HasObject s a = (object s all.before.blocks a lives.held).0 in
        let survives = and_parts (nat_le base (number_at s a)) (nat_eq (target_at s a) a) lives.survives in
        record {
          object = object-after s new (fates.rest all) a there.address was;
          number = subst (λ v. number_in v ≤ number) (sym (word-same a 2 there)) (low a lives);
          target = λ some. ap target_in (word-same a 2 there) ∙ eqb-true (target_at s a) a survives.1;
        }

    -- the target of a preserved object is held
    target-held : (v : ℕ) → 0 < F v → IsHeld new (F v)
    target-held v some = fates.lives-held all (F v) (kept.there v some)

    field-held : (a i : ℕ) → Lives base s a → i < refs_at s a → IsTrue (is_reference (ref_at s a i)) → IsHeld new (ref_at s a i)
    field-held a i lives few reference =
        let from = kept.onto a lives in
        let x : ℕ = from.0 in
        let count : refs_at s a ≡ refs_at old x = ap (refs_at s) (sym from.2) ∙ (kept.same x from.1).refs in
        let less : i < refs_at old x = subst (λ n. i < n) count few in
        let v : ℕ = ref_at old x i in
        let is : ref_at s a i ≡ field_after F v = ap (λ y. ref_at s y i) (sym from.2) ∙ kept.fields x i from.1 less in
        elim (refers-cases v) as (λ _. IsHeld new (ref_at s a i)) [
          | inl nil ↦ absurd (true≢false (sym (subst (λ y. IsTrue (is_reference y)) (is ∙ cond-false (is_reference v) (F v) v nil) reference) ∙ nil))
          | inr some ↦ subst (IsHeld new) (sym (is ∙ cond-true (is_reference v) (F v) v some)) (target-held v (kept.closed x i from.1 less some))
        ]

    names-apart : (a x : ℕ) → IsHeld new a → IsHeld new x → name_at new a ≡ name_at new x → a ≡ x
    names-apart a x here there same =
        let one = kept.onto a (lives-of a here) in let other = kept.onto x (lives-of x there) in
        let left : name_at s a ≡ name_at old one.0 = ap (name_at s) (sym one.2) ∙ (kept.same one.0 one.1).name in
        let right : name_at s x ≡ name_at old other.0 = ap (name_at s) (sym other.2) ∙ (kept.same other.0 other.1).name in
        sym one.2 ∙ ap F (names one.0 other.0 (kept.held one.0 one.1) (kept.held other.0 other.1) (sym left ∙ sym (name-same a here) ∙ same ∙ name-same x there ∙ right)) ∙ other.2

    pub objects : AreObjectsRight new
    objects = record {
      headers = header;
      marks = fates.marked-held all;
      apart = λ a x i here there within within'. apart a x i (lives-of a here).held (lives-of x there).held (inside a i here within) (inside x i there within');
      references = λ a i there few reference. let e = field-same a i there in
          subst (IsHeld new) (sym e) (field-held a i (lives-of a there) (subst (λ n. i < n) (refs-same a there) few) (subst (λ v. IsTrue (is_reference v)) e reference));
      globals = λ g few some. (let is : global_at new g ≡ F (global_at old g) = global-same g few ∙ kept.globals g few in
          subst (IsHeld new) (sym is) (target-held (global_at old g) (let there : global_at new g ≢ 0 = some in omega arith)));
      names = names-apart;
    }
