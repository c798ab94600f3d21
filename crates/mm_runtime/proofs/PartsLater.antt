-- The parts of an epoch after some were run.
use Rattle.std.proofs.Common.{◌≡◌, refl, sym, ◌∙◌, ap, subst, ℕ, zero, suc, ◌+◌, ◌<◌, ◌≤◌, inl, inr, arith, List, [], ◌∷◌, ◌++◌, take, drop, length, length-append, length-set}
use Rattle.std.specs.Prelude.{Some, None, All, slice_get, slice_set}
use Rattle.std.proofs.lemmas.Bool.{cases_eq}
use Rattle.sessions.specs.Plans.{Rules}
use Rattle.racing_world.specs.declared.world.World.{World}
use Rattle.block_regions.proofs.Lists.{get-some, get-below, one-element}
use Rattle.block_regions.proofs.Elements.{set-here, set-other}
use Rattle.mm_runtime.specs.declared.seat_part.Part.{Part}
use Rattle.mm_runtime.specs.declared.epochs.Epoch.{Epoch}
use Rattle.mm_runtime.specs.declared.manager.Manager.{Manager}
use Rattle.mm_runtime.specs.SeatParts.{IsPartOf}
use Rattle.mm_runtime.specs.OpenEpochs.{IsEpochOf, RunsAll, RunsToEnd}
use Rattle.mm_runtime.proofs.PartLists.{all-from, written-back}

module _ {P : Type 0} (rules : Rules) (old : Manager P) (e : Epoch P) where
  pub all-belong : (parts : List Part) → IsEpochOf rules old e parts → All (IsPartOf rules e.world) parts
  all-belong parts is = all-from (IsPartOf rules e.world) parts (λ k p there. (is.each k p there).0)

  module _ (before after : List Part) (is : IsEpochOf rules old e before) (ran : RunsAll rules e.world before after) where
    was : (k : ℕ) (q : Part) → slice_get after k ≡ Some q → (p : Part) × (slice_get before k ≡ Some p)
    was k q there = get-some before k (let below : k < length after = get-below after k q there in let count = ran.count in omega arith)

    pub later : IsEpochOf rules old e after
    later = record {
      began = is.began;
      count = ran.count ∙ is.count;
      each = λ k q there.
          let p = was k q there in
          let runs = ran.each k p.0 q p.1 there in
          (runs.part, runs.mutator ∙ (is.each k p.0 p.1).1);
      replies = λ k trace q first there.
          let p = was k q there in
          (ran.each k p.0 q p.1 there).since trace (is.replies k trace p.0 first p.1);
    }

    pub all-ended : All (λ (p : Part). p.end ≡ None → ⊥) after
    all-ended = all-from (λ (p : Part). p.end ≡ None → ⊥) after (λ k q there. let p = was k q there in (ran.each k p.0 q p.1 there).ended)

-- the parts before place k were run, the others are as they were
pub record RanBelow {P : Type 0} (rules : Rules) (w : World P) (k : ℕ) (old new : List Part) : Type 0 where
  pub count : length new ≡ length old
  pub below : (j : ℕ) (p q : Part) → j < k → slice_get old j ≡ Some p → slice_get new j ≡ Some q → RunsToEnd rules w p q
  pub above : (j : ℕ) → k ≤ j → slice_get new j ≡ slice_get old j

module _ {P : Type 0} (rules : Rules) (w : World P) where
  pub ran-none : (ps : List Part) → RanBelow rules w 0 ps ps
  ran-none ps = record { count = refl; below = λ j p q less was is. absurd (omega (arith, less)); above = λ j least. refl }

  pub ran-more : (k : ℕ) (old mid : List Part) (p q : Part) → RanBelow rules w k old mid → slice_get mid k ≡ Some p → RunsToEnd rules w p q → RanBelow rules w (k + 1) old (slice_set mid k q)
  ran-more k old mid p q ran there runs = record {
    count = length-set mid k q ∙ ran.count;
    below = λ j x y less was is. elim (cases_eq j k) as (λ _. RunsToEnd rules w x y) [
      | inl same ↦
          (let here : slice_get (slice_set mid k q) k ≡ Some y = ap (slice_get (slice_set mid k q)) (sym same) ∙ is in
          let after : q ≡ y = one-element (slice_get (slice_set mid k q) k) q y (set-here mid k q (get-below mid k p there)) here in
          let before : p ≡ x = one-element (slice_get old k) p x (sym (ran.above k (omega arith)) ∙ there) (ap (slice_get old) (sym same) ∙ was) in
          subst (λ (z : Part). RunsToEnd rules w z y) before (subst (λ (z : Part). RunsToEnd rules w p z) after runs))
      | inr other ↦ ran.below j x y (omega arith) was (sym (set-other mid k q j other) ∙ is)
    ];
    above = λ j least. set-other mid k q j (λ same. absurd (omega arith)) ∙ ran.above j (omega arith);
  }

  pub ran-all : (k : ℕ) (old new : List Part) → RanBelow rules w k old new → length old ≤ k → RunsAll rules w old new
  ran-all k old new ran all = record {
    count = ran.count;
    each = λ j p q was is. ran.below j p q (let below : j < length old = get-below old j p was in omega arith) was is;
  }

  -- what holds of two neighbouring lists of parts
  tail-ran : (x : Part) (xs : List Part) (y : Part) (ys : List Part) → RunsAll rules w (x ∷ xs) (y ∷ ys) → RunsAll rules w xs ys
  tail-ran x xs y ys ran = record {
    count = (let e : suc (length ys) ≡ suc (length xs) = ran.count in omega arith);
    each = λ k p q was is. ran.each (suc k) p q was is;
  }

  both-at : (xs more ys rest : List Part) → RunsAll rules w xs ys → RunsAll rules w more rest → (k : ℕ) (p q : Part) → slice_get (xs ++ more) k ≡ Some p → slice_get (ys ++ rest) k ≡ Some q
      → RunsToEnd rules w p q
  both-at [] more [] rest a b k p q was is = b.each k p q was is
  both-at [] more (y ∷ ys) rest a b k p q was is = absurd (let e : suc (length ys) ≡ 0 = a.count in omega arith)
  both-at (x ∷ xs) more [] rest a b k p q was is = absurd (let e : 0 ≡ suc (length xs) = a.count in omega arith)
  both-at (x ∷ xs) more (y ∷ ys) rest a b zero p q was is = a.each zero p q was is
  both-at (x ∷ xs) more (y ∷ ys) rest a b (suc k) p q was is = both-at xs more ys rest (tail-ran x xs y ys a) b k p q was is

  pub ran-both : (xs more ys rest : List Part) → RunsAll rules w xs ys → RunsAll rules w more rest → RunsAll rules w (xs ++ more) (ys ++ rest)
  ran-both xs more ys rest a b = record {
    count = length-append ys rest ∙ (let first = a.count in let second = b.count in let sum : length ys + length rest ≡ length xs + length more = omega arith in sum) ∙ sym (length-append xs more);
    each = both-at xs more ys rest a b;
  }

  -- parts that were lent as a slice, and written back
  pub ran-lent : (old new lent : List Part) (n : ℕ) → lent ≡ old → n ≡ length old → RunsAll rules w lent new → RunsAll rules w old (take n (new ++ drop (length new) old))
  ran-lent old new lent n same count ran =
      let all : RunsAll rules w old new = subst (λ (ps : List Part). RunsAll rules w ps new) same ran in
      subst (λ (ps : List Part). RunsAll rules w old ps) (sym (written-back new old n all.count count)) all
