-- The list of the blocks that mutators own, as notes change.
use Rattle.std.proofs.Common.{◌≡◌, refl, sym, ◌∙◌, ap, subst, ℕ, ◌+◌, ◌<◌, ◌≤◌, inl, inr, arith, false, nat_eq, List, [], ◌∷◌, ◌++◌, length, eqb-true}
use Rattle.std.specs.Prelude.{Some, slice_get}
use Rattle.std.specs.List.{Contains, IsDistinct, list_any}
use Rattle.std.proofs.lemmas.Bool.{cases_eq, cases_Bool}
use Rattle.std.proofs.lemmas.Cmp.{nat_eq_equiv}
use Rattle.std.proofs.lemmas.List.Elements.{Contains-append_left, Contains-push, Contains-push_cases}
use Rattle.std.proofs.lemmas.Map.Keys.{IsDistinct-push}
use Rattle.std.proofs.lemmas.Map.Steps.{length-le_from_distinct_below}
use Rattle.std.proofs.lemmas.Map.Views.{Contains-from_any}
use Rattle.heap_layout.specs.declared.region.Region.{Region}
use Rattle.mutator_core.proofs.Lists.{contains-none}
use Rattle.block_regions.specs.declared.block_notes.BlockNote.{BlockNote}
use Rattle.block_regions.specs.declared.block_notes.BlockNote.TheVariants.{Unowned, Owned}
use Rattle.block_regions.specs.Elements.{ChangesAt}
use Rattle.block_regions.specs.Notes.{ListsOwned, AreUnowned}
use Rattle.block_regions.proofs.Lists.{get-below, one-element}

-- a mutator owns the block
pub record IsTaken (notes : List BlockNote) (k : ℕ) : Type 0 where
  pub owner : ℕ
  pub region : Region
  pub note : slice_get notes k ≡ Some (Owned owner region)

-- the same blocks are owned
pub listed-same : (notes later : List BlockNote) (owned : List ℕ) → ((k : ℕ) → IsTaken notes k → IsTaken later k) → ((k : ℕ) → IsTaken later k → IsTaken notes k)
    → ListsOwned notes owned → ListsOwned later owned
listed-same notes later owned forth back lists = record {
  differ = lists.differ;
  listed = λ k owner region is. let was = back k (record { owner = owner; region = region; note = is }) in lists.listed k was.owner was.region was.note;
  right = λ k among. let was = lists.right k among in let is = forth k (record { owner = was.0; region = was.1; note = was.2 }) in (is.owner, is.region, is.note);
}

-- nothing is listed where nobody owns a block
pub lists-none : (notes : List BlockNote) → AreUnowned notes → ListsOwned notes []
unfolding IsDistinct
lists-none notes none = record {
  differ = tt;
  listed = λ k owner region is. absurd (none k owner region is);
  right = λ k among. absurd (contains-none k among);
}

-- the note of an owned block changes
pub listed-moved : (notes later : List BlockNote) (owned : List ℕ) (block number number' : ℕ) (region region' : Region)
    → slice_get notes block ≡ Some (Owned number region) → ChangesAt notes later block (Owned number' region') → ListsOwned notes owned → ListsOwned later owned
listed-moved notes later owned block number number' region region' was changes = listed-same notes later owned
    (λ k is. elim (cases_eq k block) as (λ _. IsTaken later k) [
      | inl here ↦ subst (IsTaken later) (sym here) (record { owner = number'; region = region'; note = changes.here })
      | inr other ↦ record { owner = is.owner; region = is.region; note = changes.others k other ∙ is.note }
    ])
    (λ k is. elim (cases_eq k block) as (λ _. IsTaken notes k) [
      | inl here ↦ subst (IsTaken notes) (sym here) (record { owner = number; region = region; note = was })
      | inr other ↦ record { owner = is.owner; region = is.region; note = sym (changes.others k other) ∙ is.note }
    ])

-- the note of an unowned block changes
pub listed-noted : (notes later : List BlockNote) (owned : List ℕ) (block least least' : ℕ)
    → slice_get notes block ≡ Some (Unowned least) → ChangesAt notes later block (Unowned least') → ListsOwned notes owned → ListsOwned later owned
listed-noted notes later owned block least least' was changes = listed-same notes later owned
    (λ k is. elim (cases_eq k block) as (λ _. IsTaken later k) [
      | inl here ↦ absurd (let wrong : Unowned least ≡ Owned is.owner is.region = one-element (slice_get notes block) (Unowned least) (Owned is.owner is.region) was (subst (λ q. slice_get notes q ≡ Some (Owned is.owner is.region)) here is.note) in cc)
      | inr other ↦ record { owner = is.owner; region = is.region; note = changes.others k other ∙ is.note }
    ])
    (λ k is. elim (cases_eq k block) as (λ _. IsTaken notes k) [
      | inl here ↦ absurd (let wrong : Unowned least' ≡ Owned is.owner is.region = one-element (slice_get later block) (Unowned least') (Owned is.owner is.region) changes.here (subst (λ q. slice_get later q ≡ Some (Owned is.owner is.region)) here is.note) in cc)
      | inr other ↦ record { owner = is.owner; region = is.region; note = sym (changes.others k other) ∙ is.note }
    ])

-- a block that nobody owns is not in the list
module _ (notes : List BlockNote) (owned : List ℕ) (lists : ListsOwned notes owned) (block : ℕ) (nobody : IsTaken notes block → ⊥) where
  pub unlisted : list_any (nat_eq block) owned ≡ false
  unlisted = elim (cases_Bool (list_any (nat_eq block) owned)) as (λ _. list_any (nat_eq block) owned ≡ false) [
    | inl there ↦ absurd (let was = lists.right block (Contains-from_any eqb-true block owned there) in nobody (record { owner = was.0; region = was.1; note = was.2 }))
    | inr none ↦ none
  ]

  distinct : IsDistinct nat_eq (owned ++ block ∷ [])
  distinct = IsDistinct-push nat_eq_equiv owned block lists.differ unlisted

  -- it is listed when a mutator takes it
  pub listed-taken : (later : List BlockNote) (number : ℕ) (region : Region) → ChangesAt notes later block (Owned number region) → ListsOwned later (owned ++ block ∷ [])
  listed-taken later number region changes = record {
    differ = distinct;
    listed = λ k owner r is. elim (cases_eq k block) as (λ _. Contains (owned ++ block ∷ []) k) [
      | inl here ↦ subst (Contains (owned ++ block ∷ [])) (sym here) (Contains-push owned block)
      | inr other ↦ Contains-append_left owned (block ∷ []) k (lists.listed k owner r (sym (changes.others k other) ∙ is))
    ];
    right = λ k among. elim (Contains-push_cases owned block k among) as (λ _. (owner : ℕ) × (r : Region) × (slice_get later k ≡ Some (Owned owner r))) [
      | inl before ↦ (let was = lists.right k before in (
        was.0,
        was.1,
        changes.others k (λ same. nobody (record {
          owner = was.0;
          region = was.1;
          note = subst (λ q. slice_get notes q ≡ Some (Owned was.0 was.1)) same was.2;
        })) ∙ was.2,
      ))
      | inr here ↦ (number, region, ap (slice_get later) (sym here) ∙ changes.here)
    ];
  }

  -- so there are fewer blocks in the list than in the heap
  pub listed-room : (blocks : ℕ) → length notes ≡ blocks → block < blocks → length owned + 1 ≤ blocks
  listed-room blocks many there =
      let most : length (owned ++ block ∷ []) ≤ blocks = length-le_from_distinct_below (owned ++ block ∷ []) blocks distinct (λ q among.
      elim (Contains-push_cases owned block q (Contains-from_any eqb-true q (owned ++ block ∷ []) among)) as (λ _. q < blocks) [
        | inl before ↦ (let was = lists.right q before in subst (λ n. q < n) many (get-below notes q (Owned was.0 was.1) was.2))
        | inr here ↦ subst (λ n. n < blocks) here there
      ]) in
      let more : length (owned ++ block ∷ []) ≡ length owned + 1 = length-push owned block in
      omega arith
    where
      length-push : (xs : List ℕ) (x : ℕ) → length (xs ++ x ∷ []) ≡ length xs + 1
      length-push [] x = refl
      length-push (y ∷ ys) x = let rest = length-push ys x in omega arith
