-- Each mutator gets sixteen of the roots, one mutator after another.
use Rattle.std.proofs.Common.{◌≡◌, refl, sym, ◌∙◌, ap, subst, ℕ, zero, suc, ◌+◌, ◌*◌, ◌-◌, ◌<◌, inl, inr, arith, List, [], ◌∷◌, ◌++◌, length, map, take, drop}
use Rattle.std.specs.Prelude.{slice_get, slice_set, slice_range, Some}
use Rattle.std.specs.List.{AllByRecursion}
use Rattle.std.proofs.lemmas.Bool.{cases_eq}
use Rattle.std.proofs.lemmas.List.{length-drop, length-take-le, take-append-drop, drop-drop}
use Rattle.object_model.specs.Graphs.{roots_of}
use Rattle.sessions.specs.Sessions.{birth_count}
use Rattle.mutator_calls.specs.declared.need.Mutator.{Mutator}
use Rattle.heap_users.specs.Users.{mutator_state}
use Rattle.block_regions.proofs.Elements.{set-here, set-other}
use Rattle.block_regions.proofs.Lists.{get-below, one-element}

abbrev pub with_registers : Mutator → List ℕ → Mutator
with_registers u l = record u { registers = l }

abbrev pub counts_of : List Mutator → List (ℕ × ℕ)
counts_of us = map birth_count (map mutator_state us)

-- the sixteen roots of the mutator at place k
abbrev pub share : List ℕ → ℕ → List ℕ
share roots k = take 16 (drop (16 * k) roots)

-- the mutators before place i have their registers from the roots, and all have their numbers and births
pub record SetsBelow (i : ℕ) (roots : List ℕ) (old new : List Mutator) : Type 0 where
  pub count : length new ≡ length old
  pub births : counts_of new ≡ counts_of old
  pub below : (k : ℕ) (u : Mutator) → k < i → slice_get new k ≡ Some u → u.registers ≡ share roots k

pub sets-none : (roots : List ℕ) (us : List Mutator) → SetsBelow 0 roots us us
sets-none roots us = record { count = refl; births = refl; below = λ k u less is. absurd (omega (arith, less)) }

counts-set : (us : List Mutator) (i : ℕ) (u : Mutator) (l : List ℕ) → slice_get us i ≡ Some u → counts_of (slice_set us i (with_registers u l)) ≡ counts_of us
counts-set [] i u l is = refl
counts-set (x ∷ us) zero u l is = ap (λ (m : Mutator). (m.number, m.births) ∷ counts_of us) (one-element (Some x) u x is refl)
counts-set (x ∷ us) (suc i) u l is = ap (λ (cs : List (ℕ × ℕ)). birth_count (mutator_state x) ∷ cs) (counts-set us i u l is)

length-kept : (us : List Mutator) (i : ℕ) (u : Mutator) → length (slice_set us i u) ≡ length us
length-kept [] i u = refl
length-kept (x ∷ us) zero u = refl
length-kept (x ∷ us) (suc i) u = ap suc (length-kept us i u)

pub sets-more : (i : ℕ) (roots : List ℕ) (old mid : List Mutator) (u : Mutator) (l : List ℕ) → SetsBelow i roots old mid → slice_get mid i ≡ Some u → l ≡ share roots i
    → SetsBelow (i + 1) roots old (slice_set mid i (with_registers u l))
sets-more i roots old mid u l sets is from = record {
  count = length-kept mid i (with_registers u l) ∙ sets.count;
  births = counts-set mid i u l is ∙ sets.births;
  below = λ k x less here. elim (cases_eq k i) as (λ _. x.registers ≡ share roots k) [
    | inl same ↦
        let there : slice_get (slice_set mid i (with_registers u l)) i ≡ Some x = subst (λ (j : ℕ). slice_get (slice_set mid i (with_registers u l)) j ≡ Some x) same here in
        let own : x ≡ with_registers u l = one-element (slice_get (slice_set mid i (with_registers u l)) i) x (with_registers u l) there (set-here mid i (with_registers u l) (get-below mid i u is)) in
        ap (λ (m : Mutator). m.registers) own ∙ from ∙ ap (share roots) (sym same)
    | inr other ↦ sets.below k x (omega (arith, less, other)) (sym (set-other mid i (with_registers u l) k other) ∙ here)
  ];
}

-- all mutators have their share

nil-alone : (xs : List ℕ) → length xs ≡ 0 → [] ≡ xs
nil-alone [] none = refl
nil-alone (x ∷ xs) none = absurd (omega (arith, none))

abbrev HaveShares : List ℕ → List Mutator → Type 0
HaveShares roots us = (k : ℕ) (u : Mutator) → slice_get us k ≡ Some u → u.registers ≡ share roots k

shares-rest : (roots : List ℕ) (u : Mutator) (us : List Mutator) → HaveShares roots (u ∷ us) → HaveShares (drop 16 roots) us
shares-rest roots u us each k x is =
    each (suc k) x is ∙ ap (λ (n : ℕ). take 16 (drop n roots)) (let e : 16 * suc k ≡ 16 + 16 * k = omega arith in e) ∙ ap (take 16) (sym (drop-drop (16 * k) 16 roots))

many-rest : (roots : List ℕ) (u : Mutator) (us : List Mutator) → length roots ≡ 16 * length (u ∷ us) → length (drop 16 roots) ≡ 16 * length us
many-rest roots u us many = (let less : length (drop 16 roots) ≡ length roots - 16 = length-drop 16 roots in omega (arith, less, many))

pub shares-roots : (us : List Mutator) (roots : List ℕ) → length roots ≡ 16 * length us → HaveShares roots us → roots_of (map mutator_state us) ≡ roots
shares-roots [] roots many each = nil-alone roots (omega (arith, many))
shares-roots (u ∷ us) roots many each =
    ap (λ (l : List ℕ). l ++ roots_of (map mutator_state us)) (each 0 u refl)
    ∙ ap (λ (l : List ℕ). take 16 roots ++ l) (shares-roots us (drop 16 roots) (many-rest roots u us many) (shares-rest roots u us each))
    ∙ take-append-drop 16 roots

pub shares-sixteen : (us : List Mutator) (roots : List ℕ) → length roots ≡ 16 * length us → HaveShares roots us → AllByRecursion (λ u. length u.registers ≡ 16) us
shares-sixteen [] roots many each = tt
shares-sixteen (u ∷ us) roots many each = (
  ap length (each 0 u refl) ∙ length-take-le 16 roots (omega (arith, many)),
  shares-sixteen us (drop 16 roots) (many-rest roots u us many) (shares-rest roots u us each),
)

-- the loop's end
pub sets-all : (i : ℕ) (roots : List ℕ) (old new : List Mutator) → SetsBelow i roots old new → i ≡ length old → length roots ≡ 16 * length old
    → (roots_of (map mutator_state new) ≡ roots) × AllByRecursion (λ u. length u.registers ≡ 16) new
sets-all i roots old new sets all many =
    let each : HaveShares roots new = (λ k u is. sets.below k u (let below : k < length new = get-below new k u is in let same : length new ≡ length old = sets.count in omega arith) is) in
    let enough : length roots ≡ 16 * length new = (let same : length new ≡ length old = sets.count in omega arith) in
    (shares-roots new roots enough each, shares-sixteen new roots enough each)

-- what was copied is the share
pub share-from : (roots l : List ℕ) (m from : ℕ) → from ≡ 16 * m → l ≡ slice_range roots from (from + 16) → l ≡ share roots m
share-from roots l m from at is =
    is ∙ ap (λ (n : ℕ). take n (drop from roots)) (let e : (from + 16) - from ≡ 16 = omega arith in e) ∙ ap (λ (n : ℕ). take 16 (drop n roots)) at
