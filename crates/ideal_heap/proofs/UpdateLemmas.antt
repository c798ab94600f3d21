-- What an update sets at its key, and that it changes no other.
use Rattle.std.proofs.Common.{◌≡◌, ℕ, ◌<◌, ◌≤◌, true, false, nat_lt, eq-eqb, refl, ap, sym, ◌∙◌, ◌⊎◌, inl, inr, Option, Some, None, List, [], ◌∷◌, length, slice_get, slice_set, unwrap_or, replicate, IsSome, suc, zero, arith}
use Rattle.std.proofs.lemmas.Bool.Decides.{eqb_tells, leb_tells, nat_tests}
use Rattle.ideal_heap.specs.declared.name.Name.{Name}
use Rattle.ideal_heap.specs.Names.{same_name, name}
use Rattle.ideal_heap.specs.Ideal.{IdealHeap, Record, Field, Nil, At, at_number, at_name, set_register, record_of, no_fields, field_at, put_field, name_of_field, field_of, HasRecord}

pub same_name-same : (n : Name) → same_name n n ≡ true
same_name-same n = grind (arith, nat_tests)

pub same_name-is : (a b : Name) → same_name a b ≡ true → a ≡ b
same_name-is a b h =
    let mutators : a.mutator ≡ b.mutator = grind (arith, nat_tests) in
    let births : a.birth ≡ b.birth = grind (arith, nat_tests) in
    ap (λ m. name m a.birth) mutators ∙ ap (λ k. name b.mutator k) births

pub nat_lt-cases : (a b : ℕ) → ((nat_lt a b ≡ true) × (a < b)) ⊎ ((nat_lt a b ≡ false) × (b ≤ a))
nat_lt-cases a b = elim (leb_tells (suc a) b) [ inl is ↦ inl (is.0, omega (arith, is.1)) | inr not ↦ inr (not.0, omega (arith, not.1)) ]

pub at_number-cases : {X : Type 0} (f : ℕ → X) (k : ℕ) (x : X) (q : ℕ) → ((q ≡ k) × (at_number f k x q ≡ x)) ⊎ ((q ≡ k → ⊥) × (at_number f k x q ≡ f q))
at_number-cases f k x q = elim (eqb_tells q k) [
  | inl is ↦ inl (is.1, rw (is.0) refl)
  | inr not ↦ inr (not.1, rw (not.0) refl)
]

pub at_number-same : {X : Type 0} (f : ℕ → X) (k : ℕ) (x : X) → at_number f k x k ≡ x
at_number-same f k x = rw (eq-eqb k k refl) refl

pub at_number-other : {X : Type 0} (f : ℕ → X) (k : ℕ) (x : X) (q : ℕ) → (q ≡ k → ⊥) → at_number f k x q ≡ f q
at_number-other f k x q other = elim (at_number-cases f k x q) [ inl same ↦ absurd (other same.0) | inr fact ↦ fact.1 ]

same_name-cases : (q k : Name) → ((same_name q k ≡ true) × (q ≡ k)) ⊎ ((same_name q k ≡ false) × (q ≡ k → ⊥))
same_name-cases q k =
    elim (same_name q k) as (λ b. b ≡ same_name q k → ((b ≡ true) × (q ≡ k)) ⊎ ((b ≡ false) × (q ≡ k → ⊥))) [
      | true ↦ λ e. inl (refl, same_name-is q k (sym e))
      | false ↦ λ e. inr (refl, λ same. let wrong : true ≡ false = sym (same_name-same k) ∙ ap (λ n. same_name n k) (sym same) ∙ sym e in cc)
    ] refl

pub at_name-cases : {X : Type 0} (f : Name → X) (k : Name) (x : X) (q : Name) → ((q ≡ k) × (at_name f k x q ≡ x)) ⊎ ((q ≡ k → ⊥) × (at_name f k x q ≡ f q))
at_name-cases f k x q = elim (same_name-cases q k) [
  | inl is ↦ inl (is.1, rw (is.0) refl)
  | inr not ↦ inr (not.1, rw (not.0) refl)
]

pub at_name-same : {X : Type 0} (f : Name → X) (k : Name) (x : X) → at_name f k x k ≡ x
at_name-same f k x = rw (same_name-same k) refl

pub at_name-other : {X : Type 0} (f : Name → X) (k : Name) (x : X) (q : Name) → (q ≡ k → ⊥) → at_name f k x q ≡ f q
at_name-other f k x q other = elim (at_name-cases f k x q) [ inl same ↦ absurd (other same.0) | inr fact ↦ fact.1 ]

-- a register after one is set
pub register-cases : (h : IdealHeap) (m d : ℕ) (v : Option Name) (m' d' : ℕ) →
    ((m' ≡ m) × (d' ≡ d) × ((set_register h m d v).registers m' d' ≡ v)) ⊎ ((set_register h m d v).registers m' d' ≡ h.registers m' d')
register-cases h m d v m' d' = elim (at_number-cases h.registers m (at_number (h.registers m) d v) m') [
  | inl row ↦ elim (at_number-cases (h.registers m) d v d') [
    | inl place ↦ inl (row.0, place.0, ap (λ f. f d') row.1 ∙ place.1)
    | inr place ↦ inr (ap (λ f. f d') row.1 ∙ place.1 ∙ ap (λ k. h.registers k d') (sym row.0))
  ]
  | inr row ↦ inr (ap (λ f. f d') row.1)
]

pub at-set : (xs : List Field) (i : ℕ) (v : Field) (j : ℕ) → (unwrap_or (slice_get (slice_set xs i v) j) Nil ≡ v) ⊎ (unwrap_or (slice_get (slice_set xs i v) j) Nil ≡ unwrap_or (slice_get xs j) Nil)
at-set [] i v j = inr refl
at-set (x ∷ xs) zero v zero = inl refl
at-set (x ∷ xs) zero v (suc j) = inr refl
at-set (x ∷ xs) (suc i) v zero = inr refl
at-set (x ∷ xs) (suc i) v (suc j) = at-set xs i v j

pub field-cases : (x : Record) (i : ℕ) (v : Field) (j : ℕ) → (field_at (put_field x i v) j ≡ v) ⊎ (field_at (put_field x i v) j ≡ field_at x j)
field-cases x i v j = at-set x.refs i v j

pub at-nils : (n j : ℕ) → unwrap_or (slice_get (replicate n Nil) j) Nil ≡ Nil
at-nils zero j = refl
at-nils (suc n) zero = refl
at-nils (suc n) (suc j) = at-nils n j

pub name_in-at : (f : Field) (n : Name) → name_of_field f ≡ Some n → f ≡ At n
name_in-at Nil n e = cc
name_in-at (At k) n e = cc

pub field_of-at : (o : Option Name) (n : Name) → field_of o ≡ At n → o ≡ Some n
field_of-at None n e = cc
field_of-at (Some k) n e = cc

born_default : (o : Option Record) (i : ℕ) → i < length (unwrap_or o no_fields).refs → IsSome o
born_default None i l = absurd (omega (arith, l))
born_default (Some x) i l = refl

born_number : (o : Option Record) (i : ℕ) → i < length (unwrap_or o no_fields).nums → IsSome o
born_number None i l = absurd (omega (arith, l))
born_number (Some x) i l = refl

-- a name whose record has a field or a number is an object's
pub field-born : (h : IdealHeap) (n : Name) (i : ℕ) → i < length (record_of h n).refs → HasRecord h n
field-born h n i l = born_default (h.records n) i l

pub number-born : (h : IdealHeap) (n : Name) (i : ℕ) → i < length (record_of h n).nums → HasRecord h n
number-born h n i l = born_number (h.records n) i l
