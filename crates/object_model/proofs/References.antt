-- The test of a field's word, in the forms that proofs take.
use Rattle.std.proofs.Common.{◌≡◌, ◌≢◌, refl, sym, ◌∙◌, ap, ℕ, ◌≤◌, ◌⊎◌, inl, inr, arith, Bool, true, false, not, IsTrue}
use Rattle.std.proofs.lemmas.Bool.{eq-eqb, ne_eqb}
use Rattle.heap_layout.specs.Zones.{heap_of}
use Rattle.object_model.specs.Objects.{HeapState, IsHeld, is_reference}
use Rattle.object_model.specs.Lawful.{IsRefField, IsRoot}

-- a word that is not nil refers to an object
pub refers : (v : ℕ) → v ≢ 0 → IsTrue (is_reference v)
refers v some = ap not (ne_eqb v 0 some)

pub nil-refers : (v : ℕ) → v ≡ 0 → is_reference v ≡ false
nil-refers v nil = ap not (eq-eqb v 0 nil)

pub refers-some : (v : ℕ) → IsTrue (is_reference v) → v ≢ 0
refers-some v is nil = let wrong : true ≡ false = sym is ∙ nil-refers v nil in cc

-- the address of a held object refers to an object
pub held-refers : (s : HeapState) (v : ℕ) → IsHeld s v → IsTrue (is_reference v)
held-refers s v held = refers v (let from : heap_of s.blocks ≤ v = held.address.from in omega arith)

bool-cases : (b : Bool) → (b ≡ false) ⊎ (b ≡ true)
bool-cases false = inl refl
bool-cases true = inr refl

pub refers-cases : (v : ℕ) → (is_reference v ≡ false) ⊎ (is_reference v ≡ true)
refers-cases v = bool-cases (is_reference v)

-- a field may hold whatever a register may hold
pub root-field : (s : HeapState) (v : ℕ) → IsRoot s v → IsRefField s v
root-field s v root is = root (refers-some v is)
