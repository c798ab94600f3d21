-- Words of held objects, of targets, and of the side metadata are apart.
use Rattle.std.proofs.Common.{◌≡◌, ◌≢◌, ℕ, ◌+◌, ◌-◌, ◌<◌, ◌≤◌, inl, inr, IsTrue, List, slice_index, sym, ap, ◌∙◌, subst, arith, Option, Some}
use Rattle.std.proofs.lemmas.Bool.{true_from_ne_false}
use Rattle.heap_layout.specs.Zones.{row_words, heap_of, block_at, offset_at, IsAddress}
use Rattle.heap_layout.specs.declared.block.Kind.TheVariants as kinds
use Rattle.object_model.specs.Objects.{HasKind, IsHeld}
use Rattle.object_model.proofs.Marks as marks
use Rattle.object_model.proofs.ObjectReads.{in_row}
use Rattle.trace_core.specs.Setups.{Setup, TraceMayBegin, blocks, held, size}
use Rattle.trace_core.specs.Machine.{Stage, Unclaimed, Copying, Scanning, target}
use Rattle.trace_core.specs.Traces.{HasCopyRoom}
use Rattle.trace_core.proofs.Objects.{IsPlaced, ObjectIs, KeepsObjects, Some-injective, None-not-Some}

module _ (p : Setup) (ready : TraceMayBegin p) where
  held-at : (x : ℕ) → IsTrue (held p x) → IsHeld p.before x
  held-at x inside = marks.held p.before x inside

  pub object-from : (x : ℕ) → IsTrue (held p x) → heap_of (blocks p) ≤ x
  object-from x inside = (held-at x inside).address.from

  pub object-below : (x o : ℕ) → IsTrue (held p x) → o < size p x → x + o < row_words (blocks p)
  object-below x o inside l = in_row p.before ready.lawful.order x o (held-at x inside) l

  -- no word belongs to two objects
  pub objects-apart : (x y o j : ℕ) → IsTrue (held p x) → IsTrue (held p y) → x ≢ y → o < size p x → j < size p y → x + o ≢ y + j
  objects-apart x y o j here there differ l m e = differ (ready.lawful.order.objects.apart x y (x + o) (held-at x here) (held-at y there)
      (record { from = omega arith; below = omega arith }) (record { from = omega arith; below = omega arith }))

  -- room in a block that was Free has no word of an object
  pub room-apart : (t n : ℕ) → HasKind p.before (block_at (blocks p) t) kinds.Free → IsAddress (blocks p) t → offset_at (blocks p) t + n ≤ 4096
      → (o y j : ℕ) → o < n → IsTrue (held p y) → j < size p y → y + j ≢ t + o
  room-apart t n free address within o y j l there m e =
      let from : heap_of (blocks p) ≤ t = address.from in
      let same : block_at (blocks p) (t + o) ≡ block_at (blocks p) t = omega arith in
      (ready.lawful.free (block_at (blocks p) t) free).empty y (y + j) (held-at y there) (record { from = omega arith; below = omega arith })
      (ap (block_at (blocks p)) e ∙ same)

module _ (p : Setup) (ready : TraceMayBegin p) (words : List ℕ) (stage : ℕ → Stage) (owner : ℕ → Option ℕ) (taken : ℕ → ℕ) (h : KeepsObjects p words stage owner taken) where
  abbrev Placed : ℕ → ℕ → Type 0
  Placed x t = IsPlaced p (slice_index words) stage owner taken x t

  placed-at : (x t : ℕ) (st : Stage) → ObjectIs p (slice_index words) stage owner taken x st → target st ≡ Some t → Placed x t
  placed-at x t Unclaimed is e = absurd (None-not-Some t e)
  placed-at x t (Copying u k) is e = subst (λ (z : ℕ). Placed x z) (Some-injective u t e) is.placed
  placed-at x t (Scanning u k) is e = subst (λ (z : ℕ). Placed x z) (Some-injective u t e) is.placed

  -- what has a target was held
  pub held-of : (x t : ℕ) → target (stage x) ≡ Some t → IsTrue (held p x)
  held-of x t e = true_from_ne_false (held p x) (λ none. None-not-Some t (sym (ap target (h.outside x none)) ∙ e))

  pub placed : (x t : ℕ) → target (stage x) ≡ Some t → Placed x t
  placed x t e = placed-at x t (stage x) (h.objects x (held-of x t e)) e

  pub room-of : (x t : ℕ) → Placed x t → t ≢ x → HasCopyRoom p taken x t
  room-of x t at moved = elim at as (λ _. HasCopyRoom p taken x t) [ inl e ↦ absurd (moved e) | inr room ↦ room.0 ]

  -- no word of the room of a moved object is a word of a held object
  pub room-clear : (x t o y j : ℕ) → HasCopyRoom p taken x t → o < size p x → IsTrue (held p y) → j < size p y → y + j ≢ t + o
  room-clear x t o y j room l there m = room-apart p ready t (size p x) (h.free (block_at (blocks p) t) room.block) room.address room.within o y j l there m

  -- no owned word is a word of a held object
  pub owned-clear : (a x y j : ℕ) → owner a ≡ Some x → IsTrue (held p y) → j < size p y → y + j ≢ a
  owned-clear a x y j own there m e = let d = h.owned a x own in
      let t : ℕ = d.at in let from : t ≤ a = d.from in let below : a < t + size p x = d.below in
      room-clear x t (a - t) y j (room-of x t (placed x t d.same) d.moved) (omega arith) there m (omega arith)

  -- an owned word is a word of the heap
  pub owned-from : (a x : ℕ) → owner a ≡ Some x → heap_of (blocks p) ≤ a
  owned-from a x own = let d = h.owned a x own in
      let from : d.at ≤ a = d.from in let base : heap_of (blocks p) ≤ d.at = (room-of x d.at (placed x d.at d.same) d.moved).address.from in omega arith

  -- a word of the target of x is no word of another object, and in no other target
  pub target-apart : (x t o : ℕ) → IsTrue (held p x) → Placed x t → o < size p x → (y j : ℕ) → IsTrue (held p y) → y ≢ x → j < size p y → y + j ≢ t + o
  target-apart x t o here at l y j there differ m = elim at as (λ _. y + j ≢ t + o) [
    | inl e ↦ (λ same. objects-apart p ready y x j o there here differ m l (same ∙ ap (λ z. z + o) e))
    | inr room ↦ room-clear x t o y j room.0 l there m
  ]

  pub target-unowned : (x t o : ℕ) → IsTrue (held p x) → Placed x t → o < size p x → (y a : ℕ) → y ≢ x → owner a ≡ Some y → a ≢ t + o
  target-unowned x t o here at l y a differ own = elim at as (λ _. a ≢ t + o) [
    | inl e ↦ (λ same. owned-clear a y x o own here l (ap (λ z. z + o) (sym e) ∙ sym same))
    | inr room ↦ (λ same. differ (Some-injective y x (sym own ∙ ap owner same ∙ room.1 o l)))
  ]

  -- a word of the target is a word of the heap
  pub target-from : (x t : ℕ) → IsTrue (held p x) → Placed x t → heap_of (blocks p) ≤ t
  target-from x t here at = elim at as (λ _. heap_of (blocks p) ≤ t) [
    | inl e ↦ subst (λ z. heap_of (blocks p) ≤ z) (sym e) (object-from p ready x here)
    | inr room ↦ room.0.address.from
  ]

  pub target-below : (x t o : ℕ) → IsTrue (held p x) → Placed x t → o < size p x → t + o < row_words (blocks p)
  target-below x t o here at l = elim at as (λ _. t + o < row_words (blocks p)) [
    | inl e ↦ subst (λ z. z + o < row_words (blocks p)) (sym e) (object-below p ready x o here l)
    | inr room ↦ let address = room.0.address in let below : t < row_words (blocks p) = address.below in let from : heap_of (blocks p) ≤ t = address.from in
        let within : offset_at (blocks p) t + size p x ≤ 4096 = room.0.within in omega arith
  ]
