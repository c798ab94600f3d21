-- What a tracer's call needs: what is so of the object, and the right that the view has.
use Rattle.std.specs.Prelude.{◌≡◌, ◌≢◌, ℕ, ◌<◌, false, IsTrue, List, [], None}
use Rattle.object_model.specs.Objects.{IsHeld, nums_at, is_reference}
use Rattle.object_model.specs.declared.shape.Shape.{Shape}
use Rattle.trace_core.specs.Setups.{Setup, size, refs, was_logged, may_be_moved}
use Rattle.trace_core.specs.Machine.{Event}
use Rattle.trace_core.specs.Traces.{target_of}
use Rattle.trace_core.specs.Views.{View, hits, steps_at_claim}

-- the object at x was held as the tracing began
abbrev pub WasHeld : ℕ → Setup → List Event → View → Type 0
WasHeld x p es v = IsHeld p.before x

-- The object at x has this shape, and nothing claimed it.
pub record IsWaiting (p : Setup) (es : List Event) (x : ℕ) (shape : Shape) : Type 0 where
  pub held : IsHeld p.before x
  pub unclaimed : target_of p es x ≡ None
  pub refs : shape.refs ≡ refs p x
  pub nums : shape.nums ≡ nums_at p.before x

-- an object of this size was claimed, and is to be copied from x to t
pub record IsMoving (x t n : ℕ) (p : Setup) (es : List Event) (v : View) : Type 0 where
  pub right : 0 < hits x 0 v.won
  pub target : 0 < hits x t v.known
  pub size : n ≡ size p x
  pub moves : t ≢ x

-- an object was claimed in place, and is to be copied
pub record IsCopiedHere (x : ℕ) (p : Setup) (es : List Event) (v : View) : Type 0 where
  pub right : 0 < hits x (steps_at_claim p x x) v.won
  pub target : 0 < hits x x v.known

-- The view has the right to scan each logged object, from its first field on.
pub record HoldsLogged (p : Setup) (v : View) : Type 0 where
  pub right : (x : ℕ) → IsTrue (was_logged p x) → 0 < hits x 0 v.grey
  pub target : (x : ℕ) → IsTrue (was_logged p x) → 0 < hits x x v.known

-- a field or global refers to this object, or to none
abbrev pub IsReferred : ℕ → Setup → List Event → View → Type 0
IsReferred reference p es v = IsTrue (is_reference reference) → IsHeld p.before reference

-- The object at x may not move, and no claimed object waits to be copied. So it has its target if
-- its unlog bit is set, and nothing claimed it if the bit is clear.
pub record StaysHere (p : Setup) (v : View) (x : ℕ) : Type 0 where
  pub held : IsHeld p.before x
  pub fixed : may_be_moved p x ≡ false
  pub none_won : v.won ≡ []
