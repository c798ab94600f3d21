-- The tokens that a caller of a tracer holds.
use Rattle.std.specs.Prelude.{◌≡◌, ℕ, ◌<◌, ◌≤◌, List, map}
use Rattle.std.specs.List.{All}
use Rattle.trace_core.specs.Setups.{Setup, size, refs}
use Rattle.trace_core.specs.Machine.{Event}
use Rattle.trace_core.specs.Views.{View, hits}
use Rattle.object_model.specs.Times.{times}
use Rattle.plain_tracer.specs.TokenRights.{to_scan_in}
use Rattle.plain_tracer.specs.Tracers.{Tracks}
use Rattle.plain_tracer.specs.declared.tokens.Grey.{Grey}
use Rattle.plain_tracer.specs.declared.tokens.GlobalRoot.{GlobalRoot}
use Rattle.plain_tracer.specs.declared.plain_trace.PlainTrace.{PlainTrace}

-- the token is of an object with this target, size and number of references
pub record IsOf (p : Setup) (v : View) (grey : Grey) : Type 0 where
  pub target : 0 < hits grey.object grey.target v.known
  pub size : grey.size ≡ size p grey.object
  pub refs : grey.refs ≡ refs p grey.object

-- the view has the rights of these tokens to scan objects, each once
pub record AreGrey (p : Setup) (v : View) (tokens : List Grey) : Type 0 where
  pub rights : (x k : ℕ) → hits x k (to_scan_in tokens) ≤ hits x k v.grey
  pub each : All (IsOf p v) tokens

-- the view has the rights of these tokens to set globals, each once
abbrev pub AreUnset : View → List GlobalRoot → Type 0
AreUnset v tokens = (g : ℕ) → times g (map (λ t. t.global) tokens) ≤ times g v.unset

-- The tracer went on. The same globals are to be set, and the tokens are rights to scan objects.
pub record TracerGoesOn (p : Setup) (v : View) (new : PlainTrace) (tokens : List Grey)
    : Type 0 where
  pub events : List Event
  pub view : View
  pub tracks : Tracks p events new view
  pub unset : view.unset ≡ v.unset
  pub grey : AreGrey p view tokens
