-- What a tracer's row is, from the trace that it makes.
use Rattle.std.proofs.Common.{◌≡◌, List, length, sym, ap, ◌∙◌}
use Rattle.std.specs.Prelude.{Option, Some, None, IfSome, IfNone}
use Rattle.heap_layout.specs.Zones.{row_words}
use Rattle.trace_core.specs.Setups.{Setup, blocks}
use Rattle.trace_core.specs.Machine.{Event}
use Rattle.trace_core.specs.Traces.{machine_after}
use Rattle.trace_core.specs.Views.{View}
use Rattle.plain_tracer.specs.Tracers.{Tracks, TracerHolds}
use Rattle.plain_tracer.specs.declared.plain_trace.PlainTrace.{PlainTrace}
use Rattle.trace_core.proofs.Law.{sound}

module _ (p : Setup) (es : List Event) (t : PlainTrace) (v : View) (tracks : Tracks p es t v) where
  pub words-are : t.row.words ≡ (machine_after p es).words
  words-are = ap (λ s. s.words) tracks.row

  pub blocks-are : t.row.layout.blocks ≡ blocks p
  blocks-are = ap (λ s. s.blocks) tracks.row

  pub row-extent : length t.row.words ≡ row_words t.row.layout.blocks
  row-extent = ap length words-are ∙ (sound p es tracks.trace).objects.long ∙ ap row_words (sym blocks-are)

pub tracing-extent : (t : PlainTrace) (Right : Setup → List Event → View → Type 0) → TracerHolds t Right → length t.row.words ≡ row_words t.row.layout.blocks
tracing-extent t Right is = row-extent is.setup is.events t is.view is.tracks

-- what follows from what is in an option, and from its being empty
pub if-some : {T : Type 0} (P Q : T → Type 0) (o : Option T) → ((x : T) → P x → Q x) → IfSome o P → IfSome o Q
if-some P Q None f is = is
if-some P Q (Some x) f is = f x is

pub if-none : {T : Type 0} (P Q : Type 0) (o : Option T) → (P → Q) → IfNone o P → IfNone o Q
if-none P Q None f is = f is
if-none P Q (Some x) f is = is

pub none-from : {T P : Type 0} (o : Option T) → P → IfNone o P
none-from None is = is
none-from (Some x) is = tt
