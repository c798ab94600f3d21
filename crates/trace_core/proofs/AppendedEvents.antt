-- Events after a trace.
use Rattle.std.proofs.Common.{◌≡◌, List, [], ◌∷◌, ◌++◌, refl}
use Rattle.trace_core.specs.Setups.{Setup}
use Rattle.trace_core.specs.Machine.{Machine, Event, next, first_machine}
use Rattle.trace_core.specs.Traces.{May, after, AreNext, IsTracing, machine_after}

pub after-append : (p : Setup) (m : Machine) (es ds : List Event) → after p m (es ++ ds) ≡ after p (after p m es) ds
after-append p m [] ds = refl
after-append p m (e ∷ es) ds = after-append p (next p m e) es ds

pub next-append : (p : Setup) (m : Machine) (es ds : List Event) → AreNext p m es → AreNext p (after p m es) ds → AreNext p m (es ++ ds)
next-append p m [] ds are more = more
next-append p m (e ∷ es) ds are more = (are.0, next-append p (next p m e) es ds are.1 more)

-- the last event came when it could
next-last : (p : Setup) (m : Machine) (es : List Event) (e : Event) → AreNext p m (es ++ e ∷ []) → May p (after p m es) e
next-last p m [] e are = are.0
next-last p m (d ∷ es) e are = next-last p (next p m d) es e are.1

pub trace-last : (p : Setup) (es : List Event) (e : Event) → IsTracing p (es ++ e ∷ []) → May p (machine_after p es) e
trace-last p es e trace = next-last p (first_machine p) es e trace.events

module _ (p : Setup) (es : List Event) (trace : IsTracing p es) where
  -- the machine after more events, which may come
  pub machine-more : (ds : List Event) → machine_after p (es ++ ds) ≡ after p (machine_after p es) ds
  machine-more ds = after-append p (first_machine p) es ds

  pub trace-more : (ds : List Event) → AreNext p (machine_after p es) ds → IsTracing p (es ++ ds)
  trace-more ds are = record { ready = trace.ready; events = next-append p (first_machine p) es ds trace.events are }

  pub machine-next : (e : Event) → machine_after p (es ++ e ∷ []) ≡ next p (machine_after p es) e
  machine-next e = machine-more (e ∷ [])

  pub trace-next : (e : Event) → May p (machine_after p es) e → IsTracing p (es ++ e ∷ [])
  trace-next e may = trace-more (e ∷ []) (may, tt)
