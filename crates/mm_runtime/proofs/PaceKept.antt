-- A manager whose pace alone is another stands as before.
use Rattle.std.proofs.Common.{ℕ}
use Rattle.sessions.specs.Plans.{Rules}
use Rattle.sessions.specs.Sessions.{Setting, Moment}
use Rattle.mm_runtime.specs.declared.pace.Pace.{Pace}
use Rattle.mm_runtime.specs.declared.manager.Manager.{Manager}
use Rattle.mm_runtime.specs.Managers.{IsInOrder, Closes, ClosesSome}

module _ {P : Type 0} (rules : Rules) (m : Manager P) (pace : Pace) where
  abbrev paced : Manager P
  paced = record m { pace = pace }

  in-order : (more : ℕ) → IsInOrder rules more m → IsInOrder rules more paced
  in-order more order = record {
    heap = order.heap;
    some = order.some;
    few = order.few;
    count = order.count;
    each = order.each;
    births = order.births;
    collections = order.collections;
  }

  pub closes : (t : Setting) (now : Moment) → Closes rules m t now → Closes rules paced t now
  closes t now at = record { session = at.session; stands = record { heap = at.stands.heap; traces = at.stands.traces; replies = at.stands.replies } }

  pub closed-before : (t : Setting) (now : Moment) → Closes rules paced t now → Closes rules m t now
  closed-before t now at = record { session = at.session; stands = record { heap = at.stands.heap; traces = at.stands.traces; replies = at.stands.replies } }

  pub closes-some : ClosesSome rules m → ClosesSome rules paced
  closes-some ready = record { order = in-order 0 ready.order; setting = ready.setting; now = ready.now; closes = closes ready.setting ready.now ready.closes }
