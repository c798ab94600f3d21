-- The objects whose unlog bits a mutator cleared.
use Rattle.std.specs.Prelude.{ℕ, if◌then◌else◌, nat_eq, List, [], ◌∷◌, ◌++◌}
use Rattle.sessions.specs.Plans.{Rules}
use Rattle.mutator_core.specs.declared.state.Local.{Local}
use Rattle.mutator_core.specs.declared.state.LogEntry.{LogEntry}
use Rattle.mutator_core.specs.declared.state.Event.{Event}
use Rattle.mutator_core.specs.declared.state.Event.TheVariants as e
use Rattle.mutator_core.specs.Machine.{Epoch, Machine, address_in, first_machine, next}
use Rattle.mutator_rule.specs.declared.views.MutatorView.{MutatorView}
use Rattle.mutator_rule.specs.Views.{epoch_with}

-- the address of the object whose unlog bit an event of a mutator in this state clears
abbrev pub logged_by : Local → Event → List ℕ
logged_by l (e.ClearUnlog s) = address_in l s ∷ []
logged_by l _ = []

-- the addresses of the objects whose unlog bits mutator m clears in these steps, in order
abbrev pub logged_in : Epoch → Machine → ℕ → List LogEntry → List ℕ
logged_in p h m [] = []
logged_in p h m (x ∷ xs) = (if nat_eq x.mutator m then logged_by (h.locals m) x.event else [])
    ++ logged_in p (next p h x.mutator x.event) m xs

-- those that the mutator of this view cleared since the epoch began
abbrev pub logged_seen : Rules → MutatorView → List ℕ
logged_seen rules v = logged_in
    (epoch_with rules v.start) (first_machine (epoch_with rules v.start)) v.local.number v.seen
