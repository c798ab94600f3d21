use Rattle.std.proofs.Common.{◌≡◌, ◌⊎◌, refl, ap, inl, inr}
use Rattle.std.specs.Prelude.{Option, Some, None}
use Rattle.ideal_heap.specs.declared.command.Command.{Command}
use Rattle.mutator_core.specs.declared.state.Event.{Event}
use Rattle.mutator_core.specs.declared.state.Event.TheVariants as e
use Rattle.mutator_core.specs.Histories.{entry_of, entries_with, reply_in}
use Rattle.mutator_core.proofs.laws.entries_are_made_at_one_step.Goals as goal

-- the command of an entry
abbrev command-of : Command → Option Command → Command
command-of other None = other
command-of other (Some command) = command

only : (x : Event) (command : Command) → entry_of x ≡ Some command → (x ≡ e.Perform command) ⊎ (x ≡ e.Miss command)
only (e.Perform made) command is = inl (ap (λ o. e.Perform (command-of made o)) is)
only (e.Miss made) command is = inr (ap (λ o. e.Miss (command-of made o)) is)
only e.Poll command is = absurd (let wrong : None ≡ Some command = is in cc)
only (e.LoadName s) command is = absurd (let wrong : None ≡ Some command = is in cc)
only (e.LoadShape s) command is = absurd (let wrong : None ≡ Some command = is in cc)
only (e.LoadCollector s) command is = absurd (let wrong : None ≡ Some command = is in cc)
only (e.LoadShapeAt a) command is = absurd (let wrong : None ≡ Some command = is in cc)
only (e.LoadBlock k) command is = absurd (let wrong : None ≡ Some command = is in cc)
only (e.LoadSide k) command is = absurd (let wrong : None ≡ Some command = is in cc)
only (e.LoadUnlog s) command is = absurd (let wrong : None ≡ Some command = is in cc)
only e.Raise command is = absurd (let wrong : None ≡ Some command = is in cc)
only (e.ClearUnlog s) command is = absurd (let wrong : None ≡ Some command = is in cc)
only (e.Initialize a refs nums offset) command is = absurd (let wrong : None ≡ Some command = is in cc)
only e.DrawTicket command is = absurd (let wrong : None ≡ Some command = is in cc)
only (e.TakeBlock k class free) command is = absurd (let wrong : None ≡ Some command = is in cc)

pub returns-clause-perform : goal.returns-clause-perform
returns-clause-perform c command = refl

pub returns-clause-miss : goal.returns-clause-miss
returns-clause-miss c command = refl

pub returns-clause-only : goal.returns-clause-only
returns-clause-only c = only

pub returns-clause-one : goal.returns-clause-one
returns-clause-one c s x command is = ap (λ (o : Option Command). entries_with x.mutator o (reply_in s x.answer)) is

pub returns-clause-none : goal.returns-clause-none
returns-clause-none c s x is = ap (λ (o : Option Command). entries_with x.mutator o (reply_in s x.answer)) is
