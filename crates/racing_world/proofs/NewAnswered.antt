-- What an allocation of a seat is to its world.
use Rattle.std.proofs.Common.{◌≡◌, sym, subst, ℕ}
use Rattle.ideal_heap.specs.declared.command.Command.TheVariants as c
use Rattle.ideal_heap.specs.declared.reply.Reply.TheVariants as r
use Rattle.sessions.specs.Plans.{Rules}
use Rattle.mutator_calls.specs.declared.need.Allocated.{Allocated}
use Rattle.mutator_calls.specs.declared.need.Allocated.TheVariants.{Made, Stop}
use Rattle.mutator_calls.specs.Allocating.{MatchAllocated}
use Rattle.mutator_rule.specs.declared.views.EpochStart.{EpochStart}
use Rattle.mutator_rule.specs.Views.{epoch_with}
use Rattle.racing_mutator.specs.declared.racing.Racing.{Racing}
use Rattle.racing_world.specs.declared.world.World.{World}
use Rattle.racing_mutator.specs.RacingSeats.{view, local, holdings, epoch_of_racing, IsReady, HasFlags}
use Rattle.racing_rooms.specs.Rooms.{HasRooms, UsesItsBlocks}
use Rattle.racing_mutator.specs.Searches.{Allocates, Needs}
use Rattle.racing_world.specs.Answers.{AnswersNew}
use Rattle.racing_world.proofs.CallsSeen.{enters-one, enters-none}

module _ {P : Type 0} (rules : Rules) (a b : Racing P) (d refs nums : ℕ) where
  abbrev Answered : Allocated → Type 0
  Answered answer = MatchAllocated answer (λ n. Allocates rules a d refs nums n b) (λ need. Needs rules a d refs nums need b)

  -- the seat is that of the call
  pub answer-ghost : (answer : Allocated) → Answered answer → b.seat.ghost_name ≡ a.seat.ghost_name
  answer-ghost (Made n) is = is.makes.seat
  answer-ghost (Stop need) is = is.takes.searches.makes.seat

  answer-start : (answer : Allocated) → Answered answer → (view b).start ≡ (view a).start
  answer-start (Made n) is = is.makes.goes.start
  answer-start (Stop need) is = is.takes.searches.makes.goes.start

  uses-then : (answer : Allocated) → Answered answer → UsesItsBlocks (epoch_of_racing rules a) (holdings (local b)) → UsesItsBlocks (epoch_of_racing rules b) (holdings (local b))
  uses-then answer is uses = subst (λ (e : EpochStart). UsesItsBlocks (epoch_with rules e) (holdings (local b))) (sym (answer-start answer is)) uses

  pub answers-new : (w : World P) → a.row.now ≡ w.row → IsReady rules b → HasFlags rules a.seat.now → HasRooms rules b.seat.now → UsesItsBlocks (epoch_of_racing rules a) (holdings (local b)) → (answer : Allocated) → Answered answer
      → AnswersNew rules w a.seat.now d refs nums answer b.seat.now
  answers-new w here ready has rooms uses (Made n) is = record {
    enters = enters-one rules w a b here ready has (c.New d refs nums) (r.New n) is.makes (uses-then (Made n) is uses) rooms is.raised;
    name = is.name;
    births = is.births;
    small = is.small;
    place = is.place;
    takes = is.takes;
    region = is.region;
    overflow = is.overflow;
  }
  answers-new w here ready has rooms uses (Stop need) is = record {
    nothing = enters-none rules w a b here ready has is.takes.searches.makes (uses-then (Stop need) is uses) rooms;
    raised = is.takes.searches.raised;
    births = is.takes.searches.births;
    owned = is.takes.owned;
    granted = is.takes.granted;
    regions = is.regions;
    made = is.takes.searches.made;
    ticket = is.takes.ticket;
    call = is.call;
    cause = is.cause;
  }
