-- A part that is run to its end.
use Rattle.std.proofs.Common.{◌≡◌, refl, sym, ◌∙◌, ap, subst, ◌+◌, ◌++◌}
use Rattle.std.specs.Prelude.{Option, Some, None, IfNone, IfSome}
use Rattle.ideal_heap.specs.declared.command.Command.{Command}
use Rattle.mutator_rule.specs.declared.seat.MutatorSeat.{MutatorSeat}
use Rattle.racing_world.specs.declared.world.World.{World}
use Rattle.racing_world.specs.Calls.{IsFresh, calls_of, has_raised}
use Rattle.sessions.specs.Plans.{Rules}
use Rattle.mm_runtime.specs.declared.progress.Progress.{Progress}
use Rattle.mm_runtime.specs.declared.progress.PartEnd.{PartEnd}
use Rattle.mm_runtime.specs.declared.seat_part.Part.{Part}
use Rattle.mm_runtime.specs.Parts.{RepliesGrow, raises_stop}
use Rattle.mm_runtime.specs.SeatParts.{IsPartOf, RunsPartOf, SeatEndsFor, IsEndOf}
use Rattle.mm_runtime.specs.OpenEpochs.{RepliesSince}
use Rattle.mm_runtime.proofs.ListFacts.{entries-of}
use Rattle.mm_runtime.proofs.PartsInTurn.{grows-own}
use Rattle.mm_runtime.proofs.SeatReplies.{runs-none}

module _ {P : Type 0} (rules : Rules) (w : World P) where
  pub part-none : (p : Part) → IsPartOf rules w p → RunsPartOf rules w p p
  part-none p is = record { mutator = refl; runs = runs-none rules w p.seat p.progress is.call }

  -- the replies since the epoch began are those of the calls
  pub since-ran : (old new : Part) → IsPartOf rules w old → RunsPartOf rules w old new → (before : Progress) → RepliesSince rules before old → RepliesSince rules before new
  since-ran old new is ran before since =
      let runs = ran.runs in
      let grown = grows-own old.mutator (calls_of rules old.seat) runs.answered before old.progress new.progress since runs.trace runs.replies runs.commands in
      let calls : calls_of rules new.seat ≡ calls_of rules old.seat ++ entries-of old.mutator runs.answered =
      runs.answers.calls ∙ ap (λ n. calls_of rules old.seat ++ entries-of n runs.answered) is.number in
      subst (λ es. RepliesGrow new.mutator es before new.progress) (sym calls)
      (subst (λ m. RepliesGrow m (calls_of rules old.seat ++ entries-of old.mutator runs.answered) before new.progress) (sym ran.mutator) grown)

-- how a part that has ended stands
pub end-cause : (rules : Rules) (seat : MutatorSeat) (next : Option Command) (o : Option PartEnd) → IsEndOf rules seat next o → IfSome o (SeatEndsFor rules seat next)
end-cause rules seat next None stands = tt
end-cause rules seat next (Some e) stands = stands.0

pub end-raised : (rules : Rules) (seat : MutatorSeat) (next : Option Command) (o : Option PartEnd) → IsEndOf rules seat next o → IfSome o (λ e. has_raised seat ≡ raises_stop e)
end-raised rules seat next None stands = tt
end-raised rules seat next (Some e) stands = stands.1

pub end-fresh : (rules : Rules) (seat : MutatorSeat) (next : Option Command) (o : Option PartEnd) → IsEndOf rules seat next o → IfNone o (IsFresh rules seat)
end-fresh rules seat next None fresh = fresh
end-fresh rules seat next (Some e) stands = tt
