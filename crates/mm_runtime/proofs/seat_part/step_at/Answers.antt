-- A poll comes first, and enters nothing.
use Rattle.std.proofs.Common.{◌≡◌, refl, sym, ◌∙◌, ap, subst, []}
use Rattle.std.specs.Prelude.{Some, None, MatchOption}
use Rattle.ideal_heap.specs.declared.command.Command.{Command}
use Rattle.mm_runtime.specs.SeatParts.{SeatEndsPart, SeatGetsReply}
use Rattle.mm_runtime.proofs.SeatBirths.{few-same}
use Rattle.mm_runtime.proofs.SeatHistories.{number-some}
use Rattle.mm_runtime.proofs.SeatReplies.{goes-on, seat-append, seat-nothing, step-after}
use Rattle.mm_runtime.proofs.seat_part.step_at.Goals as goal

pub returns-in-Raised : goal.returns-in-Raised
returns-in-Raised g c =
    let raised = c.in-Raised.ensures in record {
      answers = seat-nothing g.P.Plan.rules c.args.world.now c.args.seat.now c.poll.new.seat raised.nothing;
      replies = refl;
      cause = (
        (λ e. let wrong : Some c.args.stored ≡ None = e in cc),
        number-some g.P.Plan.rules c.args.world.now c.args.seat.now c.requires.call c.in-Raised.by (raised.mutator c.in-Raised.by refl),
        raised.stop,
      );
      raised = λ calm. raised.kept ∙ calm;
    }

pub allocate_at-requires-clause-births : goal.allocate_at-requires-clause-births
allocate_at-requires-clause-births g c κs within =
    few-same g.P.Plan.rules c.args.world.now c.args.seat.now c.poll.new.seat c.args.replies.now c.args.replies.now
    (seat-nothing g.P.Plan.rules c.args.world.now c.args.seat.now c.poll.new.seat c.poll.ensures.nothing) refl c.requires.births

pub returns-in-Gc : goal.returns-in-Gc
returns-in-Gc g c =
    let poll = c.poll.ensures in
    let raise = c.raise.ensures in record {
      answers = seat-append g.P.Plan.rules c.args.world.now c.args.seat.now c.poll.new.seat c.raise.new.seat [] []
          (seat-nothing g.P.Plan.rules c.args.world.now c.args.seat.now c.poll.new.seat poll.nothing)
          (seat-nothing g.P.Plan.rules c.args.world.now c.poll.new.seat c.raise.new.seat raise.nothing);
      replies = refl;
      cause = ap Some (sym c.command-command.ensures ∙ c.in-Gc.is);
      raised = λ calm. raise.raised;
    }

pub returns-in-Meet : goal.returns-in-Meet
returns-in-Meet g c =
    let poll = c.poll.ensures in record {
      answers = seat-nothing g.P.Plan.rules c.args.world.now c.args.seat.now c.poll.new.seat poll.nothing;
      replies = refl;
      cause = ap Some (sym c.command-command.ensures ∙ c.in-Meet.is);
      raised = λ calm. poll.kept ∙ calm;
    }

pub returns-in-New : goal.returns-in-New
returns-in-New g c =
    let poll = c.poll.ensures in
    step-after g.P.Plan.rules c.args.world.now c.args.seat.now c.poll.new.seat c.allocate_at.new.seat c.args.stored c.args.replies.now c.allocate_at.new.replies
    (seat-nothing g.P.Plan.rules c.args.world.now c.args.seat.now c.poll.new.seat poll.nothing) poll.kept c.allocate_at.result c.in_default.ensures.stop
    (subst (λ (x : Command). MatchOption c.allocate_at.result (SeatGetsReply g.P.Plan.rules c.args.world.now c.poll.new.seat x c.args.replies.now c.allocate_at.new.seat c.allocate_at.new.replies)
    (SeatEndsPart g.P.Plan.rules c.args.world.now c.poll.new.seat x c.args.replies.now c.allocate_at.new.seat c.allocate_at.new.replies)) (sym c.in-New.is ∙ c.command-command.ensures) c.allocate_at.ensures)

pub returns-in_default-command : goal.returns-in_default-command
returns-in_default-command g c =
    let poll = c.poll.ensures in
    goes-on g.P.Plan.rules c.args.world.now c.args.seat.now c.poll.new.seat c.perform_at.new.seat c.args.stored c.args.replies.now c.perform_at.new.replies
    (seat-nothing g.P.Plan.rules c.args.world.now c.args.seat.now c.poll.new.seat poll.nothing) poll.kept c.in_default.ensures.stop
    (subst (λ (x : Command). SeatGetsReply g.P.Plan.rules c.args.world.now c.poll.new.seat x c.args.replies.now c.perform_at.new.seat c.perform_at.new.replies) c.command-command.ensures c.perform_at.ensures)
