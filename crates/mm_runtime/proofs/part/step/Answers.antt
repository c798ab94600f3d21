-- A poll comes first, and changes nothing.
use Rattle.std.proofs.Common.{◌≡◌, refl, sym, ◌∙◌, ap, subst, [], Some, None, arith}
use Rattle.std.specs.Prelude.{MatchOption}
use Rattle.ideal_heap.specs.declared.command.Command.{Command}
use Rattle.mutator_calls.specs.Effects.{raises}
use Rattle.managed_heap.specs.Worlds.{stop_word}
use Rattle.mm_runtime.specs.Parts.{EndsPart, GetsReply}
use Rattle.mm_runtime.proofs.WorldAnswers.{answers-effect}
use Rattle.mm_runtime.proofs.AnswersInTurn.{answers-unchanged, answers-append, raised-word}
use Rattle.mm_runtime.proofs.PolledStops.{number-some, word-same}
use Rattle.mm_runtime.proofs.Replying.{gets-after, step-after}
use Rattle.mm_runtime.proofs.part.step.Goals as goal

pub returns-in-Raised : goal.returns-in-Raised
returns-in-Raised g c =
    let poll = c.poll.ensures in
    let raised = c.in-Raised.ensures in
    let word : stop_word c.poll.new.self ≡ stop_word c.args.world.now = word-same c.args.world.now c.poll.new.self raised.same in record {
      answers = answers-unchanged c.args.world.now c.poll.new.self c.args.place c.requires.open poll.stays.is_open poll.stays.places poll.history poll.same;
      replies = refl;
      cause = (
        (λ e. let wrong : Some c.args.stored ≡ None = e in cc),
        number-some c.args.world.now c.requires.open c.in-Raised.by (raised.mutator c.in-Raised.by refl),
        raised.stop,
        word ∙ raised.stop,
      );
    }

pub allocate-requires-clause-births : goal.allocate-requires-clause-births
allocate-requires-clause-births g c κs within =
    let poll = c.poll.ensures in
    let same = (answers-unchanged c.args.world.now c.poll.new.self c.args.place c.requires.open poll.stays.is_open poll.stays.places poll.history poll.same).births in
    omega (arith, same, c.requires.births)

pub returns-in-Gc : goal.returns-in-Gc
returns-in-Gc g c =
    let poll = c.in_default.ensures in
    let raise = c.raise.ensures in record {
      answers = answers-append c.args.world.now c.poll.new.self c.raise.new.self c.args.place [] []
          (answers-unchanged c.args.world.now c.poll.new.self c.args.place c.requires.open poll.stays.is_open poll.stays.places poll.history poll.same)
          (answers-effect c.poll.new.self c.raise.new.self c.args.place raises [] poll.stays.is_open raise.stays.is_open raise.stays.places raise.history raise.granted raise.rest);
      replies = refl;
      cause = (
        ap Some (sym c.command-command.ensures ∙ c.in-Gc.is),
        raised-word c.poll.new.self c.raise.new.self c.args.place raise.stays.places raise.rest (word-same c.args.world.now c.poll.new.self poll.same ∙ poll.stop),
      );
    }

pub returns-in-Meet : goal.returns-in-Meet
returns-in-Meet g c =
    let poll = c.poll.ensures in record {
      answers = answers-unchanged c.args.world.now c.poll.new.self c.args.place c.requires.open poll.stays.is_open poll.stays.places poll.history poll.same;
      replies = refl;
      cause = (ap Some (sym c.command-command.ensures ∙ c.in-Meet.is), word-same c.args.world.now c.poll.new.self poll.same);
    }

pub returns-in-New : goal.returns-in-New
returns-in-New g c =
    let poll = c.poll.ensures in
    step-after c.args.world.now c.poll.new.self c.allocate.new.world c.args.place c.args.stored c.args.replies.now c.allocate.new.replies
    (answers-unchanged c.args.world.now c.poll.new.self c.args.place c.requires.open poll.stays.is_open poll.stays.places poll.history poll.same)
    (word-same c.args.world.now c.poll.new.self poll.same) c.allocate.result
    (subst (λ (x : Command). MatchOption c.allocate.result (GetsReply g.P.Plan.rules c.poll.new.self c.args.place x c.args.replies.now c.allocate.new.world c.allocate.new.replies)
    (EndsPart g.P.Plan.rules c.poll.new.self c.args.place x c.args.replies.now c.allocate.new.world c.allocate.new.replies)) (sym c.in-New.is ∙ c.command-command.ensures) c.allocate.ensures)

pub returns-in_default-command : goal.returns-in_default-command
returns-in_default-command g c =
    let poll = c.poll.ensures in
    gets-after c.args.world.now c.poll.new.self c.perform.new.world c.args.place c.args.stored c.args.replies.now c.perform.new.replies
    (answers-unchanged c.args.world.now c.poll.new.self c.args.place c.requires.open poll.stays.is_open poll.stays.places poll.history poll.same)
    (word-same c.args.world.now c.poll.new.self poll.same)
    (subst (λ (x : Command). GetsReply g.P.Plan.rules c.poll.new.self c.args.place x c.args.replies.now c.perform.new.world c.perform.new.replies) c.command-command.ensures c.perform.ensures)
