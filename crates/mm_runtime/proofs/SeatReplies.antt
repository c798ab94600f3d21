-- What calls at a seat answer, one after another.
use Rattle.std.proofs.Common.{◌≡◌, refl, sym, ◌∙◌, ap, subst, ◌+◌, List, [], ◌∷◌, ◌++◌, map, take, length, length-append, append_assoc, append-nil}
use Rattle.std.specs.Prelude.{Option, Some, None, MatchOption}
use Rattle.std.proofs.lemmas.List.{map-append}
use Rattle.ideal_heap.specs.declared.command.Command.{Command}
use Rattle.ideal_heap.specs.declared.reply.Reply.{Reply}
use Rattle.ideal_heap.specs.Runs.{entry}
use Rattle.mutator_calls.specs.Effects.{Answered}
use Rattle.mutator_rule.specs.declared.seat.MutatorSeat.{MutatorSeat}
use Rattle.racing_world.specs.declared.world.World.{World}
use Rattle.racing_mutator.specs.RacingSeats.{MayCall}
use Rattle.racing_world.specs.Calls.{history_at, calls_of, number_of, has_raised, stop_seen, EntersOnce, EntersNothing}
use Rattle.sessions.specs.Plans.{Rules}
use Rattle.stored_replies.specs.Replies.{Replies}
use Rattle.mm_runtime.specs.declared.progress.Progress.{Progress}
use Rattle.mm_runtime.specs.declared.progress.PartEnd.{PartEnd}
use Rattle.mm_runtime.specs.Managers.{next_in_trace}
use Rattle.mm_runtime.specs.SeatParts.{AnswersSeat, RepliesUnstopped, SeatGetsReply, SeatGoesOn, SeatEndsPart, RunsSeat}
use Rattle.mm_runtime.proofs.ListFacts.{entries-of}
use Rattle.mm_runtime.proofs.Replying.{take-more}

module _ {P : Type 0} (rules : Rules) (w : World P) where
  pub seat-none : (seat : MutatorSeat) → MayCall rules w.row seat → AnswersSeat rules w seat [] seat
  seat-none seat may = record {
    call = may;
    number = refl;
    history = ([], append-nil (history_at rules seat));
    calls = sym (append-nil (calls_of rules seat));
  }

  pub seat-append : (old mid new : MutatorSeat) (es fs : List Answered) → AnswersSeat rules w old es mid → AnswersSeat rules w mid fs new
      → AnswersSeat rules w old (es ++ fs) new
  seat-append old mid new es fs x y = record {
    call = y.call;
    number = y.number ∙ x.number;
    history = (
      x.history.0 ++ y.history.0,
      sym (append_assoc (history_at rules old) x.history.0 y.history.0) ∙ ap (λ l. l ++ y.history.0) x.history.1 ∙ y.history.1,
    );
    calls = y.calls ∙ ap (λ n. calls_of rules mid ++ entries-of n fs) x.number
        ∙ ap (λ l. l ++ entries-of (number_of old) fs) x.calls
        ∙ append_assoc (calls_of rules old) (entries-of (number_of old) es) (entries-of (number_of old) fs)
        ∙ ap (λ l. calls_of rules old ++ l) (sym (map-append (λ (e : Answered). entry (number_of old) e.command e.reply) es fs));
  }

  pub seat-nothing : (old new : MutatorSeat) → EntersNothing rules w old new → AnswersSeat rules w old [] new
  seat-nothing old new call = record {
    call = call.sees.call;
    number = call.sees.number;
    history = (call.since, sym call.sees.history);
    calls = call.calls ∙ sym (append-nil (calls_of rules old));
  }

  pub seat-entered : (old new : MutatorSeat) (command : Command) (reply : Reply) → EntersOnce rules w old command reply new
      → AnswersSeat rules w old (record { command = command; reply = reply } ∷ []) new
  seat-entered old new command reply call = record {
    call = call.sees.call;
    number = call.sees.number;
    history = (call.before ++ entry (number_of old) command reply ∷ call.after, sym call.sees.history);
    calls = call.calls;
  }

  -- the reply of a call goes to the replies
  pub gets-reply : (old new : MutatorSeat) (command given : Command) (reply : Reply) (before after : Replies) → command ≡ given → EntersOnce rules w old given reply new
      → after.items ≡ before.items ++ reply ∷ [] → after.capacity ≡ before.capacity → SeatGetsReply rules w old command before new after
  gets-reply old new command given reply before after same call items capacity = record {
    reply = reply;
    answers = subst (λ (x : Command). AnswersSeat rules w old (record { command = x; reply = reply } ∷ []) new) (sym same) (seat-entered old new given reply call);
    items = items;
    capacity = capacity;
    raised = call.raised;
  }

  -- a step that a call without entries comes before
  module _ (old mid new : MutatorSeat) (command : Command) (before after : Replies) (first : AnswersSeat rules w old [] mid) (kept : has_raised mid ≡ has_raised old) where
    pub gets-after : SeatGetsReply rules w mid command before new after → SeatGetsReply rules w old command before new after
    gets-after gets = record {
      reply = gets.reply;
      answers = seat-append old mid new [] (record { command = command; reply = gets.reply } ∷ []) first gets.answers;
      items = gets.items;
      capacity = gets.capacity;
      raised = gets.raised ∙ kept;
    }

    pub ends-after : (end : PartEnd) → SeatEndsPart rules w mid command before new after end → SeatEndsPart rules w old command before new after end
    ends-after end ends = record {
      answers = seat-append old mid new [] [] first ends.answers;
      replies = ends.replies;
      cause = ends.cause;
      raised = λ calm. ends.raised (kept ∙ calm);
    }

    pub goes-on : stop_seen mid ≡ 0 → SeatGetsReply rules w mid command before new after → SeatGoesOn rules w old command before new after
    goes-on unstopped gets = record { polled = mid; polls = first; unstopped = unstopped; raised = kept; gets = gets }

    pub step-after : (result : Option PartEnd) → stop_seen mid ≡ 0 → MatchOption result (SeatGetsReply rules w mid command before new after) (SeatEndsPart rules w mid command before new after)
        → MatchOption result (SeatGoesOn rules w old command before new after) (SeatEndsPart rules w old command before new after)
    step-after None unstopped gets = goes-on unstopped gets
    step-after (Some end) unstopped ends = ends-after end ends

  pub gets-of : (old new : MutatorSeat) (command : Command) (before after : Replies) → SeatGoesOn rules w old command before new after → SeatGetsReply rules w old command before new after
  gets-of old new command before after step = gets-after old step.polled new command before after step.polls step.raised step.gets

  -- replies that came after polls which saw no stop, and one more, or none
  unstopped-append : (old mid new : MutatorSeat) (es fs : List Answered) → RepliesUnstopped rules w old es mid → RepliesUnstopped rules w mid fs new → RepliesUnstopped rules w old (es ++ fs) new
  unstopped-append old mid new [] [] x y = seat-append old mid new [] [] x y
  unstopped-append old mid new [] (f ∷ fs) x y = (y.0, y.1, seat-append old mid y.0 [] [] x y.2, y.3, y.4, y.5)
  unstopped-append old mid new (e ∷ es) fs x y = (x.0, x.1, x.2, x.3, x.4, unstopped-append x.1 mid new es fs x.5 y)

  one-unstopped : (old new : MutatorSeat) (command : Command) (before after : Replies) → (step : SeatGoesOn rules w old command before new after)
      → RepliesUnstopped rules w old (record { command = command; reply = step.gets.reply } ∷ []) new
  one-unstopped old new command before after step = (step.polled, new, step.polls, step.unstopped, step.gets.answers, seat-none new step.gets.answers.call)

  -- the replies of a part go to those of its trace
  pub runs-none : (seat : MutatorSeat) (p : Progress) → MayCall rules w.row seat → RunsSeat rules w seat p seat p
  runs-none seat p may = record {
    answered = [];
    answers = seat-none seat may;
    unstopped = seat-none seat may;
    trace = refl;
    replies = sym (append-nil p.replies.items);
    commands = sym (append-nil (take (length p.replies.items) p.trace));
  }

  pub runs-more : (old mid new : MutatorSeat) (before between after : Progress) (command : Command) → RunsSeat rules w old before mid between
      → SeatGoesOn rules w mid command between.replies new after.replies → next_in_trace between ≡ Some command
      → after.trace ≡ between.trace → RunsSeat rules w old before new after
  unfolding gets-of gets-after
  runs-more old mid new before between after command runs step is trace =
      let gets = gets-of mid new command between.replies after.replies step in
      let reply : Reply = gets.reply in
      let replies : after.replies.items ≡ between.replies.items ++ reply ∷ [] = gets.items in
      let one : List Answered = record { command = command; reply = reply } ∷ [] in
      let count : length after.replies.items ≡ length between.replies.items + 1 = ap length replies ∙ length-append between.replies.items (reply ∷ []) in record {
        answered = runs.answered ++ one;
        answers = seat-append old mid new runs.answered one runs.answers gets.answers;
        unstopped = unstopped-append old mid new runs.answered one runs.unstopped (one-unstopped mid new command between.replies after.replies step);
        trace = trace ∙ runs.trace;
        replies = replies ∙ ap (λ l. l ++ reply ∷ []) runs.replies
            ∙ append_assoc before.replies.items (map (λ e. e.reply) runs.answered) (reply ∷ [])
            ∙ ap (λ l. before.replies.items ++ l) (sym (map-append (λ (e : Answered). e.reply) runs.answered one));
        commands = ap (λ n. take n after.trace) count ∙ ap (take (length between.replies.items + 1)) trace
            ∙ take-more between.trace (length between.replies.items) command is
            ∙ ap (λ l. l ++ command ∷ []) runs.commands
            ∙ append_assoc (take (length before.replies.items) before.trace) (map (λ e. e.command) runs.answered) (command ∷ [])
            ∙ ap (λ l. take (length before.replies.items) before.trace ++ l) (sym (map-append (λ (e : Answered). e.command) runs.answered one));
      }

  pub runs-ended : (old mid new : MutatorSeat) (command : Command) (before between after : Progress) (end : PartEnd) → RunsSeat rules w old before mid between
      → after.trace ≡ between.trace → SeatEndsPart rules w mid command between.replies new after.replies end → RunsSeat rules w old before new after
  runs-ended old mid new command before between after end runs trace ends =
      let same : after.replies.items ≡ between.replies.items = ap (λ (v : Replies). v.items) ends.replies in record {
        answered = runs.answered;
        answers = subst (λ (es : List Answered). AnswersSeat rules w old es new) (append-nil runs.answered) (seat-append old mid new runs.answered [] runs.answers ends.answers);
        unstopped = subst (λ (es : List Answered). RepliesUnstopped rules w old es new) (append-nil runs.answered) (unstopped-append old mid new runs.answered [] runs.unstopped ends.answers);
        trace = trace ∙ runs.trace;
        replies = same ∙ runs.replies;
        commands = ap (λ (l : List Reply). take (length l) after.trace) same ∙ ap (take (length between.replies.items)) trace ∙ runs.commands;
      }
