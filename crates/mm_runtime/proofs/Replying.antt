-- The replies of a part go to those of its trace.
use Rattle.std.proofs.Common.{◌≡◌, refl, sym, ◌∙◌, ap, subst, ℕ, ◌+◌, ◌<◌, List, [], ◌∷◌, ◌++◌, map, take, length, length-append, append_assoc, append-nil, add-one, arith}
use Rattle.std.specs.Prelude.{slice_get, Option, Some, None, All, MatchOption}
use Rattle.std.proofs.Math.Seq.{take-suc}
use Rattle.std.proofs.lemmas.List.{map-append}
use Rattle.std.proofs.lemmas.Option.{slice_get_within, get_or_from_slice_get}
use Rattle.ideal_heap.specs.declared.command.Command.{Command}
use Rattle.ideal_heap.specs.declared.reply.Reply.{Reply}
use Rattle.ideal_heap.specs.Commands.{IsValid}
use Rattle.mutator_calls.specs.Effects.{Answered}
use Rattle.sessions.specs.Plans.{Rules}
use Rattle.managed_heap.specs.Worlds.{PlainWorld, IsOpen, stop_word}
use Rattle.stored_replies.specs.Replies.{Replies}
use Rattle.mm_runtime.specs.declared.progress.Progress.{Progress}
use Rattle.mm_runtime.specs.declared.progress.PartEnd.{PartEnd}
use Rattle.mm_runtime.specs.Managers.{next_in_trace, IsProgress}
use Rattle.mm_runtime.specs.Parts.{AnswersMutator, EndsFor, EndsPart, GetsReply, RunsTrace}
use Rattle.mm_runtime.proofs.AnswersInTurn.{answers-none, answers-append}

-- one more element is taken
pub take-more : {A : Type 0} (xs : List A) (k : ℕ) (x : A) → slice_get xs k ≡ Some x → take (k + 1) xs ≡ take k xs ++ x ∷ []
take-more xs k x is =
    ap (λ n. take n xs) (add-one k) ∙ take-suc xs k x (slice_get_within xs k x is)
    ∙ ap (λ y. take k xs ++ y ∷ []) (get_or_from_slice_get xs k x x is)

-- the next command is read at the number of replies
pub next-read : (p : Progress) (k : ℕ) (x : Option Command) → k ≡ length p.replies.items → slice_get p.trace k ≡ x → next_in_trace p ≡ x
next-read p k x count is =
    ap (slice_get p.trace) (sym count) ∙ is

-- the next command is one of the trace
pub next-within : (p : Progress) (command : Command) → next_in_trace p ≡ Some command → length p.replies.items < length p.trace
next-within p command is = slice_get_within p.trace (length p.replies.items) command is

pub next-valid : (p : Progress) (command : Command) → IsProgress p → next_in_trace p ≡ Some command → IsValid command
next-valid p command order is =
    subst IsValid (get_or_from_slice_get p.trace (length p.replies.items) command command is)
    (order.valid (length p.replies.items) command (next-within p command is))

-- one more reply is in order
pub order-more : (old new : Progress) (command : Command) (reply : Reply) → IsProgress old → next_in_trace old ≡ Some command → new.trace ≡ old.trace
    → new.replies.items ≡ old.replies.items ++ reply ∷ [] → new.replies.capacity ≡ old.replies.capacity → IsProgress new
order-more old new command reply order is trace replies capacity =
    let more = next-within old command is in
    let count : length new.replies.items ≡ length old.replies.items + 1 = ap length replies ∙ length-append old.replies.items (reply ∷ []) in
    let many : length new.trace ≡ length old.trace = ap length trace in record {
      valid = subst (All IsValid) (sym trace) order.valid;
      few = let few = order.few in omega arith;
      within = omega arith;
      room = let room = order.room in omega arith;
    }

-- nothing ran yet
pub runs-none : {P : Type 0} {rules : Rules} (w : PlainWorld P) (m : ℕ) (p : Progress) → IsOpen rules w → RunsTrace rules w m p w p
runs-none w m p is = record {
  answered = [];
  answers = answers-none w m is;
  trace = refl;
  replies = sym (append-nil p.replies.items);
  commands = sym (append-nil (take (length p.replies.items) p.trace));
}

-- one more reply
pub runs-more : {P : Type 0} {rules : Rules} (old mid new : PlainWorld P) (m : ℕ) (before between after : Progress) (command : Command) (reply : Reply)
    → RunsTrace rules old m before mid between → AnswersMutator rules mid m (record { command = command; reply = reply } ∷ []) new → next_in_trace between ≡ Some command
    → after.trace ≡ between.trace → after.replies.items ≡ between.replies.items ++ reply ∷ [] → RunsTrace rules old m before new after
runs-more old mid new m before between after command reply runs answers is trace replies =
    let one : List Answered = record { command = command; reply = reply } ∷ [] in
    let count : length after.replies.items ≡ length between.replies.items + 1 = ap length replies ∙ length-append between.replies.items (reply ∷ []) in record {
      answered = runs.answered ++ one;
      answers = answers-append old mid new m runs.answered one runs.answers answers;
      trace = trace ∙ runs.trace;
      replies = replies ∙ ap (λ l. l ++ reply ∷ []) runs.replies
          ∙ append_assoc before.replies.items (map (λ e. e.reply) runs.answered) (reply ∷ [])
          ∙ ap (λ l. before.replies.items ++ l) (sym (map-append (λ (e : Answered). e.reply) runs.answered one));
      commands = ap (λ n. take n after.trace) count ∙ ap (take (length between.replies.items + 1)) trace
          ∙ take-more between.trace (length between.replies.items) command is
          ∙ ap (λ l. l ++ command ∷ []) runs.commands
          ∙ append_assoc (take (length before.replies.items) before.trace) (map (λ e. e.command) runs.answered) (command ∷ [])
          ∙ ap (λ l. take (length before.replies.items) before.trace ++ l) (sym (map-append (λ (e : Answered). e.command) runs.answered one));
    }

-- and no reply more
runs-stopped : {P : Type 0} {rules : Rules} (old mid new : PlainWorld P) (m : ℕ) (before between : Progress) → RunsTrace rules old m before mid between → AnswersMutator rules mid m [] new
    → RunsTrace rules old m before new between
runs-stopped {P} {rules} old mid new m before between runs answers = record {
  answered = runs.answered;
  answers = subst (λ (es : List Answered). AnswersMutator rules old m es new) (append-nil runs.answered) (answers-append old mid new m runs.answered [] runs.answers answers);
  trace = runs.trace;
  replies = runs.replies;
  commands = runs.commands;
}

pub runs-ended : {P : Type 0} {rules : Rules} (old mid new : PlainWorld P) (m : ℕ) (command : Command) (before between after : Progress) (end : PartEnd)
    → RunsTrace rules old m before mid between → after.trace ≡ between.trace
    → EndsPart rules mid m command between.replies new after.replies end → RunsTrace rules old m before new after
runs-ended old mid new m command before between after end runs trace ends =
    let stopped = runs-stopped old mid new m before between runs ends.answers in
    let same : after.replies.items ≡ between.replies.items = ap (λ (v : Replies). v.items) ends.replies in record {
      answered = stopped.answered;
      answers = stopped.answers;
      trace = trace ∙ stopped.trace;
      replies = same ∙ stopped.replies;
      commands = ap (λ (l : List Reply). take (length l) after.trace) same ∙ ap (take (length between.replies.items)) trace ∙ stopped.commands;
    }

-- a step that a call without entries comes before
module _ {P : Type 0} {rules : Rules} (old mid new : PlainWorld P) (m : ℕ) (command : Command) (before after : Replies)
    (first : AnswersMutator rules old m [] mid) (calm : stop_word mid ≡ stop_word old) where
  pub gets-after : GetsReply rules mid m command before new after → GetsReply rules old m command before new after
  gets-after gets = record {
    reply = gets.reply;
    answers = answers-append old mid new m [] (record { command = command; reply = gets.reply } ∷ []) first gets.answers;
    items = gets.items;
    capacity = gets.capacity;
    stop = gets.stop ∙ calm;
  }

  pub ends-after : (end : PartEnd) → EndsPart rules mid m command before new after end → EndsPart rules old m command before new after end
  ends-after end ends = record {
    answers = answers-append old mid new m [] [] first ends.answers;
    replies = ends.replies;
    cause = subst (λ (n : ℕ). EndsFor n new m (Some command) end) calm ends.cause;
  }

  pub step-after : (result : Option PartEnd) → MatchOption result (GetsReply rules mid m command before new after) (EndsPart rules mid m command before new after)
      → MatchOption result (GetsReply rules old m command before new after) (EndsPart rules old m command before new after)
  step-after None gets = gets-after gets
  step-after (Some end) ends = ends-after end ends
