-- The answers of a part: of no call, and of one call after others.
use Rattle.std.proofs.Common.{◌≡◌, refl, sym, ◌∙◌, ap, subst, ℕ, zero, suc, ◌+◌, ◌<◌, ◌≤◌, true, false, List, [], ◌∷◌, ◌++◌, map, append_assoc, append-nil, arith}
use Rattle.std.specs.Prelude.{slice_get, slice_index, Some, None, Option, if◌then◌else◌}
use Rattle.std.proofs.lemmas.List.{map-append}
use Rattle.std.proofs.lemmas.List.Sums.{sum_by-append, sum_by-cons}
use Rattle.ideal_heap.specs.declared.command.Command.{Command}
use Rattle.ideal_heap.specs.declared.reply.Reply.{Reply}
use Rattle.ideal_heap.specs.Commands.{is_new}
use Rattle.ideal_heap.specs.Runs.{Entry, entry}
use Rattle.heap_layout.specs.declared.block.Kind.TheVariants as kinds
use Rattle.object_model.specs.Objects.{HeapState, has_kind}
use Rattle.object_model.specs.Graphs.{MutatorState}
use Rattle.object_model.specs.declared.shape.TheConstants.{MAX_MEDIUM_WORDS}
use Rattle.mutator_calls.specs.declared.need.Mutator.{Mutator}
use Rattle.mutator_calls.specs.declared.need.NeedCause.{NeedCause}
use Rattle.mutator_calls.specs.declared.need.NeedCause.TheVariants.{Large, Budget}
use Rattle.mutator_calls.specs.Effects.{Answered, draws, raises}
use Rattle.mutator_calls.specs.Allocating.{IsCause}
use Rattle.sessions.specs.Plans.{Rules}
use Rattle.managed_heap.specs.Worlds.{PlainWorld, births_of, mutator_number, births_in, stop_after, mutator_number_at, births_at, ticket_at, books_at, HasHistory, HasNoRoom, IsOpen, SamePlaces, AddsEntries, IsUnchanged, LeavesRest, stop_word}
use Rattle.heap_users.specs.Users.{mutator_state}
use Rattle.mm_runtime.specs.Parts.{AnswersMutator, IsExhausted}
use Rattle.mm_runtime.proofs.WorldAnswers.{blocks-same, allowance-same}

-- the mutators keep their numbers
pub number-mapped : (xs : List Mutator) (k : ℕ) → mutator_number (slice_get xs k) ≡ slice_index (map (λ m. m.number) xs) k
number-mapped [] k = refl
number-mapped (x ∷ xs) zero = refl
number-mapped (x ∷ xs) (suc k) = number-mapped xs k

pub number-same : {P : Type 0} (old new : PlainWorld P) → SamePlaces old new → (k : ℕ) → mutator_number_at new k ≡ mutator_number_at old k
number-same old new places k =
    number-mapped new.row.mutators.items k ∙ ap (λ ns. slice_index ns k) places.numbers ∙ sym (number-mapped old.row.mutators.items k)

abbrev births-state : Option MutatorState → ℕ
births-state None = 0
births-state (Some m) = m.births

births-mapped : (xs : List Mutator) (k : ℕ) → births_of (slice_get xs k) ≡ births-state (slice_get (map mutator_state xs) k)
births-mapped [] k = refl
births-mapped (x ∷ xs) zero = refl
births-mapped (x ∷ xs) (suc k) = births-mapped xs k

pub births-same : (old new : List Mutator) → map mutator_state new ≡ map mutator_state old → (k : ℕ) → births_of (slice_get new k) ≡ births_of (slice_get old k)
births-same old new same k = births-mapped new k ∙ ap (λ (ms : List MutatorState). births-state (slice_get ms k)) same ∙ sym (births-mapped old k)

-- a call that changes nothing
pub answers-unchanged : {P : Type 0} {rules : Rules} (old new : PlainWorld P) (m : ℕ) → IsOpen rules old → IsOpen rules new → SamePlaces old new → AddsEntries old [] new
    → IsUnchanged old new → AnswersMutator rules old m [] new
answers-unchanged old new m is_old is_new places history same = record {
  is_open = is_new;
  places = places;
  history = history;
  births = births-same old.row.mutators.items new.row.mutators.items same.mutators m ∙ omega arith;
  others = λ k other. (same.tickets k, births-same old.row.mutators.items new.row.mutators.items same.mutators k);
  blocks = blocks-same old new [] is_old history;
  free = λ k free. subst (λ (s : HeapState). has_kind s k kinds.Free ≡ true) same.heap free;
  allowance = allowance-same old new [] is_old history;
}

-- no call
pub answers-none : {P : Type 0} {rules : Rules} (w : PlainWorld P) (m : ℕ) → IsOpen rules w → AnswersMutator rules w m [] w
answers-none w m is = record {
  is_open = is;
  places = record { count = refl; numbers = refl };
  history = λ p i part has. subst (λ (es : List Entry). HasHistory w p i es) (sym (append-nil part)) has;
  births = omega arith;
  others = λ k other. (refl, refl);
  blocks = refl;
  free = λ k free. free;
  allowance = refl;
}

-- calls after calls
abbrev entries-of : ℕ → List Answered → List Entry
entries-of n es = map (λ e. entry n e.command e.reply) es

pub answers-append : {P : Type 0} {rules : Rules} (old mid new : PlainWorld P) (m : ℕ) (es fs : List Answered) → AnswersMutator rules old m es mid → AnswersMutator rules mid m fs new
    → AnswersMutator rules old m (es ++ fs) new
answers-append old mid new m es fs a b = record {
  is_open = b.is_open;
  places = record { count = b.places.count ∙ a.places.count; numbers = b.places.numbers ∙ a.places.numbers };
  history = λ p i part has. subst (λ (l : List Entry). HasHistory new p i l)
      (append_assoc part (entries-of (mutator_number_at old m) es) (entries-of (mutator_number_at mid m) fs)
      ∙ ap (λ l. part ++ l) (ap (λ n. entries-of (mutator_number_at old m) es ++ entries-of n fs) (number-same old mid a.places m)
      ∙ sym (map-append (λ (e : Answered). entry (mutator_number_at old m) e.command e.reply) es fs)))
      (b.history p i _ (a.history p i part has));
  births = let sum : births_in (es ++ fs) ≡ births_in es + births_in fs = sum_by-append _ es fs in omega (arith, a.births, b.births);
  others = λ k other. let x = a.others k other in let y = b.others k other in (y.0 ∙ x.0, y.1 ∙ x.1);
  blocks = b.blocks ∙ a.blocks;
  free = λ k free. a.free k (b.free k free);
  allowance = b.allowance ∙ a.allowance;
}

-- the ticket of a refused mutator is not below the allowance
pub exhausted : {P : Type 0} {rules : Rules} (mid new : PlainWorld P) (m size : ℕ) (cause : NeedCause) → AnswersMutator rules mid m [] new → ticket_at new m ≡ ticket_at mid m
    → IsCause (books_at mid m) (HasNoRoom mid m size) size cause → size ≤ MAX_MEDIUM_WORDS → IsExhausted new m
exhausted mid new m size Large answers ticket large small = absurd (let more : MAX_MEDIUM_WORDS < size = large in omega arith)
exhausted mid new m size (Budget t) answers ticket is small =
    (t, ticket ∙ is.2, subst (λ (n : ℕ). n ≤ t) (sym answers.allowance) is.3)

-- the stop that a mutator raises
pub raised-word : {P : Type 0} (old new : PlainWorld P) (m : ℕ) → SamePlaces old new → LeavesRest old m raises new → stop_word old ≡ 0
    → stop_word new ≡ mutator_number_at new m
raised-word old new m places rest calm =
    rest.stop ∙ ap (stop_after true (mutator_number_at old m)) calm ∙ sym (number-same old new places m)

-- one call gives at most one birth
one-birth : (command : Command) (reply : Reply) → births_in (record { command = command; reply = reply } ∷ []) ≤ 1
one-birth command reply =
    let one : Answered = record { command = command; reply = reply } in
    let sum : births_in (one ∷ []) ≡ (if is_new command then 1 else 0) + 0 = sum_by-cons (λ (x : Answered). if is_new x.command then 1 else 0) one [] in
    let most : (if is_new command then 1 else 0) + 0 ≤ 1 = elim (is_new command) as (λ b. (if b then 1 else 0) + 0 ≤ 1) [ true ↦ omega arith | false ↦ omega arith ] in
    omega arith

pub births-most : {P : Type 0} {rules : Rules} (old new : PlainWorld P) (m : ℕ) (command : Command) (reply : Reply) → AnswersMutator rules old m (record { command = command; reply = reply } ∷ []) new
    → births_at new m ≤ births_at old m + 1
births-most old new m command reply answers = omega (arith, answers.births, one-birth command reply)

-- a refused allocation raises no stop
pub refused-word : {P : Type 0} (old new : PlainWorld P) (m drawn : ℕ) → LeavesRest old m (draws drawn) new → stop_word old ≡ 0 → stop_word new ≡ 0
refused-word old new m drawn rest calm = rest.stop ∙ calm
