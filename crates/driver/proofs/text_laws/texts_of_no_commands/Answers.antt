use Rattle.std.proofs.Common.{◌≡◌, refl, ℕ, zero, suc, arith, List, [], ◌∷◌}
use Rattle.std.specs.Fmt.{digits}
use Rattle.std.proofs.lemmas.Bool.{false≢true}
use Rattle.ideal_heap.specs.declared.command.Command.{Command}
use Rattle.ideal_heap.specs.Runs.{commands_of, trace_of, IsMutator}
use Rattle.object_model.specs.Graphs.{roots_of}
use Rattle.sessions.specs.Plans.{GenCopy, rules_of}
use Rattle.sessions.specs.Sessions as sessions
use Rattle.sessions.specs.Sessions.{Setting, IsWhole, first_moment}
use Rattle.driver.specs.Texts.{AreLive}
use Rattle.driver.proofs.LiveLists.{reached-in}
use Rattle.driver.proofs.text_laws.texts_of_no_commands.Goals as goal

abbrev setting : List (List Command) → Setting
setting traces = record { rules = rules_of GenCopy; blocks = 5; workers = 3; traces = traces }

abbrev two : List (List Command)
two = [] ∷ [] ∷ []

abbrev one : List (List Command)
one = [] ∷ []

two-order : (m : ℕ) → IsMutator two m → commands_of m [] ≡ trace_of two m
two-order zero is = refl
two-order (suc zero) is = refl
two-order (suc (suc zero)) is = refl
two-order (suc (suc (suc k))) is = refl

one-order : (m : ℕ) → IsMutator one m → commands_of m [] ≡ trace_of one m
one-order zero is = refl
one-order (suc zero) is = refl
one-order (suc (suc k)) is = refl

two-whole : IsWhole (setting two) (first_moment (setting two))
two-whole = record { session = sessions.begun; order = record { mutators = tt; commands = two-order; rises = tt } }

one-whole : IsWhole (setting one) (first_moment (setting one))
one-whole = record { session = sessions.begun; order = record { mutators = tt; commands = one-order; rises = tt } }

two-live : AreLive (first_moment (setting two)) []
two-live = record {
  all = λ a. (
    (λ there. absurd (false≢true (reached-in (first_moment (setting two)).heap (roots_of (first_moment (setting two)).mutators) [] refl refl refl a there))),
    (λ any. absurd (omega (arith, any.2))),
  );
  rise = λ i j low within. absurd (omega (arith, within));
}

one-live : AreLive (first_moment (setting one)) []
one-live = record {
  all = λ a. (
    (λ there. absurd (false≢true (reached-in (first_moment (setting one)).heap (roots_of (first_moment (setting one)).mutators) [] refl refl refl a there))),
    (λ any. absurd (omega (arith, any.2))),
  );
  rise = λ i j low within. absurd (omega (arith, within));
}

pub returns-clause-files : goal.returns-clause-files
unfolding digits
returns-clause-files c = record { last = first_moment (setting two); whole = two-whole; text_is = record { live = []; are = two-live; printed = refl } }

pub returns-clause-made : goal.returns-clause-made
unfolding digits
returns-clause-made c = record { last = first_moment (setting one); whole = one-whole; text_is = record { live = []; are = one-live; printed = refl } }
