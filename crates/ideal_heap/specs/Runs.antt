-- Runs of an ideal heap, and the orders that `meet` allows for the commands of several mutators.
use Rattle.std.specs.Prelude.{◌≡◌, ℕ, ◌+◌, ◌*◌, ◌≤◌, Bool, true, false, List, [], ◌∷◌, ◌++◌, map, filter, length, take}
use Rattle.std.specs.Prelude.{nat_eq, if◌then◌else◌, ◌⊎◌, slice_get, unwrap_or, Option, IsTrue, IfSome, zero, suc}
use Rattle.std.specs.List.{AllByRecursion}
use Rattle.ideal_heap.specs.declared.command.Command.{Command}
use Rattle.ideal_heap.specs.declared.reply.Reply.{Reply}
use Rattle.ideal_heap.specs.declared.reply.Reply.TheVariants as r
use Rattle.ideal_heap.specs.Commands.{is_new, is_meet}
use Rattle.ideal_heap.specs.Ideal.{IdealHeap, step}

pub record Entry : Type 0 where
  pub mutator : ℕ
  pub command : Command
  pub reply : Reply

abbrev pub entry : ℕ → Command → Reply → Entry
entry m c r = record { mutator = m; command = c; reply = r }

abbrev pub is_full : Reply → Bool
is_full r.Full = true
is_full _ = false

-- the heap after an entry: unchanged if the reply is `full`, else that of the step
abbrev pub after_entry : IdealHeap → Entry → IdealHeap
after_entry h e = if is_full e.reply then h else (step h e.mutator e.command).1

-- the reply is that of the step, or a `new` is refused
abbrev pub Answers : IdealHeap → Entry → Type 0
Answers h e = (e.reply ≡ (step h e.mutator e.command).0)
    ⊎ ((e.reply ≡ r.Full) × IsTrue (is_new e.command))

-- the heap after the entries
abbrev pub heap_after_run : IdealHeap → List Entry → IdealHeap
heap_after_run h [] = h
heap_after_run h (e ∷ es) = heap_after_run (after_entry h e) es

-- each entry answers the heap after the entries before it
abbrev pub IsRun : IdealHeap → List Entry → Type 0
IsRun h [] = Unit {0}
IsRun h (e ∷ es) = Answers h e × IsRun (after_entry h e) es

-- the entries of one mutator
abbrev pub of_mutator : ℕ → List Entry → List Entry
of_mutator m es = filter (λ e. nat_eq e.mutator m) es

abbrev pub commands_of : ℕ → List Entry → List Command
commands_of m es = map (λ e. e.command) (of_mutator m es)

abbrev pub replies_of : ℕ → List Entry → List Reply
replies_of m es = map (λ e. e.reply) (of_mutator m es)

-- the number of `meet`s in a list
abbrev pub meets : List Command → ℕ
meets [] = 0
meets (c ∷ cs) = if is_meet c then 1 + meets cs else meets cs

-- The level of a command after j `meet`s of its trace: 2j + 1 for a `meet`, 2j for any other
-- command.
abbrev pub level_of : ℕ → Command → ℕ
level_of j c = if is_meet c then 2 * j + 1 else 2 * j

-- the level of command c of mutator m, if it comes next after the entries done
abbrev pub level_after : List Entry → ℕ → Command → ℕ
level_after done m c = level_of (meets (commands_of m done)) c

-- The levels of the entries, which come after the entries done, never fall and are at least
-- `least`.
abbrev pub RisesFrom : ℕ → List Entry → List Entry → Type 0
RisesFrom least done [] = Unit {0}
RisesFrom least done (e ∷ es) =
    let level : ℕ = level_after done e.mutator e.command in
    (least ≤ level) × RisesFrom level (done ++ e ∷ []) es

-- the level of the last entry, `least` if there is none; the highest level if levels never fall
abbrev pub last_level : ℕ → List Entry → List Entry → ℕ
last_level least done [] = least
last_level least done (e ∷ es) =
    last_level (level_after done e.mutator e.command) (done ++ e ∷ []) es

-- the trace of a mutator, counted from 1
abbrev pub trace_of : List (List Command) → ℕ → List Command
trace_of traces zero = []
trace_of traces (suc k) = unwrap_or (slice_get traces k) []

abbrev pub IsMutator : List (List Command) → ℕ → Type 0
IsMutator traces m = (1 ≤ m) × (m ≤ length traces)

-- the mutator's next command after the entries, None at the end of its trace
abbrev pub next_of : List (List Command) → List Entry → ℕ → Option Command
next_of traces es m = slice_get (trace_of traces m) (length (of_mutator m es))

-- the entries are the first commands of each trace, in an order that every `meet` allows
pub record IsOrderPrefix (traces : List (List Command)) (es : List Entry) : Type 0 where
  pub mutators : AllByRecursion (λ e. IsMutator traces e.mutator) es
  pub commands : (m : ℕ) → IsMutator traces m
      → commands_of m es ≡ take (length (of_mutator m es)) (trace_of traces m)
  pub rises : RisesFrom 0 [] es
  -- no command that is still to come has a lower level than an entry
  pub waits : (m : ℕ) → IsMutator traces m
      → IfSome (next_of traces es m) (λ c. last_level 0 [] es ≤ level_after es m c)

-- the entries are all commands of the traces, in an order that every `meet` allows
pub record IsOrder (traces : List (List Command)) (es : List Entry) : Type 0 where
  pub mutators : AllByRecursion (λ e. IsMutator traces e.mutator) es
  pub commands : (m : ℕ) → IsMutator traces m → commands_of m es ≡ trace_of traces m
  pub rises : RisesFrom 0 [] es

-- the replies to the commands of mutator m, which runs alone from the heap h
abbrev pub alone : IdealHeap → ℕ → List Command → List Reply
alone h m [] = []
alone h m (c ∷ cs) = (step h m c).0 ∷ alone (step h m c).1 m cs
