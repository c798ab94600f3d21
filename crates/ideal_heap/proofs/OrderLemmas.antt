-- Levels of runs, and the runs of one mutator.
use Rattle.std.proofs.Common.{◌≡◌, refl, ap, sym, ◌∙◌, subst, ℕ, ◌+◌, ◌*◌, ◌≤◌, true, false, List, [], ◌∷◌, ◌++◌, inl, inr, map, take, length, nat_eq, eq-eqb, append-nil, append_assoc, Option, Some, None, IfSome, if◌then◌else◌, arith}
use Rattle.std.specs.List.{AllByRecursion}
use Rattle.std.proofs.lemmas.List.{map-append}
use Rattle.std.proofs.lemmas.List.Elements.{filter-append}
use Rattle.ideal_heap.specs.declared.command.Command.{Command}
use Rattle.ideal_heap.specs.Commands.{is_meet}
use Rattle.ideal_heap.specs.Ideal.{IdealHeap, step}
use Rattle.ideal_heap.specs.Runs.{Entry, IsRun, Answers, after_entry, is_full, of_mutator, commands_of, replies_of, meets, level_of, level_after, RisesFrom, last_level, trace_of, IsMutator, next_of, IsOrderPrefix, IsOrder, alone}

-- the entries of one mutator in a list with one more entry, of that mutator or of another

pub of_mutator-append : (m : ℕ) (es more : List Entry) → of_mutator m (es ++ more) ≡ of_mutator m es ++ of_mutator m more
of_mutator-append m es more = filter-append (λ e. nat_eq e.mutator m) es more

of_mutator-one : (m : ℕ) (e : Entry) → e.mutator ≡ m → of_mutator m (e ∷ []) ≡ e ∷ []
of_mutator-one m e is = rw (eq-eqb e.mutator m is) refl

pub of_mutator-own : (m : ℕ) (es : List Entry) (e : Entry) → e.mutator ≡ m → of_mutator m (es ++ e ∷ []) ≡ of_mutator m es ++ e ∷ []
of_mutator-own m es e is = of_mutator-append m es (e ∷ []) ∙ ap (λ l. of_mutator m es ++ l) (of_mutator-one m e is)

pub commands_of-own : (m : ℕ) (es : List Entry) (e : Entry) → e.mutator ≡ m → commands_of m (es ++ e ∷ []) ≡ commands_of m es ++ e.command ∷ []
commands_of-own m es e is = ap (λ l. map (λ x. x.command) l) (of_mutator-own m es e is) ∙ map-append (λ x. x.command) (of_mutator m es) (e ∷ [])

-- of_mutator keeps a list of one mutator's entries whole

pub of_mutator-all : (m : ℕ) (es : List Entry) → AllByRecursion (λ e. e.mutator ≡ m) es → of_mutator m es ≡ es
of_mutator-all m [] all = refl
of_mutator-all m (e ∷ es) all = rw (eq-eqb e.mutator m all.0) (ap (λ l. e ∷ l) (of_mutator-all m es all.1))

-- meets

pub meets-append : (cs more : List Command) → meets (cs ++ more) ≡ meets cs + meets more
meets-append [] more = omega arith
meets-append (c ∷ cs) more = elim (is_meet c) as (λ b. (if b then 1 + meets (cs ++ more) else meets (cs ++ more)) ≡ (if b then 1 + meets cs else meets cs) + meets more) [
  | true ↦ omega (arith, meets-append cs more)
  | false ↦ meets-append cs more
]

-- levels of an entry that comes last

pub rises-append : (least : ℕ) (done es more : List Entry) → RisesFrom least done es → RisesFrom (last_level least done es) (done ++ es) more → RisesFrom least done (es ++ more)
rises-append least done [] more rises next = subst (λ l. RisesFrom least l more) (append-nil done) next
rises-append least done (e ∷ es) more rises next = (
  rises.0,
  rises-append (level_after done e.mutator e.command) (done ++ e ∷ []) es more rises.1
      (subst (λ l. RisesFrom (last_level (level_after done e.mutator e.command) (done ++ e ∷ []) es) l more) (sym (append_assoc done (e ∷ []) es)) next),
)

pub last_level-one : (least : ℕ) (done es : List Entry) (e : Entry) → last_level least done (es ++ e ∷ []) ≡ level_after (done ++ es) e.mutator e.command
last_level-one least done [] e = ap (λ l. level_after l e.mutator e.command) (sym (append-nil done))
last_level-one least done (x ∷ es) e =
    last_level-one (level_after done x.mutator x.command) (done ++ x ∷ []) es e ∙ ap (λ l. level_after l e.mutator e.command) (append_assoc done (x ∷ []) es)

-- one mutator's entries: their levels never fall

level-low : (j : ℕ) (c : Command) → 2 * j ≤ level_of j c
level-low j c = elim (is_meet c) as (λ b. 2 * j ≤ (if b then 2 * j + 1 else 2 * j)) [ true ↦ omega arith | false ↦ omega arith ]

level-high : (j : ℕ) (c : Command) → level_of j c ≤ 2 * (j + meets (c ∷ []))
level-high j c = elim (is_meet c) as (λ b. (if b then 2 * j + 1 else 2 * j) ≤ 2 * (j + (if b then 1 + 0 else 0))) [ true ↦ omega arith | false ↦ omega arith ]

level-next : (m : ℕ) (done : List Entry) (e : Entry) → e.mutator ≡ m → level_after done e.mutator e.command ≤ 2 * meets (commands_of m (done ++ e ∷ []))
level-next m done e is =
    let count : meets (commands_of m (done ++ e ∷ [])) ≡ meets (commands_of m done) + meets (e.command ∷ []) =
    ap meets (commands_of-own m done e is) ∙ meets-append (commands_of m done) (e.command ∷ []) in
    let level : level_after done e.mutator e.command ≡ level_of (meets (commands_of m done)) e.command =
    ap (λ k. level_of (meets (commands_of k done)) e.command) is in
    omega (arith, count, level, level-high (meets (commands_of m done)) e.command)

level-least : (m least : ℕ) (done : List Entry) (e : Entry) → e.mutator ≡ m → least ≤ 2 * meets (commands_of m done) → least ≤ level_after done e.mutator e.command
level-least m least done e is low =
    let level : level_after done e.mutator e.command ≡ level_of (meets (commands_of m done)) e.command =
    ap (λ k. level_of (meets (commands_of k done)) e.command) is in
    omega (arith, low, level, level-low (meets (commands_of m done)) e.command)

pub rises-alone : (m least : ℕ) (done es : List Entry) → least ≤ 2 * meets (commands_of m done) → AllByRecursion (λ e. e.mutator ≡ m) es → RisesFrom least done es
rises-alone m least done [] low all = tt
rises-alone m least done (e ∷ es) low all =
    (level-least m least done e all.0 low, rises-alone m (level_after done e.mutator e.command) (done ++ e ∷ []) es (level-next m done e all.0) all.1)

pub last_level-alone : (m least : ℕ) (done es : List Entry) → least ≤ 2 * meets (commands_of m done) → AllByRecursion (λ e. e.mutator ≡ m) es → last_level least done es ≤ 2 * meets (commands_of m (done ++ es))
last_level-alone m least done [] low all = subst (λ l. least ≤ 2 * meets (commands_of m l)) (sym (append-nil done)) low
last_level-alone m least done (e ∷ es) low all =
    subst (λ l. last_level (level_after done e.mutator e.command) (done ++ e ∷ []) es ≤ 2 * meets (commands_of m l)) (append_assoc done (e ∷ []) es)
    (last_level-alone m (level_after done e.mutator e.command) (done ++ e ∷ []) es (level-next m done e all.0) all.1)

-- one mutator, one trace

mutators-of-one : (t : List Command) (es : List Entry) → AllByRecursion (λ e. e.mutator ≡ 1) es → AllByRecursion (λ e. IsMutator (t ∷ []) e.mutator) es
mutators-of-one t [] all = tt
mutators-of-one t (e ∷ es) all =
    let one : e.mutator ≡ 1 = all.0 in
    (subst (λ k. IsMutator (t ∷ []) k) (sym one) (omega arith, omega arith), mutators-of-one t es all.1)

only-one : (t : List Command) (m : ℕ) → IsMutator (t ∷ []) m → m ≡ 1
only-one t m is = omega (arith, is.0, is.1)

each : {X : Type 0} (o : Option X) (P : X → Type 0) → ((x : X) → P x) → IfSome o P
each None P all = tt
each (Some x) P all = all x

pub prefix_of_one : (t : List Command) (es : List Entry) → AllByRecursion (λ e. e.mutator ≡ 1) es → map (λ e. e.command) es ≡ take (length es) t → IsOrderPrefix (t ∷ []) es
prefix_of_one t es all commands =
    let part : of_mutator 1 es ≡ es = of_mutator-all 1 es all in
    let mine : commands_of 1 es ≡ take (length (of_mutator 1 es)) t = ap (λ l. map (λ e. e.command) l) part ∙ commands ∙ ap (λ l. take (length l) t) (sym part) in
    let last : last_level 0 [] es ≤ 2 * meets (commands_of 1 es) = last_level-alone 1 0 [] es (omega arith) all in
    record {
      mutators = mutators-of-one t es all;
      commands = λ m is. subst (λ k. commands_of k es ≡ take (length (of_mutator k es)) (trace_of (t ∷ []) k)) (sym (only-one t m is)) mine;
      rises = rises-alone 1 0 [] es (omega arith) all;
      waits = λ m is. subst (λ k. IfSome (next_of (t ∷ []) es k) (λ c. last_level 0 [] es ≤ level_after es k c)) (sym (only-one t m is))
          (each (next_of (t ∷ []) es 1) (λ c. last_level 0 [] es ≤ level_after es 1 c) (λ c. omega (arith, last, level-low (meets (commands_of 1 es)) c)));
    }

pub order_of_one : (t : List Command) (es : List Entry) → AllByRecursion (λ e. e.mutator ≡ 1) es → map (λ e. e.command) es ≡ t → IsOrder (t ∷ []) es
order_of_one t es all commands =
    let mine : commands_of 1 es ≡ t = ap (λ l. map (λ e. e.command) l) (of_mutator-all 1 es all) ∙ commands in
    record {
      mutators = mutators-of-one t es all;
      commands = λ m is. subst (λ k. commands_of k es ≡ trace_of (t ∷ []) k) (sym (only-one t m is)) mine;
      rises = rises-alone 1 0 [] es (omega arith) all;
    }

-- the replies of one mutator that was never refused

answer-step : (h : IdealHeap) (e : Entry) → Answers h e → is_full e.reply ≡ false → e.reply ≡ (step h e.mutator e.command).0
answer-step h e (inl is) not_full = is
answer-step h e (inr refused) not_full = let wrong : true ≡ false = sym (ap is_full refused.0) ∙ not_full in cc

pub alone-replies : (h : IdealHeap) (m : ℕ) (es : List Entry) → IsRun h es → AllByRecursion (λ e. e.mutator ≡ m) es → AllByRecursion (λ e. is_full e.reply ≡ false) es
    → map (λ e. e.reply) es ≡ alone h m (map (λ e. e.command) es)
alone-replies h m [] run all served = refl
alone-replies h m (e ∷ es) run all served =
    let reply : e.reply ≡ (step h m e.command).0 = answer-step h e run.0 served.0 ∙ ap (λ k. (step h k e.command).0) all.0 in
    let heap : after_entry h e ≡ (step h m e.command).1 =
    ap (λ b. if b then h else (step h e.mutator e.command).1) served.0 ∙ ap (λ k. (step h k e.command).1) all.0 in
    let rest : map (λ x. x.reply) es ≡ alone (after_entry h e) m (map (λ x. x.command) es) = alone-replies (after_entry h e) m es run.1 all.1 served.1 in
    ap (λ x. x ∷ map (λ y. y.reply) es) reply ∙ ap (λ l. (step h m e.command).0 ∷ l) (rest ∙ ap (λ k. alone k m (map (λ x. x.command) es)) heap)

pub alone-of : (h : IdealHeap) (m : ℕ) (es : List Entry) → IsRun h es → AllByRecursion (λ e. e.mutator ≡ m) es → AllByRecursion (λ e. is_full e.reply ≡ false) es
    → replies_of m es ≡ alone h m (commands_of m es)
alone-of h m es run all served =
    let part : of_mutator m es ≡ es = of_mutator-all m es all in
    ap (λ l. map (λ e. e.reply) l) part ∙ alone-replies h m es run all served ∙ ap (λ l. alone h m (map (λ e. e.command) l)) (sym part)
