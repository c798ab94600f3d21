-- Entries in rounds: each mutator with commands left has passed the same number of `meet`s.
use Rattle.std.proofs.Common.{◌≡◌, refl, sym, ◌∙◌, ap, subst, ℕ, zero, suc, ◌+◌, ◌*◌, ◌<◌, ◌≤◌, arith, true, false, cond, List, [], ◌∷◌, ◌++◌, length, map, take, nat_eq, eq-eqb, append-nil, append_assoc, Option, Some, None, IfSome, if◌then◌else◌}
use Rattle.std.specs.Prelude.{slice_get}
use Rattle.std.specs.List.{AllByRecursion}
use Rattle.std.proofs.lemmas.Bool.{false≢true, ne_eqb}
use Rattle.std.proofs.lemmas.List.{map-append, length-append, length-map, length-take, take_all}
use Rattle.std.proofs.lemmas.Option.{slice_get_within, none-some}
use Rattle.ideal_heap.specs.declared.command.Command.{Command}
use Rattle.ideal_heap.specs.Commands.{is_meet}
use Rattle.ideal_heap.specs.Runs.{Entry, of_mutator, commands_of, meets, level_of, level_after, RisesFrom, last_level, trace_of, IsMutator, next_of, IsOrderPrefix, IsOrder}
use Rattle.ideal_heap.proofs.OrderLemmas.{of_mutator-append, meets-append, rises-append, last_level-one}
use Rattle.sessions.specs.Sessions.{is_at_meet, is_waiting}

-- what holds of each entry of two lists, and of each of their parts

pub all-left : {X : Type 0} (P : X → Type 0) (xs ys : List X) → AllByRecursion P (xs ++ ys) → AllByRecursion P xs
all-left P [] ys all = tt
all-left P (x ∷ xs) ys all = (all.0, all-left P xs ys all.1)

pub all-right : {X : Type 0} (P : X → Type 0) (xs ys : List X) → AllByRecursion P (xs ++ ys) → AllByRecursion P ys
all-right P [] ys all = all
all-right P (x ∷ xs) ys all = all-right P xs ys all.1

pub all-append : {X : Type 0} (P : X → Type 0) (xs ys : List X) → AllByRecursion P xs → AllByRecursion P ys → AllByRecursion P (xs ++ ys)
all-append P [] ys all more = more
all-append P (x ∷ xs) ys all more = (all.0, all-append P xs ys all.1 more)

-- more entries: how many a mutator has, and how many `meet`s it has passed

number-more : (m : ℕ) (done more : List Entry) → length (of_mutator m (done ++ more)) ≡ length (of_mutator m done) + length (of_mutator m more)
number-more m done more = ap length (of_mutator-append m done more) ∙ length-append (of_mutator m done) (of_mutator m more)

pub meets-more : (m : ℕ) (done more : List Entry) → meets (commands_of m (done ++ more)) ≡ meets (commands_of m done) + meets (commands_of m more)
meets-more m done more =
    ap (λ l. meets (map (λ e. e.command) l)) (of_mutator-append m done more)
    ∙ ap meets (map-append (λ e. e.command) (of_mutator m done) (of_mutator m more))
    ∙ meets-append (commands_of m done) (commands_of m more)

own-one : (e : Entry) → length (of_mutator e.mutator (e ∷ [])) ≡ 1
own-one e = rw (eq-eqb e.mutator e.mutator refl) refl

pub other-none : (m : ℕ) (e : Entry) (es : List Entry) → (e.mutator ≡ m → ⊥) → of_mutator m (e ∷ es) ≡ of_mutator m es
other-none m e es other = rw (ne_eqb e.mutator m other) refl

no-meets-one : (m : ℕ) (e : Entry) → is_meet e.command ≡ false → meets (commands_of m (e ∷ [])) ≡ 0
no-meets-one m e not = elim (nat_eq e.mutator m) as (λ b. meets (map (λ x. x.command) (cond b (e ∷ []) [])) ≡ 0) [
  | true ↦ ap (λ b. if b then 1 + 0 else 0) not
  | false ↦ refl
]

-- levels

pub last_level-append : (least : ℕ) (done es more : List Entry) → last_level least done (es ++ more) ≡ last_level (last_level least done es) (done ++ es) more
last_level-append least done [] more = ap (λ l. last_level least l more) (sym (append-nil done))
last_level-append least done (e ∷ es) more =
    last_level-append (level_after done e.mutator e.command) (done ++ e ∷ []) es more
    ∙ ap (λ l. last_level (last_level (level_after done e.mutator e.command) (done ++ e ∷ []) es) l more) (append_assoc done (e ∷ []) es)

level-low : (j : ℕ) (command : Command) → 2 * j ≤ level_of j command
level-low j command = elim (is_meet command) as (λ b. 2 * j ≤ (if b then 2 * j + 1 else 2 * j)) [ true ↦ omega arith | false ↦ omega arith ]

level-plain : (j : ℕ) (command : Command) → is_meet command ≡ false → level_of j command ≡ 2 * j
level-plain j command not = ap (λ b. if b then 2 * j + 1 else 2 * j) not

-- no element at an index: the list ends before it
past : {X : Type 0} (xs : List X) (i : ℕ) → slice_get xs i ≡ None → length xs ≤ i
past [] i none = omega arith
past (x ∷ xs) zero none = absurd (none-some x (sym none))
past (x ∷ xs) (suc i) none = omega (arith, past xs i none)

module _ (traces : List (List Command)) where
  -- the mutator has commands left
  abbrev pub HasLeft : List Entry → ℕ → Type 0
  HasLeft done m = length (of_mutator m done) < length (trace_of traces m)

  -- no mutator has more entries than its trace has commands
  abbrev pub AreWithin : List Entry → Type 0
  AreWithin done = (m : ℕ) → IsMutator traces m → length (of_mutator m done) ≤ length (trace_of traces m)

  -- each mutator with commands left has passed j `meet`s, and no entry has a level above 2j
  pub record IsInRound (done : List Entry) (j : ℕ) : Type 0 where
    pub passed : (m : ℕ) → IsMutator traces m → HasLeft done m → meets (commands_of m done) ≡ j
    pub level : last_level 0 [] done ≤ 2 * j
    pub rises : RisesFrom 0 [] done

  pub in_first : IsInRound [] 0
  in_first = record { passed = λ m is left. refl; level = omega arith; rises = tt }

  -- the entries are the first commands of the traces, so they are within the traces
  pub within-from : (done : List Entry) → ((m : ℕ) → IsMutator traces m → commands_of m done ≡ take (length (of_mutator m done)) (trace_of traces m)) → AreWithin done
  within-from done commands m is =
      let number : length (commands_of m done) ≡ length (of_mutator m done) = length-map (of_mutator m done) (λ e. e.command) in
      let same : length (commands_of m done) ≡ length (take (length (of_mutator m done)) (trace_of traces m)) = ap length (commands m is) in
      omega (arith, number, same, length-take (length (of_mutator m done)) (trace_of traces m))

  -- and so are the entries before
  pub within-left : (done more : List Entry) → AreWithin (done ++ more) → AreWithin done
  within-left done more within m is =
      let number : length (of_mutator m (done ++ more)) ≡ length (of_mutator m done) + length (of_mutator m more) = number-more m done more in
      let most : length (of_mutator m (done ++ more)) ≤ length (trace_of traces m) = within m is in
      omega arith

  -- a mutator with commands left had some left before
  pub left-before : (m : ℕ) (done more : List Entry) → HasLeft (done ++ more) m → HasLeft done m
  left-before m done more left =
      let number : length (of_mutator m (done ++ more)) ≡ length (of_mutator m done) + length (of_mutator m more) = number-more m done more in
      let few : length (of_mutator m (done ++ more)) < length (trace_of traces m) = left in
      omega arith

  -- one more entry that is no `meet`
  same-round_one : (done : List Entry) (j : ℕ) (e : Entry) → IsInRound done j → is_meet e.command ≡ false → IsMutator traces e.mutator → HasLeft done e.mutator → IsInRound (done ++ e ∷ []) j
  same-round_one done j e round not is left =
      let level : level_after done e.mutator e.command ≡ 2 * j =
      level-plain (meets (commands_of e.mutator done)) e.command not ∙ ap (λ k. 2 * k) (round.passed e.mutator is left) in
      let last : last_level 0 [] (done ++ e ∷ []) ≡ level_after done e.mutator e.command = last_level-one 0 [] done e in
      let low : last_level 0 [] done ≤ 2 * j = round.level in
      record {
        passed = λ m is_mutator behind.
            let before : meets (commands_of m done) ≡ j = round.passed m is_mutator (left-before m done (e ∷ []) behind) in
            let more : meets (commands_of m (done ++ e ∷ [])) ≡ meets (commands_of m done) + meets (commands_of m (e ∷ [])) = meets-more m done (e ∷ []) in
            let none : meets (commands_of m (e ∷ [])) ≡ 0 = no-meets-one m e not in
            omega arith;
        level = omega arith;
        rises = rises-append 0 [] done (e ∷ []) round.rises (omega arith, tt);
      }

  -- more entries that are no `meet`s
  pub same-round : (done es : List Entry) (j : ℕ) → IsInRound done j → AllByRecursion (λ e. is_meet e.command ≡ false) es → AllByRecursion (λ e. IsMutator traces e.mutator) es → AreWithin (done ++ es)
      → IsInRound (done ++ es) j
  same-round done [] j round not mutators within = subst (λ l. IsInRound l j) (sym (append-nil done)) round
  same-round done (e ∷ es) j round not mutators within =
      let whole : (done ++ e ∷ []) ++ es ≡ done ++ e ∷ es = append_assoc done (e ∷ []) es in
      let moved : AreWithin ((done ++ e ∷ []) ++ es) = subst AreWithin (sym whole) within in
      let most : length (of_mutator e.mutator (done ++ e ∷ [])) ≤ length (trace_of traces e.mutator) = within-left (done ++ e ∷ []) es moved e.mutator mutators.0 in
      let number : length (of_mutator e.mutator (done ++ e ∷ [])) ≡ length (of_mutator e.mutator done) + length (of_mutator e.mutator (e ∷ [])) = number-more e.mutator done (e ∷ []) in
      let one : length (of_mutator e.mutator (e ∷ [])) ≡ 1 = own-one e in
      subst (λ l. IsInRound l j) whole (same-round (done ++ e ∷ []) es j (same-round_one done j e round not.0 mutators.0 (omega arith)) not.1 mutators.1 moved)

  -- a mutator at `meet` has commands left, and one that waits with commands left is at `meet`

  pub left-some : (m : ℕ) (done : List Entry) (o : Option Command) → next_of traces done m ≡ o → is_at_meet o ≡ true → HasLeft done m
  left-some m done None next at = absurd (false≢true at)
  left-some m done (Some command) next at = slice_get_within (trace_of traces m) (length (of_mutator m done)) command next

  pub at_meet-left : (m : ℕ) (done : List Entry) (o : Option Command) → next_of traces done m ≡ o → HasLeft done m → is_waiting o ≡ true → is_at_meet o ≡ true
  at_meet-left m done None next left waiting =
      let none : length (trace_of traces m) ≤ length (of_mutator m done) = past (trace_of traces m) (length (of_mutator m done)) next in
      absurd (omega arith)
  at_meet-left m done (Some command) next left waiting = waiting

  -- the order of entries in a round: no command that is still to come has a lower level
  pub in_order : (done : List Entry) (j : ℕ) → IsInRound done j → AllByRecursion (λ e. IsMutator traces e.mutator) done
      → ((m : ℕ) → IsMutator traces m → commands_of m done ≡ take (length (of_mutator m done)) (trace_of traces m)) → IsOrderPrefix traces done
  in_order done j round mutators commands = record {
    mutators = mutators;
    commands = commands;
    rises = round.rises;
    waits = λ m is. waits m is (next_of traces done m) refl;
  }
    where
      waits : (m : ℕ) → IsMutator traces m → (o : Option Command) → next_of traces done m ≡ o → IfSome o (λ command. last_level 0 [] done ≤ level_after done m command)
      waits m is None next = tt
      waits m is (Some command) next =
          let low : last_level 0 [] done ≤ 2 * j = round.level in
          let passed : meets (commands_of m done) ≡ j = round.passed m is (slice_get_within (trace_of traces m) (length (of_mutator m done)) command next) in
          omega (arith, low, passed, level-low (meets (commands_of m done)) command)

  -- the order of all commands, where none is left
  pub whole_order : (done : List Entry) → IsOrderPrefix traces done → ((m : ℕ) → IsMutator traces m → next_of traces done m ≡ None) → IsOrder traces done
  whole_order done order none = record {
    mutators = order.mutators;
    commands = λ m is. order.commands m is ∙ take_all (length (of_mutator m done)) (trace_of traces m) (past (trace_of traces m) (length (of_mutator m done)) (none m is));
    rises = order.rises;
  }
