-- Logs that grow at their end, and beginnings of them.
use Rattle.std.proofs.Common.{◌≡◌, ◌≢◌, ℕ, suc, ◌<◌, ◌+◌, ◌==◌, cond, eq-eqb, ne_eqb, List, [], ◌∷◌, ◌++◌, length, refl, ap, sym, ◌∙◌, append_assoc, Bool, arith, inl, inr}
use Rattle.std.specs.Prelude.{nat_eq, Option, Some, None}
use Rattle.std.specs.List.{Contains}
use Rattle.std.proofs.lemmas.Bool.{cond-true, cond-false, cases_eq}
use Rattle.std.proofs.lemmas.List.{append-nil}
use Rattle.std.proofs.lemmas.List.Sums.{sum_by-cons}
use Rattle.std.proofs.lemmas.List.Elements.{filter-append}
use mathlib.Core.List.{IsPrefix}
use Rattle.ideal_heap.specs.declared.command.Command.{Command}
use Rattle.ideal_heap.specs.declared.reply.Reply.{Reply}
use Rattle.ideal_heap.specs.Runs.{Entry}
use Rattle.object_model.specs.Graphs.{numbers_of}
use Rattle.mutator_core.specs.declared.state.LogEntry.{LogEntry}
use Rattle.mutator_core.specs.Machine.{Epoch, Machine, next, heap_in, answer_at, local_after, found, first_machine}
use Rattle.mutator_core.specs.Guards.{MayStep}
use Rattle.mutator_core.specs.Histories.{after, IsLog, history, entries_of, entry_of, entries_with, reply_in}
use Rattle.mutator_core.specs.Logs.{machine_after, local_after_log, history_of}
use Rattle.mutator_core.proofs.Regions.{after-append, history-append}
use Rattle.mutator_rule.specs.Views.{steps_by, entries_by, times_in}

-- a log and one more step
pub after-push : (p : Epoch) (h : Machine) (log : List LogEntry) (e : LogEntry) → after p h (log ++ e ∷ []) ≡ next p (after p h log) e.mutator e.event
after-push p h log e = after-append p h log (e ∷ [])

pub log-push : (p : Epoch) (h : Machine) (log : List LogEntry) (e : LogEntry) → IsLog p h log → Contains (numbers_of p.mutators) e.mutator
    → MayStep p ((after p h log).locals e.mutator) e.event → e.answer ≡ answer_at p (after p h log) e.mutator e.event → IsLog p h (log ++ e ∷ [])
log-push p h [] e is known may right = (known, may, right, tt)
log-push p h (x ∷ xs) e is known may right = (is.0, is.1, is.2, log-push p (next p h x.mutator x.event) xs e is.3 known may right)

pub own-push : (m : ℕ) (log : List LogEntry) (e : LogEntry) → e.mutator ≡ m → steps_by m (log ++ e ∷ []) ≡ steps_by m log ++ e ∷ []
own-push m log e is = filter-append (λ (x : LogEntry). x.mutator == m) log (e ∷ []) ∙ ap (λ b. steps_by m log ++ cond b (e ∷ []) []) (eq-eqb e.mutator m is)

pub other-push : (m : ℕ) (log : List LogEntry) (e : LogEntry) → e.mutator ≢ m → steps_by m (log ++ e ∷ []) ≡ steps_by m log
other-push m log e ne = filter-append (λ (x : LogEntry). x.mutator == m) log (e ∷ []) ∙ ap (λ b. steps_by m log ++ cond b (e ∷ []) []) (ne_eqb e.mutator m ne) ∙ append-nil (steps_by m log)

pub steps-append : (m : ℕ) (xs ys : List LogEntry) → steps_by m (xs ++ ys) ≡ steps_by m xs ++ steps_by m ys
steps-append m xs ys = filter-append (λ (x : LogEntry). x.mutator == m) xs ys

pub prefix-push : {A : Type 0} (xs ys : List A) (a : A) → IsPrefix xs ys → IsPrefix xs (ys ++ a ∷ [])
prefix-push xs ys a p = (p.0 ++ a ∷ [], sym (append_assoc xs p.0 (a ∷ [])) ∙ ap (λ w. w ++ a ∷ []) p.1)

pub prefix-self : {A : Type 0} (xs : List A) → IsPrefix xs xs
prefix-self xs = ([], append-nil xs)

-- what is appended and leaves a list as long as it was is nothing
pub nothing-more : {A : Type 0} (xs ys : List A) → xs ++ ys ≡ xs → ys ≡ []
nothing-more [] ys e = e
nothing-more (x ∷ xs) ys e = nothing-more xs ys (let t : x ∷ (xs ++ ys) ≡ x ∷ xs = e in cc)

-- the state of a mutator after one more step: its own, or another's
pub own-state : (p : Epoch) (log : List LogEntry) (e : LogEntry) → local_after_log p (log ++ e ∷ []) e.mutator ≡ local_after p (local_after_log p log e.mutator) e.event (found p (machine_after p log) e.mutator e.event)
own-state p log e = ap (λ (h : Machine). h.locals e.mutator) (after-push p (first_machine p) log e) ∙ cond-true (nat_eq e.mutator e.mutator) _ _ (eq-eqb e.mutator e.mutator refl)

pub other-state : (p : Epoch) (log : List LogEntry) (e : LogEntry) (j : ℕ) → e.mutator ≢ j → local_after_log p (log ++ e ∷ []) j ≡ local_after_log p log j
other-state p log e j ne = ap (λ (h : Machine). h.locals j) (after-push p (first_machine p) log e) ∙ cond-false (nat_eq j e.mutator) _ _ (ne_eqb j e.mutator (λ s. ne (sym s)))

-- a number that is counted is in the list
pub counted : (m : ℕ) (ms : List ℕ) → 0 < times_in m ms → Contains ms m
counted m [] some = absurd (omega arith)
counted m (x ∷ xs) some = elim (cases_eq x m) as (λ _. Contains (x ∷ xs) m) [
  | inl e ↦ (0, (let n : 0 < suc (length xs) = omega arith in n), e)
  | inr ne ↦ (let none : cond {A = ℕ} (x == m) 1 0 ≡ 0 = ap (λ (b : Bool). cond {A = ℕ} b 1 0) (ne_eqb x m ne) in
      let rest = counted m xs (omega (arith, some, none, sum_by-cons (λ (y : ℕ). cond {A = ℕ} (y == m) 1 0) x xs)) in
      (suc rest.0, (let n : rest.0 < length xs = rest.1 in omega arith), rest.2))
]

-- the entries of steps of others are no entries of m
entries-of-other : (m : ℕ) (p : Epoch) (h : Machine) (x : LogEntry) → x.mutator ≢ m → entries_by m (entries_of (heap_in p h) x) ≡ []
entries-of-other m p h x ne = none (entry_of x.event) (reply_in (heap_in p h) x.answer)
  where
    none : (o : Option Command) (r : Reply) → entries_by m (entries_with x.mutator o r) ≡ []
    none None r = refl
    none (Some c) r = ap (λ b. cond b ((record { mutator = x.mutator; command = c; reply = r }) ∷ []) []) (ne_eqb x.mutator m ne)

not-more : {A : Type 0} (x : A) (xs : List A) → x ∷ xs ≡ [] → ⊥
not-more x xs e = cc

pub entries-of-others : (m : ℕ) (p : Epoch) (h : Machine) (log : List LogEntry) → steps_by m log ≡ [] → entries_by m (history p h log) ≡ []
entries-of-others m p h [] none = refl
entries-of-others m p h (x ∷ xs) none = elim (cases_eq x.mutator m) as (λ _. entries_by m (history p h (x ∷ xs)) ≡ []) [
  | inl e ↦ absurd (not-more x (steps_by m xs) (sym (ap (λ b. cond b (x ∷ steps_by m xs) (steps_by m xs)) (eq-eqb x.mutator m e)) ∙ none))
  | inr ne ↦ filter-append (λ (y : Entry). y.mutator == m) (entries_of (heap_in p h) x) (history p (next p h x.mutator x.event) xs)
      ∙ ap (λ ys. ys ++ entries_by m (history p (next p h x.mutator x.event) xs)) (entries-of-other m p h x ne)
      ∙ entries-of-others m p (next p h x.mutator x.event) xs (sym (ap (λ b. cond b (x ∷ steps_by m xs) (steps_by m xs)) (ne_eqb x.mutator m ne)) ∙ none)
]

-- of a history that grew by steps of others and one own step, the own entries grew by that step's
pub entries-push : (m : ℕ) (p : Epoch) (seen between : List LogEntry) (e : LogEntry) → steps_by m between ≡ []
    → entries_by m (history_of p ((seen ++ between) ++ e ∷ [])) ≡ entries_by m (history_of p seen) ++ entries_by m (entries_of (heap_in p (machine_after p (seen ++ between))) e)
entries-push m p seen between e none =
    let first = first_machine p in
    let whole : history_of p ((seen ++ between) ++ e ∷ []) ≡ history_of p (seen ++ between) ++ (entries_of (heap_in p (machine_after p (seen ++ between))) e ++ []) = history-append p first (seen ++ between) (e ∷ []) in
    let front : history_of p (seen ++ between) ≡ history_of p seen ++ history p (machine_after p seen) between = history-append p first seen between in
    ap (entries_by m) whole
    ∙ filter-append (λ (y : Entry). y.mutator == m) (history_of p (seen ++ between)) (entries_of (heap_in p (machine_after p (seen ++ between))) e ++ [])
    ∙ ap (λ ys. entries_by m ys ++ entries_by m (entries_of (heap_in p (machine_after p (seen ++ between))) e ++ [])) front
    ∙ ap (λ ys. ys ++ entries_by m (entries_of (heap_in p (machine_after p (seen ++ between))) e ++ []))
    (filter-append (λ (y : Entry). y.mutator == m) (history_of p seen) (history p (machine_after p seen) between)
    ∙ ap (λ ys. entries_by m (history_of p seen) ++ ys) (entries-of-others m p (machine_after p seen) between none)
    ∙ append-nil (entries_by m (history_of p seen)))
    ∙ ap (λ ys. entries_by m (history_of p seen) ++ entries_by m ys) (append-nil (entries_of (heap_in p (machine_after p (seen ++ between))) e))
