-- The objects that a mutator logged: what a step adds, and that a bit is clear only if one logged its object.
use Rattle.std.proofs.Common.{◌≡◌, ℕ, zero, suc, ◌<◌, cond, eq-eqb, ne_eqb, nat_eq, Bool, true, List, [], ◌∷◌, ◌++◌, ◌⊎◌, length, refl, ap, sym, ◌∙◌, subst, append_assoc, inl, inr, ⊎_elim, arith}
use Rattle.std.specs.Prelude.{if◌then◌else◌, Some, slice_get, slice_set}
use Rattle.heap_layout.specs.Zones.{block_at}
use Rattle.std.specs.List.{Contains}
use Rattle.std.proofs.lemmas.Bool.{cases_eq}
use Rattle.std.proofs.lemmas.List.{append-nil}
use Rattle.sessions.specs.Plans.{Rules}
use Rattle.mutator_core.specs.declared.state.Event.{Event}
use Rattle.mutator_core.specs.declared.state.LogEntry.{LogEntry}
use Rattle.mutator_core.specs.declared.state.Local.{Local}
use Rattle.mutator_core.specs.Machine.{Epoch, Machine, first_machine, next, nothing_unpublished}
use Rattle.mutator_core.proofs.Lists.{contains-cases, contains-here, contains-there, contains-none}
use Rattle.mutator_core.specs.Histories.{after}
use Rattle.mutator_core.specs.Logs.{machine_after}
use Rattle.mutator_rule.specs.declared.views.MutatorView.{MutatorView}
use Rattle.mutator_rule.specs.Views.{epoch_with, steps_by}
use Rattle.mutator_rule.specs.Logs.{MakesStep, KnowsLog, entry_for}
use Rattle.mutator_rule.specs.declared.racing_row.RacingRow.{RacingRow}
use Rattle.mutator_rule.specs.declared.seat.MutatorSeat.{MutatorSeat}
use Rattle.mutator_rule.specs.Seats.{known, epoch_of_seat, IsAtRow, start_of}
use Rattle.racing_mutator.specs.Logged.{logged_by, logged_in, logged_seen}
use Rattle.racing_mutator.specs.RacingSeats.{logged_at, HasFlags, IsAtRest}

pub logged-append : (p : Epoch) (h : Machine) (m : ℕ) (log more : List LogEntry) → logged_in p h m (log ++ more) ≡ logged_in p h m log ++ logged_in p (after p h log) m more
logged-append p h m [] more = refl
logged-append p h m (x ∷ xs) more = ap (λ es. (if nat_eq x.mutator m then logged_by (h.locals m) x.event else []) ++ es) (logged-append p (next p h x.mutator x.event) m xs more)
    ∙ sym (append_assoc (if nat_eq x.mutator m then logged_by (h.locals m) x.event else []) (logged_in p (next p h x.mutator x.event) m xs) (logged_in p (after p (next p h x.mutator x.event) xs) m more))

-- steps of others add nothing
pub none-logged : (p : Epoch) (h : Machine) (m : ℕ) (log : List LogEntry) → steps_by m log ≡ [] → logged_in p h m log ≡ []
none-logged p h m [] none = refl
none-logged p h m (x ∷ xs) none = elim (cases_eq x.mutator m) as (λ _. logged_in p h m (x ∷ xs) ≡ []) [
  | inl mine ↦ absurd (let wrong : x ∷ steps_by m xs ≡ [] = sym (ap (λ (b : Bool). cond b (x ∷ steps_by m xs) (steps_by m xs)) (eq-eqb x.mutator m mine)) ∙ none in cc)
  | inr other ↦ (let rest : steps_by m xs ≡ [] = sym (ap (λ (b : Bool). cond b (x ∷ steps_by m xs) (steps_by m xs)) (ne_eqb x.mutator m other)) ∙ none in
      ap (λ (b : Bool). (if b then logged_by (h.locals m) x.event else []) ++ logged_in p (next p h x.mutator x.event) m xs) (ne_eqb x.mutator m other)
      ∙ none-logged p (next p h x.mutator x.event) m xs rest)
]

-- what a step of the mutator adds to what it logged
pub step-logged : (rules : Rules) (a b : MutatorView) (x : Event) (n : ℕ) → (st : MakesStep rules a x n b) → logged_seen rules b ≡ logged_seen rules a ++ logged_by a.local x
step-logged rules a b x n st =
    let p : Epoch = epoch_with rules a.start in
    let m : ℕ = a.local.number in
    let f : Machine = first_machine p in
    let e : LogEntry = entry_for p a x n in
    let h : Machine = machine_after p (a.seen ++ st.between) in
    (λ k. logged_in (epoch_with rules (st.start k)) (first_machine (epoch_with rules (st.start k))) (st.number k) (st.seen k))
    ∙ logged-append p f m (a.seen ++ st.between) (e ∷ [])
    ∙ ap (λ es. es ++ logged_in p h m (e ∷ [])) (logged-append p f m a.seen st.between ∙ ap (λ es. logged_in p f m a.seen ++ es) (none-logged p (machine_after p a.seen) m st.between st.others) ∙ append-nil (logged_in p f m a.seen))
    ∙ ap (λ es. logged_in p f m a.seen ++ es) (append-nil (if nat_eq m m then logged_by (h.locals m) x else [])
    ∙ ap (λ (b : Bool). if b then logged_by (h.locals m) x else []) (eq-eqb m m refl)
    ∙ ap (λ (l : Local). logged_by l x) st.before)

-- flags that stay are right where nothing more was logged
pub flags-kept : (rules : Rules) (a b : MutatorSeat) → (known b).start ≡ (known a).start → b.notes.flags ≡ a.notes.flags → logged_at rules b ≡ logged_at rules a → HasFlags rules a → HasFlags rules b
flags-kept rules a b start flags logged has = record {
  len = (λ k. length (flags k).items) ∙ has.len ∙ (λ k. (epoch_with rules (sym start k)).before.blocks);
  each = λ o there. (λ k. slice_get (flags k).items (block_at (epoch_with rules (start k)).before.blocks o)) ∙ has.each o (subst (λ ls. Contains ls o) logged there);
}

contains-either : (xs ys : List ℕ) (x : ℕ) → Contains (xs ++ ys) x → Contains xs x ⊎ Contains ys x
contains-either [] ys x there = inr there
contains-either (y ∷ xs) ys x there = elim (contains-cases y (xs ++ ys) x there) as (λ _. Contains (y ∷ xs) x ⊎ Contains ys x) [
  | inl here ↦ inl (subst (Contains (y ∷ xs)) (sym here) (contains-here y xs))
  | inr rest ↦ ⊎_elim (λ (t : Contains xs x). inl (contains-there y xs x t)) (λ (t : Contains ys x). inr t) (contains-either xs ys x rest)
]

slice-set-at : (xs : List Bool) (k : ℕ) → k < length xs → slice_get (slice_set xs k true) k ≡ Some true
slice-set-at [] k few = absurd (omega arith)
slice-set-at (x ∷ xs) zero few = refl
slice-set-at (x ∷ xs) (suc k) few = slice-set-at xs k (omega arith)

slice-set-keeps : (xs : List Bool) (k j : ℕ) → slice_get xs j ≡ Some true → slice_get (slice_set xs k true) j ≡ Some true
slice-set-keeps [] k j set = set
slice-set-keeps (x ∷ xs) zero zero set = refl
slice-set-keeps (x ∷ xs) zero (suc j) set = set
slice-set-keeps (x ∷ xs) (suc k) zero set = set
slice-set-keeps (x ∷ xs) (suc k) (suc j) set = slice-set-keeps xs k j set

slice-set-long : (xs : List Bool) (k : ℕ) → length (slice_set xs k true) ≡ length xs
slice-set-long [] k = refl
slice-set-long (x ∷ xs) zero = refl
slice-set-long (x ∷ xs) (suc k) = ap suc (slice-set-long xs k)

-- an object more was logged, in a block whose flag was set
pub flags-grown : (rules : Rules) (a b : MutatorSeat) (o block : ℕ) → (known b).start ≡ (known a).start → b.notes.flags.items ≡ slice_set a.notes.flags.items block true → logged_at rules b ≡ logged_at rules a ++ o ∷ []
    → block ≡ block_at (epoch_of_seat rules a).before.blocks o → block < length a.notes.flags.items → HasFlags rules a → HasFlags rules b
flags-grown rules a b o block start flags logged here few has = record {
  len = ap (λ (xs : List Bool). length xs) flags ∙ slice-set-long a.notes.flags.items block ∙ has.len ∙ (λ k. (epoch_with rules (sym start k)).before.blocks);
  each = λ q there. (λ k. slice_get (flags k) (block_at (epoch_with rules (start k)).before.blocks q))
      ∙ ⊎_elim
      (λ (was : Contains (logged_at rules a) q). slice-set-keeps a.notes.flags.items block (block_at (epoch_of_seat rules a).before.blocks q) (has.each q was))
      (λ (last : Contains (o ∷ []) q). let same : o ≡ q = ⊎_elim (λ (e : q ≡ o). sym e) (λ none. absurd (contains-none q none)) (contains-cases o [] q last) in
      ap (slice_get (slice_set a.notes.flags.items block true)) (ap (block_at (epoch_of_seat rules a).before.blocks) (sym same) ∙ sym here) ∙ slice-set-at a.notes.flags.items block few)
      (contains-either (logged_at rules a) (o ∷ []) q (subst (λ ls. Contains ls q) logged there));
}

-- a seat that knows this is between two calls
pub rests : {P : Type 0} (rules : Rules) (row : RacingRow P) (v : MutatorView) (y : MutatorSeat) → known y ≡ v → IsAtRow row y → v.start ≡ start_of row → KnowsLog (epoch_with rules v.start) v
    → v.local.unpublished ≡ nothing_unpublished → v.local.pending ≡ 0 → IsAtRest rules row y
rests rules row v y same here start told none stored = record {
  own = (here, ap (λ (w : MutatorView). w.start) same ∙ start, subst (λ (w : MutatorView). KnowsLog (epoch_with rules w.start) w) (sym same) told);
  none = ap (λ (w : MutatorView). w.local.unpublished) same ∙ none;
  stored = ap (λ (w : MutatorView). w.local.pending) same ∙ stored;
}
