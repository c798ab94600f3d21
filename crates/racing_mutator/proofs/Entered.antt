-- The entries that a step makes, as the seat sees them.
use Rattle.std.proofs.Common.{◌≡◌, ◌≢◌, ℕ, ◌<◌, eq-eqb, List, [], ◌∷◌, ◌++◌, refl, ap, sym, ◌∙◌, subst}
use Rattle.std.proofs.lemmas.List.{append-nil}
use Rattle.std.specs.Prelude.{Option, Some, Bool, true, false, if◌then◌else◌, MatchBool, nat_eq, slice_index, slice_set, ◌||◌}
use Rattle.std.proofs.lemmas.Bool.{cond-true, cond-false, ne_eqb}
use Rattle.ideal_heap.specs.declared.reply.Reply.TheVariants as r
use Rattle.mutator_core.specs.declared.state.Event.TheVariants as e
use Rattle.ideal_heap.specs.declared.command.Command.{Command}
use Rattle.ideal_heap.specs.declared.reply.Reply.{Reply}
use Rattle.ideal_heap.specs.declared.name.Name.{Name}
use Rattle.ideal_heap.specs.Runs.{entry}
use Rattle.object_model.specs.Objects.{HeapState, name_at, with_words}
use Rattle.sessions.specs.Plans.{Rules}
use Rattle.mutator_calls.specs.Effects.{Effect, enters, raises, IsFound}
use Rattle.mutator_core.specs.declared.state.Event.{Event}
use Rattle.mutator_core.specs.declared.state.LogEntry.{LogEntry}
use Rattle.mutator_core.specs.declared.state.Local.{Local}
use Rattle.mutator_core.specs.declared.state.Answer.{Answer}
use Rattle.mutator_core.specs.declared.state.Answer.TheVariants.{Reference}
use Rattle.mutator_core.specs.Machine.{Epoch, Machine, first_machine, heap_in, answer, address_in, source, stored, word_of_event, local_after}
use Rattle.mutator_core.specs.Histories.{entry_of, entries_with, reply_in}
use Rattle.mutator_core.specs.Logs.{machine_after, heap_after}
use Rattle.mutator_core.proofs.Moments.{same-words}
use Rattle.mutator_rule.specs.declared.views.MutatorView.{MutatorView}
use Rattle.mutator_rule.specs.Views.{epoch_with}
use Rattle.mutator_rule.specs.declared.views.EpochStart.{EpochStart}
use Rattle.mutator_rule.specs.Logs.{MakesStep, KnowsLog, entry_for}
use Rattle.mutator_rule.proofs.Pushes.{after-push}
use Rattle.mutator_rule.proofs.StepsSeen.{step-reply, step-entries}
use Rattle.racing_mutator.specs.declared.racing.Racing.{Racing}
use Rattle.racing_mutator.specs.Logged.{logged_by}
use Rattle.racing_mutator.proofs.Logged.{step-logged, flags-kept}
use Rattle.mutator_rule.specs.declared.seat_notes.SeatNotes.{SeatNotes}
use Rattle.racing_rooms.specs.Rooms.{KeepsRooms}
use Rattle.racing_mutator.specs.RacingSeats.{entries_in, view, local, holdings, logged_at, address, epoch_of_racing, heap_seen, HasName, Makes, DoesEffect}
use Rattle.racing_mutator.specs.SeatLaws.{or-false}

-- notes that stay, stay but for their flags
pub rooms-same : (x y : SeatNotes) → y ≡ x → KeepsRooms x y
rooms-same x y same = subst (λ (z : SeatNotes). KeepsRooms x z) (sym same) refl

module _ {P : Type 0} (rules : Rules) (a b : Racing P) (x : Event) (n : ℕ) (seat : b.seat.ghost_name ≡ a.seat.ghost_name) (row : b.row ≡ a.row) (notes : b.seat.now.notes ≡ a.seat.now.notes) (clears : logged_by (local a) x ≡ []) (st : MakesStep rules (view a) x n (view b)) where
  -- the reply of the step's entry, if it makes one
  abbrev pub reply : Reply
  reply = step-reply rules (view a) (view b) x n st

  -- it logs nothing
  pub logged-same : logged_at rules b.seat.now ≡ logged_at rules a.seat.now
  logged-same = step-logged rules (view a) (view b) x n st ∙ ap (λ ls. logged_at rules a.seat.now ++ ls) clears ∙ append-nil (logged_at rules a.seat.now)

  pub step-makes : (0 < (local a).stop → (local b).stop ≡ (local a).stop) → Makes rules a (entries_with (local a).number (entry_of x) reply) b
  step-makes stop = record {
    seat = seat;
    row = row;
    goes = step-entries rules (view a) (view b) x n st;
    stop = stop;
    flags = flags-kept rules a.seat.now b.seat.now st.start (ap (λ (v : SeatNotes). v.flags) notes) logged-same;
    told = λ is. subst (λ (h : EpochStart). KnowsLog (epoch_with rules h) (view b)) (sym st.start) st.told;
  }

  -- what an event leaves of the mutator's own state
  pub kept : {A : Type 0} (f : Local → A) → f (local_after (epoch_of_racing rules a) (local a) x n) ≡ f (local a) → f (local b) ≡ f (local a)
  kept f same = ap f st.local ∙ same

  -- a step of a command that tries to raise no stop
  pub step-does : (effect : Effect) → entries_with (local a).number (entry_of x) reply ≡ entries_in (local a).number effect → effect.raised ≡ false → effect.logged ≡ []
      → (local_after (epoch_of_racing rules a) (local a) x n).stop ≡ (local a).stop → (local_after (epoch_of_racing rules a) (local a) x n).raised ≡ (local a).raised
      → holdings (local_after (epoch_of_racing rules a) (local a) x n) ≡ holdings (local a) → DoesEffect rules a effect b
  step-does effect told quiet none stop raised holds = record {
    makes = subst (λ es. Makes rules a es b) told (step-makes (λ some. kept (λ l. l.stop) stop));
    logged = logged-same ∙ sym (append-nil (logged_at rules a.seat.now)) ∙ ap (λ ls. logged_at rules a.seat.now ++ ls) (sym none);
    raised = kept (λ l. l.raised) raised ∙ sym (or-false (local a).raised) ∙ ap (λ v. (local a).raised || v) (sym quiet);
    kept = kept holdings holds;
    rooms = rooms-same a.seat.now.notes b.seat.now.notes notes;
  }

-- the attempt to raise a stop
pub or-true : (b : Bool) → (b || true) ≡ true
or-true true = refl
or-true false = refl

pub raise-does : {P : Type 0} (rules : Rules) (a b : Racing P) (n : ℕ) → b.seat.ghost_name ≡ a.seat.ghost_name → b.row ≡ a.row → b.seat.now.notes ≡ a.seat.now.notes → MakesStep rules (view a) e.Raise n (view b) → DoesEffect rules a raises b
raise-does rules a b n seat row notes st = record {
  makes = step-makes rules a b e.Raise n seat row notes refl st (λ some. kept rules a b e.Raise n seat row notes refl st (λ l. l.stop) refl);
  logged = logged-same rules a b e.Raise n seat row notes refl st ∙ sym (append-nil (logged_at rules a.seat.now));
  raised = ap (λ (l : Local). l.raised) st.local ∙ sym (or-true (local a).raised);
  kept = ap holdings st.local;
  rooms = rooms-same a.seat.now.notes b.seat.now.notes notes;
}

-- commands that have no effect
module _ {P : Type 0} (rules : Rules) (a b : Racing P) (command : Command) (n : ℕ) (seat : b.seat.ghost_name ≡ a.seat.ghost_name) (row : b.row ≡ a.row) (notes : b.seat.now.notes ≡ a.seat.now.notes) (st : MakesStep rules (view a) (e.Miss command) n (view b)) where
  abbrev at : ℕ
  at = address_in (local a) (source command)

  held : at ≡ address a (source command)
  held = ap (λ (rs : List ℕ). slice_index rs (source command)) a.seat.now.held

  pub null-does : address a (source command) ≡ 0 → DoesEffect rules a (enters command r.Null) b
  null-does nil = step-does rules a b (e.Miss command) n seat row notes refl st (enters command r.Null)
      (ap (λ (y : Reply). entry (local a).number command y ∷ []) (cond-true (nat_eq at 0) r.Null r.Range (eq-eqb at 0 (held ∙ nil)))) refl refl refl refl refl

  pub range-does : address a (source command) ≢ 0 → DoesEffect rules a (enters command r.Range) b
  range-does some = step-does rules a b (e.Miss command) n seat row notes refl st (enters command r.Range)
      (ap (λ (y : Reply). entry (local a).number command y ∷ []) (cond-false (nat_eq at 0) r.Null r.Range (ne_eqb at 0 (λ zero. some (sym held ∙ zero))))) refl refl refl refl refl

-- a load leaves the heap
load-same : (rules : Rules) (a b : MutatorView) (x : Event) (n : ℕ) (st : MakesStep rules a x n b) → stored (epoch_with rules a.start) a.local x ≡ (λ k. k)
    → heap_after (epoch_with rules b.start) b.seen ≡ heap_after (epoch_with rules a.start) (a.seen ++ st.between)
load-same rules a b x n st id =
    let p : Epoch = epoch_with rules a.start in
    let m : ℕ = a.local.number in
    let h : Machine = machine_after p (a.seen ++ st.between) in
    let e : LogEntry = entry_for p a x n in
    let w : ℕ = word_of_event p (h.locals m) x in
    let keeps : stored p (h.locals m) x (slice_index h.words w) ≡ slice_index h.words w = (λ k. stored p (st.before k) x (slice_index h.words w)) ∙ ap (λ (f : ℕ → ℕ). f (slice_index h.words w)) id in
    (λ k. heap_after (epoch_with rules (st.start k)) (st.seen k))
    ∙ ap (λ (k : Machine). heap_in p k) (after-push p (first_machine p) (a.seen ++ st.between) e)
    ∙ ap (λ ws. with_words p.before ws) (ap (λ v. slice_set h.words w v) keeps ∙ same-words h.words w)

found-reply : (s t : HeapState) (n : ℕ) → t ≡ s → IsFound (λ v (k : Name). k ≡ name_at t v) n (reply_in s (Reference n))
found-reply s t n same = go (nat_eq n 0)
  where
    go : (b : Bool) → MatchBool b ((if b then r.Nil else r.Ref (name_at s n)) ≡ r.Nil) ((k : Name) → k ≡ name_at t n → (if b then r.Nil else r.Ref (name_at s n)) ≡ r.Ref k)
    go true = refl
    go false = λ k e. ap (λ (q : Name). r.Ref q) (sym (e ∙ ap (λ (u : HeapState). name_at u n) same))

-- a load of a reference into register d
pub found-does : {P : Type 0} (rules : Rules) (a b : Racing P) (x : Event) (command : Command) (n d : ℕ) → entry_of x ≡ Some command
    → answer (epoch_of_racing rules a) (local a) x n ≡ Reference n → stored (epoch_of_racing rules a) (local a) x ≡ (λ k. k)
    → (local_after (epoch_of_racing rules a) (local a) x n).stop ≡ (local a).stop → (local_after (epoch_of_racing rules a) (local a) x n).raised ≡ (local a).raised
    → holdings (local_after (epoch_of_racing rules a) (local a) x n) ≡ holdings (local a) → b.seat.ghost_name ≡ a.seat.ghost_name → b.row ≡ a.row → b.seat.now.notes ≡ a.seat.now.notes → logged_by (local a) x ≡ [] → MakesStep rules (view a) x n (view b) → address b d ≡ n
    → (y : Reply) × DoesEffect rules a (enters command y) b × IsFound (HasName rules b) (address b d) y
found-does rules a b x command n d is told id stop raised holds seat row notes clears st at =
    let s : HeapState = heap_after (epoch_of_racing rules a) ((view a).seen ++ st.between) in
    let y : Reply = reply_in s (Reference n) in (
      y,
      step-does rules a b x n seat row notes clears st (enters command y)
          (ap (λ (o : Option Command). entries_with (local a).number o (reply rules a b x n seat row notes clears st)) is ∙ ap (λ (v : Answer). entry (local a).number command (reply_in s v) ∷ []) told)
          refl refl stop raised holds,
      subst (λ v. IsFound (HasName rules b) v y) (sym at) (found-reply s (heap_seen rules b) n (load-same rules (view a) (view b) x n st id)),
    )
