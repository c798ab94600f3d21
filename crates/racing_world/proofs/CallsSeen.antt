-- What a call of a seat adds to the history that the seat has seen.
use Rattle.std.proofs.Common.{◌≡◌, ◌≢◌, ⊎_elim, arith, ℕ, ◌==◌, cond, eq-eqb, ne_eqb, List, [], ◌∷◌, ◌++◌, Bool, true, false, refl, ap, sym, ◌∙◌, subst, inl, inr}
use Rattle.std.specs.Prelude.{◌||◌}
use Rattle.std.specs.List.{Contains}
use Rattle.std.proofs.lemmas.Bool.{cases_eq}
use Rattle.std.proofs.lemmas.List.{append-nil}
use Rattle.std.proofs.lemmas.List.Elements.{filter-append}
use Rattle.ideal_heap.specs.Runs.{Entry, entry}
use Rattle.ideal_heap.specs.declared.command.Command.{Command}
use Rattle.ideal_heap.specs.declared.reply.Reply.{Reply}
use Rattle.object_model.specs.Graphs.{Represents, numbers_of}
use Rattle.object_model.specs.Objects.{word_at}
use Rattle.sessions.specs.Plans.{Rules}
use Rattle.mutator_calls.specs.Effects.{Effect}
use Rattle.mutator_core.specs.Machine.{Epoch, first_machine}
use Rattle.mutator_core.specs.Histories.{history}
use Rattle.mutator_core.specs.declared.state.Local.{Local}
use Rattle.mutator_core.specs.declared.state.Event.TheVariants as event
use Rattle.mutator_core.specs.Logs.{machine_after, heap_after, local_after_log, history_of}
use Rattle.mutator_core.proofs.EpochEnds.{log-seen}
use Rattle.mutator_core.proofs.Beginnings.{log-ends}
use Rattle.mutator_core.proofs.Regions.{history-append}
use Rattle.mutator_rule.specs.declared.views.EpochStart.{EpochStart}
use Rattle.mutator_rule.specs.declared.views.MutatorView.{MutatorView}
use Rattle.mutator_rule.specs.Views.{epoch_with, entries_by}
use Rattle.mutator_rule.specs.Logs.{MakesEntries, MakesStep, history_seen, own_entries}
use Rattle.mutator_rule.specs.Seats.{start_of}
use Rattle.racing_mutator.specs.declared.racing.Racing.{Racing}
use Rattle.racing_world.specs.declared.world.World.{World}
use Rattle.racing_rooms.specs.Rooms.{HasRooms, KeepsRooms}
use Rattle.racing_rooms.proofs.RoomsKept.{rooms-kept}
use Rattle.local_allocators.specs.NotedSeats.{regions_in}
use Rattle.mutator_rule.specs.declared.seat_notes.SeatNotes.{SeatNotes}
use Rattle.racing_mutator.specs.RacingSeats.{entries_in, view, local, epoch_of_racing, Holdings, holdings, UsesItsBlocks, MayCall, IsAtRest, HasFlags, IsReady, Makes, DoesEffect}
use Rattle.racing_mutator.specs.SeatLaws.{or-false}
use Rattle.racing_world.specs.Calls.{epoch_of_world, SeesMore, EntersOnce, EntersCommand, EntersNothing}

-- lists that begin alike end alike
same-end : {A : Type 0} (xs ys zs : List A) → xs ++ ys ≡ xs ++ zs → ys ≡ zs
same-end [] ys zs e = e
same-end (x ∷ xs) ys zs e = same-end xs ys zs (let t : x ∷ (xs ++ ys) ≡ x ∷ (xs ++ zs) = e in cc)

-- where one entry of a history is the mutator's
pub record StandsOnce (m : ℕ) (es : List Entry) (e : Entry) : Type 0 where
  pub before : List Entry
  pub after : List Entry
  pub is : es ≡ before ++ e ∷ after
  pub none_before : entries_by m before ≡ []
  pub none_after : entries_by m after ≡ []

stands-once : (m : ℕ) (es : List Entry) (e : Entry) → entries_by m es ≡ e ∷ [] → StandsOnce m es e
stands-once m [] e own = let wrong : [] ≡ e ∷ [] = own in cc
stands-once m (x ∷ xs) e own = elim (cases_eq x.mutator m) as (λ _. StandsOnce m (x ∷ xs) e) [
  | inl mine ↦
      (let here : x ∷ entries_by m xs ≡ e ∷ [] = sym (ap (λ (b : Bool). cond b (x ∷ entries_by m xs) (entries_by m xs)) (eq-eqb x.mutator m mine)) ∙ own in
      let first : x ≡ e = cc in let rest : entries_by m xs ≡ [] = cc in
      record { before = []; after = xs; is = ap (λ y. y ∷ xs) first; none_before = refl; none_after = rest })
  | inr other ↦
      (let skip : entries_by m (x ∷ xs) ≡ entries_by m xs = ap (λ (b : Bool). cond b (x ∷ entries_by m xs) (entries_by m xs)) (ne_eqb x.mutator m other) in
      let rest : StandsOnce m xs e = stands-once m xs e (sym skip ∙ own) in
      record {
        before = x ∷ rest.before;
        after = rest.after;
        is = ap (λ ys. x ∷ ys) rest.is;
        none_before = ap (λ (b : Bool). cond b (x ∷ entries_by m rest.before) (entries_by m rest.before)) (ne_eqb x.mutator m other) ∙ rest.none_before;
        none_after = rest.none_after;
      })
]

-- what a mutator has for allocation stays, so each block that it took has an object still
pub uses-kept : (rules : Rules) (a b : MutatorView) → b.start ≡ a.start → holdings b.local ≡ holdings a.local → UsesItsBlocks (epoch_with rules a.start) (holdings a.local) → UsesItsBlocks (epoch_with rules b.start) (holdings b.local)
uses-kept rules a b start same uses = subst (λ (g : EpochStart). UsesItsBlocks (epoch_with rules g) (holdings b.local)) (sym start)
    (subst (λ (h : Holdings). UsesItsBlocks (epoch_with rules a.start) h) (sym same) uses)

module _ {P : Type 0} (rules : Rules) (w : World P) (a b : Racing P) (here : a.row.now ≡ w.row) (ready : IsReady rules b) (has : HasFlags rules a.seat.now) (uses : UsesItsBlocks (epoch_of_racing rules b) (holdings (local b))) (rooms : HasRooms rules b.seat.now)
    (es : List Entry) (made : Makes rules a es b) where
  abbrev p : Epoch
  p = epoch_with rules (view a).start

  abbrev m : ℕ
  m = (local a).number

  abbrev goes : MakesEntries rules (view a) es (view b)
  goes = made.goes

  abbrev since : List Entry
  since = history p (machine_after p (view a).seen) goes.prefix.0

  grown : history_seen rules (view b) ≡ history_seen rules (view a) ++ since
  grown = (λ k. history_of (epoch_with rules (goes.start k)) (sym goes.prefix.1 k)) ∙ history-append p (first_machine p) (view a).seen goes.prefix.0

  own-since : entries_by m since ≡ es
  own-since = same-end (own_entries rules (view a)) (entries_by m since) es
      (sym (filter-append (λ (x : Entry). x.mutator == m) (history_seen rules (view a)) since) ∙ ap (entries_by m) (sym grown)
      ∙ (λ k. entries_by (sym goes.number k) (history_seen rules (view b))) ∙ goes.own)

  row-same : b.row.now ≡ w.row
  row-same = ap (λ r. r.now) made.row ∙ here

  call : MayCall rules w.row b.seat.now
  call = (subst (λ r. IsAtRest rules r b.seat.now) row-same ready, made.flags has, uses, rooms)

  pub sees-more : SeesMore rules w a.seat.now since b.seat.now
  sees-more = record {
    call = call;
    number = goes.number;
    steps = goes.prefix;
    history = grown;
    run = λ i represents.
        let same : (view b).start ≡ start_of w.row = call.0.own.1 in
        let known = ready.own.2 in
        (log-ends (epoch_with rules (view b).start) i (view b).seen known.epoch.ready
        (subst (λ (g : EpochStart). Represents (epoch_with rules g).before (epoch_with rules g).mutators i) (sym same) represents) known.epoch.steps).run;
    stop = made.stop;
  }

module _ {P : Type 0} (rules : Rules) (w : World P) (a b : Racing P) (here : a.row.now ≡ w.row) (ready : IsReady rules b) (has : HasFlags rules a.seat.now) where
  pub enters-one : (command : Command) (reply : Reply) → Makes rules a (entry (local a).number command reply ∷ []) b → UsesItsBlocks (epoch_of_racing rules b) (holdings (local b)) → HasRooms rules b.seat.now → (local b).raised ≡ (local a).raised
      → EntersOnce rules w a.seat.now command reply b.seat.now
  enters-one command reply made used rooms raised =
      let es : List Entry = entry (local a).number command reply ∷ [] in
      let once : StandsOnce (local a).number (since rules w a b here ready has used rooms es made) (entry (local a).number command reply) = stands-once (local a).number (since rules w a b here ready has used rooms es made) _ (own-since rules w a b here ready has used rooms es made) in
      record {
        before = once.before;
        after = once.after;
        sees = subst (λ xs. SeesMore rules w a.seat.now xs b.seat.now) once.is (sees-more rules w a b here ready has used rooms es made);
        others_before = once.none_before;
        others_after = once.none_after;
        calls = made.goes.own;
        raised = raised;
      }

  pub enters-none : Makes rules a [] b → UsesItsBlocks (epoch_of_racing rules b) (holdings (local b)) → HasRooms rules b.seat.now → EntersNothing rules w a.seat.now b.seat.now
  enters-none made used rooms = record {
    since = since rules w a b here ready has used rooms [] made;
    sees = sees-more rules w a b here ready has used rooms [] made;
    others = own-since rules w a b here ready has used rooms [] made;
    calls = made.goes.own ∙ append-nil (own_entries rules (view a));
  }

-- the same of calls that allocate nothing
module _ {P : Type 0} (rules : Rules) (w : World P) (a b : Racing P) (here : a.row.now ≡ w.row) (ready : IsReady rules b) (has : HasFlags rules a.seat.now) (uses : UsesItsBlocks (epoch_of_racing rules a) (holdings (local a))) (rooms : HasRooms rules a.seat.now) where
  pub enters-command : (effect : Effect) (command : Command) (reply : Reply) → entries_in (local a).number effect ≡ entry (local a).number command reply ∷ [] → effect.raised ≡ false
      → DoesEffect rules a effect b → EntersCommand rules w a.seat.now command reply b.seat.now
  enters-command effect command reply is quiet does =
      let made : Makes rules a (entry (local a).number command reply ∷ []) b = subst (λ xs. Makes rules a xs b) is does.makes in (
        enters-one rules w a b here ready has command reply made (uses-kept rules (view a) (view b) made.goes.start does.kept uses)
            (rooms-kept rules a.seat.now b.seat.now _ made.goes ready.own.2 does.kept does.rooms rooms)
            (does.raised ∙ ap (λ v. (local a).raised || v) quiet ∙ or-false (local a).raised),
        does.kept,
        ap (λ (n : SeatNotes). regions_in n.blocks.items n.local) does.rooms,
      )

  pub enters-nothing : Makes rules a [] b → holdings (local b) ≡ holdings (local a) → KeepsRooms a.seat.now.notes b.seat.now.notes → EntersNothing rules w a.seat.now b.seat.now
  enters-nothing made same keeps = enters-none rules w a b here ready has made (uses-kept rules (view a) (view b) made.goes.start same uses) (rooms-kept rules a.seat.now b.seat.now [] made.goes ready.own.2 same keeps rooms)

-- the stop word that a load found is the one that the seat has seen
pub stop-found : (rules : Rules) (a b : MutatorView) (n : ℕ) → MakesStep rules a event.Poll n b → b.local.stop ≡ n
stop-found rules a b n st = ap (λ (l : Local). l.stop) st.local

-- a stop that a seat has seen was raised by a mutator of the world, which is the caller only if it tried to
module _ {P : Type 0} (rules : Rules) (w : World P) (b : Racing P) (here : b.row.now ≡ w.row) (ready : IsReady rules b) (m : ℕ) (stop : (local b).stop ≡ m) (some : m ≢ 0) where
  abbrev q : Epoch
  q = epoch_with rules (view b).start

  word : word_at (heap_after q (view b).seen) 0 ≡ m
  word =
      let told = ready.own.2 in
      let is : (local b).stop ≡ (local_after_log q (view b).seen (local b).number).stop = ap (λ (l : Local). l.stop) told.now in
      (log-seen q told.ideal (view b).seen told.epoch).polled (local b).number (let e = stop in let s = is in let n = some in omega arith) ∙ sym is ∙ stop

  raised-by : Contains (numbers_of q.mutators) m × ((local_after_log q (view b).seen m).raised ≡ true)
  raised-by = ⊎_elim
      (λ none. absurd (some (sym word ∙ none)))
      (λ r. subst (λ k. Contains (numbers_of q.mutators) k × ((local_after_log q (view b).seen k).raised ≡ true)) word r)
      (log-seen q ready.own.2.ideal (view b).seen ready.own.2.epoch).stop

  pub raised-known : Contains (numbers_of (epoch_of_world rules w).mutators) m
  raised-known = subst (λ (g : EpochStart). Contains (numbers_of (epoch_with rules g).mutators) m) (ready.own.1 ∙ ap (λ r. start_of r) here) raised-by.0

  pub raised-own : m ≡ (local b).number → (local b).raised ≡ true
  raised-own own = ap (λ (l : Local). l.raised) ready.own.2.now ∙ ap (λ k. (local_after_log q (view b).seen k).raised) (sym own) ∙ raised-by.1
