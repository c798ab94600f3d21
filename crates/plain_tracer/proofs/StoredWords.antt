-- A tracer makes the next event by storing one word. Where the event gives no word to an object and takes no block, the
-- tracer tracks the trace with this event.
use Rattle.std.proofs.Common.{◌≡◌, ℕ, ◌+◌, ◌<◌, ◌≤◌, IsTrue, List, [], ◌∷◌, ◌++◌, slice_index, slice_set, sym, ap, ◌∙◌, subst, None}
use Rattle.std.specs.Prelude.{is_some}
use Rattle.heap_layout.specs.Zones.{block_start}
use Rattle.heap_layout.specs.declared.layout.TheConstants.{BLOCK_WORDS}
use Rattle.heap_layout.specs.declared.region.Region.{Region}
use Rattle.object_model.specs.Objects.{with_words}
use Rattle.trace_core.specs.Setups.{Setup, blocks}
use Rattle.trace_core.specs.Machine.{Machine, target, Event, word_changed_by, stored, stage_after, owner_after, taken_after, next, heap_in}
use Rattle.trace_core.specs.Traces.{May, machine_after}
use Rattle.trace_core.specs.Views.{View, Holds}
use Rattle.plain_tracer.specs.Tracers.{Tracks, ChangesWords}
use Rattle.trace_core.specs.Runs.{IsRunOf}
use Rattle.trace_core.specs.Rooms.{IsFilled, IsCopyRoom, AreLeft, StayWithoutRoom}
use Rattle.plain_tracer.specs.declared.plain_trace.PlainTrace.{PlainTrace}
use Rattle.trace_core.proofs.AppendedEvents.{machine-next, trace-next}
use Rattle.trace_core.proofs.BlocksLeft.{left-stays}

module _ (p : Setup) (m m' : Machine) (owner : m'.owner ≡ m.owner) where
  filled-stays : (b offset : ℕ) → IsFilled p m b offset → IsFilled p m' b offset
  filled-stays b offset filled = subst (λ own. (o : ℕ) → o < offset → IsTrue (is_some (own (block_start (blocks p) b + o)))) (sym owner) filled

  pub room-stays : (bs : List ℕ) (block : ℕ) (room : Region) → IsCopyRoom p m bs block room → IsCopyRoom p m' bs block room
  room-stays [] block room is = is
  room-stays (b ∷ earlier) block room is = (
    is.0,
    is.1,
    is.2,
    filled-stays b room.next is.3,
    subst (λ own. (o : ℕ) → room.next ≤ o → o < BLOCK_WORDS → own (block_start (blocks p) b + o) ≡ None) (sym owner) is.4,
  )

module _ (p : Setup) (es : List Event) (v v' : View) (old new : PlainTrace) (e : Event) (at value : ℕ) where
  abbrev m : Machine
  m = machine_after p es

  abbrev ds : List Event
  ds = es ++ e ∷ []

  words-after : Tracks p es old v → at ≡ word_changed_by p m e → value ≡ stored p m e (slice_index m.words (word_changed_by p m e))
      → slice_set old.row.words at value ≡ (next p m e).words
  words-after tracks here stores = ap (λ s. slice_set s.words at value) tracks.row ∙ ap (λ i. slice_set m.words i value) here
      ∙ ap (slice_set m.words (word_changed_by p m e)) stores

  pub tracks-next : Tracks p es old v → May p m e → owner_after p m e ≡ m.owner → taken_after m e ≡ m.taken → ((x : ℕ) → target (stage_after p m e x) ≡ target (m.stage x))
      → at ≡ word_changed_by p m e → value ≡ stored p m e (slice_index m.words (word_changed_by p m e)) → ChangesWords old new (slice_set old.row.words at value)
      → v'.blocks ≡ v.blocks → v'.sparse ≡ v.sparse → Holds p (next p m e) v' → Tracks p ds new v'
  tracks-next tracks may owner taken targets here stores changes same sparse holds =
      let now : machine_after p (es ++ e ∷ []) ≡ next p (machine_after p es) e = machine-next p es tracks.trace e in
      let owners : (machine_after p (es ++ e ∷ [])).owner ≡ (machine_after p es).owner = ap (λ n. n.owner) now ∙ owner in
      let takes : (machine_after p (es ++ e ∷ [])).taken ≡ (machine_after p es).taken = ap (λ n. n.taken) now ∙ taken in
      record {
        trace = trace-next p es tracks.trace e may;
        run = subst (IsRunOf p) (sym changes.run) tracks.run;
        row = changes.row ∙ ap (λ s. with_words s (slice_set old.row.words at value)) tracks.row
            ∙ ap (with_words p.before) (words-after tracks here stores) ∙ sym (ap (heap_in p) now);
        holds = subst (λ n. Holds p n v') (sym now) holds;
        room = subst (λ bs. IsCopyRoom p (machine_after p (es ++ e ∷ [])) bs new.block new.room) (sym same)
            (subst (λ b. IsCopyRoom p (machine_after p (es ++ e ∷ [])) v.blocks b new.room) (sym changes.block)
            (subst (λ r. IsCopyRoom p (machine_after p (es ++ e ∷ [])) v.blocks old.block r) (sym changes.room)
            (room-stays p m (machine_after p ds) owners v.blocks old.block old.room tracks.room)));
        left = subst (λ bs. AreLeft p (machine_after p (es ++ e ∷ [])) v'.sparse bs) (sym same)
            (left-stays p m (machine_after p ds) owners v.sparse v'.sparse sparse v.blocks tracks.left);
        stayed = subst (StayWithoutRoom p (machine_after p (es ++ e ∷ []))) (sym changes.room)
            (λ x is young moves. tracks.stayed x (sym (targets x) ∙ ap (λ (n : Machine). target (n.stage x)) (sym now) ∙ is) young moves);
        passed = λ b before free. subst (λ take. 0 < take b) (sym takes) (tracks.passed b (subst (λ n. b < n) changes.next_block before) free);
        ahead = λ b some. subst (λ n. b < n) (sym changes.next_block) (tracks.ahead b (subst (λ take. 0 < take b) takes some));
      }
