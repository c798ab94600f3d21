-- A tracer claims an object.
use Rattle.std.proofs.Common.{◌≡◌, ◌≢◌, ℕ, ◌+◌, ◌-◌, ◌^◌, ◌<◌, ◌≤◌, inl, inr, IsTrue, nat_eq, List, [], ◌∷◌, ◌++◌, slice_set, refl, sym, ap, ◌∙◌, subst, arith, Option, Some, None}
use Rattle.std.specs.Prelude.{is_some}
use Rattle.std.proofs.lemmas.Bool.{cases_eq, cases_lt, cond-true, cond-false, eq-eqb, ne_eqb}
use Rattle.forward_word.specs.CollectorWords.{collector_word}
use Rattle.heap_layout.specs.Zones.{block_start, block_at}
use Rattle.heap_layout.specs.declared.region.Region.{Region}
use Rattle.object_model.specs.declared.shape.Shape.{Shape}
use Rattle.object_model.specs.Objects.{IsHeld, state_of, with_words, IsInExtentOf}
use Rattle.trace_core.specs.Setups.{Setup, blocks, size, refs, may_be_moved}
use Rattle.trace_core.specs.Machine.{target, Machine, Event, ClaimCause, Claim, next, put_all, heap_in}
use Rattle.trace_core.specs.Traces.{May, IsAskedBy, machine_after, stage_of, target_of}
use Rattle.trace_core.specs.Views.{View, Holds, claimed_view}
use Rattle.plain_tracer.specs.Tracers.{Tracks}
use Rattle.trace_core.specs.Runs.{IsRunOf}
use Rattle.trace_core.specs.Rooms.{IsCopyRoom, AreLeft, StayWithoutRoom}
use Rattle.trace_core.specs.Rights.{IsWaiting}
use Rattle.plain_tracer.specs.declared.plain_trace.PlainTrace.{PlainTrace}
use Rattle.trace_core.proofs.Puts.{put_here, put_else, all_here, all_else}
use Rattle.trace_core.proofs.Objects.{Some-injective}
use Rattle.trace_core.proofs.AppendedEvents.{machine-next, trace-next}
use Rattle.trace_core.proofs.Law.{sound}
use Rattle.trace_core.proofs.BlocksLeft.{left-more}
use Rattle.plain_tracer.proofs.TracedRows.{words-are, blocks-are}
use Rattle.plain_tracer.proofs.TakenRoom.{last, room-there, room-end, room-taken, room-block}
use Rattle.trace_core.proofs.ClaimRights.{unclaimed-stage, holds-claimed}
use Rattle.trace_core.proofs.TakenStay.{claim-keeps}

module _ (p : Setup) (es : List Event) (old new : PlainTrace) (v : View) (tracks : Tracks p es old v) (x u : ℕ) (cause : ClaimCause)
    (may : May p (machine_after p es) (Claim x u cause))
    (row : state_of new.row ≡ with_words (state_of old.row) (slice_set old.row.words (x + 2) (collector_word old.run.number u)))
    (run : new.run ≡ old.run) (block : new.block ≡ old.block) (next_block : new.next_block ≡ old.next_block) where
  abbrev was : Machine
  was = machine_after p es

  abbrev now : Machine
  now = next p was (Claim x u cause)

  row-now : state_of new.row ≡ heap_in p now
  row-now = row ∙ ap (λ s. with_words s (slice_set old.row.words (x + 2) (collector_word old.run.number u))) tracks.row
      ∙ ap (λ ws. with_words p.before (slice_set ws (x + 2) (collector_word old.run.number u))) (words-are p es old v tracks)
      ∙ ap (λ n. with_words p.before (slice_set was.words (x + 2) (collector_word n u))) tracks.run.number

  left-now : AreLeft p now v.sparse v.blocks
  left-now = left-more p was now (claim-keeps p was x u cause may) v.sparse v.sparse (λ b few. few) v.blocks tracks.left

  pub tracks-claimed : IsCopyRoom p now v.blocks new.block new.room → StayWithoutRoom p now new.room → Tracks p (es ++ Claim x u cause ∷ []) new (claimed_view p x u cause v)
  tracks-claimed room stayed =
      let same : machine_after p (es ++ Claim x u cause ∷ []) ≡ now = machine-next p es tracks.trace (Claim x u cause) in
      record {
        trace = trace-next p es tracks.trace (Claim x u cause) may;
        run = subst (λ r. IsRunOf p r) (sym run) tracks.run;
        row = row-now ∙ ap (heap_in p) (sym same);
        holds = subst (λ n. Holds p n (claimed_view p x u cause v)) (sym same) (holds-claimed p was v tracks.holds x u cause may.1);
        room = subst (λ n. IsCopyRoom p n v.blocks new.block new.room) (sym same) room;
        left = subst (λ n. AreLeft p n v.sparse v.blocks) (sym same) left-now;
        stayed = subst (λ n. StayWithoutRoom p n new.room) (sym same) stayed;
        passed = λ c l free. subst (λ n. 0 < n.taken c) (sym same) (tracks.passed c (subst (λ n. c < n) next_block l) free);
        ahead = λ c some. subst (λ n. c < n) (sym next_block) (tracks.ahead c (subst (λ n. 0 < n.taken c) same some));
      }

  -- in place no word gets an owner
  pub tracks-in-place : u ≡ x → new.room ≡ old.room → (IsTrue (may_be_moved p x) → old.room.end < old.room.next + size p x) → Tracks p (es ++ Claim x u cause ∷ []) new (claimed_view p x u cause v)
  tracks-in-place e room tight = tracks-claimed (subst (λ (r : Region). IsCopyRoom p now v.blocks new.block r) (sym room)
      (subst (λ n. IsCopyRoom p now v.blocks n old.room) (sym block) (by-blocks v.blocks tracks.room)))
      (subst (StayWithoutRoom p now) (sym room) (λ y is young moves. elim (cases_eq y x) as (λ _. old.room.end < old.room.next + size p y) [
        | inl same-object ↦ subst (λ z. old.room.end < old.room.next + size p z) (sym same-object) (tight (subst (λ z. IsTrue (may_be_moved p z)) same-object moves))
        | inr ne ↦ tracks.stayed y (ap target (sym (put_else was.stage x _ y ne)) ∙ is) young moves
      ]))
    where
      same : now.owner ≡ was.owner
      same = cond-true (nat_eq u x) was.owner _ (eq-eqb u x e)

      by-blocks : (bs : List ℕ) → IsCopyRoom p was bs old.block old.room → IsCopyRoom p now bs old.block old.room
      by-blocks [] is = is
      by-blocks (b ∷ rest) is = (
        is.0,
        is.1,
        is.2,
        (λ o l. subst (λ (f : ℕ → Option ℕ). IsTrue (is_some (f (block_start (blocks p) b + o)))) (sym same) (is.3 o l)),
        (λ o from l. ap (λ (f : ℕ → Option ℕ). f (block_start (blocks p) b + o)) same ∙ is.4 o from l),
      )

  -- at the front of the room the object's words are a target's, and the room is smaller
  pub tracks-moved : u ≢ x → (b : ℕ) (rest : List ℕ) → v.blocks ≡ b ∷ rest → u ≡ block_start (blocks p) old.block + old.room.next
      → old.room.next + size p x ≤ 4096 → new.room.next ≡ old.room.next + size p x → new.room.end ≡ old.room.end
      → Tracks p (es ++ Claim x u cause ∷ []) new (claimed_view p x u cause v)
  tracks-moved differ b rest is front fits longer end = tracks-claimed (subst (λ bs. IsCopyRoom p now bs new.block new.room) (sym is) room-now)
      (λ y at-home young moves. elim (cases_eq y x) as (λ _. new.room.end < new.room.next + size p y) [
        | inl same ↦ absurd (differ (Some-injective u x (ap target (sym (put_here was.stage x _)) ∙ ap (λ z. target (now.stage z)) (sym same) ∙ at-home ∙ ap Some same)))
        | inr ne ↦ (let tight : old.room.end < old.room.next + size p y = tracks.stayed y (ap target (sym (put_else was.stage x _ y ne)) ∙ at-home) young moves in
            let next : new.room.next ≡ old.room.next + size p x = longer in let limit : new.room.end ≡ old.room.end = end in omega arith)
      ])
    where
      room : IsCopyRoom p was (b ∷ rest) old.block old.room
      room = subst (λ bs. IsCopyRoom p was bs old.block old.room) is tracks.room

      moved : now.owner ≡ put_all was.owner u (size p x) (Some x)
      moved = cond-false (nat_eq u x) was.owner _ (ne_eqb u x differ)

      at : u ≡ block_start (blocks p) b + old.room.next
      at = front ∙ ap (λ c. block_start (blocks p) c + old.room.next) room.0

      filled : (o : ℕ) → o < new.room.next → IsTrue (is_some (now.owner (block_start (blocks p) b + o)))
      filled o l = let place : u ≡ block_start (blocks p) b + old.room.next = at in let more : new.room.next ≡ old.room.next + size p x = longer in
          subst (λ (f : ℕ → Option ℕ). IsTrue (is_some (f (block_start (blocks p) b + o)))) (sym moved) (elim (cases_lt o old.room.next) as (λ _. IsTrue (is_some (put_all was.owner u (size p x) (Some x) (block_start (blocks p) b + o)))) [
            | inl low ↦ subst (λ w. IsTrue (is_some w)) (sym (all_else was.owner u (Some x) (size p x) (block_start (blocks p) b + o) (inl (omega arith)))) (room.3 o low)
            | inr from ↦ subst (λ w. IsTrue (is_some w)) (sym (all_here was.owner u (Some x) (size p x) (block_start (blocks p) b + o) (omega arith) (omega arith))) refl
          ])

      room-now : IsCopyRoom p now (b ∷ rest) new.block new.room
      room-now = (
        block ∙ room.0,
        end ∙ room.1,
        omega arith,
        filled,
        (λ o from l. let place : u ≡ block_start (blocks p) b + old.room.next = at in ap (λ (f : ℕ → Option ℕ). f (block_start (blocks p) b + o)) moved
            ∙ all_else was.owner u (Some x) (size p x) (block_start (blocks p) b + o) (inr (omega arith)) ∙ room.4 o (omega arith) l),
      )

pub waiting-size : (p : Setup) (es : List Event) (x : ℕ) (shape : Shape) → IsWaiting p es x shape → 3 + shape.refs + shape.nums ≡ size p x
waiting-size p es x shape is = ap (λ n. 3 + n + shape.nums) is.refs ∙ ap (λ n. 3 + refs p x + n) is.nums

-- The front of the room has room for the object at x, and the object may move.
module _ (p : Setup) (es : List Event) (t : PlainTrace) (v : View) (tracks : Tracks p es t v) (x u : ℕ) (cause : ClaimCause) (held : IsHeld p.before x)
    (front : u ≡ block_start (blocks p) t.block + t.room.next) (fits : t.room.next + size p x ≤ t.room.end) (some : 0 < size p x) where
  room-some : t.room.next < t.room.end
  room-some = omega arith

  room-fits : t.room.next + size p x ≤ 4096
  room-fits = let end : t.room.end ≡ 4096 = room-end p es t v tracks room-some in omega arith

  block-there : t.block < blocks p
  block-there = let there : t.block < t.row.layout.blocks = room-block p es t v tracks room-some in let same : t.row.layout.blocks ≡ blocks p = blocks-are p es t v tracks in omega arith

  pub front-below : u < 2 ^ 24
  front-below = let there : t.block < blocks p = block-there in let most : blocks p ≤ 1024 = tracks.trace.ready.lawful.order.row.most in
      let fit : t.room.next + size p x ≤ 4096 = room-fits in omega arith

  pub front-block : block_at (blocks p) u ≡ t.block
  front-block = let fit : t.room.next + size p x ≤ 4096 = room-fits in omega arith

  pub front-differs : u ≢ x
  front-differs e =
      let taken : 0 < (machine_after p es).taken (block_at (blocks p) x) = subst (λ b. 0 < (machine_after p es).taken b) (sym front-block ∙ ap (block_at (blocks p)) e) (room-taken p es t v tracks room-some) in
      let free = (sound p es tracks.trace).objects.free (block_at (blocks p) x) taken in
      (tracks.trace.ready.lawful.free (block_at (blocks p) x) free).empty x x held (record { from = omega arith; below = omega arith }) refl

  pub may-move-there : target_of p es x ≡ None → IsAskedBy p (machine_after p es) x cause → IsTrue (may_be_moved p x) → May p (machine_after p es) (Claim x u cause)
  may-move-there free asked moves = (
    held.start,
    unclaimed-stage (stage_of p es x) free,
    asked,
    inr (record {
      room = record {
        moves = moves;
        address = (let there : t.block < blocks p = block-there in let fit : t.room.next + size p x ≤ 4096 = room-fits in record { from = omega arith; below = omega arith });
        block = subst (λ b. 0 < (machine_after p es).taken b) (sym front-block) (room-taken p es t v tracks room-some);
        within = (let fit : t.room.next + size p x ≤ 4096 = room-fits in omega arith);
      };
      unowned = λ i inside. unowned i inside;
    }),
  )
    where
      unowned : (i : ℕ) → IsInExtentOf u (size p x) i → (machine_after p es).owner i ≡ None
      unowned i inside =
          let from : u ≤ i = inside.from in let below : i < u + size p x = inside.below in let fit : t.room.next + size p x ≤ 4096 = room-fits in
          let room = room-there p es t v tracks room-some in
          let block : t.block ≡ (last p es t v tracks room-some).0 = room.0 in
          let offset : i ≡ block_start (blocks p) (last p es t v tracks room-some).0 + (i - block_start (blocks p) t.block) = omega arith in
          ap (machine_after p es).owner offset ∙ room.4 (i - block_start (blocks p) t.block) (omega arith) (omega arith)

  pub tracks-to-front : (new : PlainTrace) → target_of p es x ≡ None → IsAskedBy p (machine_after p es) x cause → IsTrue (may_be_moved p x)
      → state_of new.row ≡ with_words (state_of t.row) (slice_set t.row.words (x + 2) (collector_word t.run.number u))
      → new.run ≡ t.run → new.block ≡ t.block → new.next_block ≡ t.next_block → new.room.next ≡ t.room.next + size p x → new.room.end ≡ t.room.end
      → Tracks p (es ++ Claim x u cause ∷ []) new (claimed_view p x u cause v)
  tracks-to-front new free asked moves row run block next_block longer end = tracks-moved p es t new v tracks x u cause (may-move-there free asked moves) row run block next_block
      front-differs (last p es t v tracks room-some).0 (last p es t v tracks room-some).1 (last p es t v tracks room-some).2 front room-fits longer end
