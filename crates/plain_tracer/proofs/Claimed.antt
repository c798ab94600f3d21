-- A claim after a block was taken, or none.
use Rattle.std.proofs.Common.{◌≡◌, ◌≢◌, ℕ, ◌+◌, ◌<◌, inl, inr, refl, arith, List, [], ◌∷◌, ◌++◌, append-nil, append_assoc, sym, ap, ◌∙◌, subst, Option, Some, None}
use Rattle.std.specs.Prelude.{take}
use Rattle.heap_layout.specs.Zones.{block_start}
use Rattle.object_model.specs.declared.shape.Shape.{Shape}
use Rattle.trace_core.specs.Setups.{Setup, blocks, size}
use Rattle.trace_core.specs.Machine.{Machine, Event, ClaimCause, ByRoot, ByGlobal, ByField, Claim, TakeBlock, target}
use Rattle.trace_core.specs.Traces.{IsTracing, IsAskedBy, machine_after, target_of}
use Rattle.trace_core.specs.Views.{View, claimed_view, taken_view, left_view}
use Rattle.plain_tracer.specs.Tracers.{Tracks, IsFront, IsNeeded, Wins}
use Rattle.trace_core.specs.Rights.{IsWaiting}
use Rattle.trace_core.specs.Rooms.{IsCopyRoom, AreLeft}
use Rattle.trace_core.specs.CallEvents.{block_taken, taken_in, left_in_block}
use Rattle.plain_tracer.specs.declared.plain_trace.PlainTrace.{PlainTrace}
use Rattle.plain_tracer.specs.declared.tokens.Won.{Won}
use Rattle.trace_core.proofs.Objects.{None-not-Some}
use Rattle.trace_core.proofs.CountedRights.{hits-here}
use Rattle.trace_core.proofs.AppendedEvents.{machine-next, trace-last}
use Rattle.trace_core.proofs.BlocksLeft.{filled-more, left-more}
use Rattle.trace_core.proofs.Clauses.{placed}
use Rattle.trace_core.proofs.TakenStay.{claim-keeps}

module _ (p : Setup) (es : List Event) (trace : IsTracing p es) where
  target-takes : (taken : Option ℕ) (x : ℕ) → target_of p (es ++ block_taken taken) x ≡ target_of p es x
  target-takes None x = ap (λ ds. target_of p ds x) (append-nil es)
  target-takes (Some b) x = ap (λ m. target (m.stage x)) (machine-next p es trace (TakeBlock b 1))

  pub waiting-takes : (taken : Option ℕ) (x : ℕ) (shape : Shape) → IsWaiting p es x shape → IsWaiting p (es ++ block_taken taken) x shape
  waiting-takes taken x shape is = record { held = is.held; unclaimed = target-takes taken x ∙ is.unclaimed; refs = is.refs; nums = is.nums }

  pub asked-takes : (taken : Option ℕ) (x : ℕ) (cause : ClaimCause) → IsAskedBy p (machine_after p es) x cause → IsAskedBy p (machine_after p (es ++ block_taken taken)) x cause
  asked-takes taken x ByRoot is = is
  asked-takes taken x (ByGlobal g) is = is
  asked-takes taken x (ByField y i) is = (is.0, is.1, (is.2.0, target-takes taken y ∙ is.2.1))

-- no block is taken, so none is needed
pub none-needed : (p : Setup) (es : List Event) (old : PlainTrace) (size : ℕ) → IsNeeded p es old None size
none-needed p es old size = record { tight = λ b is. absurd (None-not-Some b is); lowest = λ b c is. absurd (None-not-Some b is) }

-- in place it does not matter which room the worker has
pub wins-here : (p : Setup) (es : List Event) (v : View) (old mid new : PlainTrace) (x : ℕ) (cause : ClaimCause) (won : Won) → won.target ≡ x
    → Wins p es v mid new None x cause won → Wins p es v old new None x cause won
wins-here p es v old mid new x cause won here is = record {
  unclaimed = is.unclaimed;
  object = is.object;
  size = is.size;
  refs = is.refs;
  place = inl (here, refl);
  needed = none-needed p es old (size p x);
  tracks = is.tracks;
}

-- The object at x was claimed after block b was taken, since it did not fit the room. So the block before is left for it.
module _ (p : Setup) (es : List Event) (v : View) (old mid new : PlainTrace) (b x t : ℕ) (cause : ClaimCause) (tracks : Tracks p es old v)
    (between : Tracks p (es ++ TakeBlock b 1 ∷ []) mid (left_view b v))
    (after : Tracks p ((es ++ TakeBlock b 1 ∷ []) ++ Claim x t cause ∷ []) new (claimed_view p x t cause (left_view b v)))
    (differs : t ≢ x) (start : t ≡ block_start (blocks p) b) (tight : old.room.end < old.room.next + size p x) where
  abbrev was : Machine
  was = machine_after p es

  abbrev taking : Machine
  taking = machine_after p (es ++ TakeBlock b 1 ∷ [])

  abbrev now : Machine
  now = machine_after p ((es ++ TakeBlock b 1 ∷ []) ++ Claim x t cause ∷ [])

  keeps : (a y : ℕ) → was.owner a ≡ Some y → now.owner a ≡ Some y
  keeps a y own = ap (λ (n : Machine). n.owner a) (machine-next p (es ++ TakeBlock b 1 ∷ []) between.trace (Claim x t cause))
      ∙ claim-keeps p taking x t cause (trace-last p (es ++ TakeBlock b 1 ∷ []) (Claim x t cause) after.trace) a y
      (ap (λ (n : Machine). n.owner a) (machine-next p es tracks.trace (TakeBlock b 1)) ∙ own)

  first : now.owner (block_start (blocks p) b) ≡ Some x
  first = elim (placed p ((es ++ TakeBlock b 1 ∷ []) ++ Claim x t cause ∷ []) after.trace x t (after.holds.known x t (hits-here x t v.known))) as (λ _. now.owner (block_start (blocks p) b) ≡ Some x) [
    | inl e ↦ absurd (differs e)
    | inr room ↦ subst (λ a. now.owner a ≡ Some x) (let same : t ≡ block_start (blocks p) b = start in let sum : t + 0 ≡ block_start (blocks p) b = omega arith in sum) (room.1 0 (omega arith))
  ]

  left-now : AreLeft p now v.sparse (b ∷ v.blocks)
  left-now = by-blocks v.blocks refl
    where
      by-blocks : (bs : List ℕ) → v.blocks ≡ bs → AreLeft p now v.sparse (b ∷ bs)
      by-blocks [] is = tt
      by-blocks (d ∷ rest) is =
          let room = subst (λ bs. IsCopyRoom p was bs old.block old.room) is tracks.room in
          let end : old.room.end ≡ 4096 = room.1 in (
            (subst (λ bs. AreLeft p now (take 1 bs ++ v.sparse) (b ∷ bs)) is after.left).0,
            inr (record { words = old.room.next; filled = filled-more p was now keeps d old.room.next room.3; object = x; first = first; no_room = omega arith }),
            left-more p was now keeps v.sparse v.sparse (λ c few. few) (d ∷ rest) (subst (AreLeft p was v.sparse) is tracks.left),
          )

  pub tracks-needed : Tracks p ((es ++ TakeBlock b 1 ∷ []) ++ Claim x t cause ∷ []) new (claimed_view p x t cause (taken_view b v))
  tracks-needed = record {
    trace = after.trace;
    run = after.run;
    row = after.row;
    holds = record {
      won = after.holds.won;
      grey = after.holds.grey;
      copied = after.holds.copied;
      unset = after.holds.unset;
      set = after.holds.set;
      asked = after.holds.asked;
      known = after.holds.known;
      blocks = after.holds.blocks;
    };
    room = after.room;
    left = left-now;
    stayed = after.stayed;
    passed = after.passed;
    ahead = after.ahead;
  }

module _ (p : Setup) (es : List Event) (v : View) (old mid new : PlainTrace) (x t : ℕ) (cause : ClaimCause) (tracks : Tracks p es old v) (differs : t ≢ x) where
  tracks-won : (taken : Option ℕ) → Tracks p (es ++ block_taken taken) mid (left_in_block taken v) → IsFront p old taken t → IsNeeded p es old taken (size p x)
      → Tracks p ((es ++ block_taken taken) ++ Claim x t cause ∷ []) new (claimed_view p x t cause (left_in_block taken v))
      → Tracks p ((es ++ block_taken taken) ++ Claim x t cause ∷ []) new (claimed_view p x t cause (taken_in taken v))
  tracks-won None between place needed after = after
  tracks-won (Some b) between place needed after = tracks-needed p es v old mid new b x t cause tracks between after differs (place.block b refl) (needed.tight b refl)

pub wins-takes : (p : Setup) (es : List Event) (v : View) (old mid new : PlainTrace) (taken : Option ℕ) (x : ℕ) (cause : ClaimCause) (won : Won) → Tracks p es old v
    → Tracks p (es ++ block_taken taken) mid (left_in_block taken v) → won.target ≢ x → IsFront p old taken won.target → IsNeeded p es old taken (size p x)
    → Wins p (es ++ block_taken taken) (left_in_block taken v) mid new None x cause won → Wins p es v old new taken x cause won
wins-takes p es v old mid new taken x cause won tracks between differs place needed is = record {
  unclaimed = sym (target-takes p es tracks.trace taken x) ∙ is.unclaimed;
  object = is.object;
  size = is.size;
  refs = is.refs;
  place = inr place;
  needed = needed;
  tracks = subst (λ ds. Tracks p ds new (claimed_view p x won.target cause (taken_in taken v))) (append_assoc es (block_taken taken) (Claim x won.target cause ∷ []))
      (tracks-won p es v old mid new x won.target cause tracks differs taken between place needed is.tracks);
}
