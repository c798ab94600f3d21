-- Tokens without a shape, and objects that are claimed by their unlog bits.
use Rattle.std.proofs.Common.{◌≡◌, ◌≢◌, ℕ, ◌+◌, ◌-◌, ◌/◌, ◌%◌, Bool, true, false, nat_eq, List, [], ◌∷◌, ◌++◌, map, slice_index, refl, sym, ap, ◌∙◌, subst, None}
use Rattle.std.specs.Int.{bit_at}
use Rattle.std.proofs.lemmas.List.{map-append}
use Rattle.heap_layout.specs.Zones.{UnlogBits, IsAddress, heap_of, first}
use Rattle.object_model.specs.Objects.{is_unlogged}
use Rattle.trace_core.specs.Setups.{Setup, size, refs}
use Rattle.trace_core.specs.Machine.{Event, ClaimCause, Claim}
use Rattle.trace_core.specs.Traces.{heap_after, stage_of, target_of}
use Rattle.trace_core.specs.Views.{View, claimed_view, copied_view, steps_at_claim}
use Rattle.plain_tracer.specs.TokenRights.{IsGrey, grey_of}
use Rattle.plain_tracer.specs.Tracers.{Tracks, Forwards}
use Rattle.trace_core.specs.Rights.{StaysHere, IsCopiedHere}
use Rattle.trace_core.specs.CallEvents.{IsNoRoot, copying}
use Rattle.plain_tracer.specs.declared.plain_trace.PlainTrace.{PlainTrace}
use Rattle.plain_tracer.specs.declared.tokens.Grey.{Grey}
use Rattle.plain_tracer.specs.declared.tokens.Reached.{Reached}
use Rattle.plain_tracer.proofs.BitStores.{bit-read}
use Rattle.trace_core.proofs.CountedRights.{hits-here}
use Rattle.trace_core.proofs.DecidingBits.{marked, unmarked}
use Rattle.plain_tracer.proofs.FollowedReferences.{at-once, by-claim}
use Rattle.plain_tracer.proofs.TracedRows.{blocks-are}
use Rattle.trace_core.proofs.LastValues.{settled-at, forward-at}

-- a token with its shape again
pub grey-again : (p : Setup) (v : View) (grey : Grey) (r : Reached) → IsGrey p v grey → r.object ≡ grey.object → r.target ≡ grey.target → grey_of p r ≡ grey
grey-again p v grey r is object target =
    ap (λ x. record { object = x; target = r.target; size = size p x; refs = refs p x }) object
    ∙ ap (λ t. record { object = grey.object; target = t; size = size p grey.object; refs = refs p grey.object }) target
    ∙ ap (λ n. record { object = grey.object; target = grey.target; size = n; refs = refs p grey.object }) (sym is.size)
    ∙ ap (λ n. record { object = grey.object; target = grey.target; size = grey.size; refs = n }) (sym is.refs)

-- a token was pushed
pub one-pushed : (p : Setup) (out out' : List Reached) (r : Reached) → out' ≡ out ++ r ∷ [] → map (grey_of p) out' ≡ map (grey_of p) out ++ grey_of p r ∷ []
one-pushed p out out' r is = ap (map (grey_of p)) is ∙ map-append (grey_of p) out (r ∷ [])

-- The unlog bit of an object that stays was read, in the zone from this word on.
module _ (p : Setup) (es : List Event) (t : PlainTrace) (v : View) (tracks : Tracks p es t v) (x : ℕ) (stays : StaysHere p v x)
    (zone : ℕ) (at : zone ≡ first t.row.layout.blocks UnlogBits) (found : Bool)
    (is : found ≡ nat_eq (bit_at (slice_index t.row.words (zone + (x - heap_of t.row.layout.blocks) / 64)) ((x - heap_of t.row.layout.blocks) % 64)) 1) where
  unlog-read : is_unlogged (heap_after p es) x ≡ found
  unlog-read = sym (ap (λ s. is_unlogged s x) tracks.row)
      ∙ bit-read t UnlogBits zone x found (subst (λ b. IsAddress b x) (sym (blocks-are p es t v tracks)) stays.held.address) at is

  -- it is set, so the object is claimed
  pub claimed-before : (cause : ClaimCause) (out : List Grey) → found ≡ true → x ≢ 0 → Forwards p es v t x x cause out out
  claimed-before cause out set some =
      let here = marked p es tracks.trace x stays.held (unlog-read ∙ set) in
      at-once p es v t x x cause out tracks (settled-at (stage_of p es) x x here) (forward-at (stage_of p es) x x some here)

  -- it is clear, so nothing claimed the object
  pub not-claimed : found ≡ false → target_of p es x ≡ None
  not-claimed clear = unmarked p es tracks.trace v tracks.holds x stays (unlog-read ∙ clear)

-- the right to copy an object that was claimed in place
pub claimed-here : (p : Setup) (es : List Event) (v : View) (x : ℕ) (cause : ClaimCause) → IsCopiedHere x p es (claimed_view p x x cause v)
claimed-here p es v x cause = record { right = hits-here x (steps_at_claim p x x) v.won; target = hits-here x x v.known }

-- An object was claimed and copied in place, and its token pushed.
pub reached-here : (p : Setup) (es : List Event) (v : View) (mid new : PlainTrace) (x : ℕ) (cause : ClaimCause) (out out' : List Reached) → x ≢ 0 → IsNoRoot x cause
    → Tracks p ((es ++ Claim x x cause ∷ []) ++ copying p x x) new (copied_view p x x (claimed_view p x x cause v))
    → out' ≡ out ++ record { object = x; target = x } ∷ []
    → Forwards p es v new x x cause (map (grey_of p) out) (map (grey_of p) out')
reached-here p es v mid new x cause out out' some unasked tracks pushed =
    let here : Reached = record { object = x; target = x } in
    by-claim p es v mid x cause (record { object = x; target = x; size = size p x; refs = refs p x }) None new (grey_of p here) x
    (map (grey_of p) out) (map (grey_of p) out') some unasked refl tracks
    (record { right = hits-here x 0 v.grey; target = hits-here x x v.known; size = refl; refs = refl }) refl refl (one-pushed p out out' here pushed)
