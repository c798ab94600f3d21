-- The items of a packet are served one after another, from the last, and what was won is handed on.
use Rattle.std.proofs.Common.{◌≡◌, ℕ, inl, inr, Result, Ok, Err, List, [], ◌∷◌, ◌++◌, map, refl, sym, ap, ◌∙◌, subst, arith}
use Rattle.std.specs.Prelude.{All, IfOk, length}
use Rattle.std.specs.List.Sorted.{IsPermutation}
use Rattle.std.proofs.lemmas.List.{append_assoc, append-nil}
use Rattle.std.proofs.lemmas.List.Elements.{All-nil, All-cons, All-head, All-weaker}
use Rattle.std.proofs.lemmas.List.Sorted.{IsPermutation-refl}
use Rattle.work_packets.specs.declared.packet.Packet.{Packet}
use Rattle.work_packets.specs.declared.packet.Bucket.{Bucket}
use Rattle.work_packets.specs.declared.packet.Bucket.TheVariants as buckets
use Rattle.work_packets.specs.Awaiting.{AwaitsAll}
use Rattle.work_packets.specs.Buckets.{IsSameOrLater}
use Rattle.work_packets.specs.Packets.{HasItems}
use Rattle.object_model.specs.Heaps.{heap_state}
use Rattle.trace_core.specs.Setups.{Setup}
use Rattle.trace_core.specs.Machine.{Event}
use Rattle.trace_core.specs.Views.{View}
use Rattle.plain_tracer.specs.TokenRights.{IsGrey, IsReached, grey_of}
use Rattle.plain_tracer.specs.Tracers.{Tracks, TracerHolds}
use Rattle.trace_core.specs.Runs.{setup_of}
use Rattle.plain_tracer.specs.declared.tokens.Grey.{Grey}
use Rattle.collector.specs.declared.item.Item.{Item}
use Rattle.collector.specs.declared.packet_tracer.PacketTracer.{PacketTracer}
use Rattle.collector.specs.declared.worker.TracingStart.{TracingStart}
use Rattle.collector.specs.Items.{items_of, tokens_of, IsObject}
use Rattle.collector.specs.Serving.{HasRights, ServesItems, AreShaped}
use Rattle.collector.specs.Tallies.{Counts}
use Rattle.collector.specs.Working.{TakesPlaces, RunsPacket, AwaitsPackets, IsOfTrace}
use Rattle.collector.proofs.ItemCounts.{all-left, all-right, all-of-map, no-registers}
use Rattle.collector.proofs.ServesAppend.{Halves, halves-cut, halves-ends, rights-part, rights-after, serves-both, serves-none}

-- Of all items these are left. The others were served, and nothing was handed on.
pub record HasServed (old new : PacketTracer) (all left : List Item) : Type 0 where
  pub done : List Item
  pub cut : all ≡ left ++ done
  pub tally : new.tally ≡ old.tally
  pub serves : (p : Setup) (es : List Event) (v : View) → Tracks p es old.tracer v → HasRights p v old.roots.items all
      → ServesItems p es v old.tracer old.roots.items done new.tracer new.roots.items (map (grey_of p) new.won.items)

-- the trace has the right to serve these items
abbrev pub MayServe : PacketTracer → List Item → Type 0
MayServe w items = TracerHolds w.tracer (λ p es v. HasRights p v w.roots.items items)

-- what was done by one item
abbrev pub ServesOne : PacketTracer → Item → PacketTracer → Type 0
ServesOne old item new = (p : Setup) (es : List Event) (v : View) → Tracks p es old.tracer v
    → HasRights p v old.roots.items (item ∷ [])
    → (pushed : List Grey) × (map (grey_of p) new.won.items ≡ map (grey_of p) old.won.items ++ pushed)
    × ServesItems p es v old.tracer old.roots.items (item ∷ []) new.tracer new.roots.items pushed

pub served-none : (w : PacketTracer) (all : List Item) → w.won.items ≡ [] → HasServed w w all all
served-none w all none = record {
  done = [];
  cut = sym (append-nil all);
  tally = refl;
  serves = λ p es v tracks rights.
      subst (λ won. ServesItems p es v w.tracer w.roots.items [] w.tracer w.roots.items (map (grey_of p) won)) (sym none)
      (serves-none w.roots.items tracks rights.none_won);
}

-- one more item, the last of those that are left
module _ {old mid : PacketTracer} {all items : List Item} (left : List Item) (item : Item)
    (served : HasServed old mid all items) (popped : items ≡ left ++ item ∷ []) where
  halves-left : Halves all served.done items
  halves-left = subst (λ l. Halves l served.done items) (sym served.cut) (halves-cut items served.done)

  last : Halves items left (item ∷ [])
  last = subst (λ l. Halves l left (item ∷ [])) (sym popped) (halves-ends left (item ∷ []))

  pub may-serve : MayServe old all → MayServe mid (item ∷ [])
  may-serve may =
      let before = served.serves may.setup may.events may.view may.tracks may.right in
      record {
        setup = may.setup;
        events = may.events ++ before.events;
        view = before.view;
        tracks = before.tracks;
        right = rights-part last (rights-after halves-left may.right before);
      }

  cut-more : all ≡ left ++ item ∷ served.done
  cut-more = served.cut ∙ ap (λ l. l ++ served.done) popped ∙ append_assoc left (item ∷ []) served.done

  one-more : Halves (item ∷ served.done) served.done (item ∷ [])
  one-more = halves-cut (item ∷ []) served.done

  pub served-more : {new : PacketTracer} → ServesOne mid item new → new.tally ≡ mid.tally → HasServed old new all left
  served-more {new} one tally = record {
    done = item ∷ served.done;
    cut = cut-more;
    tally = tally ∙ served.tally;
    serves = λ p es v tracks rights.
        (let before = served.serves p es v tracks rights in
        let after = rights-after halves-left rights before in
        let now = one p (es ++ before.events) before.view before.tracks (rights-part last after) in
        let part = rights-part
        (subst (λ l. Halves l left (item ∷ served.done)) (sym cut-more)
        (halves-ends left (item ∷ served.done))) rights in
        subst (λ won. ServesItems p es v old.tracer old.roots.items (item ∷ served.done) new.tracer new.roots.items won)
        (sym now.1)
        (serves-both one-more part before now.2));
  }

-- The tokens that were won are handed on, in these packets.
pub record HandsOn (old new : PacketTracer) (q : List (Packet Item)) : Type 0 where
  pub greys : List Grey
  pub shaped : AreShaped old.tracer old.won.items greys
  pub tokens : IsPermutation greys (tokens_of (items_of q))
  pub objects : All IsObject (items_of q)
  pub closure : All (λ packet. packet.bucket ≡ buckets.Closure) q
  pub counts : Counts old.tally new.tally greys
  pub tracer : new.tracer ≡ old.tracer
  pub roots : new.roots ≡ old.roots
  pub sizes : All HasItems q
  pub none : new.won.items ≡ []

pub hands-on : {X E : Type 0} (r : Result X E) (old new : PacketTracer) (q : List (Packet Item))
    → IfOk r (λ _. (greys : List Grey) × AreShaped old.tracer old.won.items greys × IsPermutation greys (tokens_of (items_of q)) × Counts old.tally new.tally greys)
    → IfOk r (λ _. All IsObject (items_of q))
    → IfOk r (λ _. All (λ packet. packet.bucket ≡ buckets.Closure) q)
    → IfOk r (λ _. new.tracer ≡ old.tracer)
    → IfOk r (λ _. new.roots ≡ old.roots)
    → IfOk r (λ _. All HasItems q)
    → IfOk r (λ _. new.won.items ≡ [])
    → IfOk r (λ _. HandsOn old new q)
hands-on (Ok x) old new q tokens objects closure tracer roots sizes none = record {
  greys = tokens.0;
  shaped = tokens.1;
  tokens = tokens.2;
  objects = objects;
  closure = closure;
  counts = tokens.3;
  tracer = tracer;
  roots = roots;
  sizes = sizes;
  none = none;
}
hands-on (Err e) old new q tokens objects closure tracer roots sizes none = tt

-- the tokens that were won are rights
pub all-reached : {old mid : PacketTracer} {all left : List Item} → HasServed old mid all left → MayServe old all
    → TracerHolds mid.tracer (λ p es v. All (IsReached p v) mid.won.items)
all-reached {old} {mid} served may =
    let before = served.serves may.setup may.events may.view may.tracks may.right in
    record {
      setup = may.setup;
      events = may.events ++ before.events;
      view = before.view;
      tracks = before.tracks;
      right = all-of-map (IsGrey may.setup before.view) (grey_of may.setup) mid.won.items before.tokens;
    }

-- all items were served, and what was won is handed on
pub runs-packet : {old mid new : PacketTracer} {left : List Item} (p : Packet Item) (q : List (Packet Item))
    → HasServed old mid p.items.items left
    → left ≡ [] → HandsOn mid new q → RunsPacket old p q new
runs-packet {old} {mid} {new} p q served none handed = record {
  won = handed.greys;
  pushed = handed.tokens;
  closure = handed.closure;
  counts = subst (λ tally. Counts tally new.tally handed.greys) served.tally handed.counts;
  serves = λ setup es view tracks rights.
      (let s = served.serves setup es view tracks rights in
      let greys = handed.shaped.shaped setup (es ++ s.events) s.view s.tracks
      (all-of-map (IsGrey setup s.view) (grey_of setup) mid.won.items s.tokens) in
      subst (λ won. ServesItems setup es view old.tracer old.roots.items p.items.items new.tracer new.roots.items won) greys
      (subst (λ t. ServesItems setup es view old.tracer old.roots.items p.items.items t new.roots.items (map (grey_of setup) mid.won.items))
      (sym handed.tracer)
      (subst (λ rs. ServesItems setup es view old.tracer old.roots.items p.items.items mid.tracer rs.items (map (grey_of setup) mid.won.items))
      (sym handed.roots)
      (subst (λ l. ServesItems setup es view old.tracer old.roots.items l mid.tracer mid.roots.items (map (grey_of setup) mid.won.items))
      (sym (served.cut ∙ ap (λ l. l ++ served.done) none)) s))));
}

pub places-stay : {old mid : PacketTracer} {all left : List Item} (new : PacketTracer) → HasServed old mid all left
    → MayServe old all → new.roots ≡ mid.roots
    → length new.roots.items ≡ length old.roots.items
places-stay new served may roots = ap (λ rs. length rs.items) roots
    ∙ (served.serves may.setup may.events may.view may.tracks may.right).as_many

-- what a packet that is awaited brings
module _ {w : PacketTracer} {p : Packet Item}
    (awaited : (start : TracingStart) × (rest : List (Packet Item)) × AwaitsAll AwaitsPackets start w (p ∷ rest)) where
  now : AwaitsPackets awaited.0 w (p ∷ awaited.1)
  now = awaited.2 (p ∷ awaited.1) (IsPermutation-refl (p ∷ awaited.1))

  pub none-won : w.won.items ≡ []
  none-won = now.awaited.tracer.none

  pub may-run : MayServe w p.items.items
  may-run = record {
    setup = setup_of (heap_state awaited.0.heap) awaited.0.run 1;
    events = now.awaited.events;
    view = now.awaited.view;
    tracks = now.awaited.tracer.tracks;
    right = rights-part (halves-cut p.items.items (items_of awaited.1)) now.awaited.tracer.rights;
  }

  of-trace : IsOfTrace p
  of-trace = All-head IsOfTrace p awaited.1 now.buckets

  later : (c : Bucket) → c ≡ buckets.Closure → IsSameOrLater p.bucket c
  later c is = elim of-trace as (λ _. IsSameOrLater p.bucket c) [
    | inl roots ↦ subst (λ b. IsSameOrLater b c) (sym roots)
        (subst (λ d. IsSameOrLater buckets.Roots d) (sym is) refl)
    | inr closure ↦ subst (λ b. IsSameOrLater b c) (sym closure)
        (subst (λ d. IsSameOrLater buckets.Closure d) (sym is) refl)
  ]

  pub all-later : (q : List (Packet Item)) → All (λ packet. packet.bucket ≡ buckets.Closure) q
      → All (λ packet. IsSameOrLater p.bucket packet.bucket) q
  all-later q all = All-weaker (λ packet. packet.bucket ≡ buckets.Closure)
      (λ packet. IsSameOrLater p.bucket packet.bucket)
      (λ packet is. later packet.bucket is) q all

-- packets of objects name no places
pub all-take : (h : ℕ) (q : List (Packet Item)) → All IsObject (items_of q) → All (TakesPlaces h) q
all-take h [] all = All-nil (TakesPlaces h)
all-take h (p ∷ q) all = All-cons (TakesPlaces h) p q
    (λ i some. absurd (let none = no-registers p.items.items
    (all-left IsObject p.items.items (items_of q) all) i in omega arith))
    (all-take h q (all-right IsObject p.items.items (items_of q) all))
