-- What a trace awaits, from packet to packet.
use Rattle.std.proofs.Common.{◌≡◌, refl, sym, ◌∙◌, ap, subst, ℕ, ◌+◌, ◌<◌, ◌≤◌, ◌⊎◌, inl, inr, arith, IsTrue, nat_eq, if◌then◌else◌, List, [], ◌∷◌, ◌++◌, length, slice_index}
use Rattle.std.specs.Prelude.{All}
use Rattle.std.specs.List.Sorted.{IsPermutation}
use Rattle.std.proofs.lemmas.Bool.{cases_eq, cases_lt, cond-true, cond-false, eq-eqb, ne_eqb}
use Rattle.std.proofs.lemmas.List.{length-append}
use Rattle.std.proofs.lemmas.List.Concat.{flat_map-append}
use Rattle.std.proofs.lemmas.List.Elements.{All-head, All-tail, All-append, All-weaker}
use Rattle.std.proofs.lemmas.List.Sorted.{All-permutation, IsPermutation-refl, length_permutation}
use Rattle.work_packets.specs.declared.packet.Packet.{Packet}
use Rattle.work_packets.specs.declared.packet.Bucket.TheVariants as buckets
use Rattle.work_packets.specs.Packets.{HasItems}
use Rattle.work_packets.specs.Awaiting.{AwaitsAll}
use Rattle.heap_layout.specs.Zones.{row_words, IsAddress}
use Rattle.object_model.specs.Objects.{HeapState, state_of, IsHeld}
use Rattle.object_model.specs.Heaps.{heap_state}
use Rattle.object_model.specs.Lawful.{IsLawfulButLines}
use Rattle.trace_core.specs.Setups.{Setup, blocks, held, refs}
use Rattle.trace_core.specs.Machine.{Event}
use Rattle.trace_core.specs.Traces.{stage_of}
use Rattle.trace_core.specs.Outcomes.{image}
use Rattle.trace_core.specs.Views.{View, hits}
use Rattle.object_model.specs.Times.{one_if, times}
use Rattle.plain_tracer.specs.TokenRights.{IsGrey, copied_in, to_scan_in}
use Rattle.plain_tracer.specs.Tracers.{Tracks}
use Rattle.trace_core.specs.Runs.{setup_of}
use Rattle.trace_core.specs.declared.run.TraceRun.{TraceRun}
use Rattle.plain_tracer.specs.declared.plain_trace.PlainTrace.{PlainTrace}
use Rattle.plain_tracer.specs.declared.tokens.Grey.{Grey}
use Rattle.collector.specs.declared.item.Item.{Item}
use Rattle.collector.specs.declared.packet_tracer.PacketTracer.{PacketTracer}
use Rattle.collector.specs.declared.worker.TracingStart.{TracingStart}
use Rattle.collector.specs.Items.{registers, globals, objects, items_of, tokens_of, IsObject}
use Rattle.collector.specs.Serving.{HasRights, IsTargetOf, HasItsLines, ServesItems}
use Rattle.racing_collector.specs.Together.{total}
use Rattle.collector.specs.Tallies.{unclaimed, Counts, IsTally}
use Rattle.collector.specs.Awaited.{IsAwaited}
use Rattle.collector.specs.Working.{RunsPacket, AwaitsPackets, IsOfTrace, unclaimed_by}
use Rattle.collector.proofs.ItemCounts.{all-left, all-right, all-both, registers-append, globals-append, objects-append, tokens-append, no-registers, no-globals, length-tokens, scans-of, copies-of, objects-pushed, tokens-there, SameItems, packets-same}
use Rattle.collector.proofs.ItsLines.{lines-grow}
use Rattle.collector.proofs.TallySums.{total-copied}
use Rattle.plain_tracer.proofs.TracedObjects.{token-below}
use Rattle.trace_core.proofs.Begun.{by-begun}
use Rattle.plain_tracer.proofs.ListedObjects.{listed-held}
use Rattle.collector.proofs.NextTally.{next-tally}
use Rattle.collector.proofs.LeftFalls.{left-is}

-- A step of a trace: these items were served, and the tokens that were won are those of the items pushed.
pub record IsStep (w v : PacketTracer) (items pushed : List Item) : Type 0 where
  pub won : List Grey
  pub tokens : IsPermutation won (tokens_of pushed)
  pub objects : All IsObject pushed
  pub none : v.won.items ≡ []
  pub counts : Counts w.tally v.tally won
  pub serves : (setup : Setup) (es : List Event) (view : View) → Tracks setup es w.tracer view
      → HasRights setup view w.roots.items items
      → ServesItems setup es view w.tracer w.roots.items items v.tracer v.roots.items won

pub step-of : (w v : PacketTracer) (p : Packet Item) (q : List (Packet Item)) → RunsPacket w p q v → All IsObject (items_of q) → v.won.items ≡ [] → IsStep w v p.items.items (items_of q)
step-of w v p q runs objects none = record { won = runs.won; tokens = runs.pushed; objects = objects; none = none; counts = runs.counts; serves = runs.serves }

-- roots and their targets
target-stays : (v v' : View) (r t : ℕ) → (0 < hits r t v.known → 0 < hits r t v'.known) → IsTargetOf v r t → IsTargetOf v' r t
target-stays v v' r t known is = elim is as (λ _. IsTargetOf v' r t) [ inl nil ↦ inl nil | inr some ↦ inr (some.0, known some.1) ]

-- the rights of the first items
module _ (p : Setup) (v : View) (roots : List ℕ) (items rest : List Item) (had : HasRights p v roots (items ++ rest)) where
  rights-of-first : HasRights p v roots items
  rights-of-first = record {
    none_won = had.none_won;
    tokens = all-left (IsGrey p v) (tokens_of items) (tokens_of rest) (subst (All (IsGrey p v)) (tokens-append items rest) had.tokens);
    objects_once = λ x. (let both = objects-append x items rest in let all : objects x (items ++ rest) ≤ hits x 0 v.grey = had.objects_once x in omega arith);
    globals_once = λ g. (let both = globals-append g items rest in let all : globals g (items ++ rest) ≤ times g v.unset = had.globals_once g in omega arith);
    roots_once = λ i. (let both = registers-append i items rest in let all : registers i (items ++ rest) ≤ 1 = had.roots_once i in omega arith);
    places = λ i some. had.places i (let both = registers-append i items rest in omega arith);
    refer = λ i some. had.refer i (let both = registers-append i items rest in omega arith);
  }

-- the order of items is open
module _ (s : HeapState) (run : TraceRun) (roots : List ℕ) (w : PacketTracer) (xs ys : List Item) (same : SameItems xs ys) where
  module _ (p : Setup) (v : View) (had : HasRights p v w.roots.items xs) where
    same-rights : HasRights p v w.roots.items ys
    same-rights = record {
      none_won = had.none_won;
      tokens = same.tokens p v had.tokens;
      objects_once = λ x. subst (λ n. n ≤ hits x 0 v.grey) (sym (same.of_objects x)) (had.objects_once x);
      globals_once = λ g. subst (λ n. n ≤ times g v.unset) (sym (same.of_globals g)) (had.globals_once g);
      roots_once = λ i. subst (λ n. n ≤ 1) (sym (same.of_roots i)) (had.roots_once i);
      places = λ i some. had.places i (subst (λ n. 0 < n) (same.of_roots i) some);
      refer = λ i some. had.refer i (subst (λ n. 0 < n) (same.of_roots i) some);
    }

  pub same-awaited : IsAwaited s run roots w xs → IsAwaited s run roots w ys
  same-awaited aw = record {
    events = aw.events;
    view = aw.view;
    tracer = record {
      tracks = aw.tracer.tracks;
      runs = aw.tracer.runs;
      rights = same-rights (setup_of s run 1) aw.view aw.tracer.rights;
      none = aw.tracer.none;
      sparse = aw.tracer.sparse;
    };
    of_objects = record {
      scanned = λ x some. subst (λ n. (0 < n) ⊎ (0 < hits x (refs (setup_of s run 1) x) aw.view.grey)) (sym (same.of_objects x)) (aw.of_objects.scanned x some);
      logged = λ x is. subst (λ n. (0 < n) ⊎ (0 < hits x (refs (setup_of s run 1) x) aw.view.grey)) (sym (same.of_objects x)) (aw.of_objects.logged x is);
      lines = λ on x some. subst (λ n. (0 < n) ⊎ HasItsLines (setup_of s run 1) aw.events x) (sym (same.of_objects x)) (aw.of_objects.lines on x some);
    };
    settled = λ g few. subst (λ n. (0 < n) ⊎ (0 < times g aw.view.set)) (sym (same.of_globals g)) (aw.settled g few);
    of_roots = record {
      as_many = aw.of_roots.as_many;
      waiting = λ i some. aw.of_roots.waiting i (subst (λ n. 0 < n) (same.of_roots i) some);
      served = λ i few none. aw.of_roots.served i few (sym (same.of_roots i) ∙ none);
      asked = λ i none some. aw.of_roots.asked i (sym (same.of_roots i) ∙ none) some;
      by_roots = aw.of_roots.by_roots;
    };
    tally = aw.tally;
  }

-- Items were served, and more came of it.
module _ (s : HeapState) (run : TraceRun) (roots : List ℕ) (w v : PacketTracer) (items rest pushed : List Item)
    (aw : IsAwaited s run roots w (items ++ rest)) (step : IsStep w v items pushed) (lawful : IsLawfulButLines s) where
  abbrev p : Setup
  p = setup_of s run 1

  first-rights : HasRights p aw.view w.roots.items items
  first-rights = rights-of-first p aw.view w.roots.items items rest aw.tracer.rights

  sv : ServesItems p aw.events aw.view w.tracer w.roots.items items v.tracer v.roots.items step.won
  sv = step.serves p aw.events aw.view aw.tracer.tracks first-rights

  -- what came of it, and what was left before, waits to be scanned
  waits : (x : ℕ) → objects x pushed + objects x rest ≤ hits x 0 sv.view.grey
  waits x =
      let had : objects x (items ++ rest) ≤ hits x 0 aw.view.grey = aw.tracer.rights.objects_once x in
      let both : objects x (items ++ rest) ≡ objects x items + objects x rest = objects-append x items rest in
      let now : hits x 0 sv.view.grey + objects x items ≡ hits x 0 (to_scan_in step.won) + hits x 0 aw.view.grey + (if nat_eq 0 (refs p x) then objects x items else 0) = sv.grey x 0 in
      let more : hits x 0 (to_scan_in step.won) ≡ objects x pushed = scans-of x step.won ∙ sym (objects-pushed step.won pushed step.tokens x) in
      omega arith

  token-stays : (grey : Grey) → IsGrey p aw.view grey → 0 < objects grey.object rest → IsGrey p sv.view grey
  token-stays grey is some = record {
    right = (let all : objects grey.object pushed + objects grey.object rest ≤ hits grey.object 0 sv.view.grey = waits grey.object in omega arith);
    target = sv.known grey.object grey.target is.target;
    size = is.size;
    refs = is.refs;
  }

  unserved : (i : ℕ) → 0 < registers i rest → registers i items ≡ 0
  unserved i some = let both = registers-append i items rest in let once : registers i (items ++ rest) ≤ 1 = aw.tracer.rights.roots_once i in omega arith

  -- no root is pushed
  left-over : (i : ℕ) → registers i (pushed ++ rest) ≡ registers i rest
  left-over i = let both = registers-append i pushed rest in let none : registers i pushed ≡ 0 = no-registers pushed step.objects i in omega arith

  new-rights : HasRights p sv.view v.roots.items (pushed ++ rest)
  new-rights = record {
    none_won = sv.none_won;
    tokens = subst (All (IsGrey p sv.view)) (sym (tokens-append pushed rest)) (All-append (IsGrey p sv.view) (tokens_of pushed) (tokens_of rest)
        (All-permutation (IsGrey p sv.view) step.won (tokens_of pushed) step.tokens sv.tokens)
        (all-both (IsGrey p aw.view) (λ grey. 0 < objects grey.object rest) (IsGrey p sv.view) token-stays (tokens_of rest) rest-tokens (tokens-there rest)));
    objects_once = λ x. (let both = objects-append x pushed rest in let all = waits x in omega arith);
    globals_once = λ g. (let both = globals-append g pushed rest in let none : globals g pushed ≡ 0 = no-globals pushed step.objects g in
        let had : globals g (items ++ rest) ≤ times g aw.view.unset = aw.tracer.rights.globals_once g in let parts = globals-append g items rest in
        let now : times g sv.view.unset + globals g items ≡ times g aw.view.unset = sv.unset g in omega arith);
    roots_once = λ i. (let same = left-over i in let both = registers-append i items rest in let once : registers i (items ++ rest) ≤ 1 = aw.tracer.rights.roots_once i in omega arith);
    places = λ i some. subst (λ n. i < n) (sym sv.as_many) (aw.tracer.rights.places i (in-rest i some));
    refer = λ i some. subst (λ r. (r ≡ 0) ⊎ IsHeld p.before r) (sym (sv.others i (unserved i (subst (λ n. 0 < n) (left-over i) some)))) (aw.tracer.rights.refer i (in-rest i some));
  }
    where
      rest-tokens : All (IsGrey p aw.view) (tokens_of rest)
      rest-tokens = all-right (IsGrey p aw.view) (tokens_of items) (tokens_of rest) (subst (All (IsGrey p aw.view)) (tokens-append items rest) aw.tracer.rights.tokens)

      in-rest : (i : ℕ) → 0 < registers i (pushed ++ rest) → 0 < registers i (items ++ rest)
      in-rest i some = let same = left-over i in let both = registers-append i items rest in omega arith

  -- what was to be scanned is scanned
  scanned-now : (x : ℕ) → (0 < objects x items) ⊎ (0 < hits x (refs p x) aw.view.grey) → 0 < hits x (refs p x) sv.view.grey
  scanned-now x some =
      let r : ℕ = refs p x in
      let n : ℕ = objects x items in
      let now : hits x (refs p x) sv.view.grey + (if nat_eq (refs p x) 0 then objects x items else 0)
      ≡ hits x (refs p x) (to_scan_in step.won) + hits x (refs p x) aw.view.grey + (if nat_eq (refs p x) (refs p x) then objects x items else 0) = sv.grey x (refs p x) in
      let last : (if nat_eq (refs p x) (refs p x) then objects x items else 0) ≡ objects x items = cond-true (nat_eq (refs p x) (refs p x)) (objects x items) 0 (eq-eqb (refs p x) (refs p x) refl) in
      let had : objects x items ≤ hits x 0 aw.view.grey = first-rights.objects_once x in
      elim (cases_eq (refs p x) 0) as (λ _. 0 < hits x (refs p x) sv.view.grey) [
        | inl e ↦ (let first : (if nat_eq (refs p x) 0 then objects x items else 0) ≡ objects x items = cond-true (nat_eq (refs p x) 0) (objects x items) 0 (eq-eqb (refs p x) 0 e) in
            let same : hits x (refs p x) aw.view.grey ≡ hits x 0 aw.view.grey = ap (λ k. hits x k aw.view.grey) e in
            let was : 0 < hits x (refs p x) aw.view.grey = elim some as (λ _. 0 < hits x (refs p x) aw.view.grey) [ inl item ↦ omega arith | inr done ↦ done ] in omega arith)
        | inr ne ↦ (let first : (if nat_eq (refs p x) 0 then objects x items else 0) ≡ 0 = cond-false (nat_eq (refs p x) 0) (objects x items) 0 (ne_eqb (refs p x) 0 ne) in
            elim some as (λ _. 0 < hits x (refs p x) sv.view.grey) [ inl item ↦ omega arith | inr done ↦ omega arith ])
      ]

  abbrev Scans : ℕ → Type 0
  Scans x = (0 < objects x (pushed ++ rest)) ⊎ (0 < hits x (refs p x) sv.view.grey)

  scanned-parts : (x : ℕ) → (0 < objects x (items ++ rest)) ⊎ (0 < hits x (refs p x) aw.view.grey) → Scans x
  scanned-parts x had = elim had as (λ _. Scans x) [
    | inl waiting ↦ elim (cases_lt 0 (objects x rest)) as (λ _. Scans x) [
      | inl more ↦ inl (let both = objects-append x pushed rest in omega arith)
      | inr none ↦ inr (scanned-now x (inl (let both = objects-append x items rest in omega arith)))
    ]
    | inr done ↦ inr (scanned-now x (inr done))
  ]

  scans : (x : ℕ) → 0 < times x sv.view.copied → Scans x
  scans x some =
      let now : times x sv.view.copied ≡ times x (copied_in step.won) + times x aw.view.copied = sv.copied x in
      let new : times x (copied_in step.won) ≡ objects x pushed = copies-of x step.won ∙ sym (objects-pushed step.won pushed step.tokens x) in
      elim (cases_lt 0 (objects x pushed)) as (λ _. Scans x) [
        | inl more ↦ inl (let both = objects-append x pushed rest in omega arith)
        | inr none ↦ scanned-parts x (aw.of_objects.scanned x (omega arith))
      ]

  -- the lines of what was scanned are marked
  abbrev Marks : ℕ → Type 0
  Marks x = (0 < objects x (pushed ++ rest)) ⊎ HasItsLines p (aw.events ++ sv.events) x

  lines-parts : IsTrue run.lines → (x : ℕ) → (0 < objects x (items ++ rest)) ⊎ HasItsLines p aw.events x → Marks x
  lines-parts on x had = elim had as (λ _. Marks x) [
    | inl waiting ↦ elim (cases_lt 0 (objects x rest)) as (λ _. Marks x) [
      | inl more ↦ inl (let both = objects-append x pushed rest in omega arith)
      | inr none ↦ inr (sv.lines (subst (λ (r : TraceRun). IsTrue r.lines) (sym aw.tracer.runs) on) x (let both = objects-append x items rest in omega arith))
    ]
    | inr done ↦ inr (lines-grow p aw.events sv.events sv.tracks.trace x done)
  ]

  lines-now : IsTrue run.lines → (x : ℕ) → 0 < times x sv.view.copied → Marks x
  lines-now on x some =
      let now : times x sv.view.copied ≡ times x (copied_in step.won) + times x aw.view.copied = sv.copied x in
      let new : times x (copied_in step.won) ≡ objects x pushed = copies-of x step.won ∙ sym (objects-pushed step.won pushed step.tokens x) in
      elim (cases_lt 0 (objects x pushed)) as (λ _. Marks x) [
        | inl more ↦ inl (let both = objects-append x pushed rest in omega arith)
        | inr none ↦ lines-parts on x (aw.of_objects.lines on x (omega arith))
      ]

  abbrev Settles : ℕ → Type 0
  Settles g = (0 < globals g (pushed ++ rest)) ⊎ (0 < times g sv.view.set)

  settles : (g : ℕ) → (0 < globals g (items ++ rest)) ⊎ (0 < times g aw.view.set) → Settles g
  settles g had =
      let now : times g sv.view.set ≡ globals g items + times g aw.view.set = sv.set g in
      elim had as (λ _. Settles g) [
        | inl waiting ↦ elim (cases_lt 0 (globals g rest)) as (λ _. Settles g) [
          | inl more ↦ inl (let both = globals-append g pushed rest in omega arith)
          | inr none ↦ inr (let both = globals-append g items rest in omega arith)
        ]
        | inr done ↦ inr (omega arith)
      ]

  -- roots
  was-waiting : (i : ℕ) → 0 < registers i items → slice_index w.roots.items i ≡ slice_index roots i
  was-waiting i some = aw.of_roots.waiting i (let both = registers-append i items rest in omega arith)

  still-none : (i : ℕ) → registers i (pushed ++ rest) ≡ 0 → registers i items ≡ 0 → registers i (items ++ rest) ≡ 0
  still-none i none here = let same = left-over i in let both = registers-append i items rest in omega arith

  served-now : (i : ℕ) → i < length roots → registers i (pushed ++ rest) ≡ 0 → IsTargetOf sv.view (slice_index roots i) (slice_index v.roots.items i)
  served-now i few none = elim (cases_lt 0 (registers i items)) as (λ _. IsTargetOf sv.view (slice_index roots i) (slice_index v.roots.items i)) [
    | inl some ↦ subst (λ r. IsTargetOf sv.view r (slice_index v.roots.items i)) (was-waiting i some) (sv.served i some)
    | inr without ↦ (let here : registers i items ≡ 0 = omega arith in
        subst (λ t. IsTargetOf sv.view (slice_index roots i) t) (sym (sv.others i here))
        (target-stays aw.view sv.view (slice_index roots i) (slice_index w.roots.items i) (sv.known (slice_index roots i) (slice_index w.roots.items i))
        (aw.of_roots.served i few (still-none i none here))))
  ]

  asked-now : (i : ℕ) → registers i (pushed ++ rest) ≡ 0 → 0 < slice_index roots i → 0 < times (slice_index roots i) sv.view.asked
  asked-now i none some = elim (cases_lt 0 (registers i items)) as (λ _. 0 < times (slice_index roots i) sv.view.asked) [
    | inl more ↦ subst (λ r. 0 < times r sv.view.asked) (was-waiting i more) (sv.asks i more (subst (λ r. 0 < r) (sym (was-waiting i more)) some))
    | inr without ↦ (let here : registers i items ≡ 0 = omega arith in sv.asked (slice_index roots i) (aw.of_roots.asked i (still-none i none here) some))
  ]

  by-roots : (x : ℕ) → 0 < times x sv.view.asked → (i : ℕ) × (slice_index roots i ≡ x)
  by-roots x some = elim (sv.by_roots x some) as (λ _. (i : ℕ) × (slice_index roots i ≡ x)) [
    | inl before ↦ aw.of_roots.by_roots x before
    | inr now ↦ (now.0, sym (was-waiting now.0 now.1) ∙ now.2)
  ]

  -- each listed object was held as the trace began
  addresses : (x : ℕ) → 0 < times x run.logged.items → IsAddress s.blocks x
  addresses x some = subst (λ b. IsAddress b x) (by-begun s run (λ h. h.blocks ≡ s.blocks) refl refl (λ young. refl))
      (listed-held p aw.events w.tracer aw.view aw.tracer.tracks x (subst (λ r. 0 < times x r.logged.items) (sym aw.tracer.runs) some)).address

  tallied : IsTally s (image (stage_of p (aw.events ++ sv.events))) sv.view.copied v.tally
  tallied = next-tally s run lawful addresses aw.events sv.events aw.view sv.view aw.tracer.tracks.trace aw.tracer.tracks.holds sv.tracks.trace sv.tracks.holds step.won sv.copied sv.tokens
      w.tally v.tally step.counts aw.tally

  pub awaited-next : IsAwaited s run roots v (pushed ++ rest)
  awaited-next = record {
    events = aw.events ++ sv.events;
    view = sv.view;
    tracer = record {
      tracks = sv.tracks;
      runs = sv.run ∙ aw.tracer.runs;
      rights = new-rights;
      none = step.none;
      sparse = sv.sparse ∙ aw.tracer.sparse;
    };
    of_objects = record {
      scanned = scans;
      logged = λ x is. scanned-parts x (aw.of_objects.logged x is);
      lines = lines-now;
    };
    settled = λ g few. settles g (aw.settled g few);
    of_roots = record {
      as_many = sv.as_many ∙ aw.of_roots.as_many;
      waiting = λ i some. let more : 0 < registers i rest = subst (λ n. 0 < n) (left-over i) some in
          sv.others i (unserved i more) ∙ aw.of_roots.waiting i (let both = registers-append i items rest in omega arith);
      served = served-now;
      asked = asked-now;
      by_roots = by-roots;
    };
    tally = tallied;
  }

-- whatever the order of packets
permuted : (start : TracingStart) (v : PacketTracer) (ps qs : List (Packet Item)) → IsPermutation ps qs → AwaitsPackets start v ps → AwaitsPackets start v qs
permuted start v ps qs order aw = record {
  awaited = same-awaited (heap_state start.heap) start.run start.roots.items v (items_of ps) (items_of qs) (packets-same ps qs order) aw.awaited;
  buckets = All-permutation IsOfTrace ps qs order aw.buckets;
}

-- a packet was run, and others are left
pub awaits-next : (start : TracingStart) (w v : PacketTracer) (p : Packet Item) (q rest : List (Packet Item)) → RunsPacket w p q v → All IsObject (items_of q) → v.won.items ≡ []
    → AwaitsPackets start w (p ∷ rest) → AwaitsPackets start v (q ++ rest)
awaits-next start w v p q rest runs objects none aw = record {
  awaited = subst (IsAwaited (heap_state start.heap) start.run start.roots.items v) (sym (flat_map-append (λ (r : Packet Item). r.items.items) q rest))
      (awaited-next (heap_state start.heap) start.run start.roots.items w v p.items.items (items_of rest) (items_of q) aw.awaited (step-of w v p q runs objects none) start.heap.lawful.but_lines);
  buckets = All-append IsOfTrace q rest (All-weaker (λ packet. packet.bucket ≡ buckets.Closure) IsOfTrace (λ packet is. inr is) q runs.closure) (All-tail IsOfTrace p rest aw.buckets);
}

pub stays-awaited : (start : TracingStart) (w v : PacketTracer) (p : Packet Item) (q rest : List (Packet Item)) → RunsPacket w p q v → All IsObject (items_of q) → v.won.items ≡ []
    → AwaitsAll AwaitsPackets start w (p ∷ rest) → AwaitsAll AwaitsPackets start v (q ++ rest)
stays-awaited start w v p q rest runs objects none all qs order = permuted start v (q ++ rest) qs order (awaits-next start w v p q rest runs objects none (all (p ∷ rest) (IsPermutation-refl (p ∷ rest))))

-- each packet has an item, and each item is a token's
packets-few : (q : List (Packet Item)) → All HasItems q → All IsObject (items_of q) → (won : List Grey) → IsPermutation won (tokens_of (items_of q)) → length q ≤ length won
packets-few q sizes objects won tokens =
    let all : length q ≤ length (items_of q) = some-in-each q sizes in
    let same : length (tokens_of (items_of q)) ≡ length (items_of q) = length-tokens (items_of q) objects in
    let order : length (tokens_of (items_of q)) ≡ length won = length_permutation won (tokens_of (items_of q)) tokens in
    omega arith
  where
    some-in-each : (q : List (Packet Item)) → All HasItems q → length q ≤ length (items_of q)
    some-in-each [] sizes = omega arith
    some-in-each (p ∷ q) sizes =
        let one : 1 ≤ length p.items.items = (All-head HasItems p q sizes).some in
        let more : length q ≤ length (items_of q) = some-in-each q (All-tail HasItems p q sizes) in
        let both : length (p.items.items ++ items_of q) ≡ length p.items.items + length (items_of q) = length-append p.items.items (items_of q) in
        omega arith

-- what is copied is left no more
falls : (p : Setup) (es es' : List Event) (t t' : PlainTrace) (v v' : View) → Tracks p es t v → Tracks p es' t' v' → v.won ≡ [] → v'.won ≡ []
    → (won : List Grey) → ((x : ℕ) → times x v'.copied ≡ times x (copied_in won) + times x v.copied) → All (IsGrey p v') won
    → (n : ℕ) → n ≤ length won → unclaimed (state_of t'.row) t'.run.number + n ≤ unclaimed (state_of t.row) t.run.number
falls p es es' t t' v v' tracks tracks' idle idle' won more tokens n few =
    let was : unclaimed (state_of t.row) t.run.number + total (blocks p) (λ a. times a v.copied) ≡ total (blocks p) (λ a. one_if (held p a)) = left-is p es t v tracks idle in
    let is : unclaimed (state_of t'.row) t'.run.number + total (blocks p) (λ a. times a v'.copied) ≡ total (blocks p) (λ a. one_if (held p a)) = left-is p es' t' v' tracks' idle' in
    let all : total (blocks p) (λ a. times a v'.copied) ≡ length won + total (blocks p) (λ a. times a v.copied) = total-copied (blocks p) v.copied v'.copied won more
    (All-weaker (IsGrey p v') (λ grey. grey.object < row_words (blocks p)) (token-below p es' tracks'.trace v' tracks'.holds) won tokens) in
    omega arith

pub left-falls : (start : TracingStart) (w v : PacketTracer) (p : Packet Item) (q rest : List (Packet Item)) → RunsPacket w p q v → All IsObject (items_of q) → All HasItems q
    → AwaitsAll AwaitsPackets start w (p ∷ rest) → unclaimed_by v + length q ≤ unclaimed_by w
left-falls start w v p q rest runs objects items all =
    let aw : IsAwaited (heap_state start.heap) start.run start.roots.items w (p.items.items ++ items_of rest) = (all (p ∷ rest) (IsPermutation-refl (p ∷ rest))).awaited in
    let setup : Setup = setup_of (heap_state start.heap) start.run 1 in
    let sv : ServesItems setup aw.events aw.view w.tracer w.roots.items p.items.items v.tracer v.roots.items runs.won = runs.serves setup aw.events aw.view aw.tracer.tracks
    (rights-of-first setup aw.view w.roots.items p.items.items (items_of rest) aw.tracer.rights) in
    falls setup aw.events (aw.events ++ sv.events) w.tracer v.tracer aw.view sv.view aw.tracer.tracks sv.tracks aw.tracer.rights.none_won sv.none_won runs.won sv.copied sv.tokens (length q)
    (packets-few q items objects runs.won runs.pushed)
