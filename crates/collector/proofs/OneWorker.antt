-- What the one worker of a trace leaves when it awaits nothing.
use Rattle.std.proofs.Common.{◌≡◌, refl, sym, ◌∙◌, ap, subst, ℕ, ◌+◌, ◌*◌, ◌<◌, ◌≤◌, ◌⊎◌, inl, inr, arith, true, List, map, length, slice_index, IsTrue, Some}
use Rattle.std.specs.Prelude.{◌&&◌, not, nat_eq, nat_lt}
use Rattle.std.proofs.lemmas.Bool.{and_from, lt-ltb}
use Rattle.std.proofs.lemmas.List.{ext_get_or, get_or-map, length-map}
use Rattle.heap_layout.specs.Zones.{heap_of, LineWords, bit_of}
use Rattle.object_model.specs.Lines.{TouchesLine}
use Rattle.object_model.proofs.Marks as held
use Rattle.object_model.specs.Heaps.{heap_state}
use Rattle.object_model.specs.Objects.{HeapState, IsHeld, size_at}
use Rattle.object_model.specs.declared.shape.TheConstants.{MAX_MEDIUM_WORDS}
use Rattle.trace_core.specs.Setups.{Setup, refs, size, stays_old}
use Rattle.trace_core.specs.Machine.{Event, Stage, Unclaimed, Copying, Scanning, Machine, target, address_or_nil}
use Rattle.trace_core.specs.Traces.{IsFinished, machine_after, stage_of, target_of}
use Rattle.trace_core.specs.Outcomes.{image, HaveAsked, NoOthersAsked}
use Rattle.trace_core.specs.Views.{View, NothingIsLeft, hits, is_stage_copied}
use Rattle.object_model.specs.Times.{one_if, times}
use Rattle.plain_tracer.specs.Tracers.{Tracks, IsTraced}
use Rattle.trace_core.specs.Rooms.{IsFilled, AreLeft}
use Rattle.trace_core.specs.Runs.{IsRunOf, setup_of}
use Rattle.trace_core.proofs.Clauses.{held-of}
use Rattle.trace_core.proofs.Finished.{image-some, option-cases}
use Rattle.racing_collector.specs.Together.{FillsBlocks}
use Rattle.racing_collector.specs.Together.{LinesOfClaimed, is_claimed}
use Rattle.collector.specs.Finished.{IsFinishedTrace}
use Rattle.collector.specs.Serving.{IsTargetOf}
use Rattle.collector.specs.Working.{AwaitsNothing}
use Rattle.racing_collector.specs.declared.together.TracedTogether.{TracedTogether}
use Rattle.collector.specs.declared.packet_tracer.PacketTracer.{PacketTracer}
use Rattle.racing_collector.specs.declared.tally.Tally.{Tally}
use Rattle.collector.specs.declared.worker.TracingStart.{TracingStart}
use Rattle.collector.proofs.WholeCollections.{turns}
use Rattle.collector.proofs.TallySums.{total-same}

module _ (start : TracingStart) (w : PacketTracer) (done : AwaitsNothing start w) where
  abbrev s : HeapState
  s = heap_state start.heap

  abbrev p : Setup
  p = setup_of s start.run 1

  abbrev es : List Event
  es = done.awaited.events

  abbrev v : View
  v = done.awaited.view

  abbrev m : Machine
  m = machine_after p es

  abbrev F : ℕ → ℕ
  F = image (stage_of p es)

  tracks : Tracks p es w.tracer v
  tracks = done.awaited.tracer.tracks

  pub idle : NothingIsLeft p v
  idle = record {
    won = done.awaited.tracer.rights.none_won;
    copied = λ x some. elim (done.awaited.of_objects.scanned x some) as (λ _. 0 < hits x (refs p x) v.grey) [
      | inl left ↦ absurd (omega (arith, left))
      | inr scanned ↦ scanned
    ];
    logged = λ x is. elim (done.awaited.of_objects.logged x is) as (λ _. 0 < hits x (refs p x) v.grey) [
      | inl left ↦ absurd (omega (arith, left))
      | inr scanned ↦ scanned
    ];
    globals = λ g few. elim (done.awaited.settled g few) as (λ _. 0 < times g v.set) [
      | inl left ↦ absurd (omega (arith, left))
      | inr set ↦ set
    ];
  }

  asked : HaveAsked start.roots.items m.asked
  asked i some = subst (λ n. 0 < n) (tracks.holds.asked _) (done.awaited.of_roots.asked i refl some)

  no-others : NoOthersAsked start.roots.items m.asked
  no-others x some = done.awaited.of_roots.by_roots x (subst (λ n. 0 < n) (sym (tracks.holds.asked x)) some)

  module _ (t : TracedTogether) (runs : t.traced.run ≡ w.tracer.run) (is : IsTraced p es v t.traced) (finished : IsFinished p m)
      (roots : t.roots.items ≡ w.roots.items) (tally : t.tally ≡ w.tally) where
    fills : FillsBlocks p m
    fills = record {
      last = is.last;
      few = is.few;
      full = λ b taken. elim (is.full b taken) as (λ _. (0 < times b is.last) ⊎ IsFilled p m b (MAX_MEDIUM_WORDS + 1)) [
        | inl last ↦ inl last
        | inr (inl sparse) ↦ absurd (let none : times b v.sparse ≡ 0 = ap (times b) done.awaited.tracer.sparse in omega (arith, none, sparse))
        | inr (inr filled) ↦ inr (λ o below. let many : 2048 < filled.0 = filled.1 in filled.2 o (omega (arith, below, many)))
      ];
    }

    -- nil has no target
    nil : F 0 ≡ 0
    nil = elim (option-cases (target_of p es 0)) as (λ _. F 0 ≡ 0) [
      | inl none ↦ ap address_or_nil none
      | inr some ↦ absurd (let there : IsHeld p.before 0 = held.held p.before 0 (held-of p es tracks.trace 0 some.0 some.1) in
          let from : heap_of p.before.blocks ≤ 0 = there.address.from in omega arith)
    ]

    -- the roots are replaced by their targets
    root-is : (r t : ℕ) → IsTargetOf v r t → t ≡ F r
    root-is r t (inl none) = none.1 ∙ sym (ap F none.0 ∙ nil)
    root-is r t (inr known) = sym (ap address_or_nil (tracks.holds.known r t known.1))

    roots-are : w.roots.items ≡ map F start.roots.items
    roots-are = ext_get_or 0 w.roots.items (map F start.roots.items) (done.awaited.of_roots.as_many ∙ sym (length-map start.roots.items F))
        (λ i below. let there : i < length start.roots.items = subst (λ n. i < n) done.awaited.of_roots.as_many below in
        root-is (slice_index start.roots.items i) (slice_index w.roots.items i) (done.awaited.of_roots.served i there refl)
        ∙ sym (get_or-map F start.roots.items i 0 0 there))

    -- what is copied has a target
    copied-stage : (a : ℕ) (stage : Stage) → stage ≡ stage_of p es a → is_stage_copied stage ≡ nat_lt 0 (address_or_nil (target stage))
    copied-stage a Unclaimed is = refl
    copied-stage a (Copying t k) is = absurd (let wrong : Copying t k ≡ Scanning t _ = is ∙ finished.objects a t (sym (ap target is)) in cc)
    copied-stage a (Scanning t k) is =
        let some : 0 < F a = image-some p es tracks.trace finished a t (sym (ap target is)) in
        let at : F a ≡ t = ap address_or_nil (sym (ap target is)) in
        sym (lt-ltb 0 t (omega (arith, some, at)))

    claimed : (a : ℕ) → times a v.copied ≡ one_if (is_claimed p es a)
    claimed a = tracks.holds.copied a ∙ ap (λ t. one_if (not (stays_old p a) && t)) (copied-stage a (stage_of p es a) refl)

    marks : IsTrue start.run.lines → LinesOfClaimed p es
    marks on x t n is young few touches =
        let some : 0 < times x v.copied = (let copied = claimed x in
        let one : is_claimed p es x ≡ true = and_from (not (stays_old p x)) (nat_lt 0 (F x)) (ap not young) (lt-ltb 0 (F x) (image-some p es tracks.trace finished x t is)) in
        let all : one_if (is_claimed p es x) ≡ 1 = ap one_if one in omega (arith, copied, all)) in
        elim (done.awaited.of_objects.lines on x some) as (λ _. IsTrue (bit_of p.before.blocks LineWords m.words n)) [
          | inl left ↦ absurd (omega (arith, left))
          | inr had ↦ had.marked n few (subst (λ u. TouchesLine p.before.blocks u (size p x) n) (let one : Some t ≡ Some had.target = sym is ∙ had.known in let same : t ≡ had.target = cc in same) touches)
        ]

    pub finished-trace : IsFinishedTrace s start.run 1 start.roots.items t
    finished-trace = record {
      may = done.may;
      same = runs ∙ done.awaited.tracer.runs;
      traces = record {
        events = es;
        trace = tracks.trace;
        finished = finished;
        run_is = subst (IsRunOf p) (runs ∙ done.awaited.tracer.runs) is.run;
        row = is.row;
        asked = asked;
        no_others = no-others;
        targets = roots ∙ roots-are;
        fills = fills;
        lines = marks;
        counts = record {
          kept = ap (λ (c : Tally). c.kept) tally ∙ done.awaited.tally.kept ∙ total-same s.blocks _ _ (λ a below. claimed a);
          moved = ap (λ (c : Tally). c.moved) tally ∙ done.awaited.tally.moved
              ∙ total-same s.blocks _ _ (λ a below. ap (λ n. n * one_if (not (nat_eq (F a) a))) (claimed a));
          words = ap (λ (c : Tally). c.words) tally ∙ done.awaited.tally.words ∙ total-same s.blocks _ _ (λ a below. ap (λ n. n * size_at s a) (claimed a));
        };
      };
      turns = λ one. turns s start.run 1 start.heap.lawful done.may p refl es v tracks.trace finished is.holds
          (subst (λ l. AreLeft p m l v.blocks) done.awaited.tracer.sparse is.left) is.lowest;
    }
