-- An object's lines are marked, by an event for each line word with a line that it touches.
use Rattle.std.proofs.Common.{◌≡◌, ℕ, zero, suc, ◌+◌, ◌*◌, ◌-◌, ◌/◌, ◌^◌, ◌<◌, ◌≤◌, inl, inr, IsTrue, refl, sym, ap, ◌∙◌, subst, arith, Some}
use Rattle.std.proofs.Common.{List, [], ◌∷◌, ◌++◌, length, slice_index, slice_set, bit_or, append_assoc, append-nil, get_or-set_other, get_or-set_same}
use Rattle.std.specs.Prelude.{All}
use Rattle.std.proofs.Math.ListN.{length-set}
use Rattle.std.proofs.lemmas.Bool.{cases_eq, cases_lt}
use Rattle.std.proofs.lemmas.List.{ext_get_or}
use Rattle.std.proofs.lemmas.List.Elements.{All-nil, All-push}
use Rattle.heap_layout.specs.Zones.{LineWords, row_words, heap_of, first, line_at, bit_of, IsAddress}
use Rattle.object_model.specs.Objects.{state_over, with_words}
use Rattle.object_model.specs.Lines.{TouchesLine}
use Rattle.line_bits.specs.LineMarks.{MarksLines}
use Rattle.trace_core.specs.Setups.{Setup, blocks, size}
use Rattle.trace_core.specs.Machine.{Machine, target, Event, MarkLines, next, heap_in}
use Rattle.trace_core.specs.Traces.{May, IsTracing, machine_after, target_of}
use Rattle.trace_core.specs.Views.{View, Holds}
use Rattle.plain_tracer.specs.Tracers.{Tracks, MakesEvents, ChangesWords}
use Rattle.trace_core.specs.Runs.{IsRunOf}
use Rattle.trace_core.specs.Rooms.{IsCopyRoom, StayWithoutRoom}
use Rattle.trace_core.specs.CallEvents.{Marks}
use Rattle.plain_tracer.specs.TokenRights.{IsMarking}
use Rattle.plain_tracer.specs.declared.plain_trace.PlainTrace.{PlainTrace}
use Rattle.plain_tracer.specs.declared.tokens.Grey.{Grey}
use Rattle.trace_core.proofs.Law.{sound}
use Rattle.trace_core.proofs.Clauses.{targets-inside}
use Rattle.plain_tracer.proofs.TracedRows.{words-are, blocks-are}
use Rattle.trace_core.proofs.AppendedEvents.{machine-next, trace-next}
use Rattle.plain_tracer.proofs.StoredWords.{room-stays}
use Rattle.trace_core.proofs.BlocksLeft.{left-stays}
use Rattle.plain_tracer.proofs.MarkedWords.{Marked, gained, gained-touches, with-gained, other-word}

-- the machine with other words
abbrev with : Machine → List ℕ → Machine
with m words = record m { words = words }

-- Events marked lines of the object that was at x: n words of the row, from word `at` on, have their last value.
record MarkedTo (p : Setup) (es : List Event) (x : ℕ) (new : List ℕ) (at n : ℕ) : Type 0 where
  pub events : List Event
  pub all : All (Marks x) events
  pub trace : IsTracing p (es ++ events)
  pub words : List ℕ
  pub machine : machine_after p (es ++ events) ≡ with (machine_after p es) words
  pub extent : length words ≡ length (machine_after p es).words
  pub done : (i : ℕ) → at ≤ i → i < at + n → slice_index words i ≡ slice_index new i
  pub left : (i : ℕ) → (at ≤ i → i < at + n → ⊥) → slice_index words i ≡ slice_index (machine_after p es).words i

module _ (p : Setup) (es : List Event) (t : PlainTrace) (v : View) (tracks : Tracks p es t v) (grey : Grey) (marking : IsMarking p v grey) where
  target-is : target_of p es grey.object ≡ Some grey.target
  target-is = tracks.holds.known grey.object grey.target marking.target

  word-inside : (o : ℕ) → o < grey.size → IsAddress (blocks p) (grey.target + o)
  word-inside o l = let same : grey.size ≡ size p grey.object = marking.size in
      targets-inside p es tracks.trace grey.object grey.target (grey.target + o) target-is (record { from = omega arith; below = omega arith })

  pub some-words : 1 ≤ grey.size
  some-words = let same : grey.size ≡ size p grey.object = marking.size in omega arith

  first-inside : IsAddress (blocks p) grey.target
  first-inside = subst (IsAddress (blocks p)) (omega arith) (word-inside 0 some-words)

  last-inside : IsAddress (blocks p) (grey.target + grey.size - 1)
  last-inside = let some : 1 ≤ grey.size = some-words in subst (IsAddress (blocks p)) (omega arith) (word-inside (grey.size - 1) (omega arith))

  pub front-inside : IsAddress t.row.layout.blocks grey.target
  front-inside = subst (λ b. IsAddress b grey.target) (sym (blocks-are p es t v tracks)) first-inside

  pub end-inside : grey.target + grey.size ≤ row_words t.row.layout.blocks
  end-inside = let below : grey.target + grey.size - 1 < row_words (blocks p) = last-inside.below in
      subst (λ b. grey.target + grey.size ≤ row_words b) (sym (blocks-are p es t v tracks)) (omega arith)

  abbrev m : Machine
  m = machine_after p es

  module _ (new : List ℕ) (is : Marked (blocks p) grey.target grey.size m.words new) (fit : (i : ℕ) → slice_index m.words i < 2 ^ 64) where
    long : length m.words ≡ row_words (blocks p)
    long = (sound p es tracks.trace).objects.long

    -- the first word with a line that it touches, and how many there are
    abbrev begin : ℕ
    begin = line_at (blocks p) grey.target / 64

    abbrev count : ℕ
    count = line_at (blocks p) (grey.target + grey.size - 1) / 64 + 1 - begin

    abbrev at : ℕ
    at = first (blocks p) LineWords + begin

    last-word : begin + count ≤ 4 * blocks p
    last-word =
        let base : heap_of (blocks p) ≤ grey.target + grey.size - 1 = last-inside.from in
        let top : grey.target + grey.size - 1 < row_words (blocks p) = last-inside.below in
        let some : 1 ≤ grey.size = some-words in
        omega arith

    abbrev mark : ℕ → Event
    mark n = MarkLines grey.object (at + n) (gained (blocks p) m.words new (begin + n))

    none-yet : MarkedTo p es grey.object new at 0
    none-yet = record {
      events = [];
      all = All-nil (Marks grey.object);
      trace = subst (IsTracing p) (sym (append-nil es)) tracks.trace;
      words = m.words;
      machine = ap (machine_after p) (append-nil es);
      extent = refl;
      done = λ i after below. absurd (omega arith);
      left = λ i outside. refl;
    }

    -- the next word
    module _ (n : ℕ) (few : n < count) (to : MarkedTo p es grey.object new at n) where
      abbrev there : List Event
      there = es ++ to.events

      word : at + n ≡ first (blocks p) LineWords + (begin + n)
      word = omega arith

      index : at + n - first (blocks p) LineWords ≡ begin + n
      index = omega arith

      may-mark : May p (machine_after p (es ++ to.events)) (mark n)
      may-mark = let most : begin + count ≤ 4 * blocks p = last-word in (
        record { from = omega arith; below = omega arith },
        (
          grey.target,
          ap (λ (k : Machine). target (k.stage grey.object)) to.machine ∙ target-is,
          λ k set. (let touches = gained-touches (blocks p) grey.target grey.size m.words new is fit (begin + n) k set in (
            touches.0,
            subst (λ i. TouchesLine (blocks p) grey.target (size p grey.object) (64 * i + k)) (sym index)
                (subst (λ z. TouchesLine (blocks p) grey.target z (64 * (begin + n) + k)) marking.size touches.1),
          )),
        ),
      )

      abbrev value : ℕ
      value = bit_or (slice_index to.words (at + n)) (gained (blocks p) m.words new (begin + n))

      value-is : value ≡ slice_index new (at + n)
      value-is = ap (λ w. bit_or w (gained (blocks p) m.words new (begin + n))) (to.left (at + n) (λ after below. omega arith) ∙ ap (slice_index m.words) word)
          ∙ with-gained (blocks p) grey.target grey.size m.words new is fit (begin + n) ∙ sym (ap (slice_index new) word)

      one-more : MarkedTo p es grey.object new at (suc n)
      one-more = let next-n : suc n ≡ n + 1 = omega arith in record {
        events = to.events ++ mark n ∷ [];
        all = All-push (Marks grey.object) to.events (mark n) to.all refl;
        trace = subst (IsTracing p) (append_assoc es to.events (mark n ∷ [])) (trace-next p (es ++ to.events) to.trace (mark n) may-mark);
        words = slice_set to.words (at + n) value;
        machine = ap (machine_after p) (sym (append_assoc es to.events (mark n ∷ []))) ∙ machine-next p (es ++ to.events) to.trace (mark n)
            ∙ ap (λ k. next p k (mark n)) to.machine;
        extent = length-set to.words (at + n) value ∙ to.extent;
        done = λ i after below. elim (cases_eq i (at + n)) as (λ _. slice_index (slice_set to.words (at + n) value) i ≡ slice_index new i) [
          | inl here ↦ (let most : begin + count ≤ 4 * blocks p = last-word in let all : length m.words ≡ row_words (blocks p) = long in let same : length to.words ≡ length m.words = to.extent in
              ap (slice_index (slice_set to.words (at + n) value)) here ∙ get_or-set_same to.words (at + n) value 0 (omega arith) ∙ value-is ∙ sym (ap (slice_index new) here))
          | inr away ↦ get_or-set_other to.words (at + n) i value 0 away ∙ to.done i after (omega arith)
        ];
        left = λ i outside. get_or-set_other to.words (at + n) i value 0 (λ e. outside (omega arith) (omega arith))
            ∙ to.left i (λ after below. outside after (omega arith));
      }

    marked-to : (n : ℕ) → n ≤ count → MarkedTo p es grey.object new at n
    marked-to zero most = none-yet
    marked-to (suc n) most = one-more n (omega arith) (marked-to n (omega arith))

    abbrev all-words : MarkedTo p es grey.object new at count
    all-words = marked-to count (omega arith)

    words-are-new : all-words.words ≡ new
    words-are-new = ext_get_or 0 all-words.words new (all-words.extent ∙ sym is.extent) (λ i below. elim (cases_lt i at) as (λ _. slice_index all-words.words i ≡ slice_index new i) [
      | inl before ↦ same i (λ after most. omega arith)
      | inr after ↦ elim (cases_lt i (at + count)) as (λ _. slice_index all-words.words i ≡ slice_index new i) [
        | inl within ↦ all-words.done i after within
        | inr beyond ↦ same i (λ least most. omega arith)
      ]
    ])
      where
        same : (i : ℕ) → (at ≤ i → i < at + count → ⊥) → slice_index all-words.words i ≡ slice_index new i
        same i outside = all-words.left i outside
            ∙ sym (other-word (blocks p) grey.target grey.size m.words new is fit first-inside.from i (λ after below. outside (omega arith) (omega arith)))

    -- the tracer tracks these events
    module _ (t' : PlainTrace) (changes : ChangesWords t t' new) where
      abbrev ds : List Event
      ds = es ++ all-words.events

      machine-is : machine_after p (es ++ all-words.events) ≡ with m new
      machine-is = all-words.machine ∙ ap (with m) words-are-new

      tracks-marks : Tracks p (es ++ all-words.events) t' v
      tracks-marks =
          let owners : (machine_after p (es ++ all-words.events)).owner ≡ m.owner = ap (λ (k : Machine). k.owner) machine-is in
          let takes : (machine_after p (es ++ all-words.events)).taken ≡ m.taken = ap (λ (k : Machine). k.taken) machine-is in
          record {
            trace = all-words.trace;
            run = subst (IsRunOf p) (sym changes.run) tracks.run;
            row = changes.row ∙ ap (λ s. with_words s new) tracks.row ∙ sym (ap (heap_in p) machine-is);
            holds = subst (λ k. Holds p k v) (sym machine-is) (record {
              won = tracks.holds.won;
              grey = tracks.holds.grey;
              copied = tracks.holds.copied;
              unset = tracks.holds.unset;
              set = tracks.holds.set;
              asked = tracks.holds.asked;
              known = tracks.holds.known;
              blocks = tracks.holds.blocks;
            });
            room = subst (λ b. IsCopyRoom p (machine_after p ds) v.blocks b t'.room) (sym changes.block)
                (subst (λ r. IsCopyRoom p (machine_after p ds) v.blocks t.block r) (sym changes.room)
                (room-stays p m (machine_after p ds) owners v.blocks t.block t.room tracks.room));
            left = left-stays p m (machine_after p ds) owners v.sparse v.sparse refl v.blocks tracks.left;
            stayed = subst (StayWithoutRoom p (machine_after p ds)) (sym changes.room)
                (λ x is young moves. tracks.stayed x (sym (ap (λ (k : Machine). target (k.stage x)) machine-is) ∙ is) young moves);
            passed = λ b before free. subst (λ take. 0 < take b) (sym takes) (tracks.passed b (subst (λ n. b < n) changes.next_block before) free);
            ahead = λ b some. subst (λ n. b < n) (sym changes.next_block) (tracks.ahead b (subst (λ take. 0 < take b) takes some));
          }

      grows-by-marks : MakesEvents p es t' v (Marks grey.object)
      grows-by-marks = record { events = all-words.events; all = all-words.all; tracks = tracks-marks }

  -- the same from what was said of the tracer's own row
  module _ (new : List ℕ) (is : MarksLines (state_over t.row.words t.row.layout 0 0) (state_over new t.row.layout 0 0) grey.target grey.size) where
    marked : Marked (blocks p) grey.target grey.size m.words new
    marked = subst (λ ws. Marked (blocks p) grey.target grey.size ws new) (words-are p es t v tracks)
        (subst (λ b. Marked b grey.target grey.size t.row.words new) (blocks-are p es t v tracks) is)

    pub lines-set : (k : ℕ) → TouchesLine (blocks p) grey.target grey.size k → IsTrue (bit_of (blocks p) LineWords new k)
    lines-set = marked.marked

    pub grows-marks : ((i : ℕ) → slice_index t.row.words i < 2 ^ 64) → (t' : PlainTrace) → ChangesWords t t' new → MakesEvents p es t' v (Marks grey.object)
    grows-marks fit = grows-by-marks new marked (λ i. subst (λ ws. slice_index ws i < 2 ^ 64) (words-are p es t v tracks) (fit i))
