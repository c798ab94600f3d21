-- Fields, globals and roots get their last values; frozen words are read; lines are marked.
use Rattle.std.proofs.Common.{◌≡◌, ℕ, ◌+◌, ◌*◌, ◌/◌, ◌%◌, ◌<◌, ◌≤◌, inl, inr, ⊎_elim, IsTrue, nat_eq, slice_index, get_or-set_same, refl, sym, ap, ◌∙◌, subst, arith}
use Rattle.std.specs.Prelude.{bit_or, slice_set}
use Rattle.std.specs.Int.{bit_at}
use Rattle.std.proofs.lemmas.Nat.Bits.{bit_at_or, bit_at-lt}
use Rattle.std.proofs.lemmas.Bool.{cond-false, eq-eqb}
use mathlib.Core.Option.{some}
use lib.ListN.{get_elem?}
use Rattle.atomic_table.specs.Table.{keeps, stepped, Allows}
use Rattle.heap_layout.specs.Zones.{first, Globals, PinBits, LineWords, InZone, bit_of}
use Rattle.object_model.specs.Objects.{IsHeld, word_at, ref_at, global_at}
use Rattle.trace_core.specs.Setups.{Setup, blocks}
use Rattle.trace_core.specs.Machine.{Machine, Event, next, Scanning, Scan, SetGlobal, Ask, MarkLines, forward, IsSettled, scan_place, scan_value}
use Rattle.trace_core.specs.Traces.{May, machine_after}
use Rattle.trace_core.specs.Views.{View, hits, is_pair, without, scanned_view, set_view, asked_view}
use Rattle.object_model.specs.Times.{times}
use Rattle.trace_core.proofs.AskRights.{holds-asked}
use Rattle.trace_core.proofs.CountedRights.{hits-cons, hits-from, pair-parts, hits-without, times-cons, times-without}
use Rattle.trace_core.proofs.Clauses.{whole}
use Rattle.trace_core.proofs.HeaderWords.{header-same}
use Rattle.trace_core.proofs.LastValues.{settled-at, forward-at, settled-nil, forward-nil}
use Rattle.trace_core.proofs.Law.{sound}
use Rattle.trace_core.proofs.ScanRights.{scanning-at, unset-at, holds-scanned, holds-set}
use Rattle.trace_core.proofs.Steps.{copied-plain}
use Rattle.trace_words.specs.declared.share.Share.{Share}
use Rattle.trace_words.specs.Shares.{view_of, pooled, scans_field, sets_global, asks_for, sets_lines, sees_lines}
use Rattle.trace_words.specs.Rule.{TraceState, SeatShare, KeepsTrace, IsShareOf}
use Rattle.trace_words.specs.Steps.{MayScan, MaySet, MayMark, Knows, IsLast}
use Rattle.trace_words.proofs.Pooled.{Alike, like-itself, has-grey, has-known, has-unset}
use Rattle.trace_words.proofs.RuleSteps.{grows-next, share-stays, word-is, known-is, rooms-after, event-made, event-only, nothing-made, nothing-seen}

like-scanned : (x k : ℕ) (V v : View) → 0 < hits x k V.grey → 0 < hits x k v.grey → Alike V (scanned_view x k V) v (scanned_view x k v)
like-scanned x k V v had has = record {
  won = λ y j. refl;
  grey = λ y j. (let a = hits-without x k V.grey had y j in let b = hits-without x k v.grey has y j in
      let c = hits-cons x (k + 1) (without (is_pair x k) V.grey) y j in let d = hits-cons x (k + 1) (without (is_pair x k) v.grey) y j in omega arith);
  copied = λ y. refl;
  unset = λ y. refl;
  set = λ y. refl;
  asked = λ y. refl;
  known = λ y u. refl;
  blocks = λ y. refl;
}

like-set : (g : ℕ) (V v : View) → 0 < times g V.unset → 0 < times g v.unset → Alike V (set_view g V) v (set_view g v)
like-set g V v had has = record {
  won = λ y k. refl;
  grey = λ y k. refl;
  copied = λ y. refl;
  unset = λ y. (let a = times-without g V.unset had y in let b = times-without g v.unset has y in omega arith);
  set = λ y. (let a = times-cons g V.set y in let b = times-cons g v.set y in omega arith);
  asked = λ y. refl;
  known = λ y u. refl;
  blocks = λ y. refl;
}

like-asked : (x t : ℕ) (V v : View) → Alike V (asked_view x t V) v (asked_view x t v)
like-asked x t V v = record {
  won = λ y k. refl;
  grey = λ y k. refl;
  copied = λ y. refl;
  unset = λ y. refl;
  set = λ y. refl;
  asked = λ y. (let a = times-cons x V.asked y in let b = times-cons x v.asked y in omega arith);
  known = λ y u. (let a = hits-cons x t V.known y u in let b = hits-cons x t v.known y u in omega arith);
  blocks = λ y. refl;
}

module _ (p : Setup) (s : TraceState) (h : KeepsTrace p s) (id : ℕ) (v : Share) (at : get_elem? s.views id ≡ some v) where
  abbrev m : Machine
  m = machine_after p h.events

  -- the last value of a field or a global
  last-is : (old value : ℕ) → IsLast v old value → IsSettled m.stage old × (value ≡ forward m.stage old)
  last-is old value last = elim last as (λ _. IsSettled m.stage old × (value ≡ forward m.stage old)) [
    | inl nil ↦ (settled-nil m.stage old nil.0, nil.1 ∙ forward-nil m.stage old nil.0)
    | inr some-object ↦ (let is = known-is p s h id v at old value some-object.1 in (settled-at m.stage old value is, forward-at m.stage old value some-object.0 is))
  ]

  module _ (x t k : ℕ) (may : MayScan p v x t k) where
    stage-is : m.stage x ≡ Scanning t k
    stage-is = scanning-at p m (pooled s.views) h.holds x t k (has-grey s.views id v at x k may.right) (has-known s.views id v at x t may.target)

    field-is : slice_index s.words (t + 3 + k) ≡ ref_at p.before x k
    field-is = word-is p s h id v at (t + 3 + k) ∙ ap (slice_index m.words) (let e : t + 3 + k ≡ t + (3 + k) = omega arith in e)
        ∙ whole p h.events h.trace x t k (3 + k) stage-is (let l = may.field in omega arith) (inr (omega arith))
        ∙ copied-plain p x t (3 + k) (λ e. omega arith)
        ∙ ap (word_at p.before) (let e : x + (3 + k) ≡ x + 3 + k = omega arith in e)

  module _ (g : ℕ) (may : MaySet p v g) where
    had-global : 0 < times g (pooled s.views).unset
    had-global = has-unset s.views id v at g may.right

    global-is : slice_index s.words (first (blocks p) Globals + g) ≡ global_at p.before g
    global-is = let right = unset-at p m (pooled s.views) h.holds g had-global in
        word-is p s h id v at (first (blocks p) Globals + g) ∙ (sound p h.events h.trace).sides.globals.value g right.0
        ∙ cond-false (m.set g) (forward m.stage (global_at p.before g)) (global_at p.before g) right.1

module _ (p : Setup) where
  -- a load of a field that waits to be scanned
  pub read-field : (slots id : ℕ) (me : SeatShare) (x t k : ℕ) → MayScan p me.0 x t k
      → Allows (KeepsTrace p) slots id me (t + 3 + k) (λ n. n) (λ n now. (n ≡ ref_at p.before x k) × (now ≡ me))
  read-field slots id me x t k may s h _ at _ =
      (me.0, keeps, tt, nothing-seen p s h id me.0 at (t + 3 + k) (slice_index s.words (t + 3 + k)) me.1 refl, (field-is p s h id me.0 at x t k may, refl))

  -- a store of its last value scans it
  pub scan-field : (slots id : ℕ) (me : SeatShare) (x t k value : ℕ) → MayScan p me.0 x t k → IsLast me.0 (ref_at p.before x k) value
      → Allows (KeepsTrace p) slots id me (t + 3 + k) (λ _. value) (λ n now. now ≡ (scans_field x k me.0, me.1))
  scan-field slots id me x t k value may last s h _ at _ =
      let m : Machine = machine_after p h.events in let st = stage-is p s h id me.0 at x t k may in let is = last-is p s h id me.0 at (ref_at p.before x k) value last in
      let had = has-grey s.views id me.0 at x k may.right in (
        scans_field x k me.0,
        keeps,
        tt,
        event-only p s h id me.0 at (t + 3 + k) value me.1 (scanned_view x k (view_of me.0)) (Scan x) (scanned_view x k (pooled s.views)) may.live refl refl
            (t, k, st, may.field, is.0) (ap scan_place st) (is.1 ∙ sym (ap (λ z. scan_value p m.stage x z (slice_index m.words (t + 3 + k))) st))
            (holds-scanned p m (pooled s.views) h.holds x t k had st) (like-scanned x k (pooled s.views) (view_of me.0) had may.right) refl refl,
        refl,
      )

  -- so does a load where the field has its last value
  pub keep-field : (slots id : ℕ) (me : SeatShare) (x t k : ℕ) → MayScan p me.0 x t k → IsLast me.0 (ref_at p.before x k) (ref_at p.before x k)
      → Allows (KeepsTrace p) slots id me (t + 3 + k) (λ n. n) (λ n now. now ≡ (scans_field x k me.0, me.1))
  keep-field slots id me x t k may last s h long at fits =
      let n : ℕ = slice_index s.words (t + 3 + k) in let by = scan-field slots id me x t k (ref_at p.before x k) may last s h long at fits in
      (by.0, by.1, by.2, subst (λ value. KeepsTrace p (stepped s (t + 3 + k) value id me.1 by.0 by.1)) (sym (field-is p s h id me.0 at x t k may)) by.3, by.4)

  -- a load of a global that is to be set
  pub read-global : (slots id : ℕ) (me : SeatShare) (g : ℕ) → MaySet p me.0 g
      → Allows (KeepsTrace p) slots id me (first (blocks p) Globals + g) (λ n. n) (λ n now. (n ≡ global_at p.before g) × (now ≡ me))
  read-global slots id me g may s h _ at _ = let i : ℕ = first (blocks p) Globals + g in
      (me.0, keeps, tt, nothing-seen p s h id me.0 at i (slice_index s.words i) me.1 refl, (global-is p s h id me.0 at g may, refl))

  -- a store of its last value sets it
  pub set-global : (slots id : ℕ) (me : SeatShare) (g value : ℕ) → MaySet p me.0 g → IsLast me.0 (global_at p.before g) value
      → Allows (KeepsTrace p) slots id me (first (blocks p) Globals + g) (λ _. value) (λ n now. now ≡ (sets_global g me.0, me.1))
  set-global slots id me g value may last s h _ at _ =
      let m : Machine = machine_after p h.events in let had = had-global p s h id me.0 at g may in let right = unset-at p m (pooled s.views) h.holds g had in
      let is = last-is p s h id me.0 at (global_at p.before g) value last in (
        sets_global g me.0,
        keeps,
        tt,
        event-only p s h id me.0 at (first (blocks p) Globals + g) value me.1 (set_view g (view_of me.0)) (SetGlobal g) (set_view g (pooled s.views)) may.live refl refl
            (right.0, right.1, is.0) refl is.1 (holds-set p m (pooled s.views) h.holds g had) (like-set g (pooled s.views) (view_of me.0) had may.right) refl refl,
        refl,
      )

  -- so does a load where the global has its last value
  pub keep-global : (slots id : ℕ) (me : SeatShare) (g : ℕ) → MaySet p me.0 g → IsLast me.0 (global_at p.before g) (global_at p.before g)
      → Allows (KeepsTrace p) slots id me (first (blocks p) Globals + g) (λ n. n) (λ n now. now ≡ (sets_global g me.0, me.1))
  keep-global slots id me g may last s h long at fits =
      let i : ℕ = first (blocks p) Globals + g in let by = set-global slots id me g (global_at p.before g) may last s h long at fits in
      (by.0, by.1, by.2, subst (λ value. KeepsTrace p (stepped s i value id me.1 by.0 by.1)) (sym (global-is p s h id me.0 at g may)) by.3, by.4)

  -- a load by which a root asks for an object that has its target
  pub ask : (slots id : ℕ) (me : SeatShare) (x t : ℕ) → Knows p me.0 x t → Allows (KeepsTrace p) slots id me (x + 2) (λ n. n) (λ n now. now ≡ (asks_for x t me.0, me.1))
  ask slots id me x t may s h _ at _ =
      let m : Machine = machine_after p h.events in let is = known-is p s h id me.0 at x t may.target in (
        asks_for x t me.0,
        keeps,
        tt,
        event-only p s h id me.0 at (x + 2) (slice_index s.words (x + 2)) me.1 (asked_view x t (view_of me.0)) (Ask x) (asked_view x t (pooled s.views)) may.live refl refl
            (t, is) refl (word-is p s h id me.0 at (x + 2)) (holds-asked p m (pooled s.views) h.holds x t is) (like-asked x t (pooled s.views) (view_of me.0)) refl refl,
        refl,
      )

  -- a load of the name or the shape of an object
  pub read-header : (slots id : ℕ) (me : SeatShare) (x o : ℕ) → IsHeld p.before x → o < 2
      → Allows (KeepsTrace p) slots id me (x + o) (λ n. n) (λ n now. (n ≡ word_at p.before (x + o)) × (now ≡ me))
  read-header slots id me x o held l s h _ at _ = (
    me.0,
    keeps,
    tt,
    nothing-seen p s h id me.0 at (x + o) (slice_index s.words (x + o)) me.1 refl,
    (word-is p s h id me.0 at (x + o) ∙ header-same p h.events h.trace x held o l, refl),
  )

  -- a load of a word of pin bits
  pub read-pins : (slots id : ℕ) (me : SeatShare) (i : ℕ) → InZone (blocks p) PinBits i → Allows (KeepsTrace p) slots id me i (λ n. n) (λ n now. (n ≡ word_at p.before i) × (now ≡ me))
  read-pins slots id me i there s h _ at _ =
      (me.0, keeps, tt, nothing-seen p s h id me.0 at i (slice_index s.words i) me.1 refl, (word-is p s h id me.0 at i ∙ (sound p h.events h.trace).sides.rest.pins i there, refl))

  -- a load of a line word shows which of its bits are set
  share-sees-lines : (m : Machine) (v : Share) (word found : ℕ) → 0 < v.parts → found ≡ slice_index m.words word → IsShareOf p m v → IsShareOf p m (sees_lines word found v)
  share-sees-lines m v word found live seen is = record {
    token = λ none. absurd (omega arith);
    busy = is.busy;
    owned = is.owned;
    owner = is.owner;
    full = is.full;
    room = λ some-word. (let end = is.room some-word in (end.0, record { from = end.1.from; limit = end.1.limit; words = end.1.words; front = end.1.front; filled = end.1.filled; owner = end.1.owner }));
    listed = is.listed;
    number = is.number;
    numbers = is.numbers;
    one = is.one;
    none = is.none;
    few = is.few;
    fewer = is.fewer;
    lined = λ n few set-by. (let i : ℕ = first (blocks p) LineWords + n / 64 in
        ⊎_elim (λ (here : IsTrue (is_pair i set-by.0 (word, found))). let both = pair-parts word found i set-by.0 here in
        ap (λ w. nat_eq (bit_at w (n % 64)) 1) (ap (slice_index m.words) (sym both.0) ∙ sym seen ∙ both.1)
        ∙ eq-eqb (bit_at set-by.0 (n % 64)) 1 set-by.1)
        (λ (before : 0 < hits i set-by.0 v.lined). is.lined n few (set-by.0, set-by.1, before)) (hits-from word found v.lined i set-by.0 set-by.2));
  }

  pub look-at-lines : (slots id : ℕ) (me : SeatShare) (word : ℕ) → 0 < me.0.parts
      → Allows (KeepsTrace p) slots id me word (λ n. n) (λ n now. now ≡ (sees_lines word n me.0, me.1))
  look-at-lines slots id me word live s h _ at _ = let n : ℕ = slice_index s.words word in (
    sees_lines word n me.0,
    keeps,
    tt,
    nothing-made p s h id me.0 at word n me.1 (sees_lines word n me.0) (pooled s.views) refl h.holds (like-itself (pooled s.views) (view_of me.0))
        (record { parts = refl; token = refl; gave = refl; took = refl; worker = refl; numbers = refl }) refl refl refl
        (share-sees-lines (machine_after p h.events) me.0 word n live (word-is p s h id me.0 at word) (h.shares id me.0 at)),
    refl,
  )

  -- bits of a line word are set
  module _ (s : TraceState) (h : KeepsTrace p s) (id : ℕ) (v : Share) (at : get_elem? s.views id ≡ some v) (x t word mask : ℕ) (may : MayMark p v x t word mask) where
    abbrev marked : Event
    marked = MarkLines x word mask

    abbrev now : Machine
    now = machine_after p h.events

    may-mark : May p now marked
    may-mark = (may.zone, (t, known-is p s h id v at x t may.target, λ k is. may.lines k is))

    -- a bit of the mask
    now-set : (n : ℕ) → first (blocks p) LineWords + n / 64 ≡ word → bit_at mask (n % 64) ≡ 1 → IsTrue (bit_of (blocks p) LineWords (next p now marked).words n)
    now-set n here bit =
        let old : ℕ = slice_index now.words word in let new : ℕ = bit_or old mask in
        let from : first (blocks p) LineWords ≤ word = may.zone.from in let below : word < first (blocks p) LineWords + 4 * blocks p = may.zone.below in let long = (sound p h.events h.trace).objects.long in
        let stored-word : slice_index (slice_set now.words word new) word ≡ new = get_or-set_same now.words word new 0 (omega arith) in
        let set-bit : bit_at new (n % 64) ≡ 1 = omega (arith, bit, bit_at_or old mask (n % 64), bit_at-lt old (n % 64)) in
        ap (λ w. nat_eq (bit_at w (n % 64)) 1) (ap (slice_index (slice_set now.words word new)) here ∙ stored-word) ∙ eq-eqb (bit_at new (n % 64)) 1 set-bit

    share-lined : IsShareOf p (next p now marked) (sets_lines x word mask v)
    share-lined = let is = share-stays p now (next p now marked) (grows-next p h.events h.trace marked may-mark) v (h.shares id v at) in let live = may.live in record {
      token = λ none. absurd (omega arith);
      busy = is.busy;
      owned = is.owned;
      owner = is.owner;
      full = is.full;
      room = λ some-word. (let end = is.room some-word in (end.0, record { from = end.1.from; limit = end.1.limit; words = end.1.words; front = end.1.front; filled = end.1.filled; owner = end.1.owner }));
      listed = is.listed;
      number = is.number;
      numbers = is.numbers;
      one = is.one;
      none = is.none;
      few = is.few;
      fewer = is.fewer;
      lined = λ n few set-by. (let i : ℕ = first (blocks p) LineWords + n / 64 in
          ⊎_elim (λ (here : IsTrue (is_pair i set-by.0 (word, mask))). let both = pair-parts word mask i set-by.0 here in now-set n (sym both.0) (ap (λ k. bit_at k (n % 64)) both.1 ∙ set-by.1))
          (λ (before : 0 < hits i set-by.0 v.lined). is.lined n few (set-by.0, set-by.1, before)) (hits-from word mask v.lined i set-by.0 set-by.2));
    }

  pub mark-lines : (slots id : ℕ) (me : SeatShare) (x t word mask : ℕ) → MayMark p me.0 x t word mask
      → Allows (KeepsTrace p) slots id me word (λ n. bit_or n mask) (λ n now. now ≡ (sets_lines x word mask me.0, me.1))
  mark-lines slots id me x t word mask may s h _ at _ = (
    sets_lines x word mask me.0,
    keeps,
    tt,
    event-made p s h id me.0 at word (bit_or (slice_index s.words word) mask) me.1 (sets_lines x word mask me.0) (MarkLines x word mask) (pooled s.views) refl
        (may-mark s h id me.0 at x t word mask may) refl (ap (λ n. bit_or n mask) (word-is p s h id me.0 at word))
        (record { won = h.holds.won; grey = h.holds.grey; copied = h.holds.copied; unset = h.holds.unset; set = h.holds.set; asked = h.holds.asked; known = h.holds.known; blocks = h.holds.blocks })
        (like-itself (pooled s.views) (view_of me.0)) (record { parts = refl; token = refl; gave = refl; took = refl; worker = refl; numbers = refl }) (share-lined s h id me.0 at x t word mask may)
        (rooms-after p s h id me.0 at (sets_lines x word mask me.0) (next p (machine_after p h.events) (MarkLines x word mask)) refl refl refl refl),
    refl,
  )
