-- A step keeps the rule: it is one event of the machine, or none.
use Rattle.std.proofs.Common.{◌≡◌, ◌≢◌, ℕ, ◌+◌, ◌*◌, ◌<◌, ◌≤◌, IsTrue, ◌⊎◌, ⊎_elim, ◌&&◌, nat_lt, nat_le, nat_eq, Bool, List, [], ◌∷◌, ◌++◌, set, slice_index, refl, sym, ap, ◌∙◌, subst, arith, Some}
use Rattle.std.specs.Prelude.{count_by}
use Rattle.std.proofs.lemmas.List.{set-get_or}
use mathlib.Core.Option.{some}
use lib.ListN.{get_elem?}
use Rattle.atomic_table.specs.Table.{keeps, stepped}
use Rattle.atomic_table.proofs.Lists.{at_set}
use Rattle.heap_layout.specs.Zones.{LineWords, bit_of}
use Rattle.object_model.specs.Times.{times, one_if}
use Rattle.trace_core.specs.Setups.{Setup, blocks}
use Rattle.trace_core.specs.Machine.{Machine, target, Event, ClaimCause, ByRoot, ByGlobal, ByField, word_changed_by, stored, next, owner_after, taken_after}
use Rattle.trace_core.specs.Traces.{May, IsAskedBy, IsTracing, machine_after}
use Rattle.trace_core.specs.Views.{View, Holds, hits}
use Rattle.trace_core.proofs.AppendedEvents.{machine-next, trace-next}
use Rattle.trace_core.proofs.CountedRights.{count-append}
use Rattle.trace_core.proofs.BlocksLeft.{filled-more}
use Rattle.trace_core.proofs.LineBits.{line-stays}
use Rattle.trace_core.proofs.TakenStay.{taken-stays, owners-stay}
use Rattle.trace_words.specs.declared.event.TraceEvent.{TraceEvent}
use Rattle.trace_words.specs.declared.share.Share.{Share}
use Rattle.trace_words.specs.Shares.{SameCounts, view_of, with_view, pooled, total, listed, makes}
use Rattle.trace_words.specs.Rule.{TraceState, KeepsTrace, IsShareOf, IsEndOf, rooms_at, free_at, times_listed, times_made, has_number}
use Rattle.trace_words.specs.Steps.{AsksFor}
use Rattle.trace_words.proofs.Pooled.{total-set, Alike, holds-same, pool-like, like-itself, has-known}

-- From m to m' words of targets stay theirs, taken blocks stay taken, and line bits stay set.
pub record Grows (p : Setup) (m m' : Machine) : Type 0 where
  pub owners : (a y : ℕ) → m.owner a ≡ Some y → m'.owner a ≡ Some y
  pub taken : (b : ℕ) → 0 < m.taken b → m'.taken b ≡ m.taken b
  pub lines : (n : ℕ) → n < 256 * blocks p → IsTrue (bit_of (blocks p) LineWords m.words n) → IsTrue (bit_of (blocks p) LineWords m'.words n)

pub grows-not : (p : Setup) (m : Machine) → Grows p m m
grows-not p m = record { owners = λ a y own. own; taken = λ b some. refl; lines = λ n few set-now. set-now }

pub grows-next : (p : Setup) (es : List Event) → IsTracing p es → (e : Event) → May p (machine_after p es) e → Grows p (machine_after p es) (next p (machine_after p es) e)
grows-next p es trace e may = let m : Machine = machine_after p es in record {
  owners = owners-stay p m e may;
  taken = taken-stays p m e may;
  lines = λ n few set-now. subst (λ (k : Machine). IsTrue (bit_of (blocks p) LineWords k.words n)) (machine-next p es trace e) (line-stays p es (e ∷ []) (trace-next p es trace e may) n few set-now);
}

-- what is so of a share stays so while others step
module _ (p : Setup) (m m' : Machine) (grows : Grows p m m') (s : Share) (is : IsShareOf p m s) where
  end-stays : (b : ℕ) → IsEndOf p m s b → IsEndOf p m' s b
  end-stays b end = record { from = end.from; limit = end.limit; words = end.words; front = end.front; filled = filled-more p m m' grows.owners b end.words end.filled; owner = end.owner }

  pub share-stays : IsShareOf p m' s
  share-stays = record {
    token = is.token;
    busy = λ b seen free. (let was = is.busy b seen free in let same = grows.taken b was in omega arith);
    lined = λ n few set-by. grows.lines n few (is.lined n few set-by);
    owned = λ b k has. (let was = is.owned b k has in (was.0, grows.taken b (subst (λ n. 0 < n) (sym was.1) was.0) ∙ was.1));
    full = λ b left. filled-more p m m' grows.owners b 2049 (is.full b left);
    owner = is.owner;
    room = λ some. (let end = is.room some in (end.0, end-stays end.0 end.1));
    listed = is.listed;
    number = is.number;
    numbers = is.numbers;
    one = is.one;
    none = is.none;
    few = is.few;
    fewer = is.fewer;
  }

-- A share with other lists of its view and other events is so too, where the lists of blocks are the same.
pub share-with : (p : Setup) (m : Machine) (s : Share) (v : View) (es : List TraceEvent) → 0 < s.parts → v.blocks ≡ s.blocks → v.sparse ≡ s.sparse → IsShareOf p m s → IsShareOf p m (record (with_view s v) { made = es })
share-with p m s v es live blocks sparse is = record {
  token = λ none. absurd (omega arith);
  busy = is.busy;
  lined = λ n few set-by. is.lined n few set-by;
  owned = is.owned;
  owner = λ b took. is.owner b (subst (λ l. 0 < times b l) blocks took);
  full = is.full;
  room = λ some. (let end = is.room some in (end.0, record { from = end.1.from; limit = end.1.limit; words = end.1.words; front = end.1.front; filled = end.1.filled; owner = end.1.owner }));
  number = is.number;
  numbers = is.numbers;
  one = is.one;
  none = is.none;
  few = is.few;
  fewer = is.fewer;
  listed = λ b took. subst (λ l. (0 < times b s.filling) ⊎ ((0 < times b s.last) ⊎ ((0 < times b s.full) ⊎ (0 < times b l)))) (sym sparse) (is.listed b (subst (λ l. 0 < times b l) blocks took));
}

pub same-counts : (s : Share) (v : View) (es : List TraceEvent) → SameCounts s (record (with_view s v) { made = es })
same-counts s v es = record { parts = refl; token = refl; gave = refl; took = refl; worker = refl; numbers = refl }

-- how often a share has a number
pub number-as : (k : ℕ) (v w : Share) → SameCounts v w → has_number k w ≡ has_number k v
number-as k v w same = ap (λ l. times k l + one_if (nat_eq k w.worker)) same.numbers ∙ ap (λ n. times k v.numbers + one_if (nat_eq k n)) same.worker

-- the same room
pub rooms-as : (a : ℕ) (v w : Share) → w.front ≡ v.front → w.limit ≡ v.limit → rooms_at a w ≡ rooms_at a v
rooms-as a v w front limit = ap (λ n. one_if (nat_le n a && nat_lt a w.limit)) front ∙ ap (λ n. one_if (nat_le v.front a && nat_lt a n)) limit

module _ (p : Setup) (s : TraceState) (h : KeepsTrace p s) (id : ℕ) (v : Share) (at : get_elem? s.views id ≡ some v) where
  abbrev pub was : Machine
  was = machine_after p h.events

  pub word-is : (i : ℕ) → slice_index s.words i ≡ slice_index was.words i
  word-is i = ap (λ ws. slice_index ws i) h.words

  -- what the share knows is so
  pub known-is : (x t : ℕ) → 0 < hits x t v.known → target (was.stage x) ≡ Some t
  known-is x t has = h.holds.known x t (has-known s.views id v at x t has)

  pub asked-by : (x : ℕ) (cause : ClaimCause) → AsksFor p v x cause → IsAskedBy p was x cause
  asked-by x ByRoot asks = tt
  asked-by x (ByGlobal g) asks = asks
  asked-by x (ByField y i) asks = (asks.0, asks.1, (asks.2.0, known-is y asks.2.0 asks.2.1))

  -- the share becomes w, and each other share is as it was
  shares-after : (m : Machine) (w : Share) → Grows p was m → IsShareOf p m w → (j : ℕ) (u : Share) → get_elem? (set s.views id w) j ≡ some u → IsShareOf p m u
  shares-after m w grows own j u is = ⊎_elim (λ (o : (j ≡ id) × (w ≡ u)). subst (IsShareOf p m) o.1 own)
      (λ (o : (j ≢ id) × (get_elem? s.views j ≡ some u)). share-stays p was m grows u (h.shares j u o.1)) (at_set s.views id j w u is)

  parts-after : (w : Share) → SameCounts v w → total (λ u. u.parts) (set s.views id w) ≡ p.workers + 1
  parts-after w same = let a = total-set (λ u. u.parts) s.views id v w at in let b = same.parts in let c = h.parts in omega arith

  tokens-after : (w : Share) → SameCounts v w → total (λ u. u.gave) (set s.views id w) ≡ total (λ u. u.took) (set s.views id w) + total (λ u. u.token) (set s.views id w)
  tokens-after w same = let a = total-set (λ u. u.gave) s.views id v w at in let b = total-set (λ u. u.took) s.views id v w at in let c = total-set (λ u. u.token) s.views id v w at in
      let d = same.gave in let e = same.took in let f = same.token in let g = h.tokens in omega arith

  numbers-after : (w : Share) → SameCounts v w → (k : ℕ) → 0 < k → total (has_number k) (set s.views id w) ≤ 1
  numbers-after w same k some-number = let a = total-set (has_number k) s.views id v w at in let b = number-as k v w same in let c = h.numbers k some-number in omega arith

  -- the share lists one event more, or none
  made-after : (w : Share) (e : Event) → w.made ≡ listed e ∷ v.made → (test : TraceEvent → Bool) → times_listed test (h.events ++ e ∷ []) ≡ total (times_made test) (set s.views id w)
  made-after w e made test =
      let a = total-set (times_made test) s.views id v w at in let b : times_made test w ≡ count_by test (listed e ∷ v.made) = ap (count_by test) made in let c = h.made test in
      let d = count-append (λ (f : Event). test (listed f)) h.events (e ∷ []) in let f = count-append test (listed e ∷ []) v.made in
      let g : count_by (λ (f : Event). test (listed f)) (e ∷ []) ≡ count_by test (listed e ∷ []) = refl in omega arith

  made-still : (w : Share) → w.made ≡ v.made → (test : TraceEvent → Bool) → times_listed test h.events ≡ total (times_made test) (set s.views id w)
  made-still w still test = let a = total-set (times_made test) s.views id v w at in let b : times_made test w ≡ times_made test v = ap (count_by test) still in let c = h.made test in omega arith

  pub rooms-after : (w : Share) (m : Machine) → w.front ≡ v.front → w.limit ≡ v.limit → m.owner ≡ was.owner → m.taken ≡ was.taken
      → (a : ℕ) → total (rooms_at a) (set s.views id w) ≤ free_at p m.owner m.taken a
  rooms-after w m front limit owner taken a =
      let c = total-set (rooms_at a) s.views id v w at in let d = rooms-as a v w front limit in let e = h.rooms a in
      let due : free_at p m.owner m.taken a ≡ free_at p was.owner was.taken a = ap (λ f. free_at p f m.taken a) owner ∙ ap (λ f. free_at p was.owner f a) taken in omega arith

  -- a step that is one event, after which the seat has any share
  pub event-made : (i n : ℕ) (cs : List (ℕ × Unit {0})) (w : Share) (e : Event) (W : View) → w.made ≡ listed e ∷ v.made → May p was e → word_changed_by p was e ≡ i
      → n ≡ stored p was e (slice_index was.words i) → Holds p (next p was e) W → Alike (pooled s.views) W (view_of v) (view_of w) → SameCounts v w → IsShareOf p (next p was e) w
      → ((a : ℕ) → total (rooms_at a) (set s.views id w) ≤ free_at p (next p was e).owner (next p was e).taken a) → KeepsTrace p (stepped s i n id cs w keeps)
  event-made i n cs w e W made may here stores holds like same own rooms =
      let now : machine_after p (h.events ++ e ∷ []) ≡ next p was e = machine-next p h.events h.trace e in record {
        events = h.events ++ e ∷ [];
        trace = trace-next p h.events h.trace e may;
        words = ap (λ ws. set ws i n) h.words ∙ ap (set was.words i) stores
            ∙ ap (λ j. set was.words j (stored p was e (slice_index was.words j))) (sym here) ∙ sym (ap (λ (k : Machine). k.words) now);
        made = made-after w e made;
        numbers = numbers-after w same;
        holds = subst (λ k. Holds p k (pooled (set s.views id w))) (sym now) (holds-same p (next p was e) W (pooled (set s.views id w)) holds (pool-like s.views id v at w W like));
        parts = parts-after w same;
        tokens = tokens-after w same;
        shares = subst (λ (k : Machine). (j : ℕ) (u : Share) → get_elem? (set s.views id w) j ≡ some u → IsShareOf p k u) (sym now) (shares-after (next p was e) w (grows-next p h.events h.trace e may) own);
        rooms = λ a. subst (λ (k : Machine). total (rooms_at a) (set s.views id w) ≤ free_at p k.owner k.taken a) (sym now) (rooms a);
      }

  -- a step that is one event which gives no word to an object and takes no block, and changes lists of the view alone
  pub event-only : (i n : ℕ) (cs : List (ℕ × Unit {0})) (V : View) (e : Event) (W : View) → 0 < v.parts → V.blocks ≡ v.blocks → V.sparse ≡ v.sparse → May p was e
      → word_changed_by p was e ≡ i → n ≡ stored p was e (slice_index was.words i) → Holds p (next p was e) W → Alike (pooled s.views) W (view_of v) V
      → owner_after p was e ≡ was.owner → taken_after was e ≡ was.taken → KeepsTrace p (stepped s i n id cs (makes e V v) keeps)
  event-only i n cs V e W live blocks sparse may here stores holds like owner taken =
      event-made i n cs (makes e V v) e W refl may here stores holds like (same-counts v V (listed e ∷ v.made))
      (share-with p (next p was e) v V (listed e ∷ v.made) live blocks sparse (share-stays p was (next p was e) (grows-next p h.events h.trace e may) v (h.shares id v at)))
      (rooms-after (makes e V v) (next p was e) refl refl owner taken)

  -- a step that is no event
  pub nothing-made : (i n : ℕ) (cs : List (ℕ × Unit {0})) (w : Share) (W : View) → n ≡ slice_index s.words i → Holds p was W → Alike (pooled s.views) W (view_of v) (view_of w)
      → SameCounts v w → w.made ≡ v.made → w.front ≡ v.front → w.limit ≡ v.limit → IsShareOf p was w → KeepsTrace p (stepped s i n id cs w keeps)
  nothing-made i n cs w W still holds like same made front limit own = record {
    events = h.events;
    trace = h.trace;
    words = ap (set s.words i) still ∙ set-get_or s.words i 0 ∙ h.words;
    made = made-still w made;
    numbers = numbers-after w same;
    holds = holds-same p was W (pooled (set s.views id w)) holds (pool-like s.views id v at w W like);
    parts = parts-after w same;
    tokens = tokens-after w same;
    shares = shares-after was w (grows-not p was) own;
    rooms = rooms-after w was front limit refl refl;
  }

  -- a load, after which the share is as it was
  pub nothing-seen : (i n : ℕ) (cs : List (ℕ × Unit {0})) → n ≡ slice_index s.words i → KeepsTrace p (stepped s i n id cs v keeps)
  nothing-seen i n cs still = nothing-made i n cs v (pooled s.views) still h.holds (like-itself (pooled s.views) (view_of v))
      (same-counts v (view_of v) v.made) refl refl refl (h.shares id v at)
