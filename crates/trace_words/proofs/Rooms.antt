-- Room to copy into: claims of objects that move, and blocks that are taken.
use Rattle.std.proofs.Common.{◌≡◌, ◌≢◌, ℕ, ◌+◌, ◌-◌, ◌/◌, ◌%◌, ◌<◌, ◌≤◌, ◌⊎◌, inl, inr, ⊎_elim, Bool, true, false, true≢false, ◌&&◌, not, IsTrue, nat_eq, nat_le, nat_lt, List, [], ◌∷◌, ◌++◌, set, slice_index, refl, sym, ap, ◌∙◌, subst, arith, Option, Some, None}
use Rattle.std.specs.Prelude.{◌==◌, is_some}
use Rattle.std.proofs.lemmas.Bool.{cases_eq, cases_lt, cond-false, eq-eqb, ne_eqb, lt-ltb, le-ltb, le-leb, lt-leb, ltb-true, eqb-true, and_from, and_parts, and_left, and_right, not-true, not_from_false}
use mathlib.Core.Option.{some}
use lib.ListN.{get_elem?}
use prog.Atomic.{either}
use Rattle.atomic_table.specs.Table.{Act, keeps, stepped, Allows, Valid, carried_after}
use Rattle.atomic_table.proofs.Lists.{exchanged}
use Rattle.forward_word.specs.CollectorWords.{collector_word, target_in}
use Rattle.heap_layout.specs.Zones.{IsAddress, block_at, offset_at, block_start, BlockWords, first}
use Rattle.heap_layout.specs.declared.block.Kind.TheVariants as kinds
use Rattle.heap_layout.specs.Blocks.{is_block_code, is_valid_for_some, kind_of_code}
use Rattle.object_model.specs.Objects.{IsHeld, HasKind, block_word, IsInExtentOf}
use Rattle.object_model.specs.Times.{times, one_if}
use Rattle.trace_core.specs.Setups.{Setup, blocks, collection, size}
use Rattle.trace_core.specs.Machine.{Machine, ClaimCause, Claim, TakeBlock, next, put, put_all, taken_word}
use Rattle.trace_core.specs.Traces.{May, machine_after, heap_after, target_of}
use Rattle.trace_core.specs.Rooms.{IsFilled}
use Rattle.trace_core.specs.Views.{View, claimed_view, taken_view, hits, is_pair}
use Rattle.trace_core.proofs.ClaimRights.{unclaimed-stage, holds-claimed}
use Rattle.trace_core.proofs.Clauses.{untaken-word}
use Rattle.trace_core.proofs.CountedRights.{times-cons, count-append, hits-here, hits-more, hits-from, pair-parts}
use Rattle.trace_core.proofs.Idle.{one-if-from, one-if-true}
use Rattle.trace_core.proofs.Law.{sound}
use Rattle.trace_core.proofs.Puts.{put_here, put_else, all_here, all_else}
use Rattle.trace_core.proofs.TakenBlocks.{free-was, unowned-block, holds-taken}
use Rattle.trace_words.specs.declared.share.Share.{Share}
use Rattle.trace_words.specs.Shares.{SameCounts, listed, view_of, pooled, total, learns, claims_moved, sees_busy, takes_after_full, takes_at_any_time}
use Rattle.trace_words.specs.Rule.{TraceState, SeatShare, KeepsTrace, IsShareOf, IsEndOf, rooms_at, free_at}
use Rattle.trace_words.specs.Steps.{MayClaim, FitsRoom, ClaimsMoved, ShowsBlock, TakesBlock, MayLeave}
use Rattle.trace_words.proofs.Pooled.{total-set, part-of, Alike, like-itself}
use Rattle.trace_words.proofs.RuleSteps.{grows-next, share-stays, word-is, asked-by, event-made, nothing-made, nothing-seen}
use Rattle.trace_words.proofs.ClaimSteps.{like-claimed, target-learnt, lost-number, lost-target, was-unclaimed}

pub one-most : (b : Bool) → one_if b ≤ 1
one-most true = omega arith
one-most false = omega arith

no-owner : (o : Option ℕ) → is_some o ≡ false → o ≡ None
no-owner None is = refl
no-owner (Some x) is = absurd (true≢false is)

room-in : (a : ℕ) (v : Share) → v.front ≤ a → a < v.limit → rooms_at a v ≡ 1
room-in a v from below = one-if-true (nat_le v.front a && nat_lt a v.limit) (and_from (nat_le v.front a) (nat_lt a v.limit) (le-leb v.front a from) (lt-ltb a v.limit below))

room-before : (a : ℕ) (v : Share) → a < v.front → rooms_at a v ≡ 0
room-before a v l = ap one_if (and_left (nat_le v.front a) (nat_lt a v.limit) (lt-leb v.front a l))

room-beyond : (a : ℕ) (v : Share) → v.limit ≤ a → rooms_at a v ≡ 0
room-beyond a v l = ap one_if (and_right (nat_le v.front a) (nat_lt a v.limit) (le-ltb a v.limit l))

-- a room without words
pub no-room : (a : ℕ) (v : Share) → v.limit ≡ 0 → rooms_at a v ≡ 0
no-room a v none = room-beyond a v (omega arith)

module _ (p : Setup) (s : TraceState) (h : KeepsTrace p s) (id : ℕ) (v : Share) (at : get_elem? s.views id ≡ some v) where
  abbrev m : Machine
  m = machine_after p h.events

  -- the room of a share lies in blocks that were taken, and nothing is copied there
  pub room-is : (a : ℕ) → v.front ≤ a → a < v.limit → (0 < m.taken (block_at (blocks p) a)) × (m.owner a ≡ None)
  room-is a from below =
      let one = room-in a v from below in let part = part-of (rooms_at a) s.views id v at in let due = h.rooms a in
      let right : IsTrue (nat_lt 0 (m.taken (block_at (blocks p) a)) && not (is_some (m.owner a))) = one-if-from _ (omega arith) in
      let both = and_parts (nat_lt 0 (m.taken (block_at (blocks p) a))) (not (is_some (m.owner a))) right in
      (ltb-true 0 (m.taken (block_at (blocks p) a)) both.0, no-owner (m.owner a) (not-true (is_some (m.owner a)) both.1))

  -- no object was held in its block as the trace began
  pub room-empty : (a : ℕ) → v.front ≤ a → a < v.limit → (x w : ℕ) → IsHeld p.before x → IsInExtentOf x (size p x) w → block_at (blocks p) w ≢ block_at (blocks p) a
  room-empty a from below x w held inside =
      let free = (sound p h.events h.trace).objects.free (block_at (blocks p) a) (room-is a from below).0 in
      (h.trace.ready.lawful.free (block_at (blocks p) a) free).empty x w held inside

  module _ (x : ℕ) (cause : ClaimCause) (old : ℕ) (may : MayClaim p v x cause old) (fits : FitsRoom p v x) where
    abbrev t : ℕ
    t = v.front

    least : 3 ≤ size p x
    least = omega arith

    room-ends : v.front + size p x ≤ v.limit
    room-ends = fits.fits

    taken-there : 0 < m.taken (block_at (blocks p) t)
    taken-there = (room-is t (omega arith) (let f = room-ends in omega arith)).0

    block-there : block_at (blocks p) t < blocks p
    block-there = let free = (sound p h.events h.trace).objects.free (block_at (blocks p) t) taken-there in
        ltb-true (block_at (blocks p) t) (blocks p) (and_parts (nat_lt (block_at (blocks p) t) (blocks p)) (nat_eq (block_word p.before (block_at (blocks p) t) % 256) 0) free).0

    end : (b : ℕ) × IsEndOf p m v b
    end = (h.shares id v at).room (let f = room-ends in omega arith)

    address : IsAddress (blocks p) t
    address = let at-block = end.1.front in let b = block-there in record { from = omega arith; below = omega arith }

    within : offset_at (blocks p) t + size p x ≤ 4096
    within = let at-block = end.1.front in let limit = end.1.limit in let f = room-ends in omega arith

    differs : t ≢ x
    differs e = let free = (sound p h.events h.trace).objects.free (block_at (blocks p) x) (subst (λ a. 0 < m.taken (block_at (blocks p) a)) e taken-there) in
        (h.trace.ready.lawful.free (block_at (blocks p) x) free).empty x x may.held (record { from = omega arith; below = omega arith }) refl

    may-move : target_of p h.events x ≡ None → May p m (Claim x t cause)
    may-move free = (
      may.held.start,
      unclaimed-stage (m.stage x) free,
      asked-by p s h id v at x cause may.asks,
      inr (record {
        room = record { moves = fits.moves; address = address; block = taken-there; within = within };
        unowned = λ i inside. (room-is i inside.from (let b : i < t + size p x = inside.below in let f = room-ends in omega arith)).1;
      }),
    )

    abbrev after : Machine
    after = next p m (Claim x t cause)

    abbrev w : Share
    w = claims_moved p x cause v

    owner-is : after.owner ≡ put_all m.owner t (size p x) (Some x)
    owner-is = cond-false (nat_eq t x) m.owner _ (ne_eqb t x differs)

    free-else : (a : ℕ) → (a < t) ⊎ (t + size p x ≤ a) → free_at p after.owner after.taken a ≡ free_at p m.owner m.taken a
    free-else a outside = ap (λ o. one_if (nat_lt 0 (m.taken (block_at (blocks p) a)) && not (is_some o))) (ap (λ f. f a) owner-is ∙ all_else m.owner t (Some x) (size p x) a outside)

    rooms-after : (a : ℕ) → total (rooms_at a) (set s.views id w) ≤ free_at p after.owner after.taken a
    rooms-after a =
        let sum = total-set (rooms_at a) s.views id v w at in let due = h.rooms a in let f = room-ends in
        elim (cases_lt a t) as (λ _. total (rooms_at a) (set s.views id w) ≤ free_at p after.owner after.taken a) [
          | inl before ↦ (let zero : rooms_at a v ≡ 0 = room-before a v before in let none : rooms_at a w ≡ 0 = room-before a w (omega arith) in let same = free-else a (inl before) in omega arith)
          | inr from ↦ elim (cases_lt a (t + size p x)) as (λ _. total (rooms_at a) (set s.views id w) ≤ free_at p after.owner after.taken a) [
            | inl inside ↦ (let one : rooms_at a v ≡ 1 = room-in a v from (omega arith) in let none : rooms_at a w ≡ 0 = room-before a w inside in
                let most = one-most (nat_lt 0 (m.taken (block_at (blocks p) a)) && not (is_some (m.owner a))) in omega arith)
            | inr beyond ↦ (let same = free-else a (inr beyond) in elim (cases_lt a v.limit) as (λ _. total (rooms_at a) (set s.views id w) ≤ free_at p after.owner after.taken a) [
              | inl below ↦ (let one : rooms_at a v ≡ 1 = room-in a v from below in let two : rooms_at a w ≡ 1 = room-in a w beyond below in omega arith)
              | inr past ↦ (let one : rooms_at a v ≡ 0 = room-beyond a v past in let two : rooms_at a w ≡ 0 = room-beyond a w past in omega arith)
            ])
          ]
        ]

    -- the block is filled up to the new front
    filled-after : (b words : ℕ) → t ≡ block_start (blocks p) b + words → IsFilled p m b words → IsFilled p after b (words + size p x)
    filled-after b words front filled o l = subst (λ (f : ℕ → Option ℕ). IsTrue (is_some (f (block_start (blocks p) b + o)))) (sym owner-is)
        (elim (cases_lt o words) as (λ _. IsTrue (is_some (put_all m.owner t (size p x) (Some x) (block_start (blocks p) b + o)))) [
          | inl low ↦ subst (λ z. IsTrue (is_some z)) (sym (all_else m.owner t (Some x) (size p x) (block_start (blocks p) b + o) (inl (omega arith)))) (filled o low)
          | inr from ↦ subst (λ z. IsTrue (is_some z)) (sym (all_here m.owner t (Some x) (size p x) (block_start (blocks p) b + o) (omega arith) (omega arith))) refl
        ])

    share-after : target_of p h.events x ≡ None → IsShareOf p after w
    share-after free = let is = share-stays p m after (grows-next p h.events h.trace (Claim x t cause) (may-move free)) v (h.shares id v at) in let live = may.live in record {
      token = λ none. absurd (omega arith);
      busy = is.busy;
      lined = λ n few set-by. is.lined n few set-by;
      owned = is.owned;
      owner = is.owner;
      full = is.full;
      room = λ some-word. (
        end.0,
        record {
          from = (let e = end.1.from in omega arith);
          limit = end.1.limit;
          words = end.1.words + size p x;
          front = (let e = end.1.front in omega arith);
          filled = filled-after end.0 end.1.words end.1.front end.1.filled;
          owner = end.1.owner;
        },
      );
      listed = is.listed;
      number = is.number;
      numbers = is.numbers;
      one = is.one;
      none = is.none;
      few = is.few;
      fewer = is.fewer;
    }

-- the word of a Free block is 0
free-zero : (w : ℕ) → IsTrue (is_block_code w) → w % 256 ≡ 0 → w ≡ 0
free-zero w code zero-kind =
    let valid : IsTrue (nat_eq (w / 256 % 256) 0 && nat_eq (w / 65536) 0) = subst (λ k. IsTrue (is_valid_for_some (kind_of_code k) (w / 256 % 256) (w / 65536))) zero-kind code in
    let both = and_parts (nat_eq (w / 256 % 256) 0) (nat_eq (w / 65536) 0) valid in
    let class : w / 256 % 256 ≡ 0 = eqb-true (w / 256 % 256) 0 both.0 in let owner : w / 65536 ≡ 0 = eqb-true (w / 65536) 0 both.1 in omega arith

like-taken : (b : ℕ) (V v : View) → Alike V (taken_view b V) v (taken_view b v)
like-taken b V v = record {
  won = λ y j. refl;
  grey = λ y j. refl;
  copied = λ y. refl;
  unset = λ y. refl;
  set = λ y. refl;
  asked = λ y. refl;
  known = λ y u. refl;
  blocks = λ y. (let c = times-cons b V.blocks y in let d = times-cons b v.blocks y in omega arith);
}

like-left : (b : ℕ) (V v : View) (sparse : List ℕ) → Alike V (taken_view b V) v (record (taken_view b v) { sparse = sparse })
like-left b V v sparse = record {
  won = λ y j. refl;
  grey = λ y j. refl;
  copied = λ y. refl;
  unset = λ y. refl;
  set = λ y. refl;
  asked = λ y. refl;
  known = λ y u. refl;
  blocks = λ y. (let c = times-cons b V.blocks y in let d = times-cons b v.blocks y in omega arith);
}

first-or-more : (c b : ℕ) (l : List ℕ) → 0 < times c (b ∷ l) → (c ≡ b) ⊎ (0 < times c l)
first-or-more c b l has = elim (cases_eq c b) as (λ _. (c ≡ b) ⊎ (0 < times c l)) [
  | inl e ↦ inl e
  | inr ne ↦ inr (let a = times-cons b l c in let zero : one_if (nat_eq c b) ≡ 0 = ap one_if (ne_eqb c b ne) in omega arith)
]

pub either-list : (c : ℕ) (k l : List ℕ) → 0 < times c (k ++ l) → (0 < times c k) ⊎ (0 < times c l)
either-list c k l has = elim (cases_lt 0 (times c k)) as (λ _. (0 < times c k) ⊎ (0 < times c l)) [
  | inl here ↦ inl here
  | inr none ↦ inr (let a = count-append (nat_eq c) k l in omega arith)
]

pub either-pair : (x y : ℕ) (k l : List (ℕ × ℕ)) → 0 < hits x y (k ++ l) → (0 < hits x y k) ⊎ (0 < hits x y l)
either-pair x y k l has = elim (cases_lt 0 (hits x y k)) as (λ _. (0 < hits x y k) ⊎ (0 < hits x y l)) [
  | inl here ↦ inl here
  | inr none ↦ inr (let a = count-append (is_pair x y) k l in omega arith)
]

pub first-pair : (x y : ℕ) (k l : List (ℕ × ℕ)) → 0 < hits x y k → 0 < hits x y (k ++ l)
first-pair x y k l has = let a = count-append (is_pair x y) k l in omega arith

pub second-pair : (x y : ℕ) (k l : List (ℕ × ℕ)) → 0 < hits x y l → 0 < hits x y (k ++ l)
second-pair x y k l has = let a = count-append (is_pair x y) k l in omega arith

pub in-first : (c : ℕ) (k l : List ℕ) → 0 < times c k → 0 < times c (k ++ l)
in-first c k l has = let a = count-append (nat_eq c) k l in omega arith

pub in-second : (c : ℕ) (k l : List ℕ) → 0 < times c l → 0 < times c (k ++ l)
in-second c k l has = let a = count-append (nat_eq c) k l in omega arith

module _ (p : Setup) (s : TraceState) (h : KeepsTrace p s) (id : ℕ) (v : Share) (at : get_elem? s.views id ≡ some v) (live : 0 < v.parts) (b : ℕ) where
  abbrev machine : Machine
  machine = machine_after p h.events

  -- a block whose word is not 0 was not Free, or is taken
  not-free : (n : ℕ) → b < blocks p → block_word (heap_after p h.events) b ≡ n → n ≢ 0 → HasKind p.before b kinds.Free → 0 < machine.taken b
  not-free n inside word some-word free = elim (cases_eq (machine.taken b) 0) as (λ _. 0 < machine.taken b) [
    | inl none ↦ absurd (some-word (sym word ∙ untaken-word p h.events h.trace b inside none
        ∙ free-zero (block_word p.before b) (h.trace.ready.lawful.blocks b inside).code (eqb-true (block_word p.before b % 256) 0 (and_parts (nat_lt b (blocks p)) (nat_eq (block_word p.before b % 256) 0) free).1)))
    | inr taken ↦ (let differs : machine.taken b ≢ 0 = taken in omega arith)
  ]

  -- a load, or an exchange that failed, after which the block is known not to be Free
  pub busy-seen : (i n : ℕ) (cs : List (ℕ × Unit {0})) → n ≡ slice_index s.words i → (HasKind p.before b kinds.Free → 0 < machine.taken b) → KeepsTrace p (stepped s i n id cs (sees_busy b v) keeps)
  busy-seen i n cs still is-busy = let is = h.shares id v at in nothing-made p s h id v at i n cs (sees_busy b v) (pooled s.views) still h.holds (like-itself (pooled s.views) (view_of v))
      (record { parts = refl; token = refl; gave = refl; took = refl; worker = refl; numbers = refl }) refl refl refl (record {
        token = λ none. absurd (omega arith);
        busy = λ c has free. ⊎_elim (λ (here : c ≡ b). subst (λ z. 0 < machine.taken z) (sym here) (is-busy (subst (λ z. HasKind p.before z kinds.Free) here free)))
            (λ (more : 0 < times c v.busy). is.busy c more free) (first-or-more c b v.busy has);
        lined = λ n few set-by. is.lined n few set-by;
        owned = is.owned;
        owner = is.owner;
        full = is.full;
        room = λ some-word. (let end = is.room some-word in (end.0, record { from = end.1.from; limit = end.1.limit; words = end.1.words; front = end.1.front; filled = end.1.filled; owner = end.1.owner }));
        listed = is.listed;
        number = is.number;
        numbers = is.numbers;
        one = is.one;
        none = is.none;
        few = is.few;
        fewer = is.fewer;
      })

  -- a Free block that is taken
  module _ (free : HasKind p.before b kinds.Free) (untaken : machine.taken b ≡ 0) (some-worker : 0 < v.worker) (copies : p.copy ≢ kinds.Free) where
    abbrev k : ℕ
    k = v.worker

    few : k ≤ p.workers
    few = (h.shares id v at).number

    may-take : May p machine (TakeBlock b k)
    may-take = (free, untaken, some-worker, few, copies)

    abbrev later : Machine
    later = next p machine (TakeBlock b k)

    taken-now : 0 < put machine.taken b k b
    taken-now = subst (λ n. 0 < n) (sym (put_here machine.taken b k)) some-worker

    rooms-taken : (w : Share) → w.front ≡ block_start (blocks p) b → w.limit ≡ block_start (blocks p) b + 4096 → (a : ℕ) → total (rooms_at a) (set s.views id w) ≤ free_at p later.owner later.taken a
    rooms-taken w front limit a =
        let sum = total-set (rooms_at a) s.views id v w at in let due = h.rooms a in
        elim (cases_eq (block_at (blocks p) a) b) as (λ _. total (rooms_at a) (set s.views id w) ≤ free_at p later.owner later.taken a) [
          | inl e ↦ (let none : free_at p machine.owner machine.taken a ≡ 0 = ap one_if (and_left (nat_lt 0 (machine.taken (block_at (blocks p) a))) (not (is_some (machine.owner a))) (le-ltb 0 (machine.taken (block_at (blocks p) a)) (let z = ap machine.taken e in omega arith))) in
              elim (cases_lt a w.front) as (λ _. total (rooms_at a) (set s.views id w) ≤ free_at p later.owner later.taken a) [
                | inl before ↦ (let zero : rooms_at a w ≡ 0 = room-before a w before in omega arith)
                | inr from ↦ elim (cases_lt a w.limit) as (λ _. total (rooms_at a) (set s.views id w) ≤ free_at p later.owner later.taken a) [
                  | inl below ↦ (let one : rooms_at a w ≡ 1 = room-in a w from below in
                      let offset : a ≡ block_start (blocks p) b + (a - block_start (blocks p) b) = omega arith in
                      let nobody : machine.owner a ≡ None = ap machine.owner offset ∙ unowned-block p h.events h.trace b (a - block_start (blocks p) b) untaken (omega arith) in
                      let now : free_at p later.owner later.taken a ≡ 1 = one-if-true _ (and_from (nat_lt 0 (put machine.taken b k (block_at (blocks p) a))) (not (is_some (machine.owner a)))
                      (lt-ltb 0 (put machine.taken b k (block_at (blocks p) a)) (subst (λ c. 0 < put machine.taken b k c) (sym e) taken-now))
                      (not_from_false (is_some (machine.owner a)) (ap is_some nobody))) in omega arith)
                  | inr past ↦ (let zero : rooms_at a w ≡ 0 = room-beyond a w past in omega arith)
                ]
              ])
          | inr ne ↦ (let same : free_at p later.owner later.taken a ≡ free_at p machine.owner machine.taken a = ap (λ n. one_if (nat_lt 0 n && not (is_some (machine.owner a)))) (put_else machine.taken b k (block_at (blocks p) a) ne) in
              elim (cases_lt a w.front) as (λ _. total (rooms_at a) (set s.views id w) ≤ free_at p later.owner later.taken a) [
                | inl before ↦ (let zero : rooms_at a w ≡ 0 = room-before a w before in omega arith)
                | inr from ↦ elim (cases_lt a w.limit) as (λ _. total (rooms_at a) (set s.views id w) ≤ free_at p later.owner later.taken a) [
                  | inl below ↦ absurd (ne (omega arith))
                  | inr past ↦ (let zero : rooms_at a w ≡ 0 = room-beyond a w past in omega arith)
                ]
              ])
        ]

    room-new : (w : Share) → w.front ≡ block_start (blocks p) b → w.limit ≡ block_start (blocks p) b + 4096 → 0 < hits b w.worker w.owned → 0 < w.limit → (c : ℕ) × IsEndOf p later w c
    room-new w front limit owner some-word = (b, record { from = (let f = front in omega arith); limit = limit; words = 0; front = (let f = front in omega arith); filled = λ o l. absurd (omega arith); owner = owner })

    was-so : IsShareOf p later v
    was-so = share-stays p machine later (grows-next p h.events h.trace (TakeBlock b k) may-take) v (h.shares id v at)

    now-full : MayLeave p v → (c : ℕ) → 0 < times c v.filling → IsFilled p later c 2049
    now-full leave c has =
        let leaves = leave c has in let limit : v.limit ≡ block_start (blocks p) c + 4096 = leaves.limit in
        let small : leaves.words ≤ 2048 = leaves.small in let tight : v.limit < v.front + leaves.words = leaves.tight in
        let end = was-so.room (omega arith) in let block : v.limit ≡ block_start (blocks p) end.0 + 4096 = end.1.limit in
        let front : v.front ≡ block_start (blocks p) end.0 + end.1.words = end.1.front in
        let same : end.0 ≡ c = omega arith in
        λ o l. subst (λ z. IsTrue (is_some (later.owner (block_start (blocks p) z + o)))) same (end.1.filled o (omega arith))

    -- the block has its owner, and so have those that the share took before
    owned-later : (c j : ℕ) → 0 < hits c j ((b, k) ∷ v.owned) → (0 < j) × (later.taken c ≡ j)
    owned-later c j has = ⊎_elim (λ (now : IsTrue (is_pair c j (b, k))). let both = pair-parts b k c j now in
        (subst (λ n. 0 < n) both.1 some-worker, ap (put machine.taken b k) (sym both.0) ∙ put_here machine.taken b k ∙ both.1))
        (λ (before : 0 < hits c j v.owned). was-so.owned c j before) (hits-from b k v.owned c j has)

    owner-later : (c : ℕ) → 0 < times c (b ∷ v.blocks) → (j : ℕ) × (0 < hits c j ((b, k) ∷ v.owned))
    owner-later c has = ⊎_elim (λ (now : c ≡ b). (k, subst (λ z. 0 < hits z k ((b, k) ∷ v.owned)) (sym now) (hits-here b k v.owned)))
        (λ (before : 0 < times c v.blocks). let was = was-so.owner c before in (was.0, hits-more b k v.owned c was.0 was.1)) (first-or-more c b v.blocks has)

    share-full : MayLeave p v → IsShareOf p later (takes_after_full p b v)
    share-full leave = let is = was-so in record {
      token = λ none. absurd (omega arith);
      busy = is.busy;
      lined = λ n few set-by. is.lined n few set-by;
      owned = owned-later;
      owner = owner-later;
      number = is.number;
      numbers = is.numbers;
      one = omega arith;
      none = λ nobody. absurd (let some-number = some-worker in omega arith);
      few = (let some-more = is.fewer live in omega arith);
      fewer = is.fewer;
      full = λ c has. ⊎_elim (λ (now : 0 < times c v.filling). now-full leave c now) (λ (before : 0 < times c v.full). is.full c before) (either-list c v.filling v.full has);
      room = λ some-word. room-new (takes_after_full p b v) refl refl (hits-here b k v.owned) some-word;
      listed = λ c has. ⊎_elim (λ (here : c ≡ b). inl (let one = times-cons b [] c in let same : one_if (nat_eq c b) ≡ 1 = one-if-true (nat_eq c b) (eq-eqb c b here) in omega arith))
          (λ (more : 0 < times c v.blocks). inr (⊎_elim (λ (f : 0 < times c v.filling). inr (inl (in-first c v.filling v.full f)))
          (λ (o : (0 < times c v.last) ⊎ ((0 < times c v.full) ⊎ (0 < times c v.sparse))). ⊎_elim (λ (f : 0 < times c v.last). inl f)
          (λ (q : (0 < times c v.full) ⊎ (0 < times c v.sparse)). inr (⊎_elim (λ (f : 0 < times c v.full). inl (in-second c v.filling v.full f)) (λ (f : 0 < times c v.sparse). inr f) q)) o) (is.listed c more)))
          (first-or-more c b v.blocks has);
    }

    share-sparse : IsShareOf p later (takes_at_any_time p b v)
    share-sparse = let is = was-so in record {
      token = λ none. absurd (omega arith);
      busy = is.busy;
      lined = λ n few set-by. is.lined n few set-by;
      owned = owned-later;
      owner = owner-later;
      number = is.number;
      numbers = is.numbers;
      one = omega arith;
      none = λ nobody. absurd (let some-number = some-worker in omega arith);
      few = (let some-more = is.fewer live in omega arith);
      fewer = is.fewer;
      full = is.full;
      room = λ some-word. room-new (takes_at_any_time p b v) refl refl (hits-here b k v.owned) some-word;
      listed = λ c has. ⊎_elim (λ (here : c ≡ b). inl (let one = times-cons b [] c in let same : one_if (nat_eq c b) ≡ 1 = one-if-true (nat_eq c b) (eq-eqb c b here) in omega arith))
          (λ (more : 0 < times c v.blocks). inr (⊎_elim (λ (f : 0 < times c v.filling). inr (inr (in-first c v.filling v.sparse f)))
          (λ (o : (0 < times c v.last) ⊎ ((0 < times c v.full) ⊎ (0 < times c v.sparse))). ⊎_elim (λ (f : 0 < times c v.last). inl f)
          (λ (q : (0 < times c v.full) ⊎ (0 < times c v.sparse)). inr (⊎_elim (λ (f : 0 < times c v.full). inl f) (λ (f : 0 < times c v.sparse). inr (in-second c v.filling v.sparse f)) q)) o) (is.listed c more)))
          (first-or-more c b v.blocks has);
    }

    -- the exchange that takes the block
    pub block-taken : (i : ℕ) (cs : List (ℕ × Unit {0})) (w : Share) → first (blocks p) BlockWords + b ≡ i → Alike (pooled s.views) (taken_view b (pooled s.views)) (view_of v) (view_of w)
        → w.made ≡ listed (TakeBlock b k) ∷ v.made → w.front ≡ block_start (blocks p) b → w.limit ≡ block_start (blocks p) b + 4096 → SameCounts v w → IsShareOf p later w → KeepsTrace p (stepped s i (taken_word p k) id cs w keeps)
    block-taken i cs w here like made front limit same own = event-made p s h id v at i (taken_word p k) cs w (TakeBlock b k) (taken_view b (pooled s.views)) made may-take here refl
        (holds-taken p machine (pooled s.views) h.holds b k untaken some-worker) like same own (rooms-taken w front limit)

module _ (p : Setup) where
  -- the exchange of a collector word claims an object that moves, or shows its target
  pub claim-moved : (slots id : ℕ) (me : SeatShare) (x : ℕ) (cause : ClaimCause) (old : ℕ) → MayClaim p me.0 x cause old → FitsRoom p me.0 x
      → Allows (KeepsTrace p) slots id me (x + 2) (λ n. either (n == old) (collector_word (collection p) me.0.front) n) (ClaimsMoved p x cause old me)
  claim-moved slots id me x cause old may fits s h _ at _ =
      let n : ℕ = slice_index s.words (x + 2) in let t : ℕ = me.0.front in
      exchanged n old (collector_word (collection p) t) (λ r. (w : Share) × (a : Act (Unit {0})) × Valid s.homes me.1 a × KeepsTrace p (stepped s (x + 2) r id me.1 w a) × ClaimsMoved p x cause old me n (w, carried_after me.1 a))
      (λ hit.
      let free : target_of p h.events x ≡ None = was-unclaimed p s h id me.0 at may.live x cause old may hit in (
        claims_moved p x cause me.0,
        keeps,
        tt,
        event-made p s h id me.0 at (x + 2) (collector_word (collection p) t) me.1 (claims_moved p x cause me.0) (Claim x t cause) (claimed_view p x t cause (pooled s.views)) refl
            (may-move p s h id me.0 at x cause old may fits free) refl refl
            (holds-claimed p (machine_after p h.events) (pooled s.views) h.holds x t cause (unclaimed-stage ((machine_after p h.events).stage x) free))
            (like-claimed p x t cause (pooled s.views) (view_of me.0)) (record { parts = refl; token = refl; gave = refl; took = refl; worker = refl; numbers = refl })
            (share-after p s h id me.0 at x cause old may fits free) (rooms-after p s h id me.0 at x cause old may fits),
        ((λ e. refl), λ ne. absurd (ne hit)),
      ))
      (λ miss. (
        learns x (target_in n) me.0,
        keeps,
        tt,
        target-learnt p s h id me.0 at may.live (x + 2) n me.1 x (target_in n) refl (lost-target p s h id me.0 at may.live x cause old may miss),
        ((λ e. absurd (miss e)), λ ne. (lost-number p s h id me.0 at may.live x cause old may miss, refl)),
      ))

  -- a load of a block word
  pub look-at-block : (slots id : ℕ) (me : SeatShare) (b : ℕ) → 0 < me.0.parts → b < blocks p → Allows (KeepsTrace p) slots id me (first (blocks p) BlockWords + b) (λ n. n) (ShowsBlock b me)
  look-at-block slots id me b live inside s h _ at _ =
      let i : ℕ = first (blocks p) BlockWords + b in let n : ℕ = slice_index s.words i in
      let word : block_word (heap_after p h.events) b ≡ n = sym (word-is p s h id me.0 at i) in
      elim (cases_eq n 0) as (λ _. (w : Share) × (a : Act (Unit {0})) × Valid s.homes me.1 a × KeepsTrace p (stepped s i n id me.1 w a) × ShowsBlock b me n (w, carried_after me.1 a)) [
        | inl zero ↦ (me.0, keeps, tt, nothing-seen p s h id me.0 at i n me.1 refl, ((λ e. refl), λ ne. absurd (ne zero)))
        | inr some-word ↦ (sees_busy b me.0, keeps, tt, busy-seen p s h id me.0 at live b i n me.1 refl (not-free p s h id me.0 at live b n inside word some-word), ((λ e. absurd (some-word e)), λ ne. refl))
      ]

  -- the exchange of a block word that is 0 takes the block
  module _ (slots id : ℕ) (me : SeatShare) (b : ℕ) (live : 0 < me.0.parts) (inside : b < blocks p) (some-worker : 0 < me.0.worker) (copies : p.copy ≢ kinds.Free) where
    abbrev number : ℕ
    number = me.0.worker

    module _ (taken : Share → Share) (like : (V : View) → Alike V (taken_view b V) (view_of me.0) (view_of (taken me.0)))
        (made : (taken me.0).made ≡ listed (TakeBlock b number) ∷ me.0.made) (front : (taken me.0).front ≡ block_start (blocks p) b) (limit : (taken me.0).limit ≡ block_start (blocks p) b + 4096) (same : SameCounts me.0 (taken me.0))
        (own : (s : TraceState) (h : KeepsTrace p s) → get_elem? s.views id ≡ some me.0 → HasKind p.before b kinds.Free → (machine_after p h.events).taken b ≡ 0
        → IsShareOf p (next p (machine_after p h.events) (TakeBlock b number)) (taken me.0)) where
      take-by : Allows (KeepsTrace p) slots id me (first (blocks p) BlockWords + b) (λ n. either (n == 0) (taken_word p number) n) (TakesBlock b taken me)
      take-by s h _ at _ =
          let i : ℕ = first (blocks p) BlockWords + b in let n : ℕ = slice_index s.words i in
          let word : block_word (heap_after p h.events) b ≡ n = sym (word-is p s h id me.0 at i) in
          exchanged n 0 (taken_word p number) (λ r. (w : Share) × (a : Act (Unit {0})) × Valid s.homes me.1 a × KeepsTrace p (stepped s i r id me.1 w a) × TakesBlock b taken me n (w, carried_after me.1 a))
          (λ hit.
          let free-now : HasKind (heap_after p h.events) b kinds.Free = and_from (nat_lt b (blocks p)) (nat_eq (block_word (heap_after p h.events) b % 256) 0) (lt-ltb b (blocks p) inside)
          (eq-eqb (block_word (heap_after p h.events) b % 256) 0 (let z : block_word (heap_after p h.events) b ≡ 0 = word ∙ hit in omega arith)) in
          let was = free-was p h.events h.trace b free-now in
          (taken me.0, keeps, tt, block-taken p s h id me.0 at live b was.0 was.1 some-worker copies i me.1 (taken me.0) refl (like (pooled s.views)) made front limit same (own s h at was.0 was.1), ((λ e. refl), λ ne. absurd (ne hit))))
          (λ miss. (sees_busy b me.0, keeps, tt, busy-seen p s h id me.0 at live b i n me.1 refl (not-free p s h id me.0 at live b n inside word miss), ((λ e. absurd (miss e)), λ ne. refl)))

    pub take-after-full : MayLeave p me.0 → Allows (KeepsTrace p) slots id me (first (blocks p) BlockWords + b) (λ n. either (n == 0) (taken_word p number) n) (TakesBlock b (takes_after_full p b) me)
    take-after-full leave = take-by (takes_after_full p b) (λ V. like-taken b V (view_of me.0)) refl refl refl (record { parts = refl; token = refl; gave = refl; took = refl; worker = refl; numbers = refl })
        (λ s h at free untaken. share-full p s h id me.0 at live b free untaken some-worker copies leave)

    pub take-at-any-time : Allows (KeepsTrace p) slots id me (first (blocks p) BlockWords + b) (λ n. either (n == 0) (taken_word p number) n) (TakesBlock b (takes_at_any_time p b) me)
    take-at-any-time = take-by (takes_at_any_time p b) (λ V. like-left b V (view_of me.0) (me.0.filling ++ me.0.sparse)) refl refl refl (record { parts = refl; token = refl; gave = refl; took = refl; worker = refl; numbers = refl })
        (λ s h at free untaken. share-sparse p s h id me.0 at live b free untaken some-worker copies)
