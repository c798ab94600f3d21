-- What steps do to the share of a worker's seat.
use Rattle.std.proofs.Common.{◌≡◌, ℕ, false, IsTrue, true≢false, ◌&&◌, ◌+◌, ◌<◌, ◌≤◌, inl, inr, nat_eq, [], ◌∷◌, refl, sym, ap, ◌∙◌, subst, arith}
use Rattle.std.proofs.lemmas.Bool.{cases_eq, cases_Bool, and_parts, cond-true, eq-eqb, ne_eqb}
use Rattle.heap_layout.specs.Zones.{block_start}
use Rattle.object_model.specs.Times.{times, one_if}
use Rattle.forward_word.specs.CollectorWords.{is_old_word}
use Rattle.object_model.specs.Ages as ages
use Rattle.object_model.specs.Objects.{word_at}
use Rattle.trace_core.specs.Outcomes.{base_after_trace}
use Rattle.trace_core.specs.Setups.{Setup, blocks, collection, held, size, stays_old, may_be_moved}
use Rattle.trace_core.specs.Machine.{ClaimCause, ByRoot, ByGlobal, ByField}
use Rattle.trace_core.specs.Views.{hits, steps_at_claim, asked_roots}
use Rattle.trace_core.proofs.CountedRights.{count-cons, hits-here, hits-more, times-cons}
use Rattle.trace_core.proofs.Idle.{one-if-true}
use Rattle.std.specs.Prelude.{List, count_by}
use Rattle.trace_words.specs.declared.event.TraceEvent.{TraceEvent}
use Rattle.trace_words.specs.declared.event.TraceEvent.TheVariants as events
use Rattle.trace_words.specs.declared.share.Share.{Share}
use Rattle.trace_words.specs.Rule.{SeatShare}
use Rattle.trace_words.specs.Shares.{learns, listed_cause, sees_busy, claims_here, claims_moved, asks_for, takes_after_full}
use Rattle.trace_words.specs.Steps.{MayClaim, LacksRoom, FitsRoom, AsksFor, IsDone}
use Rattle.trace_table.specs.declared.table.TraceTable.{TraceTable}
use Rattle.trace_table.specs.declared.table.WorkerSeat.{WorkerSeat}
use Rattle.trace_table.specs.declared.tokens.Claim.{Claim}
use Rattle.trace_table.specs.declared.tokens.Claim.TheVariants as claims
use Rattle.trace_table.specs.declared.tokens.Won.{Won}
use Rattle.trace_table.specs.Seats.{IsSeat, setup_at, Keeps, Looks, MarksOnly, SameRoom, SameBlock, TakesBlockIfNeeded, is_line_mark, Asks, Wins, IsShapeOf, ClaimsFor}

-- the share of a seat that became this
pub share-is : (a b : SeatShare) → a ≡ b → a.0 ≡ b.0
share-is a b is = ap (λ (m : SeatShare). m.0) is

pub same-room : (v u w : Share) → w ≡ u → SameRoom v u → SameRoom v w
same-room v u w is room = subst (SameRoom v) (sym is) room

-- a seat with the same room is one of the table
pub seat-on : (t : TraceTable) (s s' : WorkerSeat) → IsSeat t s → s'.seat.table_id ≡ s.seat.table_id → s'.worker ≡ s.worker → s'.front ≡ s.front → s'.limit ≡ s.limit
    → SameRoom s.seat.me.0 s'.seat.me.0 → ((c : ℕ) → c < s'.next_block → 0 < times c s'.seat.me.0.busy) → s'.next_block ≤ blocks (setup_at t) → IsSeat t s'
seat-on t s s' is table worker front limit room seen next = record {
  table = table ∙ is.table;
  live = (let a = room.parts in let b = is.live in omega arith);
  worker = worker ∙ is.worker ∙ sym room.worker;
  some = (let a = worker in let b = is.some in omega arith);
  few = (let a = worker in let b = is.few in omega arith);
  front = front ∙ is.front ∙ sym room.front;
  limit = limit ∙ is.limit ∙ sym room.limit;
  order = (let a = front in let b = limit in let c = is.order in omega arith);
  from = λ below. (let a = front in let b = limit in let c = is.from (omega arith) in omega arith);
  within = (let b = limit in let c = is.within in omega arith);
  filling = λ c has. limit ∙ is.filling c (subst (λ l. 0 < times c l) room.filling has);
  seen = seen;
  next = next;
}

pub only-one : (b k : ℕ) → 0 < times k (b ∷ []) → b ≡ k
only-one b k has = elim (cases_eq k b) as (λ _. b ≡ k) [
  | inl e ↦ sym e
  | inr ne ↦ absurd (let a = times-cons b [] k in let zero-times : one_if (nat_eq k b) ≡ 0 = ap one_if (ne_eqb k b ne) in omega arith)
]

-- a seat that took block b
pub seat-taken : (t : TraceTable) (s s' : WorkerSeat) (b : ℕ) → b < blocks (setup_at t) → IsSeat t s → s'.seat.table_id ≡ s.seat.table_id → s'.worker ≡ s.worker → s'.next_block ≡ s.next_block
    → s'.front ≡ block_start (blocks (setup_at t)) b → s'.limit ≡ block_start (blocks (setup_at t)) b + 4096 → s'.seat.me.0.parts ≡ s.seat.me.0.parts → s'.seat.me.0.worker ≡ s.seat.me.0.worker
    → s'.seat.me.0.front ≡ block_start (blocks (setup_at t)) b → s'.seat.me.0.limit ≡ block_start (blocks (setup_at t)) b + 4096 → s'.seat.me.0.filling ≡ b ∷ [] → s'.seat.me.0.busy ≡ s.seat.me.0.busy → IsSeat t s'
seat-taken t s s' b inside is table worker next front limit parts number room-front room-limit filling busy = let n : ℕ = blocks (setup_at t) in record {
  table = table ∙ is.table;
  live = (let a = is.live in omega arith);
  worker = worker ∙ is.worker ∙ sym number;
  some = (let a = is.some in omega arith);
  few = (let a = is.few in omega arith);
  front = front ∙ sym room-front;
  limit = limit ∙ sym room-limit;
  order = omega arith;
  from = λ below. omega arith;
  within = omega arith;
  filling = λ k has. limit ∙ ap (λ c. block_start n c + 4096) (only-one b k (subst (λ l. 0 < times k l) filling has));
  seen = λ k below. subst (λ l. 0 < times k l) (sym busy) (is.seen k (omega arith));
  next = (let a = is.next in omega arith);
}

-- one block more is seen not to be Free
pub seen-more : (b : ℕ) (v w : Share) → w ≡ sees_busy b v → ((c : ℕ) → c < b → 0 < times c v.busy) → (c : ℕ) → c < b + 1 → 0 < times c w.busy
seen-more b v w is seen c below = subst (λ (u : Share). 0 < times c u.busy) (sym is) (let a = times-cons b v.busy c in
    elim (cases_eq c b) as (λ _. 0 < times c (b ∷ v.busy)) [
      | inl here ↦ (let one : one_if (nat_eq c b) ≡ 1 = one-if-true (nat_eq c b) (eq-eqb c b here) in omega arith)
      | inr ne ↦ (let before = seen c (omega arith) in omega arith)
    ])

pub keeps-not : (v : Share) → Keeps v v
keeps-not v = record { parts = refl; token = refl; worker = refl; numbers = refl; unset = refl; last = refl; known = λ x t has. has; lined = λ i m has. has; busy = λ b has. has; sparse = refl }

pub keeps-trans : (u v w : Share) → Keeps u v → Keeps v w → Keeps u w
keeps-trans u v w a b = record {
  parts = b.parts ∙ a.parts;
  token = b.token ∙ a.token;
  worker = b.worker ∙ a.worker;
  numbers = b.numbers ∙ a.numbers;
  unset = b.unset ∙ a.unset;
  last = b.last ∙ a.last;
  known = λ x t has. b.known x t (a.known x t has);
  lined = λ i m has. b.lined i m (a.lined i m has);
  busy = λ c has. b.busy c (a.busy c has);
  sparse = b.sparse ∙ a.sparse;
}

-- an event that is no mark of lines
pub unmarked-event : (e : TraceEvent) (es : List TraceEvent) → is_line_mark e ≡ false → count_by is_line_mark (e ∷ es) ≡ count_by is_line_mark es
unmarked-event e es other = let all = count-cons is_line_mark e es in let none : one_if (is_line_mark e) ≡ 0 = ap one_if other in omega arith

pub looks-not : (v w : Share) → w ≡ v → Looks v w
looks-not v w is = subst (Looks v) (sym is) (record { keeps = keeps-not v; gave = refl; took = refl; won = refl; grey = refl; copied = refl; asked = refl; unmarked = refl })

pub looks-trans : (u v w : Share) → Looks u v → Looks v w → Looks u w
looks-trans u v w a b = record {
  keeps = keeps-trans u v w a.keeps b.keeps;
  gave = b.gave ∙ a.gave;
  took = b.took ∙ a.took;
  won = b.won ∙ a.won;
  grey = b.grey ∙ a.grey;
  copied = b.copied ∙ a.copied;
  asked = b.asked ∙ a.asked;
  unmarked = b.unmarked ∙ a.unmarked;
}

pub room-not : (v : Share) → SameRoom v v
room-not v = record { parts = refl; worker = refl; front = refl; limit = refl; filling = refl }

pub room-trans : (u v w : Share) → SameRoom u v → SameRoom v w → SameRoom u w
room-trans u v w a b = record {
  parts = b.parts ∙ a.parts;
  worker = b.worker ∙ a.worker;
  front = b.front ∙ a.front;
  limit = b.limit ∙ a.limit;
  filling = b.filling ∙ a.filling;
}

pub room-busy : (b : ℕ) (v w : Share) → w ≡ sees_busy b v → SameRoom v w
room-busy b v w is = same-room v (sees_busy b v) w is (record { parts = refl; worker = refl; front = refl; limit = refl; filling = refl })

pub looks-busy : (b : ℕ) (v w : Share) → w ≡ sees_busy b v → Looks v w
looks-busy b v w is = subst (Looks v) (sym is) (record {
  keeps = record { parts = refl; token = refl; worker = refl; numbers = refl; unset = refl; last = refl; known = λ x t has. has; lined = λ i m has. has; busy = λ c has. (let a = times-cons b v.busy c in omega arith); sparse = refl };
  gave = refl;
  took = refl;
  won = refl;
  grey = refl;
  copied = refl;
  asked = refl;
  unmarked = refl;
})

-- a block is taken after the last one was full
pub looks-taken : (p : Setup) (b : ℕ) (v w : Share) → w ≡ takes_after_full p b v → Looks v w
looks-taken p b v w is = subst (Looks v) (sym is) (record {
  keeps = record { parts = refl; token = refl; worker = refl; numbers = refl; unset = refl; last = refl; known = λ x t has. has; lined = λ i m has. has; busy = λ c has. has; sparse = refl };
  gave = refl;
  took = refl;
  won = refl;
  grey = refl;
  copied = refl;
  asked = refl;
  unmarked = unmarked-event (events.TakeBlock b v.worker) v.made refl;
})

-- a target is learnt
pub looks-learnt : (x t : ℕ) (v w : Share) → w ≡ learns x t v → Looks v w × (0 < hits x t w.known)
looks-learnt x t v w is = subst (λ (u : Share). Looks v u × (0 < hits x t u.known)) (sym is) (
  record {
    keeps = record { parts = refl; token = refl; worker = refl; numbers = refl; unset = refl; last = refl; known = λ y u has. hits-more x t v.known y u has; lined = λ i m has. has; busy = λ c has. has; sparse = refl };
    gave = refl;
    took = refl;
    won = refl;
    grey = refl;
    copied = refl;
    asked = refl;
    unmarked = refl;
  },
  hits-here x t v.known,
)

pub room-learnt : (x t : ℕ) (v w : Share) → w ≡ learns x t v → SameRoom v w
room-learnt x t v w is = same-room v (learns x t v) w is (record { parts = refl; worker = refl; front = refl; limit = refl; filling = refl })

-- an object is claimed where it is
pub wins-here : (p : Setup) (x : ℕ) (cause : ClaimCause) (v w : Share) (token : Won) → w ≡ claims_here p x cause v → v.won ≡ [] → token.object ≡ x → token.target ≡ x → (IsTrue (may_be_moved p x) → LacksRoom p v x) → IsShapeOf p token → Wins p x cause v w token
wins-here p x cause v w token is spent object target lacks shape = subst (λ (u : Share). Wins p x cause v u token) (sym is) (record {
  keeps = record { parts = refl; token = refl; worker = refl; numbers = refl; unset = refl; last = refl; known = λ y u has. hits-more x x v.known y u has; lined = λ i m has. has; busy = λ c has. has; sparse = refl };
  gave = refl;
  took = refl;
  won = ap (λ l. (x, steps_at_claim p x x) ∷ l) spent ∙ ap (λ n. (x, steps_at_claim p x n) ∷ []) (sym target);
  grey = refl;
  copied = refl;
  asked = refl;
  unmarked = unmarked-event (events.Claim x x (listed_cause cause)) v.made refl;
  target = subst (λ n. 0 < hits x n ((x, x) ∷ v.known)) (sym target) (hits-here x x v.known);
  place = inl (target, λ moves. (let room = lacks moves in record { tight = room.tight; none = room.none }));
  object = object;
  shape = shape;
})

pub room-here : (p : Setup) (x : ℕ) (cause : ClaimCause) (v w : Share) → w ≡ claims_here p x cause v → SameRoom v w
room-here p x cause v w is = same-room v (claims_here p x cause v) w is (record { parts = refl; worker = refl; front = refl; limit = refl; filling = refl })

-- an object is claimed for the front of the room
pub wins-moved : (p : Setup) (x : ℕ) (cause : ClaimCause) (v w : Share) (token : Won) → w ≡ claims_moved p x cause v → v.won ≡ [] → token.object ≡ x → token.target ≡ v.front → FitsRoom p v x → IsShapeOf p token → Wins p x cause v w token
wins-moved p x cause v w token is spent object target room shape = subst (λ (u : Share). Wins p x cause v u token) (sym is) (record {
  keeps = record { parts = refl; token = refl; worker = refl; numbers = refl; unset = refl; last = refl; known = λ y u has. hits-more x v.front v.known y u has; lined = λ i m has. has; busy = λ c has. has; sparse = refl };
  gave = refl;
  took = refl;
  won = ap (λ l. (x, steps_at_claim p x v.front) ∷ l) spent ∙ ap (λ n. (x, steps_at_claim p x n) ∷ []) (sym target);
  grey = refl;
  copied = refl;
  asked = refl;
  unmarked = unmarked-event (events.Claim x v.front (listed_cause cause)) v.made refl;
  target = subst (λ n. 0 < hits x n ((x, v.front) ∷ v.known)) (sym target) (hits-here x v.front v.known);
  place = inr (record { moves = room.moves; front = ap (λ n. n + size p x) (sym target); fits = room.fits });
  object = object;
  shape = shape;
})

-- no block was taken, and so none without need
pub block-of-room : (v w : Share) → SameRoom v w → SameBlock v w
block-of-room v w room = (room.limit, room.filling)

pub block-trans : (u v w : Share) → SameBlock u v → SameBlock v w → SameBlock u w
block-trans u v w a b = (b.0 ∙ a.0, b.1 ∙ a.1)

pub needed-not : (p : Setup) (x : ℕ) (v w : Share) → SameBlock v w → TakesBlockIfNeeded p x v w
needed-not p x v w same = record { stays = λ stays. same; fits = λ fits. same }

pub needed-on : (p : Setup) (x : ℕ) (u v w : Share) → TakesBlockIfNeeded p x u v → SameBlock v w → TakesBlockIfNeeded p x u w
needed-on p x u v w needed same = record {
  stays = λ stays. block-trans u v w (needed.stays stays) same;
  fits = λ fits. block-trans u v w (needed.fits fits) same;
}

-- what a claim needs is so after more looks
pub asks-on : (p : Setup) (v w : Share) (x : ℕ) (cause : ClaimCause) → Keeps v w → AsksFor p v x cause → AsksFor p w x cause
asks-on p v w x ByRoot keeps asks = tt
asks-on p v w x (ByGlobal g) keeps asks = asks
asks-on p v w x (ByField y i) keeps asks = (asks.0, asks.1, (asks.2.0, keeps.known y asks.2.0 asks.2.1))

pub claim-on : (p : Setup) (v w : Share) (x : ℕ) (cause : ClaimCause) (old : ℕ) → Looks v w → MayClaim p v x cause old → MayClaim p w x cause old
claim-on p v w x cause old looks may = record {
  live = (let a = looks.keeps.parts in let b = may.live in omega arith);
  held = may.held;
  before = may.before;
  other = may.other;
  young = may.young;
  asks = asks-on p v w x cause looks.keeps may.asks;
}

-- a seat whose share is the same
pub seat-same : (t : TraceTable) (s s' : WorkerSeat) → IsSeat t s → s'.seat.table_id ≡ s.seat.table_id → s'.worker ≡ s.worker → s'.front ≡ s.front → s'.limit ≡ s.limit → s'.next_block ≡ s.next_block
    → s'.seat.me ≡ s.seat.me → IsSeat t s'
seat-same t s s' is table worker front limit next same = let share : s'.seat.me.0 ≡ s.seat.me.0 = share-is s'.seat.me s.seat.me same in
    seat-on t s s' is table worker front limit (same-room s.seat.me.0 s.seat.me.0 s'.seat.me.0 share (record { parts = refl; worker = refl; front = refl; limit = refl; filling = refl }))
    (λ c below. subst (λ (u : Share). 0 < times c u.busy) (sym share) (is.seen c (let a = next in omega arith))) (let a = next in let b = is.next in omega arith)

-- a seat that learnt a target
pub seat-learnt : (t : TraceTable) (s s' : WorkerSeat) (x u : ℕ) → IsSeat t s → s'.seat.table_id ≡ s.seat.table_id → s'.worker ≡ s.worker → s'.front ≡ s.front → s'.limit ≡ s.limit → s'.next_block ≡ s.next_block
    → s'.seat.me.0 ≡ learns x u s.seat.me.0 → IsSeat t s'
seat-learnt t s s' x u is table worker front limit next learnt =
    seat-on t s s' is table worker front limit (room-learnt x u s.seat.me.0 s'.seat.me.0 learnt)
    (λ c below. subst (λ (v : Share). 0 < times c v.busy) (sym learnt) (is.seen c (let a = next in omega arith))) (let a = next in let b = is.next in omega arith)

-- a claim after more looks
pub claims-after : (p : Setup) (x : ℕ) (cause : ClaimCause) (u v w : Share) (answer : Claim) → Looks u v → ClaimsFor p x cause v w answer → ClaimsFor p x cause u w answer
claims-after p x cause u v w claims.Old looks by = (looks-trans u v w looks by.0, by.1, by.2)
claims-after p x cause u v w (claims.Seen t) looks by = (looks-trans u v w looks by.0, by.1, by.2)
claims-after p x cause u v w (claims.Won token) looks by = record {
  keeps = keeps-trans u v w looks.keeps by.keeps;
  gave = by.gave ∙ looks.gave;
  took = by.took ∙ looks.took;
  won = by.won;
  grey = by.grey ∙ looks.grey;
  copied = by.copied ∙ looks.copied;
  asked = by.asked ∙ ap (asked_roots x cause) looks.asked;
  unmarked = by.unmarked ∙ looks.unmarked;
  target = by.target;
  place = by.place;
  object = by.object;
  shape = by.shape;
}

-- an object whose collector word is not old is not old
pub young-by : (p : Setup) (x old : ℕ) → old ≡ word_at p.before (x + 2) → is_old_word (base_after_trace p) old ≡ false → stays_old p x ≡ false
young-by p x old word young = elim (cases_Bool (stays_old p x)) as (λ _. stays_old p x ≡ false) [
  | inl is ↦ absurd (let both = and_parts p.nursery (held p x && ages.is_old p.before x) is in let right = and_parts (held p x) (ages.is_old p.before x) both.1 in
      true≢false (sym right.1 ∙ ap (λ w. is_old_word p.before.base w) (sym word) ∙ ap (λ b. is_old_word b old) (sym (cond-true p.nursery p.before.base (collection p) both.0)) ∙ young))
  | inr not-old ↦ not-old
]

-- nor after marks of lines
pub done-marked : (p : Setup) (v w : Share) → IsDone p v → MarksOnly v w → IsDone p w
done-marked p v w done marks = record {
  won = marks.won ∙ done.won;
  unset = marks.keeps.unset ∙ done.unset;
  grey = λ x k some. done.grey x k (subst (λ g. 0 < hits x k g) marks.grey some);
}

-- a root asks
pub asks-known : (x t : ℕ) (v w : Share) → w ≡ asks_for x t v → Asks x v w
asks-known x t v w is = subst (Asks x v) (sym is) (record {
  keeps = record { parts = refl; token = refl; worker = refl; numbers = refl; unset = refl; last = refl; known = λ y u has. hits-more x t v.known y u has; lined = λ i m has. has; busy = λ c has. has; sparse = refl };
  gave = refl;
  took = refl;
  won = refl;
  grey = refl;
  copied = refl;
  asked = refl;
  unmarked = unmarked-event (events.Ask x) v.made refl;
})

pub room-asked : (x t : ℕ) (v w : Share) → w ≡ asks_for x t v → SameRoom v w
room-asked x t v w is = same-room v (asks_for x t v) w is (record { parts = refl; worker = refl; front = refl; limit = refl; filling = refl })

-- a root asks after looks
pub asks-after : (x : ℕ) (u v w : Share) → Looks u v → Asks x v w → Asks x u w
asks-after x u v w looks asks = record {
  keeps = keeps-trans u v w looks.keeps asks.keeps;
  gave = asks.gave ∙ looks.gave;
  took = asks.took ∙ looks.took;
  won = asks.won ∙ looks.won;
  grey = asks.grey ∙ looks.grey;
  copied = asks.copied ∙ looks.copied;
  asked = asks.asked ∙ ap (λ l. x ∷ l) looks.asked;
  unmarked = asks.unmarked ∙ looks.unmarked;
}

-- nothing is left to do after a root asked
pub done-asked : (p : Setup) (x : ℕ) (v w : Share) → IsDone p v → Asks x v w → IsDone p w
done-asked p x v w done asks = record {
  won = asks.won ∙ done.won;
  unset = asks.keeps.unset ∙ done.unset;
  grey = λ y k some. done.grey y k (subst (λ g. 0 < hits y k g) asks.grey some);
}
