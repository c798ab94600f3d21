-- The share of a seat that copies an object.
use Rattle.std.proofs.Common.{◌≡◌, ℕ, ◌+◌, ◌<◌, nat_eq, List, [], ◌∷◌, refl, sym, ap, ◌∙◌, subst, arith}
use Rattle.std.proofs.lemmas.Bool.{cond-true, and_from, eq-eqb}
use Rattle.trace_core.specs.Setups.{Setup}
use Rattle.trace_core.specs.Views.{hits, is_pair, without}
use Rattle.trace_core.proofs.CountedRights.{hits-here}
use Rattle.trace_words.specs.declared.event.TraceEvent.TheVariants as events
use Rattle.trace_words.specs.declared.share.Share.{Share}
use Rattle.trace_words.specs.Shares.{copies_on, gives_scan}
use Rattle.trace_words.specs.Steps.{MayCopy}
use Rattle.trace_table.specs.declared.table.TraceTable.{TraceTable}
use Rattle.trace_table.specs.declared.table.WorkerSeat.{WorkerSeat}
use Rattle.trace_table.specs.declared.tokens.Won.{Won}
use Rattle.trace_table.specs.Seats.{IsSeat, Keeps, SameRoom, IsWon, Copying, Copied, Copies}
use Rattle.trace_table.proofs.SeatShares.{seat-on, unmarked-event}

pub first-gone : (x k : ℕ) (l : List (ℕ × ℕ)) → without (is_pair x k) ((x, k) ∷ l) ≡ l
first-gone x k l = cond-true (is_pair x k (x, k)) l ((x, k) ∷ without (is_pair x k) l) (and_from (nat_eq x x) (nat_eq k k) (eq-eqb x x refl) (eq-eqb k k refl))

module _ (p : Setup) (v : Share) (token : Won) (won : IsWon p v token) where
  -- the next step may be made
  pub may-copy : (k : ℕ) (w : Share) → Copying token.object k v w → MayCopy p w token.object token.target k
  may-copy k w by = record {
    live = (let a = by.room.parts in let b = won.live in omega arith);
    right = subst (λ l. 0 < hits token.object k l) (sym by.won) (hits-here token.object k []);
    target = by.keeps.known token.object token.target won.target;
  }

-- a step that is not the last one
pub copies-next : (x k : ℕ) (v w u : Share) → Copying x k v w → u ≡ copies_on x k w → Copying x (k + 1) v u
copies-next x k v w u by is = subst (Copying x (k + 1) v) (sym is) (record {
  keeps = record { parts = by.keeps.parts; token = by.keeps.token; worker = by.keeps.worker; numbers = by.keeps.numbers; unset = by.keeps.unset; last = by.keeps.last; known = by.keeps.known; lined = by.keeps.lined; busy = by.keeps.busy; sparse = by.keeps.sparse };
  room = record { parts = by.room.parts; worker = by.room.worker; front = by.room.front; limit = by.room.limit; filling = by.room.filling };
  gave = by.gave;
  took = by.took;
  won = ap (λ l. (x, k + 1) ∷ without (is_pair x k) l) by.won ∙ ap (λ l. (x, k + 1) ∷ l) (first-gone x k []);
  grey = by.grey;
  copied = by.copied;
  asked = by.asked;
  unmarked = unmarked-event (events.Copy x) w.made refl ∙ by.unmarked;
})

-- what the token needs
pub copied-right : (p : Setup) (v w : Share) (x t : ℕ) → Copied x v w → 0 < hits x t v.known → (0 < w.parts → 0 < w.parts) × (0 < hits x 0 w.grey) × (0 < hits x t w.known)
copied-right p v w x t by known = subst (λ (u : Share). (0 < u.parts → 0 < u.parts) × (0 < hits x 0 u.grey) × (0 < hits x t u.known)) (sym by.after)
    ((λ e. e), hits-here x 0 by.before.grey, by.copying.keeps.known x t known)

pub copied-parts : (x : ℕ) (v w : Share) → Copied x v w → w.parts ≡ v.parts
copied-parts x v w by = ap (λ (u : Share). u.parts) by.after ∙ by.copying.room.parts

-- the token is given
pub copies-given : (x : ℕ) (v w u : Share) → Copied x v w → u ≡ gives_scan x w → Copies x v u
copies-given x v w u by is = let b : Share = by.before in let k : ℕ = by.steps in let c = by.copying in
    subst (Copies x v) (sym (is ∙ ap (gives_scan x) by.after)) (record {
      keeps = record { parts = c.keeps.parts; token = c.keeps.token; worker = c.keeps.worker; numbers = c.keeps.numbers; unset = c.keeps.unset; last = c.keeps.last; known = c.keeps.known; lined = c.keeps.lined; busy = c.keeps.busy; sparse = c.keeps.sparse };
      room = record { parts = c.room.parts; worker = c.room.worker; front = c.room.front; limit = c.room.limit; filling = c.room.filling };
      gave = ap (λ n. n + 1) c.gave;
      took = c.took;
      won = ap (without (is_pair x k)) c.won ∙ first-gone x k [];
      grey = first-gone x 0 b.grey ∙ c.grey;
      copied = ap (λ l. x ∷ l) c.copied;
      asked = c.asked;
      unmarked = unmarked-event (events.Copy x) b.made refl ∙ c.unmarked;
    })

-- a seat with the same room, which forgot nothing
pub seat-kept : (t : TraceTable) (s s' : WorkerSeat) → IsSeat t s → s'.seat.table_id ≡ s.seat.table_id → s'.worker ≡ s.worker → s'.front ≡ s.front → s'.limit ≡ s.limit → s'.next_block ≡ s.next_block
    → SameRoom s.seat.me.0 s'.seat.me.0 → Keeps s.seat.me.0 s'.seat.me.0 → IsSeat t s'
seat-kept t s s' is table worker front limit next room keeps =
    seat-on t s s' is table worker front limit room (λ c below. keeps.busy c (is.seen c (let a = next in omega arith))) (let a = next in let b = is.next in omega arith)
