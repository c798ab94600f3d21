-- A share is cut in two, and takes in another.
use Rattle.std.proofs.Common.{◌≡◌, ◌≢◌, ℕ, ◌+◌, ◌/◌, ◌<◌, ◌≤◌, ◌⊎◌, length, length-append, inl, inr, ⊎_elim, [], ◌∷◌, ◌++◌, set, refl, sym, ap, ◌∙◌, subst, arith}
use Rattle.std.specs.Prelude.{nat_eq, count_by}
use Rattle.std.proofs.lemmas.Bool.{ne_eqb}
use mathlib.Core.Option.{some}
use lib.ListN.{get_elem?}
use Rattle.atomic_table.specs.Table.{Splits, Joins}
use Rattle.atomic_table.proofs.Lists.{at_set, at_snoc}
use Rattle.heap_layout.specs.Zones.{LineWords, first}
use Rattle.object_model.specs.Times.{times, one_if}
use Rattle.trace_core.specs.Setups.{Setup, blocks}
use Rattle.trace_core.specs.Machine.{Machine}
use Rattle.trace_core.specs.Traces.{machine_after}
use Rattle.trace_core.specs.Views.{View, hits, is_pair, Holds}
use Rattle.trace_core.proofs.AskRights.{holds-known}
use Rattle.trace_core.proofs.CountedRights.{hits-cons, hits-without, times-cons, times-without, count-append}
use Rattle.trace_words.specs.declared.share.Share.{Share}
use Rattle.trace_words.specs.Shares.{pooled, empty_share, worker_share, scan_token, global_token, gives_parts, gives_scan, gives_global, both_shares}
use Rattle.trace_words.specs.Rule.{TraceState, KeepsTrace, IsShareOf, rooms_at, times_made, has_number}
use Rattle.trace_words.proofs.Pooled.{total-set, total-last, pool-cut, pool-join, SameRights, holds-same}
use Rattle.trace_words.proofs.RuleSteps.{rooms-as, known-is}
use Rattle.trace_words.proofs.Rooms.{no-room, either-list, either-pair, in-first, in-second, first-pair, second-pair}

-- A share without room, events and lists of blocks knows of none.
pub share-of-none : (p : Setup) (m : Machine) (s : Share) → (0 < s.parts) ⊎ (0 < s.token) → s.made ≡ [] → s.worker ≤ p.workers → ((k : ℕ) → 0 < times k s.numbers → (0 < k) × (k ≤ p.workers)) → s.gave ≡ 0 → s.took ≡ 0 → s.limit ≡ 0 → s.blocks ≡ [] → s.full ≡ [] → s.busy ≡ [] → s.owned ≡ [] → s.lined ≡ [] → s.filling ≡ [] → s.last ≡ [] → IsShareOf p m s
share-of-none p m s live made number numbers gave took limit no-blocks full busy owned lined filling last = record {
  token = λ none. record {
    gave = gave;
    took = took;
    made = made;
    spent = λ no-token. absurd (⊎_elim (λ (a : 0 < s.parts). absurd (omega arith)) (λ (b : 0 < s.token). absurd (omega arith)) live);
  };
  busy = λ b has. absurd (let none : times b s.busy ≡ 0 = ap (times b) busy in omega arith);
  lined = λ n few set-by. absurd (let i : ℕ = first (blocks p) LineWords + n / 64 in let none : hits i set-by.0 s.lined ≡ 0 = ap (hits i set-by.0) lined in let some-bit : 0 < hits i set-by.0 s.lined = set-by.2 in omega arith);
  owned = λ b k has. absurd (let none : hits b k s.owned ≡ 0 = ap (hits b k) owned in omega arith);
  owner = λ b has. absurd (let none : times b s.blocks ≡ 0 = ap (times b) no-blocks in omega arith);
  full = λ b has. absurd (let none : times b s.full ≡ 0 = ap (times b) full in omega arith);
  room = λ some-word. absurd (omega arith);
  number = number;
  numbers = numbers;
  one = (let none : length s.filling ≡ 0 = ap length filling in omega arith);
  none = λ nobody. filling;
  few = (let none : length s.filling ≡ 0 = ap length filling in let no-last : length s.last ≡ 0 = ap length last in omega arith);
  fewer = λ some-part. (let none : length s.last ≡ 0 = ap length last in omega arith);
  listed = λ b has. absurd (let none : times b s.blocks ≡ 0 = ap (times b) no-blocks in omega arith);
}

-- what is left of a share that gave a right or parts
share-left : (p : Setup) (m : Machine) (v l : Share) → IsShareOf p m v → 0 < l.parts → l.busy ≡ v.busy → l.full ≡ v.full → l.front ≡ v.front → l.limit ≡ v.limit → l.blocks ≡ v.blocks
    → l.filling ≡ v.filling → l.sparse ≡ v.sparse → l.owned ≡ v.owned → l.lined ≡ v.lined → l.last ≡ v.last → length v.last < l.parts → l.worker ≡ v.worker → ((k : ℕ) → times k l.numbers ≤ times k v.numbers) → IsShareOf p m l
share-left p m v l is live busy full front limit same-blocks filling sparse owned lined last kept worker fewer-numbers = record {
  token = λ none. absurd (omega arith);
  busy = λ b has. is.busy b (subst (λ k. 0 < times b k) busy has);
  lined = λ n few set-by. is.lined n few (set-by.0, set-by.1, subst (λ o. 0 < hits (first (blocks p) LineWords + n / 64) set-by.0 o) lined set-by.2);
  owned = λ b k has. is.owned b k (subst (λ o. 0 < hits b k o) owned has);
  owner = λ b has. (let was = is.owner b (subst (λ k. 0 < times b k) same-blocks has) in (was.0, subst (λ o. 0 < hits b was.0 o) (sym owned) was.1));
  full = λ b has. is.full b (subst (λ k. 0 < times b k) full has);
  room = λ some-word. (let end = is.room (let same = limit in omega arith) in
      (end.0, record { from = (let a = end.1.from in let same = front in omega arith); limit = limit ∙ end.1.limit; words = end.1.words; front = front ∙ end.1.front; filled = end.1.filled; owner = subst (λ o. 0 < hits end.0 l.worker o) (sym owned) (subst (λ k. 0 < hits end.0 k v.owned) (sym worker) end.1.owner) }));
  number = (let same = worker in let a = is.number in omega arith);
  numbers = λ k has. is.numbers k (let a = fewer-numbers k in omega arith);
  one = (let same : length l.filling ≡ length v.filling = ap length filling in let a = is.one in omega arith);
  none = λ nobody. filling ∙ is.none (sym worker ∙ nobody);
  few = (let same : length l.filling ≡ length v.filling = ap length filling in let same-last : length l.last ≡ length v.last = ap length last in let a = is.one in omega arith);
  fewer = λ some-part. (let same-last : length l.last ≡ length v.last = ap length last in omega arith);
  listed = λ b has. ⊎_elim (λ (f : 0 < times b v.filling). inl (subst (λ k. 0 < times b k) (sym filling) f))
      (λ (q : (0 < times b v.last) ⊎ ((0 < times b v.full) ⊎ (0 < times b v.sparse))). inr (⊎_elim (λ (f : 0 < times b v.last). inl (subst (λ k. 0 < times b k) (sym last) f))
      (λ (o : (0 < times b v.full) ⊎ (0 < times b v.sparse)). inr (⊎_elim (λ (f : 0 < times b v.full). inl (subst (λ k. 0 < times b k) (sym full) f)) (λ (f : 0 < times b v.sparse). inr (subst (λ k. 0 < times b k) (sym sparse) f)) o)) q))
      (is.listed b (subst (λ k. 0 < times b k) same-blocks has));
}

module _ (p : Setup) (s : TraceState) (h : KeepsTrace p s) (id : ℕ) (v l r : Share) (at : get_elem? s.views id ≡ some v) where
  abbrev m : Machine
  m = machine_after p h.events

  -- The rule holds of the two halves, where they have together what the share had, and what it knew.
  cut : (W : View) → Holds p m W → SameRights W (pooled (set s.views id l ++ r ∷ [])) → l.made ≡ v.made → r.made ≡ []
      → ((k : ℕ) → 0 < k → has_number k l + has_number k r ≤ has_number k v) → l.parts + r.parts ≡ v.parts
      → l.gave + r.gave + v.took + v.token ≡ v.gave + (l.took + r.took) + (l.token + r.token) → IsShareOf p m l → IsShareOf p m r → l.front ≡ v.front → l.limit ≡ v.limit → r.limit ≡ 0
      → KeepsTrace p (record { words = s.words; homes = s.homes; views = set s.views id l ++ r ∷ [] })
  cut W holds same left-made right-made numbers parts tokens left right front limit none = record {
    events = h.events;
    trace = h.trace;
    words = h.words;
    made = λ test. (let a = total-set (times_made test) s.views id v l at in let b = total-last (times_made test) (set s.views id l) r in let c = h.made test in
        let d : times_made test l ≡ times_made test v = ap (count_by test) left-made in let e : times_made test r ≡ 0 = ap (count_by test) right-made in omega arith);
    numbers = λ k some-number. (let a = total-set (has_number k) s.views id v l at in let b = total-last (has_number k) (set s.views id l) r in let c = h.numbers k some-number in let d = numbers k some-number in omega arith);
    holds = holds-same p m W (pooled (set s.views id l ++ r ∷ [])) holds same;
    parts = (let a = total-set (λ z. z.parts) s.views id v l at in let b = total-last (λ z. z.parts) (set s.views id l) r in let c = h.parts in let d = parts in omega arith);
    tokens = (let a = total-set (λ z. z.gave) s.views id v l at in let b = total-last (λ z. z.gave) (set s.views id l) r in
        let c = total-set (λ z. z.took) s.views id v l at in let d = total-last (λ z. z.took) (set s.views id l) r in
        let e = total-set (λ z. z.token) s.views id v l at in let f = total-last (λ z. z.token) (set s.views id l) r in let g = h.tokens in let k = tokens in omega arith);
    shares = λ j u is. ⊎_elim (λ (o : get_elem? (set s.views id l) j ≡ some u). ⊎_elim (λ (e : (j ≡ id) × (l ≡ u)). subst (IsShareOf p m) e.1 left)
        (λ (e : (j ≢ id) × (get_elem? s.views j ≡ some u)). h.shares j u e.1) (at_set s.views id j l u o)) (λ (e : r ≡ u). subst (IsShareOf p m) e right) (at_snoc (set s.views id l) r u j is);
    rooms = λ a. (let b = total-set (rooms_at a) s.views id v l at in let c = total-last (rooms_at a) (set s.views id l) r in let d = h.rooms a in let e = no-room a r none in let f = rooms-as a v l front limit in omega arith);
  }

module _ (p : Setup) where
  -- a worker's parts leave
  pub splits-parts : (id : ℕ) (v : Share) (n k : ℕ) → 0 < n → length v.last + n < v.parts → 0 < times k v.numbers → Splits (KeepsTrace p) id v (gives_parts n k v) (worker_share n k)
  splits-parts id v n k some-part few right s h at =
      let m : Machine = machine_after p h.events in let l : Share = gives_parts n k v in let r : Share = worker_share n k in cut p s h id v l r at (pooled s.views) h.holds (record {
        won = λ y k. (let a = pool-cut (is_pair y k) (λ u. u.won) refl (λ u z. refl) s.views id v l r at in omega arith);
        grey = λ y k. (let a = pool-cut (is_pair y k) (λ u. u.grey) refl (λ u z. refl) s.views id v l r at in omega arith);
        copied = λ y. (let a = pool-cut (nat_eq y) (λ u. u.copied) refl (λ u z. refl) s.views id v l r at in omega arith);
        unset = λ y. (let a = pool-cut (nat_eq y) (λ u. u.unset) refl (λ u z. refl) s.views id v l r at in omega arith);
        set = λ y. (let a = pool-cut (nat_eq y) (λ u. u.set) refl (λ u z. refl) s.views id v l r at in omega arith);
        asked = λ y. (let a = pool-cut (nat_eq y) (λ u. u.asked) refl (λ u z. refl) s.views id v l r at in omega arith);
        known = λ y u. (let a = pool-cut (is_pair y u) (λ z. z.known) refl (λ z e. refl) s.views id v l r at in omega arith);
        blocks = λ y. (let a = pool-cut (nat_eq y) (λ u. u.blocks) refl (λ u z. refl) s.views id v l r at in omega arith);
      }) refl refl (λ j some-number. (let a = times-without k v.numbers right j in let b = times-cons k [] j in let c : one_if (nat_eq j 0) ≡ 0 = ap one_if (ne_eqb j 0 (λ e. omega arith)) in omega arith))
      (omega arith) (omega arith) (share-left p m v l (h.shares id v at) (omega arith) refl refl refl refl refl refl refl refl refl refl (omega arith) refl (λ j. (let a = times-without k v.numbers right j in omega arith)))
      (share-of-none p m r (inl some-part) refl ((h.shares id v at).numbers k right).1 (λ j none-given. absurd (omega (arith, none-given))) refl refl refl refl refl refl refl refl refl refl) refl refl refl

  -- the right to scan an object leaves, with its target
  pub splits-scan : (id : ℕ) (v : Share) (x t : ℕ) → 0 < v.parts → 0 < hits x 0 v.grey → 0 < hits x t v.known → Splits (KeepsTrace p) id v (gives_scan x v) (scan_token x t)
  splits-scan id v x t live right target s h at =
      let m : Machine = machine_after p h.events in let l : Share = gives_scan x v in let r : Share = scan_token x t in let V : View = pooled s.views in
      cut p s h id v l r at (record V { known = (x, t) ∷ V.known }) (holds-known p m V h.holds x t (known-is p s h id v at x t target)) (record {
        won = λ y k. (let a = pool-cut (is_pair y k) (λ u. u.won) refl (λ u z. refl) s.views id v l r at in omega arith);
        grey = λ y k. (let a = pool-cut (is_pair y k) (λ u. u.grey) refl (λ u z. refl) s.views id v l r at in let b = hits-without x 0 v.grey right y k in let c = hits-cons x 0 [] y k in omega arith);
        copied = λ y. (let a = pool-cut (nat_eq y) (λ u. u.copied) refl (λ u z. refl) s.views id v l r at in omega arith);
        unset = λ y. (let a = pool-cut (nat_eq y) (λ u. u.unset) refl (λ u z. refl) s.views id v l r at in omega arith);
        set = λ y. (let a = pool-cut (nat_eq y) (λ u. u.set) refl (λ u z. refl) s.views id v l r at in omega arith);
        asked = λ y. (let a = pool-cut (nat_eq y) (λ u. u.asked) refl (λ u z. refl) s.views id v l r at in omega arith);
        known = λ y u. (let a = pool-cut (is_pair y u) (λ z. z.known) refl (λ z e. refl) s.views id v l r at in let b = hits-cons x t V.known y u in let c = hits-cons x t [] y u in omega arith);
        blocks = λ y. (let a = pool-cut (nat_eq y) (λ u. u.blocks) refl (λ u z. refl) s.views id v l r at in omega arith);
      }) refl refl (λ j some-number. (let c : one_if (nat_eq j 0) ≡ 0 = ap one_if (ne_eqb j 0 (λ e. omega arith)) in omega arith))
      (omega arith) (omega arith) (share-left p m v l (h.shares id v at) live refl refl refl refl refl refl refl refl refl refl ((h.shares id v at).fewer live) refl (λ j. omega arith))
      (share-of-none p m r (inr (omega arith)) refl (omega arith) (λ j none-given. absurd (omega (arith, none-given))) refl refl refl refl refl refl refl refl refl refl) refl refl refl

  -- the right to set a global leaves
  pub splits-global : (id : ℕ) (v : Share) (g : ℕ) → 0 < v.parts → 0 < times g v.unset → Splits (KeepsTrace p) id v (gives_global g v) (global_token g)
  splits-global id v g live right s h at =
      let m : Machine = machine_after p h.events in let l : Share = gives_global g v in let r : Share = global_token g in cut p s h id v l r at (pooled s.views) h.holds (record {
        won = λ y k. (let a = pool-cut (is_pair y k) (λ u. u.won) refl (λ u z. refl) s.views id v l r at in omega arith);
        grey = λ y k. (let a = pool-cut (is_pair y k) (λ u. u.grey) refl (λ u z. refl) s.views id v l r at in omega arith);
        copied = λ y. (let a = pool-cut (nat_eq y) (λ u. u.copied) refl (λ u z. refl) s.views id v l r at in omega arith);
        unset = λ y. (let a = pool-cut (nat_eq y) (λ u. u.unset) refl (λ u z. refl) s.views id v l r at in let b = times-without g v.unset right y in let c = times-cons g [] y in omega arith);
        set = λ y. (let a = pool-cut (nat_eq y) (λ u. u.set) refl (λ u z. refl) s.views id v l r at in omega arith);
        asked = λ y. (let a = pool-cut (nat_eq y) (λ u. u.asked) refl (λ u z. refl) s.views id v l r at in omega arith);
        known = λ y u. (let a = pool-cut (is_pair y u) (λ z. z.known) refl (λ z e. refl) s.views id v l r at in omega arith);
        blocks = λ y. (let a = pool-cut (nat_eq y) (λ u. u.blocks) refl (λ u z. refl) s.views id v l r at in omega arith);
      }) refl refl (λ j some-number. (let c : one_if (nat_eq j 0) ≡ 0 = ap one_if (ne_eqb j 0 (λ e. omega arith)) in omega arith))
      (omega arith) (omega arith) (share-left p m v l (h.shares id v at) live refl refl refl refl refl refl refl refl refl refl ((h.shares id v at).fewer live) refl (λ j. omega arith))
      (share-of-none p m r (inr (omega arith)) refl (omega arith) (λ j none-given. absurd (omega (arith, none-given))) refl refl refl refl refl refl refl refl refl refl) refl refl refl

  -- what is so of two shares is so of both together
  share-both : (m : Machine) (v w : Share) → 0 < v.parts → IsShareOf p m v → IsShareOf p m w → IsShareOf p m (both_shares v w)
  share-both m v w live is other = record {
    token = λ none. absurd (omega arith);
    busy = λ b has. ⊎_elim (λ (a : 0 < times b v.busy). is.busy b a) (λ (a : 0 < times b w.busy). other.busy b a) (either-list b v.busy w.busy has);
    lined = λ n few set-by. (let i : ℕ = first (blocks p) LineWords + n / 64 in ⊎_elim (λ (a : 0 < hits i set-by.0 v.lined). is.lined n few (set-by.0, set-by.1, a))
        (λ (a : 0 < hits i set-by.0 w.lined). other.lined n few (set-by.0, set-by.1, a)) (either-pair i set-by.0 v.lined w.lined set-by.2));
    owned = λ b k has. ⊎_elim (λ (a : 0 < hits b k v.owned). is.owned b k a) (λ (a : 0 < hits b k w.owned). other.owned b k a) (either-pair b k v.owned w.owned has);
    owner = λ b has. ⊎_elim (λ (a : 0 < times b v.blocks). let was = is.owner b a in (was.0, first-pair b was.0 v.owned w.owned was.1))
        (λ (a : 0 < times b w.blocks). let was = other.owner b a in (was.0, second-pair b was.0 v.owned w.owned was.1)) (either-list b v.blocks w.blocks has);
    full = λ b has. ⊎_elim (λ (a : 0 < times b v.full). is.full b a) (λ (a : 0 < times b w.full). other.full b a) (either-list b v.full w.full has);
    room = λ some-word. (let end = is.room some-word in (end.0, record { from = end.1.from; limit = end.1.limit; words = end.1.words; front = end.1.front; filled = end.1.filled; owner = first-pair end.0 v.worker v.owned w.owned end.1.owner }));
    number = is.number;
    numbers = λ k has. ⊎_elim (λ (a : 0 < times k v.numbers). is.numbers k a) (λ (a : 0 < times k w.numbers). other.numbers k a) (either-list k v.numbers w.numbers has);
    one = is.one;
    none = is.none;
    few = (let a = length-append v.last (w.filling ++ w.last) in let c = length-append w.filling w.last in let d = is.few in let e = other.few in omega arith);
    fewer = λ some-part. (let a = length-append v.last (w.filling ++ w.last) in let c = length-append w.filling w.last in let d = is.fewer live in let e = other.few in omega arith);
    listed = λ b has. ⊎_elim (λ (a : 0 < times b v.blocks). ⊎_elim (λ (f : 0 < times b v.filling). inl f)
        (λ (q : (0 < times b v.last) ⊎ ((0 < times b v.full) ⊎ (0 < times b v.sparse))). inr (⊎_elim (λ (f : 0 < times b v.last). inl (in-first b v.last (w.filling ++ w.last) f))
        (λ (o : (0 < times b v.full) ⊎ (0 < times b v.sparse)). inr (⊎_elim (λ (f : 0 < times b v.full). inl (in-first b v.full w.full f)) (λ (f : 0 < times b v.sparse). inr (in-first b v.sparse w.sparse f)) o)) q)) (is.listed b a))
        (λ (a : 0 < times b w.blocks). inr (⊎_elim (λ (f : 0 < times b w.filling). inl (in-second b v.last (w.filling ++ w.last) (in-first b w.filling w.last f)))
        (λ (q : (0 < times b w.last) ⊎ ((0 < times b w.full) ⊎ (0 < times b w.sparse))). ⊎_elim (λ (f : 0 < times b w.last). inl (in-second b v.last (w.filling ++ w.last) (in-second b w.filling w.last f)))
        (λ (o : (0 < times b w.full) ⊎ (0 < times b w.sparse)). inr (⊎_elim (λ (f : 0 < times b w.full). inl (in-second b v.full w.full f)) (λ (f : 0 < times b w.sparse). inr (in-second b v.sparse w.sparse f)) o)) q) (other.listed b a)))
        (either-list b v.blocks w.blocks has);
  }

  -- a spent share
  share-spent : (m : Machine) → IsShareOf p m empty_share
  share-spent m = record {
    token = λ none. record { gave = refl; took = refl; made = refl; spent = λ e. record { won = refl; grey = refl; copied = refl; unset = refl; set = refl; asked = refl; blocks = refl } };
    busy = λ b has. absurd (omega (arith, has));
    lined = λ n few set-by. absurd (let some-bit = set-by.2 in omega (arith, some-bit));
    owned = λ b k has. absurd (omega (arith, has));
    owner = λ b has. absurd (omega (arith, has));
    full = λ b has. absurd (omega (arith, has));
    room = λ some-word. absurd (omega arith);
    number = omega arith;
    numbers = λ k has. absurd (omega (arith, has));
    one = omega arith;
    none = λ nobody. refl;
    few = omega arith;
    fewer = λ some-part. absurd (omega arith);
    listed = λ b has. absurd (omega (arith, has));
  }

  -- one share takes in all of another
  pub joins : (id : ℕ) (v : Share) (other : ℕ) (w : Share) → 0 < v.parts → Joins (KeepsTrace p) id v other w (both_shares v w) empty_share
  joins id v other w live s h at apart there =
      let m : Machine = machine_after p h.events in let b : Share = both_shares v w in let n : Share = empty_share in
      let was : get_elem? s.views other ≡ some w = ⊎_elim (λ (o : (other ≡ id) × (b ≡ w)). absurd (apart o.0)) (λ (o : (other ≢ id) × (get_elem? s.views other ≡ some w)). o.1) (at_set s.views id other b w there) in record {
        events = h.events;
        trace = h.trace;
        words = h.words;
        made = λ test. (let a = total-set (times_made test) s.views id v b at in let c = total-set (times_made test) (set s.views id b) other w n there in let d = count-append test v.made w.made in let e = h.made test in omega arith);
        numbers = λ k some-number. (let a = total-set (has_number k) s.views id v b at in let c = total-set (has_number k) (set s.views id b) other w n there in
            let d = count-append (nat_eq k) v.numbers w.numbers in let e = h.numbers k some-number in let f : one_if (nat_eq k 0) ≡ 0 = ap one_if (ne_eqb k 0 (λ z. omega arith)) in omega arith);
        holds = holds-same p m (pooled s.views) (pooled (set (set s.views id b) other n)) h.holds (record {
          won = λ y k. (let a = pool-join (is_pair y k) (λ u. u.won) refl (λ u z. refl) s.views id other v w b n at there in let c = count-append (is_pair y k) v.won w.won in omega arith);
          grey = λ y k. (let a = pool-join (is_pair y k) (λ u. u.grey) refl (λ u z. refl) s.views id other v w b n at there in let c = count-append (is_pair y k) v.grey w.grey in omega arith);
          copied = λ y. (let a = pool-join (nat_eq y) (λ u. u.copied) refl (λ u z. refl) s.views id other v w b n at there in let c = count-append (nat_eq y) v.copied w.copied in omega arith);
          unset = λ y. (let a = pool-join (nat_eq y) (λ u. u.unset) refl (λ u z. refl) s.views id other v w b n at there in let c = count-append (nat_eq y) v.unset w.unset in omega arith);
          set = λ y. (let a = pool-join (nat_eq y) (λ u. u.set) refl (λ u z. refl) s.views id other v w b n at there in let c = count-append (nat_eq y) v.set w.set in omega arith);
          asked = λ y. (let a = pool-join (nat_eq y) (λ u. u.asked) refl (λ u z. refl) s.views id other v w b n at there in let c = count-append (nat_eq y) v.asked w.asked in omega arith);
          known = λ y u. (let a = pool-join (is_pair y u) (λ z. z.known) refl (λ z e. refl) s.views id other v w b n at there in let c = count-append (is_pair y u) v.known w.known in omega arith);
          blocks = λ y. (let a = pool-join (nat_eq y) (λ u. u.blocks) refl (λ u z. refl) s.views id other v w b n at there in let c = count-append (nat_eq y) v.blocks w.blocks in omega arith);
        });
        parts = (let a = total-set (λ z. z.parts) s.views id v b at in let c = total-set (λ z. z.parts) (set s.views id b) other w n there in let d = h.parts in omega arith);
        tokens = (let a = total-set (λ z. z.gave) s.views id v b at in let c = total-set (λ z. z.gave) (set s.views id b) other w n there in
            let d = total-set (λ z. z.took) s.views id v b at in let e = total-set (λ z. z.took) (set s.views id b) other w n there in
            let f = total-set (λ z. z.token) s.views id v b at in let g = total-set (λ z. z.token) (set s.views id b) other w n there in let k = h.tokens in omega arith);
        shares = λ j u is. ⊎_elim (λ (o : (j ≡ other) × (n ≡ u)). subst (IsShareOf p m) o.1 (share-spent m))
            (λ (o : (j ≢ other) × (get_elem? (set s.views id b) j ≡ some u)). ⊎_elim (λ (e : (j ≡ id) × (b ≡ u)). subst (IsShareOf p m) e.1 (share-both m v w live (h.shares id v at) (h.shares other w was)))
            (λ (e : (j ≢ id) × (get_elem? s.views j ≡ some u)). h.shares j u e.1) (at_set s.views id j b u o.1)) (at_set (set s.views id b) other j n u is);
        rooms = λ a. (let c = total-set (rooms_at a) s.views id v b at in let d = total-set (rooms_at a) (set s.views id b) other w n there in let e = h.rooms a in let f = no-room a n refl in omega arith);
      }
