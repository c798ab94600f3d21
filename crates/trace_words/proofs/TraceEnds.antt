-- How a racing trace begins and ends.
use Rattle.std.proofs.Common.{◌≡◌, ℕ, zero, suc, ◌+◌, ◌<◌, ◌≤◌, ◌⊎◌, inl, inr, ⊎_elim, Bool, false, true≢false, ◌&&◌, not, IsTrue, nat_eq, nat_lt, List, [], ◌∷◌, ◌++◌, append-nil, refl, sym, ap, ◌∙◌, subst, arith, Some}
use Rattle.std.specs.Prelude.{count_by}
use Rattle.std.specs.List.{range_with_len}
use Rattle.std.proofs.lemmas.Bool.{cases_Bool, cases_eq, ne_eqb, ltb-true, lt-ltb, and_from, and_parts, and_left, and_right, not_from_false, not-true, eq-eqb}
use mathlib.Core.Option.{some, some-injective, some-ne-none}
use lib.ListN.{get_elem?}
use Rattle.atomic_table.specs.Table.{opening, Final, Seen}
use Rattle.heap_layout.specs.Zones.{LineWords, bit_of}
use Rattle.object_model.specs.Times.{times, one_if}
use Rattle.trace_core.specs.Setups.{Setup, blocks, TraceMayBegin, refs, stays_old, keeps_its_words, was_logged}
use Rattle.trace_core.specs.Machine.{Machine, first_machine, Event, Stage, Unclaimed, Copying, Scanning, target}
use Rattle.trace_core.specs.Traces.{IsTracing, IsFinished, machine_after, fields_scanned}
use Rattle.trace_core.specs.Rooms.{IsFilled}
use Rattle.trace_core.specs.Views.{View, first_view, Holds, NothingIsLeft, hits, is_pair, is_stage_copied, is_scanning, is_copying}
use Rattle.trace_core.specs.declared.run.TraceRun.{TraceRun}
use Rattle.trace_core.proofs.CountedRights.{times-cons}
use Rattle.trace_core.proofs.Clauses.{old-target, scanned-once, none-is-free}
use Rattle.trace_core.proofs.FirstView.{first-holds, times-range}
use Rattle.trace_core.proofs.Idle.{one-if-from, one-if-true, finishes}
use Rattle.trace_core.proofs.Objects.{None-not-Some}
use Rattle.trace_words.specs.declared.event.TraceEvent.{TraceEvent}
use Rattle.trace_words.specs.declared.share.Share.{Share}
use Rattle.trace_words.specs.Shares.{view_of, pooled, total, no_view, both_views, first_share}
use Rattle.trace_words.specs.Rule.{TraceState, KeepsTrace, IsShareOf, HasNoRight, times_listed, times_made}
use Rattle.trace_words.specs.Steps.{IsWhole, IsDone, ScansOnce, LeavesTrace}
use Rattle.trace_words.proofs.Pooled.{part-of, pool-counts, holds-same}
use Rattle.trace_words.proofs.Rooms.{no-room, one-most}
use Rattle.trace_words.proofs.SeatSteps.{share-of-none}

-- One share alone has what all have, where each share without parts has nothing.
module _ (parts f : Share → ℕ) where
  none-else : (vs : List Share) → ((j : ℕ) (v : Share) → get_elem? vs j ≡ some v → parts v ≡ 0 → f v ≡ 0) → total parts vs ≡ 0 → total f vs ≡ 0
  none-else [] idle nil = refl
  none-else (x ∷ xs) idle nil = let a : f x ≡ 0 = idle 0 x refl (omega arith) in let b : total f xs ≡ 0 = none-else xs (λ j. idle (suc j)) (omega arith) in omega arith

  alone : (vs : List Share) → ((j : ℕ) (v : Share) → get_elem? vs j ≡ some v → parts v ≡ 0 → f v ≡ 0) → (j : ℕ) (v : Share) → get_elem? vs j ≡ some v → total parts vs ≡ parts v → total f vs ≡ f v
  alone [] idle j v is all = absurd (some-ne-none v (sym is))
  alone (x ∷ xs) idle zero v is all = let e : f x ≡ f v = ap f (some-injective x v is) in let d : parts x ≡ parts v = ap parts (some-injective x v is) in
      let b : total f xs ≡ 0 = none-else xs (λ j. idle (suc j)) (omega arith) in omega arith
  alone (x ∷ xs) idle (suc j) v is all = let l : parts v ≤ total parts xs = part-of parts xs j v is in let a : f x ≡ 0 = idle 0 x refl (omega arith) in
      let b = alone xs (λ k. idle (suc k)) j v is (omega arith) in omega arith

module _ (p : Setup) (s : TraceState) (h : KeepsTrace p s) (id : ℕ) (v : Share) (at : get_elem? s.views id ≡ some v) (whole : IsWhole p v) where
  abbrev now : Machine
  now = machine_after p h.events

  all-parts : total (λ z. z.parts) s.views ≡ v.parts
  all-parts = h.parts ∙ sym whole.parts

  no-tokens : total (λ z. z.token) s.views ≡ 0
  no-tokens = let a = alone (λ z. z.parts) (λ z. z.gave) s.views (λ j u is empty. ((h.shares j u is).token empty).gave) id v at all-parts in
      let b = alone (λ z. z.parts) (λ z. z.took) s.views (λ j u is empty. ((h.shares j u is).token empty).took) id v at all-parts in
      let c = h.tokens in let d = whole.tokens in omega arith

  no-right : (j : ℕ) (u : Share) → get_elem? s.views j ≡ some u → u.parts ≡ 0 → HasNoRight u
  no-right j u is empty = ((h.shares j u is).token empty).spent (let a = part-of (λ z. z.token) s.views j u is in let b = no-tokens in omega arith)

  module _ {A : Type 0} (test : A → Bool) (list : View → List A) (none : list no_view ≡ []) (both : (v w : View) → list (both_views v w) ≡ list v ++ list w)
      (nothing : (u : Share) → HasNoRight u → list (view_of u) ≡ []) where
    only : count_by test (list (view_of v)) ≡ count_by test (list (pooled s.views))
    only = sym (pool-counts test list none both s.views
        ∙ alone (λ z. z.parts) (λ z. count_by test (list (view_of z))) s.views (λ j u is empty. ap (count_by test) (nothing u (no-right j u is empty))) id v at all-parts)

  all-rights : Holds p now (view_of v)
  all-rights = holds-same p now (pooled s.views) (view_of v) h.holds (record {
    won = λ y k. only (is_pair y k) (λ u. u.won) refl (λ u z. refl) (λ u is. is.won);
    grey = λ y k. only (is_pair y k) (λ u. u.grey) refl (λ u z. refl) (λ u is. is.grey);
    copied = λ y. only (nat_eq y) (λ u. u.copied) refl (λ u z. refl) (λ u is. is.copied);
    unset = λ y. only (nat_eq y) (λ u. u.unset) refl (λ u z. refl) (λ u is. is.unset);
    set = λ y. only (nat_eq y) (λ u. u.set) refl (λ u z. refl) (λ u is. is.set);
    asked = λ y. only (nat_eq y) (λ u. u.asked) refl (λ u z. refl) (λ u is. is.asked);
    known = λ y u. (let a = pool-counts (is_pair y u) (λ z. z.known) refl (λ z e. refl) s.views in let b = part-of (λ z. hits y u z.known) s.views id v at in omega arith);
    blocks = λ y. only (nat_eq y) (λ u. u.blocks) refl (λ u z. refl) (λ u is. is.blocks);
  })

  -- it made each event
  all-made : (test : TraceEvent → Bool) → times_listed test h.events ≡ times_made test v
  all-made test = h.made test ∙ alone (λ z. z.parts) (times_made test) s.views (λ j u is empty. ap (count_by test) ((h.shares j u is).token empty).made) id v at all-parts

  -- each block that was taken is one of the share's
  taken-is : (b : ℕ) → 0 < now.taken b → (0 < times b v.last) ⊎ ((0 < times b v.sparse) ⊎ IsFilled p now b 2049)
  taken-is b took =
      let listed : times b v.blocks ≡ 1 = all-rights.blocks b ∙ one-if-true (nat_lt 0 (now.taken b)) (lt-ltb 0 (now.taken b) took) in let is = h.shares id v at in
      ⊎_elim (λ (f : 0 < times b v.filling). absurd (let none : times b v.filling ≡ 0 = ap (times b) (is.none whole.worker) in omega arith))
      (λ (q : (0 < times b v.last) ⊎ ((0 < times b v.full) ⊎ (0 < times b v.sparse))). ⊎_elim (λ (f : 0 < times b v.last). inl f)
      (λ (o : (0 < times b v.full) ⊎ (0 < times b v.sparse)). inr (⊎_elim (λ (f : 0 < times b v.full). inr (is.full b f)) (λ (f : 0 < times b v.sparse). inl f) o)) q)
      (is.listed b (omega arith))

-- Where nothing is left to do for the one share that has all rights, the trace is finished.
module _ (p : Setup) (es : List Event) (trace : IsTracing p es) (v : Share) (holds : Holds p (machine_after p es) (view_of v)) (done : IsDone p v) where
  abbrev m : Machine
  m = machine_after p es

  scanned : (x : ℕ) → keeps_its_words p x ≡ false → (t k : ℕ) → m.stage x ≡ Scanning t k → 0 < hits x (refs p x) v.grey
  scanned x busy t k at =
      let one : hits x k v.grey ≡ 1 = holds.grey x k ∙ one-if-true (not (keeps_its_words p x) && is_scanning k (m.stage x))
      (and_from (not (keeps_its_words p x)) (is_scanning k (m.stage x)) (not_from_false (keeps_its_words p x) busy) (ap (is_scanning k) at ∙ eq-eqb k k refl)) in
      subst (λ n. 0 < hits x n v.grey) (done.grey x k (omega arith)) (omega arith)

  by-copied : (x : ℕ) (st : Stage) → m.stage x ≡ st → IsTrue (is_stage_copied st) → (t : ℕ) × (k : ℕ) × (m.stage x ≡ Scanning t k)
  by-copied x Unclaimed at copied = absurd (true≢false (sym copied))
  by-copied x (Copying t k) at copied = absurd (true≢false (sym copied))
  by-copied x (Scanning t k) at copied = (t, k, at)

  no-copying : (x t k : ℕ) → m.stage x ≡ Copying t k → ⊥
  no-copying x t k at = let one : hits x k v.won ≡ 1 = holds.won x k ∙ ap (λ z. one_if (is_copying k z)) at ∙ one-if-true (nat_eq k k) (eq-eqb k k refl) in
      let zero : hits x k v.won ≡ 0 = ap (hits x k) done.won in absurd (omega arith)

  by-old : (x : ℕ) (st : Stage) → m.stage x ≡ st → target (m.stage x) ≡ Some x → (t : ℕ) × (k : ℕ) × (m.stage x ≡ Scanning t k)
  by-old x Unclaimed at there = absurd (None-not-Some x (ap target (sym at) ∙ there))
  by-old x (Copying t k) at there = absurd (no-copying x t k at)
  by-old x (Scanning t k) at there = (t, k, at)

  nothing-left : NothingIsLeft p (view_of v)
  nothing-left = record {
    won = done.won;
    copied = λ x some-copied. (let right : IsTrue (not (stays_old p x) && is_stage_copied (m.stage x)) = one-if-from _ (subst (λ n. 0 < n) (holds.copied x) some-copied) in
        let both = and_parts (not (stays_old p x)) (is_stage_copied (m.stage x)) right in
        let stage = by-copied x (m.stage x) refl both.1 in
        scanned x (and_left (stays_old p x) (not (p.logged x)) (not-true (stays_old p x) both.0)) stage.0 stage.1 stage.2);
    logged = λ x logged. (let both = and_parts (stays_old p x) (p.logged x) logged in
        let busy : keeps_its_words p x ≡ false = and_right (stays_old p x) (not (p.logged x)) (ap not both.1) in
        let stage = by-old x (m.stage x) refl (old-target p es trace x both.0) in scanned x busy stage.0 stage.1 stage.2);
    globals = λ g below. (let none : times g v.unset ≡ 0 = ap (times g) done.unset in
        elim (cases_Bool (m.set g)) as (λ _. 0 < times g v.set) [
          | inl set-now ↦ (let one : times g v.set ≡ 1 = holds.set g ∙ one-if-true (m.set g) set-now in omega arith)
          | inr unset-now ↦ absurd (let one : times g v.unset ≡ 1 = holds.unset g ∙ one-if-true (nat_lt g 16 && not (m.set g)) (and_from (nat_lt g 16) (not (m.set g)) (lt-ltb g 16 below) (not_from_false (m.set g) unset-now)) in omega arith)
        ]);
  }

  is-finished : IsFinished p m
  is-finished = finishes p es trace (view_of v) holds nothing-left

  is-scanned-once : ScansOnce p es
  is-scanned-once x t is busy = scanned-once p es trace x busy ∙ ap fields_scanned (is-finished.objects x t is)

-- the words at the end, and what the share then has if it has all parts
pub closes : (p : Setup) (ws : List ℕ) (xs : List (Unit {0})) (id : ℕ) (v : Share) → Final (Seen (KeepsTrace p) id v) ws xs → LeavesTrace p ws v
closes p ws xs id v (s, (h, at), words, homes, more) = record {
  events = h.events;
  trace = h.trace;
  words_are = sym words ∙ h.words;
  lined = λ n few set-by. subst (λ l. IsTrue (bit_of (blocks p) LineWords l n)) (sym (sym words ∙ h.words)) ((h.shares id v at).lined n few set-by);
  stays = λ x is young moves b free. none-is-free p h.events h.trace x is young moves b free;
  owner = (h.shares id v at).owner;
  owners = λ b k has. ((h.shares id v at).owned b k has).1;
  whole = λ is. record {
    holds = all-rights p s h id v at is;
    taken = taken-is p s h id v at is;
    made = all-made p s h id v at is;
    few = (let all = is.parts in let kept = (h.shares id v at).fewer (omega arith) in omega arith);
    finished = λ done. is-finished p h.events h.trace v (all-rights p s h id v at is) done;
    once = λ done. is-scanned-once p h.events h.trace v (all-rights p s h id v at is) done;
  };
}

times-before : (a n g : ℕ) → g < a → times g (range_with_len a n) ≡ 0
times-before a zero g before = refl
times-before a (suc n) g before = let one = times-cons a (range_with_len (a + 1) n) g in let other : one_if (nat_eq g a) ≡ 0 = ap one_if (ne_eqb g a (λ e. omega arith)) in
    let rest = times-before (a + 1) n g (omega arith) in omega arith

-- The row begins with one share, which has all rights.
module _ (p : Setup) (run : TraceRun) (ready : TraceMayBegin p) (logged : (x : ℕ) → times x run.logged.items ≡ one_if (was_logged p x)) where
  abbrev whole : Share
  whole = first_share run p.workers

  one-more : {A : Type 0} (test : A → Bool) (l : List A) → count_by test (l ++ []) ≡ count_by test l
  one-more test l = ap (count_by test) (append-nil l)

  number-of : (k : ℕ) → 0 < times k (range_with_len 1 p.workers) → (0 < k) × (k ≤ p.workers)
  number-of k has = elim (cases_eq k 0) as (λ _. (0 < k) × (k ≤ p.workers)) [
    | inl nothing ↦ absurd (let none = times-before 1 p.workers k (omega arith) in omega arith)
    | inr some-number ↦ (let right = times-range 1 p.workers k (omega arith) in let below = ltb-true k (1 + p.workers) (one-if-from _ (omega arith)) in (omega arith, omega arith))
  ]

  the-share : (j : ℕ) (u : Share) → get_elem? (whole ∷ []) j ≡ some u → IsShareOf p (first_machine p) u
  the-share zero u is = subst (IsShareOf p (first_machine p)) (some-injective whole u is) (share-of-none p (first_machine p) whole (inl (omega arith)) refl (omega arith) number-of refl refl refl refl refl refl refl refl refl refl)
  the-share (suc j) u is = absurd (some-ne-none u (sym is))

  pub begins : KeepsTrace p (opening p.before.words [] whole)
  begins = record {
    events = [];
    trace = record { ready = ready; events = tt };
    words = refl;
    made = λ test. refl;
    numbers = λ k some-number. (let right = times-range 1 p.workers k (omega arith) in let most = one-most (nat_lt k (1 + p.workers)) in let c : one_if (nat_eq k 0) ≡ 0 = ap one_if (ne_eqb k 0 (λ e. omega arith)) in omega arith);
    holds = holds-same p (first_machine p) (first_view run) (pooled (whole ∷ [])) (first-holds p ready run logged) (record {
      won = λ x k. one-more (is_pair x k) (first_view run).won;
      grey = λ x k. one-more (is_pair x k) (first_view run).grey;
      copied = λ x. one-more (nat_eq x) (first_view run).copied;
      unset = λ x. one-more (nat_eq x) (first_view run).unset;
      set = λ x. one-more (nat_eq x) (first_view run).set;
      asked = λ x. one-more (nat_eq x) (first_view run).asked;
      known = λ x t. (let a = one-more (is_pair x t) (first_view run).known in omega arith);
      blocks = λ x. one-more (nat_eq x) (first_view run).blocks;
    });
    parts = omega arith;
    tokens = refl;
    shares = the-share;
    rooms = λ a. (let e = no-room a whole refl in omega arith);
  }
