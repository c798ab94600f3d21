-- The rule as an epoch begins, when seats are dealt and gathered, and at the end.
use Rattle.std.proofs.Common.{◌≡◌, ◌≢◌, ℕ, zero, suc, ◌+◌, ◌<◌, ◌≤◌, ◌==◌, Bool, cond, eq-eqb, ne_eqb, List, [], ◌∷◌, ◌++◌, length, map, set, take, drop, refl, sym, ◌∙◌, ap, subst, ⊎_elim, inl, inr, arith}
use Rattle.std.specs.List.{Contains, AllByRecursion}
use Rattle.std.proofs.lemmas.Bool.{cases_eq}
use Rattle.std.proofs.lemmas.List.Sums.{sum_by-cons, sum_by_push}
use mathlib.Core.Option.{some, some-injective, some-ne-none}
use lib.ListN.{get_elem?}
use Rattle.atomic_table.specs.Table.{Splits, Joins, opening, Final, Seen}
use Rattle.atomic_table.proofs.Lists.{at_set, at_snoc}
use Rattle.ideal_heap.specs.Ideal.{IdealHeap}
use Rattle.object_model.specs.Graphs.{AreDifferent, Represents, numbers_of}
use Rattle.object_model.proofs.Among.{number-among}
use Rattle.sessions.specs.Plans.{Rules}
use Rattle.mutator_calls.specs.declared.need.Mutator.{Mutator}
use Rattle.mutator_core.specs.declared.state.LogEntry.{LogEntry}
use Rattle.mutator_core.specs.Machine.{Epoch, first_local, first_local_of}
use Rattle.mutator_core.specs.Epochs.{EpochMayBegin}
use Rattle.mutator_core.specs.Logs.{IsEpochLog}
use Rattle.mutator_core.specs.declared.state.Local.{Local}
use Rattle.mutator_rule.proofs.Moments.{inside-row}
use Rattle.mutator_core.proofs.Beginnings.{differ-head, differ-tail}
use Rattle.mutator_core.proofs.SomeIdeal.{own-local}
use Rattle.mutator_rule.specs.declared.views.EpochStart.{EpochStart}
use Rattle.mutator_rule.specs.declared.views.MutatorView.{MutatorView}
use Rattle.mutator_rule.specs.Views.{mutator_state, epoch_with, first_view, first_views, first_views_of, views_of, times_in}
use Rattle.mutator_rule.specs.Logs.{Agrees, HasOneLog, EndsWith, KnowsLog, StaysInRow}
use Rattle.mutator_rule.proofs.Longest.{longest}
use Rattle.mutator_rule.proofs.Totals.{total_set, parts_append}

-- what the rule says of each part of a view
abbrev pub AllAgree : Rules → EpochStart → List LogEntry → List MutatorView → Type 0
AllAgree rules g log v = (k : ℕ) (q : MutatorView) → get_elem? v k ≡ some q → Agrees rules g log q

-- numbers that differ are counted once
none-counted : (m : ℕ) (ns : List ℕ) → AllByRecursion (λ k. k ≢ m) ns → times_in m ns ≡ 0
none-counted m [] all = refl
none-counted m (x ∷ xs) all = let rest = none-counted m xs all.1 in
    let zero : cond {A = ℕ} (x == m) 1 0 ≡ 0 = ap (λ (b : Bool). cond {A = ℕ} b 1 0) (ne_eqb x m all.0) in
    omega (arith, rest, zero, sum_by-cons (λ (y : ℕ). cond {A = ℕ} (y == m) 1 0) x xs)

pub differ-once : (ns : List ℕ) → AreDifferent ns → (m : ℕ) → times_in m ns ≤ 1
differ-once [] differ m = (let z : times_in m [] ≡ 0 = refl in omega (arith, z))
differ-once (x ∷ xs) differ m = elim (cases_eq x m) as (λ _. times_in m (x ∷ xs) ≤ 1) [
  | inl e ↦ (let rest = none-counted m xs (subst (λ k. AllByRecursion (λ y. y ≢ k) xs) e (differ-head x xs differ)) in
      let one : cond {A = ℕ} (x == m) 1 0 ≡ 1 = ap (λ (b : Bool). cond {A = ℕ} b 1 0) (eq-eqb x m e) in
      omega (arith, rest, one, sum_by-cons (λ (y : ℕ). cond {A = ℕ} (y == m) 1 0) x xs))
  | inr ne ↦ (let rest = differ-once xs (differ-tail x xs differ) m in
      let none : cond {A = ℕ} (x == m) 1 0 ≡ 0 = ap (λ (b : Bool). cond {A = ℕ} b 1 0) (ne_eqb x m ne) in
      omega (arith, rest, none, sum_by-cons (λ (y : ℕ). cond {A = ℕ} (y == m) 1 0) x xs))
]

-- a mutator of the list is among their states, and its first state is its own
among-states : (ms : List Mutator) (k : ℕ) (q : Mutator) → get_elem? ms k ≡ some q → Contains (map mutator_state ms) (mutator_state q)
among-states [] k q e = absurd (some-ne-none q (sym e))
among-states (m ∷ ms) zero q e = (0, (let n : 0 < suc (length (map mutator_state ms)) = omega arith in n), ap mutator_state (some-injective m q e))
among-states (m ∷ ms) (suc k) q e = let rest = among-states ms k q e in (suc rest.0, (let n : rest.0 < length (map mutator_state ms) = rest.1 in omega arith), rest.2)

own-state-of : (ms : List Mutator) (k : ℕ) (q : Mutator) → AreDifferent (numbers_of (map mutator_state ms)) → get_elem? ms k ≡ some q → first_local (mutator_state q) ≡ first_local_of (map mutator_state ms) q.number
own-state-of ms k q differ e = sym (own-local (map mutator_state ms) (mutator_state q) differ (among-states ms k q e))

first-at : (g : EpochStart) (ms : List Mutator) (k : ℕ) (q : MutatorView) → get_elem? (first_views_of g ms) k ≡ some q → (m : Mutator) × (get_elem? ms k ≡ some m) × (first_view g m ≡ q)
first-at g [] k q e = absurd (some-ne-none q (sym e))
first-at g (m ∷ ms) zero q e = (m, refl, some-injective _ _ e)
first-at g (m ∷ ms) (suc k) q e = first-at g ms k q e

first-agree : (rules : Rules) (g : EpochStart) → AreDifferent (numbers_of (epoch_with rules g).mutators) → AllAgree rules g [] (first_views g)
first-agree rules g differ k q e =
    let t = first-at g g.mutators k q e in
    subst (Agrees rules g []) t.2 (refl, record { prefix = ([], refl); own = refl; local = own-state-of g.mutators k t.0 differ t.1 })

-- what each mutator knows at the beginning is so
pub first-knows : (rules : Rules) (g : EpochStart) → EpochMayBegin (epoch_with rules g) → (i : IdealHeap) → Represents (epoch_with rules g).before (epoch_with rules g).mutators i
    → AreDifferent (numbers_of (epoch_with rules g).mutators) → (k : ℕ) (m : Mutator) → get_elem? g.mutators k ≡ some m → KnowsLog (epoch_with rules g) (first_view g m)
first-knows rules g ready i represents differ k m e =
    let p : Epoch = epoch_with rules g in
    let epoch : IsEpochLog p i [] = record { ready = ready; represents = represents; steps = tt } in
    let now = own-state-of g.mutators k m differ e in
    let known = number-among (map mutator_state g.mutators) (mutator_state m) (among-states g.mutators k m e) in
    record {
      ideal = i;
      epoch = epoch;
      now = now;
      known = known;
      inside = subst (λ (l : Local). StaysInRow p l) (sym now) (inside-row p i [] epoch m.number known);
    }

first-counts : (g : EpochStart) (ms : List Mutator) (m : ℕ) → views_of m (first_views_of g ms) ≡ times_in m (numbers_of (map mutator_state ms))
first-counts g [] m = refl
first-counts g (x ∷ xs) m = omega (
  arith,
  first-counts g xs m,
  sum_by-cons (λ (p : MutatorView). cond {A = ℕ} (p.local.number == m) 1 0) (first_view g x) (first_views_of g xs),
  sum_by-cons (λ (y : ℕ). cond {A = ℕ} (y == m) 1 0) x.number (numbers_of (map mutator_state xs)),
)

pub opens : (rules : Rules) (g : EpochStart) → EpochMayBegin (epoch_with rules g) → (i : IdealHeap) → Represents (epoch_with rules g).before (epoch_with rules g).mutators i
    → AreDifferent (numbers_of (epoch_with rules g).mutators) → HasOneLog rules g (opening g.words [] (first_views g))
opens rules g ready i represents differ = record {
  log = [];
  ideal = i;
  epoch = record { ready = ready; represents = represents; steps = tt };
  words = refl;
  differ = differ;
  apart = differ-once (numbers_of (epoch_with rules g).mutators) differ;
  views = λ m. omega (arith, first-counts g g.mutators m, sum_by-cons (λ (v : List MutatorView). views_of m v) (first_views g) []);
  agree = one;
}
  where
    one : (id : ℕ) (v : List MutatorView) → get_elem? (first_views g ∷ []) id ≡ some v → AllAgree rules g [] v
    one zero v e = subst (AllAgree rules g []) (some-injective _ _ e) (first-agree rules g differ)
    one (suc id) v e = absurd (some-ne-none v (sym e))

module _ (rules : Rules) (g : EpochStart) where
  drop-agree : (log : List LogEntry) (v : List MutatorView) → AllAgree rules g log v → AllAgree rules g log (drop 1 v)
  drop-agree log [] fit k p e = absurd (some-ne-none p (sym e))
  drop-agree log (x ∷ xs) fit k p e = fit (suc k) p e

  take-agree : (log : List LogEntry) (v : List MutatorView) → AllAgree rules g log v → AllAgree rules g log (take 1 v)
  take-agree log [] fit k p e = absurd (some-ne-none p (sym e))
  take-agree log (x ∷ xs) fit zero p e = fit zero p e
  take-agree log (x ∷ xs) fit (suc k) p e = absurd (some-ne-none p (sym e))

  cut-counts : (m : ℕ) (v : List MutatorView) → views_of m (take 1 v) + views_of m (drop 1 v) ≡ views_of m v
  cut-counts m [] = refl
  cut-counts m (x ∷ xs) = sym (parts_append m (x ∷ []) xs)

  -- a view that changes, where the others stay
  set-agree : (log : List LogEntry) (views : List (List MutatorView)) (id : ℕ) (w : List MutatorView) → ((j : ℕ) (u : List MutatorView) → j ≢ id → get_elem? views j ≡ some u → AllAgree rules g log u) → AllAgree rules g log w
      → (j : ℕ) (u : List MutatorView) → get_elem? (set views id w) j ≡ some u → AllAgree rules g log u
  set-agree log views id w others mine j u e = ⊎_elim
      (λ (t : (j ≡ id) × (w ≡ u)). subst (AllAgree rules g log) t.1 mine)
      (λ (t : (j ≢ id) × (get_elem? views j ≡ some u)). others j u t.0 t.1)
      (at_set views id j w u e)

  pub deals : (id : ℕ) (v : List MutatorView) → Splits (HasOneLog rules g) id v (drop 1 v) (take 1 v)
  deals id v s kept at = record {
    log = kept.log;
    ideal = kept.ideal;
    epoch = kept.epoch;
    words = kept.words;
    differ = kept.differ;
    apart = kept.apart;
    views = λ m. (let all = kept.views m in omega (arith, all, cut-counts m v, total_set (λ (x : List MutatorView). views_of m x) s.views id v (drop 1 v) at, sum_by_push (λ (x : List MutatorView). views_of m x) (set s.views id (drop 1 v)) (take 1 v)));
    agree = λ j u e. ⊎_elim
        (λ was. set-agree kept.log s.views id (drop 1 v) (λ i x ne e'. kept.agree i x e') (drop-agree kept.log v (kept.agree id v at)) j u was)
        (λ (same : take 1 v ≡ u). subst (AllAgree rules g kept.log) same (take-agree kept.log v (kept.agree id v at)))
        (at_snoc (set s.views id (drop 1 v)) (take 1 v) u j e);
  }

  append-agree : (log : List LogEntry) (v w : List MutatorView) → AllAgree rules g log v → AllAgree rules g log w → AllAgree rules g log (v ++ w)
  append-agree log [] w one two k p e = two k p e
  append-agree log (x ∷ xs) w one two zero p e = one zero p e
  append-agree log (x ∷ xs) w one two (suc k) p e = append-agree log xs w (λ i q e'. one (suc i) q e') two k p e

  none-agrees : (log : List LogEntry) → AllAgree rules g log []
  none-agrees log k p e = absurd (some-ne-none p (sym e))

  pub gathers : (id : ℕ) (v : List MutatorView) (other : ℕ) (w : List MutatorView) → Joins (HasOneLog rules g) id v other w (w ++ v) []
  gathers id v other w s kept at apart there =
      let their : AllAgree rules g kept.log w = ⊎_elim
      (λ (t : (other ≡ id) × (w ++ v ≡ w)). absurd (apart t.0))
      (λ (t : (other ≢ id) × (get_elem? s.views other ≡ some w)). kept.agree other w t.1)
      (at_set s.views id other (w ++ v) w there) in
      record {
        log = kept.log;
        ideal = kept.ideal;
        epoch = kept.epoch;
        words = kept.words;
        differ = kept.differ;
        apart = kept.apart;
        views = λ m. (let all = kept.views m in omega (arith, all, parts_append m w v, total_set (λ (x : List MutatorView). views_of m x) s.views id v (w ++ v) at, total_set (λ (x : List MutatorView). views_of m x) (set s.views id (w ++ v)) other w [] there));
        agree = set-agree kept.log (set s.views id (w ++ v)) other []
            (λ j u ne e. set-agree kept.log s.views id (w ++ v) (λ i x ne' e'. kept.agree i x e') (append-agree kept.log w v their (kept.agree id v at)) j u e)
            (none-agrees kept.log);
      }

  pub closes : (id : ℕ) (v : List MutatorView) (ws : List ℕ) (xs : List (Unit {0})) → Final (Seen (HasOneLog rules g) id v) ws xs → EndsWith rules g v ws
  closes id v ws xs final =
      let kept : HasOneLog rules g final.0 = final.1.0 in
      let here : get_elem? final.0.views id ≡ some v = final.1.1 in
      record {
        log = kept.log;
        ideal = kept.ideal;
        epoch = kept.epoch;
        words = sym final.2 ∙ sym kept.words;
        agree = kept.agree id v here;
        longest = longest rules g final.0 id v kept here;
      }
