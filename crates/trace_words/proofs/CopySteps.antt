-- Steps of the copying of an object.
use Rattle.std.proofs.Common.{◌≡◌, ◌≢◌, ℕ, ◌+◌, ◌^◌, ◌<◌, ◌≤◌, Bool, false, true≢false, ◌&&◌, not, IsTrue, inl, inr, Some, nat_eq, List, ◌∷◌, slice_index, refl, sym, ap, ◌∙◌, subst, arith}
use Rattle.std.specs.Prelude.{bit_or, nat_lt}
use Rattle.std.proofs.lemmas.Bool.{cases_Bool, and_parts, cond-true, cond-false, eq-eqb, ne_eqb, lt-ltb, le-ltb}
use mathlib.Core.Option.{some}
use lib.ListN.{get_elem?}
use Rattle.atomic_table.specs.Table.{keeps, Allows}
use Rattle.heap_layout.specs.Zones.{UnlogBits, StartBits}
use Rattle.object_model.specs.BitWords.{bit_word, bit_place}
use Rattle.object_model.specs.Objects.{word_at}
use Rattle.trace_core.specs.Setups.{Setup, blocks, held, size, stays_old}
use Rattle.object_model.specs.Times.{times, one_if}
use Rattle.trace_core.specs.Machine.{Machine, Stage, Unclaimed, Copying, Scanning, Copy, target, next, put, copy_place, copy_value, copied_word, offset_of_step}
use Rattle.trace_core.specs.Traces.{machine_after}
use Rattle.trace_core.specs.Views.{View, is_pair, without, hits, is_stage_copied}
use Rattle.trace_core.proofs.Puts.{put_here, put_else}
use Rattle.trace_core.proofs.CountedRights.{hits-cons, hits-without, times-cons}
use Rattle.trace_core.proofs.CopyEvents.{Reaches, word-copied, unlogged-moved, unlogged-in-place, started}
use Rattle.trace_core.proofs.CopyRights.{won-stage, holds-copied, holds-step}
use Rattle.trace_core.proofs.Clauses.{copying, held-of}
use Rattle.trace_core.proofs.Idle.{one-if-true}
use Rattle.trace_words.specs.declared.share.Share.{Share}
use Rattle.trace_words.specs.Shares.{view_of, pooled, copies_on, ends_copy}
use Rattle.trace_words.specs.Rule.{TraceState, SeatShare, KeepsTrace}
use Rattle.trace_words.specs.Steps.{CopiesHeldOnce, MayCopy}
use Rattle.trace_words.proofs.Pooled.{Alike, has-won, has-known, pool-part}
use Rattle.trace_words.proofs.RuleSteps.{word-is, event-only, nothing-seen}

-- the view after a step of copying that is not the last one, and after the last one
abbrev on_view : ℕ → ℕ → View → View
on_view x k v = record v { won = (x, k + 1) ∷ without (is_pair x k) v.won }

abbrev end_view : ℕ → ℕ → View → View
end_view x k v = record v { won = without (is_pair x k) v.won; grey = (x, 0) ∷ v.grey; copied = x ∷ v.copied }

like-on : (x k : ℕ) (V v : View) → 0 < hits x k V.won → 0 < hits x k v.won → Alike V (on_view x k V) v (on_view x k v)
like-on x k V v had has = record {
  won = λ y j. (let a = hits-without x k V.won had y j in let b = hits-without x k v.won has y j in
      let c = hits-cons x (k + 1) (without (is_pair x k) V.won) y j in let d = hits-cons x (k + 1) (without (is_pair x k) v.won) y j in omega arith);
  grey = λ y j. refl;
  copied = λ y. refl;
  unset = λ y. refl;
  set = λ y. refl;
  asked = λ y. refl;
  known = λ y u. refl;
  blocks = λ y. refl;
}

like-end : (x k : ℕ) (V v : View) → 0 < hits x k V.won → 0 < hits x k v.won → Alike V (end_view x k V) v (end_view x k v)
like-end x k V v had has = record {
  won = λ y j. (let a = hits-without x k V.won had y j in let b = hits-without x k v.won has y j in omega arith);
  grey = λ y j. (let a = hits-cons x 0 V.grey y j in let b = hits-cons x 0 v.grey y j in omega arith);
  copied = λ y. (let a = times-cons x V.copied y in let b = times-cons x v.copied y in omega arith);
  unset = λ y. refl;
  set = λ y. refl;
  asked = λ y. refl;
  known = λ y u. refl;
  blocks = λ y. refl;
}

module _ (p : Setup) (s : TraceState) (h : KeepsTrace p s) (id : ℕ) (v : Share) (at : get_elem? s.views id ≡ some v) (x t k : ℕ) (may : MayCopy p v x t k) where
  abbrev m : Machine
  m = machine_after p h.events

  had : 0 < hits x k (pooled s.views).won
  had = has-won s.views id v at x k may.right

  stage-is : m.stage x ≡ Copying t k
  stage-is = won-stage p m (pooled s.views) h.holds x k t had (has-known s.views id v at x t may.target)

  young : stays_old p x ≡ false
  young = (copying p h.events h.trace x t k stage-is).young

  -- a word of the object but its collector word is as it was
  source-is : (o : ℕ) → o < size p x → o ≢ 2 → slice_index s.words (x + o) ≡ word_at p.before (x + o)
  source-is o l ne = word-is p s h id v at (x + o) ∙ (copying p h.events h.trace x t k stage-is).intact o l ne

  reaches-by : (st : Stage) (words : List ℕ) → next p m (Copy x) ≡ record m { words = words; stage = put m.stage x st } → Reaches m (next p m (Copy x)) x st
  reaches-by st words is = subst (λ (n : Machine). Reaches m n x st) (sym is) (record {
    stage = put_here m.stage x st;
    others = λ y ne. put_else m.stage x st y ne;
    owner = refl;
    taken = refl;
    set = refl;
    asked = refl;
  })

  least : 3 ≤ size p x
  least = omega arith

  -- the step stores a word of the copy
  word-place : k < size p x → copy_place p x (m.stage x) ≡ t + offset_of_step (size p x) k
  word-place l = ap (copy_place p x) stage-is ∙ cond-true (nat_lt k (size p x)) (t + offset_of_step (size p x) k) _ (lt-ltb k (size p x) l)

  word-value : k < size p x → (n : ℕ) → copy_value p x (m.stage x) n ≡ copied_word p x t (offset_of_step (size p x) k)
  word-value l n = ap (λ z. copy_value p x z n) stage-is ∙ cond-true (nat_lt k (size p x)) (copied_word p x t (offset_of_step (size p x) k)) _ (lt-ltb k (size p x) l)

  -- it sets a bit
  bit-value : size p x ≤ k → (n : ℕ) → copy_value p x (m.stage x) n ≡ bit_or n (2 ^ bit_place (blocks p) t)
  bit-value l n = ap (λ z. copy_value p x z n) stage-is ∙ cond-false (nat_lt k (size p x)) _ _ (le-ltb k (size p x) l)

  unlog-place : k ≡ size p x → copy_place p x (m.stage x) ≡ bit_word (blocks p) UnlogBits t
  unlog-place e = ap (copy_place p x) stage-is ∙ cond-false (nat_lt k (size p x)) _ _ (le-ltb k (size p x) (omega arith)) ∙ cond-true (nat_eq k (size p x)) _ _ (eq-eqb k (size p x) e)

  start-place : k ≡ size p x + 1 → copy_place p x (m.stage x) ≡ bit_word (blocks p) StartBits t
  start-place e = ap (copy_place p x) stage-is ∙ cond-false (nat_lt k (size p x)) _ _ (le-ltb k (size p x) (omega arith))
      ∙ cond-false (nat_eq k (size p x)) _ _ (ne_eqb k (size p x) (λ same. omega arith))

module _ (p : Setup) where
  -- a load of a word of an object that is to be copied
  pub read-word : (slots id : ℕ) (me : SeatShare) (x t k o : ℕ) → MayCopy p me.0 x t k → o < size p x → o ≢ 2
      → Allows (KeepsTrace p) slots id me (x + o) (λ n. n) (λ n now. (n ≡ word_at p.before (x + o)) × (now ≡ me))
  read-word slots id me x t k o may l ne s h _ at _ =
      (me.0, keeps, tt, nothing-seen p s h id me.0 at (x + o) (slice_index s.words (x + o)) me.1 refl, (source-is p s h id me.0 at x t k may o l ne, refl))

  -- a store copies a word
  pub copy-word : (slots id : ℕ) (me : SeatShare) (x t k : ℕ) → MayCopy p me.0 x t k → k < size p x
      → Allows (KeepsTrace p) slots id me (t + offset_of_step (size p x) k) (λ _. copied_word p x t (offset_of_step (size p x) k)) (λ n now. now ≡ (copies_on x k me.0, me.1))
  copy-word slots id me x t k may l s h _ at _ =
      let m : Machine = machine_after p h.events in let st = stage-is p s h id me.0 at x t k may in let i : ℕ = t + offset_of_step (size p x) k in (
        copies_on x k me.0,
        keeps,
        tt,
        event-only p s h id me.0 at i (copied_word p x t (offset_of_step (size p x) k)) me.1 (on_view x k (view_of me.0)) (Copy x) (on_view x k (pooled s.views)) may.live refl refl
            (t, k, st) (word-place p s h id me.0 at x t k may l) (sym (word-value p s h id me.0 at x t k may l (slice_index m.words i)))
            (holds-step p m (next p m (Copy x)) (pooled s.views) h.holds x t k st
            (reaches-by p s h id me.0 at x t k may (Copying t (k + 1)) _ (word-copied p x t (least p s h id me.0 at x t k may) m k st l)))
            (like-on x k (pooled s.views) (view_of me.0) (had p s h id me.0 at x t k may) may.right) refl refl,
        refl,
      )

  -- the unlog bit of a copy is set
  pub set-unlog-moved : (slots id : ℕ) (me : SeatShare) (x t k : ℕ) → MayCopy p me.0 x t k → k ≡ size p x → t ≢ x
      → Allows (KeepsTrace p) slots id me (bit_word (blocks p) UnlogBits t) (λ n. bit_or n (2 ^ bit_place (blocks p) t)) (λ n now. now ≡ (copies_on x k me.0, me.1))
  set-unlog-moved slots id me x t k may last differ s h _ at _ =
      let m : Machine = machine_after p h.events in let st = stage-is p s h id me.0 at x t k may in
      let i : ℕ = bit_word (blocks p) UnlogBits t in (
        copies_on x k me.0,
        keeps,
        tt,
        event-only p s h id me.0 at i (bit_or (slice_index s.words i) (2 ^ bit_place (blocks p) t)) me.1 (on_view x k (view_of me.0)) (Copy x) (on_view x k (pooled s.views)) may.live refl refl
            (t, k, st) (unlog-place p s h id me.0 at x t k may last)
            (ap (λ n. bit_or n (2 ^ bit_place (blocks p) t)) (word-is p s h id me.0 at i) ∙ sym (bit-value p s h id me.0 at x t k may (omega arith) (slice_index m.words i)))
            (holds-step p m (next p m (Copy x)) (pooled s.views) h.holds x t k st
            (reaches-by p s h id me.0 at x t k may (Copying t (k + 1)) _ (unlogged-moved p x t (least p s h id me.0 at x t k may) m k st last differ)))
            (like-on x k (pooled s.views) (view_of me.0) (had p s h id me.0 at x t k may) may.right) refl refl,
        refl,
      )

  -- the unlog bit of an object that stays is set, which ends its copying
  pub set-unlog-here : (slots id : ℕ) (me : SeatShare) (x k : ℕ) → MayCopy p me.0 x x k → k ≡ size p x
      → Allows (KeepsTrace p) slots id me (bit_word (blocks p) UnlogBits x) (λ n. bit_or n (2 ^ bit_place (blocks p) x)) (λ n now. now ≡ (ends_copy x k me.0, me.1))
  set-unlog-here slots id me x k may last s h _ at _ =
      let m : Machine = machine_after p h.events in let st = stage-is p s h id me.0 at x x k may in let i : ℕ = bit_word (blocks p) UnlogBits x in (
        ends_copy x k me.0,
        keeps,
        tt,
        event-only p s h id me.0 at i (bit_or (slice_index s.words i) (2 ^ bit_place (blocks p) x)) me.1 (end_view x k (view_of me.0)) (Copy x) (end_view x k (pooled s.views)) may.live refl refl
            (x, k, st) (unlog-place p s h id me.0 at x x k may last)
            (ap (λ n. bit_or n (2 ^ bit_place (blocks p) x)) (word-is p s h id me.0 at i) ∙ sym (bit-value p s h id me.0 at x x k may (omega arith) (slice_index m.words i)))
            (holds-copied p m (next p m (Copy x)) (pooled s.views) h.holds x x k (young p s h id me.0 at x x k may) st
            (reaches-by p s h id me.0 at x x k may (Scanning x 0) _ (unlogged-in-place p x x (least p s h id me.0 at x x k may) m k st last refl)))
            (like-end x k (pooled s.views) (view_of me.0) (had p s h id me.0 at x x k may) may.right) refl refl,
        refl,
      )

  -- the start bit of a copy is set, which ends the copying
  pub set-start : (slots id : ℕ) (me : SeatShare) (x t k : ℕ) → MayCopy p me.0 x t k → k ≡ size p x + 1
      → Allows (KeepsTrace p) slots id me (bit_word (blocks p) StartBits t) (λ n. bit_or n (2 ^ bit_place (blocks p) t)) (λ n now. now ≡ (ends_copy x k me.0, me.1))
  set-start slots id me x t k may last s h _ at _ =
      let m : Machine = machine_after p h.events in let st = stage-is p s h id me.0 at x t k may in let i : ℕ = bit_word (blocks p) StartBits t in (
        ends_copy x k me.0,
        keeps,
        tt,
        event-only p s h id me.0 at i (bit_or (slice_index s.words i) (2 ^ bit_place (blocks p) t)) me.1 (end_view x k (view_of me.0)) (Copy x) (end_view x k (pooled s.views)) may.live refl refl
            (t, k, st) (start-place p s h id me.0 at x t k may last)
            (ap (λ n. bit_or n (2 ^ bit_place (blocks p) t)) (word-is p s h id me.0 at i) ∙ sym (bit-value p s h id me.0 at x t k may (omega arith) (slice_index m.words i)))
            (holds-copied p m (next p m (Copy x)) (pooled s.views) h.holds x t k (young p s h id me.0 at x t k may) st
            (reaches-by p s h id me.0 at x t k may (Scanning t 0) _ (started p x t (least p s h id me.0 at x t k may) m k st last)))
            (like-end x k (pooled s.views) (view_of me.0) (had p s h id me.0 at x t k may) may.right) refl refl,
        refl,
      )

  -- what a share copied was held, and is listed once
  target-copied : (st : Stage) → IsTrue (is_stage_copied st) → (t : ℕ) × (target st ≡ Some t)
  target-copied Unclaimed is = absurd (true≢false (sym is))
  target-copied (Copying t k) is = absurd (true≢false (sym is))
  target-copied (Scanning t k) is = (t, refl)

  copied-once : (s : TraceState) (h : KeepsTrace p s) (id : ℕ) (v : Share) → get_elem? s.views id ≡ some v → CopiesHeldOnce p v
  copied-once s h id v at x =
      let part = pool-part (nat_eq x) (λ u. u.copied) refl (λ u z. refl) s.views id v at in let all = h.holds.copied x in
      let m : Machine = machine_after p h.events in let young : Bool = not (stays_old p x) in let copied : Bool = is_stage_copied (m.stage x) in
      elim (cases_Bool (young && copied)) as (λ _. times x v.copied ≤ one_if (held p x)) [
        | inl is ↦ (let at-target = target-copied (m.stage x) (and_parts young copied is).1 in
            let one = one-if-true (young && copied) is in let there = one-if-true (held p x) (held-of p h.events h.trace x at-target.0 at-target.1) in omega arith)
        | inr none ↦ (let zero : one_if (young && copied) ≡ 0 = ap one_if none in omega arith)
      ]

  pub look-at-copies : (slots id : ℕ) (me : SeatShare) (i : ℕ) → Allows (KeepsTrace p) slots id me i (λ n. n) (λ n now. CopiesHeldOnce p me.0 × (now ≡ me))
  look-at-copies slots id me i s h _ at _ = (me.0, keeps, tt, nothing-seen p s h id me.0 at i (slice_index s.words i) me.1 refl, (copied-once s h id me.0 at, refl))
