-- A tracer begins: what it is given makes a setup that is ready, which it tracks from no event on.
use Rattle.std.proofs.Common.{◌≡◌, ℕ, ◌+◌, ◌<◌, ◌^◌, inl, inr, Bool, true, false, true≢false, ◌||◌, not, IsTrue, [], length, Option, Some, None, refl, sym, ap, ◌∙◌, subst, arith}
use Rattle.std.specs.Prelude.{if◌then◌else◌, slice_get}
use Rattle.std.proofs.lemmas.Bool.{cases_Bool, cond-true, cond-false}
use denote.Enum.Bare.{sameb}
use Rattle.std.proofs.lemmas.Option.{slice_get-get_or}
use Rattle.heap_layout.specs.declared.block.Kind.{Kind}
use Rattle.heap_layout.specs.declared.block.Kind.TheVariants as kinds
use Rattle.object_model.specs.contracts.collect.Collect.{the_type}
use Rattle.object_model.specs.declared.collect.Collect.{Collect}
use Rattle.object_model.specs.declared.collect.Collect.TheVariants.{Nursery, Full}
use Rattle.object_model.specs.Objects.{HeapState, state_of, has_kind}
use Rattle.object_model.specs.Lawful.{IsLawfulButLines}
use Rattle.trace_core.specs.Setups.{Setup, TraceMayBegin, blocks, collection, was_logged}
use Rattle.trace_core.specs.Outcomes.{base_after_trace}
use Rattle.trace_core.specs.Views.{first_view}
use Rattle.object_model.specs.Times.{one_if, times}
use Rattle.trace_core.specs.Runs.{is_nursery, is_some_true, without_lines, without_unlogs, with_unlogs, setup_of, MayRun, IsRunOf}
use Rattle.plain_tracer.specs.Tracers.{Tracks}
use Rattle.trace_core.proofs.Objects.{None-not-Some}
use Rattle.trace_core.proofs.FirstInvariant.{first-young}
use Rattle.trace_core.specs.Machine.{target}
use Rattle.trace_core.specs.declared.run.TraceRun.{TraceRun}
use Rattle.plain_tracer.specs.declared.plain_trace.PlainTrace.{PlainTrace}
use Rattle.object_model.proofs.Frames.{has_kind-same}
use Rattle.trace_core.proofs.WithoutLines.{without_lines-lawful, kind-same}
use Rattle.trace_core.proofs.SetUnlogs.{word-same}
use Rattle.trace_core.proofs.Begun.{by-begun, begun-lawful, begun-unlogs, begun-remembers, begun-logged, listed-held, keeps-objects}
use Rattle.trace_core.proofs.FirstView.{first-holds}

-- the comparison of a kind of collection
pub is-full : (c : Collect) (b : Bool) → b ≡ sameb the_type c Full → not (is_nursery c) ≡ b
is-full Nursery b e = sym e
is-full Full b e = sym e

pub turned : (b : Bool) → not b ≡ false → b ≡ true
turned true is = refl
turned false is = sym is

pub straight : (b : Bool) → not b ≡ true → b ≡ false
straight true is = sym is
straight false is = refl

set-some : (o : Option Bool) → is_some_true o ≡ true → o ≡ Some true
set-some None is = absurd (true≢false (sym is))
set-some (Some b) is = ap (λ x. Some x) is

some-set : (o : Option Bool) (b : Bool) → o ≡ Some b → o ≡ Some (is_some_true o)
some-set None b e = e ∙ ap (λ x. Some x) (sym (ap is_some_true e))
some-set (Some c) b e = refl

module _ (s : HeapState) (run : TraceRun) (lawful : IsLawfulButLines s) (may : MayRun s run) where
  abbrev p : Setup
  p = setup_of s run 1

  abbrev nursery : Bool
  nursery = is_nursery run.collect

  either : (P : HeapState → Type 0) → P (without_unlogs (without_lines s)) → P (without_unlogs s) → (IsTrue nursery → P (with_unlogs s run.logged.items)) → P p.before
  either = by-begun s run

  number-same : p.before.number ≡ s.number
  number-same = either (λ h. h.number ≡ s.number) refl refl (λ young. refl)

  base-same : p.before.base ≡ s.base
  base-same = either (λ h. h.base ≡ s.base) refl refl (λ young. refl)

  blocks-same : blocks p ≡ s.blocks
  blocks-same = either (λ h. h.blocks ≡ s.blocks) refl refl (λ young. refl)

  kinds-same : (b : ℕ) (kind : Kind) → has_kind p.before b kind ≡ has_kind s b kind
  kinds-same b kind = either (λ h. has_kind h b kind ≡ has_kind s b kind)
      (has_kind-same (without_lines s) _ (keeps-objects (without_lines s) (without_lines-lawful s lawful)).block_words b kind ∙ kind-same s lawful b kind)
      (has_kind-same s _ (keeps-objects s lawful).block_words b kind)
      (λ young. has_kind-same s _ (word-same s lawful run.logged.items (listed-held s run.logged.items (may.nursery young))) b kind)

  abbrev large_in : HeapState → ℕ → Bool
  large_in h b = has_kind h b kinds.LargeHead || has_kind h b kinds.LargeTail

  large-same : (b : ℕ) → large_in p.before b ≡ large_in s b
  large-same b = ap (λ t. t || has_kind p.before b kinds.LargeTail) (kinds-same b kinds.LargeHead)
      ∙ ap (λ t. has_kind s b kinds.LargeHead || t) (kinds-same b kinds.LargeTail)

  pub ready : TraceMayBegin p
  ready = record {
    lawful = begun-lawful s run lawful may.nursery;
    number = subst (λ (n : ℕ). n < 2 ^ 40) (may.number ∙ ap (λ n. n + 1) (sym number-same)) may.limit;
    some = omega arith;
    few = omega arith;
    base = λ young. subst (λ (n : ℕ). 0 < n) (sym base-same) (may.full young);
    remembers = begun-remembers s run 1 lawful may.nursery may.remembers;
    unlogs = begun-unlogs s run 1 lawful may.nursery may.remembers;
    kind = may.kind;
    small = λ b from large. may.small b (set-some (slice_get run.from.items b) from) (sym (large-same b) ∙ large);
    fixed = λ none b. elim (cases_Bool (p.from b)) as (λ _. p.from b ≡ false) [
      | inl from ↦ absurd (may.fixed none b (set-some (slice_get run.from.items b) from))
      | inr stays ↦ stays
    ];
  }

  -- the list that it was given has each logged object once
  pub logged : (x : ℕ) → times x run.logged.items ≡ one_if (was_logged p x)
  logged = begun-logged s run 1 lawful may.nursery may.remembers may.none

  run-of : IsRunOf p run
  run-of = record {
    number = may.number ∙ ap (λ n. n + 1) (sym number-same);
    base = may.base ∙ elim (cases_Bool nursery) as (λ _. (if nursery then s.base else run.number) ≡ base_after_trace p) [
      | inl young ↦ cond-true nursery s.base run.number young ∙ sym base-same ∙ sym (cond-true nursery p.before.base (collection p) young)
      | inr full ↦ cond-false nursery s.base run.number full ∙ may.number ∙ ap (λ n. n + 1) (sym number-same)
          ∙ sym (cond-false nursery p.before.base (collection p) full)
    ];
    from = λ b there.
        let many : length run.from.items ≡ s.blocks = may.from in let same : blocks p ≡ s.blocks = blocks-same in
        some-set (slice_get run.from.items b) _ (slice_get-get_or run.from.items b false (omega arith));
    kind = refl;
    nursery = refl;
    logged = logged;
  }

  -- a tracer of this row that did nothing yet
  pub begins : (t : PlainTrace) → state_of t.row ≡ p.before → t.run ≡ run → t.room.next ≡ t.room.end → t.next_block ≡ 0
      → Tracks p [] t (first_view run)
  begins t row shown empty next = record {
    trace = record { ready = ready; events = tt };
    run = subst (IsRunOf p) (sym shown) run-of;
    row = row;
    holds = first-holds p ready run logged;
    room = empty;
    left = tt;
    stayed = λ x is young moves. absurd (None-not-Some x (ap target (sym (first-young p ready x young)) ∙ is));
    passed = λ b below. absurd (let none : t.next_block ≡ 0 = next in omega arith);
    ahead = λ b some. absurd (omega (arith, some));
  }
