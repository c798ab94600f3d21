-- The worked heap for two workers: its row, that it is lawful, and that a trace of it may begin.
use Rattle.std.proofs.Common.{◌≡◌, ℕ, suc, zero, ◌^◌, ◌<◌, ◌||◌, true, false, true≢false, IsTrue, Some, List, [], ◌∷◌, length, refl, sym, ap, ◌∙◌, subst, lit<}
use Rattle.std.specs.Prelude.{slice_set, slice_get, replicate}
use Rattle.std.proofs.lemmas.Bool.{cond-false}
use Rattle.std.proofs.lemmas.Option.{none-some, same_Some}
use Rattle.forward_word.specs.declared.words.TheConstants.{NUMBER_BITS}
use Rattle.heap_layout.specs.Blocks.{kind_code}
use Rattle.heap_layout.specs.declared.block.Kind.TheVariants as kinds
use Rattle.object_model.specs.Objects.{IsHeld, has_kind}
use Rattle.object_model.specs.Lawful.{IsLawful}
use Rattle.object_model.specs.declared.collect.Collect.TheVariants.{Full}
use Rattle.object_model.proofs.LawfulTests as tests
use Rattle.object_model.proofs.BuiltWords.{built-fits}
use Rattle.object_model.proofs.Marks as marks
use Rattle.std.specs.Prelude.{nat_eq}
use Rattle.trace_core.specs.Runs.{MayRun, is_nursery, setup_of}
use Rattle.trace_core.specs.Setups.{is_copy_kind}
use Rattle.trace_core.specs.declared.run.TraceRun.{TraceRun}
use Rattle.trace_core.proofs.Begun.{held-begun}
use Rattle.trace_table.specs.WorkedRaces.{raced_parts, raced_heap}

-- the words of the row, one after the other
abbrev worked_words : List ℕ → List ℕ
worked_words ws = slice_set (slice_set (slice_set (slice_set (slice_set (slice_set (slice_set (slice_set (slice_set (slice_set (slice_set (slice_set (slice_set (slice_set (slice_set ws 18 1) 38 4369) 294 1) 806 33) 807 1) 809 810) 810 65) 811 1) 813 814) 814 97) 815 1) 817 810) 818 129) 819 1) 821 810

pub raced-words : worked_words (replicate 17190 0) ≡ raced_heap.words
raced-words = refl

pub raced-lawful : IsLawful raced_heap
raced-lawful = tests.lawful raced_heap (806 ∷ 810 ∷ 814 ∷ 818 ∷ []) (record { held = refl; starts = refl; least = refl; most = refl; extent = refl; words = built-fits raced_parts (lit< tt) refl refl; base = refl; named = refl; refs = refl; nums = refl; number = refl; target = refl; marks = refl; within = refl; kind = refl; cell = refl; run = refl; apart = refl; heads = refl; tails = refl; references = refl; globals = refl; names = refl; codes = refl; owners = refl; free_words = refl; free_lines = refl; free_marks = refl; lines = refl })

-- blocks 1 to 3 are not evacuated
not-from : (b : ℕ) → slice_get (false ∷ false ∷ false ∷ []) b ≡ Some true → ⊥
not-from zero is = true≢false (sym (same_Some false true is))
not-from (suc zero) is = true≢false (sym (same_Some false true is))
not-from (suc (suc zero)) is = true≢false (sym (same_Some false true is))
not-from (suc (suc (suc b))) is = none-some true is

-- the block that is evacuated is not large
none-large : (b : ℕ) → slice_get (true ∷ false ∷ false ∷ false ∷ []) b ≡ Some true
    → IsTrue (has_kind raced_heap b kinds.LargeHead || has_kind raced_heap b kinds.LargeTail) → ⊥
none-large zero is large = true≢false (sym large)
none-large (suc b) is large = not-from b is

pub raced-run : (run : TraceRun) → run.number ≡ 1 → run.base ≡ 1 → run.collect ≡ Full → run.copy_kind ≡ kinds.Bump → run.logged.items ≡ []
    → run.from.items ≡ true ∷ false ∷ false ∷ false ∷ [] → MayRun raced_heap run
raced-run run number base collect copy logged from = let full : is_nursery run.collect ≡ false = ap is_nursery collect in record {
  number = number;
  limit = subst (λ n. n < 2 ^ NUMBER_BITS) (sym number) (lit< tt);
  base = base ∙ sym number ∙ sym (cond-false (is_nursery run.collect) raced_heap.base run.number full);
  full = λ nursery. absurd (true≢false (sym nursery ∙ full));
  remembers = λ nursery. absurd (true≢false (sym nursery ∙ full));
  nursery = λ nursery. absurd (true≢false (sym nursery ∙ full));
  none = λ f. logged;
  kind = subst (λ k. IsTrue (is_copy_kind k)) (sym copy) refl;
  from = ap length from;
  small = λ b some. none-large b (ap (λ l. slice_get l b) (sym from) ∙ some);
  fixed = λ free. absurd (true≢false (sym (ap (λ k. nat_eq (kind_code k) 0) (sym copy ∙ free))));
}

-- its objects are held as the trace begins
pub raced-held : (run : TraceRun) → MayRun raced_heap run → (x : ℕ) → IsHeld raced_heap x → IsHeld (setup_of raced_heap run 2).before x
raced-held run may x held = held-begun raced_heap run raced-lawful.but_lines may.nursery x held

pub pinned-held : IsHeld raced_heap 806
pinned-held = marks.held raced_heap 806 refl

pub other-held : IsHeld raced_heap 818
other-held = marks.held raced_heap 818 refl
