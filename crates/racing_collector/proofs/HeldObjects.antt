-- Objects that were held, and those that a share copied.
use Rattle.std.proofs.Common.{◌≡◌, ℕ, ◌<◌, ◌≤◌, inl, inr, length, ap, arith}
use Rattle.std.proofs.lemmas.Bool.{cases_Bool}
use Rattle.heap_layout.specs.Zones.{row_words}
use Rattle.object_model.specs.Times.{one_if, times}
use Rattle.object_model.proofs.Marks as marks
use Rattle.trace_core.specs.Setups.{Setup, blocks, held}
use Rattle.trace_words.specs.Steps.{CopiesHeldOnce}
use Rattle.trace_words.specs.declared.share.Share.{Share}
use Rattle.racing_collector.specs.Working.{held_count}
use Rattle.racing_collector.proofs.AddressSums.{few-listed}

-- a share copied no more objects than were held
pub few-copied : (p : Setup) (v : Share) → CopiesHeldOnce p v → length v.copied ≤ held_count p
few-copied p v each = few-listed (blocks p) v.copied (λ x. one_if (held p x)) each below
  where
    below : (x : ℕ) → 0 < times x v.copied → x < row_words (blocks p)
    below x some = elim (cases_Bool (held p x)) as (λ _. x < row_words (blocks p)) [
      | inl is ↦ (marks.held p.before x is).address.below
      | inr none ↦ absurd (let less = each x in let zero-times : one_if (held p x) ≡ 0 = ap one_if none in omega arith)
    ]
