-- An epoch may begin with an empty heap.
use Rattle.std.proofs.Common.{refl, ◌≡◌, ℕ, ◌≤◌, arith, List, length, map, IsTrue}
use Rattle.std.proofs.lemmas.List.{length-map}
use Rattle.object_model.specs.Objects.{empty_heap}
use Rattle.object_model.specs.Graphs.{new_mutator}
use Rattle.object_model.proofs.Zeros as zeros
use Rattle.sessions.specs.Plans.{Plan, NoGc, MarkSweep, SemiSpace, GenCopy, Immix, StickyImmix, rules_of, has_holes}
use Rattle.mutator_core.specs.Epochs.{EpochMayBegin}

fills : (plan : Plan) → IsTrue (has_holes (rules_of plan).fill)
fills NoGc = refl
fills MarkSweep = refl
fills SemiSpace = refl
fills GenCopy = refl
fills Immix = refl
fills StickyImmix = refl

pub empty-ready : (plan : Plan) (b : ℕ) (numbers : List ℕ) → 4 ≤ b → b ≤ 1024 → length numbers ≤ 16
    → EpochMayBegin (record { rules = rules_of plan; before = empty_heap b; mutators = map new_mutator numbers })
empty-ready plan b numbers least most few = record {
  lawful = zeros.lawful b least most;
  remembers = λ young. zeros.remembers b;
  fills = fills plan;
  stop = zeros.zero_word b 0;
  tickets = zeros.zero_word b 1;
  few = (let many : length (map new_mutator numbers) ≡ length numbers = length-map numbers new_mutator in omega arith);
}
