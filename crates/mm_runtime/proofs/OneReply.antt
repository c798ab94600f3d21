-- One more reply to a mutator.
use Rattle.std.proofs.Common.{◌≡◌, sym, subst, ℕ, ◌+◌, ◌-◌, ◌≤◌, arith, List, [], ◌∷◌, ◌++◌, length, length-set, get_or}
use Rattle.std.specs.Prelude.{slice_set}
use Rattle.ideal_heap.specs.declared.reply.Reply.{Reply}
use Rattle.block_regions.proofs.Elements.{set-here, set-other, read-some}
use Rattle.mm_runtime.specs.declared.progress.Progress.{Progress}
use Rattle.mm_runtime.specs.Stops.{RepliesAt}

pub replies-here : (ps : List Progress) (k m : ℕ) (p after : Progress) (reply : Reply) → k + 1 ≡ m → m ≤ length ps → p ≡ get_or ps (m - 1) p → after.trace ≡ p.trace
    → after.replies.items ≡ p.replies.items ++ reply ∷ [] → after.replies.capacity ≡ p.replies.capacity → RepliesAt ps (slice_set ps (m - 1) after) k reply
replies-here ps k m p after reply is most read trace replies capacity =
    let at : m - 1 ≡ k = omega arith in
    let here : p ≡ get_or ps k p = subst (λ (j : ℕ). p ≡ get_or ps j p) at read in
    subst (λ (j : ℕ). RepliesAt ps (slice_set ps j after) k reply) (sym at) (record {
      count = length-set ps k after;
      before = p;
      was = read-some ps k p (omega arith) here;
      after = after;
      is = set-here ps k after (omega arith);
      trace = trace;
      replies = replies;
      capacity = capacity;
      others = λ j other. set-other ps k after j other;
    })
