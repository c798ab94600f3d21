use Rattle.std.proofs.Common.{ap, ◌≡◌, ◌∙◌, sym, true, false, inl, inr, [], ◌∷◌, if◌then◌else◌}
use Rattle.ideal_heap.specs.Ideal.{step}
use Rattle.ideal_heap.specs.Runs.{heap_after_run, entry, is_full}
use Rattle.ideal_heap.proofs.RunLemmas.{after-append, rest}
use Rattle.ideal_heap.specs.declared.reply.Reply.TheVariants as reply
use Rattle.programs.proofs.histories.entries_are_steps.Goals as goal

pub returns-clause-reply : goal.returns-clause-reply
returns-clause-reply x h es m c r run answered = elim (rest h es (entry m c r ∷ []) run).0 [
  | inl is ↦ is
  | inr full ↦ let wrong : true ≡ false = sym (ap (λ q. is_full q) full.0) ∙ answered in absurd cc
]

pub returns-clause-heap : goal.returns-clause-heap
returns-clause-heap x h es m c r answered =
    after-append h es (entry m c r ∷ []) ∙ ap (λ b. if b then heap_after_run h es else (step (heap_after_run h es) m c).1) answered

pub returns-clause-refused : goal.returns-clause-refused
returns-clause-refused x h es m c = after-append h es (entry m c reply.Full ∷ [])
