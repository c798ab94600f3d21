use Rattle.std.proofs.Common.{inl, inr}
use Rattle.std.proofs.lemmas.Bool.{cases_lt}
use Rattle.plain_tracer.specs.Tracers.{TakesCopyBlock, FindsNone}
use Rattle.plain_tracer.proofs.TracedRows.{if-some, if-none}
use Rattle.plain_tracer.proofs.TakenRoom.{passed-free, tracks-left, tracks-same}
use Rattle.plain_tracer.proofs.plain_trace.PlainTrace.take_copy_block.Goals as goal

pub returns-clause-lowest : goal.returns-clause-lowest
returns-clause-lowest c = if-some (TakesCopyBlock c.args.self.now c.take_block.new.self) _ c.take_block.result (λ b takes d below free.
    elim (cases_lt d c.args.self.now.next_block) as (λ _. ⊥) [
      | inl low ↦ passed-free c.args.self.now _ c.requires.tracing d low free
      | inr high ↦ takes.lower d high below free
    ]) c.take_block.ensures.some

pub returns-clause-some : goal.returns-clause-some
returns-clause-some c = if-some (TakesCopyBlock c.args.self.now c.take_block.new.self) _ c.take_block.result (λ b takes p es v tracks.
    tracks-left p es c.args.self.now c.take_block.new.self b v tracks takes c.requires.copies) c.take_block.ensures.some

pub returns-clause-none : goal.returns-clause-none
returns-clause-none c = if-none (FindsNone c.args.self.now c.take_block.new.self) _ c.take_block.result (λ finds d free.
    elim (cases_lt d c.args.self.now.next_block) as (λ _. ⊥) [
      | inl low ↦ passed-free c.args.self.now _ c.requires.tracing d low free
      | inr high ↦ finds.none d high free
    ]) c.take_block.ensures.none

pub returns-clause-same : goal.returns-clause-same
returns-clause-same c = if-none (FindsNone c.args.self.now c.take_block.new.self) _ c.take_block.result (λ finds p es v tracks.
    tracks-same p es c.args.self.now c.take_block.new.self v tracks finds) c.take_block.ensures.none
