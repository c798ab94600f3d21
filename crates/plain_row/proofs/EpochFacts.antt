-- What holds of a world that is in an epoch.
use Rattle.std.proofs.Common.{◌≡◌, sym, ap, subst, ℕ, ◌<◌, inl, inr, IsTrue, List}
use Rattle.heap_layout.specs.Blocks.{is_block_code}
use Rattle.heap_layout.proofs.BlockLemmas.{is_block_code-code_of}
use Rattle.ideal_heap.specs.Ideal.{IdealHeap}
use Rattle.ideal_heap.specs.Runs as runs
use Rattle.object_model.specs.Objects.{HeapState, state_of, block_word, IsHeld}
use Rattle.object_model.specs.Lawful.{IsWellFormed, IsReadable, IsReadableBlock}
use Rattle.object_model.proofs.ObjectReads.{readable}
use Rattle.mutator_core.specs.declared.state.LogEntry.{LogEntry}
use Rattle.mutator_core.specs.Machine.{Epoch, first_machine}
use Rattle.mutator_core.specs.Logs.{machine_after, heap_after, history_of}
use Rattle.mutator_core.proofs.Beginnings.{Ends, log-ends}
use Rattle.mutator_core.proofs.Moments.{Holds}
use Rattle.plain_row.specs.declared.plain_row.PlainRow.{PlainRow}
use Rattle.plain_row.specs.Worlds.{IsAt}

module _ (p : Epoch) (i : IdealHeap) (log : List LogEntry) (w : PlainRow) (at : IsAt p i log w) where
  abbrev s : HeapState
  s = state_of w.row

  pub end : Ends p (first_machine p) i log
  end = log-ends p i log at.epoch.ready at.epoch.represents at.epoch.steps

  pub moment : Holds p (machine_after p log) (runs.heap_after_run i (history_of p log)) end.set
  moment = end.moment

  pub order : IsWellFormed s
  order = subst IsWellFormed (sym at.heap) moment.models.order

  pub blocks : p.before.blocks ≡ w.row.layout.blocks
  blocks = ap (λ (t : HeapState). t.blocks) (sym at.heap)

  pub code : (k : ℕ) → k < w.row.layout.blocks → IsTrue (is_block_code (block_word s k))
  code k there = subst (λ (t : HeapState). IsTrue (is_block_code (block_word t k))) (sym at.heap)
      (elim (moment.epoch.blocks k (subst (λ n. k < n) (sym blocks) there)) as (λ _. IsTrue (is_block_code (block_word (heap_after p log) k))) [
        | inl same ↦ subst (λ v. IsTrue (is_block_code v)) (sym same) (at.epoch.ready.lawful.but_lines.blocks k (subst (λ n. k < n) (sym blocks) there)).code
        | inr own ↦ (let owned = (moment.epoch.knows own.0).owned own.1 own.2 in
            subst (λ q. IsTrue (is_block_code (block_word (heap_after p log) q))) own.3
            (is_block_code-code_of _ _ owned.valid (sym owned.word)))
      ])

  pub readable-block : (k : ℕ) → k < w.row.layout.blocks → IsReadableBlock s k
  readable-block k there = record {
    extent = order.row.extent;
    block = there;
    code = code k there;
    objects = λ a holds here. ((order.objects.headers a holds).object, order.objects.lies a holds);
  }

  pub readable-object : (a : ℕ) → IsHeld s a → IsReadable s a
  readable-object a holds = readable s order a holds
