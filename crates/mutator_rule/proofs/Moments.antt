-- What the laws of the mutator machine give at one moment.
use Rattle.std.proofs.Common.{◌≡◌, ◌≢◌, ℕ, ◌+◌, ◌<◌, ◌≤◌, ◌⊎◌, List, length, ap, ◌∙◌, subst, arith, inl, inr}
use Rattle.std.specs.List.{Contains}
use Rattle.std.proofs.lemmas.Bool.{cases_eq}
use Rattle.heap_layout.specs.Zones.{row_words, heap_of}
use Rattle.ideal_heap.specs.Ideal.{IdealHeap}
use Rattle.object_model.specs.Objects.{HeapState, IsHeld, size_of, size_at}
use Rattle.object_model.specs.Graphs.{IsMutatorState, numbers_of, register_at}
use Rattle.object_model.specs.Lawful.{IsWellFormed}
use Rattle.object_model.proofs.Among.{all-at}
use Rattle.object_model.proofs.ObjectReads.{ends_in_row}
use Rattle.mutator_core.specs.declared.state.Local.{Local}
use Rattle.mutator_core.specs.declared.state.LogEntry.{LogEntry}
use Rattle.mutator_core.specs.Machine.{Epoch, first_machine, address_in, refs_in, nums_in, mutator_of, mutators_in}
use Rattle.mutator_core.specs.Logs.{IsEpochLog, machine_after, heap_after, local_after_log}
use Rattle.mutator_core.proofs.Beginnings.{Ends, log-ends}
use Rattle.mutator_core.proofs.Lists.{among}
use Rattle.mutator_core.specs.Epochs.{IsInEpoch}
use Rattle.mutator_rule.specs.declared.views.MutatorView.{MutatorView}
use Rattle.mutator_rule.specs.Logs.{StaysInRow, KnowsLog}

module _ (p : Epoch) (i : IdealHeap) (log : List LogEntry) (is : IsEpochLog p i log) where
  pub end : Ends p (first_machine p) i log
  end = log-ends p i log is.ready is.represents is.steps

  abbrev pub s : HeapState
  s = heap_after p log

  pub order : IsWellFormed s
  order = end.moment.models.order

  pub epoch : IsInEpoch p s (machine_after p log).locals
  epoch = end.moment.epoch

  pub extent : length p.before.words ≡ row_words p.before.blocks
  extent = is.ready.lawful.but_lines.order.row.extent

  pub number : (m : ℕ) → (local_after_log p log m).number ≡ m
  number m = epoch.numbers m

  -- a register of a mutator is nil or holds an object
  pub register-held : (m d : ℕ) → Contains (numbers_of p.mutators) m → d < 16 → address_in (local_after_log p log m) d ≢ 0 → IsHeld s (address_in (local_after_log p log m) d)
  register-held m d known few some = end.moment.models.mirrors.held _
      (all-at (λ q. (k : ℕ) → k < 16 → register_at q k ≢ 0 → end.set (register_at q k)) (mutators_in p (machine_after p log)) (mutator_of (local_after_log p log m))
      end.moment.models.mirrors.registers (among (machine_after p log).locals (numbers_of p.mutators) m known) d few some)

  -- it has sixteen registers, and a number up to 16
  pub state : (m : ℕ) → Contains (numbers_of p.mutators) m → IsMutatorState (mutator_of (local_after_log p log m))
  state m known = all-at IsMutatorState (mutators_in p (machine_after p log)) (mutator_of (local_after_log p log m)) end.moment.models.mutators.each (among (machine_after p log).locals (numbers_of p.mutators) m known)

  pub held-ends : (a : ℕ) → IsHeld s a → a + size_at s a ≤ length p.before.words
  held-ends a holds = let e = ends_in_row s order a holds in let t = extent in omega arith

  pub inside-row : (m : ℕ) → Contains (numbers_of p.mutators) m → StaysInRow p (local_after_log p log m)
  inside-row m known = record {
    registers = λ d few. elim (cases_eq (address_in (local_after_log p log m) d) 0) as (λ _. (address_in (local_after_log p log m) d ≡ 0) ⊎ ((heap_of p.before.blocks ≤ address_in (local_after_log p log m) d) × (address_in (local_after_log p log m) d + 3 ≤ length p.before.words))) [
      | inl nil ↦ inl nil
      | inr some ↦ inr (let held = register-held m d known few some in let e = held-ends (address_in (local_after_log p log m) d) held in (held.address.from, omega arith))
    ];
    shape = λ some.
        let header = (epoch.knows m).header some in
        subst (λ w. (local_after_log p log m).shape.at + size_of (refs_in w) (nums_in w) ≤ length p.before.words) header.1 (held-ends (local_after_log p log m).shape.at header.0);
    globals = (let t = extent in omega arith);
    most = (let t = extent in let b = is.ready.lawful.but_lines.order.row.most in omega arith);
  }

-- a mutator has sixteen registers
pub sixteen : (p : Epoch) (q : MutatorView) → KnowsLog p q → length q.local.registers ≡ 16
sixteen p q told = ap (λ (l : Local). length l.registers) told.now ∙ (state p told.ideal q.seen told.epoch q.local.number told.known).registers
