-- A managed heap that begins: no entry, and no birth.
use Rattle.std.proofs.Common.{◌≡◌, refl, sym, ap, ◌∙◌, ℕ, ◌+◌, List, [], length, replicate}
use Rattle.std.proofs.lemmas.List.{length-replicate}
use Rattle.ideal_heap.specs.declared.command.Command.{Command}
use Rattle.object_model.specs.Objects.{HeapState}
use Rattle.heap_users.specs.Beginnings.{without_stop}
use Rattle.sessions.specs.Plans.{Rules}
use Rattle.sessions.specs.Sessions.{Setting, first_moment, traced_mutators}
use Rattle.managed_heap.specs.declared.stopped_heap.StoppedHeap.{StoppedHeap}
use Rattle.managed_heap.specs.Stopped.{HeapStandsAt}
use Rattle.managed_value.specs.declared.managed.ManagedHeap.{ManagedHeap}
use Rattle.managed_value.specs.Histories.{HasEntries, heap_births_at, collections_made}
use Rattle.managed_value.specs.Allocations.{IsEmpty}
use Rattle.managed_value.specs.Epochs.{BeginsWith}
use Rattle.managed_value.proofs.Places.{births-none-yet}

pub first-worker : {P : Type 0} (rules : Rules) (s : StoppedHeap P) (blocks count : ℕ)
    → ((t : Setting) → t.rules ≡ rules → t.workers ≡ 1 → t.blocks ≡ blocks → length t.traces ≡ count → HeapStandsAt rules s t (first_moment t)) → s.workers ≡ 1
first-worker rules s blocks count stands =
    let t : Setting = record { rules = rules; blocks = blocks; workers = 1; traces = replicate count [] } in sym (stands t refl refl refl (length-replicate count [])).workers

module _ {P : Type 0} (rules : Rules) (s : StoppedHeap P) (h : ManagedHeap P) (blocks count : ℕ) (begins : BeginsWith rules s h)
    (stands : (t : Setting) → t.rules ≡ rules → t.workers ≡ 1 → t.blocks ≡ blocks → length t.traces ≡ count → HeapStandsAt rules s t (first_moment t)) where
  abbrev no-traces : List (List Command)
  no-traces = replicate count []

  abbrev setting : Setting
  setting = record { rules = rules; blocks = blocks; workers = 1; traces = no-traces }

  first-stands : HeapStandsAt rules s setting (first_moment setting)
  first-stands = stands setting refl refl refl (length-replicate count [])

  pub first-entries : HasEntries rules h []
  first-entries = begins.entries setting (first_moment setting) first-stands

  pub first-births : (m : ℕ) → heap_births_at h m ≡ 0
  first-births m = begins.births m ∙ births-none-yet s.mutators.items (traced_mutators setting) first-stands.mutators m

  pub first-empty : IsEmpty h blocks
  first-empty w here = begins.heap w here ∙ ap (λ (x : HeapState). without_stop x) first-stands.heap

  pub first-counts : collections_made h ≡ 0
  first-counts = ap (λ (n : ℕ). n + h.full) (begins.nursery ∙ first-stands.nursery) ∙ ap (λ (n : ℕ). 0 + n) (begins.full ∙ first-stands.full)
