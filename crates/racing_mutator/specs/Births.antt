-- What the steps of an allocation leave of a mutator's own state.
use Rattle.std.specs.Prelude.{◌≡◌, ℕ, ◌+◌, ◌<◌, ◌≤◌, Some, None, ◌∷◌, slice_set}
use Rattle.std.specs.List.{Contains}
use Rattle.heap_layout.specs.Zones.{block_at, block_start}
use Rattle.heap_layout.specs.declared.block.Kind.TheVariants as kinds
use Rattle.object_model.specs.Objects.{HasKind, size_of}
use Rattle.mutator_core.specs.declared.state.Extent.{Extent}
use Rattle.mutator_core.specs.declared.state.Local.{Local}
use Rattle.mutator_core.specs.Machine.{Epoch, nothing_unpublished}
use Rattle.mutator_rule.specs.declared.seat.MutatorSeat.{MutatorSeat}
use Rattle.mutator_rule.specs.Seats.{local_of}

-- the state with an unused ticket
abbrev pub with_ticket : Local → ℕ → Local
with_ticket l ticket = record l { ticket = Some ticket }

-- the state after the first `written` words of an object at address a were stored
abbrev pub writing : Local → ℕ → ℕ → ℕ → ℕ → Local
writing l a refs nums written = record l {
  unpublished = record {
    address = a;
    refs = refs;
    nums = nums;
    written = written;
  };
}

-- the state after the object at address a was published: register d holds it
abbrev pub born : Local → ℕ → ℕ → ℕ → ℕ → Local
born l a d refs nums = record l {
  registers = slice_set l.registers d a;
  births = l.births + 1;
  made = (record { address = a; size = size_of refs nums }) ∷ l.made;
  unpublished = nothing_unpublished;
}
