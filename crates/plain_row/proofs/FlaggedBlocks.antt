-- The flag of a block is set: no step of the machine.
use Rattle.std.proofs.Common.{◌≡◌, sym, ◌∙◌, ap, subst, ℕ, ◌<◌, ◌≤◌, arith, true, List, length}
use Rattle.std.specs.Prelude.{Some, slice_get}
use Rattle.heap_layout.specs.Zones.{heap_of, row_words, block_at, IsAddress}
use Rattle.ideal_heap.specs.Ideal.{IdealHeap}
use Rattle.object_model.specs.declared.shape.Shape.{Shape}
use Rattle.object_model.specs.Objects.{state_of}
use Rattle.mutator_core.specs.declared.state.LogEntry.{LogEntry}
use Rattle.mutator_core.specs.Machine.{Epoch}
use Rattle.mutator_calls.specs.Effects.{Effect}
use Rattle.block_regions.specs.Notes.{FlagsCover}
use Rattle.block_regions.proofs.BlockFlags.{covers-set}
use Rattle.block_regions.proofs.Elements.{set-here}
use Rattle.plain_row.specs.declared.plain_row.PlainRow.{PlainRow}
use Rattle.plain_row.specs.Rows.{address_at}
use Rattle.plain_row.specs.Changes.{SetsFlag}
use Rattle.plain_row.specs.Worlds.{IsAt, MayCall, Goes}
use Rattle.plain_row.specs.Steps.{HasShape}

module _ (a b : PlainRow) (block : ℕ) (sets : SetsFlag a b block) where
  at-same : (p : Epoch) (i : IdealHeap) (log : List LogEntry) → IsAt p i log a → IsAt p i log (record a { flags = b.flags })
  at-same p i log at = record {
    epoch = at.epoch;
    heap = at.heap;
    numbers = at.numbers;
    seats = at.seats;
    each = at.each;
    cursors = at.cursors;
    notes = at.notes;
    fill = at.fill;
    fills = at.fills;
    young = at.young;
    allowed = at.allowed;
    lists = record { owned = at.lists.owned; room = at.lists.room; counts = at.lists.counts };
    flags = subst (FlagsCover p.rules (state_of a.row)) (sym sets.flags) (covers-set p.rules (state_of a.row) a.flags.items block at.flags);
  }

  pub ready-flagged : MayCall a → MayCall b
  ready-flagged ready = subst MayCall (sym sets.rest) (record {
    turn = record { turn = ready.turn.turn; seats = ready.turn.seats };
    between_calls = record {
      some = record {
        epoch = ready.between_calls.some.epoch;
        ideal = ready.between_calls.some.ideal;
        log = ready.between_calls.some.log;
        at = at-same ready.between_calls.some.epoch ready.between_calls.some.ideal ready.between_calls.some.log ready.between_calls.some.at;
      };
      filled = ready.between_calls.filled;
    };
  })

  pub address-flagged : (s : ℕ) → address_at b s ≡ address_at a s
  address-flagged s = ap (λ w. address_at w s) sets.rest

  pub shape-flagged : (s : ℕ) (shape : Shape) → HasShape a s shape → HasShape b s shape
  shape-flagged s shape has = subst (λ w. HasShape w s shape) (sym sets.rest) (record { some = has.some; refs = has.refs; nums = has.nums })

  pub blocks-flagged : b.row.layout.blocks ≡ a.row.layout.blocks
  blocks-flagged = ap (λ w. w.row.layout.blocks) sets.rest

  -- the effect of the steps after it is that of all
  pub goes-flagged : (e : Effect) (c : PlainRow) → Goes b e c → Goes a e c
  goes-flagged e c goes = record {
    turn = now.turn;
    number = now.number;
    steps = λ p i log at. now.steps p i log (at-same p i log at);
    logged = now.logged;
    granted = now.granted;
    free = now.free;
    size = now.size;
    fill = now.fill;
    blocks = now.blocks;
    budget = now.budget;
    stop = now.stop;
    births = now.births;
    ticket = now.ticket;
    regions = now.regions;
    others = now.others;
    foreign = now.foreign;
  }
    where
      now : Goes (record a { flags = b.flags }) e c
      now = subst (λ w. Goes w e c) sets.rest goes

-- there is a flag for each block
pub flags-many : (a : PlainRow) → MayCall a → length a.flags.items ≡ a.row.layout.blocks
flags-many a ready = ready.between_calls.some.at.flags.len

-- the flag of the object's block is set then
pub is-flagged : (a b : PlainRow) (x : ℕ) → MayCall a → IsAddress a.row.layout.blocks x → SetsFlag a b (block_at a.row.layout.blocks x)
    → slice_get b.flags.items (block_at b.row.layout.blocks x) ≡ Some true
is-flagged a b x ready address sets =
    let from : heap_of a.row.layout.blocks ≤ x = address.from in
    let below : x < row_words a.row.layout.blocks = address.below in
    let inside : block_at a.row.layout.blocks x < length a.flags.items = (let many = flags-many a ready in omega arith) in
    ap (λ n. slice_get b.flags.items (block_at n x)) (blocks-flagged a b _ sets)
    ∙ ap (λ xs. slice_get xs (block_at a.row.layout.blocks x)) sets.flags ∙ set-here a.flags.items (block_at a.row.layout.blocks x) true inside
