-- A store of a reference that flags the object's block first, and then logs the object.
use Rattle.std.proofs.Common.{◌≡◌, sym, ◌∙◌, ap, subst, ℕ, ◌+◌, ◌<◌, true, [], ◌∷◌, slice_index}
use Rattle.std.specs.Prelude.{Some, slice_get}
use Rattle.heap_layout.specs.Zones.{UnlogBits, block_at, IsAddress}
use Rattle.ideal_heap.specs.declared.command.Command.TheVariants as c
use Rattle.ideal_heap.specs.declared.reply.Reply.TheVariants as r
use Rattle.object_model.specs.declared.shape.Shape.{Shape}
use Rattle.object_model.specs.BitWords.{bit_word, bit_place}
use Rattle.side_meta.specs.BitWords.{without_bit}
use Rattle.mutator_calls.specs.Effects.{logs}
use Rattle.plain_row.specs.declared.plain_row.PlainRow.{PlainRow}
use Rattle.plain_row.specs.Rows.{address_at}
use Rattle.plain_row.specs.Changes.{StoresWord, SetsFlag}
use Rattle.plain_row.specs.Worlds.{MayCall, Goes}
use Rattle.plain_row.specs.Steps.{HasShape}
use Rattle.plain_row.proofs.StoreSteps as storing
use Rattle.plain_row.proofs.LoggedStores as stores
use Rattle.plain_row.proofs.FlaggedBlocks as flags

-- the row with the unlog bit of this address clear
abbrev pub Cleared : PlainRow → PlainRow → ℕ → Type 0
Cleared w cleared n = StoresWord w cleared (bit_word w.row.layout.blocks UnlogBits n)
    (without_bit (slice_index w.row.words (bit_word w.row.layout.blocks UnlogBits n)) (bit_place w.row.layout.blocks n))

module _ (a w : PlainRow) (ready : MayCall a) (s : ℕ) (register : s < 16) (shape : Shape) (has-shape : HasShape a s shape)
    (sets : SetsFlag a w (block_at a.row.layout.blocks (address_at a s))) where
  abbrev block : ℕ
  block = block_at a.row.layout.blocks (address_at a s)

  address : IsAddress a.row.layout.blocks (address_at a s)
  address = (storing.held-in a ready s register has-shape.some).address

  flagged : slice_get w.flags.items (block_at w.row.layout.blocks (address_at w s)) ≡ Some true
  flagged = ap (λ n. slice_get w.flags.items (block_at w.row.layout.blocks n)) (flags.address-flagged a w block sets s)
      ∙ flags.is-flagged a w (address_at a s) ready address sets

  module _ (cleared b : PlainRow) (k v : ℕ) (value : v < 16) (there : k < shape.refs) (clears : Cleared w cleared (address_at a s))
      (store : StoresWord cleared b (address_at w s + 3 + k) (address_at w v)) where
    clears-there : Cleared w cleared (address_at w s)
    clears-there = subst (Cleared w cleared) (sym (flags.address-flagged a w block sets s)) clears

    pub ready-stored : MayCall b
    ready-stored = stores.ready-logged w cleared b (flags.ready-flagged a w block sets ready) s k v shape register value
        (flags.shape-flagged a w block sets s shape has-shape) there clears-there store flagged

    pub goes-stored : Goes a (logs (address_at a s ∷ []) (c.Put s k v) r.Done) b
    goes-stored = flags.goes-flagged a w block sets (logs (address_at a s ∷ []) (c.Put s k v) r.Done) b
        (subst (λ n. Goes w (logs (n ∷ []) (c.Put s k v) r.Done) b) (flags.address-flagged a w block sets s)
        (stores.goes-logged w cleared b (flags.ready-flagged a w block sets ready) s k v shape register value
        (flags.shape-flagged a w block sets s shape has-shape) there clears-there store flagged))
