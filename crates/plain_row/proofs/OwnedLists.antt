-- The list of the blocks that mutators own, and the flags of blocks, from step to step.
use Rattle.std.proofs.Common.{◌≡◌, sym, ◌∙◌, ap, subst, ℕ, ◌+◌, ◌<◌, ◌≤◌, arith, [], ◌∷◌, ◌++◌, length}
use Rattle.std.specs.Prelude.{vec_len, vec_capacity}
use Rattle.heap_layout.specs.declared.region.Region.{Region}
use Rattle.object_model.specs.Objects.{state_of}
use Rattle.mutator_core.specs.Machine.{Epoch}
use Rattle.plan_api.specs.Counting.{session_counts}
use Rattle.plain_row.specs.declared.plain_row.PlainRow.{PlainRow}
use Rattle.block_regions.specs.declared.block_notes.BlockNote.TheVariants.{Owned}
use Rattle.block_regions.specs.Elements.{ChangesAt}
use Rattle.block_regions.specs.Notes.{FlagsCover, ListsOwned}
use Rattle.plain_row.specs.Worlds.{HasLists, IsInSomeEpoch}
use Rattle.local_allocators.proofs.OwnedLists.{IsTaken, listed-taken, listed-room}

-- the lists of a world, after a step that takes no block
pub lists-moved : (p : Epoch) (a b : PlainRow) → HasLists p a → ListsOwned b.notes.items a.owned.items → b.owned ≡ a.owned → b.counts ≡ a.counts
    → b.row.layout.blocks ≡ a.row.layout.blocks → HasLists p b
lists-moved p a b lists moved owned counts blocks = record {
  owned = subst (λ v. ListsOwned b.notes.items v.items) (sym owned) moved;
  room = subst (λ n. n ≤ vec_capacity b.owned) (sym blocks) (subst (λ v. a.row.layout.blocks ≤ vec_capacity v) (sym owned) lists.room);
  counts = ap (λ c. session_counts c) counts ∙ lists.counts;
}

pub lists-kept : (p : Epoch) (a b : PlainRow) → HasLists p a → b.notes ≡ a.notes → b.owned ≡ a.owned → b.counts ≡ a.counts
    → b.row.layout.blocks ≡ a.row.layout.blocks → HasLists p b
lists-kept p a b lists notes = lists-moved p a b lists (subst (λ v. ListsOwned v.items a.owned.items) (sym notes) lists.owned)

-- its flags, after a step that changes no word
pub flags-kept : (p : Epoch) (a b : PlainRow) → FlagsCover p.rules (state_of a.row) a.flags.items → b.flags ≡ a.flags → b.row ≡ a.row
    → FlagsCover p.rules (state_of b.row) b.flags.items
flags-kept p a b cover flags row = subst (λ v. FlagsCover p.rules (state_of b.row) v.items) (sym flags) (subst (λ r. FlagsCover p.rules (state_of r) a.flags.items) (sym row) cover)

-- and the list after one that takes a block
pub lists-taken : (p : Epoch) (a b : PlainRow) (block number : ℕ) (region : Region) → HasLists p a → (IsTaken a.notes.items block → ⊥)
    → ChangesAt a.notes.items b.notes.items block (Owned number region) → b.owned.items ≡ a.owned.items ++ block ∷ []
    → vec_capacity b.owned ≡ vec_capacity a.owned → b.counts ≡ a.counts → b.row.layout.blocks ≡ a.row.layout.blocks → HasLists p b
lists-taken p a b block number region lists nobody changes owned room counts blocks = record {
  owned = subst (ListsOwned b.notes.items) (sym owned) (listed-taken a.notes.items a.owned.items lists.owned block nobody b.notes.items number region changes);
  room = subst (λ n. n ≤ vec_capacity b.owned) (sym blocks) (subst (λ n. a.row.layout.blocks ≤ n) (sym room) lists.room);
  counts = ap (λ c. session_counts c) counts ∙ lists.counts;
}

-- there is room in the list for a block that nobody owns
pub world-room : (w : PlainRow) → IsInSomeEpoch w → (block : ℕ) → block < w.row.layout.blocks → (IsTaken w.notes.items block → ⊥) → vec_len w.owned < vec_capacity w.owned
world-room w some block there nobody =
    let more : length w.owned.items + 1 ≤ w.row.layout.blocks
    = listed-room w.notes.items w.owned.items some.at.lists.owned block nobody w.row.layout.blocks some.at.notes.len there in
    let room : w.row.layout.blocks ≤ vec_capacity w.owned = some.at.lists.room in
    let len : vec_len w.owned ≡ length w.owned.items = w.owned.ok.0 in
    omega arith
