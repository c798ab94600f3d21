-- Blocks of other mutators keep their regions.
use Rattle.std.proofs.Common.{◌≡◌, ◌≢◌, sym, ◌∙◌, ap, ℕ, inl, inr}
use Rattle.std.specs.Prelude.{Some, slice_get}
use Rattle.std.proofs.lemmas.Bool.{cases_eq}
use Rattle.heap_layout.specs.declared.region.Region.{Region}
use Rattle.block_regions.specs.declared.block_notes.BlockNote.{BlockNote}
use Rattle.block_regions.specs.declared.block_notes.BlockNote.TheVariants.{Owned}
use Rattle.block_regions.specs.Elements.{ChangesAt}
use Rattle.plain_row.specs.declared.plain_row.PlainRow.{PlainRow}
use Rattle.plain_row.specs.Rows.{number_at_turn}

-- from a to b a block of another mutator keeps its region
abbrev pub KeepsForeign : PlainRow → PlainRow → Type 0
KeepsForeign a b = (k owner : ℕ) (region : Region) → owner ≢ number_at_turn a
    → slice_get a.notes.items k ≡ Some (Owned owner region) → slice_get b.notes.items k ≡ Some (Owned owner region)

pub foreign-same : (a b : PlainRow) → b.notes ≡ a.notes → KeepsForeign a b
foreign-same a b same k owner region other is = ap (λ xs. slice_get xs.items k) same ∙ is

-- so it does if the note of one block changes, which is no other mutator's
pub foreign-but : (a b : PlainRow) (block : ℕ) (note : BlockNote) → ChangesAt a.notes.items b.notes.items block note
    → ((owner : ℕ) (region : Region) → owner ≢ number_at_turn a → slice_get a.notes.items block ≡ Some (Owned owner region) → ⊥) → KeepsForeign a b
foreign-but a b block note changes never k owner region other is = elim (cases_eq k block) as (λ _. slice_get b.notes.items k ≡ Some (Owned owner region)) [
  | inl here ↦ absurd (never owner region other (ap (slice_get a.notes.items) (sym here) ∙ is))
  | inr away ↦ changes.others k away ∙ is
]
