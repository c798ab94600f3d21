use Rattle.std.proofs.Common.{refl, subst, ℕ}
use Rattle.std.specs.Prelude.{slice_set}
use Rattle.block_regions.specs.declared.block_notes.BlockNote.TheVariants.{Owned}
use Rattle.block_regions.specs.Elements.{ChangesAt}
use Rattle.block_regions.proofs.Elements.{set-changes}
use Rattle.plain_row.proofs.plain_row.PlainRow.move_to.Goals as goal

pub returns : goal.returns
returns c =
    let w = c.args.self.now in
    let owner : ℕ = c.number-owner.result in
    let hole = c.args.hole in
    record {
      plan = record { turn = refl; fill = refl; young = refl; allowance = refl; counts = refl; flags = refl };
      mutators = refl;
      row = refl;
      seats = refl;
      owned = refl;
      notes = subst (λ (n : ℕ). ChangesAt w.notes.items (slice_set w.notes.items c.args.block (Owned owner hole)) c.args.block (Owned n hole)) c.number-owner.ensures
          (set-changes w.notes.items c.args.block (Owned owner hole) c.requires.block);
    }
