use Rattle.std.proofs.Common.{refl, subst, ℕ, ◌<◌, arith, length}
use Rattle.std.specs.Prelude.{slice_set}
use Rattle.block_regions.specs.declared.block_notes.BlockNote.TheVariants.{Owned}
use Rattle.plain_row.specs.Rows.{number_at_turn}
use Rattle.block_regions.specs.Elements.{ChangesAt}
use Rattle.block_regions.proofs.Elements.{set-changes}
use Rattle.plain_row.proofs.Turns.{IsCurrent, current-note, extent, owned-note}
use Rattle.plain_row.proofs.plain_row.PlainRow.advance.Goals as goal

pub rest_after-rest-requires-clause-extent : goal.rest_after-rest-requires-clause-extent
rest_after-rest-requires-clause-extent c = let now = c.requires.room.some in extent now.epoch now.ideal now.log c.args.self.now now.at

pub rest_after-rest-requires-clause-kind : goal.rest_after-rest-requires-clause-kind
rest_after-rest-requires-clause-kind c =
    let w = c.args.self.now in
    let is : IsCurrent w c.args.size c.args.block c.args.owner c.args.region.now =
    current-note w c.args.size c.requires.room c.args.block c.args.owner c.args.region.now c.requires.current c.requires.note in
    is.kind

pub rest_after-rest-requires-clause-class : goal.rest_after-rest-requires-clause-class
rest_after-rest-requires-clause-class c =
    let w = c.args.self.now in
    let is : IsCurrent w c.args.size c.args.block c.args.owner c.args.region.now =
    current-note w c.args.size c.requires.room c.args.block c.args.owner c.args.region.now c.requires.current c.requires.note in
    is.class

pub rest_after-rest-requires-clause-left : goal.rest_after-rest-requires-clause-left
rest_after-rest-requires-clause-left c =
    let w = c.args.self.now in
    let is : IsCurrent w c.args.size c.args.block c.args.owner c.args.region.now =
    current-note w c.args.size c.requires.room c.args.block c.args.owner c.args.region.now c.requires.current c.requires.note in
    let now = c.requires.room.some in
    (owned-note now.epoch now.ideal now.log w now.at c.args.block (number_at_turn w) c.args.region.now is.note).left

pub rest_after-rest-requires-clause-room : goal.rest_after-rest-requires-clause-room
rest_after-rest-requires-clause-room c =
    let w = c.args.self.now in
    let is : IsCurrent w c.args.size c.args.block c.args.owner c.args.region.now =
    current-note w c.args.size c.requires.room c.args.block c.args.owner c.args.region.now c.requires.current c.requires.note in
    is.room

pub rest_after-rest-requires-clause-end : goal.rest_after-rest-requires-clause-end
rest_after-rest-requires-clause-end c =
    let w = c.args.self.now in
    let is : IsCurrent w c.args.size c.args.block c.args.owner c.args.region.now =
    current-note w c.args.size c.requires.room c.args.block c.args.owner c.args.region.now c.requires.current c.requires.note in
    is.end

pub index_mut-requires : goal.index_mut-requires
index_mut-requires c =
    let w = c.args.self.now in
    let is : IsCurrent w c.args.size c.args.block c.args.owner c.args.region.now =
    current-note w c.args.size c.requires.room c.args.block c.args.owner c.args.region.now c.requires.current c.requires.note in
    let there : c.args.block < length w.notes.items = is.there in
    omega (arith, w.notes.ok.0)

pub returns : goal.returns
returns c =
    let w = c.args.self.now in
    let is : IsCurrent w c.args.size c.args.block c.args.owner c.args.region.now =
    current-note w c.args.size c.requires.room c.args.block c.args.owner c.args.region.now c.requires.current c.requires.note in
    record {
      plan = record { turn = refl; fill = refl; young = refl; allowance = refl; counts = refl; flags = refl };
      mutators = refl;
      row = refl;
      seats = refl;
      current = is.current;
      owned = refl;
      region = c.args.region.now;
      rest = c.rest_after-rest.result;
      was = is.note;
      begins = refl;
      room = is.room;
      left = c.rest_after-rest.ensures;
      notes = subst (λ (n : ℕ). ChangesAt w.notes.items (slice_set w.notes.items c.args.block (Owned c.args.owner c.rest_after-rest.result)) c.args.block (Owned n c.rest_after-rest.result)) is.own
          (set-changes w.notes.items c.args.block (Owned c.args.owner c.rest_after-rest.result) is.there);
    }
