use Rattle.std.proofs.Common.{◌≡◌, ◌+◌, ◌<◌, ◌≤◌, ◌∙◌, subst, length, rules}
use Rattle.std.specs.Prelude.{Some, slice_get}
use lib.ListN.{get_or}
use Rattle.heap_layout.specs.declared.region.Region.{Region}
use Rattle.object_model.specs.Objects.{size_of}
use Rattle.sessions.specs.Fitting.{class_for}
use Rattle.block_regions.specs.declared.block_notes.BlockNote.TheVariants.{Owned}
use Rattle.block_regions.proofs.Lists.{get-below}
use Rattle.racing_mutator.specs.RacingSeats.{local, epoch_of_racing}
use Rattle.racing_rooms.specs.Rooms.{holdings, IsOwnRegion}
use Rattle.racing_mutator.specs.Searches.{IsWrittenAt}
use Rattle.racing_rooms.proofs.RoomsNoted.{same-region}
use Rattle.racing_mutator.proofs.OwnReturns.{note-read}
use Rattle.racing_mutator.proofs.RoomTaken.{keeps-with}
use Rattle.racing_mutator.proofs.racing.Racing.publish_found.Goals as goal

pub publish_in-requires-clause-note : goal.publish_in-requires-clause-note
publish_in-requires-clause-note g c =
    let found = c.requires.written.found in
    let items = c.args.self.now.seat.now.notes.blocks.items in
    let there : c.args.block < length items = get-below items c.args.block (Owned found.owner found.region) found.note in
    let note : slice_get items c.args.block ≡ Some (Owned c.in-Owned.owner c.in-Owned.region) =
    note-read items c.args.block c.index.result.now c.in-Owned.owner c.in-Owned.region there (c.index.ensures ∙ (λ k. get_or (c.notes.ensures k).blocks.items c.args.block c.index.result.now)) c.in-Owned.is in
    let same : found.region ≡ c.in-Owned.region = same-region items c.args.block found.owner c.in-Owned.owner found.region c.in-Owned.region found.note note in
    note

pub publish_in-requires-clause-region : goal.publish_in-requires-clause-region
publish_in-requires-clause-region g c =
    let found = c.requires.written.found in
    let items = c.args.self.now.seat.now.notes.blocks.items in
    let there : c.args.block < length items = get-below items c.args.block (Owned found.owner found.region) found.note in
    let note : slice_get items c.args.block ≡ Some (Owned c.in-Owned.owner c.in-Owned.region) =
    note-read items c.args.block c.index.result.now c.in-Owned.owner c.in-Owned.region there (c.index.ensures ∙ (λ k. get_or (c.notes.ensures k).blocks.items c.args.block c.index.result.now)) c.in-Owned.is in
    let same : found.region ≡ c.in-Owned.region = same-region items c.args.block found.owner c.in-Owned.owner found.region c.in-Owned.region found.note note in
    subst (λ (r : Region). IsOwnRegion (epoch_of_racing g.P.Plan.rules c.args.self.now) (holdings (local c.args.self.now)) c.args.block (class_for g.P.Plan.rules.fill (size_of c.args.shape.now.refs c.args.shape.now.nums)) r) same found.own

pub publish_in-requires-clause-room : goal.publish_in-requires-clause-room
publish_in-requires-clause-room g c =
    let found = c.requires.written.found in
    let items = c.args.self.now.seat.now.notes.blocks.items in
    let there : c.args.block < length items = get-below items c.args.block (Owned found.owner found.region) found.note in
    let note : slice_get items c.args.block ≡ Some (Owned c.in-Owned.owner c.in-Owned.region) =
    note-read items c.args.block c.index.result.now c.in-Owned.owner c.in-Owned.region there (c.index.ensures ∙ (λ k. get_or (c.notes.ensures k).blocks.items c.args.block c.index.result.now)) c.in-Owned.is in
    let same : found.region ≡ c.in-Owned.region = same-region items c.args.block found.owner c.in-Owned.owner found.region c.in-Owned.region found.note note in
    subst (λ (r : Region). r.next + size_of c.args.shape.now.refs c.args.shape.now.nums ≤ r.end) same found.room

pub publish_in-requires-clause-written : goal.publish_in-requires-clause-written
publish_in-requires-clause-written g c =
    let found = c.requires.written.found in
    let items = c.args.self.now.seat.now.notes.blocks.items in
    let there : c.args.block < length items = get-below items c.args.block (Owned found.owner found.region) found.note in
    let note : slice_get items c.args.block ≡ Some (Owned c.in-Owned.owner c.in-Owned.region) =
    note-read items c.args.block c.index.result.now c.in-Owned.owner c.in-Owned.region there (c.index.ensures ∙ (λ k. get_or (c.notes.ensures k).blocks.items c.args.block c.index.result.now)) c.in-Owned.is in
    let same : found.region ≡ c.in-Owned.region = same-region items c.args.block found.owner c.in-Owned.owner found.region c.in-Owned.region found.note note in
    subst (λ (r : Region). IsWrittenAt g.P.Plan.rules c.args.self.now c.args.block r c.args.shape.now.refs c.args.shape.now.nums) same c.requires.written.written

pub returns-clause-kept : goal.returns-clause-kept
returns-clause-kept g c = keeps-with c.args.self.now.seat.now c.publish_in.new.self.seat.now _ c.publish_in.ensures.holds
