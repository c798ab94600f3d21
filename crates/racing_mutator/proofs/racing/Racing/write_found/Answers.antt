use Rattle.std.proofs.Common.{◌≡◌, ◌+◌, ◌<◌, sym, ◌∙◌, ℕ, length, rules}
use Rattle.std.specs.Prelude.{Some, slice_get}
use lib.ListN.{get_or}
use Rattle.heap_layout.specs.Zones.{block_start}
use Rattle.object_model.specs.Objects.{size_of}
use Rattle.sessions.specs.Fitting.{class_for}
use Rattle.block_regions.specs.declared.block_notes.BlockNote.TheVariants.{Owned}
use Rattle.block_regions.proofs.Lists.{get-below}
use Rattle.racing_mutator.specs.RacingSeats.{view, epoch_of_racing}
use Rattle.racing_mutator.proofs.Pinned.{blocks-same}
use Rattle.racing_mutator.proofs.Allocated.{class-suits}
use Rattle.racing_rooms.proofs.OwnRegions.{may-begin}
use Rattle.racing_rooms.proofs.RoomsNoted.{same-region}
use Rattle.racing_mutator.proofs.OwnReturns.{note-read}
use Rattle.racing_mutator.proofs.Written.{holds-written, searches-written, has-written}
use Rattle.racing_mutator.proofs.racing.Racing.write_found.Goals as goal

pub write-requires-clause-begins : goal.write-requires-clause-begins
write-requires-clause-begins g c =
    let found = c.requires.found in
    let items = c.args.self.now.seat.now.notes.blocks.items in
    let there : c.args.block < length items = get-below items c.args.block (Owned found.owner found.region) found.note in
    let note : slice_get items c.args.block ≡ Some (Owned c.in-Owned.owner c.in-Owned.region) =
    note-read items c.args.block c.index.result.now c.in-Owned.owner c.in-Owned.region there (c.index.ensures ∙ (λ k. get_or (c.notes.ensures k).blocks.items c.args.block c.index.result.now)) c.in-Owned.is in
    let same : found.region ≡ c.in-Owned.region = same-region items c.args.block found.owner c.in-Owned.owner found.region c.in-Owned.region found.note note in
    let at : c.address-address.result ≡ block_start (epoch_of_racing g.P.Plan.rules c.args.self.now).before.blocks c.args.block + found.region.next =
    c.address-address.ensures ∙ (λ k. block_start (c.layout.ensures k).blocks c.args.block + c.in-Owned.region.next) ∙ (λ k. block_start (blocks-same g.P.Plan.rules c.args.self.now c.requires.ready k) c.args.block + (sym same k).next) in
    let size : ℕ = size_of c.args.shape.now.refs c.args.shape.now.nums in
    may-begin (epoch_of_racing g.P.Plan.rules c.args.self.now) (view c.args.self.now) c.requires.ready.own.2 c.args.block (class_for g.P.Plan.rules.fill size) found.region found.own
    c.args.shape.now.refs c.args.shape.now.nums c.address-address.result c.requires.small c.requires.refs c.requires.nums (class-suits g.P.Plan.rules.fill size c.requires.small) found.room at c.requires.ready.none c.requires.births

pub returns-clause-searches : goal.returns-clause-searches
returns-clause-searches g c = searches-written g.P.Plan.rules c.args.self.now c.write.new.self c.address-address.result c.args.shape.now.refs c.args.shape.now.nums c.write.ensures.makes c.write.ensures.wrote c.write.ensures.notes

pub returns-clause-written : goal.returns-clause-written
returns-clause-written g c =
    let found = c.requires.found in
    let items = c.args.self.now.seat.now.notes.blocks.items in
    let there : c.args.block < length items = get-below items c.args.block (Owned found.owner found.region) found.note in
    let note : slice_get items c.args.block ≡ Some (Owned c.in-Owned.owner c.in-Owned.region) =
    note-read items c.args.block c.index.result.now c.in-Owned.owner c.in-Owned.region there (c.index.ensures ∙ (λ k. get_or (c.notes.ensures k).blocks.items c.args.block c.index.result.now)) c.in-Owned.is in
    let same : found.region ≡ c.in-Owned.region = same-region items c.args.block found.owner c.in-Owned.owner found.region c.in-Owned.region found.note note in
    let at : c.address-address.result ≡ block_start (epoch_of_racing g.P.Plan.rules c.args.self.now).before.blocks c.args.block + found.region.next =
    c.address-address.ensures ∙ (λ k. block_start (c.layout.ensures k).blocks c.args.block + c.in-Owned.region.next) ∙ (λ k. block_start (blocks-same g.P.Plan.rules c.args.self.now c.requires.ready k) c.args.block + (sym same k).next) in
    has-written g.P.Plan.rules c.args.self.now c.write.new.self c.address-address.result c.args.shape.now.refs c.args.shape.now.nums c.write.ensures.makes c.write.ensures.wrote c.write.ensures.notes
    c.args.block c.write.ensures.own c.requires.ready.stored c.requires.rooms found at

pub returns-clause-holds : goal.returns-clause-holds
returns-clause-holds g c = holds-written g.P.Plan.rules c.args.self.now c.write.new.self c.address-address.result c.args.shape.now.refs c.args.shape.now.nums c.write.ensures.makes c.write.ensures.wrote c.write.ensures.notes
