use Rattle.std.proofs.Common.{◌≡◌, refl, sym, subst, ℕ, ◌+◌, arith}
use Rattle.heap_layout.specs.Zones.{block_start}
use Rattle.object_model.specs.Objects.{HeapState, with_words, size_of}
use Rattle.object_model.specs.Changes.{WritesObject}
use Rattle.object_model.proofs.Births as births
use Rattle.block_regions.specs.Regions.{IsRegionIn}
use Rattle.block_regions.proofs.RegionFrames.{region-born, place-in}
use Rattle.block_regions.proofs.NewNotes.{adds-in-block}
use Rattle.block_regions.proofs.Regions.{region-inside}
use Rattle.object_model.proofs.Frames.{same-layout}
use Rattle.block_regions.proofs.region_laws.rests_are_regions.Goals as goal

pub returns : goal.returns
returns c = λ fill s new k refs nums n r rest there region room vacant writes left.
    let a : ℕ = block_start s.blocks k + r.next in
    let size : ℕ = size_of refs nums in
    let within = region-inside fill s k r region in
    let place = place-in s.blocks k r.next there (omega (arith, room, within.1)) in
    let same : new ≡ with_words s new.words = same-layout s new writes.blocks writes.number writes.base in
    let written : WritesObject s (with_words s new.words) a n refs nums = subst (λ (t : HeapState). WritesObject s t a n refs nums) same writes in
    subst (λ (t : HeapState). IsRegionIn fill t k rest) (sym same)
    (region-born s (with_words s new.words) k r.next size
    (adds-in-block s new.words a n refs nums (births.adds s new.words a n refs nums written vacant.address) vacant
    (births.block_words s new.words a n refs nums written vacant.address) (births.lines-same s new.words a n refs nums written vacant.address) k r.next there place.1 place.2)
    fill r rest refl room (λ is line few. births.lines-same s new.words a n refs nums written vacant.address k line there few) region left)
