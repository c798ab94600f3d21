use Rattle.std.proofs.Common.{◌∙◌, ap}
use Rattle.heap_layout.specs.declared.block.Kind.{Kind}
use Rattle.sessions.specs.Fitting.{class_for}
use Rattle.block_regions.proofs.Regions.{region-one, region-hole, region-lacks, class-lacks, region-some, suits-class, hole-region, part-class}
use Rattle.block_regions.proofs.FilledKinds.{clear-whole}
use Rattle.block_regions.proofs.region_laws.regions_are_holes.Goals as goal

pub returns-clause-one : goal.returns-clause-one
returns-clause-one c = region-one

pub returns-clause-hole : goal.returns-clause-hole
returns-clause-hole c = λ fill fills s k size r kind is class some small room.
    region-hole fill fills s k size r kind is
    (λ cells. suits-class s k size some small (class cells ∙ ap (λ (f : Kind). class_for f size) cells)) room

pub returns-clause-none : goal.returns-clause-none
returns-clause-none c = region-lacks

pub returns-clause-other_class : goal.returns-clause-other_class
returns-clause-other_class c = class-lacks

pub returns-clause-some : goal.returns-clause-some
returns-clause-some c = region-some

pub returns-clause-first : goal.returns-clause-first
returns-clause-first c = λ fill fills s k size r exact hole. (hole-region fill fills s k size r exact hole, part-class fill s k size r hole)

pub returns-clause-clear : goal.returns-clause-clear
returns-clause-clear c = clear-whole
