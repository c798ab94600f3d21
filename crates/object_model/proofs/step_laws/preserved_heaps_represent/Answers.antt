use Rattle.std.proofs.Common.{◌∙◌}
use Rattle.object_model.proofs.Preserved.{represents, roots-moved}
use Rattle.object_model.proofs.step_laws.preserved_heaps_represent.Goals as goal

pub returns-clause-represents : goal.returns-clause-represents
returns-clause-represents c moves old new ms h after target order order' kept standing = represents moves old new ms h after target order order' kept standing

pub returns-clause-roots : goal.returns-clause-roots
returns-clause-roots c moves old new ms after target kept = kept.registers ∙ roots-moved target ms
