use Rattle.session_counts.proofs.SizeTests.{found, tested}
use Rattle.session_counts.proofs.laws.sizes_are_tested.Goals as goal

pub returns-clause-sizes : goal.returns-clause-sizes
returns-clause-sizes c objects words large small is = found objects words large small is

pub returns-clause-test : goal.returns-clause-test
returns-clause-test c objects words large small sizes are = tested objects words large small sizes are
