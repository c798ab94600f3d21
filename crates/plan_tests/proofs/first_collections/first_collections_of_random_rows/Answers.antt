use Rattle.std.proofs.Common.{IsTrue, rules}
use Rattle.plan_tests.proofs.first_collections.first_collections_of_random_rows.Goals as goal

pub nurseries-requires-clause-readable : goal.nurseries-requires-clause-readable
nurseries-requires-clause-readable g c = (let yes : IsTrue c.is_readable.result = search rules in c.is_readable.ensures.readable yes)
