use Rattle.std.proofs.Common.{IsTrue, rules}
use Rattle.plan_tests.proofs.first_collections.first_collections_by_hand.Goals as goal

pub first_kind_in-requires-clause-readable : goal.first_kind_in-requires-clause-readable
first_kind_in-requires-clause-readable g c = (let yes : IsTrue c.is_readable.result = search rules in c.is_readable.ensures.readable yes)
