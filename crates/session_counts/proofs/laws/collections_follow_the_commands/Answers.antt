use Rattle.std.proofs.Common.{◌+◌, ◌≤◌, arith, length}
use Rattle.session_counts.proofs.Collections.{refused-in, session-fair}
use Rattle.session_counts.proofs.laws.collections_follow_the_commands.Goals as goal

pub returns-clause-young : goal.returns-clause-young
returns-clause-young c t now session plain = (session-fair t now session).none plain

pub returns-clause-first : goal.returns-clause-first
returns-clause-first c t now session some = (session-fair t now session).first some

pub returns-clause-nursery : goal.returns-clause-nursery
returns-clause-nursery c t now session = let most : now.nursery ≤ length now.done + 0 = (session-fair t now session).nursery in omega (arith, most)

pub returns-clause-full : goal.returns-clause-full
returns-clause-full c t now session = let most : now.full ≤ length now.done + 0 = (session-fair t now session).full in omega (arith, most)

pub returns-clause-refused : goal.returns-clause-refused
returns-clause-refused c t now session = let most : refused-in now.done + 0 ≤ now.full = (session-fair t now session).refused in omega (arith, most)
