use Rattle.std.proofs.Common.{sym}
use Rattle.driver.proofs.JoinedFiles.{asks-more, names-asked, risen-since}
use Rattle.driver.proofs.text_laws.files_are_asked_in_order.Goals as goal

pub returns-clause-first : goal.returns-clause-first
returns-clause-first c n files before after a = names-asked n files before after a

pub returns-clause-prefix : goal.returns-clause-prefix
returns-clause-prefix c files before after a = (a.0, names-asked a.0 files before after a.1)

pub returns-clause-unread : goal.returns-clause-unread
returns-clause-unread c files before after line u = (
  asks-more files u.place u.at.file u.count before.asked u.earlier after.asked u.at.is u.prefix u.last,
  u.at.good,
  risen-since before.faults u.count after.faults u.since u.risen,
  (u.at.file, u.at.is, sym u.line),
)

pub returns-clause-too_long : goal.returns-clause-too_long
returns-clause-too_long c files before after line u = (u.asked, u.at.good, (u.at.file, u.at.is, u.at.content_is, sym u.line))

pub returns-clause-bad : goal.returns-clause-bad
returns-clause-bad c files before after line u = (u.asked, u.at.good, (u.at.file, u.at.is, u.at.content_is, sym u.line))

pub returns-clause-usage : goal.returns-clause-usage
returns-clause-usage c job before after line u = (u.none, u.unread, sym u.line)
