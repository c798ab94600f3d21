use Rattle.std.proofs.Common.{length}
use Rattle.outside.proofs.Pieces.{on_err}
use Rattle.driver.specs.Texts.{replies_part}
use Rattle.driver.proofs.Sending.{appends-more, prefix-longer, prefix-last, on-ok, on-err}
use Rattle.driver.proofs.writing.write_session.Goals as goal

pub returns-in_err-write_all_replies-clause-prefix : goal.returns-in_err-write_all_replies-clause-prefix
returns-in_err-write_all_replies-clause-prefix g c t last closes =
    on_err _ _ (prefix-longer _ _ (replies_part (length t.traces) last) c.args.report.now (c.in_err-write_all_replies.ensures.prefix t last closes))

pub returns-clause-ok : goal.returns-clause-ok
returns-clause-ok g c t last closes =
    on-ok _ _ _ (appends-more _ _ _ (replies_part (length t.traces) last) c.args.report.now (c.in_ok-write_all_replies.ensures.ok t last closes)) c.write_text.ensures.ok

pub returns-clause-prefix : goal.returns-clause-prefix
returns-clause-prefix g c t last closes =
    on-err _ _ _ (prefix-last _ _ _ (replies_part (length t.traces) last) c.args.report.now (c.in_ok-write_all_replies.ensures.ok t last closes)) c.write_text.ensures.prefix
