use Rattle.std.proofs.Common.{arith, refl}
use Rattle.trace_text.proofs.ShortLines.{with_space, with_byte}
use Rattle.trace_text.proofs.short_line.ShortLine.add.Goals as goal

pub returns-then-byte-eq32 : goal.returns-then-byte-eq32
returns-then-byte-eq32 c = λ line short. with_space line c.args.self.now _ c.args.byte short c.if-byte-eq32.true c.in_ok-push.ensures.items (omega (arith, c.saturating_add-self.ensures)) refl refl

pub returns : goal.returns
returns c = λ line short. with_byte line c.args.self.now _ c.args.byte short c.requires c.if-byte-eq32.false c.in_ok-push.ensures.items refl (omega (arith, c.saturating_add-self-2.ensures)) c.is_spoiled_by-self.ensures
