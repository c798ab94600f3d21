use Rattle.std.proofs.Common.{arith, inl, inr, ◌∙◌, sym}
use Rattle.trace_text.proofs.ShortLines.{without_after_many, without_in_word}
use Rattle.trace_text.proofs.short_line.ShortLine.may_lose.Goals as goal

pub returns-then-self-ge-MANY_WORDS : goal.returns-then-self-ge-MANY_WORDS
returns-then-self-ge-MANY_WORDS c = λ yes line short. without_after_many line c.args.self.now c.args.byte c.requires (omega (arith, c.if-self-ge-MANY_WORDS.true)) short

pub returns-then-self : goal.returns-then-self
returns-then-self c = λ yes line short. without_in_word line c.args.self.now c.args.byte c.requires c.if-byte-eq32.false (omega (arith, c.if-self-lt-LONG_WORD.false)) (inl c.if-self.true) short

pub returns-else-self : goal.returns-else-self
returns-else-self c = λ yes line short. without_in_word line c.args.self.now c.args.byte c.requires c.if-byte-eq32.false (omega (arith, c.if-self-lt-LONG_WORD.false)) (inr (sym c.is_ascii_digit.ensures.value ∙ yes)) short
