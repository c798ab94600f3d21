use Rattle.std.proofs.Common.{arith, ◌≡◌, ◌<◌, ◌-◌, ◌++◌, ◌∙◌, refl, ap, take, drop, length, List, ℕ}
use Rattle.std.proofs.lemmas.List.{length-take-le}
use Rattle.trace_text.specs.declared.trace_reader.TraceReader.{TraceReader}
use Rattle.trace_text.specs.Grammar.{lines_of}
use Rattle.trace_text.specs.Readers.{end_of_lines, HasWholeLines}
use Rattle.trace_text.proofs.ReaderLemmas.{read_on, read_reserved, whole_more, on_ok, on_ok_then, in_three}
use Rattle.trace_text.proofs.trace_reader.TraceReader.read.Goals as goal

pub returns-then-first-eq0 : goal.returns-then-first-eq0
returns-then-first-eq0 c =
    let reserved : TraceReader = record { alloc = c.args.self.now.alloc; lines = c.reserve.new.self; begun = c.args.self.now.begun } in
    on_ok_then c.begin_line.result c.begin_line.ensures (λ goes text had. goes text (read_reserved c.args.self.now reserved text refl c.in_ok-reserve.ensures had))

pub returns : goal.returns
returns c =
    let old : TraceReader = c.args.self.now in
    let new : TraceReader = record { alloc = old.alloc; lines = c.read-2.new.self; begun = c.extend_from_slice-2.new.self } in
    let piece : List ℕ = c.args.piece.now in
    let n : ℕ = c.first_line-first.result in
    let m : ℕ = c.whole_lines-end.result in
    let first : List ℕ = take n piece in
    let rest : List ℕ = take (length piece - n) (drop n piece) in
    let some : 0 < length first = rw (length-take-le n piece c.first_line-first.ensures.within) (grind arith) in
    let ends : HasWholeLines (old.begun.items ++ first) = whole_more old.begun.items first some c.first_line-first.ensures.whole in
    let tail : List ℕ = take (length rest - m) (drop m rest) in
    let begun : c.deref.result.now ≡ old.begun.items ++ first = c.deref.ensures.value ∙ c.in_ok-extend_from_slice.ensures.items in
    on_ok c.extend_from_slice-2.result _ _ _ c.extend_from_slice-2.ensures.items (λ e text. read_on old new c.read.new.self text piece first (take m rest) tail (in_three piece n m rest refl) ends c.whole_lines-end.ensures.whole
    (λ more. c.in_ok-read.ensures more ∙ ap (λ (l : List ℕ). end_of_lines c.reserve.new.self (lines_of l ++ more)) begun ∙ c.in_ok-reserve.ensures (lines_of (old.begun.items ++ first) ++ more)) c.in_ok-read-2.ensures (e ∙ ap (λ (l : List ℕ). l ++ tail) c.clear.ensures.items))
