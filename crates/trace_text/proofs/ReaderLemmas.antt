-- Readers: the result is that of all the lines.
use Rattle.std.proofs.Common.{◌≡◌, refl, sym, ◌∙◌, ap, ℕ, ◌+◌, ◌-◌, ◌<◌, arith, false, nat_lt, List, [], ◌∷◌, ◌++◌, take, drop, length, append_assoc, None, Result, Ok, Err, inl, inr}
use Rattle.std.specs.Prelude.{OnOk, if◌then◌else◌}
use Rattle.std.specs.Result.{is_ok}
use Rattle.std.proofs.lemmas.List.{take_rest, take-append-drop}
use Rattle.std.proofs.lemmas.Bool.{lt-ltb}
use Rattle.std.proofs.lemmas.List.{append-nil}
use Rattle.ideal_heap.specs.declared.command.Command.{Command}
use Rattle.trace_text.specs.declared.fault.TraceFault.{TraceFault}
use Rattle.trace_text.specs.declared.fault.TraceFault.TheVariants.{Line, TooMany, OutOfMemory}
use Rattle.trace_text.specs.declared.line_reader.LineReader.{LineReader}
use Rattle.trace_text.specs.declared.trace_reader.TraceReader.{TraceReader}
use Rattle.trace_text.specs.declared.limits.TheConstants.{MAX_COMMANDS}
use Rattle.trace_text.specs.Words.{all_ops}
use Rattle.trace_text.specs.Parts.{IsReadAs}
use Rattle.trace_text.specs.Grammar.{line, lines_from, lines_of, with_header, trace, Gives, parts_at, without_empty_end}
use Rattle.trace_text.specs.Readers.{with_prefix, end_of_lines, ReadsLines, HasWholeLines, HasRead}
use Rattle.trace_text.proofs.WholeLines.{cut_more, keeps_end, ended_parts, some_part}

with_prefix-one : {C : Type 0} (prefix : List C) (c : C) (r : Result (List C) TraceFault) → with_prefix prefix (with_prefix (c ∷ []) r) ≡ with_prefix (prefix ++ c ∷ []) r
with_prefix-one prefix c (Ok cs) = ap Ok (sym (append_assoc prefix (c ∷ []) cs))
with_prefix-one prefix c (Err f) = refl

-- a reader that goes on after the header
pub end_is : (r : LineReader) (ls : List (List ℕ)) → r.fault ≡ None → 1 < r.number → end_of_lines r ls ≡ with_prefix r.commands (lines_from (line all_ops) r.number ls)
end_is r ls none begun = rw (none, lt-ltb 1 r.number begun) refl

next_command : (prefix : List Command) (n : ℕ) (l : List ℕ) (ls : List (List ℕ)) (c : Command) → nat_lt (MAX_COMMANDS + 1) n ≡ false → line all_ops l ≡ Ok c
    → with_prefix prefix (lines_from (line all_ops) n (l ∷ ls)) ≡ with_prefix (prefix ++ c ∷ []) (lines_from (line all_ops) (n + 1) ls)
next_command prefix n l ls c early good = rw (early, good) (with_prefix-one prefix c (lines_from (line all_ops) (n + 1) ls))

-- one good line more
pub one_more : (old new : LineReader) (rest remaining : List ℕ) (c : Command) → IsReadAs rest (Ok c) remaining → old.fault ≡ None → 1 < old.number → nat_lt (MAX_COMMANDS + 1) old.number ≡ false
    → new.fault ≡ None → 1 < new.number → new.number ≡ old.number + 1 → new.commands ≡ old.commands ++ c ∷ [] → ReadsLines old new (lines_of rest) (lines_of remaining)
one_more old new rest remaining c read none begun early still after number pushed more =
    end_is new (lines_of remaining ++ more) still after ∙ rw (number, pushed) (sym (next_command old.commands old.number read.0 (lines_of remaining ++ more) c early (sym read.2)))
    ∙ sym (end_is old (read.0 ∷ lines_of remaining ++ more) none begun) ∙ ap (λ ls. end_of_lines old (ls ++ more)) (sym read.1)

-- the lines of a text of whole lines, and of a text after it
pub lines_after : (whole more : List ℕ) → HasWholeLines whole → lines_of (whole ++ more) ≡ lines_of whole ++ lines_of more
lines_after whole more (inl none) = rw none refl
lines_after whole more (inr some) =
    rw some.1 (ap lines_of (append_assoc some.0 (10 ∷ []) more) ∙ ap without_empty_end (cut_more some.0 more) ∙ keeps_end (parts_at 10 some.0) (parts_at 10 more) (some_part 10 more) ∙ sym (ap (λ ls. ls ++ lines_of more) (ended_parts some.0)))

pub whole_more : (before text : List ℕ) → 0 < length text → HasWholeLines text → HasWholeLines (before ++ text)
whole_more before text some (inl none) = absurd (let e : length text ≡ 0 = ap length none in omega (arith, e))
whole_more before text some (inr ends) = inr (before ++ ends.0, ap (λ l. before ++ l) ends.1 ∙ sym (append_assoc before ends.0 (10 ∷ [])))

-- the bytes begun, the first line and the whole lines after it are read, and `tail` is left
pub read_on : (old new : TraceReader) (middle : LineReader) (text piece first whole tail : List ℕ) → piece ≡ first ++ (whole ++ tail) → HasWholeLines (old.begun.items ++ first) → HasWholeLines whole
    → ReadsLines old.lines middle (lines_of (old.begun.items ++ first)) [] → ReadsLines middle new.lines (lines_of whole) [] → new.begun.items ≡ tail → HasRead old text → HasRead new (text ++ piece)
read_on old new middle text piece first whole tail parts ends between one two left had more =
    let whole_text : old.begun.items ++ (piece ++ more) ≡ (old.begun.items ++ first) ++ (whole ++ (tail ++ more)) =
    ap (λ l. old.begun.items ++ (l ++ more)) parts ∙ ap (λ l. old.begun.items ++ l) (append_assoc first (whole ++ tail) more ∙ ap (λ l. first ++ l) (append_assoc whole tail more))
    ∙ sym (append_assoc old.begun.items first (whole ++ (tail ++ more))) in
    ap trace (append_assoc text piece more) ∙ had (piece ++ more)
    ∙ ap (λ l. end_of_lines old.lines (lines_of l)) whole_text
    ∙ ap (end_of_lines old.lines) (lines_after (old.begun.items ++ first) (whole ++ (tail ++ more)) ends)
    ∙ sym (one (lines_of (whole ++ (tail ++ more))))
    ∙ ap (end_of_lines middle) (lines_after whole (tail ++ more) between)
    ∙ sym (two (lines_of (tail ++ more)))
    ∙ ap (λ l. end_of_lines new.lines (lines_of (l ++ more))) (sym left)

-- memory is taken for commands
pub read_reserved : (old new : TraceReader) (text : List ℕ) → new.begun ≡ old.begun → ((ls : List (List ℕ)) → end_of_lines new.lines ls ≡ end_of_lines old.lines ls) → HasRead old text → HasRead new text
read_reserved old new text begun same had more =
    had more ∙ sym (same (lines_of (old.begun.items ++ more))) ∙ ap (λ b. end_of_lines new.lines (lines_of (b.items ++ more))) (sym begun)

pub trace_is : (bytes : List ℕ) → trace bytes ≡ with_header (lines_of bytes)
unfolding trace
trace_is bytes = refl

-- an answer that is what is read
pub given : (result read : Result (List Command) TraceFault) → result ≡ read → Gives (λ v. v) result read
given (Ok cs) read is = sym is
given (Err (Line n w)) read is = sym is
given (Err TooMany) read is = sym is
given (Err OutOfMemory) read is = tt

-- the result at the end of the text
pub ends : (r : TraceReader) (text : List ℕ) (result : Result (List Command) TraceFault) (done : LineReader) → HasRead r text
    → ReadsLines r.lines done (lines_of r.begun.items) [] → result ≡ end_of_lines done [] → Gives (λ v. v) result (trace text)
ends r text result done had read is =
    let whole : end_of_lines done [] ≡ trace text =
    read [] ∙ ap (end_of_lines r.lines) (append-nil (lines_of r.begun.items)) ∙ ap (λ l. end_of_lines r.lines (lines_of l)) (sym (append-nil r.begun.items)) ∙ sym (had []) ∙ ap trace (append-nil text) in
    given result (trace text) (is ∙ whole)

-- a list that is x after Ok
pub on_ok : {X E A : Type 0} {Q : Type 0} (r : Result X E) (x a b : List A) → x ≡ (if is_ok r then a else b) → (x ≡ a → Q) → OnOk r Q
on_ok (Ok y) x a b e f = f e
on_ok (Err d) x a b e f = tt

pub on_ok_then : {X E : Type 0} {P Q : Type 0} (r : Result X E) → OnOk r P → (P → Q) → OnOk r Q
on_ok_then (Ok y) p f = f p
on_ok_then (Err d) p f = tt

-- a piece, its first line, the whole lines after it, and the rest
pub in_three : (piece : List ℕ) (n m : ℕ) (rest : List ℕ) → rest ≡ take (length piece - n) (drop n piece) → piece ≡ take n piece ++ (take m rest ++ take (length rest - m) (drop m rest))
in_three piece n m rest is =
    sym (ap (λ l. take n piece ++ l) (ap (λ l. take m rest ++ l) (take_rest rest m) ∙ take-append-drop m rest ∙ is ∙ take_rest piece n) ∙ take-append-drop n piece)
