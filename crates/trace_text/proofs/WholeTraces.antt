-- Printed traces, and reading them again.
use Rattle.std.proofs.Common.{◌≡◌, refl, sym, ◌∙◌, ap, ℕ, ◌+◌, ◌≤◌, arith, Bool, true, false, cond, nat_lt, List, [], ◌∷◌, ◌++◌, map, length, Some, None, Result, Ok, Err, Vec, Global}
use Rattle.std.specs.List.{All, AllByRecursion, flat_map}
use Rattle.std.specs.Prelude.{IfOk}
use Rattle.std.specs.declared.alloc.AllocError.{AllocError}
use Rattle.std.specs.Str.{bytes_eq}
use Rattle.std.proofs.lemmas.Bool.{le-ltb}
use Rattle.std.proofs.lemmas.Slice.Eq.{bytes_eq-Decides}
use Rattle.ideal_heap.specs.declared.command.Command.{Command}
use Rattle.ideal_heap.specs.Commands.{IsValid}
use Rattle.trace_text.specs.declared.limits.TheConstants.{MAX_COMMANDS}
use Rattle.trace_text.specs.declared.op.Op.{Op}
use Rattle.trace_text.specs.declared.op.Op.TheVariants as o
use Rattle.trace_text.specs.declared.fault.TraceFault.TheVariants.{TooMany}
use Rattle.trace_text.specs.Words.{all_ops, word_of, op_in}
use Rattle.trace_text.specs.Grammar.{◌>>=◌, op_of, line, at_line, lines_from, header, lines_under, with_header, lines_of, trace}
use Rattle.trace_text.specs.Text.{command_text, ended, trace_text}
use Rattle.trace_text.proofs.WholeLines.{joined, AllLack, lines_again, whole_lines}
use Rattle.trace_text.proofs.CommandTexts.{line_again, line_is, command_lacks}
use Rattle.trace_text.proofs.ValidLemmas.{bind_ok, chosen_no, of_line, by_recursion}

pub known : (op : Op) → op_of all_ops (word_of op) ≡ Some op
known o.New = refl
known o.Get = refl
known o.Put = refl
known o.Read = refl
known o.Write = refl
known o.Add = refl
known o.Swap = refl
known o.Move = refl
known o.DropReg = refl
known o.Load = refl
known o.Share = refl
known o.Pin = refl
known o.Unpin = refl
known o.Gc = refl
known o.Meet = refl

lines_from_again : (n : ℕ) (cs : List Command) → n + length cs ≤ MAX_COMMANDS + 2 → AllByRecursion IsValid cs → lines_from (line all_ops) n (map command_text cs) ≡ Ok cs
lines_from_again n [] few valid = refl
lines_from_again n (c ∷ cs) few valid =
    rw (le-ltb (MAX_COMMANDS + 1) n (omega arith), line_again all_ops c valid.0 (known (op_in c)), lines_from_again (n + 1) cs (omega arith) valid.1) refl

all_lack : (cs : List Command) → AllByRecursion IsValid cs → AllLack (map command_text cs)
all_lack [] valid = tt
all_lack (c ∷ cs) valid = (command_lacks c valid.0, all_lack cs valid.1)

joined_texts : (cs : List Command) → flat_map (λ c. ended (command_text c)) cs ≡ joined (map command_text cs)
joined_texts [] = refl
joined_texts (c ∷ cs) = ap (λ rest. ended (command_text c) ++ rest) (joined_texts cs)

header_lacks : (lines : List (List ℕ)) → AllLack lines → AllLack (header ∷ lines)
header_lacks lines lack = ((refl, (refl, (refl, (refl, (refl, (refl, (refl, (refl, (refl, tt))))))))), lack)

each_again : (cs : List Command) → AllByRecursion IsValid cs → length cs ≤ MAX_COMMANDS → trace (trace_text cs) ≡ Ok cs
unfolding trace
each_again cs valid few =
    ap (λ rest. with_header (lines_of (ended header ++ rest))) (joined_texts cs)
    ∙ ap with_header (lines_again (header ∷ map command_text cs) (header_lacks (map command_text cs) (all_lack cs valid)))
    ∙ lines_from_again 2 cs (omega arith) valid

pub trace_again : (cs : List Command) → All IsValid cs → length cs ≤ MAX_COMMANDS → trace (trace_text cs) ≡ Ok cs
trace_again cs valid few = each_again cs (by_recursion IsValid cs valid) few

-- the converse: a text that ends with a newline is the one text of its commands
lines_are : (ops : List Op) (n : ℕ) (ls : List (List ℕ)) (cs : List Command) → lines_from (line ops) n ls ≡ Ok cs → ls ≡ map command_text cs
lines_are ops n [] cs e =
    let none : [] ≡ cs = cc in
    rw (← none) refl
lines_are ops n (l ∷ ls) cs e =
    let in_time = chosen_no (nat_lt (MAX_COMMANDS + 1) n) (at_line n (line ops l) >>= λ c. lines_from (line ops) (n + 1) ls >>= λ cs. Ok (c ∷ cs)) TooMany cs e in
    let first = bind_ok (at_line n (line ops l)) _ cs in_time.1 in
    let rest = bind_ok (lines_from (line ops) (n + 1) ls) _ cs first.2 in
    let whole : first.0 ∷ rest.0 ≡ cs = cc in
    let here = line_is ops l first.0 (of_line n (line ops l) first.0 first.1) in
    rw (← whole) (ap (λ x. x ∷ ls) here ∙ ap (λ xs. command_text first.0 ∷ xs) (lines_are ops (n + 1) ls rest.0 rest.1))

opened_is : (b : Bool) (ls : List (List ℕ)) (cs : List Command) → lines_under (cond b (Some all_ops) None) ls ≡ Ok cs → (b ≡ true) × (lines_from (line all_ops) 2 ls ≡ Ok cs)
opened_is true ls cs e = (refl, e)
opened_is false ls cs e = absurd (cc)

headed_lines : (ls : List (List ℕ)) (cs : List Command) → with_header ls ≡ Ok cs → ls ≡ header ∷ map command_text cs
headed_lines [] cs e = absurd (cc)
headed_lines (l ∷ ls) cs e =
    let opened = opened_is (bytes_eq l header) ls cs e in
    ap (λ x. x ∷ ls) ((bytes_eq-Decides l header).0 opened.0) ∙ ap (λ xs. header ∷ xs) (lines_are all_ops 2 ls cs opened.1)

pub trace_alone : (front : List ℕ) (cs : List Command) → trace (front ++ 10 ∷ []) ≡ Ok cs → front ++ 10 ∷ [] ≡ trace_text cs
unfolding trace
trace_alone front cs e =
    sym (whole_lines front) ∙ ap joined (headed_lines (lines_of (front ++ 10 ∷ [])) cs e)
    ∙ ap (λ rest. ended header ++ rest) (sym (joined_texts cs))

pub printed_again : (cs : List Command) (r : Result (Vec ℕ Global) AllocError) → All IsValid cs → length cs ≤ MAX_COMMANDS → IfOk r (λ v. v.items ≡ trace_text cs)
    → IfOk r (λ v. trace v.items ≡ Ok cs)
printed_again cs (Ok v) valid few text = ap trace text ∙ trace_again cs valid few
printed_again cs (Err e) valid few text = tt

pub printed_alone : (cs : List Command) (r : Result (Vec ℕ Global) AllocError) → IfOk r (λ v. v.items ≡ trace_text cs)
    → (front : List ℕ) → trace (front ++ 10 ∷ []) ≡ Ok cs → IfOk r (λ v. v.items ≡ front ++ 10 ∷ [])
printed_alone cs (Ok v) text front e = text ∙ sym (trace_alone front cs e)
printed_alone cs (Err d) text front e = tt
