-- Commands that are read are valid, and at most `MAX_COMMANDS`.
use Rattle.std.proofs.Common.{◌≡◌, refl, subst, ℕ, zero, suc, ◌+◌, ◌<◌, ◌≤◌, arith, Bool, true, false, cond, nat_eq, nat_lt, nat_le, List, [], ◌∷◌, map, length, get_or, Option, Some, None, Result, Ok, Err}
use Rattle.std.specs.Prelude.{IfOk}
use Rattle.std.specs.List.{All, AllByRecursion}
use Rattle.std.proofs.lemmas.Bool.{leb-true, ltb-false}
use Rattle.ideal_heap.specs.declared.command.Command.{Command}
use Rattle.ideal_heap.specs.Commands.{IsValid}
use Rattle.trace_text.specs.declared.limits.TheConstants.{MAX_COMMANDS}
use Rattle.trace_text.specs.declared.op.Op.{Op}
use Rattle.trace_text.specs.declared.op.Op.TheVariants as o
use Rattle.trace_text.specs.declared.fault.Why.{Why}
use Rattle.trace_text.specs.declared.fault.Why.TheVariants as why
use Rattle.trace_text.specs.declared.fault.TraceFault.{TraceFault}
use Rattle.trace_text.specs.declared.fault.TraceFault.TheVariants.{TooMany}
use Rattle.trace_text.specs.Words.{Sort, most_of, letter_of, sorts_of, command_of}
use Rattle.trace_text.specs.Grammar.{◌>>=◌, checked, numeral_after, argument, arguments, with_op, if_some, op_of, of_words, words_of, line, at_line, lines_from, opened_by, lines_under, with_header, lines_of, trace, Gives}

-- each element of a list, by index and by recursion
pub by_index : {X : Type 0} (P : X → Type 0) (xs : List X) → AllByRecursion P xs → (k : ℕ) (d : X) → k < length xs → P (get_or xs k d)
by_index P [] each k d less = absurd (omega arith)
by_index P (x ∷ xs) each zero d less = each.0
by_index P (x ∷ xs) each (suc k) d less = by_index P xs each.1 k d (omega arith)

pub by_recursion : {X : Type 0} (P : X → Type 0) (xs : List X) → All P xs → AllByRecursion P xs
by_recursion P [] all = tt
by_recursion P (x ∷ xs) all = (all 0 x (omega arith), by_recursion P xs (λ k d less. all (suc k) d (omega arith)))

pub bind_ok : {A B E : Type 0} (r : Result A E) (f : A → Result B E) (y : B) → (r >>= f) ≡ Ok y → (x : A) × (r ≡ Ok x) × (f x ≡ Ok y)
bind_ok (Ok x) f y e = (x, refl, e)
bind_ok (Err d) f y e = absurd (cc)

-- a choice whose other branch is an error
pub chosen_yes : {A E : Type 0} (b : Bool) (r : Result A E) (d : E) (y : A) → cond b r (Err d) ≡ Ok y → (b ≡ true) × (r ≡ Ok y)
chosen_yes true r d y e = (refl, e)
chosen_yes false r d y e = absurd (cc)

pub chosen_no : {A E : Type 0} (b : Bool) (r : Result A E) (d : E) (y : A) → cond b (Err d) r ≡ Ok y → (b ≡ false) × (r ≡ Ok y)
chosen_no true r d y e = absurd (cc)
chosen_no false r d y e = (refl, e)

pub checked_most : (most : ℕ) (o : Option ℕ) (x : ℕ) → checked most o ≡ Ok x → x ≤ most
checked_most most None x e = absurd (cc)
checked_most most (Some n) x e =
    let which = chosen_yes (nat_le n most) (Ok n) why.Range x e in
    let same : n ≡ x = cc in
    let below : n ≤ most = leb-true n most which.0 in
    omega arith

cons_most : (sort : Sort) (sorts : List Sort) (x : ℕ) (xs : List ℕ) → x ≤ most_of sort → ((i : ℕ) → get_or xs i 0 ≤ get_or (map most_of sorts) i 0)
    → (i : ℕ) → get_or (x ∷ xs) i 0 ≤ get_or (map most_of (sort ∷ sorts)) i 0
cons_most sort sorts x xs here others zero = here
cons_most sort sorts x xs here others (suc i) = others i

-- no argument is larger than its sort permits
arguments_most : (sorts : List Sort) (words : List (List ℕ)) (xs : List ℕ) → arguments sorts words ≡ Ok xs → (i : ℕ) → get_or xs i 0 ≤ get_or (map most_of sorts) i 0
arguments_most [] words xs e i =
    let none : [] ≡ xs = cc in
    rw (← none) (omega arith)
arguments_most (sort ∷ sorts) [] xs e i =
    let none : [] ≡ xs = cc in
    rw (← none) (omega arith)
arguments_most (sort ∷ sorts) (word ∷ words) xs e i =
    let first = bind_ok (argument sort word) _ xs e in
    let rest = bind_ok (arguments sorts words) _ xs first.2 in
    let whole : first.0 ∷ rest.0 ≡ xs = cc in
    rw (← whole) (cons_most sort sorts first.0 rest.0 (checked_most (most_of sort) (numeral_after (letter_of sort) word) first.0 first.1) (arguments_most sorts words rest.0 rest.1) i)

valid_command : (op : Op) (xs : List ℕ) → ((i : ℕ) → get_or xs i 0 ≤ get_or (map most_of (sorts_of op)) i 0) → IsValid (command_of op xs)
valid_command o.New xs most = (most 0, most 1, most 2)
valid_command o.Get xs most = (most 0, most 1, most 2)
valid_command o.Put xs most = (most 0, most 1, most 2)
valid_command o.Read xs most = (most 0, most 1)
valid_command o.Write xs most = (most 0, most 1, omega (arith, most 2))
valid_command o.Add xs most = (most 0, most 1, omega (arith, most 2))
valid_command o.Swap xs most = (most 0, most 1, omega (arith, most 2), omega (arith, most 3))
valid_command o.Move xs most = (most 0, most 1)
valid_command o.DropReg xs most = most 0
valid_command o.Load xs most = (most 0, most 1)
valid_command o.Share xs most = (most 0, most 1)
valid_command o.Pin xs most = most 0
valid_command o.Unpin xs most = most 0
valid_command o.Gc xs most = tt
valid_command o.Meet xs most = tt

valid_with_op : (op : Op) (words : List (List ℕ)) (c : Command) → with_op op words ≡ Ok c → IsValid c
valid_with_op op words c e =
    let counted = chosen_yes (nat_eq (length words) (length (sorts_of op))) (arguments (sorts_of op) words >>= λ xs. Ok (command_of op xs)) why.Count c e in
    let read = bind_ok (arguments (sorts_of op) words) _ c counted.1 in
    let whole : command_of op read.0 ≡ c = cc in
    subst IsValid whole (valid_command op read.0 (arguments_most (sorts_of op) words read.0 read.1))

valid_if_some : (op : Option Op) (words : List (List ℕ)) (c : Command) → if_some op words ≡ Ok c → IsValid c
valid_if_some None words c e = absurd (cc)
valid_if_some (Some op) words c e = valid_with_op op words c e

valid_words : (ops : List Op) (words : List (List ℕ)) (c : Command) → of_words ops words ≡ Ok c → IsValid c
valid_words ops [] c e = absurd (cc)
valid_words ops (word ∷ words) c e = valid_if_some (op_of ops word) words c e

pub valid_line : (ops : List Op) (bytes : List ℕ) (c : Command) → line ops bytes ≡ Ok c → IsValid c
unfolding line
valid_line ops bytes c e = valid_words ops (words_of bytes) c e

pub of_line : {C : Type 0} (n : ℕ) (r : Result C Why) (c : C) → at_line n r ≡ Ok c → r ≡ Ok c
of_line n (Ok d) c e = cc
of_line n (Err w) c e = absurd (cc)

-- every command comes from a line, and the number of lines is bounded
pub lines_good : {C : Type 0} (P : C → Type 0) (read : List ℕ → Result C Why) → ((l : List ℕ) (c : C) → read l ≡ Ok c → P c)
    → (n : ℕ) (ls : List (List ℕ)) (cs : List C) → n ≤ MAX_COMMANDS + 2 → lines_from read n ls ≡ Ok cs → AllByRecursion P cs × (n + length cs ≤ MAX_COMMANDS + 2)
lines_good P read each n [] cs early e =
    let none : [] ≡ cs = cc in
    rw (← none) (tt, omega arith)
lines_good P read each n (l ∷ ls) cs early e =
    let in_time = chosen_no (nat_lt (MAX_COMMANDS + 1) n) (at_line n (read l) >>= λ c. lines_from read (n + 1) ls >>= λ cs. Ok (c ∷ cs)) TooMany cs e in
    let first = bind_ok (at_line n (read l)) _ cs in_time.1 in
    let rest = bind_ok (lines_from read (n + 1) ls) _ cs first.2 in
    let whole : first.0 ∷ rest.0 ≡ cs = cc in
    let more : n ≤ MAX_COMMANDS + 1 = ltb-false (MAX_COMMANDS + 1) n in_time.0 in
    let others = lines_good P read each (n + 1) ls rest.0 (omega arith) rest.1 in
    rw (← whole) ((each l first.0 (of_line n (read l) first.0 first.1), others.0), omega (arith, others.1))

under_ops : (ops : Option (List Op)) (ls : List (List ℕ)) (cs : List Command) → lines_under ops ls ≡ Ok cs → AllByRecursion IsValid cs × (length cs ≤ MAX_COMMANDS)
under_ops None ls cs e = absurd (cc)
under_ops (Some ops) ls cs e =
    let good = lines_good IsValid (line ops) (valid_line ops) 2 ls cs (omega arith) e in
    (good.0, omega (arith, good.1))

under_header : (ls : List (List ℕ)) (cs : List Command) → with_header ls ≡ Ok cs → AllByRecursion IsValid cs × (length cs ≤ MAX_COMMANDS)
under_header [] cs e = absurd (cc)
under_header (l ∷ ls) cs e = under_ops (opened_by l) ls cs e

pub trace_good : (bytes : List ℕ) (cs : List Command) → trace bytes ≡ Ok cs → All IsValid cs × (length cs ≤ MAX_COMMANDS)
unfolding trace
trace_good bytes cs e =
    let good = under_header (lines_of bytes) cs e in
    (by_index IsValid cs good.0, good.1)

pub read_valid : (bytes : List ℕ) (r : Result (List Command) TraceFault) → Gives (λ v. v) r (trace bytes) → IfOk r (All IsValid)
read_valid bytes (Ok v) e = (trace_good bytes v e).0
read_valid bytes (Err d) e = tt

pub read_few : (bytes : List ℕ) (r : Result (List Command) TraceFault) → Gives (λ v. v) r (trace bytes) → IfOk r (λ v. length v ≤ MAX_COMMANDS)
read_few bytes (Ok v) e = (trace_good bytes v e).1
read_few bytes (Err d) e = tt
