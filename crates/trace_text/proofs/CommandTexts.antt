-- Printed commands, and reading them again.
use Rattle.std.proofs.Common.{◌≡◌, refl, sym, ◌∙◌, ap, ℕ, suc, ◌<◌, ◌≤◌, arith, ◌⊎◌, inl, inr, Bool, true, false, cond, nat_eq, nat_le, List, [], ◌∷◌, ◌++◌, length, slice_index, eq-eqb, Option, Some, None, Ok}
use Rattle.std.specs.List.{join_with_byte, list_all}
use Rattle.std.specs.Str.{bytes_eq}
use Rattle.std.proofs.lemmas.Bool.{eqb-true, leb-true, ne_eqb, and_parts}
use Rattle.std.proofs.lemmas.List.{append-nil}
use Rattle.std.proofs.lemmas.List.Splits.{join_with_byte-slice_split}
use Rattle.std.proofs.lemmas.Slice.Eq.{bytes_eq-Decides}
use Rattle.ideal_heap.specs.declared.command.Command.{Command}
use Rattle.ideal_heap.specs.declared.command.Command.TheVariants as c
use Rattle.ideal_heap.specs.Commands.{IsValid}
use Rattle.trace_text.specs.declared.op.Op.{Op}
use Rattle.trace_text.specs.declared.op.Op.TheVariants as o
use Rattle.trace_text.specs.declared.fault.Why.TheVariants as why
use Rattle.trace_text.specs.Words.{Sort, most_of, word_of, sorts_of, command_of, op_in, arguments_in}
use Rattle.trace_text.specs.Grammar.{◌>>=◌, argument, arguments, with_op, if_some, op_of, of_words, words_of, line}
use Rattle.trace_text.specs.Text.{arguments_text, command_text}
use Rattle.trace_text.specs.Shortening.{Lacks}
use Rattle.trace_text.proofs.Spelled.{Lacks-append, argument_text, argument_again, argument_lacks, argument_is}
use Rattle.trace_text.proofs.WholeLines.{cut_at, cut_none}
use Rattle.trace_text.proofs.ValidLemmas.{bind_ok, chosen_yes}

-- each number is an argument of its sort
abbrev pub Fit : List Sort → List ℕ → Type 0
Fit [] [] = Unit {0}
Fit [] (x ∷ xs) = ⊥
Fit (sort ∷ sorts) [] = ⊥
Fit (sort ∷ sorts) (x ∷ xs) = (x ≤ most_of sort) × Fit sorts xs

fits : (c : Command) → IsValid c → Fit (sorts_of (op_in c)) (arguments_in c)
fits (c.New d r q) h = (h.0, (h.1, (h.2, tt)))
fits (c.Get d s i) h = (h.0, (h.1, (h.2, tt)))
fits (c.Put s i v) h = (h.0, (h.1, (h.2, tt)))
fits (c.Read s j) h = (h.0, (h.1, tt))
fits (c.Write s j n) h = (h.0, (h.1, (omega (arith, h.2), tt)))
fits (c.Add s j n) h = (h.0, (h.1, (omega (arith, h.2), tt)))
fits (c.Swap s j u v) h = (h.0, (h.1, (omega (arith, h.2), (omega (arith, h.3), tt))))
fits (c.Move d s) h = (h.0, (h.1, tt))
fits (c.DropReg s) h = (h, tt)
fits (c.Load d g) h = (h.0, (h.1, tt))
fits (c.Share g s) h = (h.0, (h.1, tt))
fits (c.Pin s) h = (h, tt)
fits (c.Unpin s) h = (h, tt)
fits c.Gc h = tt
fits c.Meet h = tt

-- the words of the arguments
abbrev pub argument_words : List Sort → List ℕ → List (List ℕ)
argument_words [] xs = []
argument_words (sort ∷ sorts) [] = []
argument_words (sort ∷ sorts) (x ∷ xs) = argument_text sort x ∷ argument_words sorts xs

words_again : (word : List ℕ) (sorts : List Sort) (xs : List ℕ) → Lacks 32 word → Fit sorts xs → words_of (word ++ arguments_text sorts xs) ≡ word ∷ argument_words sorts xs
words_again word [] [] lacks fit = ap words_of (append-nil word) ∙ cut_none 32 word lacks
words_again word [] (x ∷ xs) lacks fit = absurd fit
words_again word (sort ∷ sorts) [] lacks fit = absurd fit
words_again word (sort ∷ sorts) (x ∷ xs) lacks fit =
    cut_at 32 word (argument_text sort x ++ arguments_text sorts xs) lacks
    ∙ ap (λ words. word ∷ words) (words_again (argument_text sort x) sorts xs (argument_lacks 32 (omega arith) sort x fit.0) fit.1)

length-argument_words : (sorts : List Sort) (xs : List ℕ) → Fit sorts xs → length (argument_words sorts xs) ≡ length sorts
length-argument_words [] [] fit = refl
length-argument_words [] (x ∷ xs) fit = refl
length-argument_words (sort ∷ sorts) [] fit = absurd fit
length-argument_words (sort ∷ sorts) (x ∷ xs) fit = ap suc (length-argument_words sorts xs fit.1)

arguments_again : (sorts : List Sort) (xs : List ℕ) → Fit sorts xs → arguments sorts (argument_words sorts xs) ≡ Ok xs
arguments_again [] [] fit = refl
arguments_again [] (x ∷ xs) fit = absurd fit
arguments_again (sort ∷ sorts) [] fit = absurd fit
arguments_again (sort ∷ sorts) (x ∷ xs) fit = rw (argument_again sort x fit.0, arguments_again sorts xs fit.1) refl

made_again : (c : Command) → command_of (op_in c) (arguments_in c) ≡ c
made_again (c.New d r q) = refl
made_again (c.Get d s i) = refl
made_again (c.Put s i v) = refl
made_again (c.Read s j) = refl
made_again (c.Write s j n) = refl
made_again (c.Add s j n) = refl
made_again (c.Swap s j u v) = refl
made_again (c.Move d s) = refl
made_again (c.DropReg s) = refl
made_again (c.Load d g) = refl
made_again (c.Share g s) = refl
made_again (c.Pin s) = refl
made_again (c.Unpin s) = refl
made_again c.Gc = refl
made_again c.Meet = refl

with_op_again : (op : Op) (xs : List ℕ) → Fit (sorts_of op) xs → with_op op (argument_words (sorts_of op) xs) ≡ Ok (command_of op xs)
with_op_again op xs fit =
    rw (eq-eqb _ _ (length-argument_words (sorts_of op) xs fit), arguments_again (sorts_of op) xs fit) refl

letters_lack : (at : ℕ) → at < 48 → (word : List ℕ) → list_all (λ b. nat_le 48 b) word ≡ true → Lacks at word
letters_lack at low [] high = tt
letters_lack at low (b ∷ bs) high =
    let parts = and_parts (nat_le 48 b) (list_all (λ x. nat_le 48 x) bs) high in
    (ne_eqb b at (λ e. omega (arith, leb-true 48 b parts.0)), letters_lack at low bs parts.1)

letters : (op : Op) → list_all (λ b. nat_le 48 b) (word_of op) ≡ true
letters o.New = refl
letters o.Get = refl
letters o.Put = refl
letters o.Read = refl
letters o.Write = refl
letters o.Add = refl
letters o.Swap = refl
letters o.Move = refl
letters o.DropReg = refl
letters o.Load = refl
letters o.Share = refl
letters o.Pin = refl
letters o.Unpin = refl
letters o.Gc = refl
letters o.Meet = refl

-- no command's word has a space or a newline
word_lacks : (at : ℕ) → at < 48 → (op : Op) → Lacks at (word_of op)
word_lacks at low op = letters_lack at low (word_of op) (letters op)

pub line_again : (ops : List Op) (c : Command) → IsValid c → op_of ops (word_of (op_in c)) ≡ Some (op_in c) → line ops (command_text c) ≡ Ok c
unfolding line
line_again ops c valid known =
    ap (of_words ops) (words_again (word_of (op_in c)) (sorts_of (op_in c)) (arguments_in c) (word_lacks 32 (omega arith) (op_in c)) (fits c valid))
    ∙ ap (λ op. if_some op (argument_words (sorts_of (op_in c)) (arguments_in c))) known
    ∙ with_op_again (op_in c) (arguments_in c) (fits c valid) ∙ ap Ok (made_again c)

arguments_lack : (sorts : List Sort) (xs : List ℕ) → Fit sorts xs → Lacks 10 (arguments_text sorts xs)
arguments_lack [] [] fit = tt
arguments_lack [] (x ∷ xs) fit = tt
arguments_lack (sort ∷ sorts) [] fit = tt
arguments_lack (sort ∷ sorts) (x ∷ xs) fit =
    (refl, Lacks-append 10 (argument_text sort x) (arguments_text sorts xs) (argument_lacks 10 (omega arith) sort x fit.0) (arguments_lack sorts xs fit.1))

pub command_lacks : (c : Command) → IsValid c → Lacks 10 (command_text c)
command_lacks c valid =
    Lacks-append 10 (word_of (op_in c)) (arguments_text (sorts_of (op_in c)) (arguments_in c)) (word_lacks 10 (omega arith) (op_in c)) (arguments_lack (sorts_of (op_in c)) (arguments_in c) (fits c valid))

-- the converse: a line that is read is the one text of its command
chosen_op : (b : Bool) (x : Op) (rest : Option Op) (y : Op) → cond b (Some x) rest ≡ Some y → ((b ≡ true) × (x ≡ y)) ⊎ (rest ≡ Some y)
chosen_op true x rest y e = inl (refl, cc)
chosen_op false x rest y e = inr e

op_is : (ops : List Op) (word : List ℕ) (op : Op) → op_of ops word ≡ Some op → word ≡ word_of op
op_is [] word op e = absurd (cc)
op_is (q ∷ qs) word op e =
    elim (chosen_op (bytes_eq word (word_of q)) q (op_of qs word) op e) [
      | inl here ↦ (bytes_eq-Decides word (word_of q)).0 here.0 ∙ ap word_of here.1
      | inr later ↦ op_is qs word op later
    ]

arguments_are : (sorts : List Sort) (words : List (List ℕ)) (xs : List ℕ) → arguments sorts words ≡ Ok xs → length words ≡ length sorts
    → (words ≡ argument_words sorts xs) × (length xs ≡ length sorts)
arguments_are [] [] xs e same =
    let none : [] ≡ xs = cc in
    (refl, ap length (sym none))
arguments_are [] (word ∷ words) xs e same = absurd (omega arith)
arguments_are (sort ∷ sorts) [] xs e same = absurd (omega arith)
arguments_are (sort ∷ sorts) (word ∷ words) xs e same =
    let first = bind_ok (argument sort word) _ xs e in
    let rest = bind_ok (arguments sorts words) _ xs first.2 in
    let whole : first.0 ∷ rest.0 ≡ xs = cc in
    let others = arguments_are sorts words rest.0 rest.1 (omega arith) in
    let spelled = argument_is sort word first.0 first.1 in
    rw (← whole) (ap (λ w. w ∷ words) spelled ∙ ap (λ ws. argument_text sort first.0 ∷ ws) others.0, ap suc others.1)

joined_words : (word : List ℕ) (sorts : List Sort) (xs : List ℕ) → join_with_byte 32 (word ∷ argument_words sorts xs) ≡ word ++ arguments_text sorts xs
joined_words word [] xs = sym (append-nil word)
joined_words word (sort ∷ sorts) [] = sym (append-nil word)
joined_words word (sort ∷ sorts) (x ∷ xs) = ap (λ rest. word ++ 32 ∷ rest) (joined_words (argument_text sort x) sorts xs)

one_of : (xs : List ℕ) → length xs ≡ 1 → slice_index xs 0 ∷ [] ≡ xs
one_of [] few = absurd (omega arith)
one_of (a ∷ []) few = refl
one_of (a ∷ b ∷ xs) few = absurd (omega arith)

two_of : (xs : List ℕ) → length xs ≡ 2 → slice_index xs 0 ∷ slice_index xs 1 ∷ [] ≡ xs
two_of [] few = absurd (omega arith)
two_of (a ∷ xs) few = ap (λ ys. a ∷ ys) (one_of xs (omega arith))

three_of : (xs : List ℕ) → length xs ≡ 3 → slice_index xs 0 ∷ slice_index xs 1 ∷ slice_index xs 2 ∷ [] ≡ xs
three_of [] few = absurd (omega arith)
three_of (a ∷ xs) few = ap (λ ys. a ∷ ys) (two_of xs (omega arith))

four_of : (xs : List ℕ) → length xs ≡ 4 → slice_index xs 0 ∷ slice_index xs 1 ∷ slice_index xs 2 ∷ slice_index xs 3 ∷ [] ≡ xs
four_of [] few = absurd (omega arith)
four_of (a ∷ xs) few = ap (λ ys. a ∷ ys) (three_of xs (omega arith))

none_of : (xs : List ℕ) → length xs ≡ 0 → [] ≡ xs
none_of [] few = refl
none_of (a ∷ xs) few = absurd (omega arith)

op_again : (op : Op) (xs : List ℕ) → op_in (command_of op xs) ≡ op
op_again o.New xs = refl
op_again o.Get xs = refl
op_again o.Put xs = refl
op_again o.Read xs = refl
op_again o.Write xs = refl
op_again o.Add xs = refl
op_again o.Swap xs = refl
op_again o.Move xs = refl
op_again o.DropReg xs = refl
op_again o.Load xs = refl
op_again o.Share xs = refl
op_again o.Pin xs = refl
op_again o.Unpin xs = refl
op_again o.Gc xs = refl
op_again o.Meet xs = refl

numbers_again : (op : Op) (xs : List ℕ) → length xs ≡ length (sorts_of op) → arguments_in (command_of op xs) ≡ xs
numbers_again o.New xs few = three_of xs few
numbers_again o.Get xs few = three_of xs few
numbers_again o.Put xs few = three_of xs few
numbers_again o.Read xs few = two_of xs few
numbers_again o.Write xs few = three_of xs few
numbers_again o.Add xs few = three_of xs few
numbers_again o.Swap xs few = four_of xs few
numbers_again o.Move xs few = two_of xs few
numbers_again o.DropReg xs few = one_of xs few
numbers_again o.Load xs few = two_of xs few
numbers_again o.Share xs few = two_of xs few
numbers_again o.Pin xs few = one_of xs few
numbers_again o.Unpin xs few = one_of xs few
numbers_again o.Gc xs few = none_of xs few
numbers_again o.Meet xs few = none_of xs few

text_of : (op : Op) (xs : List ℕ) → length xs ≡ length (sorts_of op) → command_text (command_of op xs) ≡ word_of op ++ arguments_text (sorts_of op) xs
text_of op xs few =
    ap (λ p. word_of p ++ arguments_text (sorts_of p) (arguments_in (command_of op xs))) (op_again op xs)
    ∙ ap (λ ys. word_of op ++ arguments_text (sorts_of op) ys) (numbers_again op xs few)

with_op_is : (op : Op) (words : List (List ℕ)) (c : Command) → with_op op words ≡ Ok c → join_with_byte 32 (word_of op ∷ words) ≡ command_text c
with_op_is op words c e =
    let counted = chosen_yes (nat_eq (length words) (length (sorts_of op))) (arguments (sorts_of op) words >>= λ xs. Ok (command_of op xs)) why.Count c e in
    let read = bind_ok (arguments (sorts_of op) words) _ c counted.1 in
    let whole : command_of op read.0 ≡ c = cc in
    let are = arguments_are (sorts_of op) words read.0 read.1 (eqb-true (length words) (length (sorts_of op)) counted.0) in
    ap (λ ws. join_with_byte 32 (word_of op ∷ ws)) are.0 ∙ joined_words (word_of op) (sorts_of op) read.0
    ∙ sym (text_of op read.0 are.1) ∙ ap command_text whole

if_some_is : (op : Option Op) (words : List (List ℕ)) (c : Command) → if_some op words ≡ Ok c → (p : Op) × (op ≡ Some p) × (with_op p words ≡ Ok c)
if_some_is None words c e = absurd (cc)
if_some_is (Some op) words c e = (op, refl, e)

words_are : (ops : List Op) (words : List (List ℕ)) (c : Command) → of_words ops words ≡ Ok c → join_with_byte 32 words ≡ command_text c
words_are ops [] c e = absurd (cc)
words_are ops (word ∷ words) c e =
    let found = if_some_is (op_of ops word) words c e in
    ap (λ w. join_with_byte 32 (w ∷ words)) (op_is ops word found.0 found.1) ∙ with_op_is found.0 words c found.2

pub line_is : (ops : List Op) (bytes : List ℕ) (c : Command) → line ops bytes ≡ Ok c → bytes ≡ command_text c
unfolding line
line_is ops bytes c e = sym (join_with_byte-slice_split 32 bytes) ∙ words_are ops (words_of bytes) c e
