-- The lines of printed replies, and reading the replies from them.
use Rattle.std.proofs.Common.{◌≡◌, refl, sym, ◌∙◌, ap, subst, ℕ, zero, suc, ◌+◌, ◌/◌, ◌%◌, ◌<◌, ◌^◌, arith, rules, inl, inr, Bool, true, false, nat_eq, nat_lt, List, [], ◌∷◌, ◌++◌, map, length, get_or, take, drop, append_assoc, append-nil}
use Rattle.std.specs.Prelude.{◌⊎◌, ◌==◌, codes, if◌then◌else◌, slice_index_or}
use Rattle.std.specs.Char.{is_ascii_digit}
use Rattle.std.specs.Fmt.{decimal, digits, digits_onto, digit_glyph}
use Rattle.std.specs.List.{All, AllByRecursion, Any, list_all}
use Rattle.std.specs.Str.{bytes_eq}
use Rattle.std.specs.Str.Parse.{digits_value}
use Rattle.std.proofs.lemmas.Bool.{ne_eqb}
use Rattle.std.proofs.lemmas.Fmt.{digits_value-decimal}
use Rattle.std.proofs.lemmas.Str.Parse.{IsNumeralModel, numerals_by_value}
use Rattle.ideal_heap.specs.declared.name.Name.{Name}
use Rattle.ideal_heap.specs.Names.{name}
use Rattle.ideal_heap.specs.declared.reply.Reply.{Reply}
use Rattle.ideal_heap.specs.declared.reply.Reply.TheVariants as r
use Rattle.trace_text.specs.Grammar.{parts_at, lines_of}
use Rattle.trace_text.specs.Text.{ended, name_text, reply_text, replies_text, mutator_text, IsPrintable, HasFullLine}
use Rattle.trace_text.specs.Shortening.{Lacks}
use Rattle.trace_text.proofs.Spelled.{Lacks-append}
use Rattle.trace_text.proofs.ValidLemmas.{by_recursion}
use Rattle.trace_text.proofs.WholeLines.{AllLack, joined, cut_at, cut_none, lines_before}

-- no digit of a number, however large, is a byte below `0`
one_of : (b : Bool) (at : ℕ) (xs ys : List ℕ) → Lacks at xs → Lacks at ys → Lacks at (if b then xs else ys)
one_of true at xs ys h k = h
one_of false at xs ys h k = k

glyph_above : (b : Bool) (at d : ℕ) → at < 48 → nat_eq (if b then 48 + d else (if false then 55 + d else 87 + d)) at ≡ false
glyph_above true at d low = ne_eqb (48 + d) at (λ e. omega (arith, e, low))
glyph_above false at d low = ne_eqb (87 + d) at (λ e. omega (arith, e, low))

onto_lacks : (at k n : ℕ) (acc : List ℕ) → at < 48 → Lacks at acc → Lacks at (digits_onto k 10 false n acc)
onto_lacks at zero n acc low h = h
onto_lacks at (suc k) n acc low h =
    let more : Lacks at (digit_glyph false (n % 10) ∷ acc) = (glyph_above (nat_lt (n % 10) 10) at (n % 10) low, h) in
    one_of (n / 10 == 0) at (digit_glyph false (n % 10) ∷ acc) (digits_onto k 10 false (n / 10) (digit_glyph false (n % 10) ∷ acc)) more
    (onto_lacks at k (n / 10) (digit_glyph false (n % 10) ∷ acc) low more)

number_lacks : (at n : ℕ) → at < 48 → Lacks at (decimal n)
unfolding digits
number_lacks at n low = onto_lacks at 64 n [] low tt

name_is : (n : Name) → name_text n ≡ decimal n.mutator ++ 46 ∷ decimal n.birth
name_is n = append_assoc (decimal n.mutator) (46 ∷ []) (decimal n.birth)

name_lacks : (n : Name) → Lacks 10 (name_text n)
name_lacks n = subst (Lacks 10) (sym (name_is n)) (Lacks-append 10 (decimal n.mutator) (46 ∷ decimal n.birth) (number_lacks 10 n.mutator (omega arith)) (refl, number_lacks 10 n.birth (omega arith)))

-- no newline stands within a line
reply_lacks : (x : Reply) → Lacks 10 (reply_text x)
reply_lacks (r.New n) = (refl, (refl, (refl, (refl, name_lacks n))))
reply_lacks r.Full = (refl, (refl, (refl, (refl, tt))))
reply_lacks (r.Ref n) = (refl, (refl, (refl, (refl, name_lacks n))))
reply_lacks r.Nil = (refl, (refl, (refl, tt)))
reply_lacks (r.Num n) = (refl, (refl, (refl, (refl, number_lacks 10 n (omega arith)))))
reply_lacks r.Done = (refl, (refl, tt))
reply_lacks r.Yes = (refl, (refl, (refl, tt)))
reply_lacks r.No = (refl, (refl, tt))
reply_lacks r.Null = (refl, (refl, (refl, (refl, tt))))
reply_lacks r.Range = (refl, (refl, (refl, (refl, (refl, tt)))))

replies_lack : (xs : List Reply) → AllLack (map reply_text xs)
replies_lack [] = tt
replies_lack (x ∷ xs) = (reply_lacks x, replies_lack xs)

joined_replies : (xs : List Reply) → replies_text xs ≡ joined (map reply_text xs)
joined_replies [] = refl
joined_replies (x ∷ xs) = ap (λ rest. ended (reply_text x) ++ rest) (joined_replies xs)

-- the line before the replies of a mutator
abbrev first_line : ℕ → List ℕ
first_line m = codes "mutator " ++ decimal m

-- the lines of a mutator's text and of what follows it
pub text_lines : (m : ℕ) (xs : List Reply) (more : List ℕ) → lines_of (mutator_text m xs ++ more) ≡ (first_line m ∷ map reply_text xs) ++ lines_of more
text_lines m xs more =
    ap (λ rest. lines_of ((ended (first_line m) ++ rest) ++ more)) (joined_replies xs)
    ∙ lines_before (first_line m ∷ map reply_text xs) more
    ((refl, (refl, (refl, (refl, (refl, (refl, (refl, (refl, number_lacks 10 m (omega arith))))))))), replies_lack xs)

-- some element, of a list by parts
module _ {X : Type 0} (P : X → Type 0) where
  pub any_first : (x : X) (xs : List X) → P x → Any P (x ∷ xs)
  any_first x xs p = (0, x, omega arith, refl, p)

  pub any_later : (x : X) (xs : List X) → Any P xs → Any P (x ∷ xs)
  any_later x xs a = (suc a.0, a.1, omega (arith, a.2), a.3, a.4)

  any_at : (x y : X) (xs : List X) (k : ℕ) → k < suc (length xs) → slice_index_or (x ∷ xs) k y ≡ y → P y → P x ⊎ Any P xs
  any_at x y xs zero low is p = inl (subst P (sym is) p)
  any_at x y xs (suc k) low is p = inr (k, y, omega (arith, low), is, p)

  pub any_of : (x : X) (xs : List X) → Any P (x ∷ xs) → P x ⊎ Any P xs
  any_of x xs a = any_at x a.1 xs a.0 a.2 a.3 a.4

  pub any_none : Any P [] → ⊥
  any_none a = omega (arith, a.2)

  any_front : (xs ys : List X) → Any P xs → Any P (xs ++ ys)
  any_front [] ys a = absurd (any_none a)
  any_front (x ∷ xs) ys a = elim (any_of x xs a) as (λ _. Any P (x ∷ xs ++ ys)) [
    | inl p ↦ any_first x (xs ++ ys) p
    | inr rest ↦ any_later x (xs ++ ys) (any_front xs ys rest)
  ]

  any_behind : (xs ys : List X) → Any P ys → Any P (xs ++ ys)
  any_behind [] ys a = a
  any_behind (x ∷ xs) ys a = any_later x (xs ++ ys) (any_behind xs ys a)

  any_either : (xs ys : List X) → Any P (xs ++ ys) → Any P xs ⊎ Any P ys
  any_either [] ys a = inr a
  any_either (x ∷ xs) ys a = elim (any_of x (xs ++ ys) a) as (λ _. Any P (x ∷ xs) ⊎ Any P ys) [
    | inl p ↦ inl (any_first x xs p)
    | inr rest ↦ elim (any_either xs ys rest) as (λ _. Any P (x ∷ xs) ⊎ Any P ys) [ inl a ↦ inl (any_later x xs a) | inr a ↦ inr a ]
  ]

abbrev pub IsFullLine : List ℕ → Type 0
IsFullLine line = line ≡ codes "full"

abbrev pub IsRefusal : Reply → Type 0
IsRefusal x = x ≡ r.Full

other_first : (line : List ℕ) (b : ℕ) → get_or line 0 0 ≡ b → (b ≡ 102 → ⊥) → line ≡ codes "full" → ⊥
other_first line b is other e = other (sym is ∙ ap (λ bytes. get_or bytes 0 0) e)

refusal_from : (x : Reply) → reply_text x ≡ codes "full" → x ≡ r.Full
refusal_from (r.New n) e = absurd (other_first (reply_text (r.New n)) 110 refl (λ h. omega (arith, h)) e)
refusal_from r.Full e = refl
refusal_from (r.Ref n) e = absurd (other_first (reply_text (r.Ref n)) 114 refl (λ h. omega (arith, h)) e)
refusal_from r.Nil e = absurd (other_first (reply_text r.Nil) 110 refl (λ h. omega (arith, h)) e)
refusal_from (r.Num n) e = absurd (other_first (reply_text (r.Num n)) 110 refl (λ h. omega (arith, h)) e)
refusal_from r.Done e = absurd (other_first (reply_text r.Done) 111 refl (λ h. omega (arith, h)) e)
refusal_from r.Yes e = absurd (other_first (reply_text r.Yes) 121 refl (λ h. omega (arith, h)) e)
refusal_from r.No e = absurd (other_first (reply_text r.No) 110 refl (λ h. omega (arith, h)) e)
refusal_from r.Null e = absurd (other_first (reply_text r.Null) 110 refl (λ h. omega (arith, h)) e)
refusal_from r.Range e = absurd (other_first (reply_text r.Range) 114 refl (λ h. omega (arith, h)) e)

refusals : (xs : List Reply) → Any IsFullLine (map reply_text xs) → Any IsRefusal xs
refusals [] a = absurd (any_none IsFullLine a)
refusals (x ∷ xs) a = elim (any_of IsFullLine (reply_text x) (map reply_text xs) a) as (λ _. Any IsRefusal (x ∷ xs)) [
  | inl e ↦ any_first IsRefusal x xs (refusal_from x e)
  | inr rest ↦ any_later IsRefusal x xs (refusals xs rest)
]

full_lines : (xs : List Reply) → Any IsRefusal xs → Any IsFullLine (map reply_text xs)
full_lines [] a = absurd (any_none IsRefusal a)
full_lines (x ∷ xs) a = elim (any_of IsRefusal x xs a) as (λ _. Any IsFullLine (reply_text x ∷ map reply_text xs)) [
  | inl e ↦ any_first IsFullLine (reply_text x) (map reply_text xs) (ap reply_text e)
  | inr rest ↦ any_later IsFullLine (reply_text x) (map reply_text xs) (full_lines xs rest)
]

module _ (m : ℕ) (xs : List Reply) (more : List ℕ) where
  pub refused_or_more : HasFullLine (mutator_text m xs ++ more) → Any IsRefusal xs ⊎ HasFullLine more
  refused_or_more a = elim (any_either IsFullLine (first_line m ∷ map reply_text xs) (lines_of more) (subst (Any IsFullLine) (text_lines m xs more) a)) as (λ _. Any IsRefusal xs ⊎ HasFullLine more) [
    | inl here ↦ elim (any_of IsFullLine (first_line m) (map reply_text xs) here) as (λ _. Any IsRefusal xs ⊎ HasFullLine more) [
      | inl e ↦ absurd (other_first (first_line m) 109 refl (λ h. omega (arith, h)) e)
      | inr rest ↦ inl (refusals xs rest)
    ]
    | inr there ↦ inr there
  ]

  pub full_in_text : Any IsRefusal xs ⊎ HasFullLine more → HasFullLine (mutator_text m xs ++ more)
  full_in_text cause = subst (Any IsFullLine) (sym (text_lines m xs more)) (elim cause as (λ _. Any IsFullLine ((first_line m ∷ map reply_text xs) ++ lines_of more)) [
    | inl a ↦ any_front IsFullLine (first_line m ∷ map reply_text xs) (lines_of more) (any_later IsFullLine (first_line m) (map reply_text xs) (full_lines xs a))
    | inr a ↦ any_behind IsFullLine (first_line m ∷ map reply_text xs) (lines_of more) a
  ])

module _ (m : ℕ) (xs : List Reply) where
  pub refused_in : HasFullLine (mutator_text m xs) → Any IsRefusal xs
  refused_in a = elim (refused_or_more m xs [] (subst HasFullLine (sym (append-nil (mutator_text m xs))) a)) as (λ _. Any IsRefusal xs) [
    | inl here ↦ here
    | inr none ↦ absurd (any_none IsFullLine none)
  ]

  pub full_in : Any IsRefusal xs → HasFullLine (mutator_text m xs)
  full_in a = subst HasFullLine (append-nil (mutator_text m xs)) (full_in_text m xs [] (inl a))

-- the reply of a line
abbrev name_by : List (List ℕ) → Name
name_by [] = name 0 0
name_by (a ∷ []) = name 0 0
name_by (a ∷ b ∷ parts) = name (digits_value 10 a) (digits_value 10 b)

abbrev name_in : List ℕ → Name
name_in text = name_by (parts_at 46 text)

abbrev reply_in : List ℕ → Reply
reply_in line =
    if bytes_eq line (codes "full") then r.Full
    else if bytes_eq line (codes "nil") then r.Nil
    else if bytes_eq line (codes "ok") then r.Done
    else if bytes_eq line (codes "yes") then r.Yes
    else if bytes_eq line (codes "no") then r.No
    else if bytes_eq line (codes "null") then r.Null
    else if bytes_eq line (codes "range") then r.Range
    else if bytes_eq (take 4 line) (codes "new ") then r.New (name_in (drop 4 line))
    else if bytes_eq (take 4 line) (codes "ref ") then r.Ref (name_in (drop 4 line))
    else r.Num (digits_value 10 (drop 4 line))

by_value : IsNumeralModel (λ ds. list_all is_ascii_digit ds ≡ true) (digits_value 10)
by_value = numerals_by_value _ (search rules)

number_again : (n : ℕ) → n < 2 ^ 64 → digits_value 10 (decimal n) ≡ n
number_again n small = digits_value-decimal by_value n small

name_again : (n : Name) → n.mutator < 2 ^ 64 → n.birth < 2 ^ 64 → name_in (name_text n) ≡ n
name_again n one two =
    ap name_in (name_is n)
    ∙ ap name_by (cut_at 46 (decimal n.mutator) (decimal n.birth) (number_lacks 46 n.mutator (omega arith))
    ∙ ap (λ parts. decimal n.mutator ∷ parts) (cut_none 46 (decimal n.birth) (number_lacks 46 n.birth (omega arith))))
    ∙ ap (λ a. name a (digits_value 10 (decimal n.birth))) (number_again n.mutator one)
    ∙ ap (name n.mutator) (number_again n.birth two)

reply_again : (x : Reply) → IsPrintable x → reply_in (reply_text x) ≡ x
reply_again (r.New n) small = ap r.New (name_again n small.0 small.1)
reply_again r.Full small = refl
reply_again (r.Ref n) small = ap r.Ref (name_again n small.0 small.1)
reply_again r.Nil small = refl
reply_again (r.Num n) small = ap r.Num (number_again n small)
reply_again r.Done small = refl
reply_again r.Yes small = refl
reply_again r.No small = refl
reply_again r.Null small = refl
reply_again r.Range small = refl

replies_again : (xs : List Reply) → AllByRecursion IsPrintable xs → map reply_in (map reply_text xs) ≡ xs
replies_again [] small = refl
replies_again (x ∷ xs) small = ap (λ y. y ∷ map reply_in (map reply_text xs)) (reply_again x small.0) ∙ ap (λ ys. x ∷ ys) (replies_again xs small.1)

-- the replies of a text
replies_by : (m : ℕ) (xs : List Reply) → All IsPrintable xs → map reply_in (drop 1 (lines_of (mutator_text m xs))) ≡ xs
replies_by m xs small =
    ap (λ text. map reply_in (drop 1 (lines_of text))) (sym (append-nil (mutator_text m xs)))
    ∙ ap (λ lines. map reply_in (drop 1 lines)) (text_lines m xs [] ∙ append-nil (first_line m ∷ map reply_text xs))
    ∙ replies_again xs (by_recursion IsPrintable xs small)

pub one_list : (m : ℕ) (xs ys : List Reply) → All IsPrintable xs → All IsPrintable ys → mutator_text m xs ≡ mutator_text m ys → xs ≡ ys
one_list m xs ys small small' e =
    sym (replies_by m xs small) ∙ ap (λ text. map reply_in (drop 1 (lines_of text))) e ∙ replies_by m ys small'
