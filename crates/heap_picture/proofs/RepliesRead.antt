-- Lines of replies, read and printed.
use Rattle.std.proofs.Common.{◌≡◌, refl, sym, ◌∙◌, ap, subst, ℕ, arith, inl, inr, Bool, true, false, ◌||◌, List, ◌++◌, append_assoc, Option, Some, None}
use Rattle.std.specs.Prelude.{codes, if◌then◌else◌, is_some}
use Rattle.std.specs.Fmt.{decimal}
use Rattle.std.specs.Str.{bytes_eq}
use Rattle.std.proofs.lemmas.Bool.{or_cases}
use Rattle.std.proofs.lemmas.Slice.Eq.{bytes_eq-Decides}
use Rattle.ideal_heap.specs.Names.{name}
use Rattle.ideal_heap.specs.Runs.{is_full}
use Rattle.ideal_heap.specs.declared.reply.Reply.{Reply}
use Rattle.ideal_heap.specs.declared.reply.Reply.TheVariants as r
use Rattle.trace_text.specs.Text.{IsPrintable, name_text, reply_text}
use Rattle.heap_picture.specs.Forms.{LARGE, is_numbered_reply, is_plain_reply, name_in, one_number, ref_in, reply_in, two_numbers}
use Rattle.heap_picture.specs.declared.forms.Pair.{Pair}
use Rattle.heap_picture.specs.Texts.{IsReplyLine}
use Rattle.heap_picture.proofs.Numbers.{one_again, two_again}
use Rattle.heap_picture.proofs.NumbersRead.{one_read, two_read}

same : (xs ys : List ℕ) → bytes_eq xs ys ≡ true → xs ≡ ys
same xs ys e = (bytes_eq-Decides xs ys).0 e

some_of : {X : Type 0} (o : Option X) → is_some o ≡ true → (x : X) × (o ≡ Some x)
some_of None e = absurd (let wrong : false ≡ true = e in cc)
some_of (Some x) e = (x, refl)

plain_read : (line : List ℕ) → is_plain_reply line ≡ true → IsReplyLine line false
plain_read line e = elim (or_cases _ (bytes_eq line (codes "range")) e) as (λ _. IsReplyLine line false) [
  | inr is ↦ (r.Range, tt, same line _ is, refl)
  | inl e ↦ elim (or_cases _ (bytes_eq line (codes "null")) e) as (λ _. IsReplyLine line false) [
    | inr is ↦ (r.Null, tt, same line _ is, refl)
    | inl e ↦ elim (or_cases _ (bytes_eq line (codes "no")) e) as (λ _. IsReplyLine line false) [
      | inr is ↦ (r.No, tt, same line _ is, refl)
      | inl e ↦ elim (or_cases _ (bytes_eq line (codes "yes")) e) as (λ _. IsReplyLine line false) [
        | inr is ↦ (r.Yes, tt, same line _ is, refl)
        | inl e ↦ elim (or_cases (bytes_eq line (codes "nil")) (bytes_eq line (codes "ok")) e) as (λ _. IsReplyLine line false) [
          | inr is ↦ (r.Done, tt, same line _ is, refl)
          | inl is ↦ (r.Nil, tt, same line _ is, refl)
        ]
      ]
    ]
  ]
]

name_is : (m k : ℕ) → decimal m ++ (codes "." ++ decimal k) ≡ name_text (name m k)
name_is m k = sym (append_assoc (decimal m) (codes ".") (decimal k))

numbered_read : (line : List ℕ) → is_numbered_reply line ≡ true → IsReplyLine line false
numbered_read line e = elim (or_cases _ (is_some (one_number (codes "num ") LARGE line)) e) as (λ _. IsReplyLine line false) [
  | inr is ↦ let x = some_of _ is in
      let read = one_read (codes "num ") LARGE line x.0 (omega arith) x.1 in
      (r.Num x.0, omega (arith, read.1), read.0, refl)
  | inl e ↦ elim (or_cases (is_some (two_numbers (codes "new ") (codes ".") LARGE line)) _ e) as (λ _. IsReplyLine line false) [
    | inl is ↦ let x = some_of _ is in
        let read = two_read (codes "new ") (codes ".") LARGE line x.0 (omega arith) x.1 in
        (r.New (name x.0.first x.0.second), (omega (arith, read.1), omega (arith, read.2)), read.0 ∙ ap (λ t. codes "new " ++ t) (name_is x.0.first x.0.second), refl)
    | inr is ↦ let x = some_of _ is in
        let read = two_read (codes "ref ") (codes ".") LARGE line x.0 (omega arith) x.1 in
        (r.Ref (name x.0.first x.0.second), (omega (arith, read.1), omega (arith, read.2)), read.0 ∙ ap (λ t. codes "ref " ++ t) (name_is x.0.first x.0.second), refl)
  ]
]

other_read : (b : Bool) (line : List ℕ) (full : Bool) → (is_plain_reply line || is_numbered_reply line) ≡ b → (if b then Some false else None) ≡ Some full → IsReplyLine line full
other_read true line full is e =
    let same_full : Some false ≡ Some full = e in
    subst (IsReplyLine line) (cc) (elim (or_cases (is_plain_reply line) (is_numbered_reply line) is) as (λ _. IsReplyLine line false) [
      | inl plain ↦ plain_read line plain
      | inr numbered ↦ numbered_read line numbered
    ])
other_read false line full is e = absurd (let none : None ≡ Some full = e in cc)

full_read : (b : Bool) (line : List ℕ) (full : Bool) → bytes_eq line (codes "full") ≡ b
    → (if b then Some true else if is_plain_reply line || is_numbered_reply line then Some false else None) ≡ Some full → IsReplyLine line full
full_read true line full is e = (r.Full, tt, same line _ is, (let same_full : Some true ≡ Some full = e in cc))
full_read false line full is e = other_read (is_plain_reply line || is_numbered_reply line) line full refl e

pub reply_read : (line : List ℕ) (full : Bool) → reply_in line ≡ Some full → IsReplyLine line full
reply_read line full e = full_read (bytes_eq line (codes "full")) line full refl e

pub reply_again : (x : Reply) → IsPrintable x → reply_in (reply_text x) ≡ Some (is_full x)
reply_again (r.New n) fits =
    let t : List ℕ = codes "new " ++ (decimal n.mutator ++ (codes "." ++ decimal n.birth)) in
    let read = two_again (codes "new ") (codes ".") LARGE n.mutator n.birth (omega (arith, fits.0)) (omega (arith, fits.1)) (omega arith) (λ _. refl) in
    ap (λ text. reply_in (codes "new " ++ text)) (sym (name_is n.mutator n.birth))
    ∙ ap (λ o. if is_some o || is_some (two_numbers (codes "ref ") (codes ".") LARGE t) || is_some (one_number (codes "num ") LARGE t) then Some false else None) read
reply_again r.Full fits = refl
reply_again (r.Ref n) fits =
    let t : List ℕ = codes "ref " ++ (decimal n.mutator ++ (codes "." ++ decimal n.birth)) in
    let read = two_again (codes "ref ") (codes ".") LARGE n.mutator n.birth (omega (arith, fits.0)) (omega (arith, fits.1)) (omega arith) (λ _. refl) in
    ap (λ text. reply_in (codes "ref " ++ text)) (sym (name_is n.mutator n.birth))
    ∙ ap (λ o. if is_some o || is_some (one_number (codes "num ") LARGE t) then Some false else None) read
reply_again r.Nil fits = refl
reply_again (r.Num n) fits =
    ap (λ o. if is_some o then Some false else None) (one_again (codes "num ") LARGE n (omega (arith, fits)) (omega arith))
reply_again r.Done fits = refl
reply_again r.Yes fits = refl
reply_again r.No fits = refl
reply_again r.Null fits = refl
reply_again r.Range fits = refl

pub reply_printed : (line : List ℕ) (full : Bool) → IsReplyLine line full → reply_in line ≡ Some full
reply_printed line full is = ap reply_in is.2 ∙ reply_again is.0 is.1 ∙ ap Some (sym is.3)

-- the name of a `new` reply
abbrev pub name_of : Reply → Option Pair
name_of (r.New n) = Some (record { first = n.mutator; second = n.birth })
name_of _ = None

pub name_again : (x : Reply) → IsPrintable x → name_in (reply_text x) ≡ name_of x
name_again (r.New n) fits =
    ap (λ text. name_in (codes "new " ++ text)) (sym (name_is n.mutator n.birth))
    ∙ two_again (codes "new ") (codes ".") LARGE n.mutator n.birth (omega (arith, fits.0)) (omega (arith, fits.1)) (omega arith) (λ _. refl)
name_again r.Full fits = refl
name_again (r.Ref n) fits = refl
name_again r.Nil fits = refl
name_again (r.Num n) fits = refl
name_again r.Done fits = refl
name_again r.Yes fits = refl
name_again r.No fits = refl
name_again r.Null fits = refl
name_again r.Range fits = refl

-- the name of a `ref` reply
abbrev pub other_of : Reply → Option Pair
other_of (r.Ref n) = Some (record { first = n.mutator; second = n.birth })
other_of _ = None

pub other_again : (x : Reply) → IsPrintable x → ref_in (reply_text x) ≡ other_of x
other_again (r.Ref n) fits =
    ap (λ text. ref_in (codes "ref " ++ text)) (sym (name_is n.mutator n.birth))
    ∙ two_again (codes "ref ") (codes ".") LARGE n.mutator n.birth (omega (arith, fits.0)) (omega (arith, fits.1)) (omega arith) (λ _. refl)
other_again (r.New n) fits = refl
other_again r.Full fits = refl
other_again r.Nil fits = refl
other_again (r.Num n) fits = refl
other_again r.Done fits = refl
other_again r.Yes fits = refl
other_again r.No fits = refl
other_again r.Null fits = refl
other_again r.Range fits = refl
