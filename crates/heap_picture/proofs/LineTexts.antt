-- No newline stands within a printed line.
use Rattle.std.proofs.Common.{◌≡◌, refl, ℕ, ◌<◌, ◌≤◌, ◌^◌, arith, Bool, true, ◌&&◌, not, nat_eq, List, [], ◌∷◌, ◌++◌}
use Rattle.std.specs.Prelude.{codes}
use Rattle.std.specs.Fmt.{decimal}
use Rattle.std.specs.Str.Parse.{AllDigits}
use Rattle.std.proofs.lemmas.Bool.{and_parts, ne_eqb, not-true}
use Rattle.std.proofs.lemmas.Fmt.{decimal_is_IsNumeral}
use Rattle.std.proofs.lemmas.Str.Parse.{digit_from_value}
use Rattle.ideal_heap.specs.declared.reply.Reply.{Reply}
use Rattle.ideal_heap.specs.declared.reply.Reply.TheVariants as r
use Rattle.trace_text.specs.Text.{IsPrintable, name_text, reply_text}
use Rattle.command_line.specs.declared.order.PlanName.{PlanName}
use Rattle.command_line.specs.declared.order.PlanName.TheVariants as plans
use Rattle.heap_picture.specs.declared.forms.KindCounts.{KindCounts}
use Rattle.heap_picture.specs.declared.forms.Place.{Place}
use Rattle.heap_picture.specs.Forms.{LARGE}
use Rattle.heap_picture.specs.Texts.{Fits, kinds_line_text, place_text, plan_line, two_text}
use Rattle.heap_picture.proofs.Lines.{IsLine, IsLine-append}

abbrev pub has_none : List ℕ → Bool
has_none [] = true
has_none (b ∷ bs) = not (nat_eq b 10) && has_none bs

pub lacks : (bs : List ℕ) → has_none bs ≡ true → IsLine bs
lacks [] e = tt
lacks (b ∷ bs) e = let both = and_parts (not (nat_eq b 10)) (has_none bs) e in (not-true _ both.0, lacks bs both.1)

digits_lack : (ds : List ℕ) → AllDigits 10 ds → IsLine ds
digits_lack [] h = tt
digits_lack (d ∷ ds) h = let digit = digit_from_value d h.0 in (ne_eqb d 10 (λ e. omega arith), digits_lack ds h.1)

pub number_line : (n : ℕ) → n < 2 ^ 64 → IsLine (decimal n)
number_line n small = digits_lack (decimal n) (decimal_is_IsNumeral n small).0.1

-- a word without a newline, a number, and more
pub then_line : (word : List ℕ) (n : ℕ) (rest : List ℕ) → has_none word ≡ true → n < 2 ^ 64 → IsLine rest → IsLine (word ++ (decimal n ++ rest))
then_line word n rest is small more = IsLine-append word (decimal n ++ rest) (lacks word is) (IsLine-append (decimal n) rest (number_line n small) more)

pub one_line : (word : List ℕ) (n : ℕ) → has_none word ≡ true → n < 2 ^ 64 → IsLine (word ++ decimal n)
one_line word n is small = IsLine-append word (decimal n) (lacks word is) (number_line n small)

pub two_line : (word other : List ℕ) (n m : ℕ) → has_none word ≡ true → has_none other ≡ true → n < 2 ^ 64 → m < 2 ^ 64 → IsLine (two_text word n other m)
two_line word other n m is also small fits = then_line word n (other ++ decimal m) is small (one_line other m also fits)

pub place_line_lacks : (p : Place) → Fits p → IsLine (place_text p)
place_line_lacks p fits =
    then_line (codes "map ") p.mutator _ refl (omega (arith, fits.mutator))
    (then_line (codes ".") p.birth _ refl (omega (arith, fits.birth))
    (then_line (codes " block ") p.block _ refl (omega (arith, fits.block))
    (two_line (codes " word ") (codes " size ") p.word p.size refl refl (omega (arith, fits.word)) (omega (arith, fits.size)))))

-- the counts of blocks fit 64 bits
pub record Counted (k : KindCounts) : Type 0 where
  pub free : k.free ≤ LARGE
  pub bump : k.bump ≤ LARGE
  pub young : k.young ≤ LARGE
  pub mature : k.mature ≤ LARGE
  pub immix : k.immix ≤ LARGE
  pub cells : k.cells ≤ LARGE
  pub large : k.large ≤ LARGE
  pub kept : k.kept ≤ LARGE

pub kinds_line_lacks : (k : KindCounts) → Counted k → IsLine (kinds_line_text k)
kinds_line_lacks k fits =
    then_line (codes "kinds free ") k.free _ refl (omega (arith, fits.free))
    (then_line (codes " bump ") k.bump _ refl (omega (arith, fits.bump))
    (then_line (codes " young ") k.young _ refl (omega (arith, fits.young))
    (then_line (codes " mature ") k.mature _ refl (omega (arith, fits.mature))
    (then_line (codes " immix ") k.immix _ refl (omega (arith, fits.immix))
    (then_line (codes " cells ") k.cells _ refl (omega (arith, fits.cells))
    (two_line (codes " large ") (codes " kept ") k.large k.kept refl refl (omega (arith, fits.large)) (omega (arith, fits.kept))))))))

pub plan_line_lacks : (plan : PlanName) → IsLine (plan_line plan)
plan_line_lacks plans.NoGc = lacks (plan_line plans.NoGc) refl
plan_line_lacks plans.MarkSweep = lacks (plan_line plans.MarkSweep) refl
plan_line_lacks plans.SemiSpace = lacks (plan_line plans.SemiSpace) refl
plan_line_lacks plans.GenCopy = lacks (plan_line plans.GenCopy) refl
plan_line_lacks plans.Immix = lacks (plan_line plans.Immix) refl
plan_line_lacks plans.StickyImmix = lacks (plan_line plans.StickyImmix) refl

name_lacks : (m k : ℕ) → m < 2 ^ 64 → k < 2 ^ 64 → IsLine (decimal m ++ codes "." ++ decimal k)
name_lacks m k small fits = IsLine-append (decimal m ++ codes ".") (decimal k) (IsLine-append (decimal m) (codes ".") (number_line m small) (lacks (codes ".") refl)) (number_line k fits)

pub reply_line_lacks : (x : Reply) → IsPrintable x → IsLine (reply_text x)
reply_line_lacks (r.New n) fits = IsLine-append (codes "new ") (name_text n) (lacks (codes "new ") refl) (name_lacks n.mutator n.birth fits.0 fits.1)
reply_line_lacks r.Full fits = lacks (reply_text r.Full) refl
reply_line_lacks (r.Ref n) fits = IsLine-append (codes "ref ") (name_text n) (lacks (codes "ref ") refl) (name_lacks n.mutator n.birth fits.0 fits.1)
reply_line_lacks r.Nil fits = lacks (reply_text r.Nil) refl
reply_line_lacks (r.Num n) fits = one_line (codes "num ") n refl fits
reply_line_lacks r.Done fits = lacks (reply_text r.Done) refl
reply_line_lacks r.Yes fits = lacks (reply_text r.Yes) refl
reply_line_lacks r.No fits = lacks (reply_text r.No) refl
reply_line_lacks r.Null fits = lacks (reply_text r.Null) refl
reply_line_lacks r.Range fits = lacks (reply_text r.Range) refl
