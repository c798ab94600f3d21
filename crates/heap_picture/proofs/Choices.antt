-- What is behind a value that an option gave.
use Rattle.std.proofs.Common.{◌≡◌, refl, sym, ◌∙◌, ℕ, Bool, true, false, List, [], ◌∷◌, Option, Some, None}
use Rattle.std.specs.Prelude.{if◌then◌else◌, option_and_then, option_map}
use Rattle.std.proofs.lemmas.Bool.{true≢false}
use Rattle.heap_picture.specs.Reading.{Begun, after_line, is_whole}
use Rattle.heap_picture.proofs.Lines.{Leads}

pub then_read : {X Z : Type 0} (f : X → Option Z) (o : Option X) (z : Z) → option_and_then f o ≡ Some z → (x : X) × (o ≡ Some x) × (f x ≡ Some z)
then_read f None z e = absurd (cc)
then_read f (Some x) z e = (x, refl, e)

pub mapped_read : {X Z : Type 0} (f : X → Z) (o : Option X) (z : Z) → option_map f o ≡ Some z → (x : X) × (o ≡ Some x) × (f x ≡ z)
mapped_read f None z e = absurd (cc)
mapped_read f (Some x) z e = (x, refl, cc)

pub chosen : {X : Type 0} (b : Bool) (x y : X) → (if b then Some x else None) ≡ Some y → (b ≡ true) × (x ≡ y)
chosen true x y e = (refl, cc)
chosen false x y e = absurd (cc)

-- the first line of those that lead on from a state where the text may not end
pub record LeadsBy (lines : List (List ℕ)) (s end : Begun) : Type 0 where
  pub line : List ℕ
  pub rest : List (List ℕ)
  pub lines_are : lines ≡ line ∷ rest
  pub next : Begun
  pub is : after_line s line ≡ Some next
  pub leads : Leads rest next end

pub first_of : (lines : List (List ℕ)) (s end : Begun) → is_whole s ≡ false → Leads lines s end → LeadsBy lines s end
first_of [] s end unfinished leads = absurd (true≢false (sym leads.1 ∙ unfinished))
first_of (line ∷ lines) s end unfinished leads = record { line = line; rest = lines; lines_are = refl; next = leads.0; is = leads.1; leads = leads.2 }
