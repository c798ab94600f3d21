-- Texts to which lines are appended, part by part.
use Rattle.std.proofs.Common.{◌≡◌, refl, sym, ◌∙◌, ap, ℕ, List, [], ◌∷◌, ◌++◌, append_assoc}
use Rattle.std.specs.Prelude.{Result, Ok, Err, OnOk}
use Rattle.trace_text.specs.Text.{ended}

-- what is appended in two steps
pub onto : (t a b x y : List ℕ) → x ≡ t ++ a → y ≡ x ++ b → y ≡ t ++ (a ++ b)
onto t a b x y first second = second ∙ ap (λ l. l ++ b) first ∙ append_assoc t a b

-- one part more of a line, a word and a numeral, and the last one with its newline
pub part-onto : (t a w d x y : List ℕ) → x ≡ t ++ a → y ≡ x ++ (w ++ d) → y ≡ t ++ (a ++ w ++ d)
part-onto t a w d x y first second = onto t a (w ++ d) x y first second ∙ ap (λ l. t ++ l) (sym (append_assoc a w d))

pub last-onto : (t a w d x y : List ℕ) → x ≡ t ++ a → y ≡ x ++ ended (w ++ d) → y ≡ t ++ ended (a ++ w ++ d)
last-onto t a w d x y first second =
    onto t a (ended (w ++ d)) x y first second
    ∙ ap (λ l. t ++ l) (sym (append_assoc a (w ++ d) (10 ∷ [])) ∙ ap ended (sym (append_assoc a w d)))

-- what holds of an answer that is Ok holds of what follows from it
pub if-ok : {X E : Type 0} (r : Result X E) (P Q : Type 0) → (P → Q) → OnOk r P → OnOk r Q
if-ok (Ok x) P Q next holds = next holds
if-ok (Err e) P Q next holds = tt

-- four parts more, of which the second and third come together
pub four-onto : (t a b d e x y z : List ℕ) → x ≡ t ++ a → y ≡ x ++ b ++ d → z ≡ y ++ e → z ≡ t ++ (a ++ b ++ d ++ e)
four-onto t a b d e x y z first second third =
    let two : x ++ b ≡ t ++ (a ++ b) = onto t a b x (x ++ b) first refl in
    let three : y ≡ t ++ (a ++ b ++ d) = onto t (a ++ b) d (x ++ b) y two second in
    onto t (a ++ b ++ d) e y z three third
