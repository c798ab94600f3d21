-- Texts, appended one after the other.
use Rattle.std.proofs.Common.{◌≡◌, ◌∙◌, ap, ℕ, List, ◌++◌, append_assoc}

-- text b, after text a
pub then : (old a b front all : List ℕ) → front ≡ old ++ a → all ≡ front ++ b → all ≡ old ++ (a ++ b)
then old a b front all before last = last ∙ ap (λ l. l ++ b) before ∙ append_assoc old a b
