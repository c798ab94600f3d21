use Rattle.std.proofs.Common.{ℕ, ◌≡◌, ◌<◌, ◌≤◌, ◌⊎◌, ◌+◌, ◌*◌, ◌/◌, ◌%◌, ◌^◌, inl, inr, arith}
use Rattle.std.proofs.lemmas.Bool.{cases_lt}
use Rattle.forward_word.specs.CollectorWords.{collector_word}
use Rattle.object_model.specs.Objects.{word_at, number_at}
use Rattle.object_model.proofs.laws.headers_are_read.Goals as goal

pub returns-clause-from : goal.returns-clause-from
returns-clause-from c s a n object small known is =
    let number : word_at s (a + 2) / 2 ^ 24 ≡ n = (let w : word_at s (a + 2) ≡ n * 2 ^ 24 + a = is in omega arith) in
    let target : word_at s (a + 2) % 2 ^ 24 ≡ a = (let w : word_at s (a + 2) ≡ n * 2 ^ 24 + a = is in omega arith) in
    record { object = object; number = omega arith; target = λ some. target }

pub returns-clause-into : goal.returns-clause-into
returns-clause-into c s a header = elim (cases_lt (word_at s (a + 2)) (2 ^ 24)) as (λ _. (word_at s (a + 2) < 2 ^ 24) ⊎ ((n : ℕ) × (n ≤ s.number) × (word_at s (a + 2) ≡ collector_word n a))) [
  | inl young ↦ inl young
  | inr met ↦ inr (number_at s a, header.number, (let target : word_at s (a + 2) % 2 ^ 24 ≡ a = header.target (omega arith) in omega arith))
]
