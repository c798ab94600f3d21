-- Blocks that the worker left, as more words become words of targets.
use Rattle.std.proofs.Common.{◌≡◌, ℕ, ◌+◌, ◌<◌, ◌⊎◌, inl, inr, IsTrue, List, [], ◌∷◌, refl, sym, ap, ◌∙◌, subst, Option, Some, None}
use Rattle.std.specs.Prelude.{is_some}
use Rattle.std.proofs.lemmas.Bool.{false≢true}
use Rattle.heap_layout.specs.Zones.{block_start}
use Rattle.trace_core.specs.Setups.{Setup, blocks}
use Rattle.trace_core.specs.Machine.{Machine}
use Rattle.object_model.specs.Times.{times}
use Rattle.trace_core.specs.Rooms.{IsFilled, IsLeftFor, AreLeft}

module _ (p : Setup) (m m' : Machine) (more : (a y : ℕ) → m.owner a ≡ Some y → m'.owner a ≡ Some y) where
  still-some : (a : ℕ) → IsTrue (is_some (m.owner a)) → IsTrue (is_some (m'.owner a))
  still-some a is = by (m.owner a) refl is
    where
      by : (o : Option ℕ) → m.owner a ≡ o → IsTrue (is_some o) → IsTrue (is_some (m'.owner a))
      by None e none = absurd (false≢true none)
      by (Some y) e some = subst (λ o. IsTrue (is_some o)) (sym (more a y e)) refl

  pub filled-more : (b n : ℕ) → IsFilled p m b n → IsFilled p m' b n
  filled-more b n is = λ o l. still-some (block_start (blocks p) b + o) (is o l)

  left-for-more : (b next : ℕ) → IsLeftFor p m b next → IsLeftFor p m' b next
  left-for-more b next is = record {
    words = is.words;
    filled = filled-more b is.words is.filled;
    object = is.object;
    first = more (block_start (blocks p) next) is.object is.first;
    no_room = is.no_room;
  }

  pub left-more : (sparse sparse' : List ℕ) → ((b : ℕ) → 0 < times b sparse → 0 < times b sparse') → (bs : List ℕ) → AreLeft p m sparse bs → AreLeft p m' sparse' bs
  left-more sparse sparse' few [] is = tt
  left-more sparse sparse' few (b ∷ []) is = tt
  left-more sparse sparse' few (next ∷ b ∷ earlier) is = (
    is.0,
    elim is.1 as (λ _. (0 < times b sparse') ⊎ IsLeftFor p m' b next) [
      | inl left ↦ inl (few b left)
      | inr full ↦ inr (left-for-more b next full)
    ],
    left-more sparse sparse' few (b ∷ earlier) is.2,
  )

-- no word becomes one of a target
pub left-stays : (p : Setup) (m m' : Machine) → m'.owner ≡ m.owner → (sparse sparse' : List ℕ) → sparse' ≡ sparse → (bs : List ℕ) → AreLeft p m sparse bs → AreLeft p m' sparse' bs
left-stays p m m' owner sparse sparse' same bs is =
    left-more p m m' (λ a y own. ap (λ f. f a) owner ∙ own) sparse sparse' (λ b few. subst (λ l. 0 < times b l) (sym same) few) bs is
