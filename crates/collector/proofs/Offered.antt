-- The collections that are offered.
use Rattle.std.proofs.Common.{◌≡◌, refl, sym, ◌∙◌, ap, subst, ℕ, ◌<◌, inl, inr, arith, Bool, true, false, true≢false, IsTrue, List}
use Rattle.std.specs.Prelude.{◌&&◌, nat_lt, if◌then◌else◌}
use Rattle.std.proofs.lemmas.Bool.{cases_Bool, cond-true, cond-false, and_parts, ltb-true}
use Rattle.object_model.specs.declared.collect.Collect.{Collect}
use Rattle.object_model.specs.declared.collect.Collect.TheVariants.{Nursery, Full}
use Rattle.object_model.specs.Objects.{HeapState}
use Rattle.object_model.specs.Lawful.{IsLawful}
use Rattle.sessions.specs.Plans.{Rules, Plan, rules_of, NoGc, MarkSweep, SemiSpace, GenCopy, Immix, StickyImmix}
use Rattle.sessions.specs.Collecting.{CollectsIf, IsCollection, Remembers, first_collection}
use Rattle.sessions.proofs.CollectedMoments.{remembers-after-collection}
use Rattle.collector.specs.Collected.{IsOffered}

pub full-offered : (r : Rules) (s : HeapState) → IsOffered r Full s
full-offered r s = record {
  young = λ is. (let wrong : Full ≡ Nursery = is in cc);
  base = λ is. (let wrong : Full ≡ Nursery = is in cc);
  remembers = λ is. (let wrong : Full ≡ Nursery = is in cc);
}

pub nursery-offered : (r : Rules) (s : HeapState) → IsTrue r.young → 0 < s.base → Remembers r s → IsOffered r Nursery s
nursery-offered r s young base remembers = record { young = λ is. young; base = λ is. base; remembers = λ is. remembers young }

offered-if : (r : Rules) (s : HeapState) (some many : Bool) → Remembers r s → IsOffered r (if r.young && nat_lt 0 s.base && some && many then Nursery else Full) s
offered-if r s some many remembers =
    let after : Bool = r.young && nat_lt 0 s.base in
    elim (cases_Bool (after && some && many)) as (λ _. IsOffered r (if after && some && many then Nursery else Full) s) [
      | inl is ↦ subst (λ c. IsOffered r c s) (sym (cond-true (after && some && many) Nursery Full is))
          (let both = and_parts r.young (nat_lt 0 s.base) (and_parts after some (and_parts (after && some) many is).0).0 in nursery-offered r s both.0 (ltb-true 0 s.base both.1) remembers)
      | inr not ↦ subst (λ c. IsOffered r c s) (sym (cond-false (after && some && many) Nursery Full not)) (full-offered r s)
    ]

pub first-offered : (r : Rules) (s : HeapState) → Remembers r s → IsOffered r (first_collection r s) s
first-offered r s remembers = offered-if r s _ _ remembers

-- a plan with young objects reclaims
young-collects : (q : Plan) → IsTrue (rules_of q).young → (rules_of q).collects ≡ true
young-collects NoGc young = absurd (true≢false (sym young))
young-collects MarkSweep young = refl
young-collects SemiSpace young = refl
young-collects GenCopy young = refl
young-collects Immix young = refl
young-collects StickyImmix young = refl

-- so what reclaims nothing makes full collections alone
pub full-of : (q : Plan) (r : Rules) → r ≡ rules_of q → r.collects ≡ false → (c : Collect) (s : HeapState) → IsOffered r c s → c ≡ Full
full-of q r of none Full s offered = refl
full-of q r of none Nursery s offered =
    absurd (true≢false (sym (young-collects q (subst (λ (r : Rules). IsTrue r.young) of (offered.young refl))) ∙ ap (λ (r : Rules). r.collects) (sym of) ∙ none))

base-after : (b : Bool) (r : Rules) (w : ℕ) (c : Collect) (s new : HeapState) (roots roots' : List ℕ) → b ≡ true → IsOffered r c s → CollectsIf b r w c s roots new roots' → 0 < new.base
base-after false r w c s new roots roots' is offered made = absurd (true≢false (sym is))
base-after true r w Full s new roots roots' is offered made = omega (arith, made.base, made.number)
base-after true r w Nursery s new roots roots' is offered made = omega (arith, made.base, offered.base refl)

pub still-offered : (q : Plan) (w : ℕ) (c : Collect) (s new : HeapState) (roots roots' : List ℕ) → IsTrue (rules_of q).young → IsOffered (rules_of q) c s → IsLawful new
    → IsCollection (rules_of q) w c s roots new roots' → IsOffered (rules_of q) Nursery new
still-offered q w c s new roots roots' young offered lawful made =
    let r : Rules = rules_of q in
    nursery-offered r new young (base-after r.collects r w c s new roots roots' (young-collects q young) offered made)
    (remembers-after-collection r.collects r w c s new roots roots' (young-collects q young) made lawful)

pub kept-offered : (r : Rules) (s new : HeapState) → IsOffered r Nursery s → new.base ≡ s.base → Remembers r new → IsOffered r Nursery new
kept-offered r s new offered same remembers = nursery-offered r new (offered.young refl) (subst (λ n. 0 < n) (sym same) (offered.base refl)) remembers
