-- Which kinds of blocks plans evacuate.
use Rattle.std.proofs.Common.{◌≡◌, refl, sym, ℕ, inl, inr, true≢false, ◌&&◌, ◌||◌, IsTrue}
use Rattle.std.proofs.lemmas.Bool.{or_cases, or_left}
use Rattle.heap_layout.specs.declared.block.Kind.TheVariants as kinds
use Rattle.object_model.specs.declared.collect.Collect.{Collect}
use Rattle.object_model.specs.declared.collect.Collect.TheVariants.{Nursery, Full}
use Rattle.object_model.specs.Objects.{HeapState, has_kind, HasKind}
use Rattle.sessions.specs.Plans as plans
use Rattle.sessions.specs.Plans.{Plan, rules_of}
use Rattle.sessions.specs.Collecting.{is_evacuated}
use Rattle.plan_api.specs.Releasing.{is_kept_kind}
use Rattle.plan_api.proofs.EvacuationLaws.{or-right, candidate-immix}

-- a plan that moves no objects evacuates no block
pub moves-evacuated : (q : Plan) (c : Collect) (s : HeapState) (k : ℕ) → ((rules_of q).moves && is_evacuated (rules_of q) c s k) ≡ is_evacuated (rules_of q) c s k
moves-evacuated plans.NoGc c s k = refl
moves-evacuated plans.MarkSweep c s k = refl
moves-evacuated plans.SemiSpace c s k = refl
moves-evacuated plans.GenCopy c s k = refl
moves-evacuated plans.Immix c s k = refl
moves-evacuated plans.StickyImmix c s k = refl

module _ (s : HeapState) (k : ℕ) where
  bump : HasKind s k kinds.Bump → IsTrue (is_kept_kind s k)
  bump is = or_left _ _ (or_left _ _ (or_left _ _ is))

  young : HasKind s k kinds.Young → IsTrue (is_kept_kind s k)
  young is = or_left _ _ (or_left _ _ (or-right _ _ is))

  -- a plan that holds back copies evacuates blocks of the kinds that are Kept
  pub copied-kind : (q : Plan) (c : Collect) → (rules_of q).reserve ≡ plans.Copies → IsTrue (is_evacuated (rules_of q) c s k) → IsTrue (is_kept_kind s k)
  copied-kind plans.NoGc c copies is = absurd (true≢false (sym is))
  copied-kind plans.MarkSweep c copies is = absurd (true≢false (sym is))
  copied-kind plans.SemiSpace Full copies is = elim (or_cases (has_kind s k kinds.Bump || has_kind s k kinds.Bump) (has_kind s k kinds.Kept) is) as (λ _. IsTrue (is_kept_kind s k)) [
    | inl filled ↦ elim (or_cases (has_kind s k kinds.Bump) (has_kind s k kinds.Bump) filled) as (λ _. IsTrue (is_kept_kind s k)) [ inl one ↦ bump one | inr one ↦ bump one ]
    | inr still ↦ or-right _ _ still
  ]
  copied-kind plans.SemiSpace Nursery copies is = absurd (true≢false (sym is))
  copied-kind plans.GenCopy Full copies is = elim (or_cases (has_kind s k kinds.Young || has_kind s k kinds.Mature) (has_kind s k kinds.Kept) is) as (λ _. IsTrue (is_kept_kind s k)) [
    | inl filled ↦ elim (or_cases (has_kind s k kinds.Young) (has_kind s k kinds.Mature) filled) as (λ _. IsTrue (is_kept_kind s k)) [ inl one ↦ young one | inr one ↦ or_left _ _ (or-right _ _ one) ]
    | inr still ↦ or-right _ _ still
  ]
  copied-kind plans.GenCopy Nursery copies is = young is
  copied-kind plans.Immix c copies is = absurd (let wrong : plans.Headroom ≡ plans.Copies = copies in cc)
  copied-kind plans.StickyImmix c copies is = absurd (let wrong : plans.Headroom ≡ plans.Copies = copies in cc)

  -- an evacuated block that is not Immix is of a kind that is Kept
  pub evacuated-kind : (q : Plan) (c : Collect) → IsTrue (is_evacuated (rules_of q) c s k) → (HasKind s k kinds.Immix → ⊥) → IsTrue (is_kept_kind s k)
  evacuated-kind plans.NoGc c is other = absurd (true≢false (sym is))
  evacuated-kind plans.MarkSweep c is other = absurd (true≢false (sym is))
  evacuated-kind plans.SemiSpace c is other = copied-kind plans.SemiSpace c refl is
  evacuated-kind plans.GenCopy c is other = copied-kind plans.GenCopy c refl is
  evacuated-kind plans.Immix Full is other = absurd (other (candidate-immix s k is))
  evacuated-kind plans.Immix Nursery is other = absurd (true≢false (sym is))
  evacuated-kind plans.StickyImmix Full is other = absurd (other (candidate-immix s k is))
  evacuated-kind plans.StickyImmix Nursery is other = absurd (true≢false (sym is))
