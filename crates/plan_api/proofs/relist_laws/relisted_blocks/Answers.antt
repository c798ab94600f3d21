use Rattle.std.proofs.Common.{◌≡◌, sym, ap, ◌∙◌, subst, inl, inr, ℕ, Bool, true, false, ◌&&◌, IsTrue, slice_index}
use Rattle.std.proofs.lemmas.Bool.{cases_Bool, and_from, and_parts, true≢false}
use Rattle.heap_layout.specs.declared.block.Kind.TheVariants as kinds
use Rattle.object_model.specs.Objects.{HeapState, has_kind, HasKind, word_at}
use Rattle.block_sweeps.specs.Sweeping.{IsLineWord}
use Rattle.sessions.specs.Plans.{Rules}
use Rattle.plan_api.specs.Relisting.{RelistsLines, RelistsIf, Relists}
use Rattle.plan_api.proofs.relist_laws.relisted_blocks.Goals as goal

-- under rules with lines an Immix block is relisted
relists-lines : (r : Rules) (s s' : HeapState) (k : ℕ) → IsTrue r.lines → HasKind s k kinds.Immix → Relists r s s' k → RelistsLines s s' k
relists-lines r s s' k lines immix relists = subst (λ is. RelistsIf is s s' k) (and_from r.lines (has_kind s k kinds.Immix) lines immix) relists

-- if either fails, nothing changes
keeps-words : (r : Rules) (s s' : HeapState) (k : ℕ) → (IsTrue r.lines → HasKind s k kinds.Immix → ⊥) → Relists r s s' k → s'.words ≡ s.words
keeps-words r s s' k either relists =
    let is : Bool = r.lines && has_kind s k kinds.Immix in
    elim (cases_Bool is) as (λ _. s'.words ≡ s.words) [
      | inl both ↦ (let parts = and_parts r.lines (has_kind s k kinds.Immix) both in absurd (either parts.0 parts.1))
      | inr none ↦ (subst (λ b. RelistsIf b s s' k) none relists).1
    ]

others-kept : (b : Bool) (s s' : HeapState) (k i : ℕ) → RelistsIf b s s' k → (IsLineWord s.blocks k i → ⊥) → word_at s' i ≡ word_at s i
others-kept true s s' k i relists other = relists.marked.rest.others i other
others-kept false s s' k i relists other = ap (λ words. slice_index words i) relists.1

pub returns-clause-marked : goal.returns-clause-marked
returns-clause-marked c = λ r s s' k line lines immix relists small. (relists-lines r s s' k lines immix relists).marked.lines line small

pub returns-clause-exact : goal.returns-clause-exact
returns-clause-exact c = λ r s s' k lines immix lie relists. (relists-lines r s s' k lines immix relists).exact lie

pub returns-clause-no_lines : goal.returns-clause-no_lines
returns-clause-no_lines c = λ r s s' k none relists. keeps-words r s s' k (λ lines immix. true≢false (sym lines ∙ none)) relists

pub returns-clause-other_kind : goal.returns-clause-other_kind
returns-clause-other_kind c = λ r s s' k other relists. keeps-words r s s' k (λ lines immix. other immix) relists

pub returns-clause-others : goal.returns-clause-others
returns-clause-others c = λ r s s' k i relists other. others-kept (r.lines && has_kind s k kinds.Immix) s s' k i relists other
