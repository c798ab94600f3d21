use Rattle.std.proofs.Common.{◌≡◌, refl, sym, ap, ◌∙◌, subst, inl, inr, ℕ, ◌<◌, Bool, ◌&&◌}
use Rattle.std.proofs.lemmas.Bool.{cases_Bool, true≢false}
use Rattle.heap_layout.specs.Blocks.{kind_code, code_of, IsValidWord}
use Rattle.heap_layout.specs.declared.block.Kind.TheVariants as kinds
use Rattle.heap_layout.specs.declared.block.BlockWord.{BlockWord}
use Rattle.object_model.specs.Objects.{HeapState, state_over, block_word, has_kind, HasKind}
use Rattle.object_model.proofs.OneKind.{kind-from}
use Rattle.immix_space.proofs.LyingObjects.{touched-from-within}
use Rattle.immix_space.proofs.SweptLines.{lines-exact}
use Rattle.plan_api.specs.Relisting.{RelistsIf}
use Rattle.plan_api.proofs.Tallies.{kind-of-word}
use Rattle.object_model.proofs.WordReads.{kind-shown}
use Rattle.plans.proofs.release.relist_lines.Goals as goal

-- the kind of a block by its word
immix-shown : (s : HeapState) (k : ℕ) (w : BlockWord) → k < s.blocks → IsValidWord w → code_of w ≡ block_word s k → w.kind ≡ kinds.Immix → HasKind s k kinds.Immix
immix-shown s k w there valid code is = kind-from s k kinds.Immix there (kind-of-word s k w there valid code ∙ ap kind_code is)

pub mark_lines-requires-clause-kind : goal.mark_lines-requires-clause-kind
mark_lines-requires-clause-kind g c =
    let word = c.block_word_in-kind in
    immix-shown (state_over (g.W.Words.words c.args.words.now) c.args.layout.now 0 0) c.args.block word.result c.requires.block.block word.ensures.valid word.ensures.code

pub returns : goal.returns
returns g c = λ r lines.
    let old = g.W.Words.words c.args.words.now in
    let new = g.W.Words.words c.mark_lines.new.words in
    let l = c.args.layout.now in
    let s = state_over old l 0 0 in
    let t = state_over new l 0 0 in
    let k : ℕ = c.args.block in
    let word = c.block_word_in-kind in
    subst (λ (b : Bool). RelistsIf (b && has_kind s k kinds.Immix) s t k) (sym lines)
    (elim (cases_Bool (has_kind s k kinds.Immix)) as (λ _. RelistsIf (has_kind s k kinds.Immix) s t k) [
      | inl is ↦
          let marked = c.mark_lines.ensures.immix (kind-shown s k kinds.Immix word.result word.ensures.valid word.ensures.code is) in
          subst (λ immix. RelistsIf immix s t k) (sym is) (record {
            marked = marked;
            exact = λ lie. lines-exact l k old new c.requires.block.block marked (touched-from-within s k lie is);
          })
      | inr other ↦ subst (λ immix. RelistsIf immix s t k) (sym other) (refl, c.mark_lines.ensures.others (λ immix. true≢false (sym (immix-shown s k word.result c.requires.block.block word.ensures.valid word.ensures.code immix) ∙ other)))
    ])
