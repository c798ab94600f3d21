use Rattle.std.proofs.Common.{◌≡◌, refl, ap, ◌∙◌, ℕ, true, false}
use Rattle.std.proofs.lemmas.Bool.{and_parts}
use Rattle.heap_layout.specs.Blocks.{kind_code}
use Rattle.heap_layout.specs.declared.block.Kind.TheVariants as kinds
use Rattle.object_model.specs.Objects.{state_over}
use Rattle.object_model.proofs.OneKind.{kind-from}
use Rattle.sessions.specs.Plans.{Rules, Copies}
use Rattle.plan_api.specs.declared.blocks_to_copy.Fills.{Fills}
use Rattle.plan_api.specs.Releasing.{is_kept_kind, is_kept_after}
use Rattle.plan_api.proofs.EvacuationLaws.{immix-kept}
use Rattle.plan_api.proofs.Tallies.{kind-of-word}
use Rattle.plans.proofs.release.release_copied.Goals as goal

-- rules of a copying plan that fills these
abbrev rules_with : Fills → Rules
rules_with f = record { collects = true; moves = true; young = f.young; lines = false; fill = f.fill; copy = f.copy; reserve = Copies }

pub release-requires-clause-small : goal.release-requires-clause-small
release-requires-clause-small g c = λ kept immix.
    let s = state_over (g.W.Words.words c.args.words.now) c.args.layout.now 0 0 in
    let k : ℕ = c.args.block in
    let r : Rules = rules_with c.args.fills.now in
    let word = c.block_word_in-word in
    let is : is_kept_after r c.args.collect s k ≡ c.is_kept-kept.result =
    c.is_kept-kept.ensures r s k (record { fill = refl; copy = refl; young = refl }) refl c.requires.block word.ensures.valid word.ensures.code in
    immix-kept s k (kind-from s k kinds.Immix c.requires.block (kind-of-word s k word.result c.requires.block word.ensures.valid word.ensures.code ∙ ap kind_code immix))
    (and_parts (is_kept_kind s k) _ (is ∙ kept)).0

pub returns : goal.returns
returns g c = λ r fills copies.
    let s = state_over (g.W.Words.words c.args.words.now) c.args.layout.now 0 0 in
    let word = c.block_word_in-word in
    c.release.ensures r c.args.collect (c.is_kept-kept.ensures r s c.args.block fills copies c.requires.block word.ensures.valid word.ensures.code)
