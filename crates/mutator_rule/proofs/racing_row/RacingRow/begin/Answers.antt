use Rattle.std.proofs.Common.{◌≡◌, ℕ, sym, ◌∙◌, ap, subst}
use mathlib.Core.Option.{some}
use lib.ListN.{get_elem?}
use Rattle.mutator_calls.specs.declared.need.Mutator.{Mutator}
use Rattle.mutator_rule.specs.declared.views.EpochStart.{EpochStart}
use Rattle.mutator_rule.specs.Views.{start_with, start_in, epoch_with, first_view}
use Rattle.mutator_rule.specs.Logs.{KnowsLog}
use Rattle.mutator_rule.proofs.SeatsDealt.{opens, first-knows}
use Rattle.mutator_rule.proofs.racing_row.RacingRow.begin.Goals as goal

pub share-row-requires : goal.share-row-requires
share-row-requires g c = rw (c.of.ensures, c.of-2.ensures) (opens _ _ c.requires.ready c.requires.represents.0 c.requires.represents.1 c.requires.differ)

pub deal-requires-clause-told : goal.deal-requires-clause-told
deal-requires-clause-told g c =
    let began : EpochStart = start_with c.args.words c.args.layout.blocks c.args.number c.args.base c.args.mutators.now.items in
    let same : start_in c.share-row.result.0.words.key ≡ began = ap start_in c.share-row.ensures.row.2 ∙ (λ k. start_with (c.of.ensures k) c.args.layout.blocks c.args.number c.args.base (c.of-2.ensures k).items) in
    subst (λ (h : EpochStart). (k : ℕ) (m : Mutator) → get_elem? c.args.mutators.now.items k ≡ some m → KnowsLog (epoch_with g.P.EpochRules.rules h) (first_view h m)) (sym same)
    (first-knows g.P.EpochRules.rules began c.requires.ready c.requires.represents.0 c.requires.represents.1 c.requires.differ)
