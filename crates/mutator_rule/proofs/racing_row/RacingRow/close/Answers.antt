use Rattle.std.proofs.Common.{List, subst}
use Rattle.mutator_rule.specs.declared.views.MutatorView.{MutatorView}
use Rattle.mutator_rule.specs.Logs.{EndsWith}
use Rattle.mutator_rule.specs.Seats.{start_of}
use Rattle.mutator_rule.proofs.SeatsDealt.{closes}
use Rattle.mutator_rule.proofs.racing_row.RacingRow.close.Goals as goal

pub returns : goal.returns
returns g c = subst (λ (vs : List MutatorView). EndsWith g.P.EpochRules.rules (start_of c.args.self) vs c.into_row.result) c.gather-chief.ensures.views (closes _ _ _ _ _ c.into_row.ensures.words.0 c.into_row.ensures.words.1)
