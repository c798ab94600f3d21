use Rattle.std.proofs.Common.{◌≡◌, ℕ, ◌<◌, List, length, slice_index, refl, ap, sym, ◌∙◌, rules, arith}
use Rattle.std.proofs.lemmas.List.{get_or-set_same}
use Rattle.mutator_rule.proofs.Moments.{sixteen}
use Rattle.racing_mutator.proofs.Entered.{found-does}
use Rattle.racing_mutator.proofs.racing.RacingMutatorSteps.load_global.Goals as goal

pub returns-clause-goes : goal.returns-clause-goes
returns-clause-goes g c =
    let long : length c.args.self.now.seat.now.registers ≡ 16 = ap (λ (rs : List ℕ). length rs) (sym c.args.self.now.seat.now.held) ∙ sixteen _ _ c.requires.ready.own.2 in
    let few : c.args.d < 16 = c.requires.register in
    found-does g.P.Plan.rules _ _ _ _ c.look_into.result c.args.d refl refl refl refl refl refl (search rules) (search rules) c.look_into.ensures.notes refl c.look_into.ensures.step
    (ap (λ (rs : List ℕ). slice_index rs c.args.d) c.look_into.ensures.registers ∙ get_or-set_same c.args.self.now.seat.now.registers c.args.d c.look_into.result 0 (omega (arith, few, long)))
