use Rattle.std.proofs.Common.{◌≡◌, ℕ, ◌<◌, ◌^◌, List, length, ap, ◌∙◌, rules, arith}
use Rattle.std.specs.Prelude.{slice_set}
use Rattle.mutator_core.specs.declared.state.Local.{Local}
use Rattle.mutator_rule.proofs.Making.{makes}
use Rattle.mutator_rule.proofs.Registers.{loaded-small}
use Rattle.mutator_rule.proofs.racing_row.RacingRow.look_into_as.Goals as goal

pub load-found-requires : goal.load-found-requires
load-found-requires g c = (c.requires.own.0, c.requires.inside, makes _ _ _ _ c.args.me.now.seat.me g.E.PicksEvent.event _ _ c.requires.own.1 c.requires.may c.requires.place c.requires.stored c.args.me.now.one)

pub overflow_cast-found : goal.overflow_cast-found
overflow_cast-found g c =
    let long : length c.args.me.now.registers ≡ 16 = search rules in
    let n : c.load-found.result < 2 ^ 32 = loaded-small _ _ _ _ _ c.args.d c.load-found.ensures.2.0 c.requires.register (ap (λ (rs : List ℕ). length rs) c.args.me.now.held ∙ long) (c.requires.quiet c.load-found.result) in
    omega (arith, n)

pub invariant_of-me : goal.invariant_of-me
invariant_of-me g c =
    let st = c.load-found.ensures.2.0 in
    let n : ℕ = c.load-found.result in
    record {
      one = c.load-found.ensures.2.1;
      free = c.load-found.ensures.2.2 ∙ c.args.me.now.free;
      numbered = st.number ∙ c.args.me.now.numbered;
      born = ap (λ (l : Local). l.births) st.local ∙ c.requires.births n ∙ c.args.me.now.born;
      held = ap (λ (l : Local). l.registers) st.local ∙ c.requires.quiet n ∙ ap (λ (rs : List ℕ). slice_set rs c.args.d n) c.args.me.now.held;
    }
