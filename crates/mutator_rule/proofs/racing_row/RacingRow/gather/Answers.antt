use Rattle.std.proofs.Common.{rules, sym, ◌∙◌, ap, subst, List, [], ◌∷◌, ◌++◌, map, append_assoc}
use Rattle.std.specs.Prelude.{Option}
use Rattle.std.specs.Option.{option_to_list}
use Rattle.std.proofs.lemmas.List.{map-append}
use Rattle.std.proofs.lemmas.List.Elements.{All-take}
use Rattle.mutator_rule.specs.declared.seat.MutatorSeat.{MutatorSeat}
use Rattle.mutator_rule.specs.declared.views.MutatorView.{MutatorView}
use Rattle.mutator_rule.specs.Seats.{known, IsAtRow, AreAtRow}
use Rattle.mutator_rule.proofs.SeatsDealt.{gathers}
use Rattle.mutator_rule.proofs.racing_row.RacingRow.gather.Goals as goal

pub join-requires : goal.join-requires
join-requires g c = (c.loop-next.invariant.table, search rules, c.args.self.now.some, gathers _ _ _ _ _ _)

pub loop-next-preserved : goal.loop-next-preserved
loop-next-preserved g c =
    let left : List MutatorSeat = c.pop-in-loop-next.new.self.items in
    let chief : List MutatorView = c.loop-next.chief.me.0 in
    let next : MutatorSeat = c.in-Some-pop.next in
    record {
      table = search rules;
      own = subst (λ (l : List MutatorSeat). AreAtRow c.args.self.now l) (sym c.pop-in-loop-next.ensures.rest) (All-take (IsAtRow c.args.self.now) _ c.loop-next.seats.items c.loop-next.invariant.own);
      views = ap (λ m. map known left ++ m.0) c.join.ensures.2
          ∙ ap (λ (vs : List MutatorView). map known left ++ (vs ++ chief)) (ap (λ s. s.me.0) c.into_row_seat.ensures ∙ next.one)
          ∙ sym (append_assoc (map known left) (known next ∷ []) chief)
          ∙ ap (λ (vs : List MutatorView). vs ++ chief) (sym (map-append known left (next ∷ [])))
          ∙ ap (λ (l : List MutatorSeat). map known l ++ chief) (sym (c.pop-in-loop-next.ensures.items ∙ ap (λ (o : Option MutatorSeat). left ++ option_to_list o) c.in-Some-pop.is))
          ∙ c.loop-next.invariant.views;
    }
