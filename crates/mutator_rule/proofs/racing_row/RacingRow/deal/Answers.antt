use Rattle.std.proofs.Common.{◌≡◌, ◌<◌, List, [], ◌∷◌, ◌++◌, length, map, take, drop, ap, sym, ◌∙◌, subst, rules, arith, add-one}
use Rattle.std.specs.List.{All}
use Rattle.std.proofs.lemmas.List.{map-append}
use Rattle.std.proofs.lemmas.List.Elements.{All-push}
use Rattle.atomic_table.specs.Table.{Me}
use Rattle.mutator_rule.specs.declared.views.MutatorView.{MutatorView}
use Rattle.mutator_rule.specs.declared.seat.MutatorSeat.{MutatorSeat}
use Rattle.mutator_rule.specs.Views.{first_of, first_view, epoch_with}
use Rattle.mutator_rule.specs.Logs.{KnowsLog}
use Rattle.mutator_rule.specs.Seats.{known, AreSeatsOf, IsSeatOf, HasFirstNotes, start_of}
use Rattle.mutator_rule.specs.FirstNotes.{AreFirstNotes}
use Rattle.mutator_rule.proofs.SeatsDealt.{deals}
use Rattle.mutator_rule.proofs.Loops.{one_view, drop_more, take_more_view, first_fresh, first_length, get-or-elem}
use Rattle.mutator_rule.proofs.racing_row.RacingRow.deal.Goals as goal

pub split-seat-requires : goal.split-seat-requires
split-seat-requires g c = (c.loop-i.invariant.table, c.args.self.now.some, deals _ _ _ _)

pub invariant_of-push : goal.invariant_of-push
invariant_of-push g c =
    let e = c.split-seat.ensures.4 in
    let ps : List MutatorView = c.args.chief.me.0 in
    let is : c.split-seat.result.me.0 ≡ take 1 (drop c.loop-i.i ps) = ap (λ (m : Me (Unit {0}) (List MutatorView)). m.0) e ∙ ap (λ (l : List MutatorView). take 1 l) c.loop-i.invariant.left in
    let long : length ps ≡ length c.args.mutators.now.items = ap (λ (l : List MutatorView). length l) c.requires.views ∙ first_length (start_of c.args.self.now) c.args.mutators.now.items in
    let within : c.loop-i.i < length c.args.mutators.now.items = search rules in
    let room : c.loop-i.i < length ps = omega (arith, long, within) in
    let first = first_fresh (start_of c.args.self.now) c.args.mutators.now.items c.loop-i.i c.index.result.now within c.index.ensures in
    let part : first_of c.split-seat.result.me.0 ≡ first_view (start_of c.args.self.now) c.index.result.now =
    ap (λ (l : List MutatorView). first_of l) is ∙ ap (λ (l : List MutatorView). first_of (take 1 (drop c.loop-i.i l))) c.requires.views ∙ first in
    record {
      free = ap (λ (m : Me (Unit {0}) (List MutatorView)). m.1) e;
      one = subst (λ (l : List MutatorView). l ≡ first_of l ∷ []) (sym is) (one_view ps c.loop-i.i room);
      numbered = ap (λ (q : MutatorView). q.local.number) part;
      born = ap (λ (q : MutatorView). q.local.births) part;
      held = ap (λ (q : MutatorView). q.local.registers) part;
    }

pub loop-i-preserved : goal.loop-i-preserved
loop-i-preserved g c =
    let e = c.split-seat.ensures.4 in
    let ps : List MutatorView = c.args.chief.me.0 in
    let is : c.split-seat.result.me.0 ≡ take 1 (drop c.loop-i.i ps) = ap (λ (m : Me (Unit {0}) (List MutatorView)). m.0) e ∙ ap (λ (l : List MutatorView). take 1 l) c.loop-i.invariant.left in
    let long : length ps ≡ length c.args.mutators.now.items = ap (λ (l : List MutatorView). length l) c.requires.views ∙ first_length (start_of c.args.self.now) c.args.mutators.now.items in
    let within : c.loop-i.i < length c.args.mutators.now.items = search rules in
    let room : c.loop-i.i < length ps = omega (arith, long, within) in
    let first = first_fresh (start_of c.args.self.now) c.args.mutators.now.items c.loop-i.i c.index.result.now within c.index.ensures in
    let part : first_of c.split-seat.result.me.0 ≡ first_view (start_of c.args.self.now) c.index.result.now =
    ap (λ (l : List MutatorView). first_of l) is ∙ ap (λ (l : List MutatorView). first_of (take 1 (drop c.loop-i.i l))) c.requires.views ∙ first in
    let table : c.split-seat.result.table_id ≡ c.args.self.now.row.words.table_id = search rules in
    record {
      table = search rules;
      left = ap (λ (m : Me (Unit {0}) (List MutatorView)). m.0) c.split-seat.ensures.2 ∙ ap (λ (l : List MutatorView). drop 1 l) c.loop-i.invariant.left ∙ drop_more ps c.loop-i.i ∙ ap (λ k. drop k ps) (sym (add-one c.loop-i.i));
      notes = subst (λ (l : List MutatorSeat). All (HasFirstNotes c.args.self.now c.args.allowance) l) (sym c.in_ok-push.ensures.items)
          (All-push (HasFirstNotes c.args.self.now c.args.allowance) c.loop-i.seats.items _ c.loop-i.invariant.notes (subst (λ b. AreFirstNotes b c.args.allowance c.in_ok-notes.notes) c.blocks-in-loop-i.ensures c.in_ok-notes.ensures));
      own = subst (λ (l : List MutatorSeat). AreSeatsOf g.P.EpochRules.rules c.args.self.now l) (sym c.in_ok-push.ensures.items) (All-push (IsSeatOf g.P.EpochRules.rules c.args.self.now) c.loop-i.seats.items _ c.loop-i.invariant.own (table, ap (λ (q : MutatorView). q.start) part, subst (λ (q : MutatorView). KnowsLog (epoch_with g.P.EpochRules.rules q.start) q) (sym part) (c.requires.told c.loop-i.i c.index.result.now (get-or-elem c.args.mutators.now.items c.loop-i.i c.index.result.now within c.index.ensures))));
      done = ap (λ (l : List MutatorSeat). map known l) c.in_ok-push.ensures.items ∙ map-append known c.loop-i.seats.items _
          ∙ ap (λ (l : List MutatorView). l ++ first_of c.split-seat.result.me.0 ∷ []) c.loop-i.invariant.done
          ∙ ap (λ (l : List MutatorView). take c.loop-i.i ps ++ first_of l ∷ []) is
          ∙ take_more_view ps c.loop-i.i room ∙ ap (λ k. take k ps) (sym (add-one c.loop-i.i));
    }
