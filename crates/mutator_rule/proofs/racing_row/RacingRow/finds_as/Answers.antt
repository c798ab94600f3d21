-- The step is made, or nothing.
use Rattle.std.proofs.Common.{◌≡◌, ◌∙◌, ap, [], ◌∷◌}
use Rattle.mutator_rule.specs.Views.{first_of}
use Rattle.mutator_rule.proofs.Making.{IfLeft, finds, kept-by-finding, found-stored, found-other}
use Rattle.mutator_rule.proofs.racing_row.RacingRow.finds_as.Goals as goal

pub load-requires : goal.load-requires
load-requires g c = (c.requires.own.0, c.requires.inside, finds _ _ _ _ c.args.me.now.seat.me g.E.PicksEvent.event _ _ c.requires.own.1 c.requires.may c.requires.place c.requires.stored c.args.me.now.one)

pub invariant_of-me : goal.invariant_of-me
invariant_of-me g c =
    let rules = g.P.EpochRules.rules in
    let me = c.args.me.now.seat.me in
    let now = c.load.new.seat.me in
    let event = g.E.PicksEvent.event in
    let n = c.load.result in
    let told : IfLeft rules me event n now = c.load.ensures.2 in record {
      one = kept-by-finding rules me now event n c.args.new (λ q. q.0 ≡ first_of q.0 ∷ []) c.requires.stored told (λ t. t.1) c.args.me.now.one;
      free = kept-by-finding rules me now event n c.args.new (λ q. q.1 ≡ []) c.requires.stored told (λ t. t.2 ∙ c.args.me.now.free) c.args.me.now.free;
      numbered = kept-by-finding rules me now event n c.args.new (λ q. (first_of q.0).local.number ≡ c.args.me.now.number) c.requires.stored told (λ t. t.0.number ∙ c.args.me.now.numbered) c.args.me.now.numbered;
      born = kept-by-finding rules me now event n c.args.new (λ q. (first_of q.0).local.births ≡ c.args.me.now.births) c.requires.stored told
          (λ t. ap (λ l. l.births) t.0.local ∙ c.requires.births n ∙ c.args.me.now.born) c.args.me.now.born;
      held = kept-by-finding rules me now event n c.args.new (λ q. (first_of q.0).local.registers ≡ c.args.me.now.registers) c.requires.stored told
          (λ t. ap (λ l. l.registers) t.0.local ∙ c.requires.quiet n ∙ c.args.me.now.held) c.args.me.now.held;
    }

pub returns-clause-step : goal.returns-clause-step
returns-clause-step g c = found-stored g.P.EpochRules.rules c.args.me.now.seat.me c.load.new.seat.me g.E.PicksEvent.event c.load.result c.args.new c.requires.stored c.load.ensures.2

pub returns-clause-nothing : goal.returns-clause-nothing
returns-clause-nothing g c isnt =
    ap (λ q. first_of q.0) (found-other g.P.EpochRules.rules c.args.me.now.seat.me c.load.new.seat.me g.E.PicksEvent.event c.load.result c.args.new c.requires.stored c.load.ensures.2 isnt)
