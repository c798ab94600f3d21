use Rattle.std.proofs.Common.{◌∙◌, sym, refl, ap, subst, ℕ, eqb-true, true, rules}
use prog.Atomic.{either}
use Rattle.std.specs.Prelude.{◌==◌}
use Rattle.heap_layout.specs.Blocks.{IsValidWord, code_of}
use Rattle.heap_layout.specs.declared.block.Kind.{Kind}
use Rattle.sessions.specs.Fitting.{class_for}
use Rattle.block_regions.proofs.FilledKinds.{filled-valid}
use Rattle.mutator_core.specs.declared.state.Local.{Local}
use Rattle.mutator_core.specs.Machine.{taken}
use Rattle.racing_mutator.specs.RacingSeats.{epoch_of_racing, view, local}
use Rattle.std.proofs.lemmas.Bool.{eqb-false}
use Rattle.racing_mutator.proofs.Entered.{step-makes}
use Rattle.racing_mutator.proofs.Allocated.{free-before, none-made, has-taken, take-keeps, seen-used, holds-same, none-owned, still-seen}
use Rattle.racing_rooms.proofs.Known.{owner-few}
use Rattle.racing_mutator.proofs.racing.Racing.take_free.Goals as goal

pub encode-word-requires : goal.encode-word-requires
encode-word-requires g c =
    let p = epoch_of_racing g.P.Plan.rules c.args.self.now in
    let few = owner-few p (view c.args.self.now) c.requires.ready.own.2 in
    subst (λ (f : Kind). IsValidWord (record { kind = f; class = c.class_for-class.result; owner = c.number.result })) (sym c.alloc_kind.ensures)
    (subst (λ (n : ℕ). IsValidWord (record { kind = g.P.Plan.rules.fill; class = n; owner = c.number.result })) (sym c.class_for-class.ensures)
    (subst (λ (n : ℕ). IsValidWord (record { kind = g.P.Plan.rules.fill; class = class_for g.P.Plan.rules.fill c.args.size; owner = n })) (c.args.self.now.seat.now.numbered ∙ sym c.number.ensures)
    (filled-valid g.P.Plan.rules.fill c.args.size (local c.args.self.now).number g.met.P.Plan.fill_has_holes few)))

pub exchange-found-requires-clause-may : goal.exchange-found-requires-clause-may
exchange-found-requires-clause-may g c =
    let p = epoch_of_racing g.P.Plan.rules c.args.self.now in
    let few = owner-few p (view c.args.self.now) c.requires.ready.own.2 in (
      c.requires.block,
      subst (λ (n : ℕ). IsValidWord (record { kind = g.P.Plan.rules.fill; class = n; owner = (local c.args.self.now).number })) (sym c.class_for-class.ensures)
          (filled-valid g.P.Plan.rules.fill c.args.size (local c.args.self.now).number g.met.P.Plan.fill_has_holes few),
      λ free. c.requires.ticket,
    )

pub exchange-found-requires-clause-stored : goal.exchange-found-requires-clause-stored
exchange-found-requires-clause-stored g c = ap {B = ℕ → ℕ} (λ w n. either (n == 0) w n)
    ((λ k. code_of (record { kind = sym c.alloc_kind.ensures k; class = c.class_for-class.result; owner = (c.args.self.now.seat.now.numbered ∙ sym c.number.ensures) k })) ∙ sym c.encode-word.ensures)

pub returns-clause-makes : goal.returns-clause-makes
returns-clause-makes g c = step-makes g.P.Plan.rules _ _ _ _ (search rules) (search rules) c.exchange-found.ensures.notes refl c.exchange-found.ensures.step
    (λ some. take-keeps g.P.Plan.rules c.args.self.now _ c.args.block c.class_for-class.result c.exchange-found.result c.requires.block c.requires.ready.own.2 c.exchange-found.ensures.step (λ (l : Local). l.stop) refl refl)

pub returns-clause-ready : goal.returns-clause-ready
returns-clause-ready g c = record {
  own = c.exchange-found.ensures.own;
  none = take-keeps g.P.Plan.rules c.args.self.now _ c.args.block c.class_for-class.result c.exchange-found.result c.requires.block c.requires.ready.own.2 c.exchange-found.ensures.step (λ (l : Local). l.unpublished) refl refl ∙ c.requires.ready.none;
  stored = take-keeps g.P.Plan.rules c.args.self.now _ c.args.block c.class_for-class.result c.exchange-found.result c.requires.block c.requires.ready.own.2 c.exchange-found.ensures.step (λ (l : Local). l.pending) refl refl ∙ c.requires.ready.stored;
}

pub returns-clause-taken : goal.returns-clause-taken
returns-clause-taken g c is = has-taken g.P.Plan.rules c.args.self.now _ c.args.block c.class_for-class.result c.exchange-found.result c.requires.block c.requires.ready.own.2 c.exchange-found.ensures.step (eqb-true c.exchange-found.result 0 is)
    ∙ ap (λ (n : ℕ). taken (epoch_of_racing g.P.Plan.rules c.args.self.now) (local c.args.self.now) c.args.block n true) c.class_for-class.ensures

pub returns-clause-free : goal.returns-clause-free
returns-clause-free g c is = free-before g.P.Plan.rules c.args.self.now _ c.args.block c.class_for-class.result c.exchange-found.result c.requires.block c.requires.ready.own.2 c.exchange-found.ensures.step (eqb-true c.exchange-found.result 0 is)

pub returns-clause-fresh : goal.returns-clause-fresh
returns-clause-fresh g c x is made = none-made g.P.Plan.rules c.args.self.now _ c.args.block c.class_for-class.result c.exchange-found.result c.requires.block c.requires.ready.own.2 c.exchange-found.ensures.step (eqb-true c.exchange-found.result 0 is) x made

pub returns-clause-kept : goal.returns-clause-kept
returns-clause-kept g c is = holds-same g.P.Plan.rules c.args.self.now _ c.args.block c.class_for-class.result c.exchange-found.result c.requires.block c.requires.ready.own.2 c.exchange-found.ensures.step (eqb-false c.exchange-found.result 0 is)

pub returns-clause-used : goal.returns-clause-used
returns-clause-used g c is = seen-used g.P.Plan.rules c.args.self.now _ c.args.block c.class_for-class.result c.exchange-found.result c.requires.block c.requires.ready.own.2 c.exchange-found.ensures.step (eqb-false c.exchange-found.result 0 is)

pub returns-clause-raised : goal.returns-clause-raised
returns-clause-raised g c = take-keeps g.P.Plan.rules c.args.self.now _ c.args.block c.class_for-class.result c.exchange-found.result c.requires.block c.requires.ready.own.2 c.exchange-found.ensures.step (λ (l : Local). l.raised) refl refl

pub returns-clause-births : goal.returns-clause-births
returns-clause-births g c = take-keeps g.P.Plan.rules c.args.self.now _ c.args.block c.class_for-class.result c.exchange-found.result c.requires.block c.requires.ready.own.2 c.exchange-found.ensures.step (λ (l : Local). l.births) refl refl

pub returns-clause-still : goal.returns-clause-still
returns-clause-still g c k saw = still-seen g.P.Plan.rules c.args.self.now _ c.args.block c.class_for-class.result c.exchange-found.result c.requires.block c.requires.ready.own.2 c.exchange-found.ensures.step k saw

pub returns-clause-nobody : goal.returns-clause-nobody
returns-clause-nobody g c o is among = none-owned g.P.Plan.rules c.args.self.now _ c.args.block c.class_for-class.result c.exchange-found.result c.requires.block c.requires.ready.own.2 c.exchange-found.ensures.step (eqb-true c.exchange-found.result 0 is) o among
