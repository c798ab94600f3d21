use Rattle.std.proofs.Common.{◌≡◌, ◌≤◌, ◌∙◌, sym, refl, ap, subst, ℕ, eqb-true, true, false, arith, rules}
use prog.Atomic.{either}
use Rattle.std.specs.Prelude.{◌==◌}
use Rattle.std.proofs.lemmas.Bool.{eqb-false}
use Rattle.heap_layout.specs.Blocks.{IsValidWord, code_of}
use Rattle.heap_layout.specs.declared.block.Kind.{Kind}
use Rattle.object_model.specs.Objects.{block_word}
use Rattle.sessions.specs.Fitting.{class_for}
use Rattle.sessions.specs.Sessions.{block_of_kind}
use Rattle.block_regions.proofs.FilledKinds.{filled-valid, class-few}
use Rattle.mutator_core.specs.declared.state.Local.{Local}
use Rattle.mutator_core.specs.Machine.{taken}
use Rattle.racing_mutator.specs.RacingSeats.{epoch_of_racing, view, local}
use Rattle.racing_mutator.proofs.Entered.{step-makes}
use Rattle.racing_rooms.proofs.Known.{owner-few}
use Rattle.racing_mutator.proofs.TakenUsed.{owner-then, none-held, viewed-then, none-then, keeps-then, has-then, holds-then}
use Rattle.racing_mutator.proofs.racing.Racing.take_unowned.Goals as goal

pub encode-was-requires : goal.encode-was-requires
encode-was-requires g c =
    subst (λ (f : Kind). IsValidWord (record { kind = f; class = c.class_for-class.result; owner = 0 })) (sym c.alloc_kind.ensures)
    (subst (λ (n : ℕ). IsValidWord (record { kind = g.P.Plan.rules.fill; class = n; owner = 0 })) (sym c.class_for-class.ensures)
    (filled-valid g.P.Plan.rules.fill c.args.size 0 g.met.P.Plan.fill_has_holes (omega arith)))

pub encode-word-requires : goal.encode-word-requires
encode-word-requires g c =
    let p = epoch_of_racing g.P.Plan.rules c.args.self.now in
    let few = owner-few p (view c.args.self.now) c.requires.ready.own.2 in
    subst (λ (f : Kind). IsValidWord (record { kind = f; class = c.class_for-class.result; owner = c.number.result })) (sym c.alloc_kind-2.ensures)
    (subst (λ (n : ℕ). IsValidWord (record { kind = g.P.Plan.rules.fill; class = n; owner = c.number.result })) (sym c.class_for-class.ensures)
    (subst (λ (n : ℕ). IsValidWord (record { kind = g.P.Plan.rules.fill; class = class_for g.P.Plan.rules.fill c.args.size; owner = n })) (c.args.self.now.seat.now.numbered ∙ sym c.number.ensures)
    (filled-valid g.P.Plan.rules.fill c.args.size (local c.args.self.now).number g.met.P.Plan.fill_has_holes few)))

pub exchange-found-requires-clause-may : goal.exchange-found-requires-clause-may
exchange-found-requires-clause-may g c =
    let p = epoch_of_racing g.P.Plan.rules c.args.self.now in
    let few = owner-few p (view c.args.self.now) c.requires.ready.own.2 in (
      c.requires.block,
      subst (λ (n : ℕ). IsValidWord (record { kind = g.P.Plan.rules.fill; class = n; owner = (local c.args.self.now).number })) (sym c.class_for-class.ensures)
          (filled-valid g.P.Plan.rules.fill c.args.size (local c.args.self.now).number g.met.P.Plan.fill_has_holes few),
      λ free. absurd (let wrong : false ≡ true = free in cc),
    )

pub exchange-found-requires-clause-stored : goal.exchange-found-requires-clause-stored
exchange-found-requires-clause-stored g c =
    let was : code_of (record { kind = g.P.Plan.rules.fill; class = c.class_for-class.result; owner = 0 }) ≡ c.encode-was.result =
    (λ k. code_of (record { kind = sym c.alloc_kind.ensures k; class = c.class_for-class.result; owner = 0 })) ∙ sym c.encode-was.ensures in
    let word : code_of (record { kind = g.P.Plan.rules.fill; class = c.class_for-class.result; owner = (local c.args.self.now).number }) ≡ c.encode-word.result =
    (λ k. code_of (record { kind = sym c.alloc_kind-2.ensures k; class = c.class_for-class.result; owner = (c.args.self.now.seat.now.numbered ∙ sym c.number.ensures) k })) ∙ sym c.encode-word.ensures in
    ap {B = ℕ → ℕ} (λ w n. either (n == code_of (record { kind = g.P.Plan.rules.fill; class = c.class_for-class.result; owner = 0 })) w n) word
    ∙ ap {B = ℕ → ℕ} (λ v n. either (n == v) c.encode-word.result n) was

pub returns-clause-makes : goal.returns-clause-makes
returns-clause-makes g c =
    let few = subst (λ (n : ℕ). n ≤ 18) (sym c.class_for-class.ensures) (class-few g.P.Plan.rules.fill c.args.size) in
    step-makes g.P.Plan.rules _ _ _ _ (search rules) (search rules) c.exchange-found.ensures.notes refl c.exchange-found.ensures.step
    (λ some. keeps-then g.P.Plan.rules c.args.self.now _ c.args.block c.class_for-class.result c.exchange-found.result c.requires.block few c.exchange-found.ensures.step c.requires.ready.own.2 (λ (l : Local). l.stop) refl refl)

pub returns-clause-ready : goal.returns-clause-ready
returns-clause-ready g c =
    let few = subst (λ (n : ℕ). n ≤ 18) (sym c.class_for-class.ensures) (class-few g.P.Plan.rules.fill c.args.size) in
    record {
      own = c.exchange-found.ensures.own;
      none = keeps-then g.P.Plan.rules c.args.self.now _ c.args.block c.class_for-class.result c.exchange-found.result c.requires.block few c.exchange-found.ensures.step c.requires.ready.own.2 (λ (l : Local). l.unpublished) refl refl ∙ c.requires.ready.none;
      stored = keeps-then g.P.Plan.rules c.args.self.now _ c.args.block c.class_for-class.result c.exchange-found.result c.requires.block few c.exchange-found.ensures.step c.requires.ready.own.2 (λ (l : Local). l.pending) refl refl ∙ c.requires.ready.stored;
    }

pub returns-clause-raised : goal.returns-clause-raised
returns-clause-raised g c =
    let few = subst (λ (n : ℕ). n ≤ 18) (sym c.class_for-class.ensures) (class-few g.P.Plan.rules.fill c.args.size) in
    keeps-then g.P.Plan.rules c.args.self.now _ c.args.block c.class_for-class.result c.exchange-found.result c.requires.block few c.exchange-found.ensures.step c.requires.ready.own.2 (λ (l : Local). l.raised) refl refl

pub returns-clause-births : goal.returns-clause-births
returns-clause-births g c =
    let few = subst (λ (n : ℕ). n ≤ 18) (sym c.class_for-class.ensures) (class-few g.P.Plan.rules.fill c.args.size) in
    keeps-then g.P.Plan.rules c.args.self.now _ c.args.block c.class_for-class.result c.exchange-found.result c.requires.block few c.exchange-found.ensures.step c.requires.ready.own.2 (λ (l : Local). l.births) refl refl

pub returns-clause-taken : goal.returns-clause-taken
returns-clause-taken g c is =
    let few = subst (λ (n : ℕ). n ≤ 18) (sym c.class_for-class.ensures) (class-few g.P.Plan.rules.fill c.args.size) in
    let was = c.encode-was.ensures ∙ (λ k. code_of (record { kind = c.alloc_kind.ensures k; class = c.class_for-class.result; owner = 0 })) in
    has-then g.P.Plan.rules c.args.self.now _ c.args.block c.class_for-class.result c.exchange-found.result c.requires.block few c.exchange-found.ensures.step c.requires.ready.own.2 (eqb-true c.exchange-found.result c.encode-was.result is ∙ was)
    ∙ ap (λ (n : ℕ). taken (epoch_of_racing g.P.Plan.rules c.args.self.now) (local c.args.self.now) c.args.block n false) c.class_for-class.ensures

pub returns-clause-viewed : goal.returns-clause-viewed
returns-clause-viewed g c v is looked =
    let few = subst (λ (n : ℕ). n ≤ 18) (sym c.class_for-class.ensures) (class-few g.P.Plan.rules.fill c.args.size) in
    let was = c.encode-was.ensures ∙ (λ k. code_of (record { kind = c.alloc_kind.ensures k; class = c.class_for-class.result; owner = 0 })) in
    viewed-then g.P.Plan.rules c.args.self.now _ c.args.block c.class_for-class.result c.exchange-found.result c.requires.block few c.exchange-found.ensures.step c.requires.ready.own.2 v (eqb-true c.exchange-found.result c.encode-was.result is ∙ was) looked

pub returns-clause-fresh : goal.returns-clause-fresh
returns-clause-fresh g c x is made =
    let few = subst (λ (n : ℕ). n ≤ 18) (sym c.class_for-class.ensures) (class-few g.P.Plan.rules.fill c.args.size) in
    let was = c.encode-was.ensures ∙ (λ k. code_of (record { kind = c.alloc_kind.ensures k; class = c.class_for-class.result; owner = 0 })) in
    none-then g.P.Plan.rules c.args.self.now _ c.args.block c.class_for-class.result c.exchange-found.result c.requires.block few c.exchange-found.ensures.step c.requires.ready.own.2 (eqb-true c.exchange-found.result c.encode-was.result is ∙ was) x made

pub returns-clause-nobody : goal.returns-clause-nobody
returns-clause-nobody g c o is among =
    let few = subst (λ (n : ℕ). n ≤ 18) (sym c.class_for-class.ensures) (class-few g.P.Plan.rules.fill c.args.size) in
    let was = c.encode-was.ensures ∙ (λ k. code_of (record { kind = c.alloc_kind.ensures k; class = c.class_for-class.result; owner = 0 })) in
    none-held g.P.Plan.rules c.args.self.now _ c.args.block c.class_for-class.result c.exchange-found.result c.requires.block few c.exchange-found.ensures.step c.requires.ready.own.2 (eqb-true c.exchange-found.result c.encode-was.result is ∙ was) o among

pub returns-clause-kept : goal.returns-clause-kept
returns-clause-kept g c is =
    let few = subst (λ (n : ℕ). n ≤ 18) (sym c.class_for-class.ensures) (class-few g.P.Plan.rules.fill c.args.size) in
    let was = c.encode-was.ensures ∙ (λ k. code_of (record { kind = c.alloc_kind.ensures k; class = c.class_for-class.result; owner = 0 })) in
    holds-then g.P.Plan.rules c.args.self.now _ c.args.block c.class_for-class.result c.exchange-found.result c.requires.block few c.exchange-found.ensures.step c.requires.ready.own.2
    (λ same. eqb-false c.exchange-found.result c.encode-was.result is (same ∙ sym was))

pub returns-clause-owner : goal.returns-clause-owner
returns-clause-owner g c is =
    let few = subst (λ (n : ℕ). n ≤ 18) (sym c.class_for-class.ensures) (class-few g.P.Plan.rules.fill c.args.size) in
    let was = c.encode-was.ensures ∙ (λ k. code_of (record { kind = c.alloc_kind.ensures k; class = c.class_for-class.result; owner = 0 })) in
    let word : block_word (epoch_of_racing g.P.Plan.rules c.args.self.now).before c.args.block ≡ code_of (block_of_kind g.P.Plan.rules.fill c.class_for-class.result) =
    c.requires.word ∙ ap (λ (n : ℕ). code_of (block_of_kind g.P.Plan.rules.fill n)) (sym c.class_for-class.ensures) in
    owner-then g.P.Plan.rules c.args.self.now _ c.args.block c.class_for-class.result c.exchange-found.result c.requires.block few c.exchange-found.ensures.step c.requires.ready.own.2 word
    (λ same. eqb-false c.exchange-found.result c.encode-was.result is (same ∙ sym was))
