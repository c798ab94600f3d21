use Rattle.std.proofs.Common.{◌≡◌, ◌∙◌, ◌/◌, ◌%◌, ◌≤◌, inl, sym, ap, subst, ℕ, true, false, arith, rules}
use Rattle.heap_layout.specs.Blocks.{IsValidWord, code_of, kind_code}
use Rattle.heap_layout.specs.declared.block.Kind.{Kind}
use Rattle.heap_layout.specs.declared.block.BlockWord.{BlockWord}
use Rattle.heap_layout.proofs.BlockLemmas.{kind_code_most}
use Rattle.sessions.specs.Fitting.{class_for}
use Rattle.sessions.specs.Sessions.{block_of_kind}
use Rattle.block_regions.proofs.FilledKinds.{filled-valid, class-few}
use Rattle.mutator_core.specs.declared.state.Local.{Local}
use Rattle.racing_mutator.proofs.HolesPassed.{looked-rooms, only-loads, only-both, owner-in, kind-in, still-noted, wrong-kind, wrong-word, right-word, lacks-size}
use Rattle.racing_mutator.proofs.racing.Racing.unowned_word.Goals as goal

pub encode-wanted-requires : goal.encode-wanted-requires
encode-wanted-requires g c =
    subst (λ (f : Kind). IsValidWord (record { kind = f; class = c.class_for.result; owner = 0 })) (sym c.alloc_kind.ensures)
    (subst (λ (n : ℕ). IsValidWord (record { kind = g.P.Plan.rules.fill; class = n; owner = 0 })) (sym c.class_for.ensures)
    (filled-valid g.P.Plan.rules.fill c.args.size 0 g.met.P.Plan.fill_has_holes (omega arith)))

pub returns-then-code-wanted-clause-rooms : goal.returns-then-code-wanted-clause-rooms
returns-then-code-wanted-clause-rooms g c = looked-rooms g.P.Plan.rules c.args.self.now c.look_block-code.new.self c.look_block-code.ensures.looks c.look_block-code.ensures.ready c.requires.rooms

pub returns-then-code-wanted-clause-only : goal.returns-then-code-wanted-clause-only
returns-then-code-wanted-clause-only g c = only-loads g.P.Plan.rules c.args.self.now c.look_block-code.new.self c.look_block-code.ensures.looks c.look_block-code.ensures.notes (ap (λ (l : Local). l.births) c.look_block-code.ensures.loaded)

pub returns-then-code-wanted-clause-word : goal.returns-then-code-wanted-clause-word
returns-then-code-wanted-clause-word g c =
    let w : BlockWord = record { kind = c.alloc_kind.result; class = c.class_for.result; owner = 0 } in
    let same : w ≡ block_of_kind g.P.Plan.rules.fill (class_for g.P.Plan.rules.fill c.args.size) = λ k. record { kind = c.alloc_kind.ensures k; class = c.class_for.ensures k; owner = 0 } in
    let valid : IsValidWord w = subst (λ (f : Kind). IsValidWord (record { kind = f; class = c.class_for.result; owner = 0 })) (sym c.alloc_kind.ensures)
    (subst (λ (n : ℕ). IsValidWord (record { kind = g.P.Plan.rules.fill; class = n; owner = 0 })) (sym c.class_for.ensures)
    (filled-valid g.P.Plan.rules.fill c.args.size 0 g.met.P.Plan.fill_has_holes (omega arith))) in
    let is : c.look_block-code.result ≡ code_of w = c.if-code-wanted.true ∙ c.encode-wanted.ensures in
    let few : c.class_for.result ≤ 18 = subst (λ (n : ℕ). n ≤ 18) (sym c.class_for.ensures) (class-few g.P.Plan.rules.fill c.args.size) in
    let none : c.look_block-code.result / 65536 ≡ 0 = owner-in (kind_code c.alloc_kind.result) c.class_for.result c.look_block-code.result (kind_code_most c.alloc_kind.result) few is in (
      same,
      valid,
      right-word g.P.Plan.rules c.args.self.now c.look_block-code.new.self c.args.block c.look_block-code.result c.look_block-code.ensures.looks w (c.look_block-code.ensures.word none) is,
    )

pub pass_over-requires-clause-rooms : goal.pass_over-requires-clause-rooms
pass_over-requires-clause-rooms g c = looked-rooms g.P.Plan.rules c.args.self.now c.look_block-code.new.self c.look_block-code.ensures.looks c.look_block-code.ensures.ready c.requires.rooms

pub pass_over-requires-clause-note : goal.pass_over-requires-clause-note
pass_over-requires-clause-note g c = still-noted g.P.Plan.rules c.args.self.now c.look_block-code.new.self c.args.block c.look_block-code.ensures.notes c.requires.note

pub pass_over-requires-clause-lacks : goal.pass_over-requires-clause-lacks
pass_over-requires-clause-lacks g c = let many = c.if-code-ge-OWNER_UNIT.true in inl (c.look_block-code.ensures.owned (omega arith))

pub returns-then-code-ge-OWNER_UNIT-clause-only : goal.returns-then-code-ge-OWNER_UNIT-clause-only
returns-then-code-ge-OWNER_UNIT-clause-only g c = only-both g.P.Plan.rules c.args.self.now c.look_block-code.new.self c.pass_over.new.self
    (only-loads g.P.Plan.rules c.args.self.now c.look_block-code.new.self c.look_block-code.ensures.looks c.look_block-code.ensures.notes (ap (λ (l : Local). l.births) c.look_block-code.ensures.loaded)) c.pass_over.ensures.only

pub returns-then-code-ge-OWNER_UNIT-clause-lacks : goal.returns-then-code-ge-OWNER_UNIT-clause-lacks
returns-then-code-ge-OWNER_UNIT-clause-lacks g c = let many = c.if-code-ge-OWNER_UNIT.true in c.pass_over.ensures.lacking c.args.size (inl (c.look_block-code.ensures.owned (omega arith)))

pub pass_over-requires-then-kind-filled-clause-rooms : goal.pass_over-requires-then-kind-filled-clause-rooms
pass_over-requires-then-kind-filled-clause-rooms g c = looked-rooms g.P.Plan.rules c.args.self.now c.look_block-code.new.self c.look_block-code.ensures.looks c.look_block-code.ensures.ready c.requires.rooms

pub pass_over-requires-then-kind-filled-clause-note : goal.pass_over-requires-then-kind-filled-clause-note
pass_over-requires-then-kind-filled-clause-note g c = still-noted g.P.Plan.rules c.args.self.now c.look_block-code.new.self c.args.block c.look_block-code.ensures.notes c.requires.note

pub pass_over-requires-then-kind-filled-clause-lacks : goal.pass_over-requires-then-kind-filled-clause-lacks
pass_over-requires-then-kind-filled-clause-lacks g c =
    let none : c.look_block-code.result / 65536 ≡ 0 = omega (arith, c.if-code-ge-OWNER_UNIT.false) in
    let few : c.class_for.result ≤ 18 = subst (λ (n : ℕ). n ≤ 18) (sym c.class_for.ensures) (class-few g.P.Plan.rules.fill c.args.size) in
    let kind : c.encode-wanted.result % 256 ≡ kind_code g.P.Plan.rules.fill = kind-in (kind_code c.alloc_kind.result) c.class_for.result c.encode-wanted.result (kind_code_most c.alloc_kind.result) few c.encode-wanted.ensures ∙ ap kind_code c.alloc_kind.ensures in
    wrong-kind g.P.Plan.rules c.args.self.now c.look_block-code.new.self c.args.block c.look_block-code.result c.look_block-code.ensures.looks (c.encode-wanted.result % 256) (c.look_block-code.ensures.word none) kind c.if-kind-filled.true

pub returns-then-kind-filled-clause-only : goal.returns-then-kind-filled-clause-only
returns-then-kind-filled-clause-only g c = only-both g.P.Plan.rules c.args.self.now c.look_block-code.new.self c.pass_over-then-kind-filled.new.self
    (only-loads g.P.Plan.rules c.args.self.now c.look_block-code.new.self c.look_block-code.ensures.looks c.look_block-code.ensures.notes (ap (λ (l : Local). l.births) c.look_block-code.ensures.loaded)) c.pass_over-then-kind-filled.ensures.only

pub returns-then-kind-filled-clause-lacks : goal.returns-then-kind-filled-clause-lacks
returns-then-kind-filled-clause-lacks g c =
    let none : c.look_block-code.result / 65536 ≡ 0 = omega (arith, c.if-code-ge-OWNER_UNIT.false) in
    let few : c.class_for.result ≤ 18 = subst (λ (n : ℕ). n ≤ 18) (sym c.class_for.ensures) (class-few g.P.Plan.rules.fill c.args.size) in
    let kind : c.encode-wanted.result % 256 ≡ kind_code g.P.Plan.rules.fill = kind-in (kind_code c.alloc_kind.result) c.class_for.result c.encode-wanted.result (kind_code_most c.alloc_kind.result) few c.encode-wanted.ensures ∙ ap kind_code c.alloc_kind.ensures in
    c.pass_over-then-kind-filled.ensures.lacking c.args.size (lacks-size g.P.Plan.rules c.look_block-code.new.self c.args.block 0 c.args.size (omega arith)
    (wrong-kind g.P.Plan.rules c.args.self.now c.look_block-code.new.self c.args.block c.look_block-code.result c.look_block-code.ensures.looks (c.encode-wanted.result % 256) (c.look_block-code.ensures.word none) kind c.if-kind-filled.true))

pub returns-clause-rooms : goal.returns-clause-rooms
returns-clause-rooms g c = looked-rooms g.P.Plan.rules c.args.self.now c.look_block-code.new.self c.look_block-code.ensures.looks c.look_block-code.ensures.ready c.requires.rooms

pub returns-clause-only : goal.returns-clause-only
returns-clause-only g c = only-loads g.P.Plan.rules c.args.self.now c.look_block-code.new.self c.look_block-code.ensures.looks c.look_block-code.ensures.notes (ap (λ (l : Local). l.births) c.look_block-code.ensures.loaded)

pub returns-clause-lacks : goal.returns-clause-lacks
returns-clause-lacks g c =
    let none : c.look_block-code.result / 65536 ≡ 0 = omega (arith, c.if-code-ge-OWNER_UNIT.false) in
    let wanted : c.encode-wanted.result ≡ code_of (block_of_kind g.P.Plan.rules.fill (class_for g.P.Plan.rules.fill c.args.size)) =
    c.encode-wanted.ensures ∙ (λ k. code_of (record { kind = c.alloc_kind.ensures k; class = c.class_for.ensures k; owner = 0 })) in
    wrong-word g.P.Plan.rules c.args.self.now c.look_block-code.new.self c.args.block c.look_block-code.result c.look_block-code.ensures.looks c.args.size g.met.P.Plan.fill_has_holes c.look_block-code.ensures.code none (c.look_block-code.ensures.word none)
    (λ same. c.if-code-wanted.false (same ∙ sym wanted))
