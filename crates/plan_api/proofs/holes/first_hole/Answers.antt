use Rattle.std.proofs.Common.{◌≡◌, sym, ◌∙◌, subst, arith, rules}
use denote.Enum.Bare.{differs_true, differs_false}
use Rattle.heap_layout.specs.contracts.block.Kind.{the_type}
use Rattle.heap_layout.specs.declared.block.Kind.{Kind}
use Rattle.plan_api.specs.Holes.{IsFirstHole}
use Rattle.plan_api.proofs.Parts as parts
use Rattle.plan_api.proofs.holes.first_hole.Goals as goal

pub returns-then-ne : goal.returns-then-ne
returns-then-ne c = λ s k view apart. parts.other-kind c.args.fill s k c.args.view.now c.args.from c.args.size view (differs_true the_type c.args.view.now.word.kind c.args.fill (sym c.if-ne.ensures))

pub returns-in-Bump : goal.returns-in-Bump
returns-in-Bump c = λ s k view apart.
    let same : c.args.view.now.word.kind ≡ c.args.fill = differs_false the_type (search rules) c.args.view.now.word.kind c.args.fill (sym c.if-ne.ensures) in
    subst (λ (kind : Kind). IsFirstHole kind s k c.args.from c.args.size c.tail_part.result) (sym c.in-Bump.is)
    (parts.bump-hole s k c.args.view.now view c.args.from c.args.size (omega arith) apart (same ∙ c.in-Bump.is) c.tail_part.result c.tail_part.ensures)

pub returns-in-Young : goal.returns-in-Young
returns-in-Young c = λ s k view apart.
    let same : c.args.view.now.word.kind ≡ c.args.fill = differs_false the_type (search rules) c.args.view.now.word.kind c.args.fill (sym c.if-ne.ensures) in
    subst (λ (kind : Kind). IsFirstHole kind s k c.args.from c.args.size c.tail_part-in-Young.result) (sym c.in-Young.is)
    (parts.young-hole s k c.args.view.now view c.args.from c.args.size (omega arith) apart (same ∙ c.in-Young.is) c.tail_part-in-Young.result c.tail_part-in-Young.ensures)

pub returns-in-Immix : goal.returns-in-Immix
returns-in-Immix c = λ s k view apart.
    let same : c.args.view.now.word.kind ≡ c.args.fill = differs_false the_type (search rules) c.args.view.now.word.kind c.args.fill (sym c.if-ne.ensures) in
    subst (λ (kind : Kind). IsFirstHole kind s k c.args.from c.args.size c.clear_lines.result) (sym c.in-Immix.is)
    (parts.lines-hole s k c.args.view.now view c.args.from c.args.size (omega arith) (same ∙ c.in-Immix.is) c.clear_lines.result c.clear_lines.ensures)

pub returns-in-Cells : goal.returns-in-Cells
returns-in-Cells c = λ s k view apart.
    let same : c.args.view.now.word.kind ≡ c.args.fill = differs_false the_type (search rules) c.args.view.now.word.kind c.args.fill (sym c.if-ne.ensures) in
    subst (λ (kind : Kind). IsFirstHole kind s k c.args.from c.args.size c.cell_part.result) (sym c.in-Cells.is)
    (c.cell_part.ensures s k view (same ∙ c.in-Cells.is))
