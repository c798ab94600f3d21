use Rattle.std.proofs.Common.{◌≡◌, ◌+◌, ℕ, sym, ◌∙◌, ap, subst, arith, rules, Option, Some, None}
use denote.Enum.Bare.{differs_true, differs_false, same_true}
use Rattle.heap_layout.specs.contracts.block.Kind.{the_type}
use Rattle.heap_layout.specs.declared.block.Kind.{Kind}
use Rattle.heap_layout.specs.declared.block.Kind.TheVariants as kinds
use Rattle.heap_layout.proofs.BlockLemmas.{parts_of_code}
use Rattle.object_model.specs.Objects.{state_over, block_word, HasKind, class_at, cell_words}
use Rattle.object_model.proofs.OneKind.{kind-from}
use Rattle.sessions.specs.Fitting.{class_of}
use Rattle.plan_api.specs.Holes.{IsFirstPart, IsFirstHole}
use Rattle.plan_api.proofs.Tallies.{kind-of-word}
use Rattle.plan_api.proofs.HoleTests.{none-there}
use Rattle.plan_api.proofs.Parts.{first-lines}
use Rattle.line_marks.proofs.HoleRuns.{lines-read}
use Rattle.plan_api.proofs.CellParts.{apart-anyway, class-shown, next-part, no-part}
use Rattle.plan_api.proofs.readers.hole_in_block.Goals as goal

pub returns-then-ne : goal.returns-then-ne
returns-then-ne g c = λ number base.
    let s = state_over (g.W.Words.words c.args.words.now) c.args.layout.now number base in
    let word = c.block_word_in-word in
    none-there c.args.fill s c.args.block c.args.from c.args.size word.result word.ensures.valid word.ensures.code (differs_true the_type word.result.kind c.args.fill (sym c.if-ne.ensures))

pub returns-then-eq : goal.returns-then-eq
returns-then-eq g c = λ number base.
    let words = g.W.Words.words c.args.words.now in
    let l = c.args.layout.now in
    let s = state_over words l number base in
    let k : ℕ = c.args.block in
    let word = c.block_word_in-word in
    let there = c.requires.block.block in
    let same : word.result.kind ≡ c.args.fill = differs_false the_type (search rules) word.result.kind c.args.fill (sym c.if-ne.ensures) in
    let lines : c.args.fill ≡ kinds.Immix = same_true the_type (search rules) c.args.fill kinds.Immix (sym c.if-eq.ensures) in
    let kind : HasKind s k kinds.Immix = subst (HasKind s k) (same ∙ lines) (kind-from s k word.result.kind there (kind-of-word s k word.result there word.ensures.valid word.ensures.code)) in
    subst (λ (kind : Kind). IsFirstHole kind s k c.args.from c.args.size c.clear_lines.result) (sym lines)
    (first-lines s k c.line_words.result (λ line below. lines-read s c.line_words.result k line c.line_words.ensures.words below)
    c.args.from c.args.size (omega arith) kind c.clear_lines.result c.clear_lines.ensures)

pub returns-then-ne-2 : goal.returns-then-ne-2
returns-then-ne-2 g c = λ number base.
    let words = g.W.Words.words c.args.words.now in
    let l = c.args.layout.now in
    c.first_hole.ensures (state_over words l number base) c.args.block (c.view_in.ensures number base) (apart-anyway words l 0 0 number base c.args.block c.requires.apart)

pub returns-then-class-word : goal.returns-then-class-word
returns-then-class-word g c = λ number base.
    let s = state_over (g.W.Words.words c.args.words.now) c.args.layout.now number base in
    let k : ℕ = c.args.block in
    let word = c.block_word_in-word in
    let cells : c.args.fill ≡ kinds.Cells = differs_false the_type (search rules) c.args.fill kinds.Cells (sym c.if-ne-2.ensures) in
    let class : class_at s k ≡ word.result.class = (parts_of_code word.result (block_word s k) word.ensures.valid word.ensures.code).1 in
    subst (λ (kind : Kind). IsFirstHole kind s k c.args.from c.args.size None) (sym cells)
    (class-shown s k c.args.from c.args.size (λ same. let e : ◌≡◌ {A = Option ℕ} (Some c.in_ok-class.class) (Some word.result.class) = c.in_ok-class.ensures.class ∙ same ∙ ap (λ (n : ℕ). Some n) class in c.if-class-word.true (cc)))

pub returns-in_err-next : goal.returns-in_err-next
returns-in_err-next g c = λ number base.
    let words = g.W.Words.words c.args.words.now in
    let l = c.args.layout.now in
    let s = state_over words l number base in
    let cells : c.args.fill ≡ kinds.Cells = differs_false the_type (search rules) c.args.fill kinds.Cells (sym c.if-ne-2.ensures) in
    subst (IsFirstHole c.args.fill s c.args.block c.args.from c.args.size) (sym c.from_residual-in_err-next.ensures)
    (subst (λ (kind : Kind). IsFirstHole kind s c.args.block c.args.from c.args.size None) (sym cells) (no-part words l number base c.args.block c.args.from c.args.size c.in_err-next.ensures.cell))

pub returns : goal.returns
returns g c = λ number base.
    let words = g.W.Words.words c.args.words.now in
    let l = c.args.layout.now in
    let s = state_over words l number base in
    let read = state_over words l 0 0 in
    let k : ℕ = c.args.block in
    let at : ℕ = c.in_ok-next.next in
    let word = c.block_word_in-word in
    let same : word.result.kind ≡ c.args.fill = differs_false the_type (search rules) word.result.kind c.args.fill (sym c.if-ne.ensures) in
    let cells : c.args.fill ≡ kinds.Cells = differs_false the_type (search rules) c.args.fill kinds.Cells (sym c.if-ne-2.ensures) in
    let there = c.requires.block.block in
    let kind : HasKind read k kinds.Cells = subst (HasKind read k) (same ∙ cells) (kind-from read k word.result.kind there (kind-of-word read k word.result there word.ensures.valid word.ensures.code)) in
    let class : c.in_ok-class.class ≡ class_at read k = c.if-class-word.false ∙ sym (parts_of_code word.result (block_word read k) word.ensures.valid word.ensures.code).1 in
    let of_class : class_of c.args.size ≡ Some (class_at read k) = sym c.in_ok-class.ensures.class ∙ ap (λ (n : ℕ). Some n) class in
    let size : c.cell_size.result ≡ cell_words (class_at read k) = c.cell_size.ensures.words ∙ ap cell_words class in
    subst (λ (kind : Kind). IsFirstPart kind s k c.args.from c.args.size (record { next = at; end = at + c.cell_size.result })) (sym cells)
    (subst (λ (n : ℕ). IsFirstPart kinds.Cells s k c.args.from c.args.size (record { next = at; end = at + n })) (sym size)
    (next-part words l number base k c.args.from c.args.size kind of_class at c.in_ok-next.ensures.cell))
