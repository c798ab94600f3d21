use Rattle.std.proofs.Common.{◌≡◌, ℕ, ◌+◌, ◌<◌, sym, subst, ap, ◌∙◌, arith, length, List}
use Rattle.heap_layout.specs.Zones.{row_words}
use Rattle.object_model.specs.Objects.{HeapState}
use Rattle.object_model.specs.Ages.{is_old}
use Rattle.object_model.specs.Heaps.{heap_state}
use Rattle.object_model.proofs.ObjectReads.{in_words}
use Rattle.plan_api.proofs.ages.is_old.Goals as goal

pub is_old-requires-clause-word : goal.is_old-requires-clause-word
is_old-requires-clause-word c =
    let s : HeapState = heap_state c.args.heap.now in
    subst (λ (w : List ℕ). c.args.address + 2 < length w) (sym c.words.ensures) (in_words s c.args.heap.now.lawful.but_lines.order c.args.address 2 c.requires (omega arith))

pub is_old-requires-clause-index : goal.is_old-requires-clause-index
is_old-requires-clause-index c =
    let s : HeapState = heap_state c.args.heap.now in
    let row = c.args.heap.now.lawful.but_lines.order.row in
    let there : c.args.address + 2 < length s.words = in_words s c.args.heap.now.lawful.but_lines.order c.args.address 2 c.requires (omega arith) in
    let extent : length s.words ≡ row_words s.blocks = row.extent in
    let most = row.most in
    omega (arith, there, extent, most)

pub returns : goal.returns
returns c =
    let s : HeapState = heap_state c.args.heap.now in
    c.is_old.ensures c.args.heap.now.row.layout s.number
    ∙ ap (λ (w : List ℕ). is_old (record s { words = w; base = c.base.result }) c.args.address) c.words.ensures
    ∙ ap (λ (b : ℕ). is_old (record s { base = b }) c.args.address) c.base.ensures
