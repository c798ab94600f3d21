use Rattle.std.proofs.Common.{◌≡◌, ◌∙◌, ap, sym, subst, ℕ, replicate}
use Rattle.heap_layout.specs.Zones.{row_words}
use Rattle.object_model.specs.Objects.{with_words, empty_heap}
use Rattle.object_model.specs.Lawful.{IsLawful}
use Rattle.object_model.proofs.Zeros.{lawful}
use Rattle.object_model.proofs.heap.Heap.new.Goals as goal

pub invariant_of-result : goal.invariant_of-result
invariant_of-result c =
    let blocks : ℕ = c.args.layout.blocks in
    let zeros : c.in_ok-words.words ≡ replicate (row_words blocks) 0 = c.in_ok-words.ensures ∙ ap (λ n. replicate n 0) c.words.ensures in
    record { lawful = subst (λ ws. IsLawful (with_words (empty_heap blocks) ws)) (sym zeros) (lawful blocks c.args.layout.least c.args.layout.most) }
