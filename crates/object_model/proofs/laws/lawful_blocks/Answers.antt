use Rattle.std.proofs.Common.{ℕ, ◌≡◌, ◌<◌, ◌+◌, ◌*◌, arith}
use Rattle.std.proofs.Math.Logic.{∥∥₁_map}
use Rattle.std.proofs.Common.{◌&&◌, nat_lt, ◌∙◌, sym, length}
use Rattle.std.specs.List.{range_with_len}
use Rattle.std.proofs.lemmas.List.Folds.{Any-from_list_any}
use Rattle.std.proofs.lemmas.List.FromFn.{get_or-range_with_len, length-range_with_len}
use Rattle.std.proofs.lemmas.Bool.{and_parts, ltb-true}
use Rattle.heap_layout.specs.declared.block.Kind.TheVariants as kinds
use Rattle.object_model.specs.Objects.{has_kind, class_at, size_at}
use Rattle.object_model.proofs.Lines.{touched-word}
use Rattle.object_model.proofs.laws.lawful_blocks.Goals as goal

pub returns-clause-lines : goal.returns-clause-lines
returns-clause-lines c s k line lawful is small marked = ∥∥₁_map ((lawful.lines k).marked line is small marked) (λ t.
    let word = touched-word s.blocks t.object (size_at s t.object) (256 * k + line) t.held.address.from (omega arith) t.touches in
    (t.object, word.0, t.held, word.1, word.2))

pub returns-clause-tails : goal.returns-clause-tails
returns-clause-tails c s k lawful is =
    let some = Any-from_list_any (λ h. has_kind s h kinds.LargeHead && nat_lt k (h + class_at s h)) (range_with_len 0 k) (lawful.but_lines.order.objects.tails k is) in
    let i : ℕ = some.0 in
    let x : ℕ = some.1 in
    let few : i < length (range_with_len 0 k) = some.2 in
    let many : length (range_with_len 0 k) ≡ k = length-range_with_len 0 k in
    let e : x ≡ 0 + i = sym some.3 ∙ get_or-range_with_len 0 k i x (omega arith) in
    let both = and_parts (has_kind s x kinds.LargeHead) (nat_lt k (x + class_at s x)) some.4 in
    (x, omega arith, both.0, ltb-true k (x + class_at s x) both.1)
