use Rattle.std.proofs.Common.{ℕ, ◌≡◌, ◌≤◌, ◌/◌, ◌%◌, arith}
use Rattle.heap_layout.specs.Zones.{block_at}
use Rattle.heap_layout.specs.declared.block.Kind.TheVariants as kinds
use Rattle.object_model.specs.Objects.{block_word, size_at, blocks_for}
use Rattle.object_model.proofs.OneKind.{kind-code, kind-within, has_small-code}
use Rattle.object_model.proofs.laws.lawful_words.Goals as goal

pub returns-clause-owners : goal.returns-clause-owners
returns-clause-owners c s k lawful there = (let nobody : block_word s k / 65536 ≡ 0 = (lawful.but_lines.blocks k there).owner in omega arith)

pub returns-clause-large : goal.returns-clause-large
returns-clause-large c s a lawful holds large =
    let k : ℕ = block_at s.blocks a in
    let run = ((lawful.but_lines.order.objects.lies a holds).large large).run in
    let low : block_word s k % 256 ≡ 6 = kind-code s k kinds.LargeHead run.head in
    let class : block_word s k / 256 % 256 ≡ blocks_for (size_at s a) = run.class in
    let nobody : block_word s k / 65536 ≡ 0 = (lawful.but_lines.blocks k (kind-within s k kinds.LargeHead run.head)).owner in
    omega arith

pub returns-clause-free : goal.returns-clause-free
returns-clause-free c s k line lawful is small marked = (lawful.but_lines.free k is).lines line small marked

pub returns-clause-cells : goal.returns-clause-cells
returns-clause-cells c s a lawful holds small is = (((lawful.but_lines.order.objects.lies a holds).small small).cell is).within

pub returns-clause-kept : goal.returns-clause-kept
returns-clause-kept c s k is = has_small-code s k kinds.Kept is

pub returns-clause-base : goal.returns-clause-base
returns-clause-base c s lawful = (let b : s.base ≤ s.number = lawful.but_lines.order.row.base in omega arith)
