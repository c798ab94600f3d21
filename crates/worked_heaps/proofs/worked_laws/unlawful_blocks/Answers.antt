use Rattle.std.proofs.Common.{ℕ, ◌≡◌, refl, ◌^◌, ◌<◌, ◌≤◌, arith, true, false, [], ◌∷◌, lit<}
use Rattle.std.proofs.Math.Logic.{∥∥₁_elim}
use Rattle.heap_layout.specs.declared.block.Kind.TheVariants as kinds
use Rattle.object_model.specs.WorkedHeaps.{unowned, plain_object}
use Rattle.worked_heaps.specs.WorkedKinds.{three_free, small_heap, bump_with, with_word}
use Rattle.object_model.proofs.LawfulTests.{held-at, none-held-by}
use Rattle.worked_heaps.proofs.worked_laws.unlawful_blocks.Goals as goal

pub returns-clause-free_block : goal.returns-clause-free_block
returns-clause-free_block c l = (let e : false ≡ true = ((l.but_lines.order.objects.lies 4902 (held-at (bump_with (plain_object 1 0 1 [] 0 0 ∷ [])) 4902 refl)).small (lit< tt)).kind in cc)

pub returns-clause-tail : goal.returns-clause-tail
returns-clause-tail c l = (let e : false ≡ true = ((l.but_lines.order.objects.lies 5002 (held-at (small_heap (unowned kinds.LargeHead 2 ∷ unowned kinds.LargeTail 0 ∷ unowned kinds.Free 0 ∷ unowned kinds.Free 0 ∷ []) (plain_object 0 0 1 [] 4094 0 ∷ plain_object 1 100 2 [] 0 0 ∷ [])) 5002 refl)).small (lit< tt)).kind in cc)

pub returns-clause-cell_start : goal.returns-clause-cell_start
returns-clause-cell_start c l = (let n : ℕ = 4 in let e : n ≡ 0 = (((l.but_lines.order.objects.lies 810 (held-at (small_heap (three_free (unowned kinds.Cells 2)) (plain_object 0 4 1 [] 0 0 ∷ [])) 810 refl)).small (lit< tt)).cell refl).start in omega arith)

pub returns-clause-last_cell : goal.returns-clause-last_cell
returns-clause-last_cell c l = (let e : 4104 ≤ 4096 = (((l.but_lines.order.objects.lies 4886 (held-at (small_heap (three_free (unowned kinds.Cells 5)) (plain_object 0 4080 1 [] 0 0 ∷ [])) 4886 refl)).small (lit< tt)).cell refl).within in omega arith)

pub returns-clause-run_class : goal.returns-clause-run_class
returns-clause-run_class c l = (let n : ℕ = 3 in let e : n ≡ 2 = ((l.but_lines.order.objects.lies 806 (held-at (small_heap (unowned kinds.LargeHead 3 ∷ unowned kinds.LargeTail 0 ∷ unowned kinds.LargeTail 0 ∷ unowned kinds.Free 0 ∷ []) (plain_object 0 0 1 [] 4094 0 ∷ [])) 806 refl)).large (lit< tt)).run.class in omega arith)

pub returns-clause-run_start : goal.returns-clause-run_start
returns-clause-run_start c l = (let n : ℕ = 16 in let e : n ≡ 0 = ((l.but_lines.order.objects.lies 822 (held-at (small_heap (three_free (unowned kinds.LargeHead 1)) (plain_object 0 16 1 [] 2046 0 ∷ [])) 822 refl)).large (lit< tt)).start in omega arith)

pub returns-clause-run_end : goal.returns-clause-run_end
returns-clause-run_end c l = (let e : 5 ≤ 4 = ((l.but_lines.order.objects.lies 13094 (held-at (small_heap (unowned kinds.Free 0 ∷ unowned kinds.Free 0 ∷ unowned kinds.Free 0 ∷ unowned kinds.LargeHead 2 ∷ []) (plain_object 3 0 1 [] 4094 0 ∷ [])) 13094 refl)).large (lit< tt)).run.inside in omega arith)

pub returns-clause-no_object : goal.returns-clause-no_object
returns-clause-no_object c l = (let e : false ≡ true = (l.but_lines.order.objects.heads 0 refl).0.start in cc)

pub returns-clause-medium_run : goal.returns-clause-medium_run
returns-clause-medium_run c l = (let e : 2048 < 2048 = (l.but_lines.order.objects.heads 0 refl).1 in omega arith)

pub returns-clause-lone_tail : goal.returns-clause-lone_tail
returns-clause-lone_tail c l = (let e : false ≡ true = l.but_lines.order.objects.tails 1 refl in cc)

pub returns-clause-class : goal.returns-clause-class
returns-clause-class c l = (let e : false ≡ true = (l.but_lines.blocks 0 (lit< tt)).code in cc)

pub returns-clause-owner : goal.returns-clause-owner
returns-clause-owner c l = (let n : ℕ = 1 in let e : n ≡ 0 = (l.but_lines.blocks 3 (lit< tt)).owner in omega arith)

pub returns-clause-free_line : goal.returns-clause-free_line
returns-clause-free_line c l = ((l.but_lines.free 1 refl).lines 255 (lit< tt) refl)

pub returns-clause-marked_line : goal.returns-clause-marked_line
returns-clause-marked_line c l = ∥∥₁_elim ((l.lines 0).marked 255 refl (lit< tt) refl) (λ x. absurd x) (λ t. none-held-by (with_word (small_heap (three_free (unowned kinds.Immix 0)) []) 25 (2 ^ 63)) refl t.object t.held)

pub returns-clause-unmarked_line : goal.returns-clause-unmarked_line
returns-clause-unmarked_line c l = (let e : false ≡ true = (l.lines 0).touched 255 refl (lit< tt) (record { object = 4899; held = held-at (with_word (small_heap (three_free (unowned kinds.Immix 0)) (plain_object 0 4093 1 [] 0 0 ∷ [])) 25 0) 4899 refl; touches = record { from = lit< tt; below = lit< tt } }) in cc)
