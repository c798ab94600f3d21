use Rattle.std.proofs.Common.{◌+◌, ap, ◌∙◌, refl, replicate, None, length}
use Rattle.std.proofs.lemmas.List.{length_push}
use Rattle.ideal_heap.specs.Tables.{heap_of_tables}
use Rattle.ideal_heap.proofs.TableLemmas.{heap-blank, heap-empty}
use Rattle.ideal_heap.proofs.tables.Tables.new.Goals as goal

pub loop-init : goal.loop-init
loop-init c = record {
  blank = ap (λ l. heap_of_tables l (replicate 16 None)) c.in_ok-all.ensures.items ∙ heap-empty;
  count = ap length c.in_ok-all.ensures.items;
}

pub loop-preserved : goal.loop-preserved
loop-preserved c = record {
  blank = ap (λ l. heap_of_tables l (replicate 16 None)) c.in_ok-push.ensures.items ∙ heap-blank c.loop.all.items (replicate 16 None) _ refl c.new.ensures.items ∙ c.loop.invariant.blank;
  count = ap length c.in_ok-push.ensures.items ∙ length_push c.loop.all.items _ ∙ ap (λ n. n + 1) c.loop.invariant.count;
}
