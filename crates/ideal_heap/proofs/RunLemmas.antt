-- Runs by induction on their entries.
use Rattle.std.proofs.Common.{◌≡◌, refl, List, [], ◌∷◌, ◌++◌}
use Rattle.ideal_heap.specs.Ideal.{IdealHeap}
use Rattle.ideal_heap.specs.Runs.{Entry, IsRun, Answers, heap_after_run, after_entry}

pub after-append : (h : IdealHeap) (es more : List Entry) → heap_after_run h (es ++ more) ≡ heap_after_run (heap_after_run h es) more
after-append h [] more = refl
after-append h (e ∷ es) more = after-append (after_entry h e) es more

pub longer : (h : IdealHeap) (es more : List Entry) → IsRun h es → IsRun (heap_after_run h es) more → IsRun h (es ++ more)
longer h [] more run next = next
longer h (e ∷ es) more run next = (run.0, longer (after_entry h e) es more run.1 next)

pub prefix : (h : IdealHeap) (es more : List Entry) → IsRun h (es ++ more) → IsRun h es
prefix h [] more run = tt
prefix h (e ∷ es) more run = (run.0, prefix (after_entry h e) es more run.1)

pub rest : (h : IdealHeap) (es more : List Entry) → IsRun h (es ++ more) → IsRun (heap_after_run h es) more
rest h [] more run = run
rest h (e ∷ es) more run = rest (after_entry h e) es more run.1

-- one more entry
pub extended : (h : IdealHeap) (es : List Entry) (e : Entry) → IsRun h es → Answers (heap_after_run h es) e → IsRun h (es ++ e ∷ [])
extended h es e run answers = longer h es (e ∷ []) run (answers, tt)
