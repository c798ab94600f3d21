use Rattle.collector.proofs.collecting.trace_heap.Goals as goal

pub returns : goal.returns
returns g c = record {
  may = c.requires.may;
  same = c.in_ok-trace.ensures.run;
  traces = c.in_ok-trace.ensures.traces;
  turns = λ one. absurd (c.if-workers-eq1.false one);
}
