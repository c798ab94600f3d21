use Rattle.std.proofs.Common.{◌∙◌}
use Rattle.trace_tests.proofs.roots.trace_registers.Goals as goal

pub loop-register-preserved : goal.loop-register-preserved
loop-register-preserved c p es v tracks are roots =
    let before = c.loop-register.invariant p es v tracks are roots in
    let next = c.in_ok-trace_register.ensures p before.events before.view before.tracks before.grey
    (roots c.loop-register.register-index c.loop-register-test.true) in
    record {
      events = next.events;
      view = next.view;
      tracks = next.tracks;
      unset = next.unset ∙ before.unset;
      grey = next.grey;
    }
