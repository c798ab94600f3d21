use Rattle.plain_tracer.proofs.ObjectsRead.{known-held}
use Rattle.plain_tracer.proofs.plain_trace.PlainTrace.grey.Goals as goal

pub with_shape-requires : goal.with_shape-requires
with_shape-requires c = let r = c.requires in record {
  setup = r.setup;
  events = r.events;
  view = r.view;
  tracks = r.tracks;
  right = known-held r.setup r.events c.args.self.now r.view r.tracks c.args.reached.object c.args.reached.target r.right.target;
}

pub returns : goal.returns
returns c = λ p es v tracks is.
    c.with_shape.ensures p es v tracks (known-held p es c.args.self.now v tracks c.args.reached.object c.args.reached.target is.target)
