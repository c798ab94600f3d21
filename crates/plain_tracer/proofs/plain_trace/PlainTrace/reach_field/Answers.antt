use Rattle.std.proofs.Common.{map, ◌+◌, ◌<◌, ◌^◌, refl, arith}
use Rattle.plain_tracer.specs.TokenRights.{grey_of}
use Rattle.trace_core.specs.Machine.{ByField}
use Rattle.plain_tracer.proofs.ScanSteps.{low-reference, inside-again, field-inside, field-read, field-refers, field-asks, field-stays, scans-field}
use Rattle.plain_tracer.proofs.plain_trace.PlainTrace.reach_field.Goals as goal

pub get-reference-requires : goal.get-reference-requires
get-reference-requires c = let t = c.requires.tracing in
    let inside = field-inside t.setup t.events t.view c.args.self.now t.tracks c.args.grey.now c.args.field t.right.0 in omega arith

pub overflow_cast-reference : goal.overflow_cast-reference
overflow_cast-reference c = let t = c.requires.tracing in
    let low : c.get-reference.result < 2 ^ 32 = low-reference t.setup t.tracks.trace.ready c.get-reference.result
    (field-refers t.setup t.events t.view c.args.self.now t.tracks c.args.grey.now c.args.field t.right.0 c.get-reference.result c.get-reference.ensures) in omega arith

pub reach-last-requires-clause-tracing : goal.reach-last-requires-clause-tracing
reach-last-requires-clause-tracing c = let t = c.requires.tracing in record {
  setup = t.setup;
  events = t.events;
  view = t.view;
  tracks = t.tracks;
  right = (field-refers t.setup t.events t.view c.args.self.now t.tracks c.args.grey.now c.args.field t.right.0 c.get-reference.result c.get-reference.ensures, t.right.1);
}

pub store-requires : goal.store-requires
store-requires c = let t = c.requires.tracing in
    let n = c.get-reference.result in
    let k = c.args.field in
    let grey = c.args.grey.now in
    let by = c.reach-last.ensures.reaches t.setup t.events t.view (ByField grey.object k) t.tracks
    (field-refers t.setup t.events t.view c.args.self.now t.tracks grey k t.right.0 n c.get-reference.ensures) t.right.1 (λ asked. refl)
    (field-asks t.setup t.events t.view c.args.self.now t.tracks grey k t.right.0 n c.get-reference.ensures) in
    inside-again t.setup t.events t.view c.args.self.now t.tracks _ by.view c.reach-last.new.self by.grows.tracks (grey.target + 3 + k)
    (field-inside t.setup t.events t.view c.args.self.now t.tracks grey k t.right.0)

pub returns-then-last-reference-clause-scans : goal.returns-then-last-reference-clause-scans
returns-then-last-reference-clause-scans c p es v tracks next idle =
    let n = c.get-reference.result in
    let k = c.args.field in
    let grey = c.args.grey.now in
    let by = c.reach-last.ensures.reaches p es v (ByField grey.object k) tracks
    (field-refers p es v c.args.self.now tracks grey k next n c.get-reference.ensures) idle (λ asked. refl)
    (field-asks p es v c.args.self.now tracks grey k next n c.get-reference.ensures) in
    scans-field p es v c.reach-last.new.self c.store.new.self n c.reach-last.result (map (grey_of p) c.args.out.now.items) (map (grey_of p) c.reach-last.new.out.items) grey k next
    (field-read p es v c.args.self.now tracks grey k next n c.get-reference.ensures) by c.store.ensures

pub returns-else-last-reference-clause-scans : goal.returns-else-last-reference-clause-scans
returns-else-last-reference-clause-scans c p es v tracks next idle =
    let n = c.get-reference.result in
    let k = c.args.field in
    let grey = c.args.grey.now in
    let mid = c.reach-last.new.self in
    let by = c.reach-last.ensures.reaches p es v (ByField grey.object k) tracks
    (field-refers p es v c.args.self.now tracks grey k next n c.get-reference.ensures) idle (λ asked. refl)
    (field-asks p es v c.args.self.now tracks grey k next n c.get-reference.ensures) in
    let reads = field-read p es v c.args.self.now tracks grey k next n c.get-reference.ensures in
    scans-field p es v mid mid n c.reach-last.result (map (grey_of p) c.args.out.now.items) (map (grey_of p) c.reach-last.new.out.items) grey k next reads by
    (field-stays p es v mid mid n c.reach-last.result (map (grey_of p) c.args.out.now.items) (map (grey_of p) c.reach-last.new.out.items) grey k next reads by c.if-last-reference.false)
