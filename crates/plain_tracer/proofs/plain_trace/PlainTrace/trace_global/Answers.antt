use Rattle.std.proofs.Common.{◌<◌, ◌^◌, refl, arith}
use Rattle.trace_core.specs.Machine.{ByGlobal}
use Rattle.trace_core.proofs.ScanRights.{unset-at}
use Rattle.plain_tracer.proofs.ScanSteps.{low-reference, inside-again, global-inside, global-read, global-refers, global-asks, global-stays, sets-global}
use Rattle.plain_tracer.proofs.plain_trace.PlainTrace.trace_global.Goals as goal

pub global_at-at-requires : goal.global_at-at-requires
global_at-at-requires c = let t = c.requires.tracing in (unset-at t.setup _ t.view t.tracks.holds c.args.root.global t.right).0

pub get-reference-requires : goal.get-reference-requires
get-reference-requires c = let t = c.requires.tracing in
    let inside = global-inside t.setup t.events t.view c.args.self.now t.tracks c.args.root.global c.global_at-at.result t.right
    c.global_at-at.ensures in omega arith

pub overflow_cast-reference : goal.overflow_cast-reference
overflow_cast-reference c = let t = c.requires.tracing in
    let low : c.get-reference.result < 2 ^ 32 = low-reference t.setup t.tracks.trace.ready c.get-reference.result
    (global-refers t.setup t.events t.view c.args.self.now t.tracks c.args.root.global c.global_at-at.result t.right
    c.global_at-at.ensures c.get-reference.result c.get-reference.ensures) in omega arith

pub follow-last-requires-clause-tracing : goal.follow-last-requires-clause-tracing
follow-last-requires-clause-tracing c = let t = c.requires.tracing in record {
  setup = t.setup;
  events = t.events;
  view = t.view;
  tracks = t.tracks;
  right = global-refers t.setup t.events t.view c.args.self.now t.tracks c.args.root.global c.global_at-at.result t.right c.global_at-at.ensures
      c.get-reference.result c.get-reference.ensures;
}

pub store-requires : goal.store-requires
store-requires c = let t = c.requires.tracing in
    let n = c.get-reference.result in
    let g = c.args.root.global in
    let i = c.global_at-at.result in
    let here = c.global_at-at.ensures in
    let by = c.follow-last.ensures.follows t.setup t.events t.view (ByGlobal g) t.tracks
    (global-refers t.setup t.events t.view c.args.self.now t.tracks g i t.right here n c.get-reference.ensures) (λ asked. refl)
    (global-asks t.setup t.events t.view c.args.self.now t.tracks g i t.right here n c.get-reference.ensures) in
    inside-again t.setup t.events t.view c.args.self.now t.tracks _ by.view c.follow-last.new.self by.grows.tracks i
    (global-inside t.setup t.events t.view c.args.self.now t.tracks g i t.right here)

pub returns-then-last-reference-clause-sets : goal.returns-then-last-reference-clause-sets
returns-then-last-reference-clause-sets c p es v tracks unset =
    let n = c.get-reference.result in
    let g = c.args.root.global in
    let i = c.global_at-at.result in
    let here = c.global_at-at.ensures in
    let by = c.follow-last.ensures.follows p es v (ByGlobal g) tracks
    (global-refers p es v c.args.self.now tracks g i unset here n c.get-reference.ensures) (λ asked. refl)
    (global-asks p es v c.args.self.now tracks g i unset here n c.get-reference.ensures) in
    sets-global p es v c.follow-last.new.self c.store.new.self n c.follow-last.result c.args.out.now.items c.follow-last.new.out.items g i unset here
    (global-read p es v c.args.self.now tracks g i unset here n c.get-reference.ensures) by c.store.ensures

pub returns-else-last-reference-clause-sets : goal.returns-else-last-reference-clause-sets
returns-else-last-reference-clause-sets c p es v tracks unset =
    let n = c.get-reference.result in
    let g = c.args.root.global in
    let i = c.global_at-at.result in
    let here = c.global_at-at.ensures in
    let mid = c.follow-last.new.self in
    let by = c.follow-last.ensures.follows p es v (ByGlobal g) tracks
    (global-refers p es v c.args.self.now tracks g i unset here n c.get-reference.ensures) (λ asked. refl)
    (global-asks p es v c.args.self.now tracks g i unset here n c.get-reference.ensures) in
    let reads = global-read p es v c.args.self.now tracks g i unset here n c.get-reference.ensures in
    sets-global p es v mid mid n c.follow-last.result c.args.out.now.items c.follow-last.new.out.items g i unset here reads by
    (global-stays p es v mid mid n c.follow-last.result c.args.out.now.items c.follow-last.new.out.items g i unset here reads by c.if-last-reference.false)
