use Rattle.std.proofs.Common.{◌≡◌, ◌+◌, ◌≤◌, false, map, vec_len, refl, ◌∙◌, subst, arith}
use Rattle.plain_tracer.specs.TokenRights.{grey_of}
use Rattle.plain_tracer.specs.Tracers.{ScansFields}
use Rattle.plain_tracer.proofs.FieldScans.{none-scanned, next-field, one-more}
use Rattle.plain_tracer.proofs.plain_trace.PlainTrace.reach_each.Goals as goal

pub loop-field-init : goal.loop-field-init
loop-field-init c = record {
  scans = λ p es v tracks token idle. none-scanned p es v c.args.self.now c.args.grey.now (map (grey_of p) c.args.out.now.items) tracks;
  room = omega arith;
  capacity = refl;
  keeps = record { run = refl; globals = refl; logged = refl };
}

pub reach_field-requires-clause-tracing : goal.reach_field-requires-clause-tracing
reach_field-requires-clause-tracing c =
    let t = c.requires.tracing in
    let s = c.loop-field.invariant.scans t.setup t.events t.view t.tracks t.right.0 t.right.1 in
    record {
      setup = t.setup;
      events = _;
      view = s.view;
      tracks = s.grows.tracks;
      right = (next-field t.setup t.view s.view c.args.grey.now c.loop-field.field s.tokens.pushed s.scanned t.right.0 c.loop-field-test.true, s.scanned.won ∙ t.right.1);
    }

pub loop-field-preserved : goal.loop-field-preserved
loop-field-preserved c =
    let grey = c.args.grey.now in
    let k = c.loop-field.field in
    let less = c.loop-field-test.true in
    let room : vec_len c.loop-field.out ≤ vec_len c.args.out.now + c.loop-field.field = c.loop-field.invariant.room in
    let more : vec_len c.reach_field.new.out ≤ vec_len c.loop-field.out + 1 = c.reach_field.ensures.more in
    record {
      scans = λ p es v tracks token idle.
          (let before = c.loop-field.invariant.scans p es v tracks token idle in
          let next = next-field p v before.view grey k before.tokens.pushed before.scanned token less in
          one-more p es v c.loop-field.self c.reach_field.new.self grey k (map (grey_of p) c.args.out.now.items)
          (map (grey_of p) c.loop-field.out.items) (map (grey_of p) c.reach_field.new.out.items) before token next
          (c.reach_field.ensures.scans p _ before.view before.grows.tracks next (before.scanned.won ∙ idle)));
      room = omega arith;
      capacity = c.reach_field.ensures.capacity ∙ c.loop-field.invariant.capacity;
      keeps = record { run = c.reach_field.ensures.keeps.run ∙ c.loop-field.invariant.keeps.run; globals = c.reach_field.ensures.keeps.globals ∙ c.loop-field.invariant.keeps.globals; logged = c.reach_field.ensures.keeps.logged ∙ c.loop-field.invariant.keeps.logged };
    }

pub returns-clause-scans : goal.returns-clause-scans
returns-clause-scans c p es v tracks token idle =
    let all : c.loop-field.field ≡ c.args.grey.now.refs = omega arith in
    subst (λ k. ScansFields p es v c.loop-field.self false c.args.grey.now k (map (grey_of p) c.args.out.now.items) (map (grey_of p) c.loop-field.out.items)) all
    (c.loop-field.invariant.scans p es v tracks token idle)

pub returns-clause-keeps : goal.returns-clause-keeps
returns-clause-keeps c = c.loop-field.invariant.keeps
