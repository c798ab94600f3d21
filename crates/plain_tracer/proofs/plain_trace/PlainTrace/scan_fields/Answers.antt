use Rattle.std.proofs.Common.{◌≡◌, ◌+◌, ◌≤◌, false, vec_len, length, length-append, refl, ap, ◌∙◌, subst, arith}
use Rattle.plain_tracer.specs.Tracers.{ScansFields}
use Rattle.plain_tracer.proofs.FieldScans.{none-scanned, next-field, one-more}
use Rattle.plain_tracer.proofs.plain_trace.PlainTrace.scan_fields.Goals as goal

pub loop-field-init : goal.loop-field-init
loop-field-init c = record {
  scans = λ p es v tracks token. none-scanned p es v c.args.self.now c.args.grey.now c.args.out.now.items tracks;
  room = omega arith;
  capacity = refl;
  keeps = record { run = refl; globals = refl; logged = refl };
}

pub scan_field-requires-clause-tracing : goal.scan_field-requires-clause-tracing
scan_field-requires-clause-tracing c =
    let t = c.requires.tracing in
    let s = c.loop-field.invariant.scans t.setup t.events t.view t.tracks t.right in
    record {
      setup = t.setup;
      events = _;
      view = s.view;
      tracks = s.grows.tracks;
      right = next-field t.setup t.view s.view c.args.grey.now c.loop-field.field s.tokens.pushed s.scanned t.right c.loop-field-test.true;
    }

pub loop-field-preserved : goal.loop-field-preserved
loop-field-preserved c =
    let grey = c.args.grey.now in
    let k = c.loop-field.field in
    let less = c.loop-field-test.true in
    let t = c.requires.tracing in
    let s = c.loop-field.invariant.scans t.setup t.events t.view t.tracks t.right in
    let f = c.scan_field.ensures.scans t.setup _ s.view s.grows.tracks (next-field t.setup t.view s.view grey k s.tokens.pushed s.scanned t.right less) in
    let room : vec_len c.loop-field.out ≤ vec_len c.args.out.now + c.loop-field.field = c.loop-field.invariant.room in
    let few : length f.tokens.pushed ≤ 1 = f.tokens.few in
    let longer : length c.scan_field.new.out.items ≡ length c.loop-field.out.items + length f.tokens.pushed =
    ap length f.tokens.out ∙ length-append c.loop-field.out.items f.tokens.pushed in
    record {
      scans = λ p es v tracks token.
          (let before = c.loop-field.invariant.scans p es v tracks token in
          let next = next-field p v before.view grey k before.tokens.pushed before.scanned token less in
          one-more p es v c.loop-field.self c.scan_field.new.self grey k c.args.out.now.items c.loop-field.out.items
          c.scan_field.new.out.items before token next
          (c.scan_field.ensures.scans p _ before.view before.grows.tracks next));
      room = omega arith;
      capacity = c.scan_field.ensures.capacity ∙ c.loop-field.invariant.capacity;
      keeps = record { run = c.scan_field.ensures.keeps.run ∙ c.loop-field.invariant.keeps.run; globals = c.scan_field.ensures.keeps.globals ∙ c.loop-field.invariant.keeps.globals; logged = c.scan_field.ensures.keeps.logged ∙ c.loop-field.invariant.keeps.logged };
    }

pub returns-clause-scans : goal.returns-clause-scans
returns-clause-scans c p es v tracks token =
    let all : c.loop-field.field ≡ c.args.grey.now.refs = omega arith in
    subst (λ k. ScansFields p es v c.loop-field.self false c.args.grey.now k c.args.out.now.items c.loop-field.out.items) all
    (c.loop-field.invariant.scans p es v tracks token)

pub returns-clause-keeps : goal.returns-clause-keeps
returns-clause-keeps c = c.loop-field.invariant.keeps
