use Rattle.std.proofs.Common.{◌≡◌, ◌+◌, ap, ◌∙◌}
use Rattle.trace_core.specs.Setups.{size, refs}
use Rattle.plain_tracer.proofs.ObjectsRead.{readable, refs-read, nums-read}
use Rattle.plain_tracer.proofs.plain_trace.PlainTrace.with_shape.Goals as goal

pub shape_at-shape-requires : goal.shape_at-shape-requires
shape_at-shape-requires c = let r = c.requires in readable r.setup r.events c.args.self.now r.view r.tracks c.args.object r.right

pub returns : goal.returns
returns c = λ p es v tracks there.
    let x = c.args.object in
    let refs-are : c.shape_at-shape.result.refs ≡ refs p x = c.shape_at-shape.ensures.refs ∙ refs-read p es c.args.self.now v tracks x there in
    ap (λ n. record { object = x; target = c.args.target; size = n; refs = c.shape_at-shape.result.refs })
    (c.size_words.ensures ∙ ap (λ n. 3 + n + c.shape_at-shape.result.nums) refs-are
    ∙ ap (λ n. 3 + refs p x + n) (c.shape_at-shape.ensures.nums ∙ nums-read p es c.args.self.now v tracks x there))
    ∙ ap (λ n. record { object = x; target = c.args.target; size = size p x; refs = n }) refs-are
