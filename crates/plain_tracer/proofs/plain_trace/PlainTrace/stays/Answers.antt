use Rattle.std.proofs.Common.{◌≡◌, ◌<◌, subst, arith, length, vec_len}
use Rattle.heap_layout.specs.Zones.{block_at}
use Rattle.plain_tracer.proofs.BeginningTracer.{straight}
use Rattle.plain_tracer.proofs.ObjectsRead.{from-within, may-move-from}
use Rattle.plain_tracer.proofs.plain_trace.PlainTrace.stays.Goals as goal

pub index-requires : goal.index-requires
index-requires c = let r = c.requires.tracing in
    let within : c.block_of.result < length c.args.self.now.run.from.items = from-within r.setup r.events c.args.self.now r.view r.tracks c.args.x r.right c.block_of.result (subst (λ b. c.block_of.result ≡ block_at b c.args.x) c.requires.layout c.block_of.ensures.block) in
    let many : vec_len c.args.self.now.run.from ≡ length c.args.self.now.run.from.items = c.args.self.now.run.from.ok.0 in omega arith

pub returns : goal.returns
returns c = λ kept p es v tracks held idle.
    let t = c.args.self.now in
    record {
      held = held;
      fixed = may-move-from p es t v tracks c.args.x held c.block_of.result c.index.result.now
          (subst (λ b. c.block_of.result ≡ block_at b c.args.x) c.requires.layout c.block_of.ensures.block) c.index.ensures (straight c.index.result.now kept);
      none_won = idle;
    }
