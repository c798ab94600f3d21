use Rattle.std.proofs.Common.{All, sym, ap, subst}
use Rattle.plain_tracer.specs.TokenRights.{IsReached}
use Rattle.collector.proofs.packet_tracer.PacketTracer.next_packet.Goals as goal

pub fill-requires-clause-tracing : goal.fill-requires-clause-tracing
fill-requires-clause-tracing c = let t = c.requires.tracing in record {
  setup = t.setup;
  events = t.events;
  view = t.view;
  tracks = t.tracks;
  right = subst (All (IsReached t.setup t.view)) (sym (ap (λ ws. ws.items) c.replace-won.ensures.value)) t.right;
}
