use Rattle.std.proofs.Common.{◌≡◌, ◌+◌, ◌≤◌, [], ◌∷◌, ◌++◌, All, length, length-append, refl, sym, ap, ◌∙◌, subst, arith, append-nil, append_assoc}
use Rattle.std.proofs.lemmas.List.Elements.{All-nil, All-append, All-push}
use Rattle.std.proofs.lemmas.List.Sorted.{IsPermutation-refl}
use Rattle.std.specs.List.Sorted.{IsPermutation}
use Rattle.work_packets.specs.Packets.{HasItems}
use Rattle.work_packets.specs.declared.packet.Bucket.TheVariants as buckets
use Rattle.plain_tracer.specs.TokenRights.{IsReached}
use Rattle.plain_tracer.specs.Tracers.{TracerHolds}
use Rattle.plain_tracer.specs.declared.plain_trace.PlainTrace.{PlainTrace}
use Rattle.collector.specs.Serving.{AreShaped}
use Rattle.collector.specs.Items.{items_of, tokens_of, IsObject}
use Rattle.collector.proofs.HandedOn.{counts-none, counts-before, handed-length, items-more, one-packet-more, shaped-none, shaped-both}
use Rattle.collector.proofs.ItemCounts.{all-left}
use Rattle.collector.proofs.packet_tracer.PacketTracer.hand_on.Goals as goal

pub loop-self-smaller : goal.loop-self-smaller
loop-self-smaller c =
    let q = c.in_ok-packet.packet in
    let more = c.in_ok-packet.ensures.tokens.0 in
    let left = c.next_packet.new.self.won.items in
    let all : length c.loop-self.self.won.items ≡ length c.next_packet.new.self.won.items + length c.in_ok-packet.ensures.tokens.0 =
    ap length c.in_ok-packet.ensures.tokens.1 ∙ length-append left more in
    let some : 1 ≤ length c.in_ok-packet.packet.items.items = c.in_ok-packet.ensures.sizes.some in
    let as_many : length c.in_ok-packet.ensures.tokens.2 ≡ length c.in_ok-packet.packet.items.items =
    handed-length c.in_ok-packet.ensures.tokens.2 q.items.items c.in_ok-packet.ensures.objects c.in_ok-packet.ensures.tokens.4 in
    let same : length c.in_ok-packet.ensures.tokens.2 ≡ length c.in_ok-packet.ensures.tokens.0 = c.in_ok-packet.ensures.tokens.3.as_many in
    omega arith

pub loop-self-preserved : goal.loop-self-preserved
loop-self-preserved c =
    let invariant = c.loop-self.invariant in
    let q = c.in_ok-packet.packet in
    let by = c.in_ok-packet.ensures in
    let ps = c.loop-self.pushed.items in
    let more = c.in_ok-packet.ensures.tokens.0 in
    let handed = c.loop-self.invariant.tokens.0 in
    let left = c.next_packet.new.self.won.items in
    let pushed : c.push.new.self.items ≡ c.loop-self.pushed.items ++ c.in_ok-packet.packet ∷ [] = c.in_ok-push.ensures.items in
    let longer : length c.push.new.self.items ≡ length c.loop-self.pushed.items + 1 = ap length pushed ∙ length-append ps (q ∷ []) in
    let few : length c.loop-self.pushed.items ≤ length c.loop-self.invariant.tokens.0 = invariant.tokens.6 in
    let some : 1 ≤ length c.in_ok-packet.packet.items.items = by.sizes.some in
    let as_many : length c.in_ok-packet.ensures.tokens.2 ≡ length c.in_ok-packet.packet.items.items = handed-length by.tokens.2 q.items.items by.objects by.tokens.4 in
    let same : length c.in_ok-packet.ensures.tokens.2 ≡ length c.in_ok-packet.ensures.tokens.0 = by.tokens.3.as_many in
    let both : length (c.in_ok-packet.ensures.tokens.0 ++ c.loop-self.invariant.tokens.0)
    ≡ length c.in_ok-packet.ensures.tokens.0 + length c.loop-self.invariant.tokens.0 = length-append more handed in
    record {
      tokens = (
        more ++ handed,
        invariant.tokens.1 ∙ ap (λ ws. ws ++ handed) by.tokens.1 ∙ append_assoc left more handed,
        by.tokens.2 ++ invariant.tokens.2,
        shaped-both c.args.self.now.tracer more handed by.tokens.2 invariant.tokens.2
            (subst (λ t. AreShaped t c.in_ok-packet.ensures.tokens.0 c.in_ok-packet.ensures.tokens.2) invariant.tracer by.tokens.3) invariant.tokens.3,
        subst (λ qs. IsPermutation (c.in_ok-packet.ensures.tokens.2 ++ c.loop-self.invariant.tokens.2) (tokens_of (items_of qs))) (sym pushed)
            (one-packet-more by.tokens.2 invariant.tokens.2 ps q invariant.tokens.4 by.tokens.4),
        counts-before c.args.self.now.tally c.loop-self.self.tally c.next_packet.new.self.tally invariant.tokens.2 by.tokens.2 invariant.tokens.5 by.tokens.5,
        omega arith,
      );
      objects = subst (λ qs. All IsObject (items_of qs)) (sym pushed)
          (subst (All IsObject) (sym (items-more ps q)) (All-append IsObject (items_of ps) q.items.items invariant.objects by.objects));
      bucket = subst (All (λ q. q.bucket ≡ buckets.Closure)) (sym pushed) (All-push (λ q. q.bucket ≡ buckets.Closure) ps q invariant.bucket by.bucket);
      sizes = subst (All HasItems) (sym pushed) (All-push HasItems ps q invariant.sizes by.sizes);
      tracer = by.tracer ∙ invariant.tracer;
      roots = by.roots ∙ invariant.roots;
    }

pub loop-self-init : goal.loop-self-init
loop-self-init c = record {
  tokens = (
    [],
    sym (append-nil c.args.self.now.won.items),
    [],
    shaped-none c.args.self.now.tracer,
    subst (λ ps. IsPermutation [] (tokens_of (items_of ps))) (sym c.requires.none) (IsPermutation-refl []),
    counts-none c.args.self.now.tally c.known.ensures.kept c.known.ensures.moved c.known.ensures.words,
    (let none : length c.args.pushed.now.items ≡ 0 = ap length c.requires.none in omega arith),
  );
  objects = subst (λ ps. All IsObject (items_of ps)) (sym c.requires.none) (All-nil IsObject);
  bucket = subst (All (λ q. q.bucket ≡ buckets.Closure)) (sym c.requires.none) (All-nil (λ q. q.bucket ≡ buckets.Closure));
  sizes = subst (All HasItems) (sym c.requires.none) (All-nil HasItems);
  tracer = refl;
  roots = refl;
}

pub next_packet-requires-clause-tracing : goal.next_packet-requires-clause-tracing
next_packet-requires-clause-tracing c =
    let t = c.requires.tracing in
    let invariant = c.loop-self.invariant in
    subst (λ (tracer : PlainTrace). TracerHolds tracer (λ p es v. All (IsReached p v) c.loop-self.self.won.items)) (sym invariant.tracer) (record {
      setup = t.setup;
      events = t.events;
      view = t.view;
      tracks = t.tracks;
      right = all-left (IsReached t.setup t.view) c.loop-self.self.won.items invariant.tokens.0
          (subst (All (IsReached t.setup t.view)) invariant.tokens.1 t.right);
    })
