use Rattle.std.proofs.Common.{◌≡◌, true, false, sym, subst, arith, Some}
use Rattle.std.proofs.lemmas.List.Elements.{All-pop}
use Rattle.std.proofs.lemmas.Grind.{common_steps}
use denote.Enum.Bare.{same_true, same_false}
use Rattle.work_packets.specs.contracts.packet.Bucket.{the_type}
use Rattle.work_packets.specs.Buckets.{is_before, is_same, IsSameOrLater}
use Rattle.work_packets.proofs.BucketOrder.{same-itself, never-before-itself, not-same, then-later}
use Rattle.work_packets.proofs.Logs.{moves-over, stays-out}
use Rattle.work_packets.proofs.plain_split.sort_out.Goals as goal

pub loop-p-preserved-in-Continue-1 : goal.loop-p-preserved-in-Continue-1
loop-p-preserved-in-Continue-1 g c =
    let one : c.in-Some.p.bucket ≡ c.args.b = same_true the_type tt c.in-Some.p.bucket c.args.b (sym c.if-eq.ensures) in
    let is : is_same c.args.b c.in-Some.p.bucket ≡ true = subst (λ k. is_same c.args.b k ≡ true) (sym one) (same-itself c.args.b) in
    let not-after : is_before c.args.b c.in-Some.p.bucket ≡ false = subst (λ k. is_before c.args.b k ≡ false) (sym one) (never-before-itself c.args.b) in
    record {
      order = (All-pop (λ p. IsSameOrLater c.args.b p.bucket) _ _ (Some c.in-Some.p) c.in-Some.ensures.items c.loop-p.invariant.order).0;
      now = moves-over _ c.in-Some.p _ _ _ _ _ is c.in-Some.ensures.items c.in_ok-push.ensures.items c.loop-p.invariant.now;
      after = stays-out _ c.in-Some.p _ _ _ _ not-after c.in-Some.ensures.items c.loop-p.invariant.after;
      few = grind (arith, common_steps);
    }

pub loop-p-preserved : goal.loop-p-preserved
loop-p-preserved g c =
    let popped = All-pop (λ p. IsSameOrLater c.args.b p.bucket) _ _ (Some c.in-Some.p) c.in-Some.ensures.items c.loop-p.invariant.order in
    let other : c.args.b ≡ c.in-Some.p.bucket → ⊥ = λ e. same_false the_type c.in-Some.p.bucket c.args.b (sym c.if-eq.ensures) (sym e) in
    let is-not : is_same c.args.b c.in-Some.p.bucket ≡ false = not-same c.args.b c.in-Some.p.bucket other in
    let later : is_before c.args.b c.in-Some.p.bucket ≡ true = then-later c.args.b c.in-Some.p.bucket other popped.1 in
    record {
      order = popped.0;
      now = stays-out _ c.in-Some.p _ _ _ _ is-not c.in-Some.ensures.items c.loop-p.invariant.now;
      after = moves-over _ c.in-Some.p _ _ _ _ _ later c.in-Some.ensures.items c.in_ok-push-2.ensures.items c.loop-p.invariant.after;
      few = grind (arith, common_steps);
    }
