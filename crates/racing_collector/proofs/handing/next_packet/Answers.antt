use Rattle.std.proofs.Common.{◌≡◌, ◌+◌, ◌-◌, ◌<◌, ◌⊎◌, ◌∙◌, ◌∷◌, ◌++◌, [], inl, inr, ap, arith}
use Rattle.std.proofs.lemmas.Bool.{cases_lt}
use Rattle.racing_collector.specs.declared.item.RaceItem.TheVariants.{Object}
use Rattle.racing_collector.proofs.HandedOut.{HandsOut, hands-first, hands-next}
use Rattle.racing_collector.proofs.handing.next_packet.Goals as goal

pub loop-won-init : goal.loop-won-init
loop-won-init c =
    let h = hands-first c.args.won.now.items c.args.tally.now c.count.new.self c.args.first c.push_reserved.new.self.items c.saturating_sub-room.result
    (c.push_reserved.ensures.items ∙ ap (λ l. l ++ Object c.args.first ∷ []) c.in_ok-items.ensures.items)
    (record { kept = c.count.ensures.kept; moved = c.count.ensures.moved; words = c.count.ensures.words })
    (elim (cases_lt 512 c.args.first.refs) as (λ _. ((512 < c.args.first.refs) × (c.saturating_sub-room.result ≡ 0)) ⊎ (c.saturating_sub-room.result + c.args.first.refs ≡ 512)) [
      | inl big ↦ inl (big, omega (arith, big, c.refs.ensures, c.saturating_sub-room.ensures))
      | inr small ↦ inr (omega (arith, small, c.refs.ensures, c.saturating_sub-room.ensures))
    ]) in record {
      parts = (h.more, h.left, h.counts, h.tokens_is, h.count);
      scans = h.scans;
      few = h.few;
      cut = h.cut;
      space = (let a = c.push_reserved.ensures.capacity in let b = c.in_ok-items.ensures.capacity in omega (arith, a, b));
    }

pub loop-won-preserved : goal.loop-won-preserved
loop-won-preserved c = let is = c.loop-won.invariant in
    let was : HandsOut c.args.won.now.items c.args.tally.now c.args.first c.loop-won.won.items c.loop-won.tally c.loop-won.items.items c.loop-won.room = record {
      more = is.parts.0;
      left = is.parts.1;
      counts = is.parts.2;
      tokens_is = is.parts.3;
      count = is.parts.4;
      scans = is.scans;
      few = is.few;
      cut = is.cut;
    } in
    let h = hands-next c.args.won.now.items c.args.tally.now c.loop-won.tally c.count-in-loop-won.new.self c.args.first c.loop-won.won.items c.pop_fitting.new.won.items c.loop-won.items.items c.push_reserved-in-loop-won.new.self.items
    c.loop-won.room (c.loop-won.room - c.refs-room.result) c.in-Some.grey was c.in-Some.ensures.last c.push_reserved-in-loop-won.ensures.items
    (record { kept = c.count-in-loop-won.ensures.kept; moved = c.count-in-loop-won.ensures.moved; words = c.count-in-loop-won.ensures.words })
    (let a = c.in-Some.ensures.fits.0 in let b = c.refs-room.ensures in omega (arith, a, b)) c.in-Some.ensures.fits.1
    (let a = c.loop-won-test.true in let b = c.len.ensures in let d = c.loop-won.items.ok.0 in omega (arith, a, b, d)) in record {
      parts = (h.more, h.left, h.counts, h.tokens_is, h.count);
      scans = h.scans;
      few = h.few;
      cut = h.cut;
      space = (let a = c.push_reserved-in-loop-won.ensures.capacity in let b = is.space in omega (arith, a, b));
    }
