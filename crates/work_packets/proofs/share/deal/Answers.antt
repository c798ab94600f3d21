use Rattle.std.proofs.Common.{rules, ◌≡◌, ◌⊎◌, ◌<◌, ◌+◌, ◌∙◌, ap, sym, refl, subst, length, length-set, set, get_or, [], arith}
use Rattle.std.specs.List.Sorted.{IsPermutation}
use Rattle.std.proofs.lemmas.List.{length-map}
use Rattle.std.proofs.lemmas.List.Sorted.{IsPermutation-refl, IsPermutation-push_more}
use Rattle.work_packets.specs.Shares.{packets_in, sizes, AreNumberedFrom}
use Rattle.work_packets.proofs.DealtPackets.{AreDealt, none-dealt, next-dealt, then-even}
use Rattle.work_packets.proofs.share.deal.Goals as goal

pub loop-p-init : goal.loop-p-init
loop-p-init g c =
    let e : length c.in_ok-shares.shares.items ≡ length c.args.workers.items = sym (length-map c.in_ok-shares.shares.items (λ s. s.worker)) ∙ ap length c.in_ok-shares.ensures.workers in
    record {
      workers = refl;
      numbers = refl;
      inside = omega arith;
      packets = subst (IsPermutation []) (sym c.in_ok-shares.ensures.none) (IsPermutation-refl []);
      dealt = (0, subst (AreDealt 0 0) (sym c.in_ok-shares.ensures.sizes) (none-dealt c.args.workers.items));
    }

pub loop-p-preserved : goal.loop-p-preserved
loop-p-preserved g c =
    let old = sizes c.loop-p.shares.items in let new = sizes c.give.new.shares.items in
    let count : c.len.result ≡ length c.give.new.shares.items = search rules in
    let one-more : new ≡ set old c.loop-p.i (get_or old c.loop-p.i 0 + 1) = c.in_ok-give.ensures.sizes in
    let as-many : length new ≡ length old = ap length one-more ∙ length-set old c.loop-p.i (get_or old c.loop-p.i 0 + 1) in
    let olds : length old ≡ length c.loop-p.shares.items = length-map c.loop-p.shares.items (λ s. length s.packets.items) in
    let news : length new ≡ length c.give.new.shares.items = length-map c.give.new.shares.items (λ s. length s.packets.items) in
    let before : c.loop-p.i < length c.loop-p.shares.items = c.loop-p.invariant.inside in
    let inside : c.loop-p.i < length old = omega arith in
    let after : c.following-i.result < c.len.result = c.following-i.ensures.inside in
    let counted : c.len.result ≡ length old = count ∙ sym news ∙ as-many in
    let d = c.loop-p.invariant.dealt in
    let more = next-dealt d.0 c.loop-p.i c.following-i.result old d.1 inside
    (subst (λ n. (c.following-i.result ≡ c.loop-p.i + 1) ⊎ ((c.following-i.result ≡ 0) × (c.loop-p.i + 1 ≡ n))) counted c.following-i.ensures.next) in
    record {
      workers = c.in_ok-give.ensures.workers ∙ c.loop-p.invariant.workers;
      numbers = c.in_ok-give.ensures.numbers ∙ c.loop-p.invariant.numbers;
      inside = omega arith;
      packets = IsPermutation-push_more c.loop-p.yielded (packets_in c.loop-p.shares.items) (packets_in c.give.new.shares.items) c.in-Some.p c.loop-p.invariant.packets c.in_ok-give.ensures.packets;
      dealt = (more.0, subst (AreDealt more.0 c.following-i.result) (sym one-more) more.1);
    }

pub returns-clause-even : goal.returns-clause-even
returns-clause-even g c = let h = c.loop-p.invariant.dealt in (h.0, then-even h.0 c.loop-p.i _ h.1)

pub returns-clause-numbers : goal.returns-clause-numbers
returns-clause-numbers g c = subst (AreNumberedFrom 1) (sym c.loop-p.invariant.numbers) c.in_ok-shares.ensures.numbers
