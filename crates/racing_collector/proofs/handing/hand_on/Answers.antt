use Rattle.std.proofs.Common.{◌≡◌, ◌+◌, ◌∙◌, ◌∷◌, ◌++◌, [], List, All, sym, ap, subst, arith, length, length-append}
use Rattle.std.proofs.lemmas.List.{nil_from_length}
use Rattle.std.proofs.lemmas.List.Elements.{All-nil, All-push}
use Rattle.work_packets.specs.Packets.{HasItems}
use Rattle.trace_table.specs.Seats.{IsGrey}
use Rattle.trace_table.specs.declared.tokens.Grey.{Grey}
use Rattle.racing_collector.specs.Items.{AreScans, IsCut, items_of, tokens}
use Rattle.racing_collector.proofs.Accounting.{all-left}
use Rattle.racing_collector.proofs.HandedOut.{sums-none, sums-next, sums-all, fewer-left, tokens-more}
use Rattle.racing_collector.proofs.handing.hand_on.Goals as goal

pub loop-first-init : goal.loop-first-init
loop-first-init c = record {
  sums = sums-none c.args.won.now.items c.args.tally.now c.known.ensures.kept c.known.ensures.moved c.known.ensures.words;
  greys = λ t all. all;
  scans = λ t all. subst (All (AreScans t)) (sym c.requires.none) (All-nil (AreScans t));
  all = (let a : length c.args.pushed.now.items ≡ 0 = ap length c.requires.none in let b : tokens (items_of c.args.pushed.now.items) ≡ 0 = ap (λ l. tokens (items_of l)) c.requires.none in omega arith);
  few = (let a : length c.args.pushed.now.items ≡ 0 = ap length c.requires.none in omega arith);
  sizes = subst (All HasItems) (sym c.requires.none) (All-nil HasItems);
  cut = subst (All IsCut) (sym c.requires.none) (All-nil IsCut);
}

pub loop-first-preserved : goal.loop-first-preserved
loop-first-preserved c = let is = c.loop-first.invariant in let parts = c.in_ok-packet.ensures.parts in
    let extra : List Grey = parts.0 in let rest : List Grey = c.next_packet.new.won.items in
    let popped : c.loop-first.won.items ≡ c.pop.new.self.items ++ c.in-Some.first ∷ [] = c.in-Some.ensures.items in
    let out : c.push.new.self.items ≡ c.loop-first.pushed.items ++ c.in_ok-packet.packet ∷ [] = c.in_ok-push.ensures.items in
    let longer : length c.push.new.self.items ≡ length c.loop-first.pushed.items + 1 = ap length out ∙ length-append c.loop-first.pushed.items (c.in_ok-packet.packet ∷ []) in
    let fewer : length c.loop-first.won.items ≡ length rest + (length parts.0 + 1) = fewer-left c.loop-first.won.items c.pop.new.self.items rest c.in-Some.first extra popped parts.1 in record {
      sums = sums-next c.args.won.now.items c.args.tally.now c.loop-first.tally c.next_packet.new.tally c.loop-first.won.items c.pop.new.self.items rest c.in-Some.first extra is.sums popped parts.1 parts.2;
      greys = λ t all. all-left (IsGrey t) rest extra (subst (All (IsGrey t)) parts.1 (all-left (IsGrey t) c.pop.new.self.items (c.in-Some.first ∷ []) (subst (All (IsGrey t)) popped (is.greys t all))));
      scans = λ t all. subst (All (AreScans t)) (sym out) (All-push (AreScans t) c.loop-first.pushed.items c.in_ok-packet.packet (is.scans t all) (c.in_ok-packet.ensures.scans t (subst (All (IsGrey t)) popped (is.greys t all))));
      all = (let a = is.all in let b = tokens-more c.loop-first.pushed.items c.push.new.self.items c.in_ok-packet.packet (length parts.0 + 1) out parts.3 in omega (arith, a, b, fewer));
      few = (let a = is.few in omega (arith, a, fewer, longer));
      sizes = subst (All HasItems) (sym out) (All-push HasItems c.loop-first.pushed.items c.in_ok-packet.packet is.sizes c.in_ok-packet.ensures.sizes);
      cut = subst (All IsCut) (sym out) (All-push IsCut c.loop-first.pushed.items c.in_ok-packet.packet is.cut c.in_ok-packet.ensures.cut);
    }

pub returns-clause-counts : goal.returns-clause-counts
returns-clause-counts c = sums-all c.args.won.now.items c.args.tally.now c.loop-first.tally c.loop-first.won.items
    (nil_from_length c.loop-first.won.items (omega (arith, c.loop-first.won.ok.0, c.in_default.ensures.cases.0))) c.loop-first.invariant.sums
