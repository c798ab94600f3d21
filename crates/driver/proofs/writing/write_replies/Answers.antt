use Rattle.std.proofs.Common.{sym, ap, subst, arith, suc, ℕ, List, [], ◌∷◌, ◌++◌, drop, length}
use Rattle.std.proofs.lemmas.Grind.{common_steps}
use Rattle.std.proofs.lemmas.Iterator.Consumers.{YieldsList-from_first, YieldsList-so_far, YieldsList-turn, YieldsList-end}
use Rattle.trace_text.specs.Text.{mutator_text}
use Rattle.outside.proofs.Pieces.{on_err}
use Rattle.driver.proofs.Sending.{Sends, sends-line, sends-emptied, replies-split, prefix-of-lines, all-lines, all-prefix, on-ok, on-err}
use Rattle.driver.proofs.writing.write_replies.Goals as goal

pub returns-in_err-text-clause-prefix : goal.returns-in_err-text-clause-prefix
returns-in_err-text-clause-prefix g c =
    let all = c.args.replies.now.items in
    let ys = c.loop-reply.yielded in
    let r = c.in-Some.reply in
    let so_far = YieldsList-so_far (YieldsList-from_first (λ x. x) (λ s. s) all (cc)) ys _ c.loop-reply.yielded_by in
    let at = YieldsList-turn (YieldsList-from_first (λ x. x) (λ s. s) all (cc)) ys _ c.loop-reply.yielded_by _ _ r c.in-Some.is c.next.ensures.steps in
    let sent = sends-line _ _ c.args.mutator ys r _ _ c.loop-reply.invariant.sent c.put_reply.ensures.items in
    on_err _ _ (prefix-of-lines _ _ _ c.args.mutator all (ys ++ r ∷ []) (drop (suc (length ys)) all) _ sent (replies-split all ys r so_far at) c.in_err-text.ensures.prefix)

pub loop-reply-preserved-then-len-gt-FULL_BYTES : goal.loop-reply-preserved-then-len-gt-FULL_BYTES
loop-reply-preserved-then-len-gt-FULL_BYTES g c =
    let s = g.O.Sink in
    let ys = c.loop-reply.yielded in
    let r = c.in-Some.reply in
    let none = ap length c.in_ok-text.ensures.empty in
    let sent = sends-line _ _ c.args.mutator ys r _ _ c.loop-reply.invariant.sent c.put_reply.ensures.items in record {
      few = grind (arith, none, c.in_ok-text.text.ok);
      room = omega (arith, c.in_ok-text.ensures.capacity, c.put_reply.ensures.capacity, c.loop-reply.invariant.room);
      later = omega (arith, c.loop-reply.invariant.later, c.in_ok-text.ensures.later);
      sent = subst (λ (x : List ℕ). Sends (s.state c.args.out.now).written (s.state c.write_piece.new.out).written x (mutator_text c.args.mutator (ys ++ r ∷ []))) (sym c.in_ok-text.ensures.empty) (sends-emptied _ _ _ _ _ sent c.in_ok-text.ensures.ok);
    }

pub loop-reply-preserved : goal.loop-reply-preserved
loop-reply-preserved g c =
    let ys = c.loop-reply.yielded in
    let r = c.in-Some.reply in record {
      few = grind (arith, common_steps);
      room = omega (arith, c.put_reply.ensures.capacity, c.loop-reply.invariant.room);
      later = c.loop-reply.invariant.later;
      sent = sends-line _ _ c.args.mutator ys r _ _ c.loop-reply.invariant.sent c.put_reply.ensures.items;
    }

pub returns-clause-ok : goal.returns-clause-ok
returns-clause-ok g c =
    let all = c.args.replies.now.items in
    let ys = c.loop-reply.yielded in
    let end = YieldsList-end (YieldsList-from_first (λ x. x) (λ s. s) all (cc)) ys _ c.loop-reply.yielded_by _ _ c.in-None.is c.next.ensures.steps in
    on-ok _ _ _ (all-lines _ _ _ c.args.mutator all ys _ c.loop-reply.invariant.sent end.0) c.write_piece-2.ensures.ok

pub returns-clause-prefix : goal.returns-clause-prefix
returns-clause-prefix g c =
    let all = c.args.replies.now.items in
    let ys = c.loop-reply.yielded in
    let end = YieldsList-end (YieldsList-from_first (λ x. x) (λ s. s) all (cc)) ys _ c.loop-reply.yielded_by _ _ c.in-None.is c.next.ensures.steps in
    on-err _ _ _ (all-prefix _ _ _ c.args.mutator all ys _ c.loop-reply.invariant.sent end.0) c.write_piece-2.ensures.prefix
