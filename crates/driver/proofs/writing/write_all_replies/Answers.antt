use Rattle.std.proofs.Common.{sym, subst, arith, ℕ, ◌+◌, ◌<◌, List, length}
use Rattle.ideal_heap.specs.declared.reply.Reply.{Reply}
use Rattle.ideal_heap.specs.Runs.{replies_of}
use Rattle.trace_text.specs.Text.{mutator_text}
use Rattle.outside.specs.Outside.{AppendsText, AppendsPrefix}
use Rattle.outside.proofs.Pieces.{on_err}
use Rattle.driver.specs.Texts.{replies_part}
use Rattle.driver.proofs.MutatorReplies.{replies-more}
use Rattle.driver.proofs.Sending.{appends-nothing, appends-more, prefix-of-replies}
use Rattle.driver.proofs.writing.write_all_replies.Goals as goal

pub loop-m-init : goal.loop-m-init
loop-m-init g c = record {
  empty = c.requires.empty;
  room = c.requires.room;
  later = omega arith;
  written = λ t last closes. appends-nothing (g.O.Sink.state c.args.out.now).written;
}

pub returns-in_err-piece-clause-prefix : goal.returns-in_err-piece-clause-prefix
returns-in_err-piece-clause-prefix g c t last closes =
    let s = g.O.Sink in
    let m : ℕ = c.loop-m.m in
    let n = c.mutators-m-end.ensures.traces t last closes in
    let lt : m < length t.traces = omega (arith, n, c.loop-m-test.true) in
    let added : AppendsPrefix (s.state c.loop-m.out).written (s.state c.write_replies.new.out).written (mutator_text (m + 1) (replies_of (m + 1) last.done)) =
    subst (λ (rs : List Reply). AppendsPrefix (s.state c.loop-m.out).written (s.state c.write_replies.new.out).written (mutator_text (m + 1) rs)) (c.replies.ensures.session t last closes) c.in_err-piece.ensures.prefix in
    on_err _ _ (prefix-of-replies last (length t.traces) m _ _ _ lt (c.loop-m.invariant.written t last closes) added)

pub loop-m-preserved : goal.loop-m-preserved
loop-m-preserved g c =
    let s = g.O.Sink in
    let m : ℕ = c.loop-m.m in record {
      empty = c.in_ok-piece.ensures.empty;
      room = c.in_ok-piece.ensures.room;
      later = omega (arith, c.loop-m.invariant.later, c.in_ok-piece.ensures.later);
      written = λ t last closes. subst (λ (l : List ℕ). AppendsText (s.state c.args.out.now).written (s.state c.write_replies.new.out).written l) (sym (replies-more last m))
          (appends-more _ _ _ (replies_part m last) _ (c.loop-m.invariant.written t last closes)
          (subst (λ (rs : List Reply). AppendsText (s.state c.loop-m.out).written (s.state c.write_replies.new.out).written (mutator_text (m + 1) rs)) (c.replies.ensures.session t last closes) c.in_ok-piece.ensures.ok));
    }
