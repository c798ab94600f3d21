use Rattle.std.proofs.Common.{◌≡◌, ℕ, ◌≤◌, ◌+◌, ◌∙◌, refl, sym, ap, subst, arith, vec_len}
use Rattle.trace_core.specs.Setups.{Setup}
use Rattle.trace_words.specs.declared.share.Share.{Share}
use Rattle.trace_words.specs.Rule.{SeatShare}
use Rattle.trace_words.specs.Shares.{both_shares, scan_token}
use Rattle.trace_table.specs.Seats.{setup_at, IsScanning, ScansNoOther, Scans}
use Rattle.trace_table.proofs.SeatShares.{share-is, done-marked}
use Rattle.trace_table.proofs.Copyings.{seat-kept}
use Rattle.trace_table.proofs.FieldScans.{begins-scanning, scans-taken, scans-trans, ends-scanning, taken-room, taken-keeps, unmarked-taken, others-taken, others-none, others-trans}
use Rattle.trace_table.proofs.MarkedLines.{scans-marked}
use Rattle.trace_table.proofs.table.TraceTable.scan_object.Goals as goal

pub loop-k-init : goal.loop-k-init
loop-k-init c = let p : Setup = setup_at c.args.self.now in let x : ℕ = c.args.grey.object in let t : ℕ = c.args.grey.target in let v : Share = c.args.seat.now.seat.me.0 in
    let is : c.take_in.new.seat.me.0 ≡ both_shares v (scan_token x t) = share-is _ _ c.take_in.ensures.share ∙ ap (λ (m : SeatShare). both_shares v m.0) c.requires.grey.me in record {
      seat = seat-kept c.args.self.now c.args.seat.now _ c.requires.seat c.take_in.ensures.own refl refl refl refl (taken-room x t v _ is) (taken-keeps x t v _ is);
      scanning = subst (IsScanning p x t 0) (sym is) (begins-scanning p x t v c.requires.done);
      scans = subst (λ (u : Share). Scans 1 v u c.args.out.now.items c.args.out.now.items) (sym is) (scans-taken p x t v c.args.out.now.items);
      others = subst (ScansNoOther x v) (sym is) (others-taken x t v);
      unmarked = unmarked-taken x t v _ is;
      tokens = c.requires.tokens;
      room = omega arith;
      capacity = refl;
    }

pub loop-k-preserved : goal.loop-k-preserved
loop-k-preserved c = let room : vec_len c.loop-k.out ≤ vec_len c.args.out.now + c.loop-k.k = c.loop-k.invariant.room in let more : vec_len c.scan_field.new.out ≤ vec_len c.loop-k.out + 1 = c.scan_field.ensures.more in record {
  seat = c.scan_field.ensures.seat;
  scanning = c.scan_field.ensures.scanning;
  scans = scans-trans 1 _ _ _ _ _ _ c.loop-k.invariant.scans c.scan_field.ensures.scans;
  others = others-trans c.args.grey.object c.args.seat.now.seat.me.0 c.loop-k.seat.seat.me.0 c.scan_field.new.seat.seat.me.0 c.loop-k.invariant.others c.scan_field.ensures.others;
  unmarked = c.scan_field.ensures.unmarked ∙ c.loop-k.invariant.unmarked;
  tokens = c.scan_field.ensures.tokens c.loop-k.invariant.tokens;
  room = omega arith;
  capacity = c.scan_field.ensures.capacity ∙ c.loop-k.invariant.capacity;
}

pub returns-then-self-clause-done : goal.returns-then-self-clause-done
returns-then-self-clause-done c = let p : Setup = setup_at c.args.self.now in let last : c.loop-k.k ≡ c.args.grey.refs = omega arith in
    done-marked p c.loop-k.seat.seat.me.0 c.mark_object.new.seat.seat.me.0 (ends-scanning p c.args.grey.object c.args.grey.target c.loop-k.seat.seat.me.0
    (subst (λ n. IsScanning p c.args.grey.object c.args.grey.target n c.loop-k.seat.seat.me.0) (last ∙ c.requires.grey.refs) c.loop-k.invariant.scanning)) c.mark_object.ensures.marks

pub returns-then-self-clause-scans : goal.returns-then-self-clause-scans
returns-then-self-clause-scans c = scans-marked 1 _ _ _ _ _ c.loop-k.invariant.scans c.mark_object.ensures.marks

pub returns-else-self-clause-done : goal.returns-else-self-clause-done
returns-else-self-clause-done c = let p : Setup = setup_at c.args.self.now in let last : c.loop-k.k ≡ c.args.grey.refs = omega arith in
    ends-scanning p c.args.grey.object c.args.grey.target c.loop-k.seat.seat.me.0 (subst (λ n. IsScanning p c.args.grey.object c.args.grey.target n c.loop-k.seat.seat.me.0) (last ∙ c.requires.grey.refs) c.loop-k.invariant.scanning)

pub returns-then-self-clause-knows : goal.returns-then-self-clause-knows
returns-then-self-clause-knows c = c.mark_object.ensures.marks.keeps.known c.args.grey.object c.args.grey.target c.loop-k.invariant.scanning.target

pub returns-then-self-clause-others : goal.returns-then-self-clause-others
returns-then-self-clause-others c = others-trans c.args.grey.object c.args.seat.now.seat.me.0 c.loop-k.seat.seat.me.0 c.mark_object.new.seat.seat.me.0 c.loop-k.invariant.others (others-none c.args.grey.object c.loop-k.seat.seat.me.0 c.mark_object.new.seat.seat.me.0 c.mark_object.ensures.marks.grey)
