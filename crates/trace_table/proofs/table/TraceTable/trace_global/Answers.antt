use Rattle.std.proofs.Common.{◌≡◌, ℕ, ◌<◌, ◌∙◌, append-nil, refl, sym, ap, subst}
use Rattle.object_model.specs.Times.{times}
use Rattle.trace_words.specs.declared.share.Share.{Share}
use Rattle.trace_words.specs.Rule.{SeatShare}
use Rattle.trace_words.specs.Shares.{both_shares, global_token}
use Rattle.trace_table.specs.Seats.{setup_at}
use Rattle.trace_table.proofs.SeatShares.{share-is, seat-on}
use Rattle.trace_table.proofs.GlobalSets.{begins-setting, scans-set, room-taken, busy-taken, unmarked-global, times-here}
use Rattle.trace_table.proofs.table.TraceTable.trace_global.Goals as goal

pub settle_global-requires-clause-seat : goal.settle_global-requires-clause-seat
settle_global-requires-clause-seat c = let v : Share = c.args.seat.now.seat.me.0 in let i : ℕ = c.args.root.global in
    let is : c.take_in.new.seat.me.0 ≡ both_shares v (global_token i) = share-is _ _ c.take_in.ensures.share ∙ ap (λ (m : SeatShare). both_shares v m.0) c.requires.root.me in
    seat-on c.args.self.now c.args.seat.now _ c.requires.seat c.take_in.ensures.own refl refl refl (room-taken i v _ is)
    (λ b below. subst (λ l. 0 < times b l) (sym (busy-taken i v _ is)) (c.requires.seat.seen b below)) c.requires.seat.next

pub settle_global-requires-clause-setting : goal.settle_global-requires-clause-setting
settle_global-requires-clause-setting c = let v : Share = c.args.seat.now.seat.me.0 in let i : ℕ = c.args.root.global in
    begins-setting (setup_at c.args.self.now) i v _ c.requires.done (share-is _ _ c.take_in.ensures.share ∙ ap (λ (m : SeatShare). both_shares v m.0) c.requires.root.me)

pub returns-clause-scans : goal.returns-clause-scans
returns-clause-scans c = let v : Share = c.args.seat.now.seat.me.0 in let i : ℕ = c.args.root.global in
    scans-set (setup_at c.args.self.now) i v _ _ _ _ (share-is _ _ c.take_in.ensures.share ∙ ap (λ (m : SeatShare). both_shares v m.0) c.requires.root.me)
    c.settle_global.ensures.sets c.requires.done c.settle_global.ensures.done

pub returns-clause-set : goal.returns-clause-set
returns-clause-set c = let i : ℕ = c.args.root.global in
    subst (λ (u : Share). 0 < times i u.set) (sym c.settle_global.ensures.sets.set) (times-here i c.settle_global.ensures.sets.now.set)

pub returns-clause-grey : goal.returns-clause-grey
returns-clause-grey c = let v : Share = c.args.seat.now.seat.me.0 in let i : ℕ = c.args.root.global in
    c.settle_global.ensures.grey ∙ ap (λ (u : Share). u.grey) (share-is _ _ c.take_in.ensures.share ∙ ap (λ (m : SeatShare). both_shares v m.0) c.requires.root.me) ∙ append-nil v.grey

pub returns-clause-unmarked : goal.returns-clause-unmarked
returns-clause-unmarked c = let v : Share = c.args.seat.now.seat.me.0 in let i : ℕ = c.args.root.global in
    c.settle_global.ensures.unmarked ∙ unmarked-global i v _ (share-is _ _ c.take_in.ensures.share ∙ ap (λ (m : SeatShare). both_shares v m.0) c.requires.root.me)
