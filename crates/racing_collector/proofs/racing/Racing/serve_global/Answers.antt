use Rattle.std.proofs.Common.{◌≡◌, ◌+◌, ◌<◌, ◌++◌, inl, sym, subst}
use Rattle.std.specs.Prelude.{All, length}
use Rattle.trace_core.specs.Views.{hits}
use Rattle.trace_table.specs.Seats.{IsGrey}
use Rattle.racing_collector.specs.Accounts.{Accounts}
use Rattle.racing_collector.proofs.Accounting.{racer-on, accounts-pushed, copied-pushed, gave-pushed}
use Rattle.racing_collector.proofs.racing.Racing.serve_global.Goals as goal

pub trace_global-requires-clause-tokens : goal.trace_global-requires-clause-tokens
trace_global-requires-clause-tokens c = subst (All (IsGrey c.args.self.now.table)) (sym c.in_ok-reserve.ensures.items) c.requires.greys

pub returns-clause-racer : goal.returns-clause-racer
returns-clause-racer c = racer-on c.args.self.now c.args.seat.now c.trace_global.new.seat c.requires.racer c.trace_global.ensures.seat c.trace_global.ensures.done c.trace_global.ensures.scans.pushes.keeps

pub returns-clause-gave : goal.returns-clause-gave
returns-clause-gave c = subst (λ l. c.trace_global.new.seat.seat.me.0.gave + length l ≡ c.args.seat.now.seat.me.0.gave + length c.trace_global.new.out.items) c.in_ok-reserve.ensures.items
    (gave-pushed c.args.self.now _ _ _ _ c.trace_global.ensures.scans.pushes)

pub returns-clause-copied : goal.returns-clause-copied
returns-clause-copied c = subst (λ l. length c.trace_global.new.seat.seat.me.0.copied + length l ≡ length c.args.seat.now.seat.me.0.copied + length c.trace_global.new.out.items) c.in_ok-reserve.ensures.items
    (copied-pushed c.args.self.now _ _ _ _ c.trace_global.ensures.scans.pushes)

pub returns-clause-accounts : goal.returns-clause-accounts
returns-clause-accounts c greys served was = let s = c.trace_global.ensures in
    accounts-pushed c.args.self.now c.args.seat.now.seat.me.0 c.trace_global.new.seat.seat.me.0 served greys c.reserve.new.self.items c.trace_global.new.out.items s.scans.pushes s.tokens
    (λ on x k has. inl (subst (λ l. 0 < hits x k l) s.grey has))
    (subst (λ l. Accounts c.args.self.now c.args.seat.now.seat.me.0 served (greys ++ l)) (sym c.in_ok-reserve.ensures.items) was)
