use Rattle.std.proofs.Common.{◌≡◌, ◌+◌, ◌++◌, sym, subst}
use Rattle.std.specs.Prelude.{All, length}
use Rattle.trace_table.specs.Seats.{IsGrey}
use Rattle.racing_collector.specs.Accounts.{Accounts}
use Rattle.racing_collector.proofs.Accounting.{racer-on, accounts-pushed, copied-pushed, gave-pushed, lines-scanned}
use Rattle.racing_collector.proofs.racing.Racing.serve_object.Goals as goal

pub scan_object-requires-clause-tokens : goal.scan_object-requires-clause-tokens
scan_object-requires-clause-tokens c = subst (All (IsGrey c.args.self.now.table)) (sym c.in_ok-reserve.ensures.items) c.requires.greys

pub returns-clause-racer : goal.returns-clause-racer
returns-clause-racer c = racer-on c.args.self.now c.args.seat.now c.scan_object.new.seat c.requires.racer c.scan_object.ensures.seat c.scan_object.ensures.done c.scan_object.ensures.scans.pushes.keeps

pub returns-clause-gave : goal.returns-clause-gave
returns-clause-gave c = subst (λ l. c.scan_object.new.seat.seat.me.0.gave + length l ≡ c.args.seat.now.seat.me.0.gave + length c.scan_object.new.out.items) c.in_ok-reserve.ensures.items
    (gave-pushed c.args.self.now _ _ _ _ c.scan_object.ensures.scans.pushes)

pub returns-clause-copied : goal.returns-clause-copied
returns-clause-copied c = subst (λ l. length c.scan_object.new.seat.seat.me.0.copied + length l ≡ length c.args.seat.now.seat.me.0.copied + length c.scan_object.new.out.items) c.in_ok-reserve.ensures.items
    (copied-pushed c.args.self.now _ _ _ _ c.scan_object.ensures.scans.pushes)

pub returns-clause-accounts : goal.returns-clause-accounts
returns-clause-accounts c greys served was = let s = c.scan_object.ensures in
    accounts-pushed c.args.self.now c.args.seat.now.seat.me.0 c.scan_object.new.seat.seat.me.0 served greys c.reserve.new.self.items c.scan_object.new.out.items s.scans.pushes s.tokens
    (λ on. lines-scanned c.args.self.now c.args.grey c.args.seat.now.seat.me.0 c.scan_object.new.seat.seat.me.0 c.requires.item s.knows s.others (s.lines on))
    (subst (λ l. Accounts c.args.self.now c.args.seat.now.seat.me.0 served (greys ++ l)) (sym c.in_ok-reserve.ensures.items) was)
