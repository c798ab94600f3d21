use Rattle.std.proofs.Common.{◌∙◌, ◌++◌, ◌∷◌, [], length, refl, sym, ap, subst}
use Rattle.std.specs.Prelude.{All}
use Rattle.std.proofs.lemmas.List.{get_or_read_under}
use Rattle.object_model.specs.Objects.{IsHeld}
use Rattle.trace_table.specs.Seats.{IsGrey, setup_at}
use Rattle.racing_collector.specs.Accounts.{Accounts}
use Rattle.racing_collector.proofs.Accounting.{accounts-served, served-nil, served-root}
use Rattle.racing_collector.proofs.racing.Racing.serve_root.Goals as goal

pub returns-then-root-eq0-clause-accounts : goal.returns-then-root-eq0-clause-accounts
returns-then-root-eq0-clause-accounts c greys was =
    let is = get_or_read_under c.args.self.now.roots.items c.args.place (length c.args.self.now.roots.items) c.index-root.result.now 0 c.index-root.ensures c.requires.place refl in
    accounts-served c.args.self.now c.args.seat.now.seat.me.0 c.args.served.now.items c.push_reserved.new.self.items (record { place = c.args.place; target = 0 }) (greys ++ c.reserve-2.new.self.items)
    (c.push_reserved.ensures.items ∙ ap (λ l. l ++ record { place = c.args.place; target = 0 } ∷ []) c.in_ok-reserve.ensures.items) (served-nil c.args.self.now c.args.seat.now.seat.me.0 c.args.place c.requires.place (sym is ∙ c.if-root-eq0.true))
    (subst (λ l. Accounts c.args.self.now c.args.seat.now.seat.me.0 c.args.served.now.items (greys ++ l)) (sym c.in_ok-reserve-2.ensures.items) was)

pub claim_root-target-requires-clause-held : goal.claim_root-target-requires-clause-held
claim_root-target-requires-clause-held c =
    let is = get_or_read_under c.args.self.now.roots.items c.args.place (length c.args.self.now.roots.items) c.index-root.result.now 0 c.index-root.ensures c.requires.place refl in
    subst (λ a. IsHeld (setup_at c.args.self.now.table).before a) (sym is) (c.requires.racer.roots c.args.place c.requires.place (λ nil. c.if-root-eq0.false (is ∙ nil)))

pub claim_root-target-requires-clause-greys : goal.claim_root-target-requires-clause-greys
claim_root-target-requires-clause-greys c = subst (All (IsGrey c.args.self.now.table)) (sym c.in_ok-reserve-2.ensures.items) c.requires.greys

pub claim_root-target-requires-clause-listed : goal.claim_root-target-requires-clause-listed
claim_root-target-requires-clause-listed c =
    let is = get_or_read_under c.args.self.now.roots.items c.args.place (length c.args.self.now.roots.items) c.index-root.result.now 0 c.index-root.ensures c.requires.place refl in
    (c.args.place, sym is)

pub returns-clause-accounts : goal.returns-clause-accounts
returns-clause-accounts c greys was =
    let is = get_or_read_under c.args.self.now.roots.items c.args.place (length c.args.self.now.roots.items) c.index-root.result.now 0 c.index-root.ensures c.requires.place refl in
    let e = c.claim_root-target.ensures in
    accounts-served c.args.self.now c.claim_root-target.new.seat.seat.me.0 c.args.served.now.items c.push_reserved-2.new.self.items (record { place = c.args.place; target = c.claim_root-target.result }) (greys ++ c.claim_root-target.new.won.items)
    (c.push_reserved-2.ensures.items ∙ ap (λ l. l ++ record { place = c.args.place; target = c.claim_root-target.result } ∷ []) c.in_ok-reserve.ensures.items)
    (served-root c.args.self.now c.claim_root-target.new.seat.seat.me.0 c.args.place c.claim_root-target.result c.index-root.result.now c.requires.place (sym is) e.target e.asked)
    (e.accounts greys c.args.served.now.items (subst (λ l. Accounts c.args.self.now c.args.seat.now.seat.me.0 c.args.served.now.items (greys ++ l)) (sym c.in_ok-reserve-2.ensures.items) was))
