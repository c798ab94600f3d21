use Rattle.std.proofs.Common.{sym, subst}
use Rattle.std.specs.Prelude.{All}
use Rattle.std.proofs.lemmas.List.Elements.{All-push}
use Rattle.trace_core.specs.Setups.{Setup}
use Rattle.trace_core.specs.Machine.{ByRoot}
use Rattle.trace_words.specs.declared.share.Share.{Share}
use Rattle.trace_table.specs.declared.tokens.Claim.{Claim}
use Rattle.trace_table.specs.declared.tokens.Grey.{Grey}
use Rattle.trace_table.specs.Seats.{setup_at, ClaimsRoot, IsGrey}
use Rattle.trace_table.proofs.SeatShares.{done-asked}
use Rattle.trace_table.proofs.FieldScans.{won-of, done-copied}
use Rattle.trace_tests.proofs.racing.race_register.Goals as goal

pub returns-in-Old-clause-done : goal.returns-in-Old-clause-done
returns-in-Old-clause-done c = let p : Setup = setup_at c.args.table.now in let v : Share = c.args.seat.now.seat.me.0 in let w : Share = c.claim.new.seat.seat.me.0 in
    let is = subst (λ (a : Claim). ClaimsRoot p c.args.register v w a) c.in-Old.is c.claim.ensures.claims in
    done-asked p c.args.register v w c.requires.done is.0

pub returns-in-Seen-clause-done : goal.returns-in-Seen-clause-done
returns-in-Seen-clause-done c = let p : Setup = setup_at c.args.table.now in let v : Share = c.args.seat.now.seat.me.0 in let w : Share = c.claim.new.seat.seat.me.0 in
    let is = subst (λ (a : Claim). ClaimsRoot p c.args.register v w a) c.in-Seen.is c.claim.ensures.claims in
    done-asked p c.args.register v w c.requires.done is.0

pub copy-grey-requires-clause-won : goal.copy-grey-requires-clause-won
copy-grey-requires-clause-won c = let p : Setup = setup_at c.args.table.now in let v : Share = c.args.seat.now.seat.me.0 in let w : Share = c.claim.new.seat.seat.me.0 in
    let is = subst (λ (a : Claim). ClaimsRoot p c.args.register v w a) c.in-Won.is c.claim.ensures.claims in
    won-of p c.args.register ByRoot v w _ is c.claim.ensures.seat.live

pub returns-in-Won-clause-done : goal.returns-in-Won-clause-done
returns-in-Won-clause-done c = let p : Setup = setup_at c.args.table.now in let v : Share = c.args.seat.now.seat.me.0 in let w : Share = c.claim.new.seat.seat.me.0 in
    let is = subst (λ (a : Claim). ClaimsRoot p c.args.register v w a) c.in-Won.is c.claim.ensures.claims in
    done-copied p c.args.register _ v w c.copy-grey.new.seat.seat.me.0 _ c.requires.done is c.copy-grey.ensures.copies

pub returns-in-Won-clause-tokens : goal.returns-in-Won-clause-tokens
returns-in-Won-clause-tokens c = let P : Grey → Type 0 = IsGrey c.args.table.now in
    subst (All P) (sym c.push_reserved.ensures.items) (All-push P c.reserve.new.self.items c.copy-grey.result (subst (All P) (sym c.in_ok-reserve.ensures.items) c.requires.tokens) c.copy-grey.ensures.grey)

pub returns-in-Old-clause-tokens : goal.returns-in-Old-clause-tokens
returns-in-Old-clause-tokens c = let P : Grey → Type 0 = IsGrey c.args.table.now in
    subst (All P) (sym c.in_ok-reserve.ensures.items) c.requires.tokens

pub returns-in-Seen-clause-tokens : goal.returns-in-Seen-clause-tokens
returns-in-Seen-clause-tokens c = let P : Grey → Type 0 = IsGrey c.args.table.now in
    subst (All P) (sym c.in_ok-reserve.ensures.items) c.requires.tokens
