use Rattle.std.proofs.Common.{◌+◌, ◌++◌, ◌∙◌, inr, sym, ap, subst, length}
use Rattle.std.specs.Prelude.{All}
use Rattle.std.proofs.lemmas.List.Elements.{All-push}
use Rattle.trace_core.specs.Machine.{ByRoot}
use Rattle.trace_core.specs.Setups.{Setup}
use Rattle.trace_words.specs.declared.share.Share.{Share}
use Rattle.trace_table.specs.Seats.{setup_at, ClaimsRoot, IsGrey}
use Rattle.trace_table.specs.declared.tokens.Claim.{Claim}
use Rattle.trace_table.specs.declared.tokens.Grey.{Grey}
use Rattle.trace_table.proofs.SeatShares.{done-asked}
use Rattle.trace_table.proofs.FieldScans.{won-of, done-copied}
use Rattle.racing_collector.specs.Accounts.{IsTargetOf}
use Rattle.racing_collector.proofs.Accounting.{racer-on, keeps-won, accounts-asked, accounts-won, asked-now, asked-won, known-won, held-some, copied-one, gave-one}
use Rattle.racing_collector.proofs.racing.Racing.claim_root.Goals as goal

pub returns-in-Old-clause-racer : goal.returns-in-Old-clause-racer
returns-in-Old-clause-racer c =
    let is = subst (λ (a : Claim). ClaimsRoot (setup_at c.args.self.now.table) c.args.root c.args.seat.now.seat.me.0 c.claim.new.seat.seat.me.0 a) c.in-Old.is c.claim.ensures.claims in
    racer-on c.args.self.now c.args.seat.now c.claim.new.seat c.requires.racer c.claim.ensures.seat (done-asked (setup_at c.args.self.now.table) c.args.root _ _ c.requires.racer.done is.0) is.0.keeps

pub returns-in-Old-clause-took : goal.returns-in-Old-clause-took
returns-in-Old-clause-took c =
    let is = subst (λ (a : Claim). ClaimsRoot (setup_at c.args.self.now.table) c.args.root c.args.seat.now.seat.me.0 c.claim.new.seat.seat.me.0 a) c.in-Old.is c.claim.ensures.claims in is.0.took

pub returns-in-Old-clause-gave : goal.returns-in-Old-clause-gave
returns-in-Old-clause-gave c =
    let is = subst (λ (a : Claim). ClaimsRoot (setup_at c.args.self.now.table) c.args.root c.args.seat.now.seat.me.0 c.claim.new.seat.seat.me.0 a) c.in-Old.is c.claim.ensures.claims in
    ap (λ n. n + length c.args.won.now.items) is.0.gave

pub returns-in-Old-clause-copied : goal.returns-in-Old-clause-copied
returns-in-Old-clause-copied c =
    let is = subst (λ (a : Claim). ClaimsRoot (setup_at c.args.self.now.table) c.args.root c.args.seat.now.seat.me.0 c.claim.new.seat.seat.me.0 a) c.in-Old.is c.claim.ensures.claims in
    ap (λ l. length l + length c.args.won.now.items) is.0.copied

pub returns-in-Old-clause-target : goal.returns-in-Old-clause-target
returns-in-Old-clause-target c =
    let is = subst (λ (a : Claim). ClaimsRoot (setup_at c.args.self.now.table) c.args.root c.args.seat.now.seat.me.0 c.claim.new.seat.seat.me.0 a) c.in-Old.is c.claim.ensures.claims in
    inr (held-some c.args.self.now c.args.root c.requires.held, is.1)

pub returns-in-Old-clause-asked : goal.returns-in-Old-clause-asked
returns-in-Old-clause-asked c =
    let is = subst (λ (a : Claim). ClaimsRoot (setup_at c.args.self.now.table) c.args.root c.args.seat.now.seat.me.0 c.claim.new.seat.seat.me.0 a) c.in-Old.is c.claim.ensures.claims in
    asked-now c.args.self.now c.args.root c.requires.listed _ _ is.0

pub returns-in-Old-clause-accounts : goal.returns-in-Old-clause-accounts
returns-in-Old-clause-accounts c greys served was =
    let is = subst (λ (a : Claim). ClaimsRoot (setup_at c.args.self.now.table) c.args.root c.args.seat.now.seat.me.0 c.claim.new.seat.seat.me.0 a) c.in-Old.is c.claim.ensures.claims in
    accounts-asked c.args.self.now c.args.root c.requires.listed _ _ served (greys ++ c.args.won.now.items) is.0 was

pub returns-in-Seen-clause-racer : goal.returns-in-Seen-clause-racer
returns-in-Seen-clause-racer c =
    let is = subst (λ (a : Claim). ClaimsRoot (setup_at c.args.self.now.table) c.args.root c.args.seat.now.seat.me.0 c.claim.new.seat.seat.me.0 a) c.in-Seen.is c.claim.ensures.claims in
    racer-on c.args.self.now c.args.seat.now c.claim.new.seat c.requires.racer c.claim.ensures.seat (done-asked (setup_at c.args.self.now.table) c.args.root _ _ c.requires.racer.done is.0) is.0.keeps

pub returns-in-Seen-clause-took : goal.returns-in-Seen-clause-took
returns-in-Seen-clause-took c =
    let is = subst (λ (a : Claim). ClaimsRoot (setup_at c.args.self.now.table) c.args.root c.args.seat.now.seat.me.0 c.claim.new.seat.seat.me.0 a) c.in-Seen.is c.claim.ensures.claims in is.0.took

pub returns-in-Seen-clause-gave : goal.returns-in-Seen-clause-gave
returns-in-Seen-clause-gave c =
    let is = subst (λ (a : Claim). ClaimsRoot (setup_at c.args.self.now.table) c.args.root c.args.seat.now.seat.me.0 c.claim.new.seat.seat.me.0 a) c.in-Seen.is c.claim.ensures.claims in
    ap (λ n. n + length c.args.won.now.items) is.0.gave

pub returns-in-Seen-clause-copied : goal.returns-in-Seen-clause-copied
returns-in-Seen-clause-copied c =
    let is = subst (λ (a : Claim). ClaimsRoot (setup_at c.args.self.now.table) c.args.root c.args.seat.now.seat.me.0 c.claim.new.seat.seat.me.0 a) c.in-Seen.is c.claim.ensures.claims in
    ap (λ l. length l + length c.args.won.now.items) is.0.copied

pub returns-in-Seen-clause-target : goal.returns-in-Seen-clause-target
returns-in-Seen-clause-target c =
    let is = subst (λ (a : Claim). ClaimsRoot (setup_at c.args.self.now.table) c.args.root c.args.seat.now.seat.me.0 c.claim.new.seat.seat.me.0 a) c.in-Seen.is c.claim.ensures.claims in
    inr (held-some c.args.self.now c.args.root c.requires.held, is.1)

pub returns-in-Seen-clause-asked : goal.returns-in-Seen-clause-asked
returns-in-Seen-clause-asked c =
    let is = subst (λ (a : Claim). ClaimsRoot (setup_at c.args.self.now.table) c.args.root c.args.seat.now.seat.me.0 c.claim.new.seat.seat.me.0 a) c.in-Seen.is c.claim.ensures.claims in
    asked-now c.args.self.now c.args.root c.requires.listed _ _ is.0

pub returns-in-Seen-clause-accounts : goal.returns-in-Seen-clause-accounts
returns-in-Seen-clause-accounts c greys served was =
    let is = subst (λ (a : Claim). ClaimsRoot (setup_at c.args.self.now.table) c.args.root c.args.seat.now.seat.me.0 c.claim.new.seat.seat.me.0 a) c.in-Seen.is c.claim.ensures.claims in
    accounts-asked c.args.self.now c.args.root c.requires.listed _ _ served (greys ++ c.args.won.now.items) is.0 was

pub copy-grey-requires-clause-won : goal.copy-grey-requires-clause-won
copy-grey-requires-clause-won c = let p : Setup = setup_at c.args.self.now.table in let v : Share = c.args.seat.now.seat.me.0 in let u : Share = c.claim.new.seat.seat.me.0 in
    let is = subst (λ (a : Claim). ClaimsRoot p c.args.root v u a) c.in-Won.is c.claim.ensures.claims in
    won-of p c.args.root ByRoot v u _ is c.claim.ensures.seat.live

pub returns-in-Won-clause-racer : goal.returns-in-Won-clause-racer
returns-in-Won-clause-racer c = let p : Setup = setup_at c.args.self.now.table in let v : Share = c.args.seat.now.seat.me.0 in let u : Share = c.claim.new.seat.seat.me.0 in
    let is = subst (λ (a : Claim). ClaimsRoot p c.args.root v u a) c.in-Won.is c.claim.ensures.claims in
    racer-on c.args.self.now c.args.seat.now c.copy-grey.new.seat c.requires.racer c.copy-grey.ensures.seat (done-copied p c.args.root _ v u c.copy-grey.new.seat.seat.me.0 _ c.requires.racer.done is c.copy-grey.ensures.copies)
    (keeps-won c.args.self.now c.args.root c.requires.listed v u c.copy-grey.new.seat.seat.me.0 c.in-Won.object is c.copy-grey.ensures.copies)

pub returns-in-Won-clause-took : goal.returns-in-Won-clause-took
returns-in-Won-clause-took c = let p : Setup = setup_at c.args.self.now.table in let v : Share = c.args.seat.now.seat.me.0 in let u : Share = c.claim.new.seat.seat.me.0 in
    let is = subst (λ (a : Claim). ClaimsRoot p c.args.root v u a) c.in-Won.is c.claim.ensures.claims in
    c.copy-grey.ensures.copies.took ∙ is.took

pub returns-in-Won-clause-gave : goal.returns-in-Won-clause-gave
returns-in-Won-clause-gave c = let p : Setup = setup_at c.args.self.now.table in let v : Share = c.args.seat.now.seat.me.0 in let u : Share = c.claim.new.seat.seat.me.0 in
    let is = subst (λ (a : Claim). ClaimsRoot p c.args.root v u a) c.in-Won.is c.claim.ensures.claims in
    gave-one c.args.self.now v u c.copy-grey.new.seat.seat.me.0 c.args.won.now.items c.push_reserved.new.self.items c.copy-grey.result is.gave c.copy-grey.ensures.copies.gave c.push_reserved.ensures.items

pub returns-in-Won-clause-copied : goal.returns-in-Won-clause-copied
returns-in-Won-clause-copied c =
    let is = subst (λ (a : Claim). ClaimsRoot (setup_at c.args.self.now.table) c.args.root c.args.seat.now.seat.me.0 c.claim.new.seat.seat.me.0 a) c.in-Won.is c.claim.ensures.claims in
    copied-one c.args.self.now c.args.seat.now.seat.me.0 c.claim.new.seat.seat.me.0 c.copy-grey.new.seat.seat.me.0 _ c.args.won.now.items c.push_reserved.new.self.items c.copy-grey.result is.copied c.copy-grey.ensures.copies.copied c.push_reserved.ensures.items

pub returns-in-Won-clause-target : goal.returns-in-Won-clause-target
returns-in-Won-clause-target c = let p : Setup = setup_at c.args.self.now.table in let v : Share = c.args.seat.now.seat.me.0 in let u : Share = c.claim.new.seat.seat.me.0 in
    let is = subst (λ (a : Claim). ClaimsRoot p c.args.root v u a) c.in-Won.is c.claim.ensures.claims in
    subst (IsTargetOf c.copy-grey.new.seat.seat.me.0 c.args.root) (sym (c.at-target.ensures ∙ c.copy-grey.ensures.object.1))
    (inr (held-some c.args.self.now c.args.root c.requires.held, known-won c.args.self.now c.args.root c.requires.listed v u c.copy-grey.new.seat.seat.me.0 c.in-Won.object is c.copy-grey.ensures.copies))

pub returns-in-Won-clause-asked : goal.returns-in-Won-clause-asked
returns-in-Won-clause-asked c = let p : Setup = setup_at c.args.self.now.table in let v : Share = c.args.seat.now.seat.me.0 in let u : Share = c.claim.new.seat.seat.me.0 in
    let is = subst (λ (a : Claim). ClaimsRoot p c.args.root v u a) c.in-Won.is c.claim.ensures.claims in
    asked-won c.args.self.now c.args.root c.requires.listed v u c.copy-grey.new.seat.seat.me.0 c.in-Won.object is c.copy-grey.ensures.copies

pub returns-in-Won-clause-greys : goal.returns-in-Won-clause-greys
returns-in-Won-clause-greys c = let P : Grey → Type 0 = IsGrey c.args.self.now.table in
    subst (All P) (sym c.push_reserved.ensures.items) (All-push P c.args.won.now.items c.copy-grey.result c.requires.greys c.copy-grey.ensures.grey)

pub returns-in-Won-clause-accounts : goal.returns-in-Won-clause-accounts
returns-in-Won-clause-accounts c greys served was = let p : Setup = setup_at c.args.self.now.table in let v : Share = c.args.seat.now.seat.me.0 in let u : Share = c.claim.new.seat.seat.me.0 in
    let is = subst (λ (a : Claim). ClaimsRoot p c.args.root v u a) c.in-Won.is c.claim.ensures.claims in
    accounts-won c.args.self.now c.args.root c.requires.listed v u c.copy-grey.new.seat.seat.me.0 c.in-Won.object is c.copy-grey.ensures.copies served greys c.args.won.now.items c.push_reserved.new.self.items c.copy-grey.result
    c.copy-grey.ensures.object.0 c.copy-grey.ensures.object.1 c.copy-grey.ensures.grey c.push_reserved.ensures.items was
