use Rattle.std.proofs.Common.{subst}
use Rattle.trace_core.specs.Machine.{ByRoot}
use Rattle.trace_table.specs.declared.tokens.Claim.{Claim}
use Rattle.trace_table.specs.Seats.{setup_at, ClaimsFor}
use Rattle.trace_table.proofs.SeatShares.{asks-after, block-of-room, needed-on}
use Rattle.trace_table.proofs.table.TraceTable.claim.Goals as goal

pub ask-requires-clause-knows : goal.ask-requires-clause-knows
ask-requires-clause-knows c =
    (subst (λ (a : Claim). ClaimsFor (setup_at c.args.self.now) c.args.x ByRoot c.args.seat.now.seat.me.0 c.claim_for.new.seat.seat.me.0 a) c.in-Old.is c.claim_for.ensures.claims).1

pub returns-in-Old-clause-claims : goal.returns-in-Old-clause-claims
returns-in-Old-clause-claims c =
    let is = subst (λ (a : Claim). ClaimsFor (setup_at c.args.self.now) c.args.x ByRoot c.args.seat.now.seat.me.0 c.claim_for.new.seat.seat.me.0 a) c.in-Old.is c.claim_for.ensures.claims in
    (asks-after c.args.x _ _ _ is.0 c.ask.ensures.asks, c.ask.ensures.asks.keeps.known c.args.x c.args.x is.1, is.2)

pub ask-requires-in-Seen-clause-knows : goal.ask-requires-in-Seen-clause-knows
ask-requires-in-Seen-clause-knows c =
    (subst (λ (a : Claim). ClaimsFor (setup_at c.args.self.now) c.args.x ByRoot c.args.seat.now.seat.me.0 c.claim_for.new.seat.seat.me.0 a) c.in-Seen.is c.claim_for.ensures.claims).1

pub returns-in-Seen-clause-claims : goal.returns-in-Seen-clause-claims
returns-in-Seen-clause-claims c =
    let is = subst (λ (a : Claim). ClaimsFor (setup_at c.args.self.now) c.args.x ByRoot c.args.seat.now.seat.me.0 c.claim_for.new.seat.seat.me.0 a) c.in-Seen.is c.claim_for.ensures.claims in
    (asks-after c.args.x _ _ _ is.0 c.ask-in-Seen.ensures.asks, c.ask-in-Seen.ensures.asks.keeps.known c.args.x _ is.1, is.2)

pub returns-in-Won-clause-claims : goal.returns-in-Won-clause-claims
returns-in-Won-clause-claims c =
    subst (λ (a : Claim). ClaimsFor (setup_at c.args.self.now) c.args.x ByRoot c.args.seat.now.seat.me.0 c.claim_for.new.seat.seat.me.0 a) c.in-Won.is c.claim_for.ensures.claims

pub returns-in-Old-clause-block : goal.returns-in-Old-clause-block
returns-in-Old-clause-block c = needed-on (setup_at c.args.self.now) c.args.x c.args.seat.now.seat.me.0 c.claim_for.new.seat.seat.me.0 _ c.claim_for.ensures.block (block-of-room c.claim_for.new.seat.seat.me.0 _ c.ask.ensures.room)

pub returns-in-Seen-clause-block : goal.returns-in-Seen-clause-block
returns-in-Seen-clause-block c = needed-on (setup_at c.args.self.now) c.args.x c.args.seat.now.seat.me.0 c.claim_for.new.seat.seat.me.0 _ c.claim_for.ensures.block (block-of-room c.claim_for.new.seat.seat.me.0 _ c.ask-in-Seen.ensures.room)
