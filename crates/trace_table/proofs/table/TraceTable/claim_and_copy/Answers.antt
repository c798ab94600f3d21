use Rattle.std.proofs.Common.{◌∙◌, [], ◌∷◌, sym, subst}
use Rattle.std.specs.Prelude.{All}
use Rattle.std.proofs.lemmas.List.Elements.{All-nil, All-cons, All-append}
use Rattle.trace_words.specs.declared.share.Share.{Share}
use Rattle.trace_table.specs.declared.tokens.Claim.{Claim}
use Rattle.trace_table.specs.declared.tokens.Grey.{Grey}
use Rattle.trace_table.specs.Seats.{ClaimsFor, Follows, IsGrey, IsWon}
use Rattle.trace_table.proofs.SeatShares.{block-of-room, needed-on}
use Rattle.trace_table.proofs.FieldScans.{follows-known, follows-won, won-of}
use Rattle.trace_table.proofs.table.TraceTable.claim_and_copy.Goals as goal

pub returns-in-Old-clause-follows : goal.returns-in-Old-clause-follows
returns-in-Old-clause-follows g c = let v : Share = c.args.seat.now.seat.me.0 in let w : Share = c.claim_for.new.seat.seat.me.0 in
    let is = subst (λ (a : Claim). ClaimsFor g.C.About.setup g.C.About.object g.C.About.cause v w a) c.in-Old.is c.claim_for.ensures.claims in
    subst (λ t. Follows g.C.About.object t v w c.args.out.now.items c.args.out.now.items) (sym c.requires.about.1)
    (follows-known g.C.About.object g.C.About.object v w c.args.out.now.items c.requires.spent is.0 is.1)

pub returns-in-Seen-clause-follows : goal.returns-in-Seen-clause-follows
returns-in-Seen-clause-follows g c = let v : Share = c.args.seat.now.seat.me.0 in let w : Share = c.claim_for.new.seat.seat.me.0 in
    let is = subst (λ (a : Claim). ClaimsFor g.C.About.setup g.C.About.object g.C.About.cause v w a) c.in-Seen.is c.claim_for.ensures.claims in
    follows-known g.C.About.object _ v w c.args.out.now.items c.requires.spent is.0 is.1

pub copy-grey-requires-clause-won : goal.copy-grey-requires-clause-won
copy-grey-requires-clause-won g c = let v : Share = c.args.seat.now.seat.me.0 in let w : Share = c.claim_for.new.seat.seat.me.0 in
    let is = subst (λ (a : Claim). ClaimsFor g.C.About.setup g.C.About.object g.C.About.cause v w a) c.in-Won.is c.claim_for.ensures.claims in
    subst (λ q. IsWon q w c.in-Won.won) (sym c.requires.about.0) (won-of g.C.About.setup g.C.About.object g.C.About.cause v w _ is c.claim_for.ensures.seat.live)

pub returns-in-Won-clause-follows : goal.returns-in-Won-clause-follows
returns-in-Won-clause-follows g c = let v : Share = c.args.seat.now.seat.me.0 in let w : Share = c.claim_for.new.seat.seat.me.0 in
    let is = subst (λ (a : Claim). ClaimsFor g.C.About.setup g.C.About.object g.C.About.cause v w a) c.in-Won.is c.claim_for.ensures.claims in
    subst (λ t. Follows g.C.About.object t v c.copy-grey.new.seat.seat.me.0 c.args.out.now.items c.push_reserved.new.self.items) (sym (c.at-target.ensures ∙ c.copy-grey.ensures.object.1))
    (follows-won g.C.About.setup g.C.About.object g.C.About.cause c.requires.no_root v w _ _ c.args.out.now.items _ c.copy-grey.result is c.copy-grey.ensures.copies c.copy-grey.ensures.object.0 c.copy-grey.ensures.object.1 c.push_reserved.ensures.items)

pub returns-in-Won-clause-tokens : goal.returns-in-Won-clause-tokens
returns-in-Won-clause-tokens g c all = let P : Grey → Type 0 = IsGrey c.args.self.now in
    subst (All P) (sym c.push_reserved.ensures.items) (All-append P c.args.out.now.items (c.copy-grey.result ∷ []) all (All-cons P c.copy-grey.result [] c.copy-grey.ensures.grey (All-nil P)))

pub returns-in-Won-clause-block : goal.returns-in-Won-clause-block
returns-in-Won-clause-block g c = needed-on g.C.About.setup g.C.About.object c.args.seat.now.seat.me.0 c.claim_for.new.seat.seat.me.0 _ c.claim_for.ensures.block (block-of-room c.claim_for.new.seat.seat.me.0 _ c.copy-grey.ensures.copies.room)
