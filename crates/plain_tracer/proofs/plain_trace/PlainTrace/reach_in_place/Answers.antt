use Rattle.std.proofs.Common.{◌≡◌, ◌++◌, ◌∷◌, [], true≢false, map, sym, ◌∙◌, subst}
use Rattle.heap_layout.specs.Zones.{UnlogBits, first}
use Rattle.trace_core.specs.Machine.{ByRoot, Claim}
use Rattle.plain_tracer.specs.TokenRights.{grey_of}
use Rattle.trace_core.specs.Views.{claimed_view}
use Rattle.plain_tracer.proofs.ReachedTokens.{claimed-before, not-claimed, claimed-here, reached-here}
use Rattle.plain_tracer.proofs.TracedRows.{row-extent}
use Rattle.plain_tracer.proofs.plain_trace.PlainTrace.reach_in_place.Goals as goal

pub has_bit-claimed-requires-clause-extent : goal.has_bit-claimed-requires-clause-extent
has_bit-claimed-requires-clause-extent c = let r = c.requires.tracing in row-extent r.setup r.events c.args.self.now r.view r.tracks

pub returns-then-claimed-clause-reaches : goal.returns-then-claimed-clause-reaches
returns-then-claimed-clause-reaches c p es v cause tracks here unasked asked =
    claimed-before p es c.args.self.now v tracks c.args.x here c.unlog_base.result
    (subst (λ b. c.unlog_base.result ≡ first b UnlogBits) c.requires.layout c.unlog_base.ensures) c.has_bit-claimed.result c.has_bit-claimed.ensures
    cause (map (grey_of p) c.args.out.now.items) c.if-claimed.true c.requires.some

pub copy_in_place-requires-clause-tracing : goal.copy_in_place-requires-clause-tracing
copy_in_place-requires-clause-tracing c = let r = c.requires.tracing in record {
  setup = r.setup;
  events = r.events ++ Claim c.args.x c.args.x ByRoot ∷ [];
  view = claimed_view r.setup c.args.x c.args.x ByRoot r.view;
  tracks = c.claim_in_place.ensures.claims r.setup r.events r.view ByRoot r.tracks r.right.held
      (not-claimed r.setup r.events c.args.self.now r.view r.tracks c.args.x r.right c.unlog_base.result
      (subst (λ b. c.unlog_base.result ≡ first b UnlogBits) c.requires.layout c.unlog_base.ensures) c.has_bit-claimed.result c.has_bit-claimed.ensures c.if-claimed.false)
      (λ moves. absurd (true≢false (sym moves ∙ r.right.fixed))) tt;
  right = claimed-here r.setup _ r.view c.args.x ByRoot;
}

pub returns-clause-reaches : goal.returns-clause-reaches
returns-clause-reaches c p es v cause tracks here unasked asked =
    let x = c.args.x in
    let claimed = c.claim_in_place.ensures.claims p es v cause tracks here.held
    (not-claimed p es c.args.self.now v tracks x here c.unlog_base.result
    (subst (λ b. c.unlog_base.result ≡ first b UnlogBits) c.requires.layout c.unlog_base.ensures) c.has_bit-claimed.result c.has_bit-claimed.ensures c.if-claimed.false)
    (λ moves. absurd (true≢false (sym moves ∙ here.fixed))) asked in
    reached-here p es v c.claim_in_place.new.self c.copy_in_place.new.self x cause c.args.out.now.items c.push_reserved.new.self.items c.requires.some unasked
    (c.copy_in_place.ensures.copies p _ _ claimed (claimed-here p _ v x cause)) c.push_reserved.ensures.items
