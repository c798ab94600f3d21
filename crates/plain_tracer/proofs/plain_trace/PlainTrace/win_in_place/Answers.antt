use Rattle.std.proofs.Common.{inl, refl, ◌∙◌}
use Rattle.trace_core.specs.Setups.{size}
use Rattle.plain_tracer.proofs.ClaimedObjects.{waiting-size}
use Rattle.plain_tracer.proofs.Claimed.{none-needed}
use Rattle.plain_tracer.proofs.plain_trace.PlainTrace.win_in_place.Goals as goal

pub claim_in_place-requires : goal.claim_in_place-requires
claim_in_place-requires c = let r = c.requires in record { setup = r.setup; events = r.events; view = r.view; tracks = r.tracks; right = r.right.held }

pub returns-clause-wins : goal.returns-clause-wins
returns-clause-wins c = λ p es v cause tracks waiting reason asked. record {
  unclaimed = waiting.unclaimed;
  object = refl;
  size = c.size_words.ensures ∙ waiting-size p es c.args.x c.args.shape.now waiting;
  refs = waiting.refs;
  place = inl (refl, refl);
  needed = none-needed p es c.args.self.now (size p c.args.x);
  tracks = c.claim_in_place.ensures.claims p es v cause tracks waiting.held waiting.unclaimed reason asked;
}
