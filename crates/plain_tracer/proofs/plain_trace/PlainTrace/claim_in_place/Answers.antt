use Rattle.std.proofs.Common.{◌+◌, ◌<◌, refl, ap, ◌∙◌, arith, length, slice_set}
use Rattle.object_model.specs.Objects.{with_words, state_of}
use Rattle.plain_tracer.proofs.ObjectsRead.{word-within}
use Rattle.plain_tracer.proofs.ClaimedObjects.{tracks-in-place}
use Rattle.plain_tracer.proofs.plain_trace.PlainTrace.claim_in_place.Goals as goal
use Rattle.trace_core.proofs.ClaimRights.{may-stay}

pub set-requires : goal.set-requires
set-requires c =
    let r = c.requires in
    let within : c.args.x + 2 < length c.args.self.now.row.words = word-within r.setup r.events c.args.self.now r.view r.tracks c.args.x r.right 2 (omega arith) in omega arith

pub returns-clause-claims : goal.returns-clause-claims
returns-clause-claims c = λ p es v cause tracks there free reason asked.
    tracks-in-place p es c.args.self.now _ v tracks c.args.x c.args.x cause (may-stay p es c.args.x cause there free asked (λ moves. (reason moves).0))
    (ap (with_words (state_of c.args.self.now.row)) c.set.ensures.words
    ∙ ap (λ n. with_words (state_of c.args.self.now.row) (slice_set c.args.self.now.row.words (c.args.x + 2) n)) c.encode.ensures) refl refl refl refl refl (λ moves. (reason moves).1)
