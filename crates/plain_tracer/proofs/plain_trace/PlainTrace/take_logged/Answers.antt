use Rattle.std.proofs.Common.{map, ap, ◌∙◌, subst, All, sym}
use Rattle.trace_core.specs.Runs.{is_nursery}
use Rattle.plain_tracer.specs.declared.tokens.Grey.{Grey}
use Rattle.plain_tracer.specs.TokenRights.{IsGrey, logged_token}
use Rattle.plain_tracer.proofs.ListedObjects.{tokens-grey, token-objects, none-in-full}
use Rattle.plain_tracer.proofs.plain_trace.PlainTrace.take_logged.Goals as goal

pub returns-clause-first : goal.returns-clause-first
returns-clause-first c = λ untaken. let r = c.requires in
    ap (map (λ (g : Grey). g.object)) (c.in_ok-tokens.ensures r.setup r.events r.view r.tracks) ∙ token-objects r.setup c.args.self.now.run.logged.items

pub returns-clause-rights : goal.returns-clause-rights
returns-clause-rights c = λ p es v tracks has. subst (All (IsGrey p v)) (sym (c.in_ok-tokens.ensures p es v tracks)) (tokens-grey p es c.args.self.now v tracks has)

pub returns-clause-full : goal.returns-clause-full
returns-clause-full c = λ full. let r = c.requires in
    c.in_ok-tokens.ensures r.setup r.events r.view r.tracks
    ∙ ap (map (logged_token r.setup)) (none-in-full r.setup r.events c.args.self.now r.view r.tracks (ap is_nursery full))
