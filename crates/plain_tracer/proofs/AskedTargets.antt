-- A root asks a tracer for an object that has its target.
use Rattle.std.proofs.Common.{◌≡◌, ℕ, ◌+◌, ◌<◌, IsTrue, List, [], ◌∷◌, ◌++◌, refl, sym, ap, ◌∙◌, subst, Some}
use Rattle.std.proofs.lemmas.List.{set-get_or}
use Rattle.trace_core.specs.Setups.{Setup, stays_old}
use Rattle.trace_core.specs.Machine.{Machine, Event, ByRoot, Ask, next, heap_in}
use Rattle.trace_core.specs.Traces.{machine_after, target_of}
use Rattle.trace_core.specs.Views.{View, Holds, asked_view}
use Rattle.plain_tracer.specs.Tracers.{Tracks, Claims, ClaimsRoot}
use Rattle.trace_core.specs.Rooms.{IsCopyRoom, StayWithoutRoom}
use Rattle.plain_tracer.specs.declared.plain_trace.PlainTrace.{PlainTrace}
use Rattle.plain_tracer.specs.declared.tokens.Claim as answers
use Rattle.plain_tracer.specs.declared.tokens.Claim.TheVariants as answer
use Rattle.trace_core.proofs.AppendedEvents.{machine-next, trace-next}
use Rattle.trace_core.proofs.BlocksLeft.{left-stays}
use Rattle.trace_core.proofs.AskRights.{holds-asked}

module _ (p : Setup) (es : List Event) (t : PlainTrace) (v : View) (tracks : Tracks p es t v) (x u : ℕ) (is : target_of p es x ≡ Some u) where
  abbrev was : Machine
  was = machine_after p es

  abbrev now : Machine
  now = next p was (Ask x)

  same-words : now.words ≡ was.words
  same-words = set-get_or was.words (x + 2) 0

  pub tracks-asked : Tracks p (es ++ Ask x ∷ []) t (asked_view x u v)
  tracks-asked =
      let same : machine_after p (es ++ Ask x ∷ []) ≡ now = machine-next p es tracks.trace (Ask x) in
      record {
        trace = trace-next p es tracks.trace (Ask x) (u, is);
        run = tracks.run;
        row = tracks.row ∙ ap (λ ws. record p.before { words = ws }) (sym same-words) ∙ ap (heap_in p) (sym same);
        holds = subst (λ n. Holds p n (asked_view x u v)) (sym same) (holds-asked p was v tracks.holds x u is);
        room = subst (λ n. IsCopyRoom p n v.blocks t.block t.room) (sym same) tracks.room;
        left = left-stays p was (machine_after p (es ++ Ask x ∷ [])) (ap (λ (n : Machine). n.owner) same) v.sparse v.sparse refl v.blocks tracks.left;
        stayed = subst (λ n. StayWithoutRoom p n t.room) (sym same) tracks.stayed;
        passed = λ c l free. subst (λ n. 0 < n.taken c) (sym same) (tracks.passed c l free);
        ahead = λ c some. tracks.ahead c (subst (λ n. 0 < n.taken c) same some);
      }

-- the answer to a claim, for a root
pub claims-root : (p : Setup) (es : List Event) (v : View) (old new : PlainTrace) (x : ℕ) (result : answers.Claim) (target-of-old : IsTrue (stays_old p x) → target_of p es x ≡ Some x)
    → Claims p es v old new x ByRoot result → ClaimsRoot p es v old new x result
claims-root p es v old new x answer.Old stays is = (is.0, tracks-asked p es new v is.1 x x (stays is.0))
claims-root p es v old new x (answer.Seen t) stays is = (is.0, is.1, tracks-asked p es new v is.2 x t is.1)
claims-root p es v old new x (answer.Won won) stays is = is
