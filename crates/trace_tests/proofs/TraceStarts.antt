-- A trace begins with the roots and the globals of its heap.
use Rattle.std.proofs.Common.{◌≡◌, ℕ, List, [], ◌∷◌, map, slice_index, refl, sym, ap, ◌∙◌, subst, arith}
use Rattle.std.specs.List.{range_with_len}
use Rattle.std.specs.Prelude.{All}
use Rattle.std.proofs.lemmas.List.Elements.{All-weaker}
use Rattle.heap_layout.specs.declared.layout.TheConstants.{GLOBALS}
use Rattle.object_model.specs.Objects.{HeapState}
use Rattle.object_model.specs.Lawful.{IsLawfulButLines, AreRoots}
use Rattle.trace_core.specs.Setups.{Setup, was_logged}
use Rattle.trace_core.specs.Views.{View, hits, first_view}
use Rattle.object_model.specs.Times.{one_if, times}
use Rattle.plain_tracer.specs.TokenRights.{IsGrey, to_scan_in}
use Rattle.plain_tracer.specs.Tracers.{Tracks}
use Rattle.plain_tracer.specs.declared.plain_trace.PlainTrace.{PlainTrace}
use Rattle.trace_core.specs.Rights.{HoldsLogged}
use Rattle.trace_core.specs.Runs.{setup_of}
use Rattle.trace_core.proofs.Begun.{HasList, held-begun}
use Rattle.trace_core.proofs.FirstView.{first-logged}
use Rattle.trace_core.specs.declared.run.TraceRun.{TraceRun}
use Rattle.plain_tracer.specs.declared.tokens.Grey.{Grey}
use Rattle.plain_tracer.specs.declared.tokens.GlobalRoot.{GlobalRoot}
use Rattle.trace_tests.specs.Tokens.{IsOf, AreGrey, AreUnset}

-- the tokens of the logged objects
scanned-objects : (tokens : List Grey) → to_scan_in tokens ≡ map (λ x. (x, 0)) (map (λ (g : Grey). g.object) tokens)
scanned-objects [] = refl
scanned-objects (g ∷ tokens) = ap (λ l. (g.object, 0) ∷ l) (scanned-objects tokens)

module _ (p : Setup) (run : TraceRun) (t : PlainTrace) (tracks : Tracks p [] t (first_view run)) (same : t.run ≡ run) where
  listed : (x : ℕ) → times x run.logged.items ≡ one_if (was_logged p x)
  listed = subst (λ (r : TraceRun). (x : ℕ) → times x r.logged.items ≡ one_if (was_logged p x)) same tracks.run.logged

  pub holds-logged : HoldsLogged p (first_view run)
  holds-logged = first-logged p tracks.trace.ready run listed

  pub logged-grey : (tokens : List Grey) → map (λ (g : Grey). g.object) tokens ≡ run.logged.items → All (IsGrey p (first_view run)) tokens → AreGrey p (first_view run) tokens
  logged-grey tokens all each = record {
    rights = λ x k. (let same : hits x k (to_scan_in tokens) ≡ hits x k (first_view run).grey = ap (hits x k) (scanned-objects tokens ∙ ap (map (λ y. (y, 0))) all) in omega arith);
    each = All-weaker (IsGrey p (first_view run)) (IsOf p (first_view run)) (λ g is. record { target = is.target; size = is.size; refs = is.refs }) tokens each;
  }

-- the tokens of all globals
pub all-unset : (v : View) (run : TraceRun) (tokens : List GlobalRoot) → v.unset ≡ (first_view run).unset
    → map (λ token. token.global) tokens ≡ range_with_len 0 GLOBALS → AreUnset v tokens
all-unset v run tokens same all g =
    let e : times g (map (λ token. token.global) tokens) ≡ times g v.unset = ap (times g) (all ∙ sym same) in omega arith

-- roots stay roots as a trace begins
pub roots-begin : (s : HeapState) → IsLawfulButLines s → (run : TraceRun) → HasList s run → (registers now : List ℕ) → now ≡ registers → AreRoots s registers
    → AreRoots (setup_of s run 1).before now
roots-begin s lawful run lists registers now same roots = subst (AreRoots (setup_of s run 1).before) (sym same)
    (λ i. λ below some. held-begun s run lawful lists (slice_index registers i) (roots i below some))
