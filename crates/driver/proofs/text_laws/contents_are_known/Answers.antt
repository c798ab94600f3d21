use Rattle.std.proofs.Common.{◌≡◌, ◌≤◌, refl, sym, ◌∙◌, ap, subst, ℕ, arith, true, false, List, [], ◌∷◌, length}
use Rattle.std.specs.Prelude.{Option, Some, IfSome, Ok, is_err}
use Rattle.ideal_heap.specs.declared.command.Command.{Command}
use Rattle.trace_text.specs.Grammar.{trace}
use Rattle.outside.specs.declared.reader.TheConstants.{MAX_FILE_BYTES}
use Rattle.made_trace.specs.Made.{made_trace}
use Rattle.driver.specs.Printed.{Content, IsTraceIn, IsLong, IsNoTrace}
use Rattle.driver.proofs.text_laws.contents_are_known.Goals as goal

fits : (bytes : List ℕ) → length bytes ≡ 16777216 → length bytes ≤ MAX_FILE_BYTES
fits bytes long = omega (arith, long)

trace-in : (content : Content) (file bytes : List ℕ) (cs : List Command) → content file ≡ Some bytes → length bytes ≡ 16777216 → trace bytes ≡ Ok cs → IsTraceIn (content file) cs
trace-in content file bytes cs known long is = subst (λ (o : Option (List ℕ)). IsTraceIn o cs) (sym known) (fits bytes long, is)

pub returns-clause-traces : goal.returns-clause-traces
returns-clause-traces c content a b first second cs ds knows_a knows_b long_a long_b is_a is_b = record {
  reported = ((first, knows_a), ((second, knows_b), tt));
  traces = cs ∷ ds ∷ [];
  read = (trace-in content a first cs knows_a long_a is_a, (trace-in content b second ds knows_b long_b is_b, tt));
}

pub returns-clause-made : goal.returns-clause-made
returns-clause-made c = record { reported = tt; traces = made_trace 40 ∷ []; read = refl }

pub returns-clause-long : goal.returns-clause-long
returns-clause-long c content a b more first second cs knows_a knows_b long_a is_a long_b =
    let above : IsLong second = omega (arith, long_b) in (
      1,
      record {
        file = b;
        is = refl;
        traces = cs ∷ [];
        good = (trace-in content a first cs knows_a long_a is_a, tt);
        content_is = subst (λ (o : Option (List ℕ)). IfSome o IsLong) (sym knows_b) above;
      },
      ((first, knows_a), ((second, knows_b), tt)),
    )

pub returns-clause-short : goal.returns-clause-short
returns-clause-short c bytes long above = omega (arith, long, above)

pub returns-clause-no_trace : goal.returns-clause-no_trace
returns-clause-no_trace c content a b bytes fault known long is = (
  0,
  record {
    file = a;
    is = refl;
    traces = [];
    good = tt;
    content_is = subst (λ (o : Option (List ℕ)). IfSome o IsNoTrace) (sym known) (fits bytes long, ap is_err is);
  },
  ((bytes, known), tt),
)

pub returns-clause-read : goal.returns-clause-read
returns-clause-read c bytes cs is bad =
    let wrong : false ≡ true = ap is_err (sym is) ∙ bad.1 in cc

pub returns-clause-too_long : goal.returns-clause-too_long
returns-clause-too_long c bytes long bad = omega (arith, long, bad.0)
