use Rattle.std.proofs.Common.{All, sym, subst}
use Rattle.std.proofs.lemmas.List.Elements.{All-head, All-tail}
use Rattle.trace_table.specs.declared.tokens.GlobalRoot.{GlobalRoot}
use Rattle.trace_table.specs.declared.tokens.Grey.{Grey}
use Rattle.trace_table.specs.Seats.{IsGrey, IsGlobalRoot}
use Rattle.trace_tests.proofs.racing.race_globals.Goals as goal

pub loop-global-init : goal.loop-global-init
loop-global-init c = record {
  seat = c.requires.seat;
  done = c.requires.done;
  roots = subst (All (IsGlobalRoot c.args.table.now)) (sym c.into_iter-global-iterator.ensures.into_iter_gives.0) c.requires.globals;
  tokens = c.requires.tokens;
}

pub trace_global-requires-clause-root : goal.trace_global-requires-clause-root
trace_global-requires-clause-root c = let P : GlobalRoot → Type 0 = IsGlobalRoot c.args.table.now in
    All-head P c.in-Some.global _ (subst (All P) c.in-Some.ensures.steps.0 c.loop-global.invariant.roots)

pub trace_global-requires-clause-tokens : goal.trace_global-requires-clause-tokens
trace_global-requires-clause-tokens c = let P : Grey → Type 0 = IsGrey c.args.table.now in
    subst (All P) (sym c.in_ok-reserve.ensures.items) c.loop-global.invariant.tokens

pub loop-global-preserved : goal.loop-global-preserved
loop-global-preserved c = let P : GlobalRoot → Type 0 = IsGlobalRoot c.args.table.now in record {
  seat = c.trace_global.ensures.seat;
  done = c.trace_global.ensures.done;
  roots = All-tail P c.in-Some.global _ (subst (All P) c.in-Some.ensures.steps.0 c.loop-global.invariant.roots);
  tokens = c.trace_global.ensures.tokens;
}

pub returns-in_err-reserve-clause-tokens : goal.returns-in_err-reserve-clause-tokens
returns-in_err-reserve-clause-tokens c = let P : Grey → Type 0 = IsGrey c.args.table.now in
    subst (All P) (sym c.in_err-reserve.ensures.items) c.loop-global.invariant.tokens
