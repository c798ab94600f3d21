use Rattle.std.proofs.Common.{Some, sym, subst}
use Rattle.std.specs.Prelude.{All}
use Rattle.std.proofs.lemmas.List.Elements.{All-pop}
use Rattle.trace_table.specs.declared.tokens.Grey.{Grey}
use Rattle.trace_table.specs.Seats.{IsGrey}
use Rattle.trace_tests.proofs.racing.race_scans.Goals as goal

pub scan_object-requires-clause-grey : goal.scan_object-requires-clause-grey
scan_object-requires-clause-grey c = (All-pop (IsGrey c.args.table.now) _ _ (Some c.in-Some.grey) c.in-Some.ensures.items c.loop-scanned.invariant.tokens).1

pub scan_object-requires-clause-tokens : goal.scan_object-requires-clause-tokens
scan_object-requires-clause-tokens c = let P : Grey → Type 0 = IsGrey c.args.table.now in
    subst (All P) (sym c.in_ok-reserve.ensures.items) (All-pop P _ _ (Some c.in-Some.grey) c.in-Some.ensures.items c.loop-scanned.invariant.tokens).0
