use Rattle.std.proofs.Common.{◌≡◌, refl, ◌∙◌, ap, ℕ, arith, true, List, [], ◌∷◌, length}
use Rattle.std.proofs.lemmas.Bool.{and_parts}
use Rattle.object_model.specs.Objects.{HeapState}
use Rattle.object_model.specs.Heaps.{heap_state}
use Rattle.object_model.specs.Ages.{is_logged, ListsLogged}
use Rattle.object_model.specs.Times.{times, one_if}
use Rattle.sessions.specs.Plans.{Rules}
use Rattle.block_regions.specs.Notes.{NoneIsLogged}
use Rattle.world_tests.proofs.flag_tests.unflagged.Goals as goal

no-times : (xs : List ℕ) (a : ℕ) → length xs ≡ 0 → times a xs ≡ 0
no-times [] a none = refl
no-times (x ∷ xs) a none = absurd (let n = length xs in omega arith)

none-logged : (r : Rules) (s : HeapState) (xs : List ℕ) → ListsLogged s xs → length xs ≡ 0 → NoneIsLogged r s
none-logged r s xs lists none a logged =
    let is : is_logged s a ≡ true = (and_parts r.young (is_logged s a) logged).1 in
    let one : times a xs ≡ 1 = lists.all a ∙ ap one_if is in
    let zero : times a xs ≡ 0 = no-times xs a none in
    omega arith

pub returns-clause-notes : goal.returns-clause-notes
returns-clause-notes g c = c.in_ok-notes.ensures.notes g.P.Plan.rules.fill

pub returns-clause-flags : goal.returns-clause-flags
returns-clause-flags g c = c.in_ok-notes.ensures.flags g.P.Plan.rules
    (none-logged g.P.Plan.rules (heap_state c.args.heap.now) c.in_ok-found.found.items c.in_ok-found.ensures (omega (arith, c.len-count.ensures, c.in_ok-found.found.ok.0, c.if-count-ne0.false)))
