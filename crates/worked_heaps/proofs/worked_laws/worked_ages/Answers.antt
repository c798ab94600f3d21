use Rattle.std.proofs.Common.{◌≡◌, refl, ◌^◌, ◌<◌, true, false, [], ◌∷◌, lit<, arith}
use Rattle.ideal_heap.specs.Names.{name}
use Rattle.object_model.specs.WorkedHeaps.{plain_object}
use Rattle.worked_heaps.specs.WorkedKinds.{kinds_heap, kinds_held, worked_object, bump_with, with_word}
use Rattle.object_model.proofs.LawfulTests.{held-at, remembers}
use Rattle.worked_heaps.proofs.worked_laws.worked_ages.Goals as goal

pub returns-clause-old : goal.returns-clause-old
returns-clause-old c = refl

pub returns-clause-old_from_one : goal.returns-clause-old_from_one
returns-clause-old_from_one c = refl

pub returns-clause-none_old : goal.returns-clause-none_old
returns-clause-none_old c = refl

pub returns-clause-logged : goal.returns-clause-logged
returns-clause-logged c = refl

pub returns-clause-survivors : goal.returns-clause-survivors
returns-clause-survivors c = refl

pub returns-clause-remembers : goal.returns-clause-remembers
returns-clause-remembers c = remembers kinds_heap kinds_held refl refl

pub returns-clause-forgets : goal.returns-clause-forgets
returns-clause-forgets c all =
    (let e : false ≡ true = (all.fields 816 1 (held-at (bump_with (plain_object 0 0 1 [] 0 0 ∷ worked_object 0 10 (name 1 2) (0 ∷ 806 ∷ []) [] 2 false true ∷ [])) 816 refl) refl refl (lit< tt) refl).1 in cc)

pub returns-clause-dangles : goal.returns-clause-dangles
returns-clause-dangles c all =
    (let e : false ≡ true = (all.fields 816 0 (held-at (bump_with (worked_object 0 0 (name 1 1) [] (2 ^ 25 ∷ []) 2 false false ∷ worked_object 0 10 (name 1 2) (807 ∷ []) [] 2 false true ∷ [])) 816 refl) refl refl (lit< tt) refl).0.start in cc)

pub returns-clause-unheld : goal.returns-clause-unheld
returns-clause-unheld c =
    remembers (with_word (bump_with (plain_object 0 0 1 [] 0 0 ∷ worked_object 0 10 (name 1 2) (0 ∷ 806 ∷ []) [] 2 false true ∷ [])) 38 0) [] refl refl

pub returns-clause-young_unlogged : goal.returns-clause-young_unlogged
returns-clause-young_unlogged c all =
    (let e : false ≡ true = all.marked 806 (held-at (bump_with (worked_object 0 0 (name 1 1) [] [] 1 false true ∷ [])) 806 refl) refl in cc)

pub returns-clause-old_logged : goal.returns-clause-old_logged
returns-clause-old_logged c =
    remembers (bump_with (plain_object 0 0 1 [] 0 0 ∷ worked_object 0 10 (name 1 2) (0 ∷ 806 ∷ []) [] 2 false false ∷ [])) (806 ∷ 816 ∷ []) refl refl

pub returns-clause-falling : goal.returns-clause-falling
returns-clause-falling c lists = (let wrong : 816 < 806 = lists.rising 0 1 (lit< tt) (lit< tt) in omega (arith, wrong))

pub returns-clause-twice : goal.returns-clause-twice
returns-clause-twice c lists = (let wrong : 2 ≡ 1 = lists.all 806 in omega (arith, wrong))
