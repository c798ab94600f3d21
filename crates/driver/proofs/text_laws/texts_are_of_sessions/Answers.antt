use Rattle.std.proofs.Common.{◌≡◌, refl, ◌∙◌, ap, ℕ, arith, List, [], ◌∷◌, ◌++◌, append-nil}
use Rattle.object_model.specs.Graphs.{IsReachable, roots_of}
use Rattle.ideal_heap.specs.Runs.{replies_of}
use Rattle.sessions.specs.Sessions.{Moment}
use Rattle.driver.specs.Texts.{AreLive, replies_part, report_part, map_part, summary_part}
use Rattle.driver.proofs.OneTrace.{text-of-one}
use Rattle.driver.proofs.LiveLists.{in-any}
use Rattle.driver.proofs.text_laws.texts_are_of_sessions.Goals as goal

-- where nothing is reachable, no object is listed
none-live : (last : Moment) (live : List ℕ) → ((a : ℕ) → IsReachable last.heap (roots_of last.mutators) a → ⊥) → AreLive last live → live ≡ []
none-live last [] none are = refl
none-live last (x ∷ xs) none are = absurd (none x ((are.all x).1 (in-any (x ∷ xs) x (grind arith))))

pub returns-clause-one : goal.returns-clause-one
returns-clause-one c = text-of-one

pub returns-clause-dead : goal.returns-clause-dead
returns-clause-dead c plan n last text none is =
    is.printed ∙ ap (λ live. replies_part n last ++ report_part plan n last live ++ map_part last live) (none-live last is.live none is.are)
    ∙ append-nil (replies_part n last ++ report_part plan n last [])

pub returns-clause-summary : goal.returns-clause-summary
returns-clause-summary c n last text none is =
    is.printed ∙ ap (λ live. summary_part n last.heap live (replies_of 1 last.done)) (none-live last is.live none is.are)
