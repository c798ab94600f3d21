use Rattle.std.proofs.Common.{◌≡◌, sym, ◌∙◌, arith, ◌<◌, length}
use Rattle.object_model.specs.Objects.{state_of, word_at}
use Rattle.plain_row.proofs.StopWord.{few-words, raised-goes, raised-ready, raised-before}
use Rattle.plain_row.proofs.row_steps.PlainRowMutatorSteps.raise_stop.Goals as goal

pub get-stop-requires : goal.get-stop-requires
get-stop-requires c = let many = few-words c.args.self.now c.requires.between_calls.some in omega arith

pub store-requires : goal.store-requires
store-requires c = let many = few-words c.args.self.now c.requires.between_calls.some in omega arith

pub returns-then-stop-eq0-clause-ready : goal.returns-then-stop-eq0-clause-ready
returns-then-stop-eq0-clause-ready c =
    let w = c.args.self.now in
    let many : 1 < length w.row.words = few-words w c.requires.between_calls.some in
    let none : word_at (state_of w.row) 0 ≡ 0 = sym c.get-stop.ensures ∙ c.if-stop-eq0.true in
    raised-ready w c.store.new.self c.number-number.result c.store.ensures c.requires c.number-number.ensures none

pub returns-then-stop-eq0-clause-goes : goal.returns-then-stop-eq0-clause-goes
returns-then-stop-eq0-clause-goes c =
    let w = c.args.self.now in
    let many : 1 < length w.row.words = few-words w c.requires.between_calls.some in
    let none : word_at (state_of w.row) 0 ≡ 0 = sym c.get-stop.ensures ∙ c.if-stop-eq0.true in
    raised-goes w c.store.new.self c.number-number.result c.store.ensures c.requires c.number-number.ensures none

pub returns-else-stop-eq0-clause-goes : goal.returns-else-stop-eq0-clause-goes
returns-else-stop-eq0-clause-goes c =
    let w = c.args.self.now in
    let many : 1 < length w.row.words = few-words w c.requires.between_calls.some in
    let same : c.get-stop.result ≡ word_at (state_of w.row) 0 = c.get-stop.ensures in
    raised-before w c.requires (λ none. c.if-stop-eq0.false (same ∙ none))
