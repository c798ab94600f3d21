use Rattle.std.proofs.Common.{sym, arith, ◌≡◌, ◌≤◌, ◌<◌, length}
use Rattle.object_model.specs.Objects.{state_of, word_at}
use Rattle.plain_row.proofs.StopWord.{few-words, stop-small}
use Rattle.plain_row.proofs.row_steps.PlainRowMutatorSteps.load_stop.Goals as goal

pub get-requires : goal.get-requires
get-requires c = let many = few-words c.args.self.now c.requires.between_calls.some in omega arith

pub overflow_cast-result : goal.overflow_cast-result
overflow_cast-result c =
    let w = c.args.self.now in
    let many : 1 < length w.row.words = few-words w c.requires.between_calls.some in
    let small : word_at (state_of w.row) 0 ≤ 16 = stop-small w c.requires.between_calls.some in
    let same : c.get.result ≡ word_at (state_of w.row) 0 = c.get.ensures in
    omega arith

pub returns-clause-stop : goal.returns-clause-stop
returns-clause-stop c =
    let w = c.args.self.now in
    let many : 1 < length w.row.words = few-words w c.requires.between_calls.some in
    sym c.get.ensures
