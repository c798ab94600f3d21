use Rattle.std.proofs.Common.{◌≡◌, ◌∙◌, sym, ap, true, rules}
use Rattle.std.specs.Prelude.{Some, is_some}
use Rattle.command_line.specs.Words.{Line, are_single, split_line, job_for, line_of_words}
use Rattle.command_line.specs.Orders.{line_in, texts}
use Rattle.command_line.proofs.Settings.{job_made, line_made}
use Rattle.command_line.proofs.words.read_words.Goals as goal

pub read_values-requires : goal.read_values-requires
read_values-requires c =
    let line : Line = line_in c.in-Some.parts in
    let is_split : split_line (texts c.args.words.now) ≡ Some line = search rules in
    let single : are_single line.settings ≡ true = search rules in
    ap is_some (line_made (texts c.args.words.now) line is_split single)

pub returns : goal.returns
returns c =
    let line : Line = line_in c.in-Some.parts in
    let is_split : split_line (texts c.args.words.now) ≡ Some line = search rules in
    let single : are_single line.settings ≡ true = search rules in
    let whole : line_of_words (texts c.args.words.now) ≡ Some line = line_made (texts c.args.words.now) line is_split single in
    c.order_of.ensures ∙ ap (λ v. job_for v line.files) (c.in_ok-found.ensures line whole) ∙ sym (job_made (texts c.args.words.now) line whole)
