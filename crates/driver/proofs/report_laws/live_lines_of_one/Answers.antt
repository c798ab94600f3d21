use Rattle.std.proofs.Common.{◌≡◌, sym, ◌∙◌, ap, subst, [], ◌++◌, append_assoc, append-nil}
use Rattle.ideal_heap.specs.Ideal.{empty}
use Rattle.ideal_heap.specs.Runs.{alone, replies_of}
use Rattle.trace_text.specs.Text.{mutator_text, HasFullLine}
use Rattle.sessions.proofs.Histories.{replies-same, replies-alone}
use Rattle.driver.specs.Texts.{live_line}
use Rattle.driver.proofs.OneTrace.{never-full}
use Rattle.driver.proofs.LiveNames.{ideal-alone, line-alone, lines-same}
use Rattle.driver.proofs.LiveLines.{first_lines, last_lines, text-parts, summaries-same}
use Rattle.driver.proofs.report_laws.live_lines_of_one.Goals as goal

pub returns-clause-ideal : goal.returns-clause-ideal
returns-clause-ideal c = ideal-alone

pub returns-clause-line : goal.returns-clause-line
returns-clause-line c = line-alone

pub returns-clause-same : goal.returns-clause-same
returns-clause-same c t u trace last end live left least most least' most' one one' whole whole' none none' are so = (
  ap (λ rs. mutator_text 1 rs ++ []) (replies-same t u trace last end one one' whole whole' none none'),
  lines-same t u trace last end live left least most least' most' one one' whole whole' none none' are so,
)

pub returns-clause-text : goal.returns-clause-text
returns-clause-text c t trace plan has_map last text names least most one whole is silent so =
    let replies = mutator_text 1 (replies_of 1 last.done) in
    let first = first_lines plan 1 last in
    let line = live_line last.heap is.live in
    let rest = last_lines has_map last is.live in
    let parts : text ≡ ((replies ++ first) ++ line) ++ rest =
    text-parts plan 1 has_map last text is ∙ ap (λ x. ((x ++ first) ++ line) ++ rest) (append-nil replies) in
    let joined : text ≡ replies ++ (first ++ (line ++ rest)) =
    parts ∙ append_assoc (replies ++ first) line rest ∙ append_assoc replies first (line ++ rest) in
    let none = never-full t trace last (first ++ (line ++ rest)) one whole (λ full. silent (subst HasFullLine (sym joined) full)) in (
      first,
      rest,
      parts
          ∙ ap (λ rs. ((mutator_text 1 rs ++ first) ++ line) ++ rest) (replies-alone t trace last one whole none)
          ∙ ap (λ l. ((mutator_text 1 (alone empty 1 trace) ++ first) ++ l) ++ rest) (line-alone t trace last is.live names least most one whole none is.are so),
    )

pub returns-clause-summary : goal.returns-clause-summary
returns-clause-summary c = summaries-same
