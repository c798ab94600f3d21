use Rattle.std.proofs.Common.{◌≡◌, sym, ◌∙◌, ap, subst, ℕ, List, [], ◌∷◌, ◌++◌}
use Rattle.std.specs.Prelude.{Option, Some, unwrap_or}
use Rattle.std.proofs.lemmas.List.{append_cancel_left}
use Rattle.ideal_heap.specs.declared.command.Command.{Command}
use Rattle.command_line.specs.Words.{Work}
use Rattle.outside.specs.Outside.{AppendsText, AppendsPrefix}
use Rattle.trace_text.specs.Text.{HasFullLine}
use Rattle.driver.specs.Printed.{AreTracesOf, IsWholeText}
use Rattle.driver.proofs.OneTrace.{one-trace, text-of-one}
use Rattle.driver.proofs.text_laws.printed_of_one_file.Goals as goal

pub returns-clause-whole : goal.returns-clause-whole
returns-clause-whole c content job before after file bytes old text cs work known is written p now none =
    let one = one-trace content file bytes p.traces cs known is (subst (λ (w : Work). AreTracesOf content w p.traces) work p.read) in
    let got : after.written ≡ Some (old ++ p.text) = subst (λ (o : Option (List ℕ)). AppendsText o after.written p.text) written p.written in
    let same : text ≡ p.text = append_cancel_left old text p.text (ap (λ o. unwrap_or o []) (sym now ∙ got)) in
    let printed : IsWholeText job (cs ∷ []) p.text = subst (λ (ts : List (List Command)). IsWholeText job ts p.text) one p.printed in
    let alone = text-of-one job file p.text cs work printed (λ a. none (subst HasFullLine (sym same) a)) in
    (alone.0, same ∙ alone.1)

pub returns-clause-front : goal.returns-clause-front
returns-clause-front c content job before after file bytes old cs work known is written p none =
    let one = one-trace content file bytes p.traces cs known is (subst (λ (w : Work). AreTracesOf content w p.traces) work p.read) in
    let got = subst (λ (o : Option (List ℕ)). AppendsPrefix o after.written p.text) written p.written in
    let printed : IsWholeText job (cs ∷ []) p.text = subst (λ (ts : List (List Command)). IsWholeText job ts p.text) one p.printed in
    let alone = text-of-one job file p.text cs work printed none in
    (p.risen, (alone.0, subst (λ (x : List ℕ). AppendsPrefix (Some old) after.written x) alone.1 got))
