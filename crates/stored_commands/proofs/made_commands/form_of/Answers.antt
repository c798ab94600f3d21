use Rattle.std.proofs.Common.{◌∙◌, ap, sym, ℕ, ◌-◌, ◌<◌, ◌≤◌, List, length, arith}
use Rattle.std.proofs.lemmas.List.{get_or_default}
use Rattle.stored_commands.specs.declared.form.Form.{Form}
use Rattle.stored_commands.specs.declared.form.Op.TheVariants.{Gc}
use Rattle.stored_commands.specs.Stretches.{narrow}
use Rattle.stored_commands.proofs.Stretches.{drawn-now, narrow-at, trace-at}
use Rattle.stored_commands.proofs.made_commands.form_of.Goals as goal

pub returns : goal.returns
returns c =
    let start : ℕ = c.args.stretch.now.start in
    let end : ℕ = c.args.stretch.now.end in
    let k : ℕ = c.args.k in
    let forms : List Form = c.args.stretch.now.drawn.items in
    let is = c.requires.stretch in
    let from : start ≤ k = omega (arith, c.if-k-stretch.false) in
    let to : k < end = omega (arith, c.if-stretch-k.false) in
    let room : k - start < length forms = omega (arith, from, to, is.few) in
    ap narrow (c.index.ensures ∙ get_or_default forms (k - start) c.index.result.now (record { op = Gc; a = 0; b = 0; c = 0 }) room)
    ∙ narrow-at c.args.stretch.now.count start end k forms is.drawn from to is.within

pub returns-then-k-stretch : goal.returns-then-k-stretch
returns-then-k-stretch c =
    drawn-now c.args.stretch.now.count c.args.k c.far_state.result c.form.new.self.state (narrow c.form.result) c.far_state.ensures c.form.ensures ∙ sym (trace-at c.args.stretch.now.count c.args.k c.requires.within)
