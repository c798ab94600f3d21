use Rattle.std.proofs.Common.{◌≡◌, ◌∙◌, sym, refl, ap, rules}
use Rattle.std.specs.Prelude.{Some}
use Rattle.heap_layout.specs.declared.block.BlockWord.{BlockWord}
use Rattle.racing_mutator.proofs.Looking.{step-loads}
use Rattle.racing_mutator.proofs.OwnWords.{IsWordFor, own-word, own-code}
use Rattle.racing_mutator.proofs.racing.Racing.own_class.Goals as goal

pub unwrap-requires : goal.unwrap-requires
unwrap-requires g c = c.decode.ensures.code.1 (own-code c.requires.mine.0 c.look-code.result
    (own-word g.P.Plan.rules c.args.self.now _ c.args.block c.requires.mine.0 c.look-code.result c.requires.ready.own.2 c.look-code.ensures.step c.requires.mine.1))

pub returns-clause-looks : goal.returns-clause-looks
returns-clause-looks g c = step-loads g.P.Plan.rules _ _ _ _ refl (search rules) (search rules) c.look-code.ensures.notes refl c.look-code.ensures.step c.requires.ready.own.2 c.look-code.ensures.registers refl refl refl

pub returns-clause-class : goal.returns-clause-class
returns-clause-class g c class mine =
    let is : IsWordFor class c.look-code.result = own-word g.P.Plan.rules c.args.self.now _ c.args.block class c.look-code.result c.requires.ready.own.2 c.look-code.ensures.step mine in
    let found : c.decode.result ≡ Some is.word = c.decode.ensures.back is.word is.valid is.code in
    let some : c.decode.result ≡ Some c.unwrap.result = search rules in
    let same : Some c.unwrap.result ≡ Some is.word = sym some ∙ found in
    let word : c.unwrap.result ≡ is.word = cc in
    ap (λ (w : BlockWord). w.class) word ∙ is.same
