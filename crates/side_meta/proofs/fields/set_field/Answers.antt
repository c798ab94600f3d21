use Rattle.std.proofs.Common.{◌≡◌, ◌∙◌, ap, sym, subst}
use Rattle.side_meta.specs.Fields.{field_value, ChangesField}
use Rattle.side_meta.proofs.Changes.{put_field, put_is, read_back, changes}
use Rattle.side_meta.proofs.fields.set_field.Goals as goal

pub returns : goal.returns
returns g c =
    let ws = g.W.Words.words c.args.words.now in
    let s = c.args.spec.now in
    let put : g.W.Words.words c.set.new.self ≡ put_field ws s c.args.address c.args.value =
    c.set.ensures.words ∙ put_is ws s c.args.address c.args.value c.place-word.result.0 c.place-word.result.1 c.get.result c.ones.result
    (ap (λ p. p.0) c.place-word.ensures) (ap (λ p. p.1) c.place-word.ensures) c.get.ensures c.ones.ensures in
    record {
      field = ap (λ row. field_value row s c.args.address) put ∙ read_back ws s c.args.address c.args.value c.requires.word c.requires.value;
      alone = subst (λ row. ChangesField ws row s c.args.address) (sym put) (changes ws s c.args.address c.args.value c.requires.word c.requires.value);
      fit = c.set.ensures.fit;
    }
