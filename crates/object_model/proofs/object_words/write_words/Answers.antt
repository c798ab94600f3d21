use Rattle.std.proofs.Common.{rules, inl, inr}
use Rattle.std.proofs.lemmas.List.{places}
use Rattle.object_model.proofs.object_words.write_words.Goals as goal

pub returns-clause-others : goal.returns-clause-others
returns-clause-others c i outside = elim outside [ inl before ↦ search (rules, places) | inr after ↦ search (rules, places) ]
