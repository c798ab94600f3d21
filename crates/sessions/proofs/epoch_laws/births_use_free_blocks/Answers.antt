use Rattle.std.proofs.Common.{◌≡◌, refl, inl, inr, lit<, false, true}
use Rattle.heap_layout.specs.declared.block.Kind.TheVariants as kinds
use Rattle.ideal_heap.specs.declared.command.Command.TheVariants as c
use Rattle.ideal_heap.specs.declared.reply.Reply.TheVariants as r
use Rattle.ideal_heap.specs.Names.{name}
use Rattle.ideal_heap.specs.Runs.{entry}
use Rattle.sessions.proofs.epoch_laws.births_use_free_blocks.Goals as goal

pub returns-clause-marksweep : goal.returns-clause-marksweep
returns-clause-marksweep c' = record {
  entry = (0, entry 1 (c.New 0 1 1) (r.New (name 1 1)), lit< tt, refl, record { register = 0; command = refl; reply = refl });
  place = inl refl;
  packed = inl refl;
  cell = λ is. record { kind = refl; class = refl; index = 0; start = refl };
  unclaimed = refl;
  unmarked = λ marked. (let wrong : false ≡ true = marked in cc);
}

pub returns-clause-semispace : goal.returns-clause-semispace
returns-clause-semispace c' = record {
  entry = (0, entry 1 (c.New 0 1 1) (r.New (name 1 1)), lit< tt, refl, record { register = 0; command = refl; reply = refl });
  place = inl refl;
  packed = inr (inr (inl (refl, refl)));
  cell = λ is. (let wrong : kinds.Bump ≡ kinds.Cells = is in cc);
  unclaimed = refl;
  unmarked = λ marked. (let wrong : false ≡ true = marked in cc);
}

pub returns-clause-gencopy : goal.returns-clause-gencopy
returns-clause-gencopy c' = record {
  entry = (0, entry 1 (c.New 0 1 1) (r.New (name 1 1)), lit< tt, refl, record { register = 0; command = refl; reply = refl });
  place = inl refl;
  packed = inr (inr (inl (refl, refl)));
  cell = λ is. (let wrong : kinds.Young ≡ kinds.Cells = is in cc);
  unclaimed = refl;
  unmarked = λ marked. (let wrong : false ≡ true = marked in cc);
}

pub returns-clause-immix : goal.returns-clause-immix
returns-clause-immix c' = record {
  entry = (0, entry 1 (c.New 0 1 1) (r.New (name 1 1)), lit< tt, refl, record { register = 0; command = refl; reply = refl });
  place = inl refl;
  packed = inr (inr (inl (refl, refl)));
  cell = λ is. (let wrong : kinds.Immix ≡ kinds.Cells = is in cc);
  unclaimed = refl;
  unmarked = λ marked. (let wrong : false ≡ true = marked in cc);
}

pub returns-clause-stickyimmix : goal.returns-clause-stickyimmix
returns-clause-stickyimmix c' = record {
  entry = (0, entry 1 (c.New 0 1 1) (r.New (name 1 1)), lit< tt, refl, record { register = 0; command = refl; reply = refl });
  place = inl refl;
  packed = inr (inr (inl (refl, refl)));
  cell = λ is. (let wrong : kinds.Immix ≡ kinds.Cells = is in cc);
  unclaimed = refl;
  unmarked = λ marked. (let wrong : false ≡ true = marked in cc);
}
