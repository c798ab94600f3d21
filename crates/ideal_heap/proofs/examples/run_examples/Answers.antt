use Rattle.std.proofs.Common.{true, false, refl, lit≤, List, [], ◌∷◌, ◌≡◌, ℕ, ◌≤◌, ◌⊎◌, inl, inr, sym, subst, arith}
use Rattle.ideal_heap.specs.declared.command.Command.{Command}
use Rattle.ideal_heap.specs.declared.command.Command.TheVariants as c
use Rattle.ideal_heap.specs.declared.reply.Reply.TheVariants as r
use Rattle.ideal_heap.specs.Names.{name}
use Rattle.ideal_heap.specs.Ideal.{step}
use Rattle.ideal_heap.specs.Runs.{Entry, entry, commands_of, trace_of}
use Rattle.ideal_heap.proofs.examples.run_examples.Goals as goal

pub returns-clause-refused : goal.returns-clause-refused
unfolding step
returns-clause-refused c = (inr (refl, refl), (inl refl, tt))

pub returns-clause-births : goal.returns-clause-births
unfolding step
returns-clause-births c = refl

pub returns-clause-run : goal.returns-clause-run
unfolding step
returns-clause-run c = (inl refl, (inl refl, (inl refl, (inl refl, (inl refl, (inl refl, (inl refl, tt)))))))

one_or_two : (m : ℕ) → 1 ≤ m → m ≤ 2 → (m ≡ 1) ⊎ (m ≡ 2)
one_or_two m low high = grind arith

abbrev es : List Entry
es = entry 1 (c.New 0 0 1) (r.New (name 1 1)) ∷ entry 1 (c.Write 0 0 5) r.Done ∷ entry 1 (c.Share 0 0) r.Done ∷ entry 2 c.Meet r.Done ∷ entry 1 c.Meet r.Done ∷ entry 2 (c.Load 1 0) (r.Ref (name 1 1)) ∷ entry 2 (c.Read 1 0) (r.Num 5) ∷ []

abbrev traces : List (List Command)
traces = (c.New 0 0 1 ∷ c.Write 0 0 5 ∷ c.Share 0 0 ∷ c.Meet ∷ []) ∷ (c.Meet ∷ c.Load 1 0 ∷ c.Read 1 0 ∷ []) ∷ []

pub returns-clause-order : goal.returns-clause-order
returns-clause-order facts = record {
  mutators = ((lit≤ tt, lit≤ tt), ((lit≤ tt, lit≤ tt), ((lit≤ tt, lit≤ tt), ((lit≤ tt, lit≤ tt), ((lit≤ tt, lit≤ tt), ((lit≤ tt, lit≤ tt), ((lit≤ tt, lit≤ tt), tt)))))));
  commands = λ m is. elim (one_or_two m is.0 is.1) [
    | inl one ↦ subst (λ k. commands_of k es ≡ trace_of traces k) (sym one) refl
    | inr two ↦ subst (λ k. commands_of k es ≡ trace_of traces k) (sym two) refl
  ];
  rises = (lit≤ tt, (lit≤ tt, (lit≤ tt, (lit≤ tt, (lit≤ tt, (lit≤ tt, (lit≤ tt, tt)))))));
}

pub returns-clause-full_is_new : goal.returns-clause-full_is_new
unfolding step
returns-clause-full_is_new c run = elim run.0 as (λ _. ⊥) [
  | inl e ↦ (let wrong : r.Full ≡ r.Done = e in cc)
  | inr p ↦ (let wrong : false ≡ true = p.1 in cc)
]
