-- From a step with sets of addresses to the step as a clause states it.
use Rattle.std.proofs.Common.{refl, arith, subst, List, [], ◌∷◌}
use Rattle.ideal_heap.specs.declared.command.Command.{Command}
use Rattle.ideal_heap.specs.declared.reply.Reply.{Reply}
use Rattle.ideal_heap.specs.Ideal.{step}
use Rattle.object_model.specs.Objects.{HeapState, IsHeld}
use Rattle.object_model.specs.Graphs.{MutatorState, IsReachable, roots_of, with_mutator}
use Rattle.object_model.specs.Agreement.{RepresentsOn}
use Rattle.object_model.specs.Steps.{IsStep, TakesStep}
use Rattle.object_model.proofs.Among.{with-alone}
use Rattle.object_model.proofs.Frames.{held-kept}
use Rattle.object_model.proofs.Sets.{models-by}
use Rattle.object_model.proofs.Representation as standing

pub answered : {s : HeapState} {m : MutatorState} {command : Command} {reply : Reply} {s' : HeapState} {m' : MutatorState} → IsStep s m command reply s' m' → TakesStep s m command reply s' m'
answered {s} {m} {command} {reply} {s'} {m'} is = record {
  keeps = is.keeps;
  number = is.number;
  births = is.births;
  gives_reply = λ ms h order represents among. is.answers ms h (IsReachable s (roots_of ms)) (standing.models s ms h order represents) among;
  represents = λ ms h order represents among. let after = is.models ms h (IsReachable s (roots_of ms)) (standing.models s ms h order represents) among in
      (after.order, standing.represents s' (with_mutator ms m') (step h m.number command).1 (IsReachable s (roots_of ms)) after);
  answers = λ h model. is.answers (m ∷ []) h (IsHeld s) model (0, omega arith, refl);
  models = λ h model. let held = held-kept s s' is.keeps in
      models-by s' (m' ∷ []) (step h m.number command).1 (IsHeld s) (IsHeld s') (λ a. (held a).0) (λ a. (held a).1)
      (subst (λ (ns : List MutatorState). RepresentsOn s' ns (step h m.number command).1 (IsHeld s)) (with-alone m m' is.number) (is.models (m ∷ []) h (IsHeld s) model (0, omega arith, refl)));
  no_birth = is.no_birth;
}
