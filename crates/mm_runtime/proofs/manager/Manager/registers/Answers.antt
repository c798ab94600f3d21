use Rattle.std.proofs.Common.{◌≡◌, sym, ◌∙◌, ap, subst, ℕ, List, map}
use Rattle.std.specs.Prelude.{Result, Ok, Err, IfOk}
use Rattle.object_model.specs.Heaps.{heap_state}
use Rattle.object_model.specs.Lawful.{AreRoots}
use Rattle.object_model.specs.Graphs.{roots_of}
use Rattle.heap_users.specs.Users.{mutator_state}
use Rattle.mutator_calls.specs.declared.need.Mutator.{Mutator}
use Rattle.managed_heap.proofs.RootLists.{roots-held}
use Rattle.mm_runtime.proofs.Collected.{stopped-of}
use Rattle.mm_runtime.proofs.manager.Manager.registers.Goals as goal

on-ok : {X E : Type 0} (r : Result X E) (P Q : X → Type 0) → ((x : X) → P x → Q x) → IfOk r P → IfOk r Q
on-ok (Ok x) P Q next holds = next x holds
on-ok (Err e) P Q next holds = tt

pub returns-clause-roots : goal.returns-clause-roots
returns-clause-roots g c =
    let rules = g.P.Plan.rules in
    let h = c.args.self.now.heap in
    let s = heap_state h.heap in
    let held : AreRoots s (roots_of (map mutator_state h.mutators.items)) = roots-held rules h (stopped-of rules 0 c.args.self.now (record {
      order = c.requires.order;
      setting = c.requires.setting;
      now = c.requires.now;
      stands = c.requires.closes.stands;
    })) in
    on-ok c.all_registers.result (λ v. v.items ≡ roots_of (map mutator_state c.mutators.result.now)) (λ v. AreRoots s v.items)
    (λ v e. subst (λ (l : List ℕ). AreRoots s l) (sym (e ∙ ap (λ (us : List Mutator). roots_of (map mutator_state us)) c.mutators.ensures.same)) held)
    c.all_registers.ensures
