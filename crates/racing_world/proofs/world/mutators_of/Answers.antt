use Rattle.std.proofs.Common.{◌≡◌, ◌<◌, List, [], ◌∷◌, ◌++◌, length, map, take, ap, sym, ◌∙◌, rules, add-one}
use Rattle.std.proofs.lemmas.List.{map-append}
use Rattle.object_model.specs.Graphs.{MutatorState}
use Rattle.mutator_calls.specs.declared.need.Mutator.{Mutator}
use Rattle.heap_users.specs.Users.{mutator_state}
use Rattle.racing_world.specs.Closing.{mutator_at}
use Rattle.racing_world.proofs.Begun.{taken-more, taken-all}
use Rattle.racing_world.proofs.world.mutators_of.Goals as goal

pub loop-i-preserved : goal.loop-i-preserved
loop-i-preserved c =
    let seat = c.index.result.now in
    let within : c.loop-i.i < length c.args.seats.now.items = search rules in
    let here : mutator_state c.mutator.result ≡ mutator_at seat = (λ k. record {
      number = (c.mutator.ensures.0 ∙ sym seat.numbered) k;
      births = (c.mutator.ensures.1 ∙ sym seat.born) k;
      registers = (c.mutator.ensures.2 ∙ sym seat.held) k;
    }) in
    ap (λ (ms : List Mutator). map mutator_state ms) c.in_ok-push.ensures.items ∙ map-append mutator_state c.loop-i.mutators.items _
    ∙ ap (λ (ms : List MutatorState). ms ++ mutator_state c.mutator.result ∷ []) c.loop-i.invariant
    ∙ ap (λ (m : MutatorState). take c.loop-i.i (map mutator_at c.args.seats.now.items) ++ m ∷ []) here
    ∙ sym (taken-more mutator_at c.args.seats.now.items c.loop-i.i seat within c.index.ensures) ∙ ap (λ k. take k (map mutator_at c.args.seats.now.items)) (sym (add-one c.loop-i.i))

pub returns : goal.returns
returns c = c.loop-i.invariant ∙ (λ k. take (let e : c.loop-i.i ≡ length c.args.seats.now.items = search rules in e k) (map mutator_at c.args.seats.now.items)) ∙ taken-all mutator_at c.args.seats.now.items
