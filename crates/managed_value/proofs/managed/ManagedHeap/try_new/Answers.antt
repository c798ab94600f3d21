-- The world gives the object, or finds no room.
use Rattle.std.proofs.Common.{◌+◌, ◌<◌, refl, sym, ◌∙◌, ap, subst, ℕ, Some}
use Rattle.object_model.specs.Objects.{size_of}
use Rattle.managed_heap.specs.declared.place.Placed.TheVariants as placed
use Rattle.managed_value.specs.Histories.{heap_births_at}
use Rattle.managed_value.specs.Allocations.{used_with}
use Rattle.managed_value.specs.declared.managed.ManagedHeap.{ManagedHeap}
use Rattle.managed_value.proofs.Places as places
use Rattle.managed_value.proofs.Searched as searched
use Rattle.managed_value.proofs.managed.ManagedHeap.try_new.Goals as goal

pub returns-in_default-clause-made : goal.returns-in_default-clause-made
returns-in_default-clause-made g c = absurd (places.not-lost g.P.Plan.rules c.args.self.now c.requires.usable c.in_default.is)

pub new_object-requires-clause-open : goal.new_object-requires-clause-open
new_object-requires-clause-open g c = places.open-here g.P.Plan.rules c.args.self.now c.in-Some.world c.in-Some.is c.requires.usable

pub new_object-requires-clause-place : goal.new_object-requires-clause-place
new_object-requires-clause-place g c = places.place-here g.P.Plan.rules c.args.self.now c.in-Some.world c.in-Some.is c.args.m c.requires.place

pub new_object-requires-clause-births : goal.new_object-requires-clause-births
new_object-requires-clause-births g c =
    let few : heap_births_at c.args.self.now c.args.m + 1 < 4294967296 = c.requires.births in
    subst (λ (n : ℕ). n + 1 < 4294967296) (sym (places.births-of-world g.P.Plan.rules c.args.self.now c.in-Some.world c.in-Some.is c.args.m)) few

pub returns-in-Made-clause-made : goal.returns-in-Made-clause-made
returns-in-Made-clause-made g c =
    let old : ManagedHeap g.row.P.Denot = c.args.self.now in
    let new : ManagedHeap g.row.P.Denot = record old { world = Some c.new_object.new.self; words = c.add_words-self.result } in
    searched.made g.P.Plan.rules old new c.in-Some.world c.new_object.new.self c.in-Some.is refl refl refl c.args.m c.requires.place c.requires.usable
    c.new_object.ensures.stays.is_open c.new_object.ensures.stays.places c.args.d c.args.refs c.args.nums c.in-Made.name c.in-Made.ensures.made
    (c.add_words-self.ensures ∙ ap (λ (n : ℕ). used_with (placed.Placed c.in-Made.name) n old.words) c.size_words-size.ensures)

pub returns-in-Made-clause-epoch : goal.returns-in-Made-clause-epoch
returns-in-Made-clause-epoch g c =
    let old : ManagedHeap g.row.P.Denot = c.args.self.now in
    let new : ManagedHeap g.row.P.Denot = record old { world = Some c.new_object.new.self; words = c.add_words-self.result } in
    searched.allocated g.P.Plan.rules old new c.in-Some.world c.new_object.new.self c.in-Some.is refl refl refl c.args.m c.requires.place c.requires.usable
    c.new_object.ensures.stays.is_open c.new_object.ensures.stays.places c.args.d c.args.refs c.args.nums c.in-Made.name c.in-Made.ensures.made

pub returns-in-Stop-clause-made : goal.returns-in-Stop-clause-made
returns-in-Stop-clause-made g c =
    let old : ManagedHeap g.row.P.Denot = c.args.self.now in
    let new : ManagedHeap g.row.P.Denot = record old { world = Some c.new_object.new.self } in
    searched.searched g.P.Plan.rules old new c.in-Some.world c.new_object.new.self c.in-Some.is refl refl refl c.args.m c.requires.place c.requires.usable
    c.new_object.ensures.stays.is_open c.new_object.ensures.stays.places (size_of c.args.refs c.args.nums) c.in-Stop.ensures.made refl
