-- What the call that allocates an object promises.
use Rattle.std.specs.Prelude.{◌≡◌, ℕ, ◌+◌, ◌≤◌, Some}
use Rattle.ideal_heap.specs.declared.command.Command.TheVariants as c
use Rattle.ideal_heap.specs.declared.reply.Reply.TheVariants as r
use Rattle.ideal_heap.specs.declared.name.Name.{Name}
use Rattle.object_model.specs.Objects.{size_of}
use Rattle.object_model.specs.declared.shape.TheConstants.{MAX_MEDIUM_WORDS}
use Rattle.sessions.specs.Plans.{Rules}
use Rattle.mutator_calls.specs.declared.need.Need.{Need}
use Rattle.mutator_calls.specs.declared.need.Allocated.{Allocated}
use Rattle.mutator_calls.specs.Allocating.{IsNeedOf, MatchAllocated}
use Rattle.mutator_core.specs.Machine.{next_name}
use Rattle.mutator_rule.specs.declared.seat.MutatorSeat.{MutatorSeat}
use Rattle.mutator_rule.specs.Seats.{local_of}
use Rattle.racing_world.specs.declared.world.World.{World}
use Rattle.racing_rooms.specs.NoRoom.{regions_at, IsCauseFor}
use Rattle.racing_mutator.specs.Searches.{PlacesObject, TakesRoom, block_in, KeepsHoleRegion}
use Rattle.racing_mutator.specs.Regions.{FillsRegion}
use Rattle.racing_world.specs.Calls.{EntersOnce, EntersNothing, has_raised}

-- how many objects the mutator has allocated
abbrev pub births_of : MutatorSeat → ℕ
births_of seat = (local_of seat).births

module _ {P : Type 0} where
  -- An object of this name was allocated in register d. Its name is the mutator's next.
  pub record MakesNew (rules : Rules) (w : World P) (old : MutatorSeat) (d refs nums : ℕ) (n : Name)
      (new : MutatorSeat) : Type 0 where
    pub enters : EntersOnce rules w old (c.New d refs nums) (r.New n) new
    pub name : n ≡ next_name (local_of old)
    pub births : births_of new ≡ births_of old + 1
    pub small : size_of refs nums ≤ MAX_MEDIUM_WORDS
    pub place : PlacesObject rules old d (size_of refs nums) new
    pub takes : TakesRoom rules old (size_of refs nums) (block_in rules new d) new
    pub region : FillsRegion rules old (block_in rules new d) d (size_of refs nums) new
    pub overflow : KeepsHoleRegion rules old (size_of refs nums) new

  -- No object was allocated: the mutator is to stop with this need. The object is large, or there
  -- is no room for it and the mutator's ticket is not below the allowance.
  pub record StopsAtNeed (rules : Rules) (w : World P) (old : MutatorSeat) (d refs nums : ℕ)
      (need : Need) (new : MutatorSeat) : Type 0 where
    pub nothing : EntersNothing rules w old new
    pub raised : has_raised new ≡ has_raised old
    -- it has the blocks, regions and objects that it had, and its unused ticket
    pub births : births_of new ≡ births_of old
    pub owned : (local_of new).owned ≡ (local_of old).owned
    pub granted : (local_of new).granted ≡ (local_of old).granted
    pub regions : regions_at new ≡ regions_at old
    pub made : (local_of new).made ≡ (local_of old).made
    pub ticket : (t : ℕ) → (local_of old).ticket ≡ Some t → (local_of new).ticket ≡ Some t
    pub call : IsNeedOf d refs nums need
    pub cause : IsCauseFor rules new (size_of refs nums) need.cause

  abbrev pub AnswersNew : Rules → World P → MutatorSeat → ℕ → ℕ → ℕ → Allocated → MutatorSeat
      → Type 0
  AnswersNew rules w old d refs nums answer new = MatchAllocated answer
      (λ n. MakesNew rules w old d refs nums n new)
      (λ need. StopsAtNeed rules w old d refs nums need new)
