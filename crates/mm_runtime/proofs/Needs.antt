-- A mutator that has a `new` next: its place, its number of births, and the limits of the command.
use Rattle.std.proofs.Common.{◌≡◌, subst, ℕ, ◌+◌, ◌-◌, ◌<◌, ◌≤◌, arith, List, length, Some}
use Rattle.std.specs.Prelude.{slice_get}
use Rattle.std.proofs.lemmas.Option.{slice_get_within, get_or_from_slice_get}
use Rattle.std.proofs.lemmas.List.Elements.{All-get_or}
use Rattle.ideal_heap.specs.declared.command.Command.TheVariants as c
use Rattle.ideal_heap.specs.Commands.{IsValid}
use Rattle.sessions.specs.Plans.{Rules}
use Rattle.mutator_calls.specs.declared.need.Need.{Need}
use Rattle.mutator_calls.specs.declared.need.Mutator.{Mutator}
use Rattle.block_regions.proofs.Lists.{get-some}
use Rattle.mm_runtime.specs.declared.progress.Progress.{Progress}
use Rattle.mm_runtime.specs.declared.manager.Manager.{Manager}
use Rattle.mm_runtime.specs.Managers.{next_in_trace, IsProgress, IsInOrder}
use Rattle.mm_runtime.specs.Stops.{NeedsNext}

-- mutator m, at place k, with its trace and what is known of its next command, a `new` of this shape
pub record HasNeed (us : List Mutator) (ps : List Progress) (k m d refs nums : ℕ) : Type 0 where
  pub at : k + 1 ≡ m
  pub user : Mutator
  pub here : slice_get us k ≡ Some user
  pub progress : Progress
  pub there : slice_get ps k ≡ Some progress
  pub is : IsProgress progress
  pub next : next_in_trace progress ≡ Some (c.New d refs nums)
  pub within : length progress.replies.items < length progress.trace
  pub valid : IsValid (c.New d refs nums)
  pub births : user.births ≤ length progress.replies.items
  pub most : m ≤ 16

pub has-need : {P : Type 0} (rules : Rules) (more : ℕ) (manager : Manager P) (m : ℕ) (need : Need) → IsInOrder rules more manager → NeedsNext manager m need
    → HasNeed manager.heap.mutators.items manager.progress.items (m - 1) m need.register need.refs need.nums
has-need rules more manager m need order needs =
    let at : (m - 1) + 1 ≡ m = (let least : 1 ≤ m = needs.0 in omega arith) in
    let next = needs.1 (m - 1) at in
    let p : Progress = next.0 in
    let there : slice_get manager.progress.items (m - 1) ≡ Some p = next.1 in
    let below : m - 1 < length manager.progress.items = slice_get_within manager.progress.items (m - 1) p there in
    let same : length manager.heap.mutators.items ≡ length manager.progress.items = order.count in
    let user = get-some manager.heap.mutators.items (m - 1) (omega arith) in
    let is : IsProgress p = order.each (m - 1) p there in
    let within : length p.replies.items < length p.trace = slice_get_within p.trace (length p.replies.items) (c.New need.register need.refs need.nums) next.2 in
    let few : length manager.progress.items ≤ 16 = order.few in
    record {
      at = at;
      user = user.0;
      here = user.1;
      progress = p;
      there = there;
      is = is;
      next = next.2;
      within = within;
      valid = subst IsValid (get_or_from_slice_get p.trace (length p.replies.items) (c.New need.register need.refs need.nums) c.Gc next.2)
          (All-get_or IsValid p.trace (length p.replies.items) c.Gc within is.valid);
      births = order.births (m - 1) user.0 p user.1 there;
      most = omega arith;
    }
