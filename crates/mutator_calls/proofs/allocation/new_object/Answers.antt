use Rattle.std.proofs.Common.{◌≤◌, refl, ap, subst, []}
use Rattle.object_model.specs.declared.shape.TheConstants.{MAX_MEDIUM_WORDS}
use Rattle.mutator_calls.specs.Allocating.{allocation_reads, AnswersAllocation, FindsRoom}
use Rattle.mutator_calls.proofs.allocation.new_object.Goals as goal

pub returns-in-Some-clause-answer : goal.returns-in-Some-clause-answer
returns-in-Some-clause-answer g c =
    let here = c.in-Some.ensures.region in record {
      taken = [];
      granted = [];
      drawn = 0;
      effect = c.in-Some.ensures.goes;
      finds = FindsRoom.in_region (record {
        block = here.0;
        before = here.1;
        now = here.2;
        room = c.in-Some.ensures.some;
        kept = c.in-Some.ensures.keeps;
        none_taken = refl;
        none_granted = refl;
        none_drawn = refl;
        ticket = ap (λ b. b.ticket) c.in-Some.ensures.books;
      });
      offer = c.args.seat.now;
      offered = c.in-Some.ensures.offered;
      placed = c.in-Some.ensures.placed;
      small = subst (λ n. n ≤ MAX_MEDIUM_WORDS) c.size_words-size.ensures c.if-size-gt-MAX_MEDIUM_WORDS.false;
    }

pub returns-clause-answer : goal.returns-clause-answer
returns-clause-answer g c =
    let makes_steps = g.S.MutatorSteps.makes_steps in
    let steps = g.S.AllocationSteps in
    subst (λ s. AnswersAllocation (allocation_reads makes_steps steps.has_no_room steps.is_used steps.allocates_in steps.is_full steps.is_overflow steps.keeps_hole
    steps.offers_room steps.places steps.has_budget steps.books) s c.args.d c.args.refs c.args.nums c.allocate_elsewhere.result c.allocate_elsewhere.new.seat)
    c.in_default.ensures.same c.allocate_elsewhere.ensures.answer
