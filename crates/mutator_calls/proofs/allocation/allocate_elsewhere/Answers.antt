use Rattle.std.proofs.Common.{ℕ, refl, ap, subst, List, [], ◌++◌, add-zero}
use Rattle.object_model.specs.Objects.{size_of}
use Rattle.mutator_calls.specs.Allocating.{births, births_with, searches, allocation_reads, MakesRoom}
use Rattle.std.proofs.lemmas.List.{append-nil}
use Rattle.mutator_calls.proofs.RoomFoundLater.{finds-later}
use Rattle.mutator_calls.proofs.allocation.allocate_elsewhere.Goals as goal

pub returns-in-Ok-clause-answer : goal.returns-in-Ok-clause-answer
returns-in-Ok-clause-answer g c =
    let makes_steps = g.S.MutatorSteps.makes_steps in
    let steps = g.S.AllocationSteps in
    let size = size_of c.args.refs c.args.nums in
    let old = c.args.seat.now in
    let offer = c.find_room.new.seat in
    let new = c.publish.new.self in
    let found : MakesRoom (allocation_reads makes_steps steps.has_no_room steps.is_used steps.allocates_in steps.is_full steps.is_overflow steps.keeps_hole steps.offers_room
    steps.places steps.has_budget steps.books) old size offer = subst
    (λ n. MakesRoom (allocation_reads makes_steps steps.has_no_room steps.is_used steps.allocates_in steps.is_full steps.is_overflow steps.keeps_hole steps.offers_room
    steps.places steps.has_budget steps.books) old n offer) c.size_words.ensures (c.in-Ok.ensures.finds refl) in
    let entry = births c.args.d c.args.refs c.args.nums c.publish.result in
    let to : List ℕ → List ℕ → ℕ → Type 0 = λ t r n. makes_steps old
    (births_with c.args.d c.args.refs c.args.nums c.publish.result t r n) new in record {
      taken = found.taken;
      granted = found.granted;
      drawn = found.drawn;
      effect = subst (λ t. to t found.granted found.drawn) (append-nil found.taken) (subst (λ r. to (found.taken ++ []) r found.drawn) (append-nil found.granted)
          (subst (λ n. to (found.taken ++ []) (found.granted ++ []) n) (add-zero found.drawn)
          (g.met.S.MutatorSteps.one_after_another _ _ _ (searches found.taken found.granted found.drawn) entry found.effect c.publish.ensures.goes)));
      finds = finds-later _ _ (record {
        lacks = λ k lacks. c.publish.ensures.stays size k lacks;
        used = c.publish.ensures.still;
        before = λ k is. is;
        now = c.publish.ensures.region;
        next = λ t is. is;
        full = λ is. is;
        was_full = λ is. is;
        spent = λ is. is;
        overflow = λ is. is;
        was_overflow = λ is. is;
        kept = λ both. g.met.S.AllocationSteps.hole_stays_kept _ _ _ both.0 (c.publish.ensures.keeps both.1);
        blocks = ap (λ b. b.blocks) c.publish.ensures.books;
        allowance = ap (λ b. b.allowance) c.publish.ensures.books;
        old = refl;
        new = ap (λ b. b.ticket) c.publish.ensures.books;
      }) found.taken found.granted found.drawn found.finds;
      offer = offer;
      offered = subst (λ n. steps.offers_room old offer n) c.size_words.ensures (c.in-Ok.ensures.offered refl);
      placed = c.publish.ensures.placed;
      small = c.requires.small;
    }
