-- An allocation makes the entry of its `new`; one that stops makes none, and then a stop is raised.
use Rattle.std.proofs.Common.{◌≡◌, refl, [], ◌≤◌, arith}
use Rattle.object_model.specs.Objects.{size_of}
use Rattle.object_model.specs.declared.shape.TheConstants.{MAX_MEDIUM_WORDS}
use Rattle.mutator_calls.specs.Effects.{draws, raises}
use Rattle.mutator_calls.specs.Allocating.{births_with}
use Rattle.mm_runtime.proofs.WorldAnswers.{answers-effect}
use Rattle.mm_runtime.proofs.AnswersInTurn.{answers-append, exhausted, raised-word, refused-word}
use Rattle.mm_runtime.proofs.part.allocate.Goals as goal

pub returns-in-Made : goal.returns-in-Made
returns-in-Made g c =
    let call = c.in-Made.ensures in record {
      reply = _;
      answers = answers-effect c.args.world.now c.new_object.new.self c.args.place (births_with c.args.d c.args.refs c.args.nums c.in-Made.name call.made.taken call.made.granted call.made.drawn) call.made.granted
          c.requires.open call.stays.is_open call.stays.places call.made.history call.made.grants call.made.rest;
      items = c.push_reserved.ensures.items;
      capacity = c.push_reserved.ensures.capacity;
      stop = call.made.rest.stop;
    }

pub returns-in-Stop : goal.returns-in-Stop
returns-in-Stop g c =
    let call = c.in-Stop.ensures in
    let raise = c.raise.ensures in
    let need = c.in-Stop.need in
    let register : need.register ≡ c.args.d = call.need.register in
    let refs : need.refs ≡ c.args.refs = call.need.refs in
    let nums : need.nums ≡ c.args.nums = call.need.nums in record {
      answers = answers-append c.args.world.now c.new_object.new.self c.raise.new.self c.args.place [] []
          (answers-effect c.args.world.now c.new_object.new.self c.args.place (draws call.made.drawn) [] c.requires.open call.stays.is_open call.stays.places call.made.history call.made.grants call.made.rest)
          (answers-effect c.new_object.new.self c.raise.new.self c.args.place raises [] call.stays.is_open raise.stays.is_open raise.stays.places raise.history raise.granted raise.rest);
      replies = refl;
      cause = (
        cc,
        raised-word c.new_object.new.self c.raise.new.self c.args.place raise.stays.places raise.rest (refused-word c.args.world.now c.new_object.new.self c.args.place call.made.drawn call.made.rest c.requires.calm),
        λ small. exhausted c.new_object.new.self c.raise.new.self c.args.place (size_of c.args.refs c.args.nums) need.cause
            (answers-effect c.new_object.new.self c.raise.new.self c.args.place raises [] call.stays.is_open raise.stays.is_open raise.stays.places raise.history raise.granted raise.rest)
            (raise.rest.ticket refl refl) call.cause (let few : size_of need.refs need.nums ≤ MAX_MEDIUM_WORDS = small in omega arith),
      );
    }
