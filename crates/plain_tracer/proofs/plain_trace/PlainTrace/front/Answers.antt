use Rattle.std.proofs.Common.{◌≡◌, ◌+◌, ◌-◌, ◌<◌, ◌≤◌, Some, sym, ap, ◌∙◌, subst, arith}
use Rattle.heap_layout.specs.Zones.{block_start}
use Rattle.trace_core.specs.Setups.{blocks}
use Rattle.plain_tracer.specs.Tracers.{TakesCopyBlock, FindsNone}
use Rattle.plain_tracer.proofs.TracedRows.{none-from}
use Rattle.plain_tracer.proofs.TakenRoom.{room-block, tracks-left, tracks-same, none-free, blocks-now, room-order, lowest-taken}
use Rattle.trace_core.proofs.Objects.{Some-injective, None-not-Some}
use Rattle.plain_tracer.proofs.plain_trace.PlainTrace.front.Goals as goal

pub address-requires-clause-block : goal.address-requires-clause-block
address-requires-clause-block c =
    let least : c.args.size ≤ c.args.self.now.room.end - c.args.self.now.room.next = omega (arith, c.if-self-size.true) in
    let some : 0 < c.args.size = c.requires.some in
    let tracing = c.requires.tracing in
    subst (λ b. c.args.self.now.block < b) (sym c.requires.layout)
    (room-block tracing.setup tracing.events c.args.self.now tracing.view tracing.tracks (omega arith))

pub returns-in_err-block-clause-none : goal.returns-in_err-block-clause-none
returns-in_err-block-clause-none c = none-from c.from_residual.result (λ p es v tracks.
    let finds : FindsNone c.args.self.now c.take_block.new.self = c.in_err-block.ensures.none in
    let less : c.args.self.now.room.end - c.args.self.now.room.next < c.args.size = omega (arith, c.if-self-size.false) in
    let order : c.args.self.now.room.next ≤ c.args.self.now.room.end = room-order p es c.args.self.now v tracks in
    let next : c.take_block.new.self.room.next ≡ c.args.self.now.room.next = ap (λ r. r.next) finds.room in
    let end : c.take_block.new.self.room.end ≡ c.args.self.now.room.end = ap (λ r. r.end) finds.room in
    (tracks-same p es c.args.self.now c.take_block.new.self v tracks finds, none-free p es c.args.self.now c.take_block.new.self v tracks finds, omega arith))

pub returns-clause-some : goal.returns-clause-some
returns-clause-some c = λ p es v tracks.
    let takes : TakesCopyBlock c.args.self.now c.take_block.new.self c.in_ok-block.block = c.in_ok-block.ensures.some in
    let most : c.args.size ≤ 2048 = c.requires.size in
    let less : c.args.self.now.room.end - c.args.self.now.room.next < c.args.size = omega (arith, c.if-self-size.false) in
    let order : c.args.self.now.room.next ≤ c.args.self.now.room.end = room-order p es c.args.self.now v tracks in
    let room = takes.room in
    let next : c.take_block.new.self.room.next ≡ 0 = ap (λ r. r.next) room in
    let end : c.take_block.new.self.room.end ≡ 4096 = ap (λ r. r.end) room in
    record {
      taken = Some c.in_ok-block.block;
      tracks = tracks-left p es c.args.self.now c.take_block.new.self c.in_ok-block.block v tracks takes
          (λ e. c.requires.tracing.right (sym c.requires.tracing.tracks.run.kind ∙ e));
      room = omega arith;
      front = c.address-2.ensures ∙ ap (λ n. block_start n c.in_ok-block.block + 0) (blocks-now p es c.args.self.now c.take_block.new.self c.in_ok-block.block v tracks takes)
          ∙ ap (λ b. block_start (blocks p) b + 0) (sym takes.block) ∙ ap (λ n. block_start (blocks p) c.take_block.new.self.block + n) (sym next);
      place = record {
        room = λ none. absurd (None-not-Some c.in_ok-block.block (sym none));
        block = λ b is. c.address-2.ensures ∙ ap (λ n. block_start n c.in_ok-block.block + 0) (blocks-now p es c.args.self.now c.take_block.new.self c.in_ok-block.block v tracks takes)
            ∙ (let first : block_start (blocks p) c.in_ok-block.block + 0 ≡ block_start (blocks p) c.in_ok-block.block = omega arith in first) ∙ ap (block_start (blocks p)) (Some-injective c.in_ok-block.block b is);
      };
      needed = record {
        tight = λ b is. omega arith;
        lowest = λ b d is low free. lowest-taken p es c.args.self.now c.take_block.new.self c.in_ok-block.block v tracks takes d (subst (λ n. d < n) (sym (Some-injective c.in_ok-block.block b is)) low) free;
      };
    }
