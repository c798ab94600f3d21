-- One part more, with the first seat that is left.
use Rattle.std.proofs.Common.{◌≡◌, ◌≤◌, ◌<◌, refl, sym, ◌∙◌, ap, subst, arith, ℕ, List, [], ◌∷◌, ◌++◌, map, length}
use Rattle.std.specs.Prelude.{None, Some, slice_get, vec_capacity}
use Rattle.std.proofs.lemmas.List.{map-append}
use Rattle.mutator_rule.specs.declared.seat.MutatorSeat.{MutatorSeat}
use Rattle.racing_world.specs.Calls.{number_of}
use Rattle.mm_runtime.specs.declared.progress.Progress.{Progress}
use Rattle.mm_runtime.specs.declared.seat_part.Part.{Part}
use Rattle.mm_runtime.specs.OpenEpochs.{seat_of, trace_in}
use Rattle.mm_runtime.proofs.Begun.{pushed}
use Rattle.mm_runtime.proofs.PartLists.{first-moved}
use Rattle.mm_runtime.proofs.epochs.new_parts.Goals as goal

pub loop-trace-preserved : goal.loop-trace-preserved
loop-trace-preserved c =
    let now = c.loop-trace.invariant in
    let seat : MutatorSeat = c.remove-seat.result in
    let p : Part = record { mutator = c.number.result; progress = c.in-Some.trace; seat = seat; end = None } in
    let ps : List Part = c.loop-trace.parts.items in
    let some : 0 < length c.loop-trace.seats.items = (let removed = c.remove-seat.ensures.len in let items = c.loop-trace.seats.ok.0 in omega arith) in
    subst (λ (qs : List Part). record {
      traces : map trace_in qs ≡ c.loop-trace.yielded ++ c.in-Some.trace ∷ [];
      seats : map seat_of qs ++ c.remove-seat.new.self.items ≡ c.args.seats.items;
      each : (k : ℕ) (x : Part) → slice_get qs k ≡ Some x → (x.mutator ≡ number_of x.seat) × (x.end ≡ None);
      room : length c.args.progress.items ≤ vec_capacity c.push_reserved.new.self;
    }) (sym c.push_reserved.ensures.items) (record {
      traces = map-append trace_in ps (p ∷ []) ∙ ap (λ (l : List Progress). l ++ c.in-Some.trace ∷ []) now.traces;
      seats = ap (λ (l : List MutatorSeat). l ++ c.remove-seat.new.self.items) (map-append seat_of ps (p ∷ []))
          ∙ first-moved (map seat_of ps) c.loop-trace.seats.items c.remove-seat.new.self.items c.args.seats.items seat now.seats some c.remove-seat.ensures.value c.remove-seat.ensures.by_index.2;
      each = pushed (λ (x : Part). (x.mutator ≡ number_of x.seat) × (x.end ≡ None)) ps p now.each (c.number.ensures ∙ sym seat.numbered, refl);
      room = let room = now.room in let capacity = c.push_reserved.ensures.capacity in omega arith;
    })
