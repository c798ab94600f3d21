use Rattle.std.proofs.Common.{ℕ, ◌≡◌, ◌≤◌, ◌+◌, ◌%◌, ◌∙◌, sym, ap, subst, arith}
use Rattle.std.proofs.Math.Nat.{mul-mod_left}
use Rattle.heap_layout.specs.Zones.{block_at, offset_at}
use Rattle.heap_layout.specs.declared.block.Kind.TheVariants as kinds
use Rattle.object_model.specs.Objects.{HeapState, with_words, class_at, cell_words, size_of}
use Rattle.object_model.specs.Lawful.{IsLawful}
use Rattle.object_model.specs.Changes.{WritesObject}
use Rattle.object_model.specs.Births.{IsRoom}
use Rattle.object_model.proofs.Births.{lawful-written}
use Rattle.object_model.proofs.Frames.{same-layout}
use Rattle.object_model.proofs.OneKind.{one-kind, has_small-code}
use Rattle.object_model.proofs.laws.cells_take_objects.Goals as goal

pub returns : goal.returns
returns c s new a j refs nums n lawful address cells start within room small few_refs few_nums named apart fresh writes =
    let same : new ≡ with_words s new.words = same-layout s new writes.blocks writes.number writes.base in
    let written : WritesObject s (with_words s new.words) a n refs nums = subst (λ (x : HeapState). WritesObject s x a n refs nums) same writes in
    let k : ℕ = block_at s.blocks a in
    let place : IsRoom s a n refs nums = record {
      vacant = record { address = address; named = named; few_refs = few_refs; few_nums = few_nums; apart = apart; fresh = fresh };
      small = small;
      place = record {
        address = address;
        within = (let w : offset_at s.blocks a + cell_words (class_at s k) ≤ 4096 = within in let r : size_of refs nums ≤ cell_words (class_at s k) = room in omega arith);
        kind = has_small-code s k kinds.Cells cells;
        cell = λ is. record { start = ap (λ (o : ℕ). o % cell_words (class_at s k)) start ∙ mul-mod_left j (cell_words (class_at s k)); room = room; within = within };
      };
    } in
    subst IsLawful (sym same) (lawful-written s new.words a n refs nums written lawful.but_lines.order place (λ line immix. absurd (let e = one-kind s k kinds.Cells kinds.Immix cells immix in omega arith)) lawful)
