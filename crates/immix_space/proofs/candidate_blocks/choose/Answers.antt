use Rattle.std.proofs.Common.{◌≡◌, ◌∙◌, ap, sym, refl, ℕ, ◌+◌, ◌≤◌, subst, arith, length, map, take, slice_index_or, List, [], ◌∷◌, ◌++◌}
use Rattle.std.specs.List.{range_with_len}
use Rattle.std.proofs.Math.ListN.{length-set}
use Rattle.std.proofs.lemmas.List.FromFn.{map-range_with_len_more}
use Rattle.line_marks.specs.declared.holes.LineCounts.{LineCounts}
use Rattle.immix_space.specs.Candidates.{no_counts, HasFewLines, marked_with, marked_above, is_chosen}
use Rattle.immix_space.proofs.MarkedSums.{fits-sum, both-few, both-more, read-at, lines-more, below-length, chosen-next}
use Rattle.immix_space.proofs.candidate_blocks.choose.Goals as goal

pub overflow_add-lines : goal.overflow_add-lines
overflow_add-lines c =
    let i : ℕ = c.loop-i.i in
    let entry : LineCounts = slice_index_or c.args.counts.now i no_counts in
    let few : HasFewLines entry = c.requires.few i no_counts c.loop-i-test.true in
    let old : c.index.result.now ≡ marked_above entry.holes c.args.counts.now + marked_with entry.holes (take i c.args.counts.now) =
    read-at c.loop-i.taken.items entry.holes c.index.result.now c.index.ensures (below-length entry.holes c.loop-i.taken.items few.holes c.loop-i.invariant.len)
    ∙ c.loop-i.invariant.taken entry.holes few.holes in
    fits-sum c.index.result.now entry.marked (marked_above entry.holes c.args.counts.now + marked_with entry.holes (take i c.args.counts.now)) entry.marked old refl
    (both-few c.args.counts.now c.requires.few c.requires.blocks entry.holes i) (let lines = few.marked in omega arith)

pub loop-i-preserved : goal.loop-i-preserved
loop-i-preserved c =
    let i : ℕ = c.loop-i.i in
    let counts : List LineCounts = c.args.counts.now in
    let entry : LineCounts = slice_index_or counts i no_counts in
    let few : HasFewLines entry = c.requires.few i no_counts c.loop-i-test.true in
    let x : ℕ = c.index.result.now in
    let old : x ≡ marked_above entry.holes counts + marked_with entry.holes (take i counts) =
    read-at c.loop-i.taken.items entry.holes x c.index.ensures (below-length entry.holes c.loop-i.taken.items few.holes c.loop-i.invariant.len)
    ∙ c.loop-i.invariant.taken entry.holes few.holes in
    record {
      len = length-set c.loop-i.taken.items entry.holes (x + entry.marked) ∙ c.loop-i.invariant.len;
      taken = lines-more c.loop-i.taken.items entry.holes entry.marked x (λ n. marked_above n counts + marked_with n (take i counts)) (λ n. marked_above n counts + marked_with n (take (i + 1) counts))
          c.loop-i.invariant.len few.holes c.loop-i.invariant.taken old (both-more counts i c.loop-i-test.true);
      many = c.push_reserved.ensures.len ∙ ap (λ (n : ℕ). n + 1) c.loop-i.invariant.many;
      room = subst (λ (n : ℕ). length counts ≤ n) (sym c.push_reserved.ensures.capacity) c.loop-i.invariant.room;
      made = c.push_reserved.ensures.items
          ∙ ap (λ l. l ++ c.has_room.result ∷ []) c.loop-i.invariant.made
          ∙ ap (λ b. map (is_chosen counts c.args.room) (range_with_len 0 i) ++ b ∷ []) (chosen-next counts i c.loop-i-test.true x c.args.room c.has_room.result old c.has_room.ensures)
          ∙ sym (map-range_with_len_more (is_chosen counts c.args.room) 0 i i (let e : 0 + i ≡ i = omega arith in e));
    }
