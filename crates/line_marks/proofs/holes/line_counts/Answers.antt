use Rattle.std.proofs.Common.{◌≡◌, ℕ, ◌+◌, ◌*◌, ◌-◌, ◌≤◌, ap, sym, ◌∙◌, subst, arith, Bool, not, nat_eq}
use Rattle.side_meta.specs.BitWords.{has_bit}
use Rattle.std.specs.Prelude.{◌&&◌, count_ones}
use Rattle.std.specs.Int.{bit_at}
use Rattle.std.proofs.lemmas.Nat.{ones-le}
use Rattle.object_model.specs.Objects.{HeapState, state_over, line_marked}
use Rattle.sessions.specs.Collecting.{is_hole_start}
use Rattle.line_marks.proofs.HoleStarts.{top-bit}
use Rattle.line_marks.proofs.CountedLines.{line_word, few, marked-bit, starts-bits, count-more, count-all, word-read}
use Rattle.line_marks.proofs.holes.line_counts.Goals as goal

pub overflow_add-holes : goal.overflow_add-holes
overflow_add-holes g c =
    let test : ℕ → Bool = is_hole_start (state_over (g.W.Words.words c.args.words.now) c.args.layout.now 0 0) c.args.block in
    let few : c.loop-index.holes ≤ 64 * (c.loop-index.index - 4 * c.args.block) = subst (λ (n : ℕ). n ≤ 64 * (c.loop-index.index - 4 * c.args.block)) (sym c.loop-index.invariant.holes) (few test c.args.block c.loop-index.index) in
    let one : count_ones c.hole_starts.result ≤ 64 = ones-le 64 _ c.hole_starts.type_inv in
    omega arith

pub overflow_add-marked : goal.overflow_add-marked
overflow_add-marked g c =
    let test : ℕ → Bool = line_marked (state_over (g.W.Words.words c.args.words.now) c.args.layout.now 0 0) c.args.block in
    let few : c.loop-index.marked ≤ 64 * (c.loop-index.index - 4 * c.args.block) = subst (λ (n : ℕ). n ≤ 64 * (c.loop-index.index - 4 * c.args.block)) (sym c.loop-index.invariant.marked) (few test c.args.block c.loop-index.index) in
    let one : count_ones c.get-word.result ≤ 64 = ones-le 64 _ c.get-word.type_inv in
    omega arith

pub loop-index-preserved : goal.loop-index-preserved
loop-index-preserved g c =
    let s : HeapState = state_over (g.W.Words.words c.args.words.now) c.args.layout.now 0 0 in
    let k : ℕ = c.args.block in
    let i : ℕ = c.loop-index.index in
    let before : ℕ = c.loop-index.before in
    let at = c.line_at.ensures in
    let from = c.loop-index.auto.index in
    let fits = c.get-word.type_inv in
    let read : c.get-word.result ≡ line_word s i = word-read s c.line_at.result i c.get-word.result (omega arith) c.get-word.ensures in
    record {
      holes = ap (λ n. n + count_ones c.hole_starts.result) c.loop-index.invariant.holes
          ∙ sym (count-more (is_hole_start s k) k i c.hole_starts.result from c.hole_starts.type_inv
          (starts-bits s k i before c.hole_starts.result from c.loop-index.invariant.begin c.loop-index.invariant.more
          (c.hole_starts.ensures.lowest ∙ ap (λ w. not (has_bit w 0) && nat_eq before 1) read)
          (λ j some small. c.hole_starts.ensures.others j some small ∙ ap (λ w. not (has_bit w j) && has_bit w (j - 1)) read)));
      marked = ap (λ n. n + count_ones c.get-word.result) c.loop-index.invariant.marked
          ∙ sym (count-more (line_marked s k) k i c.get-word.result from fits
          (λ j small. marked-bit s k i j from small ∙ ap (λ w. has_bit w j) (sym read)));
      low = omega arith;
      begin = λ e. absurd (omega arith);
      more = λ later. top-bit c.get-word.result fits ∙ ap (λ w. bit_at w 63) (read ∙ ap (line_word s) (let e : i ≡ i + 1 - 1 = omega arith in e));
    }

pub returns-clause-holes : goal.returns-clause-holes
returns-clause-holes g c =
    let most = c.loop-index.auto.index-end (omega arith) in
    let all : c.loop-index.index - 4 * c.args.block ≡ 4 = omega arith in
    c.loop-index.invariant.holes ∙ count-all (is_hole_start (state_over (g.W.Words.words c.args.words.now) c.args.layout.now 0 0) c.args.block) c.args.block c.loop-index.index all

pub returns-clause-marked : goal.returns-clause-marked
returns-clause-marked g c =
    let most = c.loop-index.auto.index-end (omega arith) in
    let all : c.loop-index.index - 4 * c.args.block ≡ 4 = omega arith in
    c.loop-index.invariant.marked ∙ count-all (line_marked (state_over (g.W.Words.words c.args.words.now) c.args.layout.now 0 0) c.args.block) c.args.block c.loop-index.index all
