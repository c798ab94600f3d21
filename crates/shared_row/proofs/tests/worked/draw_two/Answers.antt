use Rattle.std.proofs.Common.{rules, ℕ, ◌≡◌, ◌+◌, ◌-◌, ◌<◌, ◌≤◌, slice_index, ap, arith}
use Rattle.atomic_table.specs.Table.{Me}
use Rattle.shared_row.proofs.Drawing.{leaves_one, takes_in, drawn_at_the_end}
use Rattle.shared_row.proofs.tests.worked.draw_two.Goals as goal

pub split-other-requires : goal.split-other-requires
split-other-requires c = let enough : 2 ≤ c.args.all = c.requires.2 in let own : c.share-row.result.1.me.0 ≡ c.args.all = ap (λ (me : Me (Unit {0}) ℕ). me.0) c.share-row.ensures.seat.2 in let live : 0 < c.share-row.result.1.me.0 = omega arith in
    (search rules, search rules, leaves_one _ _ _ live)

pub join-requires : goal.join-requires
join-requires c = (search rules, search rules, search rules, takes_in _ _ _ _ _)

pub returns-clause-drawn : goal.returns-clause-drawn
returns-clause-drawn c = let enough : 2 ≤ c.args.all = c.requires.2 in let own : c.share-row.result.1.me.0 ≡ c.args.all = ap (λ (me : Me (Unit {0}) ℕ). me.0) c.share-row.ensures.seat.2 in
    let left : c.split-other.new.seat.me.0 ≡ c.share-row.result.1.me.0 - 1 = ap (λ (me : Me (Unit {0}) ℕ). me.0) c.split-other.ensures.2 in let right : c.split-other.result.me.0 ≡ 1 = ap (λ (me : Me (Unit {0}) ℕ). me.0) c.split-other.ensures.4 in
    let drew : c.draw.new.seat.me.0 + 1 ≡ c.split-other.result.me.0 = c.draw.ensures.2 in let drew_too : c.draw-2.new.seat.me.0 + 1 ≡ c.split-other.new.seat.me.0 = c.draw-2.ensures.2 in
    let both : c.join.new.seat.me.0 ≡ c.draw-2.new.seat.me.0 + c.draw.new.seat.me.0 = ap (λ (me : Me (Unit {0}) ℕ). me.0) c.join.ensures.2 in let all_are : c.share-row.result.0.words.key ≡ c.args.all = c.share-row.ensures.row.2 in
    let few : slice_index c.into_row.result 0 + c.join.new.seat.me.0 ≤ c.share-row.result.0.words.key = drawn_at_the_end _ _ _ _ _ c.into_row.ensures.words.1 in omega arith
