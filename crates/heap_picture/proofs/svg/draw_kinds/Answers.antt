use Rattle.std.proofs.Common.{◌≡◌, ℕ, List, ◌++◌}
use Rattle.std.specs.Prelude.{codes}
use Rattle.heap_picture.specs.Drawn.{pair_text}
use Rattle.heap_picture.proofs.Appends.{then}
use Rattle.heap_picture.proofs.svg.draw_kinds.Goals as goal

pub returns : goal.returns
returns c =
    let k = c.args.k.now in
    let t0 : List ℕ = c.args.to.now.items in
    let a1 : List ℕ = pair_text (codes "96") (codes "blocks free ") k.free (codes " bump ") k.bump in
    let t1 : List ℕ = c.draw_pair.new.to.items in
    let e1 : t1 ≡ t0 ++ a1 = c.in_ok-draw_pair.ensures in
    let a2 : List ℕ = pair_text (codes "112") (codes "blocks young ") k.young (codes " mature ") k.mature in
    let t2 : List ℕ = c.draw_pair-2.new.to.items in
    let e2 : t2 ≡ t1 ++ a2 = c.in_ok-draw_pair-2.ensures in
    let a3 : List ℕ = pair_text (codes "128") (codes "blocks immix ") k.immix (codes " cells ") k.cells in
    let t3 : List ℕ = c.draw_pair-3.new.to.items in
    let e3 : t3 ≡ t2 ++ a3 = c.in_ok-draw_pair-3.ensures in
    let a4 : List ℕ = pair_text (codes "144") (codes "blocks large ") k.large (codes " kept ") k.kept in
    let t4 : List ℕ = c.draw_pair-4.new.to.items in
    let e4 : t4 ≡ t3 ++ a4 = c.in_ok-draw_pair-4.ensures in
    then t0 (a1 ++ a2 ++ a3) a4 t3 t4 (then t0 (a1 ++ a2) a3 t2 t3 (then t0 a1 a2 t1 t2 e1 e2) e3) e4
