-- The line of kinds, read and printed.
use Rattle.std.proofs.Common.{◌≡◌, refl, ◌∙◌, ap, subst, ℕ, ◌<◌, ◌≤◌, ◌^◌, arith, List, ◌++◌, Some}
use Rattle.std.specs.Prelude.{codes, option_and_then, option_map}
use Rattle.std.specs.Fmt.{decimal}
use Rattle.heap_picture.specs.declared.forms.KindCounts.{KindCounts}
use Rattle.heap_picture.specs.Forms.{LARGE, kinds_in, number_after, two_numbers}
use Rattle.heap_picture.specs.Texts.{kinds_line_text, two_text}
use Rattle.heap_picture.proofs.Choices.{then_read, mapped_read}
use Rattle.heap_picture.proofs.LineTexts.{Counted}
use Rattle.heap_picture.proofs.Numbers.{after_again, two_again}
use Rattle.heap_picture.proofs.NumbersRead.{after_read, two_read}

large : LARGE < 2 ^ 64
large = omega arith

-- eight numbers, with their words
abbrev spelled : ℕ → ℕ → ℕ → ℕ → ℕ → ℕ → ℕ → ℕ → KindCounts
spelled a b c d e f g h = record { free = a; bump = b; young = c; mature = d; immix = e; cells = f; large = g; kept = h }

fit_all : (a b c d e f g h : ℕ) → a ≤ LARGE → b ≤ LARGE → c ≤ LARGE → d ≤ LARGE → e ≤ LARGE → f ≤ LARGE → g ≤ LARGE → h ≤ LARGE → Counted (spelled a b c d e f g h)
fit_all a b c d e f g h a' b' c' d' e' f' g' h' = record { free = a'; bump = b'; young = c'; mature = d'; immix = e'; cells = f'; large = g'; kept = h' }

pub kinds_read : (line : List ℕ) (k : KindCounts) → kinds_in line ≡ Some k → (line ≡ kinds_line_text k) × Counted k
kinds_read line k e =
    let a = then_read _ (number_after (codes "kinds free ") LARGE line) k e in
    let b = then_read _ (number_after (codes " bump ") LARGE a.0.1) k a.2 in
    let c = then_read _ (number_after (codes " young ") LARGE b.0.1) k b.2 in
    let d = then_read _ (number_after (codes " mature ") LARGE c.0.1) k c.2 in
    let i = then_read _ (number_after (codes " immix ") LARGE d.0.1) k d.2 in
    let j = then_read _ (number_after (codes " cells ") LARGE i.0.1) k i.2 in
    let w = mapped_read _ (two_numbers (codes " large ") (codes " kept ") LARGE j.0.1) k j.2 in
    let at = after_read (codes "kinds free ") LARGE line a.0 large a.1 in
    let bt = after_read (codes " bump ") LARGE a.0.1 b.0 large b.1 in
    let ct = after_read (codes " young ") LARGE b.0.1 c.0 large c.1 in
    let dt = after_read (codes " mature ") LARGE c.0.1 d.0 large d.1 in
    let it = after_read (codes " immix ") LARGE d.0.1 i.0 large i.1 in
    let jt = after_read (codes " cells ") LARGE i.0.1 j.0 large j.1 in
    let wt = two_read (codes " large ") (codes " kept ") LARGE j.0.1 w.0 large w.1 in
    let text5 = ap (λ t. codes " cells " ++ (decimal j.0.0 ++ t)) wt.0 in
    let text4 = ap (λ t. codes " immix " ++ (decimal i.0.0 ++ t)) (jt.0 ∙ text5) in
    let text3 = ap (λ t. codes " mature " ++ (decimal d.0.0 ++ t)) (it.0 ∙ text4) in
    let text2 = ap (λ t. codes " young " ++ (decimal c.0.0 ++ t)) (dt.0 ∙ text3) in
    let text1 = ap (λ t. codes " bump " ++ (decimal b.0.0 ++ t)) (ct.0 ∙ text2) in
    let text0 = ap (λ t. codes "kinds free " ++ (decimal a.0.0 ++ t)) (bt.0 ∙ text1) in
    let fit = fit_all a.0.0 b.0.0 c.0.0 d.0.0 i.0.0 j.0.0 w.0.first w.0.second at.1 bt.1 ct.1 dt.1 it.1 jt.1 wt.1 wt.2 in
    (at.0 ∙ text0 ∙ ap kinds_line_text w.2, subst Counted w.2 fit)

pub kinds_again : (k : KindCounts) → Counted k → kinds_in (kinds_line_text k) ≡ Some k
kinds_again k fits =
    let t6 = two_text (codes " large ") k.large (codes " kept ") k.kept in
    let t5 = codes " cells " ++ (decimal k.cells ++ t6) in
    let t4 = codes " immix " ++ (decimal k.immix ++ t5) in
    let t3 = codes " mature " ++ (decimal k.mature ++ t4) in
    let t2 = codes " young " ++ (decimal k.young ++ t3) in
    let t1 = codes " bump " ++ (decimal k.bump ++ t2) in
    ap (option_and_then _) (after_again (codes "kinds free ") LARGE k.free t1 fits.free large (λ _. refl))
    ∙ ap (option_and_then _) (after_again (codes " bump ") LARGE k.bump t2 fits.bump large (λ _. refl))
    ∙ ap (option_and_then _) (after_again (codes " young ") LARGE k.young t3 fits.young large (λ _. refl))
    ∙ ap (option_and_then _) (after_again (codes " mature ") LARGE k.mature t4 fits.mature large (λ _. refl))
    ∙ ap (option_and_then _) (after_again (codes " immix ") LARGE k.immix t5 fits.immix large (λ _. refl))
    ∙ ap (option_and_then _) (after_again (codes " cells ") LARGE k.cells t6 fits.cells large (λ _. refl))
    ∙ ap (option_map _) (two_again (codes " large ") (codes " kept ") LARGE k.large k.kept fits.large fits.kept large (λ _. refl))
