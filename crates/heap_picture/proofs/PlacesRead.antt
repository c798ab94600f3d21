-- Lines of the map, read and printed.
use Rattle.std.proofs.Common.{◌≡◌, refl, ◌∙◌, ap, subst, ℕ, ◌<◌, ◌≤◌, ◌^◌, arith, List, ◌++◌, append_assoc, Some}
use Rattle.std.specs.Prelude.{codes, option_and_then, option_map}
use Rattle.std.specs.Fmt.{decimal}
use Rattle.driver.specs.Texts.{place_line}
use Rattle.trace_text.specs.Text.{ended}
use Rattle.heap_picture.specs.declared.forms.Place.{Place}
use Rattle.heap_picture.specs.Bars.{map_place}
use Rattle.heap_picture.specs.Forms.{SMALL, number_after, place_in, two_numbers}
use Rattle.heap_picture.specs.Texts.{Fits, place_text, two_text}
use Rattle.heap_picture.proofs.Choices.{mapped_read, then_read}
use Rattle.heap_picture.proofs.Numbers.{after_again, two_again}
use Rattle.heap_picture.proofs.NumbersRead.{after_read, two_read}

small : SMALL < 2 ^ 64
small = omega arith

fit_all : (m b k w s : ℕ) → m ≤ SMALL → b ≤ SMALL → k ≤ SMALL → w ≤ SMALL → s ≤ SMALL → Fits (record { mutator = m; birth = b; block = k; word = w; size = s })
fit_all m b k w s one two three four five = record { mutator = one; birth = two; block = three; word = four; size = five }

pub place_read : (line : List ℕ) (p : Place) → place_in line ≡ Some p → (line ≡ place_text p) × Fits p
place_read line p e =
    let a = then_read _ (number_after (codes "map ") SMALL line) p e in
    let b = then_read _ (number_after (codes ".") SMALL a.0.1) p a.2 in
    let d = then_read _ (number_after (codes " block ") SMALL b.0.1) p b.2 in
    let w = mapped_read _ (two_numbers (codes " word ") (codes " size ") SMALL d.0.1) p d.2 in
    let at = after_read (codes "map ") SMALL line a.0 small a.1 in
    let bt = after_read (codes ".") SMALL a.0.1 b.0 small b.1 in
    let dt = after_read (codes " block ") SMALL b.0.1 d.0 small d.1 in
    let wt = two_read (codes " word ") (codes " size ") SMALL d.0.1 w.0 small w.1 in
    let fit = fit_all a.0.0 b.0.0 d.0.0 w.0.first w.0.second at.1 bt.1 dt.1 wt.1 wt.2 in (
      at.0 ∙ ap (λ t. codes "map " ++ (decimal a.0.0 ++ t)) bt.0
          ∙ ap (λ t. codes "map " ++ (decimal a.0.0 ++ (codes "." ++ (decimal b.0.0 ++ t)))) dt.0
          ∙ ap (λ t. codes "map " ++ (decimal a.0.0 ++ (codes "." ++ (decimal b.0.0 ++ (codes " block " ++ (decimal d.0.0 ++ t)))))) wt.0
          ∙ ap place_text w.2,
      subst Fits w.2 fit,
    )

pub place_again : (p : Place) → Fits p → place_in (place_text p) ≡ Some p
place_again p fits =
    let t2 = two_text (codes " word ") p.word (codes " size ") p.size in
    let t1 = codes " block " ++ (decimal p.block ++ t2) in
    let t0 = codes "." ++ (decimal p.birth ++ t1) in
    ap (option_and_then _) (after_again (codes "map ") SMALL p.mutator t0 fits.mutator small (λ _. refl))
    ∙ ap (option_and_then _) (after_again (codes ".") SMALL p.birth t1 fits.birth small (λ _. refl))
    ∙ ap (option_and_then _) (after_again (codes " block ") SMALL p.block t2 fits.block small (λ _. refl))
    ∙ ap (option_map _) (two_again (codes " word ") (codes " size ") SMALL p.word p.size fits.word fits.size small (λ _. refl))

pub place_line_is : (p : Place) → place_line (map_place p) ≡ ended (place_text p)
place_line_is p = simp append_assoc refl
