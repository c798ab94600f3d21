use Rattle.std.proofs.Common.{◌≡◌, ◌∙◌, ap, Bool, true, false, codes, List, ℕ, ◌≤◌, length, arith}
use Rattle.std.proofs.lemmas.List.{length-map}
use Rattle.std.specs.Prelude.{Option, Some, is_some, string_bytes}
use Rattle.clap.specs.Matches.{found_of, one_text}
use Rattle.clap.specs.Simple.{is_simple, matches_of}
use Rattle.clap.specs.Walk.{rows_of}
use Rattle.clap.specs.Takes.{takes}
use Rattle.command_line.specs.Words.{value_of, Values}
use Rattle.command_line.specs.Orders.{texts}
use Rattle.command_line.specs.Reader.{reader}
use Rattle.command_line.proofs.Settings.{line_parts}
use Rattle.command_line.proofs.Walks.{simple}
use Rattle.command_line.proofs.TakenWords.{taken}
use Rattle.command_line.proofs.Matches.{finds, truth}
use Rattle.command_line.proofs.clap_values.read_values.Goals as goal

pub refused-requires : goal.refused-requires
refused-requires c =
    let few : length (texts c.args.words.now) ≤ 18446744073709551615 = omega (arith, length-map c.args.words.now string_bytes) in
    c.in-Err.ensures.passes (ap (λ a. takes a (texts c.args.words.now)) c.in_ok-command.ensures ∙ taken (texts c.args.words.now) c.requires few)

abbrev values : (p h w k : Option (List ℕ)) → Bool → Values
values p h w k b = record { plan = p; heap = h; workers = w; make = k; has_map = b }

same_values : (p h w k p' h' w' k' : Option (List ℕ)) (b b' : Bool) → p ≡ p' → h ≡ h' → w ≡ w' → k ≡ k' → b ≡ b' → values p h w k b ≡ values p' h' w' k' b'
same_values p h w k p' h' w' k' b b' e1 e2 e3 e4 e5 = cc

pub returns : goal.returns
returns c l e =
    let parts = line_parts (texts c.args.words.now) l e in
    let app = c.in_ok-command.ensures in
    let rows : rows_of (found_of c.in-Ok.matches) ≡ matches_of reader (texts c.args.words.now) =
    (c.in-Ok.ensures.matches (ap is_simple app ∙ simple)).0 ∙ ap (λ a. matches_of a (texts c.args.words.now)) app in
    let found = finds c.in-Ok.matches (texts c.args.words.now) l rows parts.0 parts.1 in
    let go : (b : Bool) → one_text (found_of c.in-Ok.matches) (codes "map") ≡ Some (truth b) → c.get_flag-map.result ≡ b = λ b flag.
    elim b as (λ v. one_text (found_of c.in-Ok.matches) (codes "map") ≡ Some (truth v) → c.get_flag-map.result ≡ v) [
      | true ↦ λ is. c.get_flag-map.ensures.value is
      | false ↦ λ is. c.get_flag-map.ensures.other is
    ] flag in
    same_values _ _ _ _ _ _ _ _ _ _ (c.get_str-plan.ensures ∙ found.plan) (c.get_str-heap.ensures ∙ found.heap) (c.get_str-workers.ensures ∙ found.workers) (c.get_str-make.ensures ∙ found.make)
    (go (is_some (value_of (codes "--map") l.settings)) found.flag)
