-- The live line in a text, and the summary of a session of one trace.
use Rattle.std.proofs.Common.{◌≡◌, sym, ◌∙◌, ap, ap₂, ℕ, ◌≤◌, false, Bool, List, [], ◌∷◌, ◌++◌, length, append_assoc, codes, if◌then◌else◌, count_by}
use Rattle.std.specs.List.{AllByRecursion}
use Rattle.std.specs.Fmt.{decimal}
use Rattle.ideal_heap.specs.declared.name.Name.{Name}
use Rattle.ideal_heap.specs.declared.command.Command.{Command}
use Rattle.ideal_heap.specs.declared.reply.Reply.{Reply}
use Rattle.ideal_heap.specs.Runs.{is_full, replies_of}
use Rattle.trace_text.specs.Text.{ended}
use Rattle.sessions.specs.Plans.{Plan, plan_word}
use Rattle.sessions.specs.Sessions.{Setting, Moment, IsSound, IsWhole, ideal_at}
use Rattle.sessions.proofs.Histories.{replies-same}
use Rattle.driver.specs.Texts.{live_line, held_line, kinds_line, map_part, replies_part, IsSessionText, IsSummary, counts_part}
use Rattle.driver.specs.LiveNames.{AreLiveNames, ideal_live_line}
use Rattle.driver.proofs.LiveNames.{live-line, lines-same}

-- the report's lines before the live line
abbrev pub first_lines : Plan → ℕ → Moment → List ℕ
first_lines plan n last =
    ended (codes "plan " ++ plan_word plan)
    ++ ended (codes "blocks " ++ decimal last.heap.blocks)
    ++ ended (codes "mutators " ++ decimal n)
    ++ ended (codes "commands " ++ decimal (length last.done))
    ++ ended (codes "full " ++ decimal (count_by (λ e. is_full e.reply) last.done))
    ++ ended (codes "collections nursery " ++ decimal last.nursery ++ codes " full " ++ decimal last.full)

regrouped : (replies first line held kinds map : List ℕ) → (replies ++ (first ++ line ++ held ++ kinds)) ++ map ≡ ((replies ++ first) ++ line) ++ ((held ++ kinds) ++ map)
regrouped replies first line held kinds map =
    ap (λ x. (replies ++ x) ++ map) (append_assoc (first ++ line) held kinds)
    ∙ ap (λ x. x ++ map) (sym (append_assoc replies (first ++ line) (held ++ kinds)) ∙ ap (λ x. x ++ (held ++ kinds)) (sym (append_assoc replies first line)))
    ∙ append_assoc ((replies ++ first) ++ line) (held ++ kinds) map

-- what follows the live line
abbrev pub last_lines : Bool → Moment → List ℕ → List ℕ
last_lines has_map last live = (held_line last.heap ++ kinds_line last.heap) ++ (if has_map then map_part last live else [])

pub text-parts : (plan : Plan) (n : ℕ) (has_map : Bool) (last : Moment) (text : List ℕ) → (is : IsSessionText plan n has_map last text)
    → text ≡ ((replies_part n last ++ first_lines plan n last) ++ live_line last.heap is.live) ++ last_lines has_map last is.live
text-parts plan n has_map last text is =
    is.printed ∙ regrouped (replies_part n last) (first_lines plan n last) (live_line last.heap is.live) (held_line last.heap) (kinds_line last.heap) (if has_map then map_part last is.live else [])

pub ideal-text : (t : Setting) (plan : Plan) (n : ℕ) (has_map : Bool) (last : Moment) (text : List ℕ) (names : List Name) → IsSound t last → IsSessionText plan n has_map last text
    → AreLiveNames (ideal_at last) names → (front : List ℕ) × (rest : List ℕ) × (text ≡ front ++ ideal_live_line (ideal_at last) names ++ rest)
ideal-text t plan n has_map last text names sound is so = (
  replies_part n last ++ first_lines plan n last,
  last_lines has_map last is.live,
  text-parts plan n has_map last text is
      ∙ ap (λ l. ((replies_part n last ++ first_lines plan n last) ++ l) ++ last_lines has_map last is.live) (live-line t last is.live sound is.are names so),
)

summary-is : (n : ℕ) (last : Moment) (text : List ℕ) → (is : IsSummary n last text) → text ≡ counts_part n (replies_of 1 last.done) ++ live_line last.heap is.live
summary-is n last text is = is.printed

pub summaries-same : (t u : Setting) (trace : List Command) (n : ℕ) (last end : Moment) (text other : List ℕ) → 4 ≤ t.blocks → t.blocks ≤ 1024 → 4 ≤ u.blocks → u.blocks ≤ 1024
    → t.traces ≡ trace ∷ [] → u.traces ≡ trace ∷ [] → IsWhole t last → IsWhole u end
    → AllByRecursion (λ e. is_full e.reply ≡ false) last.done → AllByRecursion (λ e. is_full e.reply ≡ false) end.done → IsSummary n last text → IsSummary n end other → text ≡ other
summaries-same t u trace n last end text other least most least' most' one one' whole whole' none none' is so =
    let replies = replies-same t u trace last end one one' whole whole' none none' in
    let line = lines-same t u trace last end is.live so.live least most least' most' one one' whole whole' none none' is.are so.are in
    summary-is n last text is ∙ ap₂ (λ (rs : List Reply) (l : List ℕ). counts_part n rs ++ l) replies line ∙ sym (summary-is n end other so)
