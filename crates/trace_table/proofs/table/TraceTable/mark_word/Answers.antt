use Rattle.std.proofs.Common.{◌≡◌, ℕ, ◌+◌, ◌-◌, ◌<◌, ◌≤◌, refl, sym, ap, ◌∙◌, subst, arith}
use Rattle.heap_layout.specs.Zones.{LineWords, first, heap_of, line_at, row_words}
use Rattle.trace_core.specs.Setups.{Setup, blocks, size}
use Rattle.trace_core.specs.Views.{hits}
use Rattle.trace_words.specs.declared.share.Share.{Share}
use Rattle.trace_table.proofs.SeatShares.{share-is, room-trans}
use Rattle.trace_table.proofs.Copyings.{seat-kept}
use Rattle.trace_table.proofs.MarkedLines.{marks-trans, may-mark, marks-lined, room-lined, marks-seen, room-seen, lined-word}
use Rattle.trace_table.proofs.table.TraceTable.mark_word.Goals as goal

pub mark_lines-requires-clause-may : goal.mark_lines-requires-clause-may
mark_lines-requires-clause-may g c = let p : Setup = g.C.About.setup in let x : ℕ = g.C.About.object in let t : ℕ = g.C.About.target in
    let same : c.args.self.now.layout.blocks ≡ blocks p = c.requires.table.layout ∙ ap (λ (q : Setup). blocks q) c.requires.about.0 in
    let at : c.line_at.result + c.args.word ≡ first (blocks p) LineWords + c.args.word = (let line = c.line_at.ensures in omega arith) in
    may-mark p x t c.args.first c.args.last (subst (λ n. heap_of (blocks p) ≤ n) c.requires.about.2 c.requires.start)
    (subst (λ n. n + size p x ≤ row_words (blocks p)) c.requires.about.2 c.requires.within)
    (c.requires.first ∙ ap (line_at (blocks p)) c.requires.about.2) (c.requires.last ∙ ap (λ n. line_at (blocks p) (n + size p x - 1)) c.requires.about.2)
    c.args.word c.saturating_sub-low.result c.min-high.result (c.line_at.result + c.args.word) c.run_mask-mask.result at
    (omega (arith, c.saturating_sub-low.ensures)) (omega (arith, c.min-high.ensures)) (omega (arith, c.min-high.ensures))
    c.requires.word.0 c.requires.word.1 c.run_mask-mask.ensures.only c.look_at_lines-marked.new.seat.me.0
    (subst (λ (u : Share). 0 < u.parts) (sym (share-is _ _ c.look_at_lines-marked.ensures.lines)) c.requires.seat.live)
    (subst (λ (u : Share). 0 < hits x t u.known) (sym (share-is _ _ c.look_at_lines-marked.ensures.lines)) c.requires.knows)

pub returns-then-has_all-clause-seat : goal.returns-then-has_all-clause-seat
returns-then-has_all-clause-seat g c = let is = share-is _ _ c.look_at_lines-marked.ensures.lines in
    seat-kept c.args.self.now c.args.seat.now _ c.requires.seat c.look_at_lines-marked.ensures.own refl refl refl refl (room-seen _ _ _ _ is) (marks-seen _ _ _ _ is).keeps

pub returns-then-has_all-clause-marks : goal.returns-then-has_all-clause-marks
returns-then-has_all-clause-marks g c = marks-seen _ _ _ _ (share-is _ _ c.look_at_lines-marked.ensures.lines)

pub returns-then-has_all-clause-lines : goal.returns-then-has_all-clause-lines
returns-then-has_all-clause-lines g c = let p : Setup = g.C.About.setup in let x : ℕ = g.C.About.object in let t : ℕ = g.C.About.target in
    let same : c.args.self.now.layout.blocks ≡ blocks p = c.requires.table.layout ∙ ap (λ (q : Setup). blocks q) c.requires.about.0 in
    let at : c.line_at.result + c.args.word ≡ first (blocks p) LineWords + c.args.word = (let line = c.line_at.ensures in omega arith) in
    lined-word p x t c.args.first c.args.last (subst (λ n. heap_of (blocks p) ≤ n) c.requires.about.2 c.requires.start)
    (subst (λ n. n + size p x ≤ row_words (blocks p)) c.requires.about.2 c.requires.within)
    (c.requires.first ∙ ap (line_at (blocks p)) c.requires.about.2) (c.requires.last ∙ ap (λ n. line_at (blocks p) (n + size p x - 1)) c.requires.about.2)
    c.args.seat.now.seat.me.0.lined c.look_at_lines-marked.new.seat.me.0 c.args.word c.saturating_sub-low.result c.min-high.result (c.line_at.result + c.args.word) c.look_at_lines-marked.result at
    (omega (arith, c.saturating_sub-low.ensures)) (λ k few within. omega (arith, c.min-high.ensures))
    (λ k is. c.has_all.ensures c.if-has_all.true k (c.run_mask-mask.ensures.inside k is)) (ap (λ (u : Share). u.lined) (share-is _ _ c.look_at_lines-marked.ensures.lines))

pub returns-clause-seat : goal.returns-clause-seat
returns-clause-seat g c = let seen = share-is _ _ c.look_at_lines-marked.ensures.lines in let is = share-is _ _ c.mark_lines.ensures.share in
    seat-kept c.args.self.now c.args.seat.now _ c.requires.seat (c.mark_lines.ensures.own ∙ c.look_at_lines-marked.ensures.own) refl refl refl refl
    (room-trans _ _ _ (room-seen _ _ _ _ seen) (room-lined g.C.About.object _ _ _ _ is)) (marks-trans _ _ _ (marks-seen _ _ _ _ seen) (marks-lined g.C.About.object _ _ _ _ is)).keeps

pub returns-clause-marks : goal.returns-clause-marks
returns-clause-marks g c = marks-trans _ _ _ (marks-seen _ _ _ _ (share-is _ _ c.look_at_lines-marked.ensures.lines)) (marks-lined g.C.About.object _ _ _ _ (share-is _ _ c.mark_lines.ensures.share))

pub returns-clause-lines : goal.returns-clause-lines
returns-clause-lines g c = let p : Setup = g.C.About.setup in let x : ℕ = g.C.About.object in let t : ℕ = g.C.About.target in
    let same : c.args.self.now.layout.blocks ≡ blocks p = c.requires.table.layout ∙ ap (λ (q : Setup). blocks q) c.requires.about.0 in
    let at : c.line_at.result + c.args.word ≡ first (blocks p) LineWords + c.args.word = (let line = c.line_at.ensures in omega arith) in
    lined-word p x t c.args.first c.args.last (subst (λ n. heap_of (blocks p) ≤ n) c.requires.about.2 c.requires.start)
    (subst (λ n. n + size p x ≤ row_words (blocks p)) c.requires.about.2 c.requires.within)
    (c.requires.first ∙ ap (line_at (blocks p)) c.requires.about.2) (c.requires.last ∙ ap (λ n. line_at (blocks p) (n + size p x - 1)) c.requires.about.2)
    c.look_at_lines-marked.new.seat.me.0.lined c.mark_lines.new.seat.me.0 c.args.word c.saturating_sub-low.result c.min-high.result (c.line_at.result + c.args.word) c.run_mask-mask.result at
    (omega (arith, c.saturating_sub-low.ensures)) (λ k few within. omega (arith, c.min-high.ensures))
    c.run_mask-mask.ensures.inside (ap (λ (u : Share). u.lined) (share-is _ _ c.mark_lines.ensures.share))
