-- The lines of a summary, as they are appended.
use Rattle.std.proofs.Common.{◌≡◌, refl, sym, ◌∙◌, ap, ℕ, List, [], ◌++◌, append-nil, append_assoc}
use Rattle.std.specs.Prelude.{codes}
use Rattle.std.specs.Fmt.{decimal}
use Rattle.ideal_heap.specs.declared.reply.Reply.{Reply}
use Rattle.trace_text.specs.Text.{ended}
use Rattle.made_trace.specs.declared.counts.ReplyCounts.{ReplyCounts}
use Rattle.made_trace.specs.Counts.{AreCounts}
use Rattle.driver.specs.Texts.{counts_part}
use Rattle.driver.proofs.Lines.{onto}

abbrev line : List ℕ → ℕ → List ℕ
line word n = ended (word ++ decimal n)

abbrev five : List ℕ → List ℕ → List ℕ → List ℕ → List ℕ → List ℕ
five a b c d e = a ++ (b ++ (c ++ (d ++ (e ++ []))))

abbrev pub first_lines : ℕ → ReplyCounts → List ℕ
first_lines n c = five (line (codes "make ") n) (line (codes "new ") c.allocated) (line (codes "full ") c.full) (line (codes "ref ") c.reference) (line (codes "nil ") c.nil)

abbrev pub middle_line : ReplyCounts → List ℕ
middle_line c = ended (codes "num " ++ decimal c.number ++ codes " sum " ++ decimal c.sum)

abbrev pub last_lines : ReplyCounts → List ℕ
last_lines c = five (line (codes "ok ") c.done) (line (codes "yes ") c.yes) (line (codes "no ") c.no) (line (codes "null ") c.null) (line (codes "range ") c.range)

five-joined : (a b c d e : List ℕ) → five a b c d e ≡ a ++ b ++ c ++ d ++ e
five-joined a b c d e =
    ap (λ l. a ++ (b ++ (c ++ (d ++ l)))) (append-nil e)
    ∙ sym (append_assoc a b (c ++ (d ++ e)))
    ∙ sym (append_assoc (a ++ b) c (d ++ e))
    ∙ sym (append_assoc (a ++ b ++ c) d e)

five-onto : (x f g h i j : List ℕ) → x ++ five f g h i j ≡ x ++ f ++ g ++ h ++ i ++ j
five-onto x f g h i j =
    ap (λ l. x ++ l) (five-joined f g h i j)
    ∙ sym (append_assoc x (f ++ g ++ h ++ i) j)
    ∙ ap (λ l. l ++ j) (sym (append_assoc x (f ++ g ++ h) i))
    ∙ ap (λ l. l ++ i ++ j) (sym (append_assoc x (f ++ g) h))
    ∙ ap (λ l. l ++ h ++ i ++ j) (sym (append_assoc x f g))

-- the same as the definition has them
abbrev all_lines : ℕ → ReplyCounts → List ℕ
all_lines n c = line (codes "make ") n ++ line (codes "new ") c.allocated ++ line (codes "full ") c.full ++ line (codes "ref ") c.reference ++ line (codes "nil ") c.nil
    ++ middle_line c
    ++ line (codes "ok ") c.done ++ line (codes "yes ") c.yes ++ line (codes "no ") c.no ++ line (codes "null ") c.null ++ line (codes "range ") c.range

lines-joined : (n : ℕ) (c : ReplyCounts) → first_lines n c ++ middle_line c ++ last_lines c ≡ all_lines n c
lines-joined n c =
    ap (λ l. l ++ middle_line c ++ last_lines c) (five-joined (line (codes "make ") n) (line (codes "new ") c.allocated) (line (codes "full ") c.full) (line (codes "ref ") c.reference) (line (codes "nil ") c.nil))
    ∙ five-onto (line (codes "make ") n ++ line (codes "new ") c.allocated ++ line (codes "full ") c.full ++ line (codes "ref ") c.reference ++ line (codes "nil ") c.nil ++ middle_line c)
    (line (codes "ok ") c.done) (line (codes "yes ") c.yes) (line (codes "no ") c.no) (line (codes "null ") c.null) (line (codes "range ") c.range)

lines-are : (n : ℕ) (c : ReplyCounts) (replies : List Reply) → AreCounts c replies → all_lines n c ≡ counts_part n replies
lines-are n c replies are =
    rw (are.allocated, are.refused, are.refs, are.nils, are.numbers, are.total, are.dones, are.yeses, are.noes, are.nulls, are.ranges) refl

pub counted : (o : List ℕ) (n : ℕ) (c : ReplyCounts) (replies : List Reply) (t1 t2 t3 : List ℕ) → AreCounts c replies → t1 ≡ o ++ first_lines n c → t2 ≡ t1 ++ middle_line c
    → t3 ≡ t2 ++ last_lines c → t3 ≡ o ++ counts_part n replies
counted o n c replies t1 t2 t3 are first middle last =
    let two : t2 ≡ o ++ (first_lines n c ++ middle_line c) = onto o (first_lines n c) (middle_line c) t1 t2 first middle in
    let three : t3 ≡ o ++ (first_lines n c ++ middle_line c ++ last_lines c) = onto o (first_lines n c ++ middle_line c) (last_lines c) t2 t3 two last in
    three ∙ ap (λ l. o ++ l) (lines-joined n c ∙ lines-are n c replies are)
