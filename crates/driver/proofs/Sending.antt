-- Text that is sent to a sink through a piece.
use Rattle.std.proofs.Common.{◌≡◌, refl, sym, ◌∙◌, ap, subst, ℕ, ◌+◌, ◌<◌, ◌≤◌, arith, List, [], ◌∷◌, ◌++◌, take, drop, map, suc, length, get_or, append_assoc}
use Rattle.std.specs.Prelude.{Option, None, Some, Result, Ok, Err, OnOk, OnErr, codes}
use Rattle.std.specs.Fmt.{decimal}
use Rattle.std.specs.List.{flat_map, range_with_len}
use Rattle.std.proofs.lemmas.List.{append-nil, take-append-drop}
use Rattle.std.proofs.lemmas.Grind.{flat_map-append}
use Rattle.std.proofs.Math.Seq.{drop-cons}
use Rattle.ideal_heap.specs.declared.reply.Reply.{Reply}
use Rattle.std.proofs.lemmas.List.FromFn.{take-map-range_with_len, get_or-range_with_len, length-range_with_len}
use Rattle.ideal_heap.specs.Runs.{replies_of}
use Rattle.outside.specs.Outside.{AppendsText, AppendsPrefix}
use Rattle.outside.proofs.Pieces.{prefix_more, prefix_of_parts}
use Rattle.trace_text.specs.Text.{ended, mutator_text, replies_text, reply_text}
use Rattle.sessions.specs.Sessions.{Moment}
use Rattle.driver.specs.Texts.{replies_part}
use Rattle.driver.proofs.MutatorReplies.{map-same}

-- a text was sent, but for its end, which is in the piece
abbrev pub Sends : Option (List ℕ) → Option (List ℕ) → List ℕ → List ℕ → Type 0
Sends first now piece text = (sent : List ℕ) × AppendsText first now sent × (sent ++ piece ≡ text)

pub appends-nothing : (o : Option (List ℕ)) → AppendsText o o []
appends-nothing None = tt
appends-nothing (Some old) = ap Some (sym (append-nil old))

pub appends-more : (first now next : Option (List ℕ)) (x y : List ℕ) → AppendsText first now x → AppendsText now next y → AppendsText first next (x ++ y)
appends-more None now next x y so_far added = tt
appends-more (Some old) now next x y so_far added =
    let P : Option (List ℕ) → Type 0 = λ o. AppendsText o next y in
    let is : next ≡ Some ((old ++ x) ++ y) = subst P so_far added in
    is ∙ ap Some (append_assoc old x y)

-- the piece has more
pub sends-more : (first now : Option (List ℕ)) (piece text x : List ℕ) → Sends first now piece text → Sends first now (piece ++ x) (text ++ x)
sends-more first now piece text x so_far = (so_far.0, so_far.1, sym (append_assoc so_far.0 piece x) ∙ ap (λ l. l ++ x) so_far.2)

-- the whole piece is written
pub sends-all : (first now next : Option (List ℕ)) (piece text : List ℕ) → Sends first now piece text → AppendsText now next piece → AppendsText first next text
sends-all first now next piece text so_far added = subst (λ l. AppendsText first next l) so_far.2 (appends-more first now next so_far.0 piece so_far.1 added)

pub sends-emptied : (first now next : Option (List ℕ)) (piece text : List ℕ) → Sends first now piece text → AppendsText now next piece → Sends first next [] text
sends-emptied first now next piece text so_far added = (text, sends-all first now next piece text so_far added, append-nil text)

-- a prefix of the piece is written
pub sends-prefix : (first now next : Option (List ℕ)) (piece text rest : List ℕ) → Sends first now piece text → AppendsPrefix now next piece → AppendsPrefix first next (text ++ rest)
sends-prefix first now next piece text rest so_far added =
    let whole : so_far.0 ++ (piece ++ rest) ≡ text ++ rest = sym (append_assoc so_far.0 piece rest) ∙ ap (λ l. l ++ rest) so_far.2 in
    subst (λ l. AppendsPrefix first next l) whole (prefix_more first now next so_far.0 piece rest so_far.1 added)

-- a prefix of a text is one of a longer text
pub prefix-longer : (first next : Option (List ℕ)) (x y : List ℕ) → AppendsPrefix first next x → AppendsPrefix first next (x ++ y)
prefix-longer first next x y added = prefix_more first first next [] x y (appends-nothing first) added

-- a prefix of the last part is written
pub prefix-last : (first now next : Option (List ℕ)) (x y : List ℕ) → AppendsText first now x → AppendsPrefix now next y → AppendsPrefix first next (x ++ y)
prefix-last first now next x y so_far added = subst (λ l. AppendsPrefix first next (x ++ l)) (append-nil y) (prefix_more first now next x y [] so_far added)

-- what holds of an answer gives what follows from it
pub on-ok : {X E : Type 0} (r : Result X E) (P Q : Type 0) → (P → Q) → OnOk r P → OnOk r Q
on-ok (Ok x) P Q next holds = next holds
on-ok (Err e) P Q next holds = tt

pub on-err : {X E : Type 0} (r : Result X E) (P Q : Type 0) → (P → Q) → OnErr r P → OnErr r Q
on-err (Ok x) P Q next holds = tt
on-err (Err e) P Q next holds = next holds

-- the lines of more replies
text-split : (m : ℕ) (ys zs : List Reply) → mutator_text m (ys ++ zs) ≡ mutator_text m ys ++ replies_text zs
text-split m ys zs =
    let line : Reply → List ℕ = λ x. ended (reply_text x) in
    let head : List ℕ = ended (codes "mutator " ++ decimal m) in
    ap (λ l. head ++ l) (flat_map-append line ys zs) ∙ sym (append_assoc head (flat_map line ys) (flat_map line zs))

line-more : (m : ℕ) (ys : List Reply) (r : Reply) → mutator_text m (ys ++ r ∷ []) ≡ mutator_text m ys ++ ended (reply_text r)
line-more m ys r = text-split m ys (r ∷ []) ∙ ap (λ l. mutator_text m ys ++ l) (append-nil (ended (reply_text r)))

-- one line more is in the piece
pub sends-line : (first now : Option (List ℕ)) (m : ℕ) (ys : List Reply) (r : Reply) (piece more : List ℕ) → Sends first now piece (mutator_text m ys)
    → more ≡ piece ++ ended (reply_text r) → Sends first now more (mutator_text m (ys ++ r ∷ []))
sends-line first now m ys r piece more so_far is =
    let line : List ℕ = ended (reply_text r) in
    let next = sends-more first now piece (mutator_text m ys) line so_far in
    (next.0, next.1, ap (λ l. next.0 ++ l) is ∙ next.2 ∙ sym (line-more m ys r))

same-map : (ys : List Reply) → map (λ x. x) ys ≡ ys
same-map [] = refl
same-map (y ∷ ys) = ap (λ l. y ∷ l) (same-map ys)

-- the replies after the first ones
pub replies-split : (all ys : List Reply) (r : Reply) → map (λ x. x) ys ≡ take (length ys) all → (length ys < length all) × (r ≡ get_or all (length ys) r)
    → all ≡ (ys ++ r ∷ []) ++ drop (suc (length ys)) all
replies-split all ys r so_far at =
    let rest : List Reply = drop (suc (length ys)) all in
    sym (take-append-drop (length ys) all) ∙ ap (λ l. l ++ drop (length ys) all) (sym so_far ∙ same-map ys)
    ∙ ap (λ l. ys ++ l) (drop-cons all (length ys) r at.0 ∙ ap (λ x. x ∷ rest) (sym at.1)) ∙ sym (append_assoc ys (r ∷ []) rest)

-- a prefix of the piece is written, and more replies would follow
pub prefix-of-lines : (first now next : Option (List ℕ)) (m : ℕ) (all ys rest : List Reply) (piece : List ℕ) → Sends first now piece (mutator_text m ys)
    → all ≡ ys ++ rest → AppendsPrefix now next piece → AppendsPrefix first next (mutator_text m all)
prefix-of-lines first now next m all ys rest piece so_far is added =
    subst (λ l. AppendsPrefix first next l) (sym (ap (mutator_text m) is ∙ text-split m ys rest))
    (sends-prefix first now next piece (mutator_text m ys) (replies_text rest) so_far added)

-- all lines are written, or a prefix of them
pub all-lines : (first now next : Option (List ℕ)) (m : ℕ) (all ys : List Reply) (piece : List ℕ) → Sends first now piece (mutator_text m ys)
    → map (λ x. x) ys ≡ all → AppendsText now next piece → AppendsText first next (mutator_text m all)
all-lines first now next m all ys piece so_far is added =
    subst (λ rs. AppendsText first next (mutator_text m rs)) (sym (same-map ys) ∙ is) (sends-all first now next piece (mutator_text m ys) so_far added)

pub all-prefix : (first now next : Option (List ℕ)) (m : ℕ) (all ys : List Reply) (piece : List ℕ) → Sends first now piece (mutator_text m ys)
    → map (λ x. x) ys ≡ all → AppendsPrefix now next piece → AppendsPrefix first next (mutator_text m all)
all-prefix first now next m all ys piece so_far is added =
    prefix-of-lines first now next m all ys [] piece so_far (sym is ∙ same-map ys ∙ sym (append-nil ys)) added

-- a prefix of the replies of mutator m + 1 is written
pub prefix-of-replies : (last : Moment) (n m : ℕ) (first now next : Option (List ℕ)) → m < n → AppendsText first now (replies_part m last)
    → AppendsPrefix now next (mutator_text (m + 1) (replies_of (m + 1) last.done)) → AppendsPrefix first next (replies_part n last)
prefix-of-replies last n m first now next lt so_far added =
    let text : ℕ → List ℕ = λ k. mutator_text k (replies_of k last.done) in
    let few : m ≤ n = omega (arith, lt) in
    let front : take m (range_with_len 1 n) ≡ range_with_len 1 m =
    ap (take m) (sym (map-same (range_with_len 1 n))) ∙ take-map-range_with_len (λ x. x) 1 n m few ∙ map-same (range_with_len 1 m) in
    let one : 1 + m ≡ m + 1 = omega (arith) in
    let at : get_or (range_with_len 1 n) m 0 ≡ m + 1 = get_or-range_with_len 1 n m 0 lt ∙ one in
    let there : m < length (range_with_len 1 n) = subst (λ k. m < k) (sym (length-range_with_len 1 n)) lt in
    prefix_of_parts text (range_with_len 1 n) m 0 first now next there
    (subst (λ ks. AppendsText first now (flat_map text ks)) (sym front) so_far)
    (subst (λ k. AppendsPrefix now next (text k)) (sym at) added)
