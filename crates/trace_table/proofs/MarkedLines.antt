-- The share of a seat that marks an object's lines.
use Rattle.std.proofs.Common.{◌≡◌, ℕ, ◌+◌, ◌*◌, ◌-◌, ◌/◌, ◌%◌, ◌<◌, ◌≤◌, inl, inr, List, ◌∷◌, refl, sym, ap, ◌∙◌, subst, arith}
use Rattle.std.specs.Int.{bit_at}
use Rattle.std.proofs.lemmas.Bool.{cases_eq}
use Rattle.heap_layout.specs.Zones.{LineWords, first, heap_of, line_at, row_words}
use Rattle.line_bits.specs.LineMarks.{IsFromTo}
use Rattle.object_model.specs.Lines.{TouchesLine}
use Rattle.object_model.proofs.Lines.{touched-line, first-line, last-line}
use Rattle.trace_core.specs.Setups.{Setup, blocks, size}
use Rattle.trace_core.specs.Views.{hits}
use Rattle.trace_core.proofs.CountedRights.{hits-here, hits-more}
use Rattle.trace_words.specs.declared.share.Share.{Share}
use Rattle.trace_words.specs.Rule.{HasLined}
use Rattle.trace_words.specs.Shares.{sees_lines, sets_lines}
use Rattle.trace_words.specs.Steps.{MayMark}
use Rattle.trace_table.specs.declared.tokens.Grey.{Grey}
use Rattle.trace_table.specs.Seats.{Keeps, MarksOnly, SameRoom, Scans}
use Rattle.trace_table.proofs.SeatShares.{keeps-not, keeps-trans}
use Rattle.trace_table.proofs.FieldScans.{pushes-marked, scans-trans}

pub marks-not : (v : Share) → MarksOnly v v
marks-not v = record { keeps = keeps-not v; gave = refl; took = refl; won = refl; grey = refl; copied = refl; asked = refl }

pub marks-trans : (u v w : Share) → MarksOnly u v → MarksOnly v w → MarksOnly u w
marks-trans u v w a b = record {
  keeps = keeps-trans u v w a.keeps b.keeps;
  gave = b.gave ∙ a.gave;
  took = b.took ∙ a.took;
  won = b.won ∙ a.won;
  grey = b.grey ∙ a.grey;
  copied = b.copied ∙ a.copied;
  asked = b.asked ∙ a.asked;
}

pub marks-lined : (x word mask : ℕ) (v w : Share) → w ≡ sets_lines x word mask v → MarksOnly v w
marks-lined x word mask v w is = subst (MarksOnly v) (sym is) (record {
  keeps = record { parts = refl; token = refl; worker = refl; numbers = refl; unset = refl; last = refl; known = λ y t has. has; lined = λ i m has. hits-more word mask v.lined i m has; busy = λ c has. has; sparse = refl };
  gave = refl;
  took = refl;
  won = refl;
  grey = refl;
  copied = refl;
  asked = refl;
})

pub room-lined : (x word mask : ℕ) (v w : Share) → w ≡ sets_lines x word mask v → SameRoom v w
room-lined x word mask v w is = subst (SameRoom v) (sym is) (record { parts = refl; worker = refl; front = refl; limit = refl; filling = refl })

-- a look at line bits
pub marks-seen : (word found : ℕ) (v w : Share) → w ≡ sees_lines word found v → MarksOnly v w
marks-seen word found v w is = subst (MarksOnly v) (sym is) (record {
  keeps = record { parts = refl; token = refl; worker = refl; numbers = refl; unset = refl; last = refl; known = λ y t has. has; lined = λ i m has. hits-more word found v.lined i m has; busy = λ c has. has; sparse = refl };
  gave = refl;
  took = refl;
  won = refl;
  grey = refl;
  copied = refl;
  asked = refl;
})

pub room-seen : (word found : ℕ) (v w : Share) → w ≡ sees_lines word found v → SameRoom v w
room-seen word found v w is = subst (SameRoom v) (sym is) (record { parts = refl; worker = refl; front = refl; limit = refl; filling = refl })

-- lines that were marked stay so
pub lined-on : (p : Setup) (v w : Share) (line : ℕ) → Keeps v w → HasLined p v line → HasLined p w line
lined-on p v w line keeps has = (has.0, has.1, keeps.lined (first (blocks p) LineWords + line / 64) has.0 has.2)

-- the lines of an object at t, of n words, from line `from` to line `to`
module _ (p : Setup) (x t from to : ℕ) (start : heap_of (blocks p) ≤ t) (within : t + size p x ≤ row_words (blocks p)) (from-is : from ≡ line_at (blocks p) t) (to-is : to ≡ line_at (blocks p) (t + size p x - 1)) where
  -- bits `low` to `high` of the word of these lines are marked
  module _ (word low high at mask : ℕ) (at-is : at ≡ first (blocks p) LineWords + word) (low-is : low ≡ from - 64 * word) (high-to : high ≤ to - 64 * word) (high-63 : high ≤ 63)
      (after : from / 64 ≤ word) (before : word ≤ to / 64) (only : (k : ℕ) → bit_at mask k ≡ 1 → IsFromTo low high k) where
    pub may-mark : (v : Share) → 0 < v.parts → 0 < hits x t v.known → MayMark p v x t at mask
    may-mark v live known = record {
      live = live;
      target = known;
      zone = record { from = omega arith; below = omega arith };
      lines = λ k set. (let is = only k set in let least = is.after in let most = is.most in (
        omega arith,
        subst (λ i. TouchesLine (blocks p) t (size p x) (64 * i + k)) (let same : word ≡ at - first (blocks p) LineWords = omega arith in same)
            (touched-line (blocks p) t (size p x) (64 * word + k) start (omega arith) (omega arith) (omega arith)),
      ));
    }

  -- all of its lines in a word are, if those of a mask are known to be
  pub lined-word : (l : List (ℕ × ℕ)) (w : Share) (word low high at mask : ℕ) → at ≡ first (blocks p) LineWords + word → low ≡ from - 64 * word → ((k : ℕ) → k ≤ 63 → k ≤ to - 64 * word → k ≤ high)
      → ((k : ℕ) → IsFromTo low high k → bit_at mask k ≡ 1) → w.lined ≡ (at, mask) ∷ l → (line : ℕ) → from ≤ line → line ≤ to → line / 64 ≡ word → HasLined p w line
  lined-word l w word low high at mask at-is low-is high-is inside is line least most here = (
    mask,
    inside (line % 64) (record { after = omega arith; most = high-is (line % 64) (omega arith) (omega arith) }),
    subst (λ m. 0 < hits (first (blocks p) LineWords + line / 64) mask m) (sym is)
        (subst (λ i. 0 < hits i mask ((at, mask) ∷ l)) (at-is ∙ ap (λ n. first (blocks p) LineWords + n) (sym here)) (hits-here at mask l)),
  )

  -- a line that it touches is one of these
  pub touched-between : (line : ℕ) → TouchesLine (blocks p) t (size p x) line → (from ≤ line) × (line ≤ to)
  touched-between line touches = let a = first-line (blocks p) t (size p x) line start touches in let b = last-line (blocks p) t (size p x) line start touches in (omega arith, omega arith)

-- one word more
pub lines-next : (p : Setup) (v w : Share) (from to word : ℕ) → Keeps v w → ((line : ℕ) → from ≤ line → line ≤ to → line / 64 < word → HasLined p v line)
    → ((line : ℕ) → from ≤ line → line ≤ to → line / 64 ≡ word → HasLined p w line) → (line : ℕ) → from ≤ line → line ≤ to → line / 64 < word + 1 → HasLined p w line
lines-next p v w from to word keeps before here line least most below = elim (cases_eq (line / 64) word) as (λ _. HasLined p w line) [
  | inl is ↦ here line least most is
  | inr ne ↦ lined-on p v w line keeps (before line least most (omega arith))
]

-- marks after a scan
pub scans-marked : (n : ℕ) (v w u : Share) (a b : List Grey) → Scans n v w a b → MarksOnly w u → Scans n v u a b
scans-marked n v w u a b scans marks = scans-trans n v w u a b b scans (record { pushes = pushes-marked w u b marks; took = (let c = marks.took in omega arith) })
