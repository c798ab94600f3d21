-- The stretch of the made trace that is drawn.
use Rattle.std.proofs.Common.{◌≡◌, ◌≢◌, ◌∙◌, refl, sym, ap, ℕ, zero, suc, ◌+◌, ◌-◌, ◌<◌, ◌≤◌, inl, inr, arith, List, [], length, get_or, set}
use Rattle.std.proofs.lemmas.Bool.{cases_lt}
use Rattle.std.proofs.lemmas.List.{get_or-set_same, get_or-set_other, get_or_past}
use Rattle.ideal_heap.specs.declared.command.Command.{Command}
use Rattle.ideal_heap.specs.declared.command.Command.TheVariants as commands
use Rattle.stored_commands.specs.declared.form.Form.{Form}
use Rattle.stored_commands.specs.declared.form.Op.TheVariants.{Gc}
use Rattle.stored_commands.specs.Made.{command_at, made_from, made_trace}
use Rattle.stored_commands.specs.Stretches.{AreDrawn, drawn_at, form_at, narrow, state_at}

pub made-length : (left k x : ℕ) → length (made_from k left x) ≡ left
made-length zero k x = refl
made-length (suc left) k x = ap suc (made-length left (k + 1) (command_at k x).1)

pub trace-length : (n : ℕ) → length (made_trace n) ≡ n
unfolding made_trace
trace-length n = made-length n 0 n

pub trace-none : made_trace 0 ≡ []
unfolding made_trace
trace-none = refl

-- the state after a command
pub state-next : (n k : ℕ) → (command_at k (state_at n k)).1 ≡ state_at n (k + 1)
state-next n k = let next : suc k ≡ k + 1 = omega arith in ap (λ j. state_at n j) next

-- the commands from number k on, one by one
made-at : (n left k i : ℕ) → i < left → get_or (made_from k left (state_at n k)) i commands.Gc ≡ drawn_at n (k + i)
made-at n zero k i within = absurd (omega (arith, within))
made-at n (suc left) k zero within = let here : k ≡ k + 0 = omega arith in ap (λ j. drawn_at n j) here
made-at n (suc left) k (suc i) within =
    let there : k + 1 + i ≡ k + suc i = omega arith in
    ap (λ x. get_or (made_from (k + 1) left x) i commands.Gc) (state-next n k) ∙ made-at n left (k + 1) i (omega (arith, within)) ∙ ap (λ j. drawn_at n j) there

pub trace-at : (n k : ℕ) → k < n → get_or (made_trace n) k commands.Gc ≡ drawn_at n k
unfolding made_trace
trace-at n k within = let here : 0 + k ≡ k = omega arith in made-at n n 0 k within ∙ ap (λ j. drawn_at n j) here

pub trace-past : (n k : ℕ) → n ≤ k → get_or (made_trace n) k commands.Gc ≡ commands.Gc
trace-past n k past = let count : length (made_trace n) ≡ n = trace-length n in get_or_past (made_trace n) k commands.Gc (omega (arith, past, count))

-- a command of the trace is drawn
pub narrow-at : (n start end k : ℕ) (forms : List Form) → AreDrawn n start end forms → start ≤ k → k < end → end ≤ n → narrow (form_at forms (k - start)) ≡ get_or (made_trace n) k commands.Gc
narrow-at n start end k forms drawn from to within =
    let at : start + (k - start) ≡ k = omega (arith, from) in
    let inside : start + (k - start) < end = omega (arith, at, to) in
    drawn (k - start) inside ∙ ap (λ j. drawn_at n j) at ∙ sym (trace-at n k (omega (arith, to, within)))

-- one command more is drawn
pub state-more : (n k x y : ℕ) (c : Command) → x ≡ state_at n k → (c, y) ≡ command_at k x → y ≡ state_at n (k + 1)
state-more n k x y c state drawn = ap (λ p. p.1) drawn ∙ ap (λ z. (command_at k z).1) state ∙ state-next n k

pub drawn-now : (n k x y : ℕ) (c : Command) → x ≡ state_at n k → (c, y) ≡ command_at k x → c ≡ drawn_at n k
drawn-now n k x y c state drawn = ap (λ p. p.0) drawn ∙ ap (λ z. (command_at k z).0) state

pub drawn-more : (n start i x y : ℕ) (forms : List Form) (f : Form) → i < length forms → x ≡ state_at n (start + i) → (narrow f, y) ≡ command_at (start + i) x → AreDrawn n start (start + i) forms → AreDrawn n start (start + (i + 1)) (set forms i f)
drawn-more n start i x y forms f room state drawn before = λ j within. elim (cases_lt j i) as (λ _. narrow (form_at (set forms i f) j) ≡ drawn_at n (start + j)) [
  | inl less ↦
      let other : j ≢ i = λ is. omega (arith, less, is) in
      ap narrow (get_or-set_other forms i j f (record { op = Gc; a = 0; b = 0; c = 0 }) other) ∙ before j (omega (arith, less))
  | inr most ↦
      let here : j ≡ i = omega (arith, within, most) in
      ap (λ k. narrow (form_at (set forms i f) k)) here ∙ ap narrow (get_or-set_same forms i f (record { op = Gc; a = 0; b = 0; c = 0 }) room)
      ∙ drawn-now n (start + i) x y (narrow f) state drawn ∙ ap (λ k. drawn_at n (start + k)) (sym here)
]

pub drawn-none : (n start end : ℕ) (forms : List Form) → end ≤ start → AreDrawn n start end forms
drawn-none n start end forms none = λ i within. absurd (omega (arith, none, within))
