-- A load that no seat goes with finds the word of a state that keeps the rule. Assumes `Logic`.
use Rattle.shared_row.proofs.Names.{◌≡◌, ℕ, zero, suc, ◌+◌, ◌*◌, ◌<◌, List, [], ◌∷◌, refl, arith, length, get_or, Ura, SProp, ent, sep, all, apply∗, all_e, ex, upd_i, Share, Fml, ftrue, fsep, flft, Logic, sem, ‵, raw, ◌⊛◌, mean, ◌$◌, ◌∵◌, !, qed, by, move, drop, split, use1, use2, rewrite, show, frame, each, assume, suffices, fsplit, fsplit3, fjoin3, fpick, fpack, unit, RattleType, Ptr, block_ptr, block_of, count_of, nothing, asks, always, borrowed, Lies, Again, row_at, Reset, State, seated_fact as fact, TableId, age, word, row, standing, inner, common, set}

set_same : (ns : List ℕ) (i : ℕ) → set ns i (get_or ns i 0) ≡ ns
set_same [] i = refl
set_same (n ∷ ns) zero = refl
set_same (n ∷ ns) (suc i) = λ j. n ∷ set_same ns i j

module _ {M : Type 1} {𝓤 : Ura M} (𝓛 : Logic 𝓤) (V : RattleType) (holds : State (Unit {0}) V.Denot → Type 0) (w : Ptr) (z : TableId) (q : Share) (i : ℕ) where
  abbrev C : Fml
  C = common unit V.coded.code holds w w z

  abbrev I : Fml
  I = inner unit V.coded.code holds w w z

  -- some state that keeps the rule has this word there
  abbrev pub Has : ℕ → Type 0
  Has n = (s : State (Unit {0}) V.Denot) × holds s × (length s.words ≡ z.words) × (get_or s.words i 0 ≡ n)

  pub finds_word : i < z.words → ent 𝓤 (sep 𝓤 (sem 𝓛 C) (sep 𝓤 (𝓛.A.lft (age z) q) (sem 𝓛 ftrue))) (asks 𝓛 (block_ptr (block_of w) (i * 8 + count_of w)) (λ n. n) always (λ n. fsep (flft (age z) q) (fact (Has n))))
  finds_word inside = let b : ℕ = block_of w in let o : ℕ = count_of w in let e : ℕ = i * 8 + o in let after : ℕ → Fml = λ n. fact (Has n) in let Found : ℕ → SProp 𝓤 = Lies 𝓛 (age z) q I b e (λ n. n) always after in
      qed 𝓛 (‵ C ∷ ‵ (flft (age z) q) ∷ ‵ ftrue ∷ []) ∵ fsplit ! $ drop ! $
      by ! (borrowed 𝓛 (age z) q I b e (λ n. n) always after (mean 𝓛 (‵ ftrue)) (qed 𝓛 (‵ I ∷ ‵ ftrue ∷ []) ∵ suffices ! _ (upd_i 𝓤 (ex 𝓤 Found)) $ fpick ! (λ s. fsplit3 ! $ move ! (2 ∷ []) $ fpick ! (λ so. drop ! $
      let ns : List ℕ = s.words in let n : ℕ = get_or ns i 0 in let long : length ns ≡ z.words = so.1 in let Z : SProp 𝓤 = sep 𝓤 (sem 𝓛 I) (sem 𝓛 (after n)) in
      use1 𝓛 (‵ (word b e n) ⊛ raw (all 𝓤 (Reset 𝓛 b o e ns i))) (row_at 𝓛 b o e ns i (omega arith) refl) $ split ! $ show ! Found n $ frame ! $ each ! (λ (_ : Unit {0}). Again 𝓛 (age z) q I b e (λ m. m) always after n) (λ _.
      use1 𝓛 (raw (Reset 𝓛 b o e ns i n)) (all_e 𝓤 (Reset 𝓛 b o e ns i) n) $ assume ! (‵ (word b e n)) $ use2 𝓛 (‵ (row b o (set ns i n))) (apply∗ 𝓤 (sem 𝓛 (word b e n)) (sem 𝓛 (row b o (set ns i n)))) $
      rewrite ! 0 (λ (ms : List ℕ). ‵ (row b o ms)) (set_same ns i) refl $ suffices ! _ (upd_i 𝓤 Z) $ nothing ! $ fpack ! _ (λ _. ftrue) so $ move ! (1 ∷ 2 ∷ 0 ∷ []) $ fjoin3 ! $ fpack ! (State (Unit {0}) V.Denot) (standing unit V.coded.code holds w w z) s $ move ! (1 ∷ []) $ drop ! $
      frame ! $ nothing ! $ fpack ! (Has n) (λ _. ftrue) (s, so.0, so.1, refl) $ by ! (base.Logic.id⊢ 𝓤 _))))))
