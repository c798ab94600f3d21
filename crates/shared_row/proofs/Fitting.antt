-- Words that lie in memory fit 64 bits. Assumes `Logic`.
use Rattle.shared_row.proofs.Names.{ℕ, zero, suc, ◌+◌, ◌^◌, ◌<◌, T, List, [], ◌∷◌, lit<, w64, Ura, ty_int, vint, has_ty, WT, full_share, ent, guard, guard_i, Logic, sem, ‵, given, ◌$◌, ◌∵◌, !, qed, move, fsplit, learn, check, use1, done, cells, u64, mem, part_at, Ptr, block_of, count_of, word_out, word_in, word, strip}
use Rattle.shared_row.specs.Words.{AllFit}

next_fits : (n : ℕ) (ns : List ℕ) → n < 2 ^ 64 → AllFit ns → AllFit (n ∷ ns)
next_fits n ns fit others zero = fit
next_fits n ns fit others (suc i) = others i

module _ {M : Type 1} {𝓤 : Ura M} (𝓛 : Logic 𝓤) where
  cells_fit : (ns : List ℕ) (b o : ℕ) → ent 𝓤 (sem 𝓛 (cells (mem u64) ns b o)) (guard 𝓤 (AllFit ns) (sem 𝓛 (cells (mem u64) ns b o)))
  cells_fit [] b o = guard_i 𝓤 (AllFit []) _ (λ i. lit< tt)
  cells_fit (n ∷ ns) b o = qed 𝓛 (‵ (part_at u64 full_share n b o) ∷ ‵ (cells (mem u64) ns b (o + 8)) ∷ []) ∵ use1 𝓛 (‵ (word b o n)) (word_out 𝓛 b o n) $
      use1 𝓛 (given (T (has_ty (ty_int w64) (vint w64 n)) × WT (vint w64 n)) (‵ (word b o n))) (𝓛.laws.at_wt full_share (ty_int w64) b o (vint w64 n)) $ learn ! (λ typed. use1 𝓛 (‵ (part_at u64 full_share n b o)) (word_in 𝓛 b o n) $ move ! (1 ∷ []) $
      use1 𝓛 (given (AllFit ns) (‵ (cells (mem u64) ns b (o + 8)))) (cells_fit ns b (o + 8)) $ learn ! (λ others. check ! (next_fits n ns typed.1.fits others) $ move ! (1 ∷ 0 ∷ []) $ done !))

  pub strip_fits : (p : Ptr) (ns : List ℕ) → ent 𝓤 (sem 𝓛 (strip u64 p ns)) (guard 𝓤 (AllFit ns) (sem 𝓛 (strip u64 p ns)))
  strip_fits p ns = qed 𝓛 (‵ (strip u64 p ns) ∷ []) ∵ fsplit ! $ move ! (1 ∷ []) $ use1 𝓛 (given (AllFit ns) (‵ (cells (mem u64) ns (block_of p) (count_of p)))) (cells_fit ns (block_of p) (count_of p)) $ learn ! (λ fit. check ! fit $ move ! (1 ∷ 0 ∷ []) $ done !)
