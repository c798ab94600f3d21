-- The right to free a block: its machine value is a lease's, it is made of the allocator's token, and it may go to another thread. Assumes `Logic`.
use Rattle.shared_row.proofs.Names.{ℕ, ◌^◌, ◌<◌, List, [], ◌∷◌, refl, ◌≡◌, ◌∙◌, ◌++◌, w64, Val, vint, vptr, vstruct, vnil, of_list, Logic, Goal, Step, kit_step as step, Seq, Item, ‵, ◌$◌, drop, fsplit, fjoin, fpick, feq_l, Ura, RattleType, IsSend, IsSync, Frees, part_keyless, block_ptr, pure_i, Struct, shape, AllocatorGhosts as Ghosts, El, R, Al, token, lease_val, block_ty, P}
use Rattle.shared_row.specs.contracts.rows.Right as right

module _ (T Z : RattleType) (g : Ghosts Z.Denot) where
  pub right_sent : Frees g g.dealloc_token → IsSend (right.the_row T Z g)
  right_sent f = record { owned = λ d vs. ((λ vss. (tt, (tt, ((tt, tt), ((λ wss. (tt, tt)), tt))))), f.frees _ _ _); leaving = λ k x vs. tt }

  pub right_shared : Frees g g.dealloc_token → IsSync (right.the_row T Z g)
  right_shared f = record { shared = λ d b o ν q. part_keyless (right.the_row T Z g) (right_sent f) q d b o }

module _ (E : El) (Z : Al) where
  abbrev pub Rr : RattleType
  Rr = right.the_row (R E) (P E Z) Z.g

  abbrev pub granted : Z.row.Denot → ℕ → ℕ → ℕ → Rr.Denot
  granted a b o n = record { start = block_ptr b o; count = n; by = record {}; heap = a }

  module _ {M : Type 1} {𝓤 : Ura M} {𝓛 : Logic 𝓤} {X : Type 0} {Γ : List (Item 𝓤)} {G : Goal 𝓤 𝓛.H} where
    pub right_made : X → (a : Z.row.Denot) (b o n : ℕ) → n < 2 ^ 64 → Step X 𝓛 (‵ (Rr.own_val (granted a b o n) (lease_val (block_ptr b o) n ∷ [])) ∷ Γ) G (‵ (token Z a (block_ty E n) (block_ptr b o)) ∷ Γ) G
    right_made x a b o n fits = step (λ s. pure_i x ((Struct (shape (right.the_type (R E) (P E Z) Z.g))).own_val (block_ptr b o, (n, (tt, tt))) (lease_val (block_ptr b o) n ∷ [])) (λ vss. (tt, (tt, ((tt, tt), ((λ uss. (tt, tt)), tt)))))
        ((vptr b o ∷ [], (vint w64 n ∷ [], (vstruct vnil ∷ [], tt))), (refl, (refl, ((refl, fits), ((tt, (refl, tt)), tt))))) $ fjoin x $ s)

    pub right_had : X → (d : Rr.Denot) (vs : List Val) → (vs ≡ lease_val d.start d.count ∷ [] → Seq X 𝓛 (‵ (token Z d.heap (block_ty E d.count) d.start) ∷ Γ) G) → Seq X 𝓛 (‵ (Rr.own_val d vs) ∷ Γ) G
    right_had x d vs k = fsplit x $ fpick x (λ vss. fsplit x $ feq_l x (λ all. fsplit x $ feq_l x (λ e₀. fsplit x $ fsplit x $ feq_l x (λ e₁. drop x $ fsplit x $ fpick x (λ none. fsplit x $ feq_l x (λ e₂. drop x $ drop x $
        k (all ∙ (λ i. vstruct (of_list (e₀ i ++ (e₁ i ++ (e₂ i ++ [])))) ∷ []))))))))
