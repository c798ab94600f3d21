-- What shares have together, when one of them changes.
use Rattle.std.proofs.Common.{◌≡◌, ℕ, zero, suc, ◌+◌, ◌<◌, ◌≤◌, Bool, List, [], ◌∷◌, ◌++◌, set, refl, ap, ◌∙◌, sym, arith}
use mathlib.Core.Option.{some, some-injective, some-ne-none}
use lib.ListN.{get_elem?}
use Rattle.std.specs.Prelude.{count_by, nat_eq}
use Rattle.object_model.specs.Times.{times}
use Rattle.trace_core.specs.Setups.{Setup}
use Rattle.trace_core.specs.Machine.{Machine}
use Rattle.trace_core.specs.Views.{View, Holds, hits, is_pair}
use Rattle.trace_core.proofs.CountedRights.{count-append}
use Rattle.trace_words.specs.declared.share.Share.{Share}
use Rattle.trace_words.specs.Shares.{view_of, pooled, total, no_view, both_views}

module _ (f : Share → ℕ) where
  pub total-set : (vs : List Share) (j : ℕ) (v w : Share) → get_elem? vs j ≡ some v → total f (set vs j w) + f v ≡ total f vs + f w
  total-set [] j v w is = absurd (some-ne-none v (sym is))
  total-set (x ∷ xs) zero v w is = let e : f x ≡ f v = ap f (some-injective x v is) in omega arith
  total-set (x ∷ xs) (suc j) v w is = let e = total-set xs j v w is in omega arith

  pub total-last : (vs : List Share) (w : Share) → total f (vs ++ w ∷ []) ≡ total f vs + f w
  total-last [] w = omega arith
  total-last (x ∷ xs) w = let e = total-last xs w in omega arith

  pub part-of : (vs : List Share) (j : ℕ) (v : Share) → get_elem? vs j ≡ some v → f v ≤ total f vs
  part-of [] j v is = absurd (some-ne-none v (sym is))
  part-of (x ∷ xs) zero v is = let e : f x ≡ f v = ap f (some-injective x v is) in omega arith
  part-of (x ∷ xs) (suc j) v is = let e = part-of xs j v is in omega arith

-- What a list of the pool counts is the sum over the shares, for a list of which two views have the lists of both.
module _ {A : Type 0} (test : A → Bool) (list : View → List A) (none : list no_view ≡ []) (both : (v w : View) → list (both_views v w) ≡ list v ++ list w) where
  abbrev counts : Share → ℕ
  counts s = count_by test (list (view_of s))

  pub pool-counts : (ss : List Share) → count_by test (list (pooled ss)) ≡ total counts ss
  pool-counts [] = ap (count_by test) none
  pool-counts (s ∷ ss) = ap (count_by test) (both (view_of s) (pooled ss)) ∙ count-append test (list (view_of s)) (list (pooled ss))
      ∙ ap (λ n. count_by test (list (view_of s)) + n) (pool-counts ss)

  -- one share changes
  pub pool-set : (ss : List Share) (id : ℕ) (v w : Share) → get_elem? ss id ≡ some v
      → count_by test (list (pooled (set ss id w))) + counts v ≡ count_by test (list (pooled ss)) + counts w
  pool-set ss id v w at = let a = pool-counts ss in let b = pool-counts (set ss id w) in let c = total-set counts ss id v w at in omega arith

  pub pool-part : (ss : List Share) (id : ℕ) (v : Share) → get_elem? ss id ≡ some v → counts v ≤ count_by test (list (pooled ss))
  pool-part ss id v at = let a = pool-counts ss in let c = part-of counts ss id v at in omega arith

  -- one share is cut in two
  pub pool-cut : (ss : List Share) (id : ℕ) (v l r : Share) → get_elem? ss id ≡ some v
      → count_by test (list (pooled (set ss id l ++ r ∷ []))) + counts v ≡ count_by test (list (pooled ss)) + (counts l + counts r)
  pool-cut ss id v l r at = let a = pool-counts ss in let b = pool-counts (set ss id l ++ r ∷ []) in
      let c = total-set counts ss id v l at in let d = total-last counts (set ss id l) r in omega arith

  -- one share takes in another
  pub pool-join : (ss : List Share) (id other : ℕ) (v w b n : Share) → get_elem? ss id ≡ some v → get_elem? (set ss id b) other ≡ some w
      → count_by test (list (pooled (set (set ss id b) other n))) + (counts v + counts w) ≡ count_by test (list (pooled ss)) + (counts b + counts n)
  pool-join ss id other v w b n at there = let a = pool-counts ss in let e = pool-counts (set (set ss id b) other n) in
      let c = total-set counts ss id v b at in let d = total-set counts (set ss id b) other w n there in omega arith

-- From v to w a share changes as V changes to W.
pub record Alike (V W v w : View) : Type 0 where
  pub won : (x k : ℕ) → hits x k W.won + hits x k v.won ≡ hits x k V.won + hits x k w.won
  pub grey : (x k : ℕ) → hits x k W.grey + hits x k v.grey ≡ hits x k V.grey + hits x k w.grey
  pub copied : (x : ℕ) → times x W.copied + times x v.copied ≡ times x V.copied + times x w.copied
  pub unset : (x : ℕ) → times x W.unset + times x v.unset ≡ times x V.unset + times x w.unset
  pub set : (x : ℕ) → times x W.set + times x v.set ≡ times x V.set + times x w.set
  pub asked : (x : ℕ) → times x W.asked + times x v.asked ≡ times x V.asked + times x w.asked
  pub known : (x t : ℕ) → hits x t W.known + hits x t v.known ≡ hits x t V.known + hits x t w.known
  pub blocks : (x : ℕ) → times x W.blocks + times x v.blocks ≡ times x V.blocks + times x w.blocks

-- Two views have the same rights, and the second knows no more.
pub record SameRights (V W : View) : Type 0 where
  pub won : (x k : ℕ) → hits x k W.won ≡ hits x k V.won
  pub grey : (x k : ℕ) → hits x k W.grey ≡ hits x k V.grey
  pub copied : (x : ℕ) → times x W.copied ≡ times x V.copied
  pub unset : (x : ℕ) → times x W.unset ≡ times x V.unset
  pub set : (x : ℕ) → times x W.set ≡ times x V.set
  pub asked : (x : ℕ) → times x W.asked ≡ times x V.asked
  pub known : (x t : ℕ) → hits x t W.known ≤ hits x t V.known
  pub blocks : (x : ℕ) → times x W.blocks ≡ times x V.blocks

pub holds-same : (p : Setup) (m : Machine) (V W : View) → Holds p m V → SameRights V W → Holds p m W
holds-same p m V W holds same = record {
  won = λ x k. same.won x k ∙ holds.won x k;
  grey = λ x k. same.grey x k ∙ holds.grey x k;
  copied = λ x. same.copied x ∙ holds.copied x;
  unset = λ x. same.unset x ∙ holds.unset x;
  set = λ x. same.set x ∙ holds.set x;
  asked = λ x. same.asked x ∙ holds.asked x;
  known = λ x t some. holds.known x t (let less = same.known x t in omega arith);
  blocks = λ x. same.blocks x ∙ holds.blocks x;
}

module _ (ss : List Share) (id : ℕ) (v : Share) (at : get_elem? ss id ≡ some v) where
  pub pool-like : (w : Share) (W : View) → Alike (pooled ss) W (view_of v) (view_of w) → SameRights W (pooled (set ss id w))
  pool-like w W like = record {
    won = λ x k. let a = pool-set (is_pair x k) (λ u. u.won) refl (λ u z. refl) ss id v w at in let b = like.won x k in omega arith;
    grey = λ x k. let a = pool-set (is_pair x k) (λ u. u.grey) refl (λ u z. refl) ss id v w at in let b = like.grey x k in omega arith;
    copied = λ x. let a = pool-set (nat_eq x) (λ u. u.copied) refl (λ u z. refl) ss id v w at in let b = like.copied x in omega arith;
    unset = λ x. let a = pool-set (nat_eq x) (λ u. u.unset) refl (λ u z. refl) ss id v w at in let b = like.unset x in omega arith;
    set = λ x. let a = pool-set (nat_eq x) (λ u. u.set) refl (λ u z. refl) ss id v w at in let b = like.set x in omega arith;
    asked = λ x. let a = pool-set (nat_eq x) (λ u. u.asked) refl (λ u z. refl) ss id v w at in let b = like.asked x in omega arith;
    known = λ x t. let a = pool-set (is_pair x t) (λ u. u.known) refl (λ u z. refl) ss id v w at in let b = like.known x t in omega arith;
    blocks = λ x. let a = pool-set (nat_eq x) (λ u. u.blocks) refl (λ u z. refl) ss id v w at in let b = like.blocks x in omega arith;
  }

  -- what one share has, all have together
  pub has-won : (x k : ℕ) → 0 < hits x k v.won → 0 < hits x k (pooled ss).won
  has-won x k has = let a = pool-part (is_pair x k) (λ u. u.won) refl (λ u z. refl) ss id v at in omega arith

  pub has-grey : (x k : ℕ) → 0 < hits x k v.grey → 0 < hits x k (pooled ss).grey
  has-grey x k has = let a = pool-part (is_pair x k) (λ u. u.grey) refl (λ u z. refl) ss id v at in omega arith

  pub has-known : (x t : ℕ) → 0 < hits x t v.known → 0 < hits x t (pooled ss).known
  has-known x t has = let a = pool-part (is_pair x t) (λ u. u.known) refl (λ u z. refl) ss id v at in omega arith

  pub has-unset : (x : ℕ) → 0 < times x v.unset → 0 < times x (pooled ss).unset
  has-unset x has = let a = pool-part (nat_eq x) (λ u. u.unset) refl (λ u z. refl) ss id v at in omega arith

-- Changes of a share are changes of the pool.
pub like-itself : (V v : View) → Alike V V v v
like-itself V v = record {
  won = λ y k. refl;
  grey = λ y k. refl;
  copied = λ y. refl;
  unset = λ y. refl;
  set = λ y. refl;
  asked = λ y. refl;
  known = λ y u. refl;
  blocks = λ y. refl;
}
