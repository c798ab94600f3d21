-- The accounts of all workers together.
use Rattle.std.proofs.Common.{◌≡◌, ℕ, ◌-◌, ◌^◌, ◌<◌, inl, inr, nat_eq, List, [], ◌∷◌, ◌++◌, All, map, slice_index, length, length-append, refl, sym, ap, ◌∙◌, subst, arith}
use Rattle.std.specs.Prelude.{count_by, sum_by}
use Rattle.std.specs.List.{flat_map}
use Rattle.std.proofs.lemmas.Bool.{cases_lt}
use Rattle.std.proofs.lemmas.List.Elements.{All-head, All-tail, All-append, All-weaker}
use Rattle.std.proofs.lemmas.List.Sums.{sum_by-append, sum_by-cons}
use Rattle.object_model.specs.Times.{times}
use Rattle.trace_core.specs.Views.{hits, is_pair}
use Rattle.trace_core.proofs.CountedRights.{count-append}
use Rattle.trace_words.specs.Shares.{both_shares}
use Rattle.trace_words.specs.declared.share.Share.{Share}
use Rattle.trace_table.specs.Ends.{joined}
use Rattle.trace_table.specs.Seats.{setup_at}
use Rattle.trace_table.specs.declared.tokens.Grey.{Grey}
use Rattle.racing_collector.specs.declared.racing.Racing.{Racing}
use Rattle.racing_collector.specs.declared.served.Served.{Served}
use Rattle.racing_collector.specs.declared.tally.Tally.{Tally}
use Rattle.racing_collector.specs.Accounts.{Accounts, HasItsLines, IsAccounted, IsGiven, IsServed, IsTargetOf, capped, has_moved}
use Rattle.racing_collector.specs.Working.{Worked, IsWorked}
use Rattle.racing_collector.proofs.Accounting.{objects-append}

-- an element of one of two lists is one of both together
hits-left : (x k : ℕ) (l m : List (ℕ × ℕ)) → 0 < hits x k l → 0 < hits x k (l ++ m)
hits-left x k l m some = let a = count-append (is_pair x k) l m in omega arith

hits-right : (x k : ℕ) (l m : List (ℕ × ℕ)) → 0 < hits x k m → 0 < hits x k (l ++ m)
hits-right x k l m some = let a = count-append (is_pair x k) l m in omega arith

times-left : (x : ℕ) (l m : List ℕ) → 0 < times x l → 0 < times x (l ++ m)
times-left x l m some = let a = count-append (nat_eq x) l m in omega arith

times-right : (x : ℕ) (l m : List ℕ) → 0 < times x m → 0 < times x (l ++ m)
times-right x l m some = let a = count-append (nat_eq x) l m in omega arith

module _ (r : Racing) (v w : Share) where
  abbrev both : Share
  both = both_shares v w

  lines-left : (x : ℕ) → HasItsLines (setup_at r.table) v x → HasItsLines (setup_at r.table) both x
  lines-left x is = record {
    target = is.target;
    known = hits-left x is.target v.known w.known is.known;
    marked = λ line touches. (let m = is.marked line touches in (m.0, m.1, hits-left _ m.0 v.lined w.lined m.2));
  }

  lines-right : (x : ℕ) → HasItsLines (setup_at r.table) w x → HasItsLines (setup_at r.table) both x
  lines-right x is = record {
    target = is.target;
    known = hits-right x is.target v.known w.known is.known;
    marked = λ line touches. (let m = is.marked line touches in (m.0, m.1, hits-right _ m.0 v.lined w.lined m.2));
  }

  target-left : (a b : ℕ) → IsTargetOf v a b → IsTargetOf both a b
  target-left a b (inl none) = inl none
  target-left a b (inr some) = inr (some.0, hits-left a b v.known w.known some.1)

  target-right : (a b : ℕ) → IsTargetOf w a b → IsTargetOf both a b
  target-right a b (inl none) = inl none
  target-right a b (inr some) = inr (some.0, hits-right a b v.known w.known some.1)

  served-left : (s : Served) → IsServed r v s → IsServed r both s
  served-left s is = record {
    place = is.place;
    target = target-left (slice_index r.roots.items s.place) s.target is.target;
    asked = λ some. times-left (slice_index r.roots.items s.place) v.asked w.asked (is.asked some);
  }

  served-right : (s : Served) → IsServed r w s → IsServed r both s
  served-right s is = record {
    place = is.place;
    target = target-right (slice_index r.roots.items s.place) s.target is.target;
    asked = λ some. times-right (slice_index r.roots.items s.place) v.asked w.asked (is.asked some);
  }

  accounts-both : (served more : List Served) (greys extra : List Grey) → Accounts r v served greys → Accounts r w more extra → Accounts r both (more ++ served) (extra ++ greys)
  accounts-both served more greys extra a b = record {
    copied = λ x. (let c = a.copied x in let d = b.copied x in let e = count-append (nat_eq x) v.copied w.copied in
        let f : times x (map (λ (g : Grey). g.object) (extra ++ greys)) ≡ times x (map (λ (g : Grey). g.object) extra ++ map (λ (g : Grey). g.object) greys) = ap (times x) (objects-append extra greys) in
        let h = count-append (nat_eq x) (map (λ (g : Grey). g.object) extra) (map (λ (g : Grey). g.object) greys) in omega arith);
    tokens = All-append (IsGiven r.table both) extra greys
        (All-weaker (IsGiven r.table w) (IsGiven r.table both) (λ g is. record { grey = is.grey; known = hits-right g.object g.target v.known w.known is.known }) extra b.tokens)
        (All-weaker (IsGiven r.table v) (IsGiven r.table both) (λ g is. record { grey = is.grey; known = hits-left g.object g.target v.known w.known is.known }) greys a.tokens);
    lines = λ on x k has. elim (cases_lt 0 (hits x k v.grey)) as (λ _. HasItsLines (setup_at r.table) both x) [
      | inl left ↦ lines-left x (a.lines on x k left)
      | inr none ↦ lines-right x (b.lines on x k (let e = count-append (is_pair x k) v.grey w.grey in omega arith))
    ];
    roots = All-append (IsServed r both) more served (All-weaker (IsServed r w) (IsServed r both) served-right more b.roots) (All-weaker (IsServed r v) (IsServed r both) served-left served a.roots);
    by_roots = λ x some. elim (cases_lt 0 (times x v.asked)) as (λ _. (i : ℕ) × (slice_index r.roots.items i ≡ x)) [
      | inl left ↦ a.by_roots x left
      | inr none ↦ b.by_roots x (let e = count-append (nat_eq x) v.asked w.asked in omega arith)
    ];
    sparse = ap (λ l. l ++ w.sparse) a.sparse ∙ b.sparse;
  }

-- sums over the counts of workers
abbrev pub kepts : List Worked → ℕ
kepts ws = sum_by (λ (w : Worked). w.tally.kept) ws

abbrev pub moves : List Worked → ℕ
moves ws = sum_by (λ (w : Worked). w.tally.moved) ws

abbrev pub sizes : List Worked → ℕ
sizes ws = sum_by (λ (w : Worked). w.tally.words) ws

abbrev pub all_served : List Worked → List Served
all_served ws = flat_map (λ (w : Worked). w.served) ws

abbrev pub all_shares : List Worked → List Share
all_shares ws = map (λ (w : Worked). w.share) ws

record Counted (r : Racing) (v : Share) (served : List Served) (kept moved words : ℕ) : Type 0 where
  pub greys : List Grey
  pub accounts : Accounts r v served greys
  pub kept_is : capped (2 ^ 32 - 1) kept ≡ capped (2 ^ 32 - 1) (length greys)
  pub moved_is : capped (2 ^ 32 - 1) moved ≡ capped (2 ^ 32 - 1) (count_by has_moved greys)
  pub words_is : capped (2 ^ 64 - 1) words ≡ capped (2 ^ 64 - 1) (sum_by (λ (g : Grey). g.size) greys)

module _ (r : Racing) (v : Share) (none : Accounts r v [] []) where
  all-counted : (ws : List Worked) → All (IsWorked r) ws → Counted r (joined (all_shares ws) v) (all_served ws) (kepts ws) (moves ws) (sizes ws)
  all-counted [] all = record { greys = []; accounts = none; kept_is = refl; moved_is = refl; words_is = refl }
  all-counted (w ∷ ws) all =
      let one : IsAccounted r w.share w.served w.tally = All-head (IsWorked r) w ws all in
      let rest = all-counted ws (All-tail (IsWorked r) w ws all) in record {
        greys = one.greys ++ rest.greys;
        accounts = accounts-both r (joined (all_shares ws) v) w.share (all_served ws) w.served rest.greys one.greys rest.accounts one.accounts;
        kept_is = (let a = sum_by-cons (λ (u : Worked). u.tally.kept) w ws in let b = length-append one.greys rest.greys in let c = one.kept in let d = rest.kept_is in omega arith);
        moved_is = (let a = sum_by-cons (λ (u : Worked). u.tally.moved) w ws in let b = count-append has_moved one.greys rest.greys in let c = one.moved in let d = rest.moved_is in omega arith);
        words_is = (let a = sum_by-cons (λ (u : Worked). u.tally.words) w ws in let b = sum_by-append (λ (g : Grey). g.size) one.greys rest.greys in let c = one.words in let d = rest.words_is in omega arith);
      }

  -- the workers account for all shares together
  pub all-accounted : (ws : List Worked) → All (IsWorked r) ws → (served : List Served) (tally : Tally) (shares : List Share) → shares ≡ all_shares ws → served ≡ all_served ws
      → tally.kept ≡ capped (2 ^ 32 - 1) (kepts ws) → tally.moved ≡ capped (2 ^ 32 - 1) (moves ws) → tally.words ≡ capped (2 ^ 64 - 1) (sizes ws) → IsAccounted r (joined shares v) served tally
  all-accounted ws all served tally shares shares-are served-are kept moved words = let is = all-counted ws all in record {
    greys = is.greys;
    accounts = subst (λ l. Accounts r (joined l v) served is.greys) (sym shares-are) (subst (λ l. Accounts r (joined (all_shares ws) v) l is.greys) (sym served-are) is.accounts);
    kept = kept ∙ is.kept_is;
    moved = moved ∙ is.moved_is;
    words = words ∙ is.words_is;
  }
