-- A worker runs a packet.
use Rattle.std.proofs.Common.{◌≡◌, refl, sym, subst, ap, ◌∙◌, ℕ, ◌+◌, ◌-◌, ◌≤◌, ◌⊎◌, inl, inr, arith, List, [], ◌∷◌, ◌++◌, All, length, length-append, append-nil}
use Rattle.std.proofs.lemmas.List.Elements.{All-nil, All-weaker}
use Rattle.std.proofs.lemmas.List.Sums.{sum_by-append}
use Rattle.object_model.specs.Times.{times}
use Rattle.trace_core.proofs.CountedRights.{count-append}
use Rattle.trace_words.specs.declared.share.Share.{Share}
use Rattle.trace_table.specs.Seats.{IsGrey, setup_at}
use Rattle.trace_table.specs.declared.table.TraceTable.{TraceTable}
use Rattle.trace_table.specs.declared.tokens.Grey.{Grey}
use Rattle.work_packets.specs.declared.packet.Bucket.{Bucket}
use Rattle.work_packets.specs.declared.packet.Bucket.TheVariants as buckets
use Rattle.work_packets.specs.declared.packet.Packet.{Packet}
use Rattle.work_packets.specs.Buckets.{IsSameOrLater}
use Rattle.racing_collector.specs.declared.item.RaceItem.{RaceItem}
use Rattle.racing_collector.specs.declared.item.RaceItem.TheVariants.{Register, Global, Object}
use Rattle.racing_collector.specs.declared.racing.Racing.{Racing}
use Rattle.racing_collector.specs.declared.served.Served.{Served}
use Rattle.racing_collector.specs.declared.tally.Tally.{Tally}
use Rattle.racing_collector.specs.Accounts.{Accounts, CountsMore, has_moved, places}
use Rattle.racing_collector.specs.Items.{AreScans, IsCut, IsItemOf, IsPacketOf, IsScan, is_register, is_token, items_of, registers, tokens}
use Rattle.racing_collector.specs.Working.{RunsPacket, held_count, uncopied, worked}
use Rattle.racing_collector.proofs.Accounting.{all-left}

-- Of the items those of the list `left` are left.
pub record HasServed (r : Racing) (v w : Share) (before after : List Served) (all left : List RaceItem) (won : List Grey) : Type 0 where
  pub items : All (IsItemOf r) left
  pub greys : All (IsGrey r.table) won
  pub took : w.took + tokens left ≡ v.took + tokens all
  pub gave : w.gave ≡ v.gave + length won
  pub copied : length w.copied ≡ length v.copied + length won
  pub roots : (i : ℕ) → times i (places after) + registers i left ≡ times i (places before) + registers i all
  pub accounts : (greys : List Grey) → Accounts r v before greys → Accounts r w after (greys ++ won)

module _ (r : Racing) where
  pub served-none : (v : Share) (served : List Served) (items : List RaceItem) (won : List Grey) → won ≡ [] → All (IsItemOf r) items → HasServed r v v served served items items won
  served-none v served items won none all = record {
    items = all;
    greys = subst (All (IsGrey r.table)) (sym none) (All-nil (IsGrey r.table));
    took = refl;
    gave = (let a : length won ≡ 0 = ap length none in omega arith);
    copied = (let a : length won ≡ 0 = ap length none in omega arith);
    roots = λ i. refl;
    accounts = λ greys was. subst (Accounts r v served) (sym (ap (λ l. greys ++ l) none ∙ append-nil greys)) was;
  }

  pub served-more : (v w u : Share) (before after later : List Served) (all left rest : List RaceItem) (item : RaceItem) (won more : List Grey) → HasServed r v w before after all left won → left ≡ rest ++ item ∷ []
      → All (IsGrey r.table) more → u.took ≡ w.took + tokens (item ∷ []) → u.gave + length won ≡ w.gave + length more → length u.copied + length won ≡ length w.copied + length more
      → ((i : ℕ) → times i (places later) ≡ times i (places after) + registers i (item ∷ []))
      → ((greys : List Grey) → Accounts r w after (greys ++ won) → Accounts r u later (greys ++ more))
      → HasServed r v u before later all rest more
  served-more v w u before after later all left rest item won more was is greys took gave copied roots accounts = record {
    items = all-first (subst (All (IsItemOf r)) is was.items);
    greys = greys;
    took = (let a = was.took in let d = count-append is_token rest (item ∷ []) in let e : tokens left ≡ tokens (rest ++ item ∷ []) = ap tokens is in omega arith);
    gave = (let a = was.gave in omega arith);
    copied = (let a = was.copied in omega (arith, a, copied));
    roots = λ i. (let a = was.roots i in let b = roots i in let d = count-append (is_register i) rest (item ∷ []) in let e : registers i left ≡ registers i (rest ++ item ∷ []) = ap (registers i) is in omega arith);
    accounts = λ gs h. accounts gs (was.accounts gs h);
  }
    where
      all-first : All (IsItemOf r) (rest ++ item ∷ []) → All (IsItemOf r) rest
      all-first every = all-left (IsItemOf r) rest (item ∷ []) every

  -- all were served, and the tokens that were won are handed on
  pub runs-packet : (v w : Share) (before after : List Served) (tally tally' : Tally) (p : Packet RaceItem) (q : List (Packet RaceItem)) (left : List RaceItem) (won : List Grey)
      → HasServed r v w before after p.items.items left won → left ≡ [] → CountsMore tally tally' won → All (AreScans r.table) q → tokens (items_of q) ≡ length won → All IsCut q
      → RunsPacket r (worked v before tally) p q (worked w after tally')
  runs-packet v w before after tally tally' p q left won was none counts scans all cut = record {
    took = (let a = was.took in let b : tokens left ≡ 0 = ap tokens none in omega arith);
    gave = (let a = was.gave in omega arith);
    roots = λ i. (let a = was.roots i in let b : registers i left ≡ 0 = ap (registers i) none in omega arith);
    scans = scans;
    cut = cut;
    accounts = λ is. record {
      greys = is.greys ++ won;
      accounts = was.accounts is.greys is.accounts;
      kept = (let a = counts.kept in let b = is.kept in let c = length-append is.greys won in omega arith);
      moved = (let a = counts.moved in let b = is.moved in let c = count-append has_moved is.greys won in omega arith);
      words = (let a = counts.words in let b = is.words in let c = sum_by-append (λ (g : Grey). g.size) is.greys won in omega arith);
    };
  }

  -- objects to scan are items of the trace
  scan-item : (item : RaceItem) → IsScan r.table item → IsItemOf r item
  scan-item (Register i) is = absurd is
  scan-item (Global root) is = absurd is
  scan-item (Object grey) is = is

  pub scans-of : (q : List (Packet RaceItem)) → All (AreScans r.table) q → All (IsPacketOf r) q
  scans-of q all = All-weaker (AreScans r.table) (IsPacketOf r) (λ p are. record {
    bucket = inr are.bucket;
    items = All-weaker (IsScan r.table) (IsItemOf r) scan-item p.items.items are.objects;
  }) q all

-- what is left to copy falls by the packets that were pushed, which are no more than the tokens
pub left-falls : (r r' : Racing) (v w u : Share) (pushed won : ℕ) → r' ≡ r → u ≡ w → length w.copied ≤ held_count (setup_at r'.table) → length w.copied ≡ length v.copied + won → pushed ≤ won
    → uncopied r' u + pushed ≤ uncopied r v
left-falls r r' v w u pushed won same is few copied less =
    let home : held_count (setup_at r'.table) ≡ held_count (setup_at r.table) = ap (λ (t : Racing). held_count (setup_at t.table)) same in
    let here : length u.copied ≡ length w.copied = ap (λ (x : Share). length x.copied) is in
    falls (held_count (setup_at r.table)) (held_count (setup_at r'.table)) (length v.copied) (length w.copied) (length u.copied) pushed won home here few copied less
  where
    falls : (h h' a b d n k : ℕ) → h' ≡ h → d ≡ b → b ≤ h' → b ≡ a + k → n ≤ k → (h' - d) + n ≤ h - a
    falls h h' a b d n k e f g i j = omega arith

-- and for the same bucket or a later one
order-of : (b c : Bucket) → (b ≡ buckets.Roots) ⊎ (b ≡ buckets.Closure) → c ≡ buckets.Closure → IsSameOrLater b c
order-of b c (inl e) is = subst (λ x. IsSameOrLater x c) (sym e) (subst (IsSameOrLater buckets.Roots) (sym is) refl)
order-of b c (inr e) is = subst (λ x. IsSameOrLater x c) (sym e) (subst (IsSameOrLater buckets.Closure) (sym is) refl)

pub scans-later : (t : TraceTable) (b : Bucket) → (b ≡ buckets.Roots) ⊎ (b ≡ buckets.Closure) → (q : List (Packet RaceItem)) → All (AreScans t) q → All (λ p. IsSameOrLater b p.bucket) q
scans-later t b of q all = All-weaker (AreScans t) (λ p. IsSameOrLater b p.bucket) (λ p are. order-of b p.bucket of are.bucket) q all
