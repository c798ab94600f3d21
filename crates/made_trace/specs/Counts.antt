-- Counts of replies, as a summary has them.
use Rattle.std.specs.Prelude.{◌≡◌, ℕ, ◌%◌, ◌^◌, Bool, true, false, List, count_by, sum_by}
use Rattle.ideal_heap.specs.declared.reply.Reply.{Reply}
use Rattle.ideal_heap.specs.declared.reply.Reply.TheVariants as r
use Rattle.ideal_heap.specs.Runs.{is_full}
use Rattle.stored_replies.specs.Kinds.{number_replied}
use Rattle.made_trace.specs.declared.counts.ReplyCounts.{ReplyCounts}

abbrev pub is_new_reply : Reply → Bool
is_new_reply (r.New n) = true
is_new_reply _ = false

abbrev pub is_ref : Reply → Bool
is_ref (r.Ref n) = true
is_ref _ = false

abbrev pub is_nil : Reply → Bool
is_nil r.Nil = true
is_nil _ = false

abbrev pub is_num : Reply → Bool
is_num (r.Num n) = true
is_num _ = false

abbrev pub is_done : Reply → Bool
is_done r.Done = true
is_done _ = false

abbrev pub is_yes : Reply → Bool
is_yes r.Yes = true
is_yes _ = false

abbrev pub is_no : Reply → Bool
is_no r.No = true
is_no _ = false

abbrev pub is_null : Reply → Bool
is_null r.Null = true
is_null _ = false

abbrev pub is_range : Reply → Bool
is_range r.Range = true
is_range _ = false

-- the sum of the numbers in some replies, modulo 2^64
abbrev pub sum_replied : List Reply → ℕ
sum_replied replies = sum_by number_replied replies % 2 ^ 64

-- the counts of the replies of each kind, and the sum of their numbers
pub record AreCounts (c : ReplyCounts) (replies : List Reply) : Type 0 where
  pub allocated : c.allocated ≡ count_by is_new_reply replies
  pub refused : c.full ≡ count_by is_full replies
  pub refs : c.reference ≡ count_by is_ref replies
  pub nils : c.nil ≡ count_by is_nil replies
  pub numbers : c.number ≡ count_by is_num replies
  pub total : c.sum ≡ sum_replied replies
  pub dones : c.done ≡ count_by is_done replies
  pub yeses : c.yes ≡ count_by is_yes replies
  pub noes : c.no ≡ count_by is_no replies
  pub nulls : c.null ≡ count_by is_null replies
  pub ranges : c.range ≡ count_by is_range replies
