-- Replies that are counted by the indexes of their kinds.
use Rattle.std.proofs.Common.{◌≡◌, refl, ap, ◌+◌, ◌∙◌, sym, Bool, List, [], ◌∷◌, cond, count_by}
use Rattle.std.proofs.lemmas.List.Sums.{sum_by-cons}
use Rattle.ideal_heap.specs.declared.reply.Reply.{Reply}
use Rattle.ideal_heap.specs.declared.reply.Reply.TheVariants as r
use Rattle.ideal_heap.specs.Runs.{is_full}
use Rattle.stored_replies.specs.Kinds.{is_of_kind}
use Rattle.made_trace.specs.Counts.{is_new_reply, is_ref, is_nil, is_num, is_done, is_yes, is_no, is_null, is_range}

-- replies that one test tells from others are as many by an equal test
pub same-count : (p q : Reply → Bool) → ((x : Reply) → p x ≡ q x) → (xs : List Reply) → count_by p xs ≡ count_by q xs
same-count p q same [] = refl
same-count p q same (x ∷ xs) = sum_by-cons (λ y. cond (p y) 1 0) x xs ∙ ap (λ b. cond b 1 0 + count_by p xs) (same x)
    ∙ ap (λ n. cond (q x) 1 0 + n) (same-count p q same xs) ∙ sym (sum_by-cons (λ y. cond (q y) 1 0) x xs)

pub is-new : (x : Reply) → is_of_kind 1 x ≡ is_new_reply x
is-new (r.New n) = refl
is-new r.Full = refl
is-new (r.Ref n) = refl
is-new r.Nil = refl
is-new (r.Num n) = refl
is-new r.Done = refl
is-new r.Yes = refl
is-new r.No = refl
is-new r.Null = refl
is-new r.Range = refl

pub is-full : (x : Reply) → is_of_kind 2 x ≡ is_full x
is-full (r.New n) = refl
is-full r.Full = refl
is-full (r.Ref n) = refl
is-full r.Nil = refl
is-full (r.Num n) = refl
is-full r.Done = refl
is-full r.Yes = refl
is-full r.No = refl
is-full r.Null = refl
is-full r.Range = refl

pub is-ref : (x : Reply) → is_of_kind 3 x ≡ is_ref x
is-ref (r.New n) = refl
is-ref r.Full = refl
is-ref (r.Ref n) = refl
is-ref r.Nil = refl
is-ref (r.Num n) = refl
is-ref r.Done = refl
is-ref r.Yes = refl
is-ref r.No = refl
is-ref r.Null = refl
is-ref r.Range = refl

pub is-nil : (x : Reply) → is_of_kind 4 x ≡ is_nil x
is-nil (r.New n) = refl
is-nil r.Full = refl
is-nil (r.Ref n) = refl
is-nil r.Nil = refl
is-nil (r.Num n) = refl
is-nil r.Done = refl
is-nil r.Yes = refl
is-nil r.No = refl
is-nil r.Null = refl
is-nil r.Range = refl

pub is-num : (x : Reply) → is_of_kind 5 x ≡ is_num x
is-num (r.New n) = refl
is-num r.Full = refl
is-num (r.Ref n) = refl
is-num r.Nil = refl
is-num (r.Num n) = refl
is-num r.Done = refl
is-num r.Yes = refl
is-num r.No = refl
is-num r.Null = refl
is-num r.Range = refl

pub is-done : (x : Reply) → is_of_kind 6 x ≡ is_done x
is-done (r.New n) = refl
is-done r.Full = refl
is-done (r.Ref n) = refl
is-done r.Nil = refl
is-done (r.Num n) = refl
is-done r.Done = refl
is-done r.Yes = refl
is-done r.No = refl
is-done r.Null = refl
is-done r.Range = refl

pub is-yes : (x : Reply) → is_of_kind 7 x ≡ is_yes x
is-yes (r.New n) = refl
is-yes r.Full = refl
is-yes (r.Ref n) = refl
is-yes r.Nil = refl
is-yes (r.Num n) = refl
is-yes r.Done = refl
is-yes r.Yes = refl
is-yes r.No = refl
is-yes r.Null = refl
is-yes r.Range = refl

pub is-no : (x : Reply) → is_of_kind 8 x ≡ is_no x
is-no (r.New n) = refl
is-no r.Full = refl
is-no (r.Ref n) = refl
is-no r.Nil = refl
is-no (r.Num n) = refl
is-no r.Done = refl
is-no r.Yes = refl
is-no r.No = refl
is-no r.Null = refl
is-no r.Range = refl

pub is-null : (x : Reply) → is_of_kind 9 x ≡ is_null x
is-null (r.New n) = refl
is-null r.Full = refl
is-null (r.Ref n) = refl
is-null r.Nil = refl
is-null (r.Num n) = refl
is-null r.Done = refl
is-null r.Yes = refl
is-null r.No = refl
is-null r.Null = refl
is-null r.Range = refl

pub is-range : (x : Reply) → is_of_kind 0 x ≡ is_range x
is-range (r.New n) = refl
is-range r.Full = refl
is-range (r.Ref n) = refl
is-range r.Nil = refl
is-range (r.Num n) = refl
is-range r.Done = refl
is-range r.Yes = refl
is-range r.No = refl
is-range r.Null = refl
is-range r.Range = refl
