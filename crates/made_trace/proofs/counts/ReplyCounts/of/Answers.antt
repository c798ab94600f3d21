use Rattle.std.proofs.Common.{◌≡◌, ◌∙◌, ◌<◌, ℕ, arith, ap, Bool, slice_index, count_by}
use Rattle.ideal_heap.specs.declared.reply.Reply.{Reply}
use Rattle.ideal_heap.specs.Runs.{is_full}
use Rattle.stored_replies.specs.Kinds.{is_of_kind}
use Rattle.made_trace.specs.Counts.{is_new_reply, is_ref, is_nil, is_num, is_done, is_yes, is_no, is_null, is_range}
use Rattle.made_trace.proofs.Counting.{same-count, is-new, is-full, is-ref, is-nil, is-num, is-done, is-yes, is-no, is-null, is-range}
use Rattle.made_trace.proofs.counts.ReplyCounts.of.Goals as goal

pub returns : goal.returns
returns c =
    let all = c.args.replies.now.items in
    let counts = c.kind_counts-counts.result in
    let by : (i j : ℕ) (p : Reply → Bool) → j < 10 → i ≡ j → ((x : Reply) → is_of_kind j x ≡ p x) → slice_index counts i ≡ count_by p all
    = λ i j p within is same. ap (λ n. slice_index counts n) is ∙ c.kind_counts-counts.ensures.counts j within ∙ same-count (is_of_kind j) p same all in record {
      allocated = by c.index.result 1 is_new_reply (omega arith) c.index.ensures.index is-new;
      refused = by c.index-2.result 2 is_full (omega arith) c.index-2.ensures.index is-full;
      refs = by c.index-3.result 3 is_ref (omega arith) c.index-3.ensures.index is-ref;
      nils = by c.index-4.result 4 is_nil (omega arith) c.index-4.ensures.index is-nil;
      numbers = by c.index-5.result 5 is_num (omega arith) c.index-5.ensures.index is-num;
      dones = by c.index-6.result 6 is_done (omega arith) c.index-6.ensures.index is-done;
      yeses = by c.index-7.result 7 is_yes (omega arith) c.index-7.ensures.index is-yes;
      noes = by c.index-8.result 8 is_no (omega arith) c.index-8.ensures.index is-no;
      nulls = by c.index-9.result 9 is_null (omega arith) c.index-9.ensures.index is-null;
      ranges = by c.index-10.result 0 is_range (omega arith) c.index-10.ensures.index is-range;
      total = c.number_sum.ensures;
    }
