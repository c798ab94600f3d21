-- The parts of the mutators, one after another.
use Rattle.std.proofs.Common.{◌≡◌, ◌≢◌, refl, sym, ◌∙◌, ap, subst, ℕ, ◌+◌, ◌<◌, ◌≤◌, inl, inr, arith, List, [], ◌∷◌, ◌++◌, map, take, length, length-append, length-set, append_assoc, append-nil}
use Rattle.std.specs.Prelude.{Some, None, slice_get, slice_set}
use Rattle.std.proofs.lemmas.Bool.{cases_eq}
use Rattle.std.proofs.lemmas.List.{map-append}
use Rattle.ideal_heap.specs.Runs.{Entry, of_mutator, commands_of, replies_of}
use Rattle.ideal_heap.proofs.OrderLemmas.{of_mutator-append}
use Rattle.mutator_core.proofs.Lists.{all-append}
use Rattle.mutator_calls.specs.Effects.{Answered}
use Rattle.sessions.specs.Plans.{Rules}
use Rattle.managed_heap.specs.Worlds.{PlainWorld, mutator_number_at, births_at, stop_word, HasHistory, IsOpen}
use Rattle.block_regions.proofs.Lists.{one-element, get-below}
use Rattle.block_regions.proofs.Elements.{set-here, set-other}
use Rattle.mm_runtime.specs.declared.progress.Progress.{Progress}
use Rattle.mm_runtime.specs.declared.progress.PartEnd.{PartEnd}
use Rattle.mm_runtime.specs.Managers.{next_in_trace, IsProgress}
use Rattle.mm_runtime.specs.Parts.{IsExhausted, EndsFor, EndedFor, RepliesGrow, RunsTrace, RunsParts}
use Rattle.mm_runtime.proofs.AnswersInTurn.{answers-none, number-same}
use Rattle.mm_runtime.proofs.ListFacts.{push-new, push-cases, entries-of, commands-own, replies-own, entries-other, entries-all, all-weaker}
use Rattle.mm_runtime.proofs.PartEnds.{ended-before, ended-last, word-after}

-- an empty part
grows-none : (n : ℕ) (p : Progress) → RepliesGrow n [] p p
grows-none n p = record {
  trace = refl;
  replies = sym (append-nil p.replies.items);
  commands = sym (append-nil (take (length p.replies.items) p.trace));
}

pub parts-none : {P : Type 0} {rules : Rules} (w : PlainWorld P) (ps : List Progress) → IsOpen rules w → stop_word w ≡ 0
    → ((k : ℕ) (p : Progress) → slice_get ps k ≡ Some p → IsProgress p)
    → ((k : ℕ) (p : Progress) → slice_get ps k ≡ Some p → births_at w k ≤ length p.replies.items) → RunsParts rules w ps 0 [] w ps
parts-none w ps is calm each births = record {
  is_open = is;
  places = record { count = refl; numbers = refl };
  part = [];
  history = (answers-none w 0 is).history;
  mutators = tt;
  count = refl;
  ended = refl;
  grows = λ k p q old new. subst (RepliesGrow (k + 1) [] p) (one-element (slice_get ps k) p q old new) (grows-none (k + 1) p);
  each = each;
  births = births;
  causes = λ k q e here none. let wrong : None ≡ Some e = none in cc;
  stop = inl calm;
}

-- the same ends
pub parts-ends : {P : Type 0} {rules : Rules} (old new : PlainWorld P) (ps qs : List Progress) (n : ℕ) (ends same : List PartEnd) → same ≡ ends → RunsParts rules old ps n ends new qs
    → RunsParts rules old ps n same new qs
parts-ends {P} {rules} old new ps qs n ends same is runs = subst (λ (l : List PartEnd). RunsParts rules old ps n l new qs) (sym is) runs

-- entries of the mutator, and of another
pub grows-own : (n : ℕ) (part : List Entry) (es : List Answered) (p between q : Progress) → RepliesGrow n part p between → q.trace ≡ between.trace
    → q.replies.items ≡ between.replies.items ++ map (λ e. e.reply) es
    → take (length q.replies.items) q.trace ≡ take (length between.replies.items) between.trace ++ map (λ e. e.command) es
    → RepliesGrow n (part ++ entries-of n es) p q
grows-own n part es p between q grows trace replies commands =
    let own = of_mutator-append n part (entries-of n es) in record {
      trace = trace ∙ grows.trace;
      replies = replies ∙ ap (λ l. l ++ map (λ e. e.reply) es) grows.replies
          ∙ append_assoc p.replies.items (replies_of n part) (map (λ e. e.reply) es)
          ∙ ap (λ l. p.replies.items ++ l) (ap (λ l. replies_of n part ++ l) (sym (replies-own n es))
          ∙ sym (map-append (λ (e : Entry). e.reply) (of_mutator n part) (of_mutator n (entries-of n es)))
          ∙ ap (map (λ (e : Entry). e.reply)) (sym own));
      commands = commands ∙ ap (λ l. l ++ map (λ e. e.command) es) grows.commands
          ∙ append_assoc (take (length p.replies.items) p.trace) (commands_of n part) (map (λ e. e.command) es)
          ∙ ap (λ l. take (length p.replies.items) p.trace ++ l) (ap (λ l. commands_of n part ++ l) (sym (commands-own n es))
          ∙ sym (map-append (λ (e : Entry). e.command) (of_mutator n part) (of_mutator n (entries-of n es)))
          ∙ ap (map (λ (e : Entry). e.command)) (sym own));
    }

grows-other : (k n : ℕ) (part : List Entry) (es : List Answered) (p q : Progress) → n ≢ k → RepliesGrow k part p q → RepliesGrow k (part ++ entries-of n es) p q
grows-other k n part es p q other grows =
    let same : of_mutator k (part ++ entries-of n es) ≡ of_mutator k part =
    of_mutator-append k part (entries-of n es) ∙ ap (λ l. of_mutator k part ++ l) (entries-other k n es other) ∙ append-nil (of_mutator k part) in record {
      trace = grows.trace;
      replies = grows.replies ∙ ap (λ l. p.replies.items ++ map (λ (e : Entry). e.reply) l) (sym same);
      commands = grows.commands ∙ ap (λ l. take (length p.replies.items) p.trace ++ map (λ (e : Entry). e.command) l) (sym same);
    }

-- one more part
module _ {P : Type 0} {rules : Rules} (old mid new : PlainWorld P) (ps qs : List Progress) (m : ℕ) (ends : List PartEnd) (between after : Progress) (e : PartEnd)
    (runs : RunsParts rules old ps m ends mid qs) (there : slice_get qs m ≡ Some between) (number : mutator_number_at old m ≡ m + 1)
    (trace : RunsTrace rules mid m between new after) (order : IsProgress after) (births : births_at new m ≤ length after.replies.items)
    (ends_for : EndsFor (stop_word mid) new m (next_in_trace after) e) where
  abbrev es : List Answered
  es = trace.answered

  abbrev entries : List Entry
  entries = entries-of (m + 1) es

  below : m < length qs
  below = get-below qs m between there

  -- the place of the part, or another
  at-place : (T : ℕ → Progress → Type 0) → T m after → ((k : ℕ) (q : Progress) → k ≢ m → slice_get qs k ≡ Some q → T k q)
      → (k : ℕ) (q : Progress) → slice_get (slice_set qs m after) k ≡ Some q → T k q
  at-place T own others k q is = elim (cases_eq k m) as (λ _. T k q) [
    | inl same ↦ subst (λ (j : ℕ). T j q) (sym same) (subst (T m) (one-element (slice_get (slice_set qs m after) m) after q (set-here qs m after below)
        (ap (slice_get (slice_set qs m after)) (sym same) ∙ is)) own)
    | inr other ↦ others k q other (sym (set-other qs m after k other) ∙ is)
  ]

  number-mid : mutator_number_at mid m ≡ m + 1
  number-mid = number-same old mid runs.places m ∙ number

  number-new : mutator_number_at new m ≡ m + 1
  number-new = number-same mid new trace.answers.places m ∙ number-mid

  last-end : (x : PartEnd) → slice_get (ends ++ e ∷ []) m ≡ Some x → e ≡ x
  last-end x is = one-element (slice_get (ends ++ e ∷ []) m) e x (subst (λ (k : ℕ). slice_get (ends ++ e ∷ []) k ≡ Some e) runs.ended (push-new ends e)) is

  earlier-end : (k : ℕ) (x : PartEnd) → k ≢ m → slice_get (ends ++ e ∷ []) k ≡ Some x → slice_get ends k ≡ Some x
  earlier-end k x other is = elim (push-cases ends e k x is) as (λ _. slice_get ends k ≡ Some x) [
    | inl last ↦ absurd (other (last.0 ∙ runs.ended))
    | inr before ↦ before
  ]

  pub parts-more : RunsParts rules old ps (m + 1) (ends ++ e ∷ []) new (slice_set qs m after)
  parts-more = record {
    is_open = trace.answers.is_open;
    places = record {
      count = trace.answers.places.count ∙ runs.places.count;
      numbers = trace.answers.places.numbers ∙ runs.places.numbers;
    };
    part = runs.part ++ entries;
    history = λ p i part has. subst (λ (l : List Entry). HasHistory new p i l)
        (append_assoc part runs.part (entries-of (mutator_number_at mid m) es) ∙ ap (λ n. part ++ (runs.part ++ entries-of n es)) number-mid)
        (trace.answers.history p i _ (runs.history p i part has));
    mutators = all-append (λ x. (1 ≤ x.mutator) × (x.mutator ≤ m + 1)) runs.part entries
        (all-weaker (λ x. (1 ≤ x.mutator) × (x.mutator ≤ m)) (λ x. (1 ≤ x.mutator) × (x.mutator ≤ m + 1)) (λ x is. (is.0, omega (arith, is.1))) runs.part runs.mutators)
        (entries-all (λ n. (1 ≤ n) × (n ≤ m + 1)) (m + 1) es (omega arith, omega arith));
    count = length-set qs m after ∙ runs.count;
    ended = length-append ends (e ∷ []) ∙ ap (λ n. n + 1) runs.ended;
    grows = λ k p q was is. at-place (λ j r. slice_get ps j ≡ Some p → RepliesGrow (j + 1) (runs.part ++ entries) p r)
        (λ here. grows-own (m + 1) runs.part es p between after (runs.grows m p between here there) trace.trace trace.replies trace.commands)
        (λ j r other now here. grows-other (j + 1) (m + 1) runs.part es p r (λ same. other (omega arith)) (runs.grows j p r here now)) k q is was;
    each = at-place (λ j r. IsProgress r) order (λ j r other now. runs.each j r now);
    births = at-place (λ j r. births_at new j ≤ length r.replies.items) births
        (λ j r other now. subst (λ (n : ℕ). n ≤ length r.replies.items) (sym (trace.answers.others j other).1) (runs.births j r now));
    causes = λ k q x is ended. at-place (λ j r. slice_get (ends ++ e ∷ []) j ≡ Some x → EndedFor (IsExhausted new) (ends ++ e ∷ []) j (next_in_trace r) x)
        (λ here. subst (EndedFor (IsExhausted new) (ends ++ e ∷ []) m (next_in_trace after)) (last-end x here) (ended-last new m (stop_word mid) ends (next_in_trace after) e runs.stop ends_for))
        (λ j r other now here. ended-before mid new m j es ends e (next_in_trace r) x trace.answers other (runs.causes j r x now (earlier-end j x other here))) k q is ended;
    stop = word-after new m (stop_word mid) ends (next_in_trace after) e runs.ended number-new runs.stop ends_for;
  }
