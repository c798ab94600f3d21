-- The traces of files, and the text of a session of one trace.
use Rattle.std.proofs.Common.{◌≡◌, refl, sym, ◌∙◌, ap, subst, ℕ, suc, ◌≤◌, arith, inl, false, cond, List, [], ◌∷◌, ◌++◌, map, length, append-nil, append_assoc, eq-eqb}
use Rattle.std.specs.Prelude.{Option, Result, Ok, Err, Some, if◌then◌else◌}
use Rattle.std.specs.List.{AllByRecursion, Any}
use Rattle.ideal_heap.specs.declared.command.Command.{Command}
use Rattle.ideal_heap.specs.Ideal.{empty}
use Rattle.ideal_heap.specs.declared.reply.Reply.{Reply}
use Rattle.ideal_heap.specs.declared.reply.Reply.TheVariants as r
use Rattle.ideal_heap.specs.Runs.{Entry, IsMutator, is_full, alone, of_mutator, replies_of}
use Rattle.trace_text.specs.declared.fault.TraceFault.{TraceFault}
use Rattle.trace_text.specs.Grammar.{trace}
use Rattle.trace_text.specs.Text.{mutator_text, HasFullLine}
use Rattle.trace_text.proofs.ReplyTexts.{IsRefusal, any_first, any_later, full_in_text}
use Rattle.sessions.specs.Sessions.{Setting, Moment, IsWhole}
use Rattle.sessions.proofs.Histories.{replies-alone}
use Rattle.command_line.specs.Words.{Job, Work, Files}
use Rattle.driver.specs.Printed.{Content, IsTraceIn, AreTraces, IsTextOf, IsWholeText, setting_of}
use Rattle.driver.specs.Texts.{replies_part, report_part, map_part}

pub trace-number : (content : Content) (files : List (List ℕ)) (traces : List (List Command)) → AreTraces content files traces → length traces ≡ length files
trace-number content [] [] are = refl
trace-number content [] (t ∷ traces) are = absurd are
trace-number content (file ∷ files) [] are = absurd are
trace-number content (file ∷ files) (t ∷ traces) are = ap (λ n. suc n) (trace-number content files traces are.1)

abbrev commands_in : Result (List Command) TraceFault → List Command
commands_in (Ok cs) = cs
commands_in (Err e) = []

pub one-trace : (content : Content) (file bytes : List ℕ) (traces : List (List Command)) (cs : List Command) → content file ≡ Some bytes → trace bytes ≡ Ok cs → AreTraces content (file ∷ []) traces → traces ≡ cs ∷ []
one-trace content file bytes [] cs known is are = absurd are
one-trace content file bytes (t ∷ u ∷ traces) cs known is are = absurd are.1
one-trace content file bytes (t ∷ []) cs known is are =
    let fine = subst (λ (o : Option (List ℕ)). IsTraceIn o t) known are.0 in
    ap (λ r. commands_in r ∷ []) (sym fine.1 ∙ is)

-- if no reply of the one mutator is `full`, no entry is
not-full : (x : Reply) → (x ≡ r.Full → ⊥) → is_full x ≡ false
not-full (r.New n) differs = refl
not-full r.Full differs = absurd (differs refl)
not-full (r.Ref n) differs = refl
not-full r.Nil differs = refl
not-full (r.Num n) differs = refl
not-full r.Done differs = refl
not-full r.Yes differs = refl
not-full r.No differs = refl
not-full r.Null differs = refl
not-full r.Range differs = refl

own-first : (e : Entry) (es : List Entry) → e.mutator ≡ 1 → replies_of 1 (e ∷ es) ≡ e.reply ∷ replies_of 1 es
own-first e es own = ap (λ b. map (λ x. x.reply) (cond b (e ∷ of_mutator 1 es) (of_mutator 1 es))) (eq-eqb e.mutator 1 own)

none-full : (es : List Entry) → AllByRecursion (λ e. e.mutator ≡ 1) es → (Any IsRefusal (replies_of 1 es) → ⊥) → AllByRecursion (λ e. is_full e.reply ≡ false) es
none-full [] own none = tt
none-full (e ∷ es) own none =
    let back : Any IsRefusal (e.reply ∷ replies_of 1 es) → ⊥ = λ a. none (subst (Any IsRefusal) (sym (own-first e es own.0)) a) in
    (not-full e.reply (λ is. back (any_first IsRefusal e.reply (replies_of 1 es) is)), none-full es own.1 (λ a. back (any_later IsRefusal e.reply (replies_of 1 es) a)))

only-one : (traces : List (List Command)) (es : List Entry) → length traces ≡ 1 → AllByRecursion (λ e. IsMutator traces e.mutator) es → AllByRecursion (λ e. e.mutator ≡ 1) es
only-one traces [] one are = tt
only-one traces (e ∷ es) one are =
    let least : 1 ≤ e.mutator = are.0.0 in
    let most : e.mutator ≤ length traces = are.0.1 in
    (omega (arith, least, most, one), only-one traces es one are.1)

-- of one mutator in whose text no line `full` stands, whatever follows it, no entry is refused
pub never-full : (t : Setting) (cs : List Command) (last : Moment) (more : List ℕ) → t.traces ≡ cs ∷ [] → IsWhole t last
    → (HasFullLine (mutator_text 1 (replies_of 1 last.done) ++ more) → ⊥) → AllByRecursion (λ e. is_full e.reply ≡ false) last.done
never-full t cs last more one whole none =
    none-full last.done (only-one t.traces last.done (ap length one) whole.order.mutators) (λ a. none (full_in_text 1 (replies_of 1 last.done) more (inl a)))

-- the replies of such a mutator
pub replies-of-one : (t : Setting) (cs : List Command) (last : Moment) (more : List ℕ) → t.traces ≡ cs ∷ [] → IsWhole t last
    → (HasFullLine (mutator_text 1 (replies_of 1 last.done) ++ more) → ⊥) → replies_of 1 last.done ≡ alone empty 1 cs
replies-of-one t cs last more one whole none = replies-alone t cs last one whole (never-full t cs last more one whole none)

pub printed-alone : (t : Setting) (cs : List Command) (last : Moment) → t.traces ≡ cs ∷ [] → IsWhole t last → (HasFullLine (replies_part 1 last) → ⊥) → replies_part 1 last ≡ mutator_text 1 (alone empty 1 cs)
printed-alone t cs last one whole none =
    append-nil (mutator_text 1 (replies_of 1 last.done)) ∙ ap (mutator_text 1) (replies-of-one t cs last [] one whole none)

-- the text of a job of one file begins with the replies of its trace alone
pub text-of-one : (job : Job) (file text : List ℕ) (cs : List Command) → job.work ≡ Files (file ∷ []) → IsWholeText job (cs ∷ []) text → (HasFullLine text → ⊥)
    → (rest : List ℕ) × (text ≡ mutator_text 1 (alone empty 1 cs) ++ rest)
text-of-one job file text cs work w none =
    let is = subst (λ (k : Work). IsTextOf job k 1 w.last text) work w.text_is in
    let replies = replies_of 1 w.last.done in
    let report = report_part job.plan 1 w.last is.live in
    let map = if job.map then map_part w.last is.live else [] in
    let text_is : text ≡ mutator_text 1 replies ++ (report ++ map) =
    is.printed ∙ append_assoc (replies_part 1 w.last) report map ∙ ap (λ x. x ++ (report ++ map)) (append-nil (mutator_text 1 replies)) in
    (report ++ map, text_is ∙ ap (λ rs. mutator_text 1 rs ++ (report ++ map)) (replies-of-one (setting_of job (cs ∷ [])) cs w.last (report ++ map) refl w.whole (λ a. none (subst HasFullLine (sym text_is) a))))
