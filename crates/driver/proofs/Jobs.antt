-- What is known of a job that arguments name.
use Rattle.std.proofs.Common.{◌≡◌, refl, sym, ap, subst, ℕ, ◌≤◌, arith, Bool, true, false, ◌&&◌, List}
use Rattle.std.specs.Prelude.{Option, None, Some, option_and_then, option_map, unwrap_or, nat_le, nat_lt, ◌||◌, length, if◌then◌else◌}
use Rattle.std.proofs.lemmas.Bool.{true≢false, leb-true}
use Rattle.std.proofs.lemmas.Option.{none-some}
use Rattle.trace_text.specs.Grammar.{numeral}
use Rattle.sessions.specs.Plans.{Plan}
use Rattle.command_line.specs.Words.{Job, Work, Files, Made, Line, Values, job_of, line_of_words, job_in, job_with, plan_of, bounded_numeral, if_within, workers_of, work_of, values_in}
use Rattle.driver.specs.Printed.{IsWithinLimits}

both : (a b : Bool) → (a && b) ≡ true → (a ≡ true) × (b ≡ true)
both true b e = (refl, e)
both false b e = absurd (true≢false (sym e))

picked : {X : Type 0} (b : Bool) (x y : X) → (if b then Some x else None) ≡ Some y → (b ≡ true) × (x ≡ y)
picked true x y e = (refl, ap (λ o. unwrap_or o x) e)
picked false x y e = absurd (none-some y e)

within-bounds : (least most : ℕ) (o : Option ℕ) (n : ℕ) → option_and_then (if_within least most) o ≡ Some n → (least ≤ n) × (n ≤ most)
within-bounds least most None n e = absurd (none-some n e)
within-bounds least most (Some k) n e =
    let p = picked (nat_le least k && nat_le k most) k n e in
    let q = both (nat_le least k) (nat_le k most) p.0 in
    (subst (λ (x : ℕ). least ≤ x) p.1 (leb-true least k q.0), subst (λ (x : ℕ). x ≤ most) p.1 (leb-true k most q.1))

read-bounds : (least most : ℕ) (o : Option (List ℕ)) (n : ℕ) → option_and_then (bounded_numeral least most) o ≡ Some n → (least ≤ n) × (n ≤ most)
read-bounds least most None n e = absurd (none-some n e)
read-bounds least most (Some word) n e = within-bounds least most (numeral word) n e

with-blocks : (has_map : Bool) (p : Option Plan) (b w : Option ℕ) (k : Option Work) (job : Job) → job_with has_map p b w k ≡ Some job → b ≡ Some job.blocks
with-blocks has_map None b w k job e = absurd (none-some job e)
with-blocks has_map (Some plan) None w k job e = absurd (none-some job e)
with-blocks has_map (Some plan) (Some blocks) None k job e = absurd (none-some job e)
with-blocks has_map (Some plan) (Some blocks) (Some workers) None job e = absurd (none-some job e)
with-blocks has_map (Some plan) (Some blocks) (Some workers) (Some work) job e =
    let first : Job = record { plan = plan; blocks = blocks; workers = workers; map = has_map; work = work } in
    ap (λ o. Some (unwrap_or o first).blocks) e

line-bounds : (o : Option Line) (job : Job) → option_and_then job_in o ≡ Some job → (4 ≤ job.blocks) × (job.blocks ≤ 1024)
line-bounds None job e = absurd (none-some job e)
line-bounds (Some line) job e =
    let v : Values = values_in line.settings in
    read-bounds 4 1024 v.heap job.blocks
    (with-blocks v.has_map (option_and_then plan_of v.plan) (option_and_then (bounded_numeral 4 1024) v.heap) (workers_of v.workers) (work_of v.make v.has_map line.files) job e)

-- its blocks are as many as a heap may have
pub job-blocks : (words : List (List ℕ)) (job : Job) → job_of words ≡ Some job → (4 ≤ job.blocks) × (job.blocks ≤ 1024)
unfolding job_of
job-blocks words job e = line-bounds (line_of_words words) job e

made-within : (b : Bool) (o : Option ℕ) (work : Work) → ((n : ℕ) → o ≡ Some n → n ≤ 1000000) → (if b then None else option_map Made o) ≡ Some work → IsWithinLimits work
made-within true o work few e = absurd (none-some work e)
made-within false None work few e = absurd (none-some work e)
made-within false (Some n) work few e = subst IsWithinLimits (ap (λ x. unwrap_or x work) e) (few n refl)

work-within : (o : Option (List ℕ)) (has_map : Bool) (files : List (List ℕ)) (work : Work) → work_of o has_map files ≡ Some work → IsWithinLimits work
work-within None has_map files work e =
    let p = picked (nat_le 1 (length files) && nat_le (length files) 16) (Files files) work e in
    let q = both (nat_le 1 (length files)) (nat_le (length files) 16) p.0 in
    subst IsWithinLimits p.1 (leb-true 1 (length files) q.0, leb-true (length files) 16 q.1)
work-within (Some word) has_map files work e =
    made-within (has_map || nat_lt 0 (length files)) (bounded_numeral 1 1000000 word) work (λ n is. (within-bounds 1 1000000 (numeral word) n is).1) e

with-work : (has_map : Bool) (p : Option Plan) (b w : Option ℕ) (k : Option Work) (job : Job) → job_with has_map p b w k ≡ Some job → k ≡ Some job.work
with-work has_map None b w k job e = absurd (none-some job e)
with-work has_map (Some plan) None w k job e = absurd (none-some job e)
with-work has_map (Some plan) (Some blocks) None k job e = absurd (none-some job e)
with-work has_map (Some plan) (Some blocks) (Some workers) None job e = absurd (none-some job e)
with-work has_map (Some plan) (Some blocks) (Some workers) (Some work) job e =
    let first : Job = record { plan = plan; blocks = blocks; workers = workers; map = has_map; work = work } in
    ap (λ o. Some (unwrap_or o first).work) e

line-work : (o : Option Line) (job : Job) → option_and_then job_in o ≡ Some job → IsWithinLimits job.work
line-work None job e = absurd (none-some job e)
line-work (Some line) job e =
    let v : Values = values_in line.settings in
    work-within v.make v.has_map line.files job.work
    (with-work v.has_map (option_and_then plan_of v.plan) (option_and_then (bounded_numeral 4 1024) v.heap) (workers_of v.workers) (work_of v.make v.has_map line.files) job e)

-- it has 1 to 16 files, or as many commands as a trace may have
pub job-work : (words : List (List ℕ)) (job : Job) → job_of words ≡ Some job → IsWithinLimits job.work
unfolding job_of
job-work words job e = line-work (line_of_words words) job e

with-workers : (has_map : Bool) (p : Option Plan) (b w : Option ℕ) (k : Option Work) (job : Job) → job_with has_map p b w k ≡ Some job → w ≡ Some job.workers
with-workers has_map None b w k job e = absurd (none-some job e)
with-workers has_map (Some plan) None w k job e = absurd (none-some job e)
with-workers has_map (Some plan) (Some blocks) None k job e = absurd (none-some job e)
with-workers has_map (Some plan) (Some blocks) (Some workers) None job e = absurd (none-some job e)
with-workers has_map (Some plan) (Some blocks) (Some workers) (Some work) job e =
    let first : Job = record { plan = plan; blocks = blocks; workers = workers; map = has_map; work = work } in
    ap (λ o. Some (unwrap_or o first).workers) e

workers-within : (o : Option (List ℕ)) (n : ℕ) → workers_of o ≡ Some n → (1 ≤ n) × (n ≤ 16)
workers-within None n e = let one : 1 ≡ n = ap (λ o. unwrap_or o 1) e in (omega arith, omega arith)
workers-within (Some word) n e = within-bounds 1 16 (numeral word) n e

line-workers : (o : Option Line) (job : Job) → option_and_then job_in o ≡ Some job → (1 ≤ job.workers) × (job.workers ≤ 16)
line-workers None job e = absurd (none-some job e)
line-workers (Some line) job e =
    let v : Values = values_in line.settings in
    workers-within v.workers job.workers
    (with-workers v.has_map (option_and_then plan_of v.plan) (option_and_then (bounded_numeral 4 1024) v.heap) (workers_of v.workers) (work_of v.make v.has_map line.files) job e)

-- its workers are 1 to 16
pub job-workers : (words : List (List ℕ)) (job : Job) → job_of words ≡ Some job → (1 ≤ job.workers) × (job.workers ≤ 16)
unfolding job_of
job-workers words job e = line-workers (line_of_words words) job e
