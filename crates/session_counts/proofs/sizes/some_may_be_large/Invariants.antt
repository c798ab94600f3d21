use Rattle.std.proofs.Common.{◌≡◌, ◌≤◌, ◌<◌, ◌+◌, ℕ, false}
use Rattle.session_counts.specs.Sizes.{may_be_large}
use Rattle.session_counts.proofs.sizes.some_may_be_large.Given as goal

abbrev pub invariant-loop-less : goal.invariant-loop-less
invariant-loop-less l = (k : ℕ) → k ≤ l.large → l.large < k + l.less → may_be_large l.objects l.words l.large l.small k ≡ false
