use Rattle.std.proofs.Common.{◌≡◌, ◌≤◌, ◌-◌, length, take}
use Rattle.std.specs.Prelude.{vec_len}
use Rattle.shared_row.proofs.rows.WordRow.to_vec.Given as goal

-- as many words as are copied
abbrev pub invariant-loop-words : goal.invariant-loop-words
invariant-loop-words l = record {
  few : vec_len l.words ≤ length l.self;
  copied : l.words.items ≡ take (vec_len l.words) l.self;
}

abbrev pub decreases-loop-words : goal.decreases-loop-words
decreases-loop-words l = length l.self - vec_len l.words
