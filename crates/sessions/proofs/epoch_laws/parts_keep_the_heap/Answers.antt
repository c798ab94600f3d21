use Rattle.sessions.proofs.EpochParts as parts
use Rattle.sessions.proofs.epoch_laws.parts_keep_the_heap.Goals as goal

pub returns-clause-held : goal.returns-clause-held
returns-clause-held c = parts.stays-held

pub returns-clause-header : goal.returns-clause-header
returns-clause-header c = parts.header

pub returns-clause-none_born : goal.returns-clause-none_born
returns-clause-none_born c = parts.none-born

pub returns-clause-one_born : goal.returns-clause-one_born
returns-clause-one_born c rules numbers old h new ms m d refs nums n = parts.one-born rules numbers old h new ms m d refs nums n

pub returns-clause-born_held : goal.returns-clause-born_held
returns-clause-born_held c rules numbers old h new ms e rest n = parts.born-held rules numbers old h new ms e rest n

pub returns-clause-young : goal.returns-clause-young
returns-clause-young c = parts.born-young

pub returns-clause-headroom : goal.returns-clause-headroom
returns-clause-headroom c = parts.keeps-headroom

pub returns-clause-copies : goal.returns-clause-copies
returns-clause-copies c = parts.keeps-copies

pub returns-clause-words : goal.returns-clause-words
returns-clause-words c = parts.keeps-word

pub returns-clause-taken : goal.returns-clause-taken
returns-clause-taken c = parts.takes-fill

pub returns-clause-used : goal.returns-clause-used
returns-clause-used c = parts.takes-used
