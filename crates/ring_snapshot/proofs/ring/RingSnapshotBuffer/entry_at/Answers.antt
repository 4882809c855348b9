use Rattle.std.proofs.Common.{rules}
use Rattle.ring_snapshot.proofs.ring.RingSnapshotBuffer.entry_at.Goals as goal

-- the search alone proves each of these, and what is tried without an answer takes twice as long
pub returns-then-word-eq0-clause-entry : goal.returns-then-word-eq0-clause-entry
returns-then-word-eq0-clause-entry c = search rules

pub returns-then-word-eq0-clause-inside : goal.returns-then-word-eq0-clause-inside
returns-then-word-eq0-clause-inside c = search rules

pub returns-then-not-is_length-clause-entry : goal.returns-then-not-is_length-clause-entry
returns-then-not-is_length-clause-entry c = search rules

pub returns-then-type_id-clause-entry : goal.returns-then-type_id-clause-entry
returns-then-type_id-clause-entry c = search rules

pub returns-then-type_id-clause-inside : goal.returns-then-type_id-clause-inside
returns-then-type_id-clause-inside c = search rules

pub returns-then-type_id-lt1-clause-entry : goal.returns-then-type_id-lt1-clause-entry
returns-then-type_id-lt1-clause-entry c = search rules

pub returns-clause-entry : goal.returns-clause-entry
returns-clause-entry c = search rules

pub returns-clause-inside : goal.returns-clause-inside
returns-clause-inside c = search rules
