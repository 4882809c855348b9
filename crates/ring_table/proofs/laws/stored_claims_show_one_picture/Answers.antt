use Rattle.std.proofs.Common.{sym}
use Rattle.ring_table.proofs.RestLemmas.{end_of-claims_of, staged_word_at-claims_of}
use Rattle.ring_table.proofs.laws.stored_claims_show_one_picture.Goals as goal

pub returns-clause-word : goal.returns-clause-word
returns-clause-word c = staged_word_at-claims_of

pub returns-clause-end : goal.returns-clause-end
returns-clause-end c = λ capacity e cs placed. sym (end_of-claims_of capacity e cs placed)
