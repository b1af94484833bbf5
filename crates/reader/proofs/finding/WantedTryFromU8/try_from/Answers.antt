-- `try_from` meets its contract: 0 asks for the key, 1 for the data.
use borrow.Author.Rules.{rules}
use Rattle.reader.specs.Finding.{wanted_by}
use Rattle.reader.proofs.finding.WantedTryFromU8.try_from.Goals as goal

pub returns-in-0 : goal.returns-in-0
unfolding wanted_by
returns-in-0 c = search rules

pub returns-in-1 : goal.returns-in-1
unfolding wanted_by
returns-in-1 c = search rules

pub returns-in_default : goal.returns-in_default
unfolding wanted_by
returns-in_default c = search rules
