-- `opens_plain` meets its contract: the bytes and marks that it compares are the cells of the plain opening.
use Rattle.format.specs.Lent.{cells}
use Rattle.search.proofs.opens_plain.Goals as goal

pub returns : goal.returns
unfolding cells
returns c = c.starts_with.ensures
