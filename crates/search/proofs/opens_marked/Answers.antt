-- `opens_marked` meets its contract: the bytes and marks that it compares are the cells of the marked opening.
use Rattle.format.specs.Lent.{cells}
use Rattle.format.specs.Opening.{opens}
use Rattle.search.proofs.opens_marked.Goals as goal

pub returns : goal.returns
unfolding cells opens
returns c = c.starts_with.ensures
