-- `home_of` meets its contract: flag and address are read from the bytes.
use Rattle.format.specs.Home.{home_of}
use Rattle.accepting.proofs.home.home_of.Goals as goal

pub returns : goal.returns
unfolding home_of
returns c = rw (c.byte_at.ensures, c.address_in.ensures)
