-- The format's address, home, settled address and test of a block that a value of the code stands for.
use Rattle.std.specs.Prelude.{Option, Some, None, Result, Ok, Err}
use Rattle.format.specs.Address.{Address}
use Rattle.format.specs.Home.{Home}
use Rattle.format.specs.Count.{Settled, unsettled, settled}
use Rattle.format.specs.Fault.{as_fault, Tested, sound, faulty}
use Rattle.sector.specs.declared.fields.Address.{Address as AddressCode}
use Rattle.sector.specs.declared.fields.Home.{Home as HomeCode}
use Rattle.format.specs.declared.Fault.{Fault}

-- The address.
abbrev pub as_address : AddressCode → Address
as_address a = record { cylinder = a.cylinder; head = a.head }

-- The home.
abbrev pub as_home : HomeCode → Home
as_home h = record { place = h.place; flag = h.flag; address = as_address h.address }

-- What sector 0's count settles.
abbrev pub as_settled : Option AddressCode → Settled
as_settled None = unsettled
as_settled (Some a) = settled (as_address a)

-- What the test of a block gives.
abbrev pub as_tested : Result (Unit {0}) Fault → Tested
as_tested (Ok u) = sound
as_tested (Err f) = faulty (as_fault f)
