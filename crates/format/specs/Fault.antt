-- What is wrong with a block: the second number of answers 10 and 11.
use Rattle.std.specs.Prelude.{ℕ, Bool}
use Rattle.base.specs.Pick.{pick}
use Rattle.format.specs.declared.Fault.{Fault as FaultCode}
use Rattle.format.specs.declared.Fault.TheVariants.{Opening, Check, Closing}

-- The first part of a block that is wrong, in this order: its opening, its check, its closing byte.
pub data Fault : Type 0 where
  opening_wrong check_wrong closing_wrong : Fault

-- The second number that stands for it.
abbrev pub fault_number : Fault → ℕ
fault_number opening_wrong = 1
fault_number check_wrong = 2
fault_number closing_wrong = 3

-- The fault that a value of the code stands for.
abbrev pub as_fault : FaultCode → Fault
as_fault Opening = opening_wrong
as_fault Check = check_wrong
as_fault Closing = closing_wrong

-- What the test of a block gives: it is sound, or what is at fault.
pub data Tested : Type 0 where
  sound : Tested
  faulty : Fault → Tested

-- Goes on where the test holds; where not, f is at fault.
abbrev pub demand : Bool → Fault → Tested → Tested
demand b f t = pick b t (faulty f)
