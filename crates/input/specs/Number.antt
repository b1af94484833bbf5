-- An answer as the programs print it.
use Rattle.std.specs.Prelude.{ℕ, List, [], ◌++◌, cond, ◌==◌, decimal, codes}
use Rattle.format.specs.declared.Answer.{Answer}

-- The number in decimal and, where the second number is not 0, a dot and the second number.
abbrev pub number_text : Answer → List ℕ
number_text a = decimal a.number ++ cond (a.fault == 0) [] (codes "." ++ decimal a.fault)
