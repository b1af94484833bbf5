-- One list laid over another, which keeps every other element.
use Rattle.std.specs.Prelude.{ℕ, ◌+◌, Bool, List, ◌++◌, length, take, drop}
use Rattle.base.specs.Pick.{pick}

-- The list xs over the front of old.
unfoldable pub laid_over : List ℕ → List ℕ → List ℕ
laid_over xs old = xs ++ drop (length xs) old

-- The list xs over old from place at on.
unfoldable pub laid_at : ℕ → List ℕ → List ℕ → List ℕ
laid_at at xs old = take at old ++ (xs ++ drop (at + length xs) old)

-- A writer's part: xs over the front of old where it answers true, else old.
abbrev pub laid_if : Bool → List ℕ → List ℕ → List ℕ
laid_if wrote xs old = pick wrote (laid_over xs old) old

-- The same from place at on.
abbrev pub laid_at_if : Bool → ℕ → List ℕ → List ℕ → List ℕ
laid_at_if wrote at xs old = pick wrote (laid_at at xs old) old
