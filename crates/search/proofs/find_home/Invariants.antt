-- `find_home` meets its contract: home's place is the place found in what is left of the window.
use mathlib.Core.Path.{◌≡◌}
use Prim.Native.Nat.{◌+◌, ◌-◌, ◌≤◌, ◌<◌}
use lib.ListN.{length, drop}
use Rattle.format.specs.Lent.{cells}
use Rattle.format.specs.Opening.{starts_with, plain_opening}
use Rattle.format.specs.Home.{home_from, find_home}
use Rattle.search.proofs.find_home.Given as goal

-- What holds at each cell of an opening: k cells agree at a place of the window before which home does not open.
abbrev pub invariant-loop-k : goal.invariant-loop-k
invariant-loop-k l =
    (l.place ≡ l.initial.place) × (l.place < 38) × (23 ≤ l.place) × (l.k ≤ 6)
    × (find_home (cells l.track l.marks) ≡ home_from (38 - l.place) l.place (cells l.track l.marks))
    × (starts_with plain_opening (drop l.place (cells l.track l.marks)) ≡ starts_with (drop l.k plain_opening) (drop (l.place + l.k) (cells l.track l.marks)))

-- What falls with each cell: the number of cells left to compare.
abbrev pub decreases-loop-k : goal.decreases-loop-k
decreases-loop-k l = 6 - l.k

-- What holds at each place: home opens at none before it.
abbrev pub invariant-places : goal.invariant-places
invariant-places l = (23 ≤ l.place) × (l.place ≤ 38) × (find_home (cells l.track l.marks) ≡ home_from (38 - l.place) l.place (cells l.track l.marks))

-- What falls with each place: the number of places left.
abbrev pub decreases-places : goal.decreases-places
decreases-places l = 38 - l.place

-- What holds at the search: n is the number of cells.
abbrev pub invariant-search : goal.invariant-search
invariant-search l = l.n ≡ length (cells l.track l.marks)

-- The search is made once.
abbrev pub decreases-search : goal.decreases-search
decreases-search l = 0
