-- List gives a record for each sector of an accepted track, and a list of 67 records has room for them.
use mathlib.Core.Path.{◌≡◌}
use Prim.Native.Nat.{ℕ, ◌≤◌, ◌<◌}
use mathlib.Core.List.{List, map}
use lib.ListN.{length, length-map}
use borrow.Author.Tests.{le-leb, lt-leb}
use Rattle.format.specs.Answer.{Answer, lent_wrong}
use Rattle.format.specs.Judged.{good, refused}
use Rattle.format.specs.Accept.{Accepted, accept}
use Rattle.format.specs.Listing.{listed, most_sectors, list}

-- The records are those of the accepted track's sectors, from left to right.
pub list_records : (n : ℕ) (t m : List ℕ) (a : Accepted) → most_sectors ≤ n → accept t m ≡ good a → list n t m ≡ good (map listed a.sectors)
unfolding list
list_records n t m a l e = rw (le-leb most_sectors n l, e)

-- There are as many as sectors.
pub list_number : (a : Accepted) → length (map listed a.sectors) ≡ length a.sectors
list_number a = length-map a.sectors listed

-- A track that Accept refuses is refused by the same answer.
pub list_refuses : (n : ℕ) (t m : List ℕ) (b : Answer) → most_sectors ≤ n → accept t m ≡ refused b → list n t m ≡ refused b
unfolding list
list_refuses n t m b l e = rw (le-leb most_sectors n l, e)

-- A shorter list is refused by 1, whatever is lent.
pub list_short : (n : ℕ) (t m : List ℕ) → n < most_sectors → list n t m ≡ refused lent_wrong
unfolding list
list_short n t m l = rw (lt-leb most_sectors n l)

-- The length of a list of 67 or more makes no difference.
pub list_long : (n : ℕ) (t m : List ℕ) → most_sectors ≤ n → list most_sectors t m ≡ list n t m
unfolding list
list_long n t m l = rw (le-leb most_sectors n l)
