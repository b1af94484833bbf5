-- The flag byte of home and of counts; B8 is its top bit.
use Rattle.std.specs.Prelude.{ℕ, ◌/◌, ◌%◌, Bool, true, ◌&&◌, ◌||◌, eqb}
use Rattle.base.specs.Pick.{pick}

-- B8, which alternates from sector to sector.
abbrev pub alternation : ℕ → ℕ
alternation f = f / 128

-- B7, which says that the record runs on elsewhere.
abbrev pub overflow : ℕ → ℕ
overflow f = f / 64 % 2

-- B6 to B3, which are zero.
abbrev pub spare_bits : ℕ → ℕ
spare_bits f = f / 4 % 16

-- B2 B1: 0 good original, 1 good alternative, 2 defective with an alternative allocated, 3 defective with none.
abbrev pub condition : ℕ → ℕ
condition f = f % 4

-- The flag of home: B8, B7 and B6 to B3 are zero.
unfoldable pub home_flag_right : ℕ → Bool
home_flag_right f = (eqb (alternation f) 0 && eqb (overflow f) 0) && eqb (spare_bits f) 0

-- B8 and B7 of the sector in position i: both 0 in sector 0; B8 is 1 in the first after it and alternates from there.
unfoldable pub sequence_right : ℕ → ℕ → Bool
sequence_right i f = eqb (alternation f) (i % 2) && (pick (eqb i 0) (eqb (overflow f) 0) true)

-- The flag of the count in position i on a track whose home has the flag h: B2 B1 as in home.
unfoldable pub count_flag_right : ℕ → ℕ → ℕ → Bool
count_flag_right h i f = (eqb (condition f) (condition h) && eqb (spare_bits f) 0) && sequence_right i f

-- The counts of the track name the track itself: flags 00 and 11.
unfoldable pub names_itself : ℕ → Bool
names_itself f = eqb (condition f) 0 || eqb (condition f) 3
