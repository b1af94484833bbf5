-- A cylinder that is written is read as the same cylinder, and a file that is read is written as the same file.
use mathlib.Core.Path.{◌≡◌, sym, ap, ◌∙◌, subst}
use Prim.Native.Nat.{ℕ, ◌≤◌, ◌<◌}
use native.Mathlib.Omega.{arith}
use mathlib.Core.Bool.{true}
use mathlib.Core.List.{List}
use lib.ListN.{length}
use lib.Dec.{leb}
use borrow.Author.Tests.{le-leb}
use Rattle.base.specs.Indexed.{join_to}
use Rattle.crc.specs.Halves.{AllBytes}
use Rattle.crc.proofs.Bytes.{all_bytes, byte_at}
use Rattle.format.specs.Answer.{lent_wrong, header_wrong, buffer_too_short}
use Rattle.format.specs.Judged.{good, require}
use Rattle.format.specs.Lent.{lent_for_reading}
use Rattle.format.proofs.Base.Judged.{good_inj, then_good, require_good}
use Rattle.cylinder.specs.Cylinder.{Cylinder, track_count, track_of, track_marks_of, cylinder_of, TracksAre, track_count_right, cylinder_lent}
use Rattle.cylinder.specs.File.{cylinder_file}
use Rattle.cylinder.specs.Writing.{write_cylinder}
use Rattle.cylinder.specs.Reading.{track_in, marks_in, judge_file, cylinder_in, Room, Takes, room_for, read_cylinder}
use Rattle.cylinder.proofs.Sound.{SoundFile, file_sound, sound_file}
use Rattle.cylinder.proofs.Sizes.{cylinder_lent_lem}
use Rattle.cylinder.proofs.WrittenFile.{cylinder_read_lem, file_read}
use Rattle.cylinder.proofs.Parts.{join_keeps}
use Rattle.cylinder.proofs.CylinderParts.{tracks_cylinder, lent_tracks}
use Rattle.cylinder.proofs.FileBytes.{file_bytes_lem}
use Rattle.cylinder.proofs.HeldCylinder.{held_count, track_held, room_takes, lent_held, count_held, file_back}

-- What is written of a cylinder that is lent within the rule is its file,
pub lent_write : (c : Cylinder) (room : ℕ) → track_count_right (track_count c) ≡ true → cylinder_lent c ≡ true → length (cylinder_file c) ≤ room → write_cylinder c room ≡ good (cylinder_file c)
unfolding write_cylinder
lent_write c room n e h = rw (n, e, le-leb (length (cylinder_file c)) room h)

-- and nothing else is written.
write_lent : (c : Cylinder) (room : ℕ) (f : List ℕ) → write_cylinder c room ≡ good f → (track_count_right (track_count c) ≡ true) × (cylinder_lent c ≡ true) × (cylinder_file c ≡ f)
unfolding write_cylinder
write_lent c room f e =
    let a = require_good (track_count_right (track_count c)) header_wrong _ f e in
    let b = require_good (cylinder_lent c) lent_wrong _ f a.1 in
    let d = require_good (leb (length (cylinder_file c)) room) buffer_too_short _ f b.1 in
    (a.0, b.0, good_inj (cylinder_file c) f d.1)

-- What is read is the cylinder in a sound file.
read_sound : (f : List ℕ) (r : Room) (c : Cylinder) → read_cylinder f r ≡ good c → SoundFile f × (cylinder_in f ≡ c)
unfolding read_cylinder
read_sound f r c e =
    let a = then_good (judge_file f) (λ _. require (room_for f r) buffer_too_short (good (cylinder_in f))) c e in
    let b = require_good (room_for f r) buffer_too_short (good (cylinder_in f)) c a.2 in
    (file_sound f a.1, good_inj (cylinder_in f) c b.1)

-- The file of a cylinder that is lent within the rule is read as that cylinder.
file_reads : (c : Cylinder) (r : Room) → track_count_right (track_count c) ≡ true → cylinder_lent c ≡ true → Takes r c → read_cylinder (cylinder_file c) r ≡ good c
unfolding read_cylinder
file_reads c r n e h =
    let s = file_read c (cylinder_lent_lem c e) n in
    let room = (room_takes (cylinder_file c) s r).1 (subst (Takes r) (sym (cylinder_read_lem c e)) h) in
    rw (sound_file (cylinder_file c) s, room) (ap good (cylinder_read_lem c e))

-- What was written is read as the same cylinder.
pub write_read : (c : Cylinder) (room : ℕ) (f : List ℕ) (r : Room) → write_cylinder c room ≡ good f → Takes r c → read_cylinder f r ≡ good c
write_read c room f r e h =
    let w = write_lent c room f e in
    rw (← w.2) (file_reads c r w.0 w.1 h)

-- Whatever is read is a cylinder of one to ten tracks that is lent within the rule.
pub read_lent : (f : List ℕ) (r : Room) (c : Cylinder) → read_cylinder f r ≡ good c → (track_count_right (track_count c) ≡ true) × (cylinder_lent c ≡ true)
read_lent f r c e =
    let a = read_sound f r c e in
    subst (λ (z : Cylinder). (track_count_right (track_count z) ≡ true) × (cylinder_lent z ≡ true)) a.1 (count_held f a.0, lent_held f a.0)

-- Each track of what is read is the one in the file, and so are its marks.
pub read_tracks : (f : List ℕ) (r : Room) (c : Cylinder) → read_cylinder f r ≡ good c → (k : ℕ) → k < track_count c → (track_of c k ≡ track_in f k) × (track_marks_of c k ≡ marks_in f k)
read_tracks f r c e k h =
    let a = read_sound f r c e in
    let l : k < track_count (cylinder_in f) = subst (λ (z : Cylinder). k < track_count z) (sym a.1) h in
    subst (λ (z : Cylinder). (track_of z k ≡ track_in f k) × (track_marks_of z k ≡ marks_in f k)) a.1 (track_held f a.0 k (omega (arith, held_count f a.0)))

-- What is read is the cylinder whose file was read.
read_file : (f : List ℕ) (r : Room) (c : Cylinder) → AllBytes f → read_cylinder f r ≡ good c → f ≡ cylinder_file c
read_file f r c b e = let a = read_sound f r c e in sym (file_back f a.0 b) ∙ ap cylinder_file a.1

-- What was read is written as the same file.
pub read_write : (f : List ℕ) (r : Room) (c : Cylinder) (room : ℕ) → AllBytes f → read_cylinder f r ≡ good c → length f ≤ room → write_cylinder c room ≡ good f
read_write f r c room b e h =
    let l = read_lent f r c e in
    let q = read_file f r c b e in
    lent_write c room l.0 l.1 (subst (λ (z : List ℕ). length z ≤ room) q h) ∙ ap good (sym q)

-- A cylinder of one to ten tracks of bytes that is lent within the rule has a file of bytes that is read as it, and with any room no other file of bytes is.
pub one_file : (c : Cylinder) (r : Room) → track_count_right (track_count c) ≡ true → cylinder_lent c ≡ true → AllBytes c.tracks → Takes r c
    → AllBytes (cylinder_file c) × (read_cylinder (cylinder_file c) r ≡ good c) × ((f : List ℕ) (q : Room) → AllBytes f → read_cylinder f q ≡ good c → f ≡ cylinder_file c)
one_file c r n e b h = (file_bytes_lem c n e b, file_reads c r n e h, λ f q a g. read_file f q c a g)

-- What is read with n tracks t and their marks m is the cylinder of these.
pub read_as_tracks : (f : List ℕ) (q : Room) (c : Cylinder) (n : ℕ) (t m : ℕ → List ℕ) → read_cylinder f q ≡ good c → TracksAre c n t m → c ≡ cylinder_of n t m
read_as_tracks f q c n t m e h = lent_tracks c n t m (read_lent f q c e).1 h

-- So for any one to ten tracks of bytes, each lent with its marks within the rule, there is a file of bytes that is read as them, and every file of bytes that is read as them, with whatever room, is that one.
pub tracks_one_file : (n : ℕ) (t m : ℕ → List ℕ) (r : Room) → track_count_right n ≡ true → ((k : ℕ) → k < n → lent_for_reading (t k) (m k) ≡ true) → ((k : ℕ) → k < n → AllBytes (t k)) → Takes r (cylinder_of n t m)
    → let c = cylinder_of n t m in AllBytes (cylinder_file c) × (read_cylinder (cylinder_file c) r ≡ good c) × TracksAre c n t m
    × ((f : List ℕ) (q : Room) (d : Cylinder) → AllBytes f → read_cylinder f q ≡ good d → TracksAre d n t m → f ≡ cylinder_file c)
tracks_one_file n t m r e lent bytes h =
    let c = tracks_cylinder n t m lent in
    let o = one_file (cylinder_of n t m) r (rw c.0 e) c.1 (all_bytes (join_to t n) (join_keeps (λ x. x < 256) t n (λ k l. byte_at (t k) (bytes k l)))) h in
    (o.0, o.1, (c.0, c.2), λ f q d b g a. read_file f q d b g ∙ ap cylinder_file (read_as_tracks f q d n t m g a))
