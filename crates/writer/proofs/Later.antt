-- Sectors written one behind the other from a place of the new track on.
use mathlib.Core.Path.{◌≡◌, refl, sym, ap, ap₂, ◌∙◌, subst}
use Prim.Native.Nat.{ℕ, ◌+◌, ◌-◌, ◌≤◌, ◌<◌}
use native.Mathlib.Omega.{arith}
use mathlib.Core.Bool.{Bool, false}
use mathlib.Core.List.{List, [], ◌∷◌, ◌++◌, append_assoc, append-nil}
use lib.ListN.{length, take, drop, replicate}
use lib.Seq.{take-length}
use Rattle.base.specs.Pick.{pick}
use Rattle.format.specs.Lent.{cells, bytes_of, marks_of}
use Rattle.format.specs.Span.{joined, none}
use Rattle.format.specs.Sector.{Sector}
use Rattle.format.specs.Accept.{Placed, sectors_of}
use Rattle.format.specs.GapRule.{GapRule, gap_by}
use Rattle.format.specs.Written.{gap_after, written_sector, reach, written_spans, sector_size}
use Rattle.format.proofs.Track.Pairs.{length_bytes, length_marks}
use Rattle.base.specs.Laid.{laid_at}
use Rattle.encode.specs.Room.{sector_from}
use Rattle.encode.proofs.Cells.{bytes_append, marks_append}
use Rattle.sectors.specs.declared.SectorAt.{SectorAt as SectorCode}
use Rattle.sectors.specs.SectorAt.{last_first_count, opens_first, sector_at, as_sector_at}
use Rattle.sectors.specs.From.{SectorsFrom}
use Rattle.sectors.proofs.Rest.{opens_high}
use Rattle.sectors.proofs.From.{Step, step_at, steps_end}
use Rattle.writer.specs.Filled.{filled_span}
use Rattle.writer.specs.Remaining.{RemainingRoom, RoomFor, later_cells}
use Rattle.writer.proofs.Filled.{filled_length, take_laid}
use Rattle.writer.proofs.Farthest.{size_stepped, gap_stepped}

-- The place up to which a sector written at place `at` and its gap reach, where the sectors ss follow.
abbrev pub span_end : GapRule → ℕ → ℕ → Sector → List Sector → ℕ
span_end rule l at s ss = pick (none ss) l (at + length (written_sector s) + gap_after (gap_by rule) s)

-- The first of the written sectors by itself.
pub later_split : (rule : GapRule) (l at to : ℕ) (s : Sector) (ss : List Sector) → to ≡ span_end rule l at s ss
    → joined (written_spans (gap_by rule) (l - at) (s ∷ ss)) ≡ filled_span (to - at) s ++ joined (written_spans (gap_by rule) (l - to) ss)
unfolding written_spans filled_span
later_split rule l at to s [] e = ap (λ (k : ℕ). (written_sector s ++ replicate (k - at - length (written_sector s)) 0xFF) ++ []) (sym e)
later_split rule l at to s (r ∷ rs) e =
    let w : List ℕ = written_sector s in
    let g : gap_after (gap_by rule) s ≡ to - at - length w = omega arith in
    let n : l - at - (length w + gap_after (gap_by rule) s) ≡ l - to = omega arith in
    ap₂ (λ (i j : ℕ). (w ++ replicate i 0xFF) ++ joined (written_spans (gap_by rule) j (r ∷ rs))) g n

-- No sectors are left where no placed ones are.
pub none_sectors : (xs : List Placed) → none xs ≡ none (sectors_of xs)
none_sectors [] = refl
none_sectors (x ∷ xs) = refl

-- What room for a sector and those behind it says.
pub room_split : (rule : GapRule) (l at to : ℕ) (s : Sector) (xs : List Placed) → to ≡ span_end rule l at s (sectors_of xs) → at + reach (gap_by rule) (s ∷ sectors_of xs) ≤ l
    → (at + length (written_sector s) ≤ to) × (to ≤ l) × RoomFor rule l to xs
unfolding reach
room_split rule l at to s [] e h = (omega arith, omega arith, e)
room_split rule l at to s (y ∷ ys) e h = (omega arith, omega arith, omega arith)

-- With room, a place lies on the track.
pub room_within : (rule : GapRule) (l at : ℕ) (xs : List Placed) → RoomFor rule l at xs → at ≤ l
room_within rule l at [] h = omega arith
room_within rule l at (x ∷ xs) h = omega arith

-- A buffer that is written up to place `at`, where the rest of the track is F.
module _ (rule : GapRule) (l at to : ℕ) (s : Sector) (ss : List Sector) (e : to ≡ span_end rule l at s ss) (long : at + length (written_sector s) ≤ to) (old new F : List ℕ) (fits : at ≤ length old) where
  -- One sector more, in bytes.
  pub bytes_more : new ≡ laid_at at (bytes_of (filled_span (to - at) s)) old → take at old ++ bytes_of (joined (written_spans (gap_by rule) (l - at) (s ∷ ss))) ≡ F
      → take to new ++ bytes_of (joined (written_spans (gap_by rule) (l - to) ss)) ≡ F
  bytes_more q f =
      let w : List ℕ = filled_span (to - at) s in
      let rest : List ℕ = joined (written_spans (gap_by rule) (l - to) ss) in
      let n : to ≡ at + length (bytes_of w) = omega (arith, length_bytes w, filled_length (to - at) s (omega arith)) in
      ap (λ (z : List ℕ). z ++ bytes_of rest) (ap (take to) q ∙ take_laid at to (bytes_of w) old fits n)
      ∙ append_assoc (take at old) (bytes_of w) (bytes_of rest)
      ∙ ap (λ (z : List ℕ). take at old ++ z) (sym (bytes_append w rest) ∙ ap bytes_of (sym (later_split rule l at to s ss e)))
      ∙ f

  -- In marks.
  pub marks_more : new ≡ laid_at at (marks_of (filled_span (to - at) s)) old → take at old ++ marks_of (joined (written_spans (gap_by rule) (l - at) (s ∷ ss))) ≡ F
      → take to new ++ marks_of (joined (written_spans (gap_by rule) (l - to) ss)) ≡ F
  marks_more q f =
      let w : List ℕ = filled_span (to - at) s in
      let rest : List ℕ = joined (written_spans (gap_by rule) (l - to) ss) in
      let n : to ≡ at + length (marks_of w) = omega (arith, length_marks w, filled_length (to - at) s (omega arith)) in
      ap (λ (z : List ℕ). z ++ marks_of rest) (ap (take to) q ∙ take_laid at to (marks_of w) old fits n)
      ∙ append_assoc (take at old) (marks_of w) (marks_of rest)
      ∙ ap (λ (z : List ℕ). take at old ++ z) (sym (marks_append w rest) ∙ ap marks_of (sym (later_split rule l at to s ss e)))
      ∙ f

-- The sectors from place p of the old track on are to be written from place `at` of the new one on, whose bytes are F in the end and its marks G.
pub record Going (rule : GapRule) (t m : List ℕ) (p at : ℕ) (nt nm F G : List ℕ) : Type 0 where
  pub remaining : List Placed
  pub steps : SectorsFrom t m p remaining
  pub behind : last_first_count < p
  pub room : RoomFor rule (length t) at remaining
  pub bytes : take at nt ++ bytes_of (later_cells rule (length t - at) remaining) ≡ F
  pub marks : take at nm ++ marks_of (later_cells rule (length t - at) remaining) ≡ G

-- A written sector is the one that was stepped over.
pub sector_made : (t m : List ℕ) (p : ℕ) (first : Bool) → opens_first p ≡ first → (xs : List Placed) (s : SectorCode) (v : Step t m p xs s) (key body : List ℕ)
    → key ≡ v.x.sector.key_bytes → body ≡ v.x.sector.data_bytes
    → sector_from first s.flag s.address.cylinder s.address.head s.number key body ≡ v.x.sector
sector_made t m p first place xs s v key body k d =
    let f : first ≡ v.x.sector.first = sym (v.first_is ∙ place) in
    λ i. record {
      first = f i;
      flag = v.flag_is i;
      address = v.address_is i;
      number = v.number_is i;
      key_bytes = k i;
      data_bytes = d i;
    }

-- It starts so, where there is room for the sectors xs.
pub going_start : (rule : GapRule) (t m : List ℕ) (p at : ℕ) (nt nm : List ℕ) (xs : List Placed) → SectorsFrom t m p xs → last_first_count < p → RoomFor rule (length t) at xs
    → Going rule t m p at nt nm (take at nt ++ bytes_of (later_cells rule (length t - at) xs)) (take at nm ++ marks_of (later_cells rule (length t - at) xs))
going_start rule t m p at nt nm xs s b r = record { remaining = xs; steps = s; behind = b; room = r; bytes = refl; marks = refl }

module _ (rule : GapRule) (t m : List ℕ) (p at : ℕ) (nt nm F G : List ℕ) (i : Going rule t m p at nt nm F G) (whole : length (cells t m) ≡ length t) where
  -- The place lies on the new track.
  pub going_within : at ≤ length t
  going_within = room_within rule (length t) at i.remaining i.room

  -- At the end of the old track the new one is whole.
  pub going_end : length t ≤ p → length nt ≡ length t → length nm ≡ length t → (nt ≡ F) × (nm ≡ G)
  unfolding written_spans bytes_of marks_of
  going_end l nt-long nm-long =
      let z : i.remaining ≡ [] = steps_end t m p i.remaining i.steps (omega (arith, whole)) in
      let end : at ≡ length t = subst (RoomFor rule (length t) at) z i.room in
      let all : (ns : List ℕ) → length ns ≡ length t → take at ns ≡ ns = λ ns k. ap (λ (n : ℕ). take n ns) (end ∙ sym k) ∙ take-length ns in (
        sym (all nt nt-long) ∙ sym (append-nil (take at nt)) ∙ ap (λ (xs : List Placed). take at nt ++ bytes_of (later_cells rule (length t - at) xs)) (sym z) ∙ i.bytes,
        sym (all nm nm-long) ∙ sym (append-nil (take at nm)) ∙ ap (λ (xs : List Placed). take at nm ++ marks_of (later_cells rule (length t - at) xs)) (sym z) ∙ i.marks,
      )

  module _ (l : p < length t) (x : SectorCode) (e : as_sector_at x ≡ sector_at p (cells t m)) where
    -- The step over the sector at p.
    pub going_step : Step t m p i.remaining x
    going_step = step_at t m p i.remaining x i.steps (omega (arith, whole)) e

    -- KL and DL of the sector at p fit their bytes.
    pub going_lengths : (x.key_length ≤ 255) × (x.data_length ≤ 65535)
    going_lengths = (going_step.key_fits, going_step.data_fits)

    -- The key and the data lie on the old track.
    pub going_parts : (x.key_place + x.key_length ≤ length t) × (x.data_place + x.data_length ≤ length t)
    going_parts =
        let v = going_step in
        (omega (arith, v.key_inside, v.data_inside, v.end_inside, v.next_inside, whole), omega (arith, v.data_inside, v.end_inside, v.next_inside, whole))

    -- Each step goes on, and not beyond index.
    pub going_onward : (p + 49 ≤ x.next) × (x.next ≤ length t)
    going_onward = let v = going_step in (v.onward, omega (arith, v.next_inside, whole))

    module _ (to : ℕ) (f : to ≡ pick x.last (length t) (at + sector_size false x.key_length x.data_length + gap_by rule x.key_length x.data_length)) where
      end_made : to ≡ span_end rule (length t) at going_step.x.sector (sectors_of going_step.later)
      end_made =
          let v = going_step in
          let size = size_stepped rule t m p false (opens_high p i.behind) i.remaining x v in
          let gap = gap_stepped rule t m p false (opens_high p i.behind) i.remaining x v in
          f ∙ ap (λ (b : Bool). pick b (length t) (at + sector_size false x.key_length x.data_length + gap_by rule x.key_length x.data_length)) (v.last_is ∙ none_sectors v.later)
          ∙ ap₂ (λ (n g : ℕ). pick (none (sectors_of v.later)) (length t) (at + n + g)) (sym size) (sym gap)

      split_room : (at + length (written_sector going_step.x.sector) ≤ to) × (to ≤ length t) × RoomFor rule (length t) to going_step.later
      split_room =
          let v = going_step in
          room_split rule (length t) at to v.x.sector v.later end_made (subst (RoomFor rule (length t) at) v.split i.room)

      -- There is room for the sector.
      pub going_room : (at + sector_size false x.key_length x.data_length ≤ to) × (to ≤ length t)
      going_room = let r = split_room in (omega (arith, r.0, size_stepped rule t m p false (opens_high p i.behind) i.remaining x going_step), r.1)

      -- The sector is written.
      pub going_next : (key body nt' nm' : List ℕ)
          → key ≡ take x.key_length (drop x.key_place t) → body ≡ take x.data_length (drop x.data_place t)
          → length nt ≡ length t → length nm ≡ length t
          → nt' ≡ laid_at at (bytes_of (filled_span (to - at) (sector_from false x.flag x.address.cylinder x.address.head x.number key body))) nt
          → nm' ≡ laid_at at (marks_of (filled_span (to - at) (sector_from false x.flag x.address.cylinder x.address.head x.number key body))) nm
          → Going rule t m x.next to nt' nm' F G
      going_next key body nt' nm' k d nt-long nm-long qt qm =
          let v = going_step in
          let r = split_room in
          let s : sector_from false x.flag x.address.cylinder x.address.head x.number key body ≡ v.x.sector =
          sector_made t m p false (opens_high p i.behind) i.remaining x v key body (k ∙ v.key_bytes_holds) (d ∙ v.data_bytes_holds) in
          let ss : List Sector = sectors_of v.later in
          let within : at ≤ length t = going_within in
          record {
            remaining = v.later;
            steps = v.rest;
            behind = v.rest_behind;
            room = r.2;
            bytes =
                bytes_more rule (length t) at to v.x.sector ss end_made r.0 nt nt' F (omega arith)
                (qt ∙ ap (λ (z : Sector). laid_at at (bytes_of (filled_span (to - at) z)) nt) s)
                (ap (λ (xs : List Placed). take at nt ++ bytes_of (later_cells rule (length t - at) xs)) (sym v.split) ∙ i.bytes);
            marks =
                marks_more rule (length t) at to v.x.sector ss end_made r.0 nm nm' G (omega arith)
                (qm ∙ ap (λ (z : Sector). laid_at at (marks_of (filled_span (to - at) z)) nm) s)
                (ap (λ (xs : List Placed). take at nm ++ marks_of (later_cells rule (length t - at) xs)) (sym v.split) ∙ i.marks);
          }

-- The writing has come from the places p and `at` to the places p' and `at'`.
abbrev pub Writing : GapRule → List ℕ → List ℕ → ℕ → ℕ → List ℕ → List ℕ → ℕ → ℕ → List ℕ → List ℕ → Type 0
Writing rule t m p at nt nm p' at' nt' nm' =
    (length nt' ≡ length t) × (length nm' ≡ length t) × ((F G : List ℕ) → Going rule t m p at nt nm F G → Going rule t m p' at' nt' nm' F G)

-- What is to be written then.
pub writing_now : (rule : GapRule) (t m : List ℕ) (p at : ℕ) (nt nm : List ℕ) (p' at' : ℕ) (nt' nm' : List ℕ) (u : RemainingRoom rule t m p at) → Writing rule t m p at nt nm p' at' nt' nm'
    → Going rule t m p' at' nt' nm' (take at nt ++ bytes_of (later_cells rule (length t - at) u.remaining.sectors)) (take at nm ++ marks_of (later_cells rule (length t - at) u.remaining.sectors))
writing_now rule t m p at nt nm p' at' nt' nm' u w = w.2 _ _ (going_start rule t m p at nt nm u.remaining.sectors u.remaining.steps u.behind u.room)

-- Such a key and such data ask for the room that their numbers do.
pub cut_asks : (b : Bool) (at to kl dl l : ℕ) (key body nt nm : List ℕ) → length key ≡ kl → length body ≡ dl → (kl ≤ 255) × (dl ≤ 65535)
    → (at + sector_size b kl dl ≤ to) × (to ≤ l) → length nt ≡ l → length nm ≡ l
    → ((length key ≤ 255) × (length body ≤ 65535)) × ((at + sector_size b (length key) (length body) ≤ to) × ((to ≤ length nt) × (to ≤ length nm)))
cut_asks b at to kl dl l key body nt nm k d n r f g =
    ((omega arith, omega arith), (rw (k, d) r.0, (omega arith, omega arith)))
