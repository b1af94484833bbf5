-- What the search for candidates, Walk and Find give.
use Rattle.std.specs.Prelude.{ℕ, ◌+◌, ◌≤◌, Bool, List, [], ◌∷◌, take, drop, eqb, Option, Some, None, Result, Ok, Err}
use Rattle.base.specs.Pick.{pick}
use Rattle.format.specs.Answer.{as_refusal, wanted_wrong}
use Rattle.format.specs.Judged.{Judged, good, refused}
use Rattle.format.specs.Sector.{opening_length}
use Rattle.format.specs.Candidate.{Candidate, first_opens_at, candidate_at, count_passes, stands_at}
use Rattle.format.specs.Walk.{Visited}
use Rattle.format.specs.Find.{part_of}
use Rattle.format.specs.Blocks.{Wanted, the_key, the_data, Part}
use Rattle.format.specs.declared.Refusal.{Refusal}
use Rattle.reader.specs.declared.candidate.Candidate.{Candidate as CandidateCode}
use Rattle.reader.specs.declared.walk.Visited.{Visited as VisitedCode}
use Rattle.reader.specs.declared.finding.Wanted.{Wanted as WantedCode}
use Rattle.reader.specs.declared.finding.Wanted.TheVariants.{TheKey, TheData}
use Rattle.reader.specs.declared.finding.Part.{Part as PartCode}

-- The candidate of the track t that a value of the code stands for: its bytes are the track's, behind its opening.
abbrev pub as_candidate : List ℕ → CandidateCode → Candidate
as_candidate t x =
    record {
      place = x.place;
      first = x.first;
      last = x.last;
      rest = take x.size (drop (x.place + opening_length x.first) t);
    }

-- The candidate that stands, if one does.
abbrev pub standing : List ℕ → Option CandidateCode → List Candidate
standing t (Some x) = as_candidate t x ∷ []
standing t None = []

-- The count that opens at the front of c, at place p, where it is a candidate.
unfoldable pub passing : Bool → ℕ → List ℕ → List Candidate
passing first p c = pick (count_passes (candidate_at first p c)) (candidate_at first p c ∷ []) []

-- The candidate at the front of c, at place p, if one stands there.
unfoldable pub standing_at : Judged ℕ → ℕ → List ℕ → List Candidate
standing_at h p c = pick (stands_at h p c) (candidate_at (first_opens_at h p c) p c ∷ []) []

-- What a step gives of a candidate.
abbrev pub as_visited : VisitedCode → Visited
as_visited v =
    record {
      place = v.place;
      flag = v.flag;
      number = v.number;
      key_length = v.key_length;
      data_length = v.data_length;
    }

-- What a step gives: the candidate, or its refusal.
abbrev pub judged_visit : Result VisitedCode Refusal → Judged Visited
judged_visit (Ok v) = good (as_visited v)
judged_visit (Err e) = refused (as_refusal e)

-- The part that is asked for.
abbrev pub as_wanted : WantedCode → Wanted
as_wanted TheKey = the_key
as_wanted TheData = the_data

-- The part that a number asks for: 0 the key, 1 the data, and 14 for any other.
unfoldable pub wanted_by : ℕ → Judged Wanted
wanted_by n = pick (eqb n 0) (good the_key) (pick (eqb n 1) (good the_data) (refused wanted_wrong))

-- The part that is asked for, or the refusal of what is asked.
abbrev pub judged_wanted : Result WantedCode Refusal → Judged Wanted
judged_wanted (Ok w) = good (as_wanted w)
judged_wanted (Err e) = refused (as_refusal e)

-- The part of the track.
abbrev pub as_part : PartCode → Part
as_part x = record { start = x.start; size = x.size }

-- What Find gives: the part, or its refusal.
abbrev pub judged_part : Result PartCode Refusal → Judged Part
judged_part (Ok x) = good (as_part x)
judged_part (Err e) = refused (as_refusal e)

-- A part that is found lies within a track of n bytes.
abbrev pub PartWithin : Result PartCode Refusal → ℕ → Type 0
PartWithin (Ok x) n = x.start + x.size ≤ n
PartWithin (Err e) n = Unit {0}

-- The bytes of the track t that Find hands out: those of the part, none where it is refused.
abbrev pub handed_out : List ℕ → Judged Part → List ℕ
handed_out t (good x) = part_of t x
handed_out t (refused a) = []
