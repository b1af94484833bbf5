-- What is settled before any record is filled: by the length of the list, and by what Accept says; and what it says of List's outcome.
use mathlib.Core.Path.{◌≡◌, refl, sym, ap, ◌∙◌, subst}
use Prim.Native.Nat.{ℕ, ◌≤◌, ◌<◌}
use mathlib.Core.List.{List, map}
use lib.ListN.{length}
use borrow.Author.Tests.{le-leb}
use Rattle.format.specs.Answer.{Answer, done, lent_wrong}
use Rattle.format.specs.Judged.{Judged, good, refused, then, answer_of}
use Rattle.format.specs.Home.{Home, first_count_place}
use Rattle.format.specs.Accept.{Placed, Accepted, accept}
use Rattle.format.specs.Listing.{Listed, listed, most_sectors, list}
use Rattle.format.proofs.Base.Judged.{good_inj, refused_inj, good-refused, refused-good}
use Rattle.format.proofs.Track.ListAccepted.{list_records, list_number, list_refuses, list_short}
use Rattle.sectors.specs.From.{SectorsFrom}
use Rattle.sectors.proofs.From.{accepted_steps}
use Rattle.listing.specs.declared.Begun.{Begun}
use Rattle.listing.specs.Filling.{records_of, first_count, first_for, begun}

-- A list under 67 is refused by 1.
pub begun_short : (n : ℕ) (t m : List ℕ) → n < most_sectors → ◌≡◌ {A = Judged Begun} (refused lent_wrong) (begun n t m)
begun_short n t m l = rw (list_short n t m l) refl

-- A track that Accept refuses is refused by the same answer.
pub begun_refused : (n : ℕ) (t m : List ℕ) (b : Answer) → most_sectors ≤ n → ◌≡◌ {A = Judged Home} (refused b) (then (accept t m) (λ (a : Accepted). good a.home))
    → ◌≡◌ {A = Judged Begun} (refused b) (begun n t m)
begun_refused n t m b l e = go (accept t m) refl e
  where
    go : (j : Judged Accepted) → accept t m ≡ j → ◌≡◌ {A = Judged Home} (refused b) (then j (λ (a : Accepted). good a.home)) → ◌≡◌ {A = Judged Begun} (refused b) (begun n t m)
    go (good a) q w = refused-good b a.home w
    go (refused d) q w = rw (list_refuses n t m d l q) (ap refused (refused_inj b d w))

-- An accepted track is listed: sector 0's count opens behind its home h, and there are as many records as sectors from there on.
pub begun_good : (n : ℕ) (t m : List ℕ) (h : Home) (k : ℕ) → most_sectors ≤ n → ◌≡◌ {A = Judged Home} (good h) (then (accept t m) (λ (a : Accepted). good a.home))
    → ((xs : List Placed) → SectorsFrom t m (first_count_place h.place) xs → k ≡ length xs)
    → ◌≡◌ {A = Judged Begun} (good (record { count = k; first = first_count_place h.place })) (begun n t m)
unfolding first_for first_count
begun_good n t m h k l e f = go (accept t m) refl e
  where
    go : (j : Judged Accepted) → accept t m ≡ j → ◌≡◌ {A = Judged Home} (good h) (then j (λ (a : Accepted). good a.home))
        → ◌≡◌ {A = Judged Begun} (good (record { count = k; first = first_count_place h.place })) (begun n t m)
    go (good a) q w =
        let z : h ≡ a.home = good_inj h a.home w in
        let s : SectorsFrom t m (first_count_place h.place) a.sectors = subst (λ (x : Home). SectorsFrom t m (first_count_place x.place) a.sectors) (sym z) (accepted_steps t m a q) in
        let c : k ≡ length (map listed a.sectors) = f a.sectors s ∙ sym (list_number a) in
        let p : first_count_place h.place ≡ first_for n t m = rw (le-leb most_sectors n l, q) (ap (λ (x : Home). first_count_place x.place) z) in
        rw (list_records n t m a l q) (λ i. good (record { count = c i; first = p i }))
    go (refused b) q w = good-refused h b w

-- What is settled well says that List is done, how many records it has, and where the first comes from.
pub record Settled (n : ℕ) (t m : List ℕ) (b : Begun) : Type 0 where
  pub answer_is : done ≡ answer_of (list n t m)
  pub count_is : b.count ≡ length (records_of (list n t m))
  pub first_is : b.first ≡ first_for n t m

pub settled : (n : ℕ) (t m : List ℕ) (b : Begun) → ◌≡◌ {A = Judged Begun} (good b) (begun n t m) → Settled n t m b
settled n t m b e = go (list n t m) refl e
  where
    go : (j : Judged (List Listed)) → list n t m ≡ j → ◌≡◌ {A = Judged Begun} (good b) (then j (λ rs. good (record { count = length rs; first = first_for n t m }))) → Settled n t m b
    go (good rs) q w =
        let z = good_inj b _ w in
        record { answer_is = rw q refl; count_is = rw q (ap (λ (x : Begun). x.count) z); first_is = ap (λ (x : Begun). x.first) z }
    go (refused a) q w = good-refused b a w

-- What is refused before any record is filled is refused of List.
pub not_settled : (n : ℕ) (t m : List ℕ) (b : Answer) → ◌≡◌ {A = Judged Begun} (refused b) (begun n t m) → list n t m ≡ refused b
not_settled n t m b e = go (list n t m) e
  where
    go : (j : Judged (List Listed)) → ◌≡◌ {A = Judged Begun} (refused b) (then j (λ rs. good (record { count = length rs; first = first_for n t m }))) → j ≡ refused b
    go (good rs) w = refused-good b _ w
    go (refused a) w = ap refused (sym (refused_inj b a w))
