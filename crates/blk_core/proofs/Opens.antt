-- The commands in flight of a direction are the open Issues of its requests.
use Rattle.std.proofs.Common.{◌≡◌, ◌+◌, ℕ, List, [], ◌∷◌, length, map, refl, sym, arith, cond, Bool}
use Rattle.std.specs.Prelude.{count_by}
use Rattle.std.proofs.lemmas.List.{length-map}
use Rattle.std.proofs.lemmas.List.Sums.{sum_by-cons}
use Rattle.blk_bio.specs.declared.bio.Dir.{Dir}
use Rattle.blk_bio.specs.declared.bio.Dir.TheVariants.{Read, Write}
use Rattle.blk_bio.specs.Requests.{dir_of}
use Rattle.blk_trace.specs.declared.issued.Issued.{Issued}
use Rattle.blk_trace.specs.Happened.{Happened}
use Rattle.blk_trace.specs.Setups.{Setup, same_dir}
use Rattle.blk_trace.specs.Events.{open_count, request_of}
use Rattle.blk_trace.specs.Issues.{issues_of, flying}
use Rattle.blk_trace.specs.Legal.{IsLegalTrace}
use Rattle.blk_trace.specs.Inside.Seats.{flying_of}
use Rattle.blk_trace.proofs.Opening.{open-both, open_all}
use Rattle.blk_core.specs.Opens.{open_issues, open_issues_of}

count_map : {X Y : Type 0} (f : X → Y) (p : Y → Bool) (xs : List X) → count_by p (map f xs) ≡ count_by (λ x. p (f x)) xs
count_map f p [] = refl
count_map {X} {Y} f p (x ∷ xs) = omega (arith, sum_by-cons (λ (y : Y). cond (p y) 1 0) (f x) (map f xs), sum_by-cons (λ (y : X). cond (p (f y)) 1 0) x xs, count_map f p xs)

pub open_by_dir : (events : List Happened) (d : Dir) → flying_of events d ≡ open_issues_of events d
unfolding open_issues flying_of
open_by_dir events d = sym (count_map (λ (i : Issued). (i.id, i.tag)) (λ (x : ℕ × ℕ). same_dir d (dir_of (request_of events x.0))) (flying (issues_of events)))

-- those of both directions are all that are open
pub open_by_dirs : (setup : Setup) (events : List Happened) → IsLegalTrace setup events → open_issues_of events Read + open_issues_of events Write ≡ open_count events
open_by_dirs setup events legal = omega (arith, open_by_dir events Read, open_by_dir events Write, open-both setup events legal)

-- and all are the Issues less those that have ended
pub open_listed : (setup : Setup) (events : List Happened) → IsLegalTrace setup events → length (open_issues events) ≡ open_count events
unfolding open_issues open_count
open_listed setup events legal = omega (arith, length-map {B = ℕ × ℕ} (flying (issues_of events)) (λ (i : Issued). (i.id, i.tag)), open_all setup events legal)
