-- What is taken of all that is known, without a list of it.
use Rattle.std.specs.Prelude.{ℕ, ◌≡◌, ◌+◌, ◌++◌, ◌∷◌, [], cond, Bool, List, length, map, count_by, is_some, Option, None, Some, All, slice_set}
use Rattle.blk_capture.specs.Parting.{gone_before, part, place_in, fate_in}
use Rattle.blk_capture.specs.Requests.{AreTimed, IsDue}
use Rattle.blk_capture.specs.Rules.{Known}
use Rattle.blk_capture.specs.Settled.{all_taken, taken_last, is_absorbed, place_with, fate_by}
use Rattle.blk_capture.specs.Inside.Coherent.{AreLaidOut}
use Rattle.blk_capture.specs.Inside.Figures.{AreFiguresOf}
use Rattle.blk_capture.specs.Inside.Taken.{ArePlaced, AreWithin}
use Rattle.blk_capture.specs.declared.clock.Dispatch.{Dispatch}
use Rattle.blk_capture.specs.declared.fates.Fate.{Fate}
use Rattle.blk_capture.specs.declared.figures.Figures.{Figures}
use Rattle.blk_capture.specs.declared.matching.Role.{Role}
use Rattle.blk_capture.specs.declared.members.QueuedBio.{QueuedBio}
use Rattle.blk_capture.specs.declared.taken.Placing.{Placing}
use Rattle.blk_capture.specs.declared.requests.CapturedRequest.{CapturedRequest}
use Rattle.blk_capture.specs.declared.requests.MergeRoot.{MergeRoot}
use Rattle.blk_capture.specs.declared.requests.Options.{Options}

-- those that are taken from a time on, of these the first; how many went out before, and how many these are
abbrev pub part_taken : ℕ → ℕ → Options → Known → List CapturedRequest
part_taken begin first o m = part begin first (all_taken o m)

abbrev pub all_before : ℕ → Options → Known → ℕ
all_before begin o m = gone_before begin (all_taken o m)

abbrev pub all_in_part : ℕ → ℕ → Options → Known → ℕ
all_in_part begin first o m = length (part_taken begin first o m)

-- whether a place is among n from one on; whether a bio went out with such a request; what became of a record of it
abbrev pub goes_with : ℕ → ℕ → Option ℕ → Bool
goes_with from n p = is_some (place_in from n p)

abbrev pub is_counted_in : ℕ → ℕ → Options → Known → QueuedBio → Bool
is_counted_in from n o m b = goes_with from n (place_with o m b)

abbrev pub fate_with : ℕ → ℕ → Options → Known → Role → Fate
fate_with from n o m r = fate_in from n (fate_by o m r)

-- a request without the bio that it was opened for, and the number of its bios
abbrev pub plain : CapturedRequest → CapturedRequest
plain q = record q { bios = 0; bio = 0 }

-- the request of a number is taken next
pub record IsPlacing {A : Type 0} (number : ℕ) (b : Bool) (old new : Placing A) : Type 0 where
  pub places : new.places.items ≡ slice_set old.places.items number (Some old.count)
  pub count : new.count ≡ old.count + 1
  pub before : new.before ≡ old.before + cond b 1 0

-- figures of these requests, and of that of a dispatch, if it is taken
pub record HasAdded {A : Type 0} (o : Options) (m : Known) (n : ℕ) (x : Dispatch) (qs : List CapturedRequest) (f : Figures A) : Type 0 where
  pub none : taken_last o m (n, x) ≡ None → AreFiguresOf (map plain qs) f
  pub one : (q : CapturedRequest) → taken_last o m (n, x) ≡ Some q → AreFiguresOf (map plain (qs ++ q ∷ [])) f

-- lives and places of all that are taken
pub record AreWhole (o : Options) (m : Known) (lives : List MergeRoot) (places : List (Option ℕ)) : Type 0 where
  pub placed : ArePlaced lives m.openers places (all_taken o m)
  pub timed : AreTimed (all_taken o m)
  pub untallied : All (λ q. q.bios ≡ 0) (all_taken o m)
  pub due : All (IsDue o) (all_taken o m)
  pub many : count_by is_some places ≡ length (all_taken o m)
  pub within : AreWithin (length (all_taken o m)) places

-- so many others weren't merged into others, where n are taken of those that might be
pub record IsLeftOut (o : Options) (m : Known) (n out : ℕ) : Type 0 where
  pub left : ℕ
  pub sum : length (all_taken o m) + count_by (λ q. is_absorbed q.stage) m.requests + left ≡ length m.requests
  pub out_is : out + n ≡ left + length (all_taken o m)

pub record IsWhole (o : Options) (m : Known) : Type 0 where
  pub lives : List MergeRoot
  pub places : List (Option ℕ)
  pub laid : AreLaidOut o m lives places
  pub whole : AreWhole o m lives places
