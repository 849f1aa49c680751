-- Records that are matched one by one, of which none is kept.
use Rattle.std.specs.Prelude.{ℕ, ◌≡◌, ◌≤◌, ◌+◌, ◌||◌, ◌==◌, cond, Bool, List, [], ◌∷◌, ◌++◌, length, map, All, Result, IfOk}
use Rattle.blk_capture.specs.Fates.{opens, makes, told, ArePassed, AreOfTaken}
use Rattle.blk_capture.specs.Parting.{gone_before, part, bio_in, fate_in}
use Rattle.blk_capture.specs.Passing.{place_of, passed_over}
use Rattle.blk_capture.specs.Requests.{AreTimed, HaveBios, AreTallied, AreGone, IsDue}
use Rattle.blk_capture.specs.Rules.{AreTold}
use Rattle.blk_capture.specs.Settled.{IsMatching}
use Rattle.blk_capture.specs.Summaries.{IsSummary}
use Rattle.blk_capture.specs.Inside.Coherent.{IsCoherent}
use Rattle.blk_capture.specs.Inside.Matchings.{all_known, IsSound}
use Rattle.blk_capture.specs.Inside.Roles.{opens_role, makes_role, passed_role}
use Rattle.blk_capture.specs.declared.fates.Fate.{Fate}
use Rattle.blk_capture.specs.declared.fates.Fate.TheVariants as fate
use Rattle.blk_capture.specs.declared.matching.Role.{Role}
use Rattle.blk_capture.specs.declared.matching.Role.TheVariants as role
use Rattle.blk_capture.specs.declared.record.Action.{Action}
use Rattle.blk_capture.specs.declared.record.Record.{Record}
use Rattle.blk_capture.specs.declared.requests.CapturedBio.{CapturedBio}
use Rattle.blk_capture.specs.declared.requests.CapturedRequest.{CapturedRequest}
use Rattle.blk_capture.specs.declared.requests.Options.{Options}
use Rattle.blk_capture.specs.declared.running.Running.{Running}
use Rattle.blk_capture.specs.declared.running.RunSummary.{RunSummary}

-- a record of a merge, M or F; and what is said of these among all
abbrev pub is_merge : Action → Bool
is_merge a = (place_of a == 2) || (place_of a == 3)

unfoldable pub of_merges : {F : Type 0} → List Record → List F → List F
of_merges [] fs = []
of_merges (r ∷ rs) [] = []
of_merges (r ∷ rs) (f ∷ fs) = cond (is_merge r.action) (f ∷ of_merges rs fs) (of_merges rs fs)

-- what is known at once of what becomes of a record: which are unmatched or passed over, and not yet which are of a request that is taken
abbrev pub fate_so_far : Role → Fate
fate_so_far (role.Bio b) = fate.LeftOut
fate_so_far (role.Request k) = fate.LeftOut
fate_so_far role.Unmatched = fate.Unmatched
fate_so_far (role.PassedOver kind) = fate.PassedOver kind

abbrev pub so_far : Fate → Fate
so_far (fate.Taken k) = fate.LeftOut
so_far fate.LeftOut = fate.LeftOut
so_far fate.Unmatched = fate.Unmatched
so_far (fate.PassedOver kind) = fate.PassedOver kind

-- the time that was come to, how many records were taken in, and how they are matched
abbrev pub run_time : {A : Type 0} → Running A → ℕ
run_time r = r.matching.clock.now

abbrev pub run_count : {A : Type 0} → Running A → ℕ
run_count r = r.count

abbrev pub run_options : {A : Type 0} → Running A → Options
run_options r = r.matching.options

-- whatever the records were: the indexes are those of the lists, what is known agrees with itself, and no more requests are known than there
-- were records
pub record IsSteady {A : Type 0} (r : Running A) : Type 0 where
  pub sound : IsSound r.matching
  pub coherent : IsCoherent (run_options r) (run_time r) (all_known r.matching)
  pub few : length r.matching.requests.items ≤ run_count r

-- these records were taken in, each of what its role says
pub record HasRun {A : Type 0} (records : List Record) (roles : List Role) (r : Running A) : Type 0 where
  pub each : length roles ≡ length records
  pub counted : run_count r ≡ length records
  pub by_rules : AreTold (run_options r) records roles (length records) (all_known r.matching)
  pub opened : length r.matching.requests.items ≡ told opens_role records roles
  pub made : length r.matching.members.bios.items ≡ told makes_role records roles
  pub passed : map passed_role roles ≡ map passed_over records
  pub merges : r.merges.items ≡ of_merges records roles

-- these records were taken in, and this is known so far of what becomes of them
pub record HasTaken {A : Type 0} (records : List Record) (fates : List Fate) (r : Running A) : Type 0 where
  pub roles : List Role
  pub run : HasRun records roles r
  pub so_far_are : fates ≡ map fate_so_far roles

-- the figures of a part of them: of all that is matched, beside what is known of it, the requests from a time on, and of these the first
pub record IsRunSummary (o : Options) (records : List Record) (before : List Fate) (begin first : ℕ) (s : RunSummary) : Type 0 where
  pub requests : List CapturedRequest
  pub bios : List CapturedBio
  pub fates : List Fate
  pub absorbed : ℕ
  pub left : ℕ
  pub timed : AreTimed requests
  pub due : All (IsDue o) requests
  pub have_bios : HaveBios requests bios
  pub tallied : AreTallied requests bios
  pub gone : AreGone (length requests) bios
  pub each : length fates ≡ length records
  pub passed : ArePassed records fates
  pub below : AreOfTaken (length requests) fates
  pub opened : length requests + absorbed + left ≡ told opens records fates
  pub made : length bios ≡ told makes records fates
  pub matching : IsMatching o records requests bios fates absorbed
  pub known : map so_far fates ≡ before
  pub left_are : s.left_out + length (part begin first requests) ≡ left + length requests
  pub is_summary : IsSummary records (part begin first requests) (map (bio_in (gone_before begin requests) (length (part begin first requests))) bios) (map (fate_in (gone_before begin requests) (length (part begin first requests))) fates) s.summary

-- a record more was taken in, and this is known of it at once
abbrev pub TakesNext : {A E : Type 0} → Running A → Running A → Record → Result Fate E → Type 0
TakesNext {A} {E} old new r known =
    (records : List Record) (before : List Fate) → HasTaken records before old → IfOk known (λ f. HasTaken (records ++ r ∷ []) (before ++ f ∷ []) new)

abbrev pub SumsUpRun : {A E : Type 0} → ℕ → ℕ → Running A → Result RunSummary E → Type 0
SumsUpRun {A} {E} begin first r summed = (records : List Record) (before : List Fate) → HasTaken records before r → IfOk summed (IsRunSummary (run_options r) records before begin first)
