-- How long requests were in each stage of their way.
use Rattle.std.specs.Prelude.{ℕ, ◌≡◌, ◌<◌, ◌*◌, ◌/◌, ◌==◌, min, sum_by, is_some, unwrap_or, List, [], ◌∷◌, length, slice_index_or, Option, None, Some, if◌then◌else◌}
use Rattle.std.specs.List.{filter_map}
use Rattle.blk_bio.specs.declared.bio.Dir.{Dir}
use Rattle.blk_bio.specs.declared.bio.Dir.TheVariants.{Read, Write}
use Rattle.blk_capture.specs.Summaries.{goes, between, from_known, until_known, ArePercentiles}
use Rattle.blk_capture.specs.declared.record.TheConstants.{MAX_TIME}
use Rattle.blk_capture.specs.declared.requests.CapturedRequest.{CapturedRequest}
use Rattle.blk_blame.specs.declared.stages.Stage.{Stage}
use Rattle.blk_blame.specs.declared.stages.Stage.TheVariants as stage
use Rattle.blk_blame.specs.declared.stages.StageRow.{StageRow}

-- how long a request was in a stage, if both its ends are known
abbrev pub stage_time : Stage → CapturedRequest → Option ℕ
stage_time stage.Tag q = between q.queued q.got
stage_time stage.Plug q = until_known q.got q.inserted
stage_time stage.Scheduler q = from_known q.inserted q.dispatched
stage_time stage.Device q = until_known q.dispatched q.completed
stage_time stage.Whole q = until_known q.queued q.completed

-- of one of the direction
abbrev pub stage_in : Dir → Stage → CapturedRequest → Option ℕ
stage_in d s q = if goes q.dir d then stage_time s q else None

-- the stages, each of reads and of writes
abbrev pub all_stages : List (Stage × Dir)
all_stages =
    (stage.Tag, Read) ∷ (stage.Tag, Write) ∷ (stage.Plug, Read) ∷ (stage.Plug, Write) ∷ (stage.Scheduler, Read) ∷ (stage.Scheduler, Write)
    ∷ (stage.Device, Read) ∷ (stage.Device, Write) ∷ (stage.Whole, Read) ∷ (stage.Whole, Write) ∷ []

-- how long a request was in a stage whose whole way is known, and no time where it isn't
abbrev pub way_time : Dir → Stage → CapturedRequest → ℕ
way_time d s q = if is_some (stage_in d stage.Whole q) then unwrap_or (stage_in d s q) 0 else 0

-- that of all requests of a direction, and what share it is of their whole way, in thousandths
unfoldable pub stage_sum : List CapturedRequest → Dir → Stage → ℕ
stage_sum requests d s = sum_by (way_time d s) requests

abbrev pub stage_share : ℕ → ℕ → Option ℕ
stage_share part whole = if whole == 0 then None else Some (min (part * 1_000 / whole) MAX_TIME)

-- how long they were in it, one by one
pub record IsStageRow (requests : List CapturedRequest) (d : Dir) (s : Stage) (r : StageRow) : Type 0 where
  pub stage_is : r.stage ≡ s
  pub dir_is : r.dir ≡ d
  pub times_are : ArePercentiles (filter_map (stage_in d s) requests) r.times
  pub share_is : r.share ≡ stage_share (stage_sum requests d s) (stage_sum requests d stage.Whole)

pub record AreStageRows (requests : List CapturedRequest) (stages : List (Stage × Dir)) (rows : List StageRow) : Type 0 where
  pub one_each : length rows ≡ length stages
  pub each : (k : ℕ) (s : Stage × Dir) (r : StageRow) → k < length rows → IsStageRow requests (slice_index_or stages k s).1 (slice_index_or stages k s).0 (slice_index_or rows k r)
