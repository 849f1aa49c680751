-- What is said of what the late requests of a capture are blamed on.
use Rattle.std.specs.Prelude.{ℕ, ◌≡◌, ◌<◌, ◌∷◌, [], List, length, slice_index_or, take, Option, None, Some}
use Rattle.answer.specs.declared.answer.Part.{Part}
use Rattle.blk_capture.specs.declared.requests.CapturedRequest.{CapturedRequest}
use Rattle.blk_blame.specs.Account.{IsBlameAccount}
use Rattle.blk_blame.specs.Answers.{with_totals, with_stalls, with_windows}
use Rattle.blk_blame.specs.Each.{lates_of}
use Rattle.blk_blame.specs.EachSaid.{each_part}
use Rattle.blk_blame.specs.Greatest.{AreGreatestFirst, late_group_size, stall_size, window_size}
use Rattle.blk_blame.specs.Groups.{IsGroup}
use Rattle.blk_blame.specs.GroupsSaid.{with_groups}
use Rattle.blk_blame.specs.LateGroups.{AreLateGroup}
use Rattle.blk_blame.specs.Stages.{AreStageRows, all_stages}
use Rattle.blk_blame.specs.StagesSaid.{with_stages}
use Rattle.blk_blame.specs.Totals.{AreTotals}
use Rattle.blk_blame.specs.declared.account.Account.{Account}
use Rattle.blk_blame.specs.declared.blamed.Findings.{Findings}
use Rattle.blk_blame.specs.declared.grouped.GroupedBy.{GroupedBy}
use Rattle.blk_blame.specs.declared.groups.Group.{Group}
use Rattle.blk_blame.specs.declared.late_groups.LateGroup.{LateGroup}

-- of these processes, or processors, what their late requests are blamed on
pub record AreGroups (by : GroupedBy) (requests : List CapturedRequest) (a : Account) (late_groups : List LateGroup) (groups : List Group) : Type 0 where
  pub one_each : length groups ≡ length late_groups
  pub each : (k : ℕ) (d : LateGroup) (e : Group) → k < length groups → IsGroup by requests a (slice_index_or late_groups k d) (slice_index_or groups k e)

-- those that have the most late requests, at most so many, where they are asked for
pub record AreWorstBy (by : GroupedBy) (most : ℕ) (requests : List CapturedRequest) (a : Account) (groups : List Group) : Type 0 where
  pub in_turn : List LateGroup
  pub are_late_group : AreLateGroup by requests in_turn
  pub late_groups : List LateGroup
  pub late_groups_are : AreGreatestFirst late_group_size in_turn late_groups
  pub groups_are : AreGroups by requests a (take most late_groups) groups

abbrev pub AreWorst : Option GroupedBy → ℕ → List CapturedRequest → Account → List Group → Type 0
AreWorst None most requests a groups = groups ≡ []
AreWorst (Some by) most requests a groups = AreWorstBy by most requests a groups

-- the account of a capture, it as a whole, its stages, the processes or processors that have the most late requests, and its stalls and crowded
-- windows, the greatest first
pub record AreFindings (by : Option GroupedBy) (most : ℕ) (requests : List CapturedRequest) (f : Findings) : Type 0 where
  pub account : IsBlameAccount requests f.account
  pub totals : AreTotals requests f.totals
  pub stages : AreStageRows requests all_stages f.stages.items
  pub groups : AreWorst by most requests f.account f.groups.items
  pub stalls : AreGreatestFirst stall_size f.account.blame.stalls.items f.stalls.items
  pub windows : AreGreatestFirst window_size f.account.blame.misses.windows.items f.windows.items

-- the capture as a whole, its stages, these processes or processors, and the first of its stalls and windows, with times from a beginning on
abbrev pub blame_parts : Option GroupedBy → ℕ → ℕ → List CapturedRequest → Findings → List Part
blame_parts by most begin requests f =
    with_windows begin requests (take most f.windows.items) (with_stalls begin requests (take most f.stalls.items) (with_groups by f.groups.items
    (with_stages f.stages.items (with_totals f.totals f.account.blame.misses.counts f.account.blame.reasons []))))

pub record IsBlameAnswer (by : Option GroupedBy) (most begin : ℕ) (requests : List CapturedRequest) (parts : List Part) : Type 0 where
  pub found : Findings
  pub are_findings : AreFindings by most requests found
  pub is : parts ≡ blame_parts by most begin requests found

-- its late requests, and why each was late
pub record IsEachAnswer (begin : ℕ) (requests : List CapturedRequest) (parts : List Part) : Type 0 where
  pub account : Account
  pub is_account : IsBlameAccount requests account
  pub is : parts ≡ each_part begin requests (lates_of account.counted.commands.items requests account.causes.items) ∷ []
