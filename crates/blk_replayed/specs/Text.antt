-- Replays as text.
use Rattle.std.specs.Prelude.{ℕ, ◌≡◌, Bool, List, Option}
use Rattle.answer.specs.declared.answer.Part.{Part}
use Rattle.answer.specs.Lines.{answer_lines}
use Rattle.answer.specs.Json.{json_of}
use Rattle.blk_capture.specs.declared.requests.CapturedRequest.{CapturedRequest}
use Rattle.blk_schedulers.specs.declared.form.Form.{Form}
use Rattle.blk_schedulers.specs.declared.form.Form.TheVariants as form
use Rattle.blk_schedulers.specs.declared.plans.Plan.{Plan}
use Rattle.blk_schedulers.specs.declared.plans.ReplayBy.{ReplayBy}
use Rattle.blk_replayed.specs.declared.replays.ReplaysAsked.{ReplaysAsked}
use Rattle.blk_replayed.specs.declared.row.ReplayRow.{ReplayRow}
use Rattle.blk_replayed.specs.Answers.{replays_parts}
use Rattle.blk_replayed.specs.Replays.{AreReplays}

-- an answer in a form
abbrev pub text_in : Form → List Part → List ℕ
text_in form.Lines parts = answer_lines parts
text_in form.Json parts = json_of parts

-- what is asked of replays; how many go side by side is none of it
pub record WantedReplays : Type 0 where
  pub plans : List Plan
  pub by : ReplayBy
  pub top : Option ℕ
  pub expiries : Bool
  pub form : Form

abbrev pub wanted_of : ReplaysAsked → WantedReplays
wanted_of a = record { plans = a.plans.now; by = a.by; top = a.top; expiries = a.expiries; form = a.form }

-- what is said of these rows, as it is asked
abbrev pub replays_told : WantedReplays → ReplayRow → List ReplayRow → List ℕ
replays_told w captured replayed = text_in w.form (replays_parts w.expiries w.top captured replayed)

-- what is said of the requests of a capture as they went and in replays
pub record IsReplaysText (w : WantedReplays) (requests : List CapturedRequest) (text : List ℕ) : Type 0 where
  pub captured : ReplayRow
  pub replayed : List ReplayRow
  pub are : AreReplays w.by w.plans requests captured replayed
  pub is_text : text ≡ replays_told w captured replayed
