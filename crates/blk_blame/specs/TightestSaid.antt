-- What is said of the least time after which the requests of a direction are due, so that few enough of them are late.
use Rattle.std.specs.Prelude.{ℕ, ◌≡◌, ◌∷◌, ◌++◌, [], List, Option, codes, count_by}
use Rattle.answer.specs.declared.names.TheConstants as names
use Rattle.answer.specs.declared.value.Value.TheVariants.{Count}
use Rattle.answer.specs.declared.answer.Part.{Part}
use Rattle.answer.specs.declared.answer.Part.TheVariants.{Line}
use Rattle.answer.specs.Parts.{counted}
use Rattle.blk_capture.specs.Summaries.{goes}
use Rattle.blk_capture.specs.declared.requests.CapturedRequest.{CapturedRequest}
use Rattle.blk_blame.specs.Answers.{behind}
use Rattle.blk_blame.specs.EachSaid.{dir_value}
use Rattle.blk_blame.specs.Tightest.{allowed_of, IsTightestOrNone}
use Rattle.blk_blame.specs.declared.tightest.OnTimeTarget.{OnTimeTarget}
use Rattle.blk_blame.specs.declared.tightest.OtherDirection.TheVariants.{Best, Any}

-- how many requests of the direction there are, and how many of them may be late
abbrev pub aim_part : List CapturedRequest → OnTimeTarget → Part
aim_part requests aim = Line (record {
  cells =
      behind [] names.DIR.now (dir_value aim.dir) ∷ behind (codes " ") names.REQUESTS.now (Count (count_by (λ q. goes q.dir aim.dir) requests))
      ∷ behind (codes " requests, of which ") names.ALLOWED.now (Count (allowed_of requests aim)) ∷ [];
  end = codes " may be late" ++ 10 ∷ [];
})

-- after how long they are due, and where that is so
abbrev pub due_part : List ℕ → Option ℕ → List ℕ → Part
due_part name time where_so = Line (record { cells = behind (codes "due after ") name (counted time) ∷ []; end = where_so })

abbrev pub tightest_parts : List CapturedRequest → OnTimeTarget → Option ℕ → Option ℕ → List Part
tightest_parts requests aim beside alone =
    aim_part requests aim ∷ due_part names.BESIDE.now beside (codes " ns, with no more of the others late than have to be" ++ 10 ∷ [])
    ∷ due_part names.ALONE.now alone (codes " ns, whatever becomes of the others" ++ 10 ∷ []) ∷ []

-- the least time where as few of the others are late as can be, and the least whatever becomes of these
pub record IsTightestAnswer (requests : List CapturedRequest) (aim : OnTimeTarget) (parts : List Part) : Type 0 where
  pub beside : Option ℕ
  pub beside_is : IsTightestOrNone requests aim Best beside
  pub alone : Option ℕ
  pub alone_is : IsTightestOrNone requests aim Any alone
  pub is : parts ≡ tightest_parts requests aim beside alone
