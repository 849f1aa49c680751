-- Limits of plugs and software queues.
use Rattle.std.specs.Prelude.{◌≡◌, ℕ, List, Some, slice_get}
use Rattle.blk_queues.specs.Plugs.{Plug}
use Rattle.blk_queues.specs.Queues.{Queue}

-- each submitter's plug has the limits of its software queue
abbrev pub ShareLimits : List Plug → List Queue → Type 0
ShareLimits plugs queues = (s : ℕ) (plug : Plug) (queue : Queue) → slice_get plugs s ≡ Some plug → slice_get queues s ≡ Some queue → plug.limits ≡ queue.limits
