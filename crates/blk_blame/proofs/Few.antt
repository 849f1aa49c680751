-- No more of a list are told of than it has.
use Rattle.std.proofs.Common.{◌≤◌, ℕ, List, length}
use Rattle.std.specs.Prelude.{Option}
use Rattle.std.specs.List.{filter_map}
use Rattle.blk_capture.proofs.Flying.{few_known}
use Rattle.blk_capture.specs.declared.requests.CapturedRequest.{CapturedRequest}
use Rattle.blk_blame.specs.Clock.{overrun_of, overruns_of}

pub few_overruns : (requests : List CapturedRequest) → length (overruns_of requests) ≤ length requests
few_overruns requests = few_known overrun_of requests

pub few_of : (f : CapturedRequest → Option ℕ) (requests : List CapturedRequest) → length (filter_map f requests) ≤ length requests
few_of f requests = few_known f requests
