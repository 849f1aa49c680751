-- What Issues served, and in which rounds.
use Rattle.std.specs.Prelude.{ℕ, cond, List, Option, Some, None, map}
use Rattle.blk_trace.specs.declared.issued.Issued.{Issued}
use Rattle.blk_trace.specs.Happened.{Happened}
use Rattle.blk_trace.specs.Issues.{was_requeued}
use Rattle.blk_trace.specs.Setups.{Setup}
use Rattle.blk_report.specs.declared.serving.Service.{Service}
use Rattle.blk_report.specs.Services.{service_of}

-- what an Issue served, unless it was requeued
abbrev pub served_by : Setup → List Happened → Issued → Option Service
served_by setup events i = cond (was_requeued i.outcome) None (Some (service_of setup events i))

-- the rounds of the Issues
abbrev pub issues_in : List Service → List ℕ
issues_in services = map (λ s. s.issue) services
