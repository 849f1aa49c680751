use Rattle.std.proofs.Common.{◌≡◌, ◌++◌}
use Rattle.std.proofs.Math.ListN.{replicate}
use Rattle.text_output.specs.Drafts.{draft_text}
use Rattle.text_output.proofs.draft.Draft.spaces.Given as goal

abbrev pub invariant-loop : goal.invariant-loop
invariant-loop l = draft_text l.self-inside.block ≡ l.fn.self ++ replicate l.counter 32
