use Rattle.blk_blame.proofs.blamed.blame_answer.Goals as goal

pub returns : goal.returns
returns c = record { found = c.in_ok-found.found; are_findings = c.in_ok-found.ensures; is = c.in_ok-answer.ensures }
