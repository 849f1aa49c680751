use Rattle.blk_blame.proofs.blamed.findings_answer.Goals as goal

pub add_stalls-requires-clause-counted : goal.add_stalls-requires-clause-counted
add_stalls-requires-clause-counted c t = rw c.as_slice-5.ensures.value (c.in_ok-completions.ensures.counted t)
