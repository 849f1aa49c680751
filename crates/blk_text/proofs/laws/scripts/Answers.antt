use Rattle.blk_text.proofs.ScriptLaws.{spelled_once, read_back_is, spelled_or_wrong, spelled_apart, fault_once}
use Rattle.blk_text.proofs.laws.scripts.Goals as goal

pub returns-clause-once : goal.returns-clause-once
returns-clause-once c = spelled_once

pub returns-clause-back : goal.returns-clause-back
returns-clause-back c = read_back_is

pub returns-clause-decided : goal.returns-clause-decided
returns-clause-decided c = spelled_or_wrong

pub returns-clause-apart : goal.returns-clause-apart
returns-clause-apart c = spelled_apart

pub returns-clause-first : goal.returns-clause-first
returns-clause-first c = fault_once
