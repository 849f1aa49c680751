use Rattle.blk_text.proofs.TraceLaws.{spelled_once, read_back_is, written_back, rows_spell, spelled_legal, spelled_or_wrong, spelled_apart, fault_once}
use Rattle.blk_text.proofs.laws.traces.Goals as goal

pub returns-clause-once : goal.returns-clause-once
returns-clause-once c = spelled_once

pub returns-clause-rows : goal.returns-clause-rows
returns-clause-rows c = written_back

pub returns-clause-spell : goal.returns-clause-spell
returns-clause-spell c = rows_spell

pub returns-clause-versions : goal.returns-clause-versions
returns-clause-versions c = read_back_is

pub returns-clause-legal : goal.returns-clause-legal
returns-clause-legal c = spelled_legal

pub returns-clause-decided : goal.returns-clause-decided
returns-clause-decided c = spelled_or_wrong

pub returns-clause-apart : goal.returns-clause-apart
returns-clause-apart c = spelled_apart

pub returns-clause-first : goal.returns-clause-first
returns-clause-first c = fault_once
