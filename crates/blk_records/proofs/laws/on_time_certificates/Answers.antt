use Rattle.text_grammar.proofs.Then.{apart, first}
use Rattle.blk_records.proofs.OnTimeLaws.{spelled_once, read_back_is, spelled_or_wrong, on_time_tells}
use Rattle.blk_records.proofs.laws.on_time_certificates.Goals as goal

pub returns-clause-once : goal.returns-clause-once
returns-clause-once c = spelled_once

pub returns-clause-back : goal.returns-clause-back
returns-clause-back c = read_back_is

pub returns-clause-decided : goal.returns-clause-decided
returns-clause-decided c = spelled_or_wrong

pub returns-clause-apart : goal.returns-clause-apart
returns-clause-apart c = λ rows c at w s f. apart on_time_tells rows _ _ at w s.1 f

pub returns-clause-first : goal.returns-clause-first
returns-clause-first c = first on_time_tells
