use Rattle.text_grammar.proofs.Then.{apart, first}
use Rattle.blk_records.proofs.CommandLaws.{spelled_once, read_back_is, spelled_or_wrong, list_tells}
use Rattle.blk_records.proofs.laws.commands.Goals as goal

pub returns-clause-once : goal.returns-clause-once
returns-clause-once c = spelled_once

pub returns-clause-back : goal.returns-clause-back
returns-clause-back c = read_back_is

pub returns-clause-decided : goal.returns-clause-decided
returns-clause-decided c = spelled_or_wrong

pub returns-clause-apart : goal.returns-clause-apart
returns-clause-apart c = λ rows depth commands at w s f. apart list_tells rows ((1, depth), commands) _ at w s f

pub returns-clause-first : goal.returns-clause-first
returns-clause-first c = first list_tells
