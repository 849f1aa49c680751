use Rattle.std.proofs.Common.{inl, map, string_bytes}
use Rattle.blk_text.specs.Script.{SpellsScript, ScriptFault, scripted}
use Rattle.blk_cli.specs.Said.{said_of}
use Rattle.blk_cli.specs.Tuning.{IsTrial, IsTuneFailure}
use Rattle.blk_cli.specs.Unflushed.{TellsPlugs}
use Rattle.blk_cli.proofs.OfRead.{told, refused}
use Rattle.blk_cli.proofs.tuning.over_trial.Goals as goal

pub returns-in-Err-clause-fails : goal.returns-in-Err-clause-fails
returns-in-Err-clause-fails g c = inl c.in-Err.ensures.err

pub returns-clause-text : goal.returns-clause-text
returns-clause-text g c =
    told SpellsScript (IsTrial (map string_bytes c.args.words.now) c.args.tuning) c.args.records.now.left (scripted c.in-Ok.script) (λ a. (said_of a).text) _ c.in-Ok.ensures.ok c.answer_trial.ensures.text

pub returns-clause-beside : goal.returns-clause-beside
returns-clause-beside g c = told SpellsScript TellsPlugs c.args.records.now.left (scripted c.in-Ok.script) said_of _ c.in-Ok.ensures.ok c.answer_trial.ensures.beside

pub returns-clause-fails : goal.returns-clause-fails
returns-clause-fails g c =
    refused SpellsScript ScriptFault (IsTuneFailure (map string_bytes c.args.words.now)) c.args.records.now.left _ (scripted c.in-Ok.script) _ c.in-Ok.ensures.ok c.answer_trial.ensures.untried
