use Rattle.std.proofs.Common.{inl}
use Rattle.blk_text.specs.TraceForm.{SpellsTrace, TraceTextFault}
use Rattle.blk_cli.specs.OfTraces.{IsTellingText, IsTraceOutputFailure}
use Rattle.blk_cli.proofs.OfRead.{told, refused}
use Rattle.blk_cli.proofs.traces.over_trace.Goals as goal

pub returns-in-Err-clause-fails : goal.returns-in-Err-clause-fails
returns-in-Err-clause-fails g c = inl c.in-Err.ensures.err

pub returns-clause-text : goal.returns-clause-text
returns-clause-text g c = told SpellsTrace (IsTellingText c.args.telling) c.args.records.now.left c.in-Ok.trace (λ text. text.items) _ c.in-Ok.ensures.ok c.told_of.ensures.text

pub returns-clause-fails : goal.returns-clause-fails
returns-clause-fails g c = refused SpellsTrace TraceTextFault (IsTraceOutputFailure c.args.telling) c.args.records.now.left _ c.in-Ok.trace _ c.in-Ok.ensures.ok c.told_of.ensures.untold
