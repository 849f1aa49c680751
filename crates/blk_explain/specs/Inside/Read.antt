-- What the reader of one form finds.
use Rattle.std.specs.Prelude.{◌≡◌, List}
use Rattle.blk_records.specs.Sources.{Row}
use Rattle.blk_explain.specs.declared.forms.TextForm.{TextForm}
use Rattle.blk_explain.specs.declared.findings.Finding.{Finding}
use Rattle.blk_explain.specs.Findings.{IsText, FaultOf}
use Rattle.blk_explain.specs.declared.findings.Finding.TheVariants as finding

-- what the reader of a form finds
abbrev pub IsRead : TextForm → List Row → Finding → Type 0
IsRead f rows finding.Untitled = ⊥
IsRead f rows (finding.Good found) = (found ≡ f) × IsText f rows
IsRead f rows (finding.Faulty found fault) = (found ≡ f) × FaultOf f rows fault.at fault.why
