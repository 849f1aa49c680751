-- The names of faults, as they are printed.
use Rattle.std.specs.Prelude.{ℕ, List, codes}
use Rattle.blk_bio.specs.declared.bio.BioFault.{BioFault}
use Rattle.blk_bio.specs.declared.bio.BioFault.TheVariants as bio
use Rattle.blk_bio.specs.declared.rule.TraceRule.{TraceRule}
use Rattle.blk_bio.specs.declared.rule.TraceRule.TheVariants as rule

abbrev pub bio_fault_name : BioFault → List ℕ
bio_fault_name bio.Empty = codes "Empty"
bio_fault_name bio.Range = codes "Range"

abbrev pub rule_name : TraceRule → List ℕ
rule_name rule.ReleasedTwice = codes "ReleasedTwice"
rule_name rule.Unknown = codes "Unknown"
rule_name rule.AlreadyIssued = codes "AlreadyIssued"
rule_name rule.BioTwice = codes "BioTwice"
rule_name rule.Fit = codes "Fit"
rule_name rule.TagRange = codes "TagRange"
rule_name rule.TagUsed = codes "TagUsed"
rule_name rule.NotIssued = codes "NotIssued"
rule_name rule.InFlight = codes "InFlight"
rule_name rule.TooLong = codes "TooLong"
rule_name rule.DepthRange = codes "DepthRange"
