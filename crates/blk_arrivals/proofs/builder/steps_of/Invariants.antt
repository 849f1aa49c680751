use Rattle.std.proofs.Common.{◌≡◌, ◌≤◌, ◌++◌, length, drop, max}
use Rattle.blk_text.specs.declared.script.TheConstants.{MAX_STEPS}
use Rattle.blk_arrivals.specs.Coming.{begin_of}
use Rattle.blk_arrivals.specs.Plugs.{no_plugs, steps_from}
use Rattle.blk_arrivals.specs.Inside.Plugs.{plugs_of}
use Rattle.blk_arrivals.proofs.Stepping.{AllFit}
use Rattle.blk_arrivals.proofs.builder.steps_of.Given as goal

-- the steps so far, after which those of the records come that are left
abbrev pub invariant-loop-record : goal.invariant-loop-record
invariant-loop-record l = record {
  rest : l.builder.lines.items ++ steps_from (begin_of l.records) l.span l.told l.keys (plugs_of l.builder) (drop l.record-index l.records) ≡ steps_from (begin_of l.records) l.span l.told l.keys (no_plugs (length l.keys)) l.records;
  held : length l.builder.held.items ≡ length l.keys;
  bios : l.builder.bios ≤ length l.builder.lines.items;
  short : length l.builder.lines.items ≤ MAX_STEPS;
  fit : AllFit (max (length l.keys) 1) l.builder.lines.items;
}
