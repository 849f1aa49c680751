-- How much load there is.
use Rattle.std.specs.Prelude.{◌≤◌}
use Rattle.blk_schedulers.specs.declared.numbers.Load.{Load}
use Rattle.blk_schedulers.specs.declared.numbers.TheConstants.{MAX_LOAD_SUBMITTERS, MAX_LOAD_WORKERS, MAX_LOAD_BIOS, MAX_LOAD_DEPTH, MAX_LOAD_SERVICE}

-- its numbers are in their ranges
pub record IsLoad (l : Load) : Type 0 where
  pub some_submitters : 1 ≤ l.submitters
  pub few_submitters : l.submitters ≤ MAX_LOAD_SUBMITTERS
  pub some_workers : 1 ≤ l.workers
  pub few_workers : l.workers ≤ MAX_LOAD_WORKERS
  pub some_bios : 1 ≤ l.bios
  pub few_bios : l.bios ≤ MAX_LOAD_BIOS
  pub some_tags : 1 ≤ l.depth
  pub few_tags : l.depth ≤ MAX_LOAD_DEPTH
  pub brief : l.service ≤ MAX_LOAD_SERVICE
