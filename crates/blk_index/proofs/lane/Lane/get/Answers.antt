use Rattle.std.proofs.Common.{Some, refl}
use Rattle.std.specs.Option.{option_copied}
use Rattle.blk_index.specs.Inside.Lanes.{run_of}
use Rattle.blk_index.proofs.Lanes.{found_first, found_then}
use Rattle.blk_index.proofs.lane.Lane.get.Goals as goal

pub returns-in-Some : goal.returns-in-Some
returns-in-Some g c = found_first (run_of c.args.self.now.from c.args.self.now.run.items) c.args.self.now.others.entries c.args.id c.in-Some.queued.now (Some c.in-Some.queued.now) c.in-Some.ensures refl

pub returns-in-None : goal.returns-in-None
returns-in-None g c = found_then (run_of c.args.self.now.from c.args.self.now.run.items) c.args.self.now.others.entries c.args.id (option_copied c.in_others.result) c.in-None.ensures c.in_others.ensures
