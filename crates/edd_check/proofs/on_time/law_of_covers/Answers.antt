use Rattle.edd_check.proofs.Covers.{covers_bound}
use Rattle.edd_check.proofs.on_time.law_of_covers.Goals as goal

pub returns : goal.returns
returns g c = covers_bound c.args.commands.now c.args.capacity.now c.args.cover.now
