use Rattle.std.proofs.Common.{ℕ, List, subst}
use Rattle.std.proofs.lemmas.List.{take_all}
use Rattle.edd_commands.specs.declared.Command.{Command}
use Rattle.blk_records.specs.Inside.Schedule.{AreIds}
use Rattle.blk_records.proofs.ScheduleLaws.{no_ids, ids_more}
use Rattle.blk_records.proofs.schedule.ids_of.Goals as goal

abbrev none : Command × ℕ
none = (record { id = 0; release = 0; due = 0 }, 0)

pub loop-command-init : goal.loop-command-init
loop-command-init c = no_ids c.args.served.now c.new-ids.result c.new-ids.ensures.empty

pub loop-command-preserved : goal.loop-command-preserved
loop-command-preserved c = ids_more c.args.served.now c.loop-command.command-index none c.loop-command.ids c.insert.new.self c.loop-command-test.true c.loop-command.invariant c.in_ok-insert.ensures.updates

pub returns : goal.returns
returns c = subst (λ (l : List (Command × ℕ)). AreIds l c.loop-command.ids) (take_all c.loop-command.command-index c.args.served.now c.loop-command-test.false) c.loop-command.invariant
