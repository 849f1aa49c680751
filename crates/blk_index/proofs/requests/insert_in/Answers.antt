use Rattle.std.proofs.Common.{sym}
use Rattle.blk_bio.specs.declared.bio.Dir.TheVariants.{Read, Write}
use Rattle.blk_index.proofs.Lanes.{on_ok}
use Rattle.blk_index.proofs.ByDir.{absent, set_is, set_there, entered_apart, turned}
use Rattle.blk_index.proofs.requests.insert_in.Goals as goal

pub insert-requires : goal.insert-requires
insert-requires g c = (absent c.args.reads.now c.args.writes.now c.args.queued.id c.requires).0

pub insert-requires-in-Write : goal.insert-requires-in-Write
insert-requires-in-Write g c = (absent c.args.reads.now c.args.writes.now c.args.queued.id c.requires).1

pub returns-in-Read-clause-ok : goal.returns-in-Read-clause-ok
returns-in-Read-clause-ok g c = on_ok c.insert.result (set_is c.args.reads.now c.args.writes.now c.insert.new.self c.args.queued.id c.args.queued) c.insert.ensures.ok

pub returns-in-Read-clause-apart : goal.returns-in-Read-clause-apart
returns-in-Read-clause-apart g c = entered_apart c.insert.result Read Write c.args.reads.now c.args.writes.now c.insert.new.self c.args.queued (sym c.in-Read.ensures) (absent c.args.reads.now c.args.writes.now c.args.queued.id c.requires).1 c.insert.ensures.ok c.insert.ensures.same c.insert.ensures.run

pub returns-in-Write-clause-ok : goal.returns-in-Write-clause-ok
returns-in-Write-clause-ok g c = on_ok c.insert-in-Write.result (set_there c.args.reads.now c.args.writes.now c.insert-in-Write.new.self c.args.queued.id c.args.queued (absent c.args.reads.now c.args.writes.now c.args.queued.id c.requires).0) c.insert-in-Write.ensures.ok

pub returns-in-Write-clause-apart : goal.returns-in-Write-clause-apart
returns-in-Write-clause-apart g c = λ are. turned Write Read c.insert-in-Write.new.self c.args.reads.now
    (entered_apart c.insert-in-Write.result Write Read c.args.writes.now c.args.reads.now c.insert-in-Write.new.self c.args.queued (sym c.in-Write.ensures) (absent c.args.reads.now c.args.writes.now c.args.queued.id c.requires).0 c.insert-in-Write.ensures.ok c.insert-in-Write.ensures.same c.insert-in-Write.ensures.run (turned Read Write c.args.reads.now c.args.writes.now are))
