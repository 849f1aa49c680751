use Rattle.std.proofs.Common.{sym, subst}
use Rattle.std.specs.Prelude.{IfSome, IfNone}
use Rattle.std.specs.FinMap as map
use Rattle.blk_bio.specs.declared.bio.Dir.{Dir}
use Rattle.blk_bio.specs.declared.bio.Dir.TheVariants.{Read, Write}
use Rattle.blk_index.specs.Index.{IsOldest, NoneOf}
use Rattle.blk_index.specs.Inside.Requests.{both}
use Rattle.blk_index.proofs.ByDir.{oldest_is, none_oldest, in_one, in_other, found_here, found_there, turned}
use Rattle.blk_index.proofs.requests.Requests.oldest.Goals as goal

pub returns-in-Read-clause-some : goal.returns-in-Read-clause-some
returns-in-Read-clause-some g c =
    let reads = c.self.inside.reads in
    let writes = c.self.inside.writes in
    subst (λ (d : Dir). IfSome c.first.result (IsOldest d (map.get c.args.self.now))) (sym c.in-Read.is)
    (rw (← c.self.view_is) (oldest_is Read Write reads writes (both reads writes) c.self.invariant.apart (λ e. cc) (in_one reads writes) c.first.result (found_here reads writes) (c.first.ensures c.self.invariant.apart.run)))

pub returns-in-Read-clause-none : goal.returns-in-Read-clause-none
returns-in-Read-clause-none g c =
    let reads = c.self.inside.reads in
    let writes = c.self.inside.writes in
    subst (λ (d : Dir). IfNone c.first.result (NoneOf d (map.get c.args.self.now))) (sym c.in-Read.is)
    (rw (← c.self.view_is) (none_oldest Read Write reads writes (both reads writes) c.self.invariant.apart (λ e. cc) (in_one reads writes) c.first.result (c.first.ensures c.self.invariant.apart.run)))

pub returns-in-Write-clause-some : goal.returns-in-Write-clause-some
returns-in-Write-clause-some g c =
    let reads = c.self.inside.reads in
    let writes = c.self.inside.writes in
    subst (λ (d : Dir). IfSome c.first-in-Write.result (IsOldest d (map.get c.args.self.now))) (sym c.in-Write.is)
    (rw (← c.self.view_is) (oldest_is Write Read writes reads (both reads writes) (turned Read Write reads writes c.self.invariant.apart) (λ e. cc) (in_other reads writes) c.first-in-Write.result (found_there Read Write reads writes c.self.invariant.apart) (c.first-in-Write.ensures c.self.invariant.apart.other_run)))

pub returns-in-Write-clause-none : goal.returns-in-Write-clause-none
returns-in-Write-clause-none g c =
    let reads = c.self.inside.reads in
    let writes = c.self.inside.writes in
    subst (λ (d : Dir). IfNone c.first-in-Write.result (NoneOf d (map.get c.args.self.now))) (sym c.in-Write.is)
    (rw (← c.self.view_is) (none_oldest Write Read writes reads (both reads writes) (turned Read Write reads writes c.self.invariant.apart) (λ e. cc) (in_other reads writes) c.first-in-Write.result (c.first-in-Write.ensures c.self.invariant.apart.other_run)))
