use Rattle.std.proofs.Common.{rules}
use Rattle.std.specs.Prelude.{IsTrue}
use Rattle.blk_text.specs.TraceForm.{group_bio}
use Rattle.blk_text.specs.Inside.TraceForm.{gathered_bios}
use Rattle.blk_text.proofs.GroupLaws.{line_fails, wrong_line, first_gathers, next_gathers, astray_fails}
use Rattle.blk_text.proofs.groups.GroupFormItemForm.read.Goals as goal

pub returns-in-Err-clause-err : goal.returns-in-Err-clause-err
returns-in-Err-clause-err g c =
    λ k. rw c.fault.ensures.why (line_fails _ (group_bio c.args.self.now.head.version c.args.self.now.limits (gathered_bios c.args.items.now)) c.args.records.now.left c.args.records.now.fields c.args.records.now.at c.fault.result.at c.in-Err.why
    (wrong_line c.args.self.now.head.version c.args.self.now.limits (gathered_bios c.args.items.now) c.args.records.now.fields c.in-Err.why (rw c.row.ensures at c.in-Err.ensures.err)) c.fault.ensures.at)

pub returns-then-not-tiles-clause-err : goal.returns-then-not-tiles-clause-err
returns-then-not-tiles-clause-err g c =
    let not : ¬ IsTrue c.tiles.result = search rules in
    λ k. rw c.fault-then-not-tiles.ensures.why
    (astray_fails c.args.self.now.head.version c.args.self.now.limits _ c.args.items.now _ c.in-Ok.bio c.args.records.now.left c.args.records.now.fields c.args.records.now.at c.fault-then-not-tiles.result.at
    c.in-Some.is c.tiles.ensures.some (λ f. not (c.tiles.ensures.only f)) (rw c.row.ensures at c.in-Ok.ensures.ok) c.fault-then-not-tiles.ensures.at)

pub returns-in-Ok-of-clause-ok : goal.returns-in-Ok-of-clause-ok
returns-in-Ok-of-clause-ok g c =
    λ k. (
      k,
      first_gathers c.args.self.now.head.version c.args.self.now.limits c.args.items.now c.in-Ok-of.request c.in-Ok.bio c.args.records.now.left c.args.records.now.fields c.args.records.now.at
          c.in-None.is c.in-Ok-of.ensures.ok (rw c.row.ensures at c.in-Ok.ensures.ok),
    )

pub returns-in-Ok-append-clause-ok : goal.returns-in-Ok-append-clause-ok
returns-in-Ok-append-clause-ok g c =
    let tiles : IsTrue c.tiles.result = search rules in
    λ k. (
      k,
      next_gathers c.args.self.now.head.version c.args.self.now.limits c.args.items.now _ c.append.new.request c.in-Ok.bio c.args.records.now.left c.args.records.now.fields c.args.records.now.at
          c.in-Some.is c.in-Ok-append.ensures (c.tiles.ensures.fits tiles) (rw c.row.ensures at c.in-Ok.ensures.ok),
    )
