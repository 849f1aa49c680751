use Rattle.std.proofs.Common.{◌≡◌, ◌∙◌, length, refl, ap, arith}
use Rattle.blk_picture.specs.Made.{made}
use Rattle.blk_picture.specs.Inside.Counted.{column_from}
use Rattle.blk_picture.proofs.Made.{made_none, made_push}
use Rattle.blk_picture.proofs.columns.joined.Goals as goal

pub loop-column-init : goal.loop-column-init
loop-column-init c = made_none (column_from c.args.reads.now c.args.writes.now c.args.lates.now c.args.backs.now c.args.rooms.now c.args.read_waits.now c.args.write_waits.now) c.new-columns.result.items c.new-columns.ensures.items

pub loop-column-preserved : goal.loop-column-preserved
loop-column-preserved c = made_push (column_from c.args.reads.now c.args.writes.now c.args.lates.now c.args.backs.now c.args.rooms.now c.args.read_waits.now c.args.write_waits.now) c.loop-column.column c.loop-column.columns.items _ _ c.loop-column.invariant c.in_ok-push.ensures.items refl

pub returns : goal.returns
returns c =
    let all : c.loop-column.column ≡ length c.args.reads.now = let a = c.loop-column-test.false in let b = c.loop-column.auto.column-end in omega (arith, a, b) in
    c.loop-column.invariant ∙ ap (made (column_from c.args.reads.now c.args.writes.now c.args.lates.now c.args.backs.now c.args.rooms.now c.args.read_waits.now c.args.write_waits.now)) all
