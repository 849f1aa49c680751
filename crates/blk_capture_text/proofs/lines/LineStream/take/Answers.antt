use Rattle.std.proofs.Common.{ℕ, ◌++◌, ◌<◌, ◌-◌, List, length, take, drop, arith}
use Rattle.std.proofs.lemmas.List.{length-take, length-drop, take_all}
use Rattle.blk_capture_text.proofs.Passing.{along_more, part_added, part_again, part_refused}
use Rattle.blk_capture_text.proofs.lines.LineStream.take.Goals as goal

pub returns-then-end-eq0 : goal.returns-then-end-eq0
returns-then-end-eq0 c = λ o text h.
    part_added o c.args.recorder c.args.device text c.args.part.now c.args.self.now c.add.new.self c.add.result h c.add.ensures.pending c.add.ensures.reader c.add.ensures.streamed c.add.ensures.memory

pub read_pending-requires : goal.read_pending-requires
read_pending-requires c =
    let lines : List ℕ = take c.end_of_lines-end.result c.args.part.now in (
      c.requires.0,
      c.requires.1 ++ lines,
      along_more c.requires.0 c.args.recorder c.args.device c.requires.1 lines c.args.self.now c.add-2.new.self c.requires.2 c.in_ok-add.ensures.pending c.in_ok-add.ensures.reader c.in_ok-add.ensures.streamed,
    )

pub returns-in-Err : goal.returns-in-Err
returns-in-Err c = λ o text h.
    let n : ℕ = c.end_of_lines-end.result in
    let part : List ℕ = c.args.part.now in
    let some : 0 < length (take n part) = (let long = length-take n part in omega (arith, long, c.end_of_lines-end.ensures.within, c.if-end-eq0.false)) in
    part_refused o c.args.recorder c.args.device text part n c.in-Err.fault c.end_of_lines-end.ensures.ends some
    (c.in-Err.ensures o (text ++ take n part) (along_more o c.args.recorder c.args.device text (take n part) c.args.self.now c.add-2.new.self h c.in_ok-add.ensures.pending c.in_ok-add.ensures.reader c.in_ok-add.ensures.streamed))

pub returns : goal.returns
returns c = λ o text h.
    let n : ℕ = c.end_of_lines-end.result in
    let part : List ℕ = c.args.part.now in
    let some : 0 < length (take n part) = (let long = length-take n part in omega (arith, long, c.end_of_lines-end.ensures.within, c.if-end-eq0.false)) in
    part_again o c.args.recorder c.args.device text part n c.read_pending.new.self c.add-3.new.self _ _ c.add-3.result
    (c.in-Ok.ensures o (text ++ take n part) (along_more o c.args.recorder c.args.device text (take n part) c.args.self.now c.add-2.new.self h c.in_ok-add.ensures.pending c.in_ok-add.ensures.reader c.in_ok-add.ensures.streamed))
    c.end_of_lines-end.ensures.ends some c.add-3.ensures.pending c.clear.ensures.items (take_all (length part - n) (drop n part) (let long = length-drop n part in omega (arith, long))) c.add-3.ensures.reader c.add-3.ensures.streamed c.add-3.ensures.memory
