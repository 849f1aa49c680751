use Rattle.std.proofs.Common.{◌++◌, refl}
use Rattle.blk_capture_text.proofs.Passing.{read_on, bad_on}
use Rattle.blk_capture_text.proofs.lines.LineStream.read_pending.Goals as goal

pub returns-in-Err : goal.returns-in-Err
returns-in-Err c = λ o text h rest whole.
    c.unread_line.ensures c.args.recorder c.args.device (text ++ rest)
    (bad_on o c.args.recorder c.args.device text h.past h.passed.given c.args.self.now c.in-Err.fault h.passed.read h.ends h.all (rw c.as_slice-text.ensures.value at c.in-Err.ensures.reads) rest whole)

pub pass_on-requires : goal.pass_on-requires
pass_on-requires c =
    let h = c.requires.2 in (
      c.requires.0,
      c.args.device,
      c.requires.1,
      h.passed.given,
      read_on c.requires.0 c.args.recorder c.args.device c.requires.1 h.past h.passed.given c.args.self.now _ h.passed.read h.ends h.all (rw c.as_slice-text.ensures.value at c.in-Ok.ensures.reads) c.in-Ok.ensures.rises c.in-Ok.ensures.counted c.in-Ok.ensures.few refl,
    )

pub returns-in-Ok-pass_on : goal.returns-in-Ok-pass_on
returns-in-Ok-pass_on c = λ o text h.
    c.in-Ok-pass_on.ensures o c.args.device text h.passed.given
    (read_on o c.args.recorder c.args.device text h.past h.passed.given c.args.self.now _ h.passed.read h.ends h.all (rw c.as_slice-text.ensures.value at c.in-Ok.ensures.reads) c.in-Ok.ensures.rises c.in-Ok.ensures.counted c.in-Ok.ensures.few refl)
