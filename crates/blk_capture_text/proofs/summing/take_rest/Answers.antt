use Rattle.std.proofs.Common.{ℕ, ◌<◌, ◌∙◌, ◌++◌, List, [], length, take, refl, ap, sym, subst, append_assoc, append-nil, arith}
use Rattle.blk_capture_text.specs.Inside.Along.{IsAlong, IsLineReadFault}
use Rattle.blk_capture_text.proofs.Lining.{consumed_none, consumed_on, left_of}
use Rattle.blk_capture_text.proofs.Resting.{consumed_end, more_left, rest_untold, four_parts}
use Rattle.blk_capture_text.proofs.summing.take_rest.Goals as goal

pub loop-init : goal.loop-init
loop-init g c = record {
  along = λ o text h. ([], subst (λ (t : List ℕ). IsAlong o c.args.recorder c.args.device t c.args.stream.now) (sym (append-nil text)) h, consumed_none c.args.records.now.bytes);
  room = refl;
}

pub returns-then-count-eq0 : goal.returns-then-count-eq0
returns-then-count-eq0 g c = λ o text h.
    let more = c.loop.invariant.along o text h in
    let room : 0 < length c.read_bytes.new.buf = (let same = c.read_bytes.ensures.room in let first = c.loop.invariant.room in omega (arith, same, first, c.requires.room)) in
    record {
      rest = more.0;
      given = consumed_end c.args.records.now.bytes c.loop.records.bytes c.read_bytes.new.self.bytes more.0 (take c.in-Ok.count c.read_bytes.new.buf) more.2 c.in-Ok.ensures.bytes (ap (λ (n : ℕ). take n c.read_bytes.new.buf) c.if-count-eq0.true)
          (c.in-Ok.ensures.end c.if-count-eq0.true room);
      along = more.1;
    }

pub take-requires : goal.take-requires
take-requires g c =
    let more = c.loop.invariant.along c.requires.along.0 c.requires.along.1 c.requires.along.2 in
    (c.requires.along.0, c.requires.along.1 ++ more.0, more.1)

pub returns-in-Err-take : goal.returns-in-Err-take
returns-in-Err-take g c = λ o text h.
    let more = c.loop.invariant.along o text h in
    let piece : List ℕ = take c.in-Ok.count c.read_bytes.new.buf in
    let left : List ℕ = left_of c.read_bytes.new.self.bytes in
    rest_untold c.args.recorder c.args.device text ((more.0 ++ piece) ++ left) c.args.records.now.bytes _ c.in-Err-take.fault
    (more_left c.args.records.now.bytes c.loop.records.bytes c.read_bytes.new.self.bytes more.0 piece more.2 c.in-Ok.ensures.bytes)
    (subst (λ (t : List ℕ). IsLineReadFault c.args.recorder c.args.device t c.in-Err-take.fault) (four_parts text more.0 piece left)
    (c.in-Err-take.ensures o (text ++ more.0) more.1 left))

pub loop-preserved : goal.loop-preserved
loop-preserved g c = record {
  along = λ o text h.
      let more = c.loop.invariant.along o text h in
      let piece : List ℕ = take c.in-Ok.count c.read_bytes.new.buf in (
        more.0 ++ piece,
        subst (λ (t : List ℕ). IsAlong o c.args.recorder c.args.device t c.take.new.self) (append_assoc text more.0 piece) (c.in-Ok-take.ensures o (text ++ more.0) more.1),
        consumed_on c.args.records.now.bytes c.loop.records.bytes c.read_bytes.new.self.bytes more.0 piece more.2 c.in-Ok.ensures.bytes,
      );
  room = c.read_bytes.ensures.room ∙ c.loop.invariant.room;
}
