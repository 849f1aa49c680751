use Rattle.std.proofs.Common.{rules, ◌≡◌, ◌≤◌, ◌+◌, ◌<◌, ◌∷◌, [], ◌++◌, length, true, false, arith}
use Rattle.std.proofs.lemmas.List.{length-append}
use Rattle.blk_records.specs.Sources.{TakesRecord}
use Rattle.text_grammar.specs.Parts.{most_of}
use Rattle.blk_records.specs.Reads.{size_of}
use Rattle.blk_records.proofs.Reading.{made_more, stopped, fit_next, size_next, room, items_wrong, items_few}
use Rattle.blk_records.proofs.items.gather.Goals as goal

pub returns-in-Exactly-clause-err : goal.returns-in-Exactly-clause-err
returns-in-Exactly-clause-err g c =
    let vs = g.F.ItemForm.seen c.args.form.now c.loop.items c.loop.invariant.known in
    let taken : TakesRecord c.loop.records.left c.advance.new.self.left c.advance.new.self.fields false = search rules in
    let less : length vs < most_of c.args.repeats = omega arith in
    let at : c.fault.result.at ≡ c.args.records.now.at + size_of (g.F.ItemForm.part c.args.form.now) vs + 1 = omega arith in
    rw c.fault.ensures.why
    (items_few _ (g.F.ItemForm.part c.args.form.now) c.args.repeats c.in-Exactly.field-0 c.args.records.now.left c.loop.records.left c.advance.new.self.left vs c.advance.new.self.fields
    c.args.records.now.at c.fault.result.at c.gone.result c.in-Exactly.is c.loop.invariant.made taken c.loop.invariant.fit less at (c.gone.ensures c.loop.invariant.known))

pub returns-in-Err-read-clause-err : goal.returns-in-Err-read-clause-err
returns-in-Err-read-clause-err g c =
    let vs = g.F.ItemForm.seen c.args.form.now c.loop.items c.loop.invariant.known in
    let taken : TakesRecord c.loop.records.left c.advance.new.self.left c.advance.new.self.fields true = search rules in
    let less : length vs < most_of c.args.repeats = omega arith in
    let now : c.advance.new.self.at ≡ c.args.records.now.at + size_of (g.F.ItemForm.part c.args.form.now) vs + 1 = omega arith in
    items_wrong _ (g.F.ItemForm.part c.args.form.now) c.args.repeats c.args.records.now.left c.loop.records.left c.advance.new.self.left vs c.advance.new.self.fields
    c.args.records.now.at c.advance.new.self.at c.in-Err-read.fault.at c.in-Err-read.fault.why c.loop.invariant.made taken c.loop.invariant.fit less now (c.in-Err-read.ensures.err c.loop.invariant.known)

pub loop-preserved : goal.loop-preserved
loop-preserved g c =
    let q = g.F.ItemForm.part c.args.form.now in
    let vs = g.F.ItemForm.seen c.args.form.now c.loop.items c.loop.invariant.known in
    let next = c.in-Ok.ensures.ok c.loop.invariant.known in
    let got = next.1 in
    let taken : TakesRecord c.loop.records.left c.advance.new.self.left c.advance.new.self.fields true = search rules in
    let end = got.end in
    let more = size_next q vs got.item in
    let at : c.read.new.records.at ≡ c.args.records.now.at + size_of q (vs ++ got.item ∷ []) = omega (arith, more, end) in
    let step = room c.loop.counter (most_of c.args.repeats) g.F.ItemForm.more (omega arith) in record {
      known = next.0;
      count = rw got.gathered (omega (arith, length-append vs (got.item ∷ [])));
      fit = rw got.gathered (fit_next q vs got.item c.loop.invariant.fit got.fits);
      made = rw got.gathered (made_more q c.args.records.now.left c.loop.records.left c.advance.new.self.left c.read.new.records.left vs c.advance.new.self.fields got.item c.loop.invariant.made taken got.read);
      at = rw got.gathered at;
      room = omega arith;
    }

pub returns-in-Exactly-clause-before : goal.returns-in-Exactly-clause-before
returns-in-Exactly-clause-before g c =
    let few : length (g.F.ItemForm.seen c.args.form.now c.loop.items c.loop.invariant.known) ≤ most_of c.args.repeats = omega arith in
    stopped (g.F.ItemForm.part c.args.form.now) c.args.repeats c.args.records.now.left c.loop.records.left (g.F.ItemForm.seen c.args.form.now c.loop.items c.loop.invariant.known) c.args.records.now.at g.F.ItemForm.more _ _
    c.loop.invariant.made c.loop.invariant.fit few (omega arith) (omega arith) (omega arith)

pub returns-in-Err-clause-before : goal.returns-in-Err-clause-before
returns-in-Err-clause-before g c =
    let fault = c.in-Err.ensures.fault.0 in
    let few : length (g.F.ItemForm.seen c.args.form.now c.loop.items c.loop.invariant.known) ≤ most_of c.args.repeats = omega arith in
    stopped (g.F.ItemForm.part c.args.form.now) c.args.repeats c.args.records.now.left c.loop.records.left (g.F.ItemForm.seen c.args.form.now c.loop.items c.loop.invariant.known) c.args.records.now.at g.F.ItemForm.more _ _
    c.loop.invariant.made c.loop.invariant.fit few (omega (arith, fault)) (omega (arith, fault)) (omega (arith, fault))

pub returns-in-Err-read-clause-before : goal.returns-in-Err-read-clause-before
returns-in-Err-read-clause-before g c =
    let low = c.in-Err-read.ensures.last.0 in
    let high = c.in-Err-read.ensures.last.1 in
    let few : length (g.F.ItemForm.seen c.args.form.now c.loop.items c.loop.invariant.known) ≤ most_of c.args.repeats = omega arith in
    stopped (g.F.ItemForm.part c.args.form.now) c.args.repeats c.args.records.now.left c.loop.records.left (g.F.ItemForm.seen c.args.form.now c.loop.items c.loop.invariant.known) c.args.records.now.at g.F.ItemForm.more _ _
    c.loop.invariant.made c.loop.invariant.fit few (omega (arith, low, high)) (omega (arith, low, high)) (omega (arith, low, high))
