use Rattle.std.proofs.Common.{◌≡◌, false, ap, subst, length, arith}
use Rattle.blk_records.specs.Reads.{AreGathered, Reads}
use Rattle.blk_text.specs.TraceForm.{group, group_bio}
use Rattle.blk_text.specs.Inside.TraceForm.{gathered_bios}
use Rattle.blk_text.proofs.GroupLaws.{group_size}
use Rattle.text_grammar.specs.declared.Repeats.TheVariants as repeats
use Rattle.blk_text.proofs.groups.read_group.Goals as goal

pub returns-clause-ok : goal.returns-clause-ok
returns-clause-ok g c =
    let got : AreGathered (repeats.Exactly c.args.bios) (group_bio c.args.head.version c.args.limits) c.args.records.now.left c.gather.new.records.left c.args.records.now.at c.gather.new.records.at (gathered_bios c.gather.new.items) false = rw c.in-Ok-false.field-0-test at c.in-Ok-false.ensures.ok.1 in
    subst (λ z. Reads (group c.args.head.version c.args.limits c.args.bios) c.args.records.now.left c.gather.new.records.left z) (ap gathered_bios c.in-Some.is) got.0

pub returns-clause-fits : goal.returns-clause-fits
returns-clause-fits g c =
    let got : AreGathered (repeats.Exactly c.args.bios) (group_bio c.args.head.version c.args.limits) c.args.records.now.left c.gather.new.records.left c.args.records.now.at c.gather.new.records.at (gathered_bios c.gather.new.items) false = rw c.in-Ok-false.field-0-test at c.in-Ok-false.ensures.ok.1 in
    subst (λ z. (group c.args.head.version c.args.limits c.args.bios).Fits z) (ap gathered_bios c.in-Some.is) got.1

pub returns-clause-end : goal.returns-clause-end
returns-clause-end g c =
    let got : AreGathered (repeats.Exactly c.args.bios) (group_bio c.args.head.version c.args.limits) c.args.records.now.left c.gather.new.records.left c.args.records.now.at c.gather.new.records.at (gathered_bios c.gather.new.items) false = rw c.in-Ok-false.field-0-test at c.in-Ok-false.ensures.ok.1 in
    let size = group_size c.args.head.version c.args.limits c.args.bios (gathered_bios c.gather.new.items) in
    let same : length (gathered_bios c.gather.new.items) ≡ length c.in-Some.request = ap (λ o. length (gathered_bios o)) c.in-Some.is in
    let at = got.3 in
    omega (arith, at, size, same)
