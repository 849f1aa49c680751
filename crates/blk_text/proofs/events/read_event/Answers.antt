use Rattle.std.proofs.Common.{[], refl, sym, subst, arith}
use Rattle.csv.specs.Records.{fields_of}
use Rattle.blk_records.specs.Reads.{IsRowOf}
use Rattle.blk_text.specs.TraceForm.{first_record, plain_event}
use Rattle.blk_trace.specs.declared.event.Event.TheVariants as head
use Rattle.blk_records.proofs.Reading.{hand_reads}
use Rattle.blk_text.proofs.EventLaws.{head_fails, alone_line, release_count, join_count, release_reads, join_reads, release_fits, join_fits, release_size, join_size, group_fails}
use Rattle.blk_text.proofs.events.read_event.Goals as goal

pub returns-in-Err-clause-err : goal.returns-in-Err-clause-err
returns-in-Err-clause-err g c =
    rw c.fault.ensures.why (head_fails c.args.form.version c.args.limits _ c.args.records.now.left c.args.records.now.fields c.args.records.now.at c.fault.result.at c.in-Err.why (rw c.row.ensures at c.in-Err.ensures.err) c.fault.ensures.at)

pub returns-in-Some-clause-ok : goal.returns-in-Some-clause-ok
returns-in-Some-clause-ok g c =
    hand_reads (plain_event c.args.form.version c.args.limits) c.args.records.now.left c.args.records.now.fields c.in-Some.event
    (alone_line c.args.form.version c.args.limits c.in-Ok.head c.in-Some.event c.args.records.now.fields (sym c.in-Some.ensures) (rw c.row.ensures at c.in-Ok.ensures.ok))

pub returns-in-Some-clause-fits : goal.returns-in-Some-clause-fits
returns-in-Some-clause-fits g c =
    (alone_line c.args.form.version c.args.limits c.in-Ok.head c.in-Some.event c.args.records.now.fields (sym c.in-Some.ensures) (rw c.row.ensures at c.in-Ok.ensures.ok) []).fits

pub read_group-requires-clause-some : goal.read_group-requires-clause-some
read_group-requires-clause-some g c = release_count c.args.form.version c.in-Release.id c.in-Release.bios (fields_of c.row.result.now) c.in-Ok.head c.in-Release.is c.in-Ok.ensures.ok

pub returns-in-Ok-read_group-clause-ok : goal.returns-in-Ok-read_group-clause-ok
returns-in-Ok-read_group-clause-ok g c =
    let line = subst (λ h. IsRowOf (first_record c.args.form.version) c.args.records.now.fields h) c.in-Release.is (rw c.row.ensures at c.in-Ok.ensures.ok) in
    release_reads c.args.form.version c.args.limits c.in-Release.id c.in-Release.bios c.in-Ok-read_group.request c.args.records.now.left _ c.args.records.now.fields c.in-Ok-read_group.ensures.fits.1 line c.in-Ok-read_group.ensures.ok

pub returns-in-Ok-read_group-clause-fits : goal.returns-in-Ok-read_group-clause-fits
returns-in-Ok-read_group-clause-fits g c =
    let line = subst (λ h. IsRowOf (first_record c.args.form.version) c.args.records.now.fields h) c.in-Release.is (rw c.row.ensures at c.in-Ok.ensures.ok) in
    release_fits c.args.form.version c.args.limits c.in-Release.id c.in-Release.bios c.in-Ok-read_group.request c.args.records.now.fields line c.in-Ok-read_group.ensures.fits

pub returns-in-Ok-read_group-clause-end : goal.returns-in-Ok-read_group-clause-end
returns-in-Ok-read_group-clause-end g c =
    let end = c.in-Ok-read_group.ensures.end in
    omega (arith, end, release_size c.args.form.version c.args.limits c.in-Release.id c.in-Ok-read_group.request)

pub returns-in-Ok-read_group-clause-reads : goal.returns-in-Ok-read_group-clause-reads
returns-in-Ok-read_group-clause-reads g c =
    let few = release_count c.args.form.version c.in-Release.id c.in-Release.bios (fields_of c.row.result.now) c.in-Ok.head c.in-Release.is c.in-Ok.ensures.ok in
    let reads = c.in-Ok-read_group.ensures.reads in
    (reads.0, omega (arith, few, reads))

pub returns-in-Err-read_group-clause-err : goal.returns-in-Err-read_group-clause-err
returns-in-Err-read_group-clause-err g c =
    let line = subst (λ h. IsRowOf (first_record c.args.form.version) c.args.records.now.fields h) c.in-Release.is (rw c.row.ensures at c.in-Ok.ensures.ok) in
    group_fails c.args.form.version c.args.limits (head.Release c.in-Release.id c.in-Release.bios) _ c.args.records.now.left c.args.records.now.fields c.args.records.now.at c.args.records.now.at c.in-Err-read_group.fault.at c.in-Err-read_group.fault.why refl line c.in-Err-read_group.ensures.err

pub returns-in-Err-read_group-clause-reads : goal.returns-in-Err-read_group-clause-reads
returns-in-Err-read_group-clause-reads g c =
    let few = release_count c.args.form.version c.in-Release.id c.in-Release.bios (fields_of c.row.result.now) c.in-Ok.head c.in-Release.is c.in-Ok.ensures.ok in
    let reads = c.in-Err-read_group.ensures.reads in
    (reads.0, omega (arith, few, reads))

pub read_group-requires-in-Join-clause-some : goal.read_group-requires-in-Join-clause-some
read_group-requires-in-Join-clause-some g c = join_count c.args.form.version c.in-Join.id c.in-Join.bios (fields_of c.row.result.now) c.in-Ok.head c.in-Join.is c.in-Ok.ensures.ok

pub returns-in-Ok-read_group-2-clause-ok : goal.returns-in-Ok-read_group-2-clause-ok
returns-in-Ok-read_group-2-clause-ok g c =
    let line = subst (λ h. IsRowOf (first_record c.args.form.version) c.args.records.now.fields h) c.in-Join.is (rw c.row.ensures at c.in-Ok.ensures.ok) in
    join_reads c.args.form.version c.args.limits c.in-Join.id c.in-Join.bios c.in-Ok-read_group-2.request c.args.records.now.left _ c.args.records.now.fields c.in-Ok-read_group-2.ensures.fits.1 line c.in-Ok-read_group-2.ensures.ok

pub returns-in-Ok-read_group-2-clause-fits : goal.returns-in-Ok-read_group-2-clause-fits
returns-in-Ok-read_group-2-clause-fits g c =
    let line = subst (λ h. IsRowOf (first_record c.args.form.version) c.args.records.now.fields h) c.in-Join.is (rw c.row.ensures at c.in-Ok.ensures.ok) in
    join_fits c.args.form.version c.args.limits c.in-Join.id c.in-Join.bios c.in-Ok-read_group-2.request c.args.records.now.fields line c.in-Ok-read_group-2.ensures.fits

pub returns-in-Ok-read_group-2-clause-end : goal.returns-in-Ok-read_group-2-clause-end
returns-in-Ok-read_group-2-clause-end g c =
    let end = c.in-Ok-read_group-2.ensures.end in
    omega (arith, end, join_size c.args.form.version c.args.limits c.in-Join.id c.in-Ok-read_group-2.request)

pub returns-in-Ok-read_group-2-clause-reads : goal.returns-in-Ok-read_group-2-clause-reads
returns-in-Ok-read_group-2-clause-reads g c =
    let few = join_count c.args.form.version c.in-Join.id c.in-Join.bios (fields_of c.row.result.now) c.in-Ok.head c.in-Join.is c.in-Ok.ensures.ok in
    let reads = c.in-Ok-read_group-2.ensures.reads in
    (reads.0, omega (arith, few, reads))

pub returns-in-Err-read_group-2-clause-err : goal.returns-in-Err-read_group-2-clause-err
returns-in-Err-read_group-2-clause-err g c =
    let line = subst (λ h. IsRowOf (first_record c.args.form.version) c.args.records.now.fields h) c.in-Join.is (rw c.row.ensures at c.in-Ok.ensures.ok) in
    group_fails c.args.form.version c.args.limits (head.Join c.in-Join.id c.in-Join.bios) _ c.args.records.now.left c.args.records.now.fields c.args.records.now.at c.args.records.now.at c.in-Err-read_group-2.fault.at c.in-Err-read_group-2.fault.why refl line c.in-Err-read_group-2.ensures.err

pub returns-in-Err-read_group-2-clause-reads : goal.returns-in-Err-read_group-2-clause-reads
returns-in-Err-read_group-2-clause-reads g c =
    let few = join_count c.args.form.version c.in-Join.id c.in-Join.bios (fields_of c.row.result.now) c.in-Ok.head c.in-Join.is c.in-Ok.ensures.ok in
    let reads = c.in-Err-read_group-2.ensures.reads in
    (reads.0, omega (arith, few, reads))
