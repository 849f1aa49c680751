use Rattle.std.proofs.Common.{rules, ◌≡◌}
use Rattle.blk_records.specs.OnTime.{on_time_claimed}
use Rattle.blk_cli.proofs.OnTimeClaims.{on_time_proved, on_time_refused}
use Rattle.blk_cli.proofs.checking.verify_on_time.Goals as goal

pub returns-in-Ok-clause-proved : goal.returns-in-Ok-clause-proved
returns-in-Ok-clause-proved c =
    let certificate = c.args.certificate.now in
    let commands : c.as_slice-commands.result.now ≡ certificate.commands.items = search rules in
    let rounds : c.as_slice-rounds.result.now ≡ certificate.rounds.items = search rules in
    let cover : c.as_slice-cover.result.now ≡ certificate.cover.items = search rules in
    let told = c.in-Ok.ensures.answer in
    on_time_proved (on_time_claimed certificate) _ _ _ _ commands rounds cover c.requires.capacity c.requires.claim (told.0, told.1, told.2, told.3) c.in-Ok.ensures.most

pub returns-in-Err-clause-on_time_unproved : goal.returns-in-Err-clause-on_time_unproved
returns-in-Err-clause-on_time_unproved c =
    let certificate = c.args.certificate.now in
    let commands : c.as_slice-commands.result.now ≡ certificate.commands.items = search rules in
    let rounds : c.as_slice-rounds.result.now ≡ certificate.rounds.items = search rules in
    let cover : c.as_slice-cover.result.now ≡ certificate.cover.items = search rules in
    on_time_refused (on_time_claimed certificate) _ _ _ _ c.in-Err.fault commands rounds cover c.requires.capacity c.in-Err.ensures.answer
