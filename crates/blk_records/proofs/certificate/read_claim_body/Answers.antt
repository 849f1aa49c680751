use Rattle.std.proofs.Common.{◌≡◌, ◌+◌, ℕ, ap, length, arith, refl, inr}
use Rattle.std.proofs.lemmas.List.{length-map}
use Rattle.edd_commands.specs.declared.Command.{Command}
use Rattle.blk_records.proofs.ClaimLaws.{claim_in, body_read, bound_halts, served_halts, whole_halts}
use Rattle.blk_records.proofs.certificate.read_claim_body.Goals as goal

pub returns-in-Ok-split-clause-in_range : goal.returns-in-Ok-split-clause-in_range
returns-in-Ok-split-clause-in_range g c =
    let is = c.as_slice.ensures.value in
    let fit = c.in-Ok-read_records.ensures.fit in
    claim_in c.args.depth c.args.count c.in-Ok.bound c.in-Ok-read_records.served.items c.in-Ok-split.commands.items c.in-Ok-split.rounds.items
    c.requires.counted c.in-Ok.ensures.fits fit.0 fit.1 (rw is at c.in-Ok-split.ensures.commands) (rw is at c.in-Ok-split.ensures.rounds)

pub returns-in-Ok-split-clause-ok : goal.returns-in-Ok-split-clause-ok
returns-in-Ok-split-clause-ok g c =
    let is = c.as_slice.ensures.value in
    body_read c.args.records.now.left c.read_record.new.records.left c.args.count c.in-Ok.bound c.in-Ok-read_records.served.items
    c.in-Ok-split.commands.items c.in-Ok-split.rounds.items c.in-Ok.ensures.ok c.in-Ok-read_records.ensures.ok
    (rw is at c.in-Ok-split.ensures.commands) (rw is at c.in-Ok-split.ensures.rounds)

pub returns-in-Ok-split-clause-told : goal.returns-in-Ok-split-clause-told
returns-in-Ok-split-clause-told g c =
    let is = c.as_slice.ensures.value in
    let commands = ap length (rw is at c.in-Ok-split.ensures.commands) in
    let long = length-map c.in-Ok-read_records.served.items (λ (s : Command × ℕ). s.0) in
    let fit = c.in-Ok-read_records.ensures.fit.1 in
    (refl, omega (arith, fit, commands, long))

pub returns-in-Ok-split-clause-end : goal.returns-in-Ok-split-clause-end
returns-in-Ok-split-clause-end g c =
    let is = c.as_slice.ensures.value in
    let commands = ap length (rw is at c.in-Ok-split.ensures.commands) in
    let long = length-map c.in-Ok-read_records.served.items (λ (s : Command × ℕ). s.0) in
    omega (arith, c.in-Ok-read_records.ensures.end, commands, long)

pub returns-in-Err-clause-err : goal.returns-in-Err-clause-err
returns-in-Err-clause-err g c = bound_halts _ _ _ _ _ _ c.requires.at c.in-Err.ensures.err

pub returns-in-Err-read_records-clause-err : goal.returns-in-Err-read_records-clause-err
returns-in-Err-read_records-clause-err g c =
    served_halts c.read_records.new.records.failed c.args.records.now.left c.read_record.new.records.left c.args.count c.in-Ok.bound c.read_record.new.records.at c.in-Err-read_records.fault.at c.in-Err-read_records.fault.why (omega arith) c.in-Ok.ensures.ok c.in-Err-read_records.ensures.err

pub returns-clause-err : goal.returns-clause-err
returns-clause-err g c =
    let at : c.fault.result.at ≡ length c.in-Ok-read_records.served.items + 3 = omega (arith, c.in-Ok-read_records.ensures.end, c.fault.ensures.at) in
    whole_halts c.read_records.new.records.failed c.args.records.now.left c.read_record.new.records.left c.args.count c.in-Ok.bound c.in-Ok-read_records.served.items
    c.fault.result.at c.fault.result.why c.in-Ok.ensures.ok c.in-Ok-read_records.ensures.ok at (inr c.fault.ensures.why)
