use Rattle.std.proofs.Common.{rules, ◌≡◌, sym, subst, Some, w64, of_z, to_z}
use Rattle.std.specs.Prelude.{ℤ}
use Rattle.std.proofs.lemmas.Int.{to_z-of_z}
use Rattle.blk_records.specs.Certificate.{IsClaim}
use Rattle.edd_oracle.specs.Answer.{IsBest}
use Rattle.blk_cli.proofs.Claims.{claim_in}
use Rattle.blk_cli.proofs.lists.certify.Goals as goal

pub returns-in-Ok-Some-clause-in_range : goal.returns-in-Ok-Some-clause-in_range
returns-in-Ok-Some-clause-in_range c =
    let best : IsBest c.args.commands.items c.in-Ok.capacity c.in-Ok-Some.answer.rounds.items c.in-Ok-Some.answer.lateness c.in-Ok-Some.answer.window = search rules in
    let back : to_z w64 (of_z w64 c.in-Ok-Some.answer.lateness) ≡ c.in-Ok-Some.answer.lateness = search (rules, to_z-of_z) in
    subst (λ (z : ℤ). IsClaim (record { depth = c.args.depth; commands = c.args.commands.items; rounds = c.in-Ok-Some.answer.rounds.items; bound = Some (z, c.in-Ok-Some.answer.window) })) (sym back)
    (claim_in c.args.depth c.in-Ok.capacity c.args.commands.items c.in-Ok-Some.answer.rounds.items c.in-Ok-Some.answer.lateness c.in-Ok-Some.answer.window c.requires best)
