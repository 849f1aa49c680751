use Rattle.std.proofs.Common.{rules, ◌≡◌, List, ℕ, IfSome, refl, subst, w64, of_z, to_z}
use Rattle.std.proofs.lemmas.Int.{to_z-of_z}
use Rattle.edd_commands.specs.declared.Command.{Command}
use Rattle.blk_records.specs.Certificate.{claimed}
use Rattle.blk_cli.specs.Certificates.{IsProof}
use Rattle.blk_cli.proofs.Claims.{bound_beside, proof_of, crowding_of, refused_of}
use Rattle.blk_cli.proofs.checking.verify.Goals as goal

pub returns-in-Ok-check-clause-proved : goal.returns-in-Ok-check-clause-proved
returns-in-Ok-check-clause-proved c =
    let certificate = c.args.certificate.now in
    let back : to_z w64 (of_z w64 c.in-Some.lateness) ≡ c.in-Some.lateness = search (rules, to_z-of_z) in
    let told = c.in-Ok-check.ensures.answer in
    let seen : IfSome certificate.bound (λ b. IsProof c.as_slice-commands.result.now certificate.depth c.as_slice-rounds.result.now b.0 b.1) =
    proof_of c.as_slice-commands.result.now c.in-Ok.capacity certificate.depth c.as_slice-rounds.result.now certificate.bound c.in-Some.lateness _ c.in-Some.window c.in-Ok.ensures c.in-Some.is back (told.0, told.1, told.2) c.in-Ok-check.ensures.least in
    let P : List Command → Type 0 = λ xs. IfSome certificate.bound (λ b. IsProof xs certificate.depth c.as_slice-rounds.result.now b.0 b.1) in
    let Q : List ℕ → Type 0 = λ ys. IfSome certificate.bound (λ b. IsProof certificate.commands.items certificate.depth ys b.0 b.1) in
    let commands : c.as_slice-commands.result.now ≡ certificate.commands.items = search rules in
    let rounds : c.as_slice-rounds.result.now ≡ certificate.rounds.items = search rules in
    record {
      no_bound = bound_beside _ certificate.commands.items certificate.bound refl c.requires.bound;
      proves = subst Q rounds (subst P commands seen);
    }

pub returns-in-Ok-check-clause-crowding : goal.returns-in-Ok-check-clause-crowding
returns-in-Ok-check-clause-crowding c =
    let certificate = c.args.certificate.now in
    let back : to_z w64 (of_z w64 c.in-Some.lateness) ≡ c.in-Some.lateness = search (rules, to_z-of_z) in
    let commands : c.as_slice-commands.result.now ≡ certificate.commands.items = search rules in
    let told = c.in-Ok-check.ensures.answer in
    crowding_of (claimed certificate) c.as_slice-commands.result.now c.in-Ok.capacity c.in-Some.lateness _ c.in-Some.window c.in-Ok-check.crowding commands c.in-Ok.ensures c.in-Some.is back told.3

pub returns-clause-unproved : goal.returns-clause-unproved
returns-clause-unproved c =
    let certificate = c.args.certificate.now in
    let back : to_z w64 (of_z w64 c.in-Some.lateness) ≡ c.in-Some.lateness = search (rules, to_z-of_z) in
    let commands : c.as_slice-commands.result.now ≡ certificate.commands.items = search rules in
    let rounds : c.as_slice-rounds.result.now ≡ certificate.rounds.items = search rules in
    refused_of (claimed certificate) c.as_slice-commands.result.now c.as_slice-rounds.result.now c.in-Ok.capacity c.in-Some.lateness _ c.in-Some.window c.in-Err.fault commands rounds c.in-Ok.ensures c.in-Some.is back
    c.in-Err.ensures.answer
