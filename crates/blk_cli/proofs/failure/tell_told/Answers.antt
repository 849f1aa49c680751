use Rattle.std.proofs.Common.{rules, ◌≡◌, w64, of_z, to_z}
use Rattle.std.proofs.lemmas.Int.{to_z-of_z}
use Rattle.blk_cli.proofs.failure.tell_told.Goals as goal

pub returns-in-Signed : goal.returns-in-Signed
returns-in-Signed g c =
    let back : to_z w64 (of_z w64 c.in-Signed.number) ≡ c.in-Signed.number = search (rules, to_z-of_z) in
    rw c.in-Signed.is (rw back at c.tell_signed.ensures)

pub returns-in-Read : goal.returns-in-Read
returns-in-Read g c = rw c.in-Read.is c.tell_name-in-Read.ensures

pub returns-in-Write : goal.returns-in-Write
returns-in-Write g c = rw c.in-Write.is c.tell_name-in-Write.ensures

pub returns-in-Memory : goal.returns-in-Memory
returns-in-Memory g c = rw c.in-Memory.is c.tell_name-in-Memory.ensures
