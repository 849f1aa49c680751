use Rattle.std.proofs.Common.{◌++◌, sym, subst, rules}
use Rattle.blk_ids.specs.IdSet as id_set
use Rattle.blk_trace.specs.Events.{AreOnce}
use Rattle.blk_trace.specs.Inside.Kept.{has_named}
use Rattle.blk_layer.proofs.Ids.{same_account, more_account}
use Rattle.blk_layer.proofs.accounts.Account.add.Goals as goal

pub invariant_of-self-in_err-extend_from_slice : goal.invariant_of-self-in_err-extend_from_slice
invariant_of-self-in_err-extend_from_slice g c =
    same_account c.self.inside.bios.items c.extend_from_slice.new.self.items (has_named (id_set.set_has c.self.inside.ids)) (has_named (id_set.set_has c.make_room.new.self)) c.self.invariant (search rules) (λ id. c.in_ok-make_room.ensures.same id.submitter id.serial)

pub invariant_of-self-2 : goal.invariant_of-self-2
invariant_of-self-2 g c =
    let bios = c.self.inside.bios.items in
    let once : AreOnce (bios ++ c.args.bios.now) = subst (λ v. AreOnce (v ++ c.args.bios.now)) (sym c.self.view_is) c.requires in
    more_account bios c.args.bios.now c.extend_from_slice.new.self.items (has_named (id_set.set_has c.self.inside.ids)) (has_named (id_set.set_has c.make_room.new.self)) (has_named (id_set.set_has c.insert_ids.new.ids)) c.self.invariant once (search rules) (λ id. c.in_ok-make_room.ensures.same id.submitter id.serial) c.insert_ids.ensures
