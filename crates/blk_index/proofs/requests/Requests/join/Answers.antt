use Rattle.std.proofs.Common.{◌≡◌, sym, subst, Some, refl}
use Rattle.std.specs.Prelude.{IsSome}
use Rattle.std.specs.FinMap as map
use Rattle.blk_sched.specs.Meaning.{Pending}
use Rattle.blk_index.proofs.ByDir.{is_read, is_written, read_joined, write_joined, joins_read, joins_write}
use Rattle.blk_index.proofs.requests.Requests.join.Goals as goal

pub set-requires : goal.set-requires
set-requires g c = subst IsSome (sym (is_read c.self.inside.reads c.self.inside.writes c.self.inside.count c.args.id c.in-Some.queued.now c.joined-after.result c.args.side c.args.now c.args.newcomer.now c.self.invariant (subst (λ (m : Pending). map.get m c.args.id ≡ Some c.in-Some.queued.now) (sym c.self.view_is) (sym c.in-Some.ensures.value)) (c.in-Some.ensures.named c.args.id c.in-Some.queued.now (sym c.in-Some.ensures.value)) c.joined-after.ensures (sym c.in-Read.ensures))) refl

pub set-requires-in-Write : goal.set-requires-in-Write
set-requires-in-Write g c = subst IsSome (sym (is_written c.self.inside.reads c.self.inside.writes c.self.inside.count c.args.id c.in-Some.queued.now c.joined-after.result c.args.side c.args.now c.args.newcomer.now c.self.invariant (subst (λ (m : Pending). map.get m c.args.id ≡ Some c.in-Some.queued.now) (sym c.self.view_is) (sym c.in-Some.ensures.value)) (c.in-Some.ensures.named c.args.id c.in-Some.queued.now (sym c.in-Some.ensures.value)) c.joined-after.ensures (sym c.in-Write.ensures))) refl

pub invariant_of-self : goal.invariant_of-self
invariant_of-self g c = read_joined c.self.inside.reads c.self.inside.writes c.self.inside.count c.args.id c.in-Some.queued.now c.joined-after.result c.args.side c.args.now c.args.newcomer.now c.self.invariant (subst (λ (m : Pending). map.get m c.args.id ≡ Some c.in-Some.queued.now) (sym c.self.view_is) (sym c.in-Some.ensures.value)) (c.in-Some.ensures.named c.args.id c.in-Some.queued.now (sym c.in-Some.ensures.value)) c.joined-after.ensures c.set.new.self (sym c.in-Read.ensures) c.set.ensures.is_set c.set.ensures.run

pub invariant_of-self-in-Write : goal.invariant_of-self-in-Write
invariant_of-self-in-Write g c = write_joined c.self.inside.reads c.self.inside.writes c.self.inside.count c.args.id c.in-Some.queued.now c.joined-after.result c.args.side c.args.now c.args.newcomer.now c.self.invariant (subst (λ (m : Pending). map.get m c.args.id ≡ Some c.in-Some.queued.now) (sym c.self.view_is) (sym c.in-Some.ensures.value)) (c.in-Some.ensures.named c.args.id c.in-Some.queued.now (sym c.in-Some.ensures.value)) c.joined-after.ensures c.set-in-Write.new.self (sym c.in-Write.ensures) c.set-in-Write.ensures.is_set c.set-in-Write.ensures.run

pub returns-in-Read : goal.returns-in-Read
returns-in-Read g c = rw (← c.self.view_is) (joins_read c.self.inside.reads c.self.inside.writes c.self.inside.count c.args.id c.in-Some.queued.now c.joined-after.result c.args.side c.args.now c.args.newcomer.now c.self.invariant (subst (λ (m : Pending). map.get m c.args.id ≡ Some c.in-Some.queued.now) (sym c.self.view_is) (sym c.in-Some.ensures.value)) (c.in-Some.ensures.named c.args.id c.in-Some.queued.now (sym c.in-Some.ensures.value)) c.joined-after.ensures c.set.new.self c.set.ensures.is_set)

pub returns-in-Write : goal.returns-in-Write
returns-in-Write g c = rw (← c.self.view_is) (joins_write c.self.inside.reads c.self.inside.writes c.self.inside.count c.args.id c.in-Some.queued.now c.joined-after.result c.args.side c.args.now c.args.newcomer.now c.self.invariant (subst (λ (m : Pending). map.get m c.args.id ≡ Some c.in-Some.queued.now) (sym c.self.view_is) (sym c.in-Some.ensures.value)) (c.in-Some.ensures.named c.args.id c.in-Some.queued.now (sym c.in-Some.ensures.value)) c.joined-after.ensures c.set-in-Write.new.self (sym c.in-Write.ensures) c.set-in-Write.ensures.is_set)
