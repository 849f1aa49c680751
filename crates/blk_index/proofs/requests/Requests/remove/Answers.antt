use Rattle.std.proofs.Common.{sym, true, None, Some, refl}
use Rattle.blk_bio.specs.declared.bio.Dir.TheVariants.{Read, Write}
use Rattle.blk_index.proofs.ByDir.{found_here, found_taken, named, not_there, taken_all, taken_count, taken_is}
use Rattle.blk_index.proofs.requests.Requests.remove.Goals as goal

pub overflow_sub-self : goal.overflow_sub-self
overflow_sub-self g c = (taken_count c.self.inside.reads c.self.inside.writes c.self.inside.count c.args.id (Some c.in-Some.queued) true c.self.invariant.counted (sym (found_here c.self.inside.reads c.self.inside.writes c.args.id c.in-Some.queued (sym c.in-Some.ensures.value))) refl).0

pub invariant_of-self : goal.invariant_of-self
invariant_of-self g c = taken_all c.self.inside.reads c.self.inside.writes c.remove.new.self c.self.inside.writes c.self.inside.count c.args.id (Some c.in-Some.queued) true c.self.invariant (sym (found_here c.self.inside.reads c.self.inside.writes c.args.id c.in-Some.queued (sym c.in-Some.ensures.value))) refl c.remove.ensures.taken (not_there c.self.inside.reads c.self.inside.writes c.args.id c.in-Some.queued c.self.invariant.apart (sym c.in-Some.ensures.value)) c.remove.ensures.run (λ run. run)

pub returns-in-Some-clause-value : goal.returns-in-Some-clause-value
returns-in-Some-clause-value g c = rw (← c.self.view_is) (sym (found_here c.self.inside.reads c.self.inside.writes c.args.id c.in-Some.queued (sym c.in-Some.ensures.value)))

pub returns-in-Some-clause-named : goal.returns-in-Some-clause-named
returns-in-Some-clause-named g c = rw (← c.self.view_is) (named Read Write c.self.inside.reads c.self.inside.writes c.self.invariant.apart)

pub returns-in-Some-clause-removed : goal.returns-in-Some-clause-removed
returns-in-Some-clause-removed g c = rw (← c.self.view_is) (taken_is c.self.inside.reads c.self.inside.writes c.remove.new.self c.self.inside.writes c.args.id c.remove.ensures.taken (not_there c.self.inside.reads c.self.inside.writes c.args.id c.in-Some.queued c.self.invariant.apart (sym c.in-Some.ensures.value)))

pub overflow_sub-self-2 : goal.overflow_sub-self-2
overflow_sub-self-2 g c = (taken_count c.self.inside.reads c.self.inside.writes c.self.inside.count c.args.id c.remove-found.result c.is_some.result c.self.invariant.counted (found_taken c.self.inside.reads c.self.inside.writes c.args.id c.remove-found.result None c.remove-found.result refl c.in_default.ensures.value c.remove-found.ensures.value) c.is_some.ensures).0

pub invariant_of-self-2 : goal.invariant_of-self-2
invariant_of-self-2 g c = taken_all c.self.inside.reads c.self.inside.writes c.remove.new.self c.remove-found.new.self c.self.inside.count c.args.id c.remove-found.result c.is_some.result c.self.invariant (found_taken c.self.inside.reads c.self.inside.writes c.args.id c.remove-found.result None c.remove-found.result refl c.in_default.ensures.value c.remove-found.ensures.value) c.is_some.ensures c.remove.ensures.taken c.remove-found.ensures.taken c.remove.ensures.run c.remove-found.ensures.run

pub returns-clause-value : goal.returns-clause-value
returns-clause-value g c = rw (← c.self.view_is) (found_taken c.self.inside.reads c.self.inside.writes c.args.id c.remove-found.result None c.remove-found.result refl c.in_default.ensures.value c.remove-found.ensures.value)

pub returns-clause-named : goal.returns-clause-named
returns-clause-named g c = rw (← c.self.view_is) (named Read Write c.self.inside.reads c.self.inside.writes c.self.invariant.apart)

pub returns-clause-removed : goal.returns-clause-removed
returns-clause-removed g c = rw (← c.self.view_is) (taken_is c.self.inside.reads c.self.inside.writes c.remove.new.self c.remove-found.new.self c.args.id c.remove.ensures.taken c.remove-found.ensures.taken)
