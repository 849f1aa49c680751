use Rattle.std.proofs.Common.{ℕ, ◌≡◌, take}
use Rattle.std.specs.Ordering.{nat_cmp}
use Rattle.std.specs.BTreeMap.{get}
use Rattle.blk_trace.specs.Meaning.{issued_ids}
use Rattle.blk_trace.specs.Waits.{has_id}
use Rattle.blk_trace.specs.Inside.Gathered.{bios_unless}
use Rattle.blk_trace.proofs.trace.waiting.gathered.Given as goal

-- the map has the requests of the events so far that wait in the end
abbrev pub invariant-loop-event : goal.invariant-loop-event
invariant-loop-event g l = (id : ℕ) → get nat_cmp l.requests id ≡ bios_unless (λ i. has_id (issued_ids l.events) i) (take l.event-index l.events) id
