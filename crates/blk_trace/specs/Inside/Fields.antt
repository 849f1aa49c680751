-- What the fields of a trace are.
use Rattle.std.specs.Prelude.{length, vec_capacity}
use Rattle.blk_ids.specs.ById as by_id
use Rattle.blk_ids.specs.IdSet as id_set
use Rattle.blk_trace.specs.Inside.Kept.{IsKeptTrace, HasRoom, HasDepths, IsUnusedFrom, has_named}
use Rattle.blk_trace.specs.declared.trace.Trace.TheInside.{Inside}

-- what is kept is what the events say, there is room for what was prepared, the depths are those of the rounds, and tags are unused from a bound on
abbrev pub AreKeptFields : {A : Type 0} → Inside A → Type 0
AreKeptFields t =
    IsKeptTrace t.setup t.events.items t.issued.items t.round t.«open» (by_id.kept_at t.known) (has_named (id_set.set_has t.ids)) t.tags.items
    × HasRoom t.prepared (length t.events.items) t.«open» (length t.issued.items) (vec_capacity t.events) (vec_capacity t.issued) (by_id.spare t.known) (id_set.spare t.ids)
    × HasDepths t.setup t.events.items t.depth t.next_depth × IsUnusedFrom t.events.items t.setup.depth t.unused_from
