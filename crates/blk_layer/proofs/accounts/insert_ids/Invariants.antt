use Rattle.std.proofs.Common.{◌≡◌, ◌≤◌, ◌+◌, ◌||◌, length, take}
use Rattle.blk_ids.specs.IdSet as id_set
use Rattle.blk_bio.specs.declared.bio.BioId.{BioId}
use Rattle.blk_trace.specs.Inside.Kept.{has_named, has_bio_id}
use Rattle.blk_layer.proofs.accounts.insert_ids.Given as goal

abbrev pub invariant-loop-bio : goal.invariant-loop-bio
invariant-loop-bio g l = record {
  ids : (id : BioId) → has_named (id_set.set_has l.ids) id ≡ has_named (id_set.set_has l.initial.ids) id || has_bio_id (take l.bio-index l.bios) id;
  room : length l.bios ≤ id_set.spare l.ids + l.bio-index;
}
