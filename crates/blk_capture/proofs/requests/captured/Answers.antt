use Rattle.std.proofs.Common.{refl}
use Rattle.blk_capture.proofs.Taking.{request_is}
use Rattle.blk_capture.proofs.requests.captured.Goals as goal

pub returns : goal.returns
returns c = request_is c.args.options.now c.args.opened.now c.args.time _ _ c.args.opener _ _ _ _ c.sectors.ensures refl c.entry_of-entry.ensures c.released_by.ensures c.deadline_of.ensures c.not_before.ensures.value
