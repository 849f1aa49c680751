use Rattle.std.proofs.Common.{◌∷◌, [], sym}
use Rattle.std.proofs.lemmas.List.{append_assoc}
use Rattle.blk_replayed.proofs.answers.push_expiries.Goals as goal

pub returns-in_ok-push-2 : goal.returns-in_ok-push-2
returns-in_ok-push-2 c =
    rw (c.in_ok-push-2.ensures.items, c.in_ok-push.ensures.items, sym c.has_fifo_lists.ensures, c.if-has_fifo_lists.true, sym c.expiry.ensures, sym c.expiry-then-has_fifo_lists.ensures)
    (append_assoc c.args.all.now.items (c.expiry.result ∷ []) (c.expiry-then-has_fifo_lists.result ∷ []))
