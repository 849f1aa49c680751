use Rattle.std.proofs.Common.{◌≡◌, ◌∙◌, length, get_or, ap}
use Rattle.blk_picture.specs.Made.{made}
use Rattle.blk_picture.specs.Columns.{column_of, rooms_of}
use Rattle.blk_picture.specs.Inside.Counted.{column_from}
use Rattle.blk_picture.proofs.Made.{made_same}
use Rattle.blk_picture.proofs.Counting.{column_is}
use Rattle.blk_picture.proofs.columns.columns.Goals as goal

pub returns : goal.returns
returns c =
    let t = c.args.trace.now in
    let scale = c.args.scale in
    let f = column_from c.as_slice.result.now c.as_slice-2.result.now c.as_slice-3.result.now c.as_slice-4.result.now c.as_slice-5.result.now c.as_slice-6.result.now c.as_slice-7.result.now in
    let some : length c.as_slice.result.now ≡ scale.columns = ap length c.as_slice.ensures.value ∙ c.in_ok-reads.ensures.each in
    c.in_ok-columns.ensures
    ∙ ap (made f) some
    ∙ made_same f (column_of t.setup t.events scale) scale.columns
    (λ k h.
    column_is t.setup t.events scale k c.args.boxes.now c.as_slice.result.now c.as_slice-2.result.now c.as_slice-3.result.now c.as_slice-4.result.now c.as_slice-5.result.now c.as_slice-6.result.now c.as_slice-7.result.now c.requires.boxes
    (ap (λ l. get_or l k 0) c.as_slice.ensures.value ∙ c.in_ok-reads.ensures.counts k h)
    (ap (λ l. get_or l k 0) c.as_slice-2.ensures.value ∙ c.in_ok-writes.ensures.counts k h)
    (ap (λ l. get_or l k 0) c.as_slice-3.ensures.value ∙ c.in_ok-lates.ensures.counts k h)
    (ap (λ l. get_or l k 0) c.as_slice-4.ensures.value ∙ c.in_ok-backs.ensures.counts k h)
    (c.as_slice-5.ensures.value ∙ c.in_ok-rooms.ensures ∙ ap (λ s. rooms_of s scale.per scale.rounds 0 scale.columns) c.in_ok-capacity.ensures.steps)
    (c.as_slice-6.ensures.value ∙ c.in_ok-read_waits.ensures)
    (c.as_slice-7.ensures.value ∙ c.in_ok-write_waits.ensures))
