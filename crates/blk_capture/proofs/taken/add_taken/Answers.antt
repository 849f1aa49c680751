use Rattle.std.proofs.Common.{◌<◌, ◌∙◌, List, length, map, ap, rules}
use Rattle.std.specs.List.{slice_get}
use Rattle.std.proofs.lemmas.Option.{slice_get-get_or}
use Rattle.blk_capture.specs.Inside.Partly.{plain}
use Rattle.blk_capture.specs.declared.opened.Opened.{Opened}
use Rattle.blk_capture.proofs.Partly.{has_added}
use Rattle.blk_capture.proofs.taken.add_taken.Goals as goal

pub returns : goal.returns
returns g c = λ m qs same are.
    let here : c.args.dispatch.request < length c.args.requests.now = c.if-dispatch-requests.false in
    has_added c.args.options.now m c.args.number c.args.dispatch qs c.add.new.self _ c.captured.result
    (ap (λ (xs : List Opened). slice_get xs c.args.dispatch.request) same ∙ slice_get-get_or c.args.requests.now c.args.dispatch.request _ here)
    (search rules)
    c.captured.ensures
    (c.in_ok-add.ensures (map plain qs) are)
