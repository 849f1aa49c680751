use Rattle.std.proofs.Common.{◌∙◌, get_or, None, sym, ap}
use Rattle.std.specs.Option.{option_and_then}
use Rattle.std.proofs.lemmas.List.{get_or_past}
use Rattle.blk_capture.specs.Settled.{place_in_end}
use Rattle.blk_capture.specs.declared.requests.MergeRoot.{MergeRoot}
use Rattle.blk_capture.proofs.Placing.{place_is, place_past}
use Rattle.blk_capture.proofs.requests.place_of.Goals as goal

pub returns-then-request-lives-clause-place : goal.returns-then-request-lives-clause-place
returns-then-request-lives-clause-place c o m laid =
    sym (ap (option_and_then (place_in_end o m)) c.in_ok-request.was ∙ place_past o m c.args.lives.now c.args.places.now c.in_ok-request.request laid c.if-request-lives.true)

pub returns-then-root-places-clause-place : goal.returns-then-root-places-clause-place
returns-then-root-places-clause-place c o m laid =
    let d : MergeRoot = record { root = 0 } in
    sym (get_or_past c.args.places.now (get_or c.args.lives.now c.in_ok-request.request d).root None c.if-root-places.true)
    ∙ place_is o m c.args.lives.now c.args.places.now c.in_ok-request.request d laid c.if-request-lives.false
    ∙ sym (ap (option_and_then (place_in_end o m)) c.in_ok-request.was)

pub returns-clause-place : goal.returns-clause-place
returns-clause-place c o m laid =
    place_is o m c.args.lives.now c.args.places.now c.in_ok-request.request (record { root = 0 }) laid c.if-request-lives.false
    ∙ sym (ap (option_and_then (place_in_end o m)) c.in_ok-request.was)
