use Rattle.std.proofs.Common.{◌<◌, ◌≡◌, ◌∙◌, ℕ, List, length, get_or, cond, true, None, Some, refl, sym, ap, subst, arith, rules}
use Rattle.std.specs.List.{slice_get}
use Rattle.std.specs.Option.{option_and_then}
use Rattle.std.proofs.lemmas.List.{get_or_default}
use Rattle.std.proofs.lemmas.Option.{slice_get_read}
use Rattle.blk_capture.specs.Requests.{IsDue}
use Rattle.blk_capture.specs.Rules.{goes_out_by}
use Rattle.blk_capture.specs.Settled.{captured, taken_if}
use Rattle.blk_capture.specs.Inside.Taken.{IsRequestOf}
use Rattle.blk_capture.specs.declared.clock.Dispatch.{Dispatch}
use Rattle.blk_capture.specs.declared.opened.Opened.{Opened}
use Rattle.blk_capture.specs.declared.requests.Options.{Options}
use Rattle.blk_capture.proofs.Taking.{back_later}
use Rattle.blk_capture.proofs.Placing.{some_is}
use Rattle.blk_capture.proofs.requests.request_of.Goals as goal

pub returns-clause-of : goal.returns-clause-of
returns-clause-of g c =
    let m = c.args.matching.now in
    let q : Opened = c.index.result.now in
    let x : Dispatch = c.args.dispatch in
    let openers : List ℕ = m.members.openers.items in
    let lt : x.request < length m.requests.items = omega (arith, c.if-place-len.false, c.len.ensures, m.requests.ok.0) in
    let lt2 : x.request < length openers = omega (arith, lt, c.requires.paired) in
    let last : goes_out_by c.args.number q.stage ≡ true = search rules in
    let by = c.requires.coherent.sent x.request c.args.number q (slice_get_read m.requests.items (length m.requests.items) x.request q refl lt c.index.ensures) last in
    let same : x ≡ by.dispatch = some_is x by.dispatch (sym c.requires.sent ∙ by.there) in
    let at : x.time ≡ by.dispatch.time = ap (λ (d : Dispatch). d.time) same in
    subst (IsRequestOf openers x) (sym c.captured.ensures) (record {
      opened = lt2;
      opener = c.index-2.ensures ∙ get_or_default openers x.request c.index-2.result.now 0 lt2;
      timed = refl;
      came_in = (let low = by.released in omega (arith, low, at));
      came_back = back_later x.time q.completed;
      none = refl;
    })

pub returns-clause-due : goal.returns-clause-due
returns-clause-due g c = subst (IsDue c.args.options.now) (sym c.captured.ensures) (record { entered = refl; released = refl; due = refl })

pub returns-clause-last : goal.returns-clause-last
returns-clause-last g c =
    let m = c.args.matching.now in
    let q : Opened = c.index.result.now in
    let lt : c.args.dispatch.request < length m.requests.items = omega (arith, c.if-place-len.false, c.len.ensures, m.requests.ok.0) in
    record { opened = q; there = slice_get_read m.requests.items (length m.requests.items) c.args.dispatch.request q refl lt c.index.ensures; last = search rules }

pub returns-clause-taken : goal.returns-clause-taken
returns-clause-taken g c =
    let m = c.args.matching.now in
    let q : Opened = c.index.result.now in
    let o : Options = c.args.options.now in
    let x : Dispatch = c.args.dispatch in
    let openers : List ℕ = m.members.openers.items in
    let opener : ℕ = get_or openers x.request 0 in
    let lt : x.request < length m.requests.items = omega (arith, c.if-place-len.false, c.len.ensures, m.requests.ok.0) in
    let lt2 : x.request < length openers = omega (arith, lt, c.requires.paired) in
    let last : goes_out_by c.args.number q.stage ≡ true = search rules in
    let there : slice_get m.requests.items x.request ≡ Some q = slice_get_read m.requests.items (length m.requests.items) x.request q refl lt c.index.ensures in
    ap (λ r. Some r) (c.captured.ensures ∙ ap (λ b. captured o b x.time q) (c.index-2.ensures ∙ get_or_default openers x.request c.index-2.result.now 0 lt2))
    ∙ sym (ap (option_and_then (taken_if o opener c.args.number x.time)) there ∙ ap (λ b. cond b (Some (captured o opener x.time q)) None) last)
