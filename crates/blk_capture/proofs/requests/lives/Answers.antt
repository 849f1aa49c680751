use Rattle.std.proofs.Common.{◌≡◌, ◌<◌, ◌+◌, ◌-◌, ◌∙◌, ℕ, List, length, get_or, sym, arith}
use Rattle.std.proofs.lemmas.List.{length-set, get_or_default}
use Rattle.std.proofs.lemmas.Option.{slice_get-get_or}
use Rattle.blk_capture.specs.declared.opened.Absorption.{Absorption}
use Rattle.blk_capture.specs.declared.requests.MergeRoot.{MergeRoot}
use Rattle.blk_capture.proofs.Placing.{ends_done, roots_step}
use Rattle.blk_capture.proofs.requests.lives.Goals as goal

pub loop-place-init : goal.loop-place-init
loop-place-init g c =
    let each : length c.loop-root.lives.items ≡ c.loop-root.root = c.loop-root.invariant.each in
    record {
      each = omega (arith, each, c.loop-root-test.false, c.loop-root.auto.root-end);
      roots = λ k d h. c.loop-root.invariant.own k d (omega (arith, h, each)) ∙ sym (ends_done c.args.absorptions.now (length c.args.absorptions.now) k (omega arith));
    }

pub loop-place-preserved : goal.loop-place-preserved
loop-place-preserved g c =
    let merges : List Absorption = c.args.absorptions.now in
    let lives : List MergeRoot = c.loop-place.lives.items in
    let p : ℕ = c.loop-place.place - 1 in
    let next : p + 1 ≡ c.loop-place.place = omega (arith, c.loop-place-test.true) in
    let here : p < length merges = omega (arith, next, c.loop-place.auto.place) in
    let a : Absorption = get_or merges p (record { request = 0; into = 0 }) in
    let both = c.requires p a (slice_get-get_or merges p (record { request = 0; into = 0 }) here) in
    let each : length lives ≡ c.args.count = c.loop-place.invariant.each in
    let low : a.request < length lives = omega (arith, both.0, each) in
    let low2 : a.into < length lives = omega (arith, both.1, each) in
    record {
      each = length-set lives a.request c.index.result.now ∙ each;
      roots = roots_step lives merges p c.loop-place.place a c.index.result.now next here (get_or_default merges p (record { request = 0; into = 0 }) a here) low low2 c.loop-place.invariant.roots (c.index.ensures ∙ get_or_default lives a.into _ c.index.result.now low2);
    }
