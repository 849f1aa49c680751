use Rattle.std.proofs.Common.{ℕ, ◌≡◌, ◌<◌, ◌≤◌, ◌+◌, ◌∙◌, List, length, get_or, None, Some, sym, ap, subst, arith}
use Rattle.std.proofs.lemmas.Bool.{ne_eqb}
use Rattle.blk_capture.specs.Requests.{went_with}
use Rattle.blk_capture.specs.declared.requests.CapturedBio.{CapturedBio}
use Rattle.std.proofs.lemmas.List.{get_or_default}
use Rattle.blk_capture.specs.declared.requests.CapturedRequest.{CapturedRequest}
use Rattle.blk_capture.proofs.Tallying.{IsTalliedTo, tallied_none, tallied_all, tallied_at, tallied_other, empty_bio}
use Rattle.blk_capture.proofs.requests.count_bios.Goals as goal
use Rattle.blk_capture.proofs.requests.count_bios.Goals.{in-Some+then-place-len, in-Some+else-place-len, in_default}

pub loop-bio-init : goal.loop-bio-init
loop-bio-init g c = tallied_none c.args.requests.items c.args.bios.now c.requires

pub loop-bio-preserved : goal.loop-bio-preserved
loop-bio-preserved g c =
    let n : ℕ = c.loop-bio.bio-index in
    let bios : List CapturedBio = c.args.bios.now in
    let old : List CapturedRequest = c.args.requests.items in
    let so_far : List CapturedRequest = c.loop-bio.requests.items in
    let here : n < length bios = c.loop-bio-test.true in
    elim c.match-bio.branch [
      | in-Some+then-place-len w ↦
          (let p : ℕ = w.in-Some.place in
          let r : CapturedRequest = w.index-request.result.now in
          let there : p < length so_far = omega (arith, w.if-place-len.true, w.len.ensures, c.loop-bio.requests.ok.0) in
          let is : (get_or bios n empty_bio).request ≡ Some p = w.in-Some.is in
          let read : (d : CapturedRequest) → r ≡ get_or so_far p d = λ d. w.index-request.ensures ∙ get_or_default so_far p r d there in
          subst (λ (rs : List CapturedRequest). IsTalliedTo old rs bios (n + 1)) (sym (ap (λ v. v.items) w.requests-is))
          (tallied_at old so_far bios n p _ empty_bio c.loop-bio.invariant here is there
          (λ d. ap (λ (q : CapturedRequest). q.bios + 1) (read d)) (λ d. ap (λ (q : CapturedRequest). record q { bios = r.bios + 1 }) (read d))))
      | in-Some+else-place-len w ↦
          (let p : ℕ = w.in-Some.place in
          let past : length so_far ≤ p = omega (arith, w.if-place-len.false, w.len.ensures, c.loop-bio.requests.ok.0) in
          let is : (get_or bios n empty_bio).request ≡ Some p = w.in-Some.is in
          subst (λ (rs : List CapturedRequest). IsTalliedTo old rs bios (n + 1)) (sym (ap (λ v. v.items) w.requests-is))
          (tallied_other old so_far bios n empty_bio c.loop-bio.invariant here (λ k h. ap (went_with k) is ∙ ne_eqb p k (λ e. omega (arith, e, h, past)))))
      | in_default w ↦
          (let is : (get_or bios n empty_bio).request ≡ None = w.in_default.is in
          subst (λ (rs : List CapturedRequest). IsTalliedTo old rs bios (n + 1)) (sym (ap (λ v. v.items) w.requests-is))
          (tallied_other old so_far bios n empty_bio c.loop-bio.invariant here (λ k h. ap (went_with k) is)))
    ]

pub returns : goal.returns
returns g c = tallied_all c.args.requests.items c.loop-bio.requests.items c.args.bios.now c.loop-bio.bio-index c.loop-bio.invariant c.loop-bio-test.false
