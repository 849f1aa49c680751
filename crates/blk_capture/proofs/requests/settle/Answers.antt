use Rattle.std.proofs.Common.{ℕ, ◌≡◌, ◌<◌, ◌∙◌, List, length, map, count_by, sym, ap, subst, arith}
use Rattle.std.specs.List.{slice_get}
use Rattle.blk_capture.specs.Fates.{AreOfTaken, IsTakenBelow}
use Rattle.blk_capture.specs.Requests.{AreTallied, AreGone}
use Rattle.blk_capture.specs.Inside.Taken.{AreWithin}
use Rattle.blk_capture.specs.declared.requests.CapturedBio.{CapturedBio}
use Rattle.blk_capture.specs.Rules.{Known}
use Rattle.blk_capture.specs.Settled.{captured_bio, fate_by, is_absorbed}
use Rattle.blk_capture.specs.Inside.Coherent.{AreLaidOut}
use Rattle.blk_capture.specs.declared.opened.Opened.{Opened}
use Rattle.blk_capture.specs.declared.requests.Options.{Options}
use Rattle.blk_capture.proofs.Adding.{fate_within}
use Rattle.blk_capture.proofs.Placing.{relaid, apart_of}
use Rattle.blk_capture.specs.Inside.Matchings.{all_known}
use Rattle.blk_capture.proofs.Settling.{have_bios_of, tallied_timed, tallied_due, uncounted_all}
use Rattle.blk_capture.proofs.requests.settle.Goals as goal

pub lives-requires : goal.lives-requires
lives-requires g c = λ j a there.
    let m = c.args.matching in
    let both = c.requires.coherent.merges j a (ap (λ xs. slice_get xs j) (sym c.as_slice.ensures.value) ∙ there) in
    let low : a.request < length m.requests.items = both.0 in
    let low2 : a.into < length m.requests.items = both.1 in
    (omega (arith, low, c.len.ensures, m.requests.ok.0), omega (arith, low2, c.len.ensures, m.requests.ok.0))

pub returns-clause-timed : goal.returns-clause-timed
returns-clause-timed g c = tallied_timed c.in_ok-taken.taken.requests.items c.count_bios.result.items c.as_slice-12.result.now c.in_ok-taken.ensures.timed c.count_bios.ensures

pub returns-clause-bios : goal.returns-clause-bios
returns-clause-bios g c =
    have_bios_of c.as_slice-2.result.now c.as_slice-6.result.now c.args.matching.members.openers.items c.in_ok-taken.taken.places.items c.as_slice-7.result.now c.in_ok-taken.taken.requests.items c.count_bios.result.items c.args.matching.members.bios.items c.as_slice-5.result.now c.in_ok-bios.bios.items c.as_slice-12.result.now
    (c.as_slice-6.ensures.value ∙ sym c.as_slice-2.ensures.value) c.as_slice-7.ensures.value c.as_slice-5.ensures.value c.as_slice-12.ensures.value
    c.in_ok-taken.ensures.placed c.count_bios.ensures c.in_ok-bios.ensures.placed c.args.matching.members.opened

pub returns-clause-tallied : goal.returns-clause-tallied
returns-clause-tallied g c = subst (λ (bs : List CapturedBio). AreTallied c.count_bios.result.items bs) c.as_slice-12.ensures.value c.count_bios.ensures.tallied

pub returns-clause-due : goal.returns-clause-due
returns-clause-due g c = tallied_due c.args.options.now c.in_ok-taken.taken.requests.items c.count_bios.result.items c.as_slice-12.result.now c.in_ok-taken.ensures.due c.count_bios.ensures

pub returns-clause-below : goal.returns-clause-below
returns-clause-below g c =
    let n : ℕ = length c.in_ok-taken.taken.requests.items in
    let same : length c.count_bios.result.items ≡ n = c.count_bios.ensures.each in
    let within : AreWithin n c.as_slice-11.result.now = subst (AreWithin n) (sym c.as_slice-11.ensures.value) c.in_ok-taken.ensures.within in
    let gone : AreGone n c.as_slice-9.result.now =
    subst (AreGone n) (sym c.as_slice-9.ensures.value) (c.in_ok-bios.ensures.within n (subst (AreWithin n) (sym c.as_slice-7.ensures.value) c.in_ok-taken.ensures.within)) in
    subst (λ m. AreOfTaken m c.in_ok-fates.fates.items) (sym same) (c.in_ok-fates.ensures.below n within gone)

pub returns-clause-taken : goal.returns-clause-taken
returns-clause-taken g c =
    uncounted_all c.in_ok-taken.taken.requests.items c.count_bios.result.items c.as_slice-12.result.now c.in_ok-taken.ensures.untallied c.count_bios.ensures
    ∙ c.in_ok-taken.ensures.taken

pub returns-clause-bios_are : goal.returns-clause-bios_are
returns-clause-bios_are g c =
    let o : Options = c.args.options.now in
    let m : Known = all_known c.args.matching in
    let laid : AreLaidOut o m c.as_slice-6.result.now c.as_slice-7.result.now =
    relaid o m _ _ _ _ (c.as_slice-6.ensures.value ∙ sym c.as_slice-2.ensures.value) c.as_slice-7.ensures.value c.in_ok-taken.ensures.laid in
    c.in_ok-bios.ensures.are o m laid ∙ ap (map (captured_bio o m)) c.as_slice-5.ensures.value

pub returns-clause-fates_are : goal.returns-clause-fates_are
returns-clause-fates_are g c =
    let o : Options = c.args.options.now in
    let m : Known = all_known c.args.matching in
    let before : AreLaidOut o m c.as_slice-6.result.now c.as_slice-7.result.now =
    relaid o m _ _ _ _ (c.as_slice-6.ensures.value ∙ sym c.as_slice-2.ensures.value) c.as_slice-7.ensures.value c.in_ok-taken.ensures.laid in
    let laid : AreLaidOut o m c.as_slice-10.result.now c.as_slice-11.result.now =
    relaid o m _ _ _ _ (c.as_slice-10.ensures.value ∙ sym c.as_slice-2.ensures.value) c.as_slice-11.ensures.value c.in_ok-taken.ensures.laid in
    c.in_ok-fates.ensures.are o m laid (c.as_slice-9.ensures.value ∙ c.in_ok-bios.ensures.are o m before ∙ ap (map (captured_bio o m)) c.as_slice-5.ensures.value) ∙ ap (map (fate_by o m)) c.as_slice-8.ensures.value

pub returns-clause-absorbed : goal.returns-clause-absorbed
returns-clause-absorbed g c = c.count_others-absorbed.ensures.absorbed ∙ ap (count_by (λ (q : Opened). is_absorbed q.stage)) c.as_slice-3.ensures.value

pub count_others-absorbed-requires-clause-apart : goal.count_others-absorbed-requires-clause-apart
count_others-absorbed-requires-clause-apart g c = apart_of c.args.options.now (all_known c.args.matching) _ _ _ _ c.as_slice-3.ensures.value c.as_slice-4.ensures.value c.in_ok-taken.ensures.laid

pub returns-clause-within : goal.returns-clause-within
returns-clause-within g c = λ p.
    let o : Options = c.args.options.now in
    let m : Known = all_known c.args.matching in
    let n : ℕ = length c.in_ok-taken.taken.requests.items in
    let laid : AreLaidOut o m c.as_slice-6.result.now c.as_slice-7.result.now =
    relaid o m _ _ _ _ (c.as_slice-6.ensures.value ∙ sym c.as_slice-2.ensures.value) c.as_slice-7.ensures.value c.in_ok-taken.ensures.laid in
    let within : AreWithin n c.as_slice-7.result.now = subst (AreWithin n) (sym c.as_slice-7.ensures.value) c.in_ok-taken.ensures.within in
    let is : c.in_ok-bios.bios.items ≡ map (captured_bio o m) m.bios = c.in_ok-bios.ensures.are o m laid ∙ ap (map (captured_bio o m)) c.as_slice-5.ensures.value in
    subst (λ k. IsTakenBelow k (fate_by o m p)) (sym c.count_bios.ensures.each) (fate_within o m c.as_slice-6.result.now c.as_slice-7.result.now c.in_ok-bios.bios.items n p laid within is (c.in_ok-bios.ensures.within n within))
