use Rattle.std.proofs.Common.{◌≡◌, ◌∙◌, List, length, map, sym, ap, subst, arith}
use Rattle.std.proofs.lemmas.List.{length-map}
use Rattle.blk_capture.specs.Parting.{gone_before, bio_in, fate_in}
use Rattle.blk_capture.specs.Requests.{AreTimed}
use Rattle.blk_capture.specs.declared.requests.CapturedRequest.{CapturedRequest}
use Rattle.blk_capture.proofs.Parted.{length_part, part_is, part_timed, written}
use Rattle.blk_capture.proofs.part.part_of.Goals as goal

pub returns-clause-requests : goal.returns-clause-requests
returns-clause-requests g c =
    let whole : List CapturedRequest = c.args.matched.requests.items in
    let from : c.count_before-from.result ≡ gone_before c.args.begin whole = c.count_before-from.ensures.value ∙ ap (gone_before c.args.begin) c.as_slice.ensures.value in
    c.in_ok-part.ensures ∙ part_is c.args.begin c.args.first whole c.count_before-from.result c.min-count.result from (omega arith) (omega arith)

pub returns-clause-bios : goal.returns-clause-bios
returns-clause-bios g c =
    let whole : List CapturedRequest = c.args.matched.requests.items in
    let count : c.min-count.result ≡ length c.in_ok-part.part.items = sym (ap length c.in_ok-part.ensures ∙ length_part whole c.count_before-from.result c.min-count.result (omega arith)) in
    let from : c.count_before-from.result ≡ gone_before c.args.begin whole = c.count_before-from.ensures.value ∙ ap (gone_before c.args.begin) c.as_slice.ensures.value in
    let long : c.args.matched.bios.len ≡ length c.bios_in.new.bios = omega (arith, ap length c.bios_in.ensures, length-map c.as_mut_slice.result.now (bio_in c.count_before-from.result c.min-count.result), c.as_mut_slice.ensures.len) in
    written c.args.matched.bios.len c.bios_in.new.bios c.args.matched.bios.items long
    ∙ c.bios_in.ensures
    ∙ ap (map (bio_in c.count_before-from.result c.min-count.result)) c.as_mut_slice.ensures.value
    ∙ ap (λ n. map (bio_in n c.min-count.result) c.args.matched.bios.items) from
    ∙ ap (λ n. map (bio_in (gone_before c.args.begin whole) n) c.args.matched.bios.items) count

pub returns-clause-fates : goal.returns-clause-fates
returns-clause-fates g c =
    let whole : List CapturedRequest = c.args.matched.requests.items in
    let count : c.min-count.result ≡ length c.in_ok-part.part.items = sym (ap length c.in_ok-part.ensures ∙ length_part whole c.count_before-from.result c.min-count.result (omega arith)) in
    let from : c.count_before-from.result ≡ gone_before c.args.begin whole = c.count_before-from.ensures.value ∙ ap (gone_before c.args.begin) c.as_slice.ensures.value in
    let long : c.args.matched.fates.len ≡ length c.fates_in.new.fates = omega (arith, ap length c.fates_in.ensures, length-map c.as_mut_slice-2.result.now (fate_in c.count_before-from.result c.min-count.result), c.as_mut_slice-2.ensures.len) in
    written c.args.matched.fates.len c.fates_in.new.fates c.args.matched.fates.items long
    ∙ c.fates_in.ensures
    ∙ ap (map (fate_in c.count_before-from.result c.min-count.result)) c.as_mut_slice-2.ensures.value
    ∙ ap (λ n. map (fate_in n c.min-count.result) c.args.matched.fates.items) from
    ∙ ap (λ n. map (fate_in (gone_before c.args.begin whole) n) c.args.matched.fates.items) count

pub returns-clause-timed : goal.returns-clause-timed
returns-clause-timed g c =
    subst AreTimed (sym c.in_ok-part.ensures) (part_timed c.args.matched.requests.items c.count_before-from.result c.min-count.result (omega arith) c.requires.timed)
