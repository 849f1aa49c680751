use Rattle.std.proofs.Common.{◌≡◌, ◌∙◌, ℕ, List, Option, length, count_by, is_some, sym, ap, arith}
use Rattle.blk_capture.specs.Fates.{is_taken}
use Rattle.blk_capture.specs.Rules.{Known}
use Rattle.blk_capture.specs.Settled.{all_taken, is_absorbed}
use Rattle.blk_capture.specs.Inside.Coherent.{AreLaidOut}
use Rattle.blk_capture.specs.Inside.Matchings.{all_known}
use Rattle.blk_capture.specs.Inside.Partly.{all_before, all_in_part, fate_with, is_counted_in}
use Rattle.blk_capture.specs.declared.matching.Role.{Role}
use Rattle.blk_capture.specs.declared.members.QueuedBio.{QueuedBio}
use Rattle.blk_capture.specs.declared.opened.Opened.{Opened}
use Rattle.blk_capture.specs.declared.requests.CapturedRequest.{CapturedRequest}
use Rattle.blk_capture.specs.declared.requests.Options.{Options}
use Rattle.blk_capture.proofs.Placing.{relaid, apart_of}
use Rattle.blk_capture.proofs.Whole.{part_length, gone_few}
use Rattle.blk_capture.proofs.taken.count_taken.Goals as goal

pub count_others-left_out-requires-clause-apart : goal.count_others-left_out-requires-clause-apart
count_others-left_out-requires-clause-apart g c =
    apart_of c.args.matching.now.options (all_known c.args.matching.now) _ _ _ _ c.as_slice-requests.ensures.value c.as_slice-3.ensures.value c.in_ok-taken.ensures.laid

pub returns-clause-bios : goal.returns-clause-bios
returns-clause-bios g c =
    let o : Options = c.args.matching.now.options in
    let m : Known = all_known c.args.matching.now in
    let before : ℕ = c.in_ok-taken.taken.before in
    let count : ℕ = c.min.result in
    let laid : AreLaidOut o m c.as_slice-lives.result.now c.as_slice-places.result.now =
    relaid o m _ _ _ _ (c.as_slice-lives.ensures.value ∙ sym c.as_slice-2.ensures.value) c.as_slice-places.ensures.value c.in_ok-taken.ensures.laid in
    let from : before ≡ all_before c.args.begin o m = c.in_ok-taken.ensures.before in
    let n : count ≡ all_in_part c.args.begin c.args.first o m =
    (let is = c.min.ensures in let all = c.in_ok-taken.ensures.count in omega (arith, is, all, from, part_length c.args.begin c.args.first (all_taken o m))) in
    c.count_bios.ensures o m laid
    ∙ ap (λ (bs : List QueuedBio). count_by (is_counted_in before count o m) bs) c.as_slice-queued.ensures.value
    ∙ ap (λ k. count_by (is_counted_in k count o m) m.bios) from
    ∙ ap (λ k. count_by (is_counted_in (all_before c.args.begin o m) k o m) m.bios) n

pub returns-clause-merges : goal.returns-clause-merges
returns-clause-merges g c =
    let o : Options = c.args.matching.now.options in
    let m : Known = all_known c.args.matching.now in
    let roles : List Role = c.args.merges.now in
    let before : ℕ = c.in_ok-taken.taken.before in
    let count : ℕ = c.min.result in
    let laid : AreLaidOut o m c.as_slice-lives.result.now c.as_slice-places.result.now =
    relaid o m _ _ _ _ (c.as_slice-lives.ensures.value ∙ sym c.as_slice-2.ensures.value) c.as_slice-places.ensures.value c.in_ok-taken.ensures.laid in
    let from : before ≡ all_before c.args.begin o m = c.in_ok-taken.ensures.before in
    let n : count ≡ all_in_part c.args.begin c.args.first o m =
    (let is = c.min.ensures in let all = c.in_ok-taken.ensures.count in omega (arith, is, all, from, part_length c.args.begin c.args.first (all_taken o m))) in
    c.count_records.ensures o m laid (sym c.as_slice-queued.ensures.value)
    ∙ ap (λ k. count_by (λ r. is_taken (fate_with k count o m r)) roles) from
    ∙ ap (λ k. count_by (λ r. is_taken (fate_with (all_before c.args.begin o m) k o m r)) roles) n

pub returns-clause-left : goal.returns-clause-left
returns-clause-left g c =
    let o : Options = c.args.matching.now.options in
    let m : Known = all_known c.args.matching.now in
    let all : List CapturedRequest = all_taken o m in
    let count = c.in_ok-taken.ensures.count in
    let before = c.in_ok-taken.ensures.before in
    let is = c.min.ensures in
    let long = part_length c.args.begin c.args.first all in
    let few = gone_few c.args.begin all in
    let places : count_by is_some c.as_slice-3.result.now ≡ length all = ap (λ (ps : List (Option ℕ)). count_by is_some ps) c.as_slice-3.ensures.value ∙ c.in_ok-taken.ensures.whole.many in
    let sum = c.count_others-left_out.ensures.sum in
    let absorbed = c.count_others-left_out.ensures.absorbed in
    let known = c.as_slice-requests.ensures.value in
    let many : length c.as_slice-requests.result.now ≡ length m.requests = ap length known in
    record {
      left = c.count_others-left_out.result.1;
      sum = let gone = absorbed ∙ ap (count_by (λ (q : Opened). is_absorbed q.stage)) known in omega (arith, places, sum, gone, many);
      out_is = omega (arith, count, before, is, long, few);
    }
