use Rattle.std.proofs.Common.{◌≡◌, ◌<◌, ◌≤◌, ◌∙◌, ℕ, List, length, map, sym, ap, subst}
use Rattle.std.specs.List.{All}
use Rattle.edd_commands.specs.declared.steps.Step.{Step}
use Rattle.blk_report.specs.declared.below.CountAsk.{CountAsk}
use Rattle.edd_verdict.specs.declared.Verdict.TheVariants.{Arrival}
use Rattle.blk_report.specs.declared.serving.Service.{Service}
use Rattle.blk_report.specs.Services.{command_in}
use Rattle.blk_report.specs.Inside.Below.{answer_of, IsAskWithin}
use Rattle.blk_report.proofs.Waiting.{AllAsked, AllTold, asked_same, told_same, dues_in, late_in, asks_are, asks_forward, counted_many, each_row, rows_are}
use Rattle.blk_report.proofs.Verdicts.{AreTold, IsOnly, verdicts_by, has_verdict}
use Rattle.blk_report.proofs.delays.delays.Goals as goal

pub asks-requires-clause-in_time : goal.asks-requires-clause-in_time
asks-requires-clause-in_time g c = late_in c.args.services.now c.as_slice.result.now (c.as_slice.ensures.value ∙ c.in_ok-late.ensures) c.requires.timed

pub after_all-limit-requires : goal.after_all-limit-requires
after_all-limit-requires g c = dues_in c.args.services.now c.as_slice-2.result.now (c.as_slice-2.ensures.value ∙ c.in_ok-dues.ensures) c.requires.timed

pub count_below-requires-clause-asks : goal.count_below-requires-clause-asks
count_below-requires-clause-asks g c =
    let xs : List Service = c.args.services.now in
    let late : List Service = c.in_ok-late.late.items in
    let asks : List CountAsk = c.in_ok-asks.asks.items in
    let limit : ℕ = c.after_all-limit.result in
    let dues : List ℕ = map (λ s. s.due) xs in
    let each : length asks ≡ length late = c.in_ok-asks.ensures.each ∙ ap length c.as_slice.ensures.value in
    let all : AllAsked xs late asks = asked_same xs c.as_slice.result.now late asks c.as_slice.ensures.value c.in_ok-asks.ensures.asks in
    let under : All (λ x. x < limit) dues = subst (All (λ (x : ℕ). x < limit)) (c.as_slice-2.ensures.value ∙ c.in_ok-dues.ensures) c.after_all-limit.ensures in
    let are : All (IsAskWithin dues limit) asks = asks_are xs c.args.capacity.now late asks limit c.requires.timed c.requires.legal.within_depth c.in_ok-late.ensures each all under in
    subst (λ (l : List ℕ). All (IsAskWithin l limit) c.as_slice-3.result.now) (sym c.in_ok-dues.ensures) (subst (All (IsAskWithin dues limit)) (sym c.as_slice-3.ensures.value) are)

pub late_commands-requires-clause-told : goal.late_commands-requires-clause-told
late_commands-requires-clause-told g c =
    let xs : List Service = c.args.services.now in
    (verdicts_by xs c.args.capacity.now (λ k h l. c.law_of_verdicts.ensures.one (map command_in xs) (map (λ (s : Service). s.issue) xs) c.args.capacity.now k c.requires.legal c.at.ensures.steps h l) c.args.verdicts.now c.as_slice-4.result.now c.as_slice-5.result.now c.requires.judged (c.as_slice-4.ensures.value ∙ c.in_ok-late.ensures) (c.as_slice-5.ensures.value ∙ c.in_ok-told.ensures)).long

pub late_commands-requires-clause-counted : goal.late_commands-requires-clause-counted
late_commands-requires-clause-counted g c =
    ap length c.as_slice-7.ensures.value
    ∙ counted_many (answer_of c.in_ok-dues.dues.items) c.as_slice-3.result.now c.in_ok-counted.counted.items c.in_ok-counted.ensures
    ∙ ap length c.as_slice-3.ensures.value
    ∙ c.in_ok-asks.ensures.each
    ∙ ap length (c.as_slice.ensures.value ∙ sym c.as_slice-4.ensures.value)

pub late_commands-requires-clause-forward : goal.late_commands-requires-clause-forward
late_commands-requires-clause-forward g c =
    let xs : List Service = c.args.services.now in
    let late : List Service = c.in_ok-late.late.items in
    let asks : List CountAsk = c.in_ok-asks.asks.items in
    let limit : ℕ = c.after_all-limit.result in
    let dues : List ℕ = map (λ s. s.due) xs in
    let each : length asks ≡ length late = c.in_ok-asks.ensures.each ∙ ap length c.as_slice.ensures.value in
    let all : AllAsked xs late asks = asked_same xs c.as_slice.result.now late asks c.as_slice.ensures.value c.in_ok-asks.ensures.asks in
    let under : All (λ x. x < limit) dues = subst (All (λ (x : ℕ). x < limit)) (c.as_slice-2.ensures.value ∙ c.in_ok-dues.ensures) c.after_all-limit.ensures in
    let are : All (IsAskWithin dues limit) asks = asks_are xs c.args.capacity.now late asks limit c.requires.timed c.requires.legal.within_depth c.in_ok-late.ensures each all under in
    subst (All (λ (a : CountAsk). a.start ≤ a.end)) (sym c.as_slice-6.ensures.value) (asks_forward dues limit asks are)

pub late_commands-requires-clause-each : goal.late_commands-requires-clause-each
late_commands-requires-clause-each g c = λ k d e f h.
    let xs : List Service = c.args.services.now in
    let steps : List Step = c.args.capacity.now in
    let late : List Service = c.in_ok-late.late.items in
    let asks : List CountAsk = c.in_ok-asks.asks.items in
    let counted : List CountAsk = c.in_ok-counted.counted.items in
    let sums : List ℕ = c.in_ok-sums.sums.items in
    let dues : List ℕ = map (λ s. s.due) xs in
    let each : length asks ≡ length late = c.in_ok-asks.ensures.each ∙ ap length c.as_slice.ensures.value in
    let all : AllAsked xs late asks = asked_same xs c.as_slice.result.now late asks c.as_slice.ensures.value c.in_ok-asks.ensures.asks in
    let counts : map (λ a. a.count) counted ≡ map (answer_of dues) asks =
    c.in_ok-counted.ensures ∙ ap (λ l. map (answer_of l) c.as_slice-3.result.now) c.in_ok-dues.ensures ∙ ap (map (answer_of dues)) c.as_slice-3.ensures.value in
    let told : AllTold xs steps sums late asks counted = each_row xs steps c.last_issue-last.result sums late asks counted c.requires.timed c.requires.legal.within_depth c.last_issue-last.ensures.last c.in_ok-sums.ensures c.in_ok-late.ensures each all counts in
    (told_same xs steps c.as_slice-8.result.now sums c.as_slice-4.result.now late c.as_slice-6.result.now asks c.as_slice-7.result.now counted c.as_slice-8.ensures.value c.as_slice-4.ensures.value c.as_slice-6.ensures.value c.as_slice-7.ensures.value told k d e f Arrival h).0

pub returns : goal.returns
returns g c =
    let xs : List Service = c.args.services.now in
    let steps : List Step = c.args.capacity.now in
    let late : List Service = c.in_ok-late.late.items in
    let asks : List CountAsk = c.in_ok-asks.asks.items in
    let counted : List CountAsk = c.in_ok-counted.counted.items in
    let sums : List ℕ = c.in_ok-sums.sums.items in
    let dues : List ℕ = map (λ s. s.due) xs in
    let each : length asks ≡ length late = c.in_ok-asks.ensures.each ∙ ap length c.as_slice.ensures.value in
    let all : AllAsked xs late asks = asked_same xs c.as_slice.result.now late asks c.as_slice.ensures.value c.in_ok-asks.ensures.asks in
    let counts : map (λ a. a.count) counted ≡ map (answer_of dues) asks =
    c.in_ok-counted.ensures ∙ ap (λ l. map (answer_of l) c.as_slice-3.result.now) c.in_ok-dues.ensures ∙ ap (map (answer_of dues)) c.as_slice-3.ensures.value in
    let told : AllTold xs steps sums late asks counted = each_row xs steps c.last_issue-last.result sums late asks counted c.requires.timed c.requires.legal.within_depth c.last_issue-last.ensures.last c.in_ok-sums.ensures c.in_ok-late.ensures each all counts in
    let same : AllTold xs steps c.as_slice-8.result.now c.as_slice-4.result.now c.as_slice-6.result.now c.as_slice-7.result.now = told_same xs steps c.as_slice-8.result.now sums c.as_slice-4.result.now late c.as_slice-6.result.now asks c.as_slice-7.result.now counted c.as_slice-8.ensures.value c.as_slice-4.ensures.value c.as_slice-6.ensures.value c.as_slice-7.ensures.value told in
    let are : AreTold (IsOnly xs steps) xs c.as_slice-4.result.now c.as_slice-5.result.now = verdicts_by xs steps (λ k h l. c.law_of_verdicts.ensures.one (map command_in xs) (map (λ (s : Service). s.issue) xs) steps k c.requires.legal c.at.ensures.steps h l) c.args.verdicts.now c.as_slice-4.result.now c.as_slice-5.result.now c.requires.judged (c.as_slice-4.ensures.value ∙ c.in_ok-late.ensures) (c.as_slice-5.ensures.value ∙ c.in_ok-told.ensures) in
    rows_are xs steps c.as_slice-8.result.now c.as_slice-4.result.now c.as_slice-5.result.now c.as_slice-6.result.now c.as_slice-7.result.now c.in_ok-rows.rows.items (c.as_slice-4.ensures.value ∙ c.in_ok-late.ensures) c.in_ok-rows.ensures.each c.in_ok-rows.ensures.rows same
    (λ k d e f v h. has_verdict xs steps _ (are.at k d v h))
