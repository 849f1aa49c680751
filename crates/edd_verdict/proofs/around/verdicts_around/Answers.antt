use Rattle.std.proofs.Common.{◌<◌, ◌-◌, ℕ, List, length, get_or, arith, sym, subst}
use Rattle.std.specs.List.{All}
use Rattle.std.specs.List.Sorted.{IsNonDecreasingBy}
use Rattle.std.proofs.lemmas.List.{get_or_default}
use Rattle.edd_check.specs.declared.Window.{Window}
use Rattle.edd_verdict.specs.declared.around.Ask.{Ask}
use Rattle.edd_verdict.specs.Inside.Open.{IsAsk, AreAsked, IsInnermost}
use Rattle.edd_oracle.proofs.Pairs.{nobody}
use Rattle.edd_verdict.proofs.Opening.{pending_first, pending_none, pending_full}
use Rattle.edd_verdict.proofs.around.verdicts_around.Goals as goal

abbrev none : Ask
none = record { release = 0; due = 0; place = 0 }

pub loop-next-init : goal.loop-next-init
loop-next-init g c =
    pending_first c.args.commands.now c.args.rounds.now c.args.windows.now c.as_slice-asks.result.now c.new-opened.result.items c.in_ok-verdicts.verdicts.items c.requires.one_each c.in_ok-verdicts.ensures
    (subst (λ xs. AreAsked c.args.commands.now c.args.rounds.now (length c.args.commands.now) xs) (sym c.as_slice-asks.ensures.value) c.in_ok-late.ensures.all) c.new-opened.ensures.items

pub innermost-requires-clause-small : goal.innermost-requires-clause-small
innermost-requires-clause-small g c =
    let asks : List Ask = c.as_slice-asks.result.now in
    let asked : All (IsAsk c.args.commands.now c.args.rounds.now) asks = subst (λ xs. All (IsAsk c.args.commands.now c.args.rounds.now) xs) (sym c.as_slice-asks.ensures.value) c.in_ok-late.ensures.each in
    let is = asked (c.loop-next.next - 1) none (omega (arith, c.loop-next.invariant.within, c.loop-next-test.true)) in
    omega (arith, is.is_release nobody, (c.requires.in_range (get_or asks (c.loop-next.next - 1) none).place nobody is.within).0)

pub loop-next-preserved-in-Some : goal.loop-next-preserved-in-Some
loop-next-preserved-in-Some g c =
    let asks : List Ask = c.as_slice-asks.result.now in
    let a : Ask = get_or asks (c.loop-next.next - 1) none in
    let asked : All (IsAsk c.args.commands.now c.args.rounds.now) asks = subst (λ xs. All (IsAsk c.args.commands.now c.args.rounds.now) xs) (sym c.as_slice-asks.ensures.value) c.in_ok-late.ensures.each in
    let order : IsNonDecreasingBy (λ (b : Ask). b.due) asks = subst (λ xs. IsNonDecreasingBy (λ (b : Ask). b.due) xs) (sym c.as_slice-asks.ensures.value) c.in_ok-late.ensures.rising in
    let inner : IsInnermost c.open_windows.new.opened.items a.release c.in-Some.window = subst (λ xs. IsInnermost xs a.release c.in-Some.window) c.as_slice.ensures.value c.in-Some.ensures.some in
    pending_full c.args.commands.now c.args.rounds.now c.args.windows.now asks asked c.requires.rising order c.loop-next.next (c.loop-next.next - 1) c.loop-next.left c.in_ok-left.left c.loop-next.opened.items c.open_windows.new.opened.items c.loop-next.verdicts.items a c.loop-next.invariant (omega (arith, c.loop-next-test.true))
    (λ e. get_or_default asks (c.loop-next.next - 1) e none (omega (arith, c.loop-next.invariant.within, c.loop-next-test.true))) c.in_ok-left.ensures.are c.in_ok-left.ensures.past c.in_ok-left.ensures.within c.in-Some.window c.tell.new.verdicts.items inner c.tell.ensures

pub loop-next-preserved : goal.loop-next-preserved
loop-next-preserved g c =
    let asks : List Ask = c.as_slice-asks.result.now in
    let a : Ask = get_or asks (c.loop-next.next - 1) none in
    let asked : All (IsAsk c.args.commands.now c.args.rounds.now) asks = subst (λ xs. All (IsAsk c.args.commands.now c.args.rounds.now) xs) (sym c.as_slice-asks.ensures.value) c.in_ok-late.ensures.each in
    let order : IsNonDecreasingBy (λ (b : Ask). b.due) asks = subst (λ xs. IsNonDecreasingBy (λ (b : Ask). b.due) xs) (sym c.as_slice-asks.ensures.value) c.in_ok-late.ensures.rising in
    pending_none c.args.commands.now c.args.rounds.now c.args.windows.now asks asked c.requires.rising order c.loop-next.next (c.loop-next.next - 1) c.loop-next.left c.in_ok-left.left c.loop-next.opened.items c.open_windows.new.opened.items c.loop-next.verdicts.items a c.loop-next.invariant (omega (arith, c.loop-next-test.true))
    (λ e. get_or_default asks (c.loop-next.next - 1) e none (omega (arith, c.loop-next.invariant.within, c.loop-next-test.true))) c.in_ok-left.ensures.are c.in_ok-left.ensures.past c.in_ok-left.ensures.within
    (subst (λ (xs : List Window). (j : ℕ) (e : Window) → j < length xs → a.release < (get_or xs j e).from) c.as_slice.ensures.value c.in_default.ensures.none)
