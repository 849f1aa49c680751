use Rattle.std.proofs.Common.{◌≡◌, ◌∙◌, ℕ, Bor, List, ap, sym, subst, length, map}
use Rattle.std.proofs.lemmas.List.{length-map}
use Rattle.blk_text.specs.Script.{scripted}
use Rattle.blk_schedulers.specs.declared.sched.Sched.{Sched}
use Rattle.blk_schedulers.specs.Scheds.{name_of, in_turn}
use Rattle.blk_runs.specs.Runs.{IsTraceOfScript}
use Rattle.blk_runs.specs.Firsts.{AreUnrun}
use Rattle.blk_cli.specs.Comparing.{AreTraces}
use Rattle.blk_cli.proofs.Compared.{as_many}
use Rattle.blk_cli.proofs.picturing.pictures_of.Goals as goal

pub returns-in-Err-clause-uncompared : goal.returns-in-Err-clause-uncompared
returns-in-Err-clause-uncompared c =
    let turn : c.as_slice-rows.result.now ≡ in_turn c.args.lineup = c.as_slice-rows.ensures.value ∙ c.in-Ok.ensures in
    subst (λ (ss : List Sched). AreUnrun ss (scripted c.args.script.now) c.in-Err.fault) turn c.in-Err.ensures.uncompared

pub pictures-requires : goal.pictures-requires
pictures-requires c =
    let rows = c.as_slice-rows.result.now in
    let names : length c.in-Ok-names_of.names.items ≡ length rows =
    sym (length-map c.in-Ok-names_of.names.items (λ (name : Bor (List ℕ)). name.now)) ∙ ap length c.in-Ok-names_of.ensures ∙ length-map rows name_of in
    rw (c.as_slice.ensures.value, c.as_slice-2.ensures.value) (names ∙ sym (as_many IsTraceOfScript rows (scripted c.args.script.now) c.in-Ok-drawn_under.traces.items c.in-Ok-drawn_under.ensures.traces))

pub returns-in-Ok-pictures-clause-drawn : goal.returns-in-Ok-pictures-clause-drawn
returns-in-Ok-pictures-clause-drawn c =
    let turn : c.as_slice-rows.result.now ≡ in_turn c.args.lineup = c.as_slice-rows.ensures.value ∙ c.in-Ok.ensures in
    (c.in-Ok-drawn_under.traces.items, subst (λ (ss : List Sched). AreTraces ss (scripted c.args.script.now) c.in-Ok-drawn_under.traces.items) turn c.in-Ok-drawn_under.ensures.traces)
