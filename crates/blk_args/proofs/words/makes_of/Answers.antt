use Rattle.std.proofs.Common.{◌∙◌, ap, sym, arith, option_map}
use Rattle.std.proofs.lemmas.List.{take_all}
use Rattle.std.specs.Str.{bytes_eq}
use Rattle.blk_args.specs.Inside.Tables.{subcommand_of}
use Rattle.blk_schedulers.proofs.Found.{found_next, none_more, find_map}
use Rattle.blk_args.proofs.words.makes_of.Goals as goal

pub returns-then-eq : goal.returns-then-eq
returns-then-eq c =
    let found = found_next (λ r. bytes_eq c.args.name.now r.name.now) c.args.rows.now c.loop-row.row-index _ c.loop-row-test.true c.loop-row.invariant (sym c.eq.ensures ∙ c.if-eq.true) in
    sym (ap (option_map (λ s. s.makes)) (find_map (λ s. bytes_eq c.args.name.now s.name) subcommand_of c.args.rows.now ∙ ap (option_map subcommand_of) found))

pub loop-row-preserved : goal.loop-row-preserved
loop-row-preserved c =
    none_more (λ r. bytes_eq c.args.name.now r.name.now) c.args.rows.now c.loop-row.row-index _ c.loop-row-test.true c.loop-row.invariant (sym c.eq.ensures ∙ c.if-eq.false)

pub returns : goal.returns
returns c =
    let missing = rw (take_all c.loop-row.row-index c.args.rows.now (omega arith)) at c.loop-row.invariant in
    sym (ap (option_map (λ s. s.makes)) (find_map (λ s. bytes_eq c.args.name.now s.name) subcommand_of c.args.rows.now ∙ ap (option_map subcommand_of) missing))
