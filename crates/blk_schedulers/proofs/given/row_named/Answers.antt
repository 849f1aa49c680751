use Rattle.std.proofs.Common.{◌∙◌, ap, sym, [], None, option_map}
use Rattle.std.specs.Prelude.{find}
use Rattle.std.specs.Str.{bytes_eq}
use Rattle.blk_schedulers.specs.Row.{RowOf, sched_row_of}
use Rattle.blk_schedulers.specs.declared.rows.SchedKind.TheVariants as kind
use Rattle.blk_schedulers.specs.declared.rows.SchedRow.{SchedRow}
use Rattle.blk_schedulers.proofs.Found.{found_next, none_more, find_map}
use Rattle.blk_schedulers.proofs.given.row_named.Goals as goal

-- the row where there is none
abbrev none : SchedRow
none = record { kind = kind.None; name = record { ref_ptr = (0, 0); now = [] }; flag = None; tried = 0; settings = record { ref_ptr = (0, 0); now = [] } }

pub returns-then-eq : goal.returns-then-eq
returns-then-eq c =
    let found = found_next (λ r. bytes_eq c.args.name.now r.name.now) c.rows-rows.result.now c.loop-i.i none c.loop-i-test.true c.loop-i.invariant.none (sym c.eq.ensures ∙ c.if-eq.true) in
    sym (ap (find (λ (r : RowOf). bytes_eq c.args.name.now r.name)) (sym c.rows-rows.ensures.rows) ∙ find_map (λ (r : RowOf). bytes_eq c.args.name.now r.name) sched_row_of c.rows-rows.result.now ∙ ap (option_map sched_row_of) found)

pub loop-i-preserved : goal.loop-i-preserved
loop-i-preserved c =
    record { none = none_more (λ r. bytes_eq c.args.name.now r.name.now) c.rows-rows.result.now c.loop-i.i none c.loop-i-test.true c.loop-i.invariant.none (sym c.eq.ensures ∙ c.if-eq.false) }
