use Rattle.std.proofs.Common.{◌∙◌, ap, sym, [], arith, option_map}
use Rattle.std.proofs.lemmas.List.{take_all}
use Rattle.std.specs.Prelude.{find}
use Rattle.std.specs.Str.{bytes_eq}
use Rattle.blk_schedulers.specs.Row.{SettingOf, setting_row_of}
use Rattle.blk_schedulers.specs.declared.rows.SettingRange.TheVariants as range
use Rattle.blk_schedulers.specs.declared.rows.SettingRow.{SettingRow}
use Rattle.blk_schedulers.proofs.Found.{found_next, none_more, find_map}
use Rattle.blk_schedulers.proofs.plans.setting_in.Goals as goal

-- the setting where there is none
abbrev none : SettingRow
none = record { name = record { ref_ptr = (0, 0); now = [] }; option = record { ref_ptr = (0, 0); now = [] }; help = record { ref_ptr = (0, 0); now = [] }; range = range.Short (record { ref_ptr = (0, 0); now = [] }) (record { default = record { ref_ptr = (0, 0); now = [] }; help = record { ref_ptr = (0, 0); now = [] } }) }

pub returns-then-eq : goal.returns-then-eq
returns-then-eq c =
    let found = found_next (λ s. bytes_eq c.args.option.now s.option.now) c.args.settings.now c.loop-i.i none c.loop-i-test.true c.loop-i.invariant.none (sym c.eq.ensures ∙ c.if-eq.true) in
    sym (find_map (λ (s : SettingOf). bytes_eq c.args.option.now s.option) setting_row_of c.args.settings.now ∙ ap (option_map setting_row_of) found)

pub loop-i-preserved : goal.loop-i-preserved
loop-i-preserved c =
    record { none = none_more (λ s. bytes_eq c.args.option.now s.option.now) c.args.settings.now c.loop-i.i none c.loop-i-test.true c.loop-i.invariant.none (sym c.eq.ensures ∙ c.if-eq.false) }

pub returns : goal.returns
returns c =
    let missing = rw (take_all c.loop-i.i c.args.settings.now (omega arith)) at c.loop-i.invariant.none in
    sym (find_map (λ (s : SettingOf). bytes_eq c.args.option.now s.option) setting_row_of c.args.settings.now ∙ ap (option_map setting_row_of) missing)
