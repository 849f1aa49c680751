use Rattle.std.proofs.Common.{Option, Some, ap, sym, ◌∙◌}
use Rattle.std.specs.Prelude.{not}
use Rattle.clap.specs.Facts.{explicit_source}
use Rattle.clap.specs.Words.{found_of}
use Rattle.clap.specs.declared.parser.matches.ValueSource.{ValueSource}
use Rattle.blk_args.proofs.Sources.{source_by}
use Rattle.blk_args.proofs.words.is_default.Goals as goal

pub returns-in-Some-DefaultValue : goal.returns-in-Some-DefaultValue
returns-in-Some-DefaultValue c =
    let some = ap (λ (v : ValueSource). Some v) (sym c.in-Some-DefaultValue.field-0-is) in
    ap (λ (o : Option ValueSource). not (explicit_source o)) (some ∙ c.in-Some-DefaultValue.ensures ∙ source_by (found_of c.args.options.now) c.args.id.now)

pub returns-in-Some-CommandLine : goal.returns-in-Some-CommandLine
returns-in-Some-CommandLine c =
    let some = ap (λ (v : ValueSource). Some v) (sym c.in-Some-CommandLine.field-0-is) in
    ap (λ (o : Option ValueSource). not (explicit_source o)) (some ∙ c.in-Some-CommandLine.ensures ∙ source_by (found_of c.args.options.now) c.args.id.now)

pub returns-in-None : goal.returns-in-None
returns-in-None c = ap (λ (o : Option ValueSource). not (explicit_source o)) (c.in-None.ensures ∙ source_by (found_of c.args.options.now) c.args.id.now)
