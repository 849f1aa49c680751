-- An answer in a form.
use Rattle.std.specs.Prelude.{ℕ, List}
use Rattle.answer.specs.declared.answer.Part.{Part}
use Rattle.answer.specs.Lines.{answer_lines}
use Rattle.answer.specs.Json.{json_of}
use Rattle.blk_schedulers.specs.declared.form.Form.{Form}
use Rattle.blk_schedulers.specs.declared.form.Form.TheVariants as form

abbrev pub written_in : Form → List Part → List ℕ
written_in form.Lines parts = answer_lines parts
written_in form.Json parts = json_of parts
