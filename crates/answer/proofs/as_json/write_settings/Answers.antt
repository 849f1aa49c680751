use Rattle.std.proofs.Common.{map}
use Rattle.std.proofs.lemmas.List.{append_assoc}
use Rattle.answer.specs.Json.{setting_told}
use Rattle.answer.proofs.Tokens.{members_written, settings_told}
use Rattle.answer.proofs.as_json.write_settings.Goals as goal

pub returns : goal.returns
returns c =
    let all = c.args.settings.now in
    rw (c.in_ok-end_object.ensures, c.in_ok-write_listed.ensures, c.in_ok-begin_object.ensures, c.in_ok-key.ensures) (simp (members_written (map setting_told all), settings_told all, append_assoc))
