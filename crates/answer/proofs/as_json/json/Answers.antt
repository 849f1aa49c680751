use Rattle.std.proofs.Common.{◌≡◌}
use Rattle.std.specs.List.{flat_map}
use Rattle.json.specs.Tree.{json_tokens}
use Rattle.answer.specs.Json.{part_members, object_told}
use Rattle.answer.proofs.Tokens.{told, members_written, parts_written}
use Rattle.answer.proofs.as_json.json.Goals as goal

pub returns : goal.returns
returns c =
    let parts = c.args.answer.now in
    let same : c.end_object.new.self ≡ json_tokens (object_told parts) =
    rw (c.in_ok-end_object.ensures, c.in_ok-write_parts.ensures, c.in_ok-begin_object.ensures, c.new-page.ensures, c.parts.ensures) (simp (members_written (flat_map part_members parts), parts_written parts)) in
    told c.finish.result (λ v. v.items) c.end_object.new.self (json_tokens (object_told parts)) same c.finish.ensures
