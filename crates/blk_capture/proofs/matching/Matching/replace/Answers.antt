use Rattle.std.proofs.Common.{◌∙◌, sym}
use Rattle.std.proofs.lemmas.Result.{on_ok_weaker}
use Rattle.std.proofs.lemmas.List.{length-set}
use Rattle.blk_capture.proofs.Sounding.{aged_replaced}
use Rattle.blk_capture.proofs.matching.Matching.replace.Goals as goal

pub returns-clause-sound : goal.returns-clause-sound
returns-clause-sound g c =
    let qs = c.args.self.now.requests.items in
    on_ok_weaker c.change.result
    (λ changes. record {
      indexed = changes qs c.requires.sound.indexed c.requires.there;
      waiting = c.requires.sound.waiting;
      paired = c.requires.sound.paired ∙ sym (length-set qs c.args.number c.args.new);
      aged = aged_replaced qs c.args.number c.args.old c.args.new c.requires.sound.aged c.requires.there c.requires.aged;
    })
    c.change.ensures
