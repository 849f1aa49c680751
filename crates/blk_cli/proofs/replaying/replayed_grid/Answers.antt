use Rattle.std.proofs.Common.{map, string_bytes, refl, subst, sym}
use Rattle.blk_cli.specs.Importing.{IsGridText, IsMadeOf}
use Rattle.blk_cli.proofs.replaying.replayed_grid.Goals as goal

pub returns-in-Ok-grid_text-clause-answers : goal.returns-in-Ok-grid_text-clause-answers
returns-in-Ok-grid_text-clause-answers g c =
    subst (IsMadeOf (IsGridText (map string_bytes c.args.words.now) c.args.grid) c.args.wanted c.args.records.now) (sym c.beside.ensures)
    (record {
      requests = c.in-Ok.taken.requests.items;
      taken = c.in-Ok.ensures.taken;
      is_text = subst (λ l. IsGridText (map string_bytes c.args.words.now) c.args.grid l c.in-Ok-grid_text.text.items) c.as_slice.ensures.value c.in-Ok-grid_text.ensures.text;
      good = refl;
    })
