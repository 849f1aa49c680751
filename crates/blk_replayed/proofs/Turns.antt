-- Rows of plans.
use Rattle.std.proofs.Common.{ℕ, ◌≡◌, ◌∙◌, ◌∷◌, [], List, ap, arith, refl, suc, length, get_or, ◌<◌, map}
use Rattle.std.proofs.lemmas.List.Elements.{All-cons, All-nil}
use Rattle.edd_commands.specs.declared.Command.{Command}
use Rattle.blk_capture.specs.declared.requests.CapturedRequest.{CapturedRequest}
use Rattle.blk_schedulers.specs.declared.plans.Plan.{Plan}
use Rattle.blk_replayed.specs.declared.row.Chooser.{Chooser}
use Rattle.blk_replayed.specs.declared.row.Chooser.TheVariants.{Replay}
use Rattle.blk_replayed.specs.declared.row.ReplayRow.{ReplayRow}
use Rattle.blk_replayed.specs.Rows.{IsReplayRow}
use Rattle.blk_replayed.specs.Replays.{IsPlanRow, AreRowsOf}

abbrev chooser_of : ReplayRow → Chooser
chooser_of r = r.chooser

-- a row for each of them
pub rows_of : (u : ℕ) (requests : List CapturedRequest) (commands : List Command) (plans : List Plan) (rows : List ReplayRow) → length rows ≡ length plans
    → ((i : ℕ) (r : ReplayRow) (d : Plan) → i < length plans → IsPlanRow u requests commands (get_or plans i d) (get_or rows i r)) → AreRowsOf u requests commands plans rows
rows_of u requests commands [] [] e are = (refl, All-nil (IsReplayRow u requests commands))
rows_of u requests commands [] (r ∷ rows) e are = absurd (omega (arith, e))
rows_of u requests commands (p ∷ plans) [] e are = absurd (omega (arith, e))
rows_of u requests commands (p ∷ plans) (r ∷ rows) e are =
    let first : IsPlanRow u requests commands p r = are 0 r p (omega arith) in
    let rest : AreRowsOf u requests commands plans rows = rows_of u requests commands plans rows (omega (arith, e)) (λ i r d h. are (suc i) r d (omega (arith, h))) in (
      ap (λ (x : Chooser). x ∷ map chooser_of rows) first.0 ∙ ap (λ (xs : List Chooser). Replay p ∷ xs) rest.0,
      All-cons (IsReplayRow u requests commands) r rows first.1 rest.1,
    )
