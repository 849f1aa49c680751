use Rattle.std.proofs.Common.{◌≡◌, ◌+◌, ◌<◌, ◌%◌, ◌∷◌, ◌++◌, [], ℕ, List, Result, Ok, Err, arith, sym, subst}
use Rattle.std.specs.Prelude.{IfOk}
use Rattle.std.proofs.lemmas.Nat.{mod_below}
use Rattle.turns.specs.Inside.{IsThreadShare}
use Rattle.turns.specs.Turns.{HaveRun}
use Rattle.turns.proofs.Shares.{answer_at}
use Rattle.turns.proofs.Rows.{one_more, refused_at}
use Rattle.turns.proofs.walk.push_batch.Goals as goal

pub returns-in-Err-clause-stopped : goal.returns-in-Err-clause-stopped
returns-in-Err-clause-stopped g c =
    let f = c.args.run.now in
    let n : ℕ = c.args.from + c.loop-i.i in
    let A : Result g.row.X.Denot g.row.E.Denot → Type 0 = λ x. g.F.Fn.post f (n, tt) x in
    let first : ℕ = c.args.from + c.loop-i.i % c.min-threads.result in
    let share : IsThreadShare g.F.Fn f first c.args.until c.min-threads.result c.in-Ok-index.share.items =
    subst (λ x. IfOk x (λ one. IsThreadShare g.F.Fn f first c.args.until c.min-threads.result one.items)) c.in-Ok-index.is
    (subst (λ x. IfOk x (λ one. IsThreadShare g.F.Fn f first c.args.until c.min-threads.result one.items)) (sym c.index.ensures)
    (c.in-Ok.ensures.each (c.loop-i.i % c.min-threads.result) c.index.result.now (mod_below c.loop-i.i c.min-threads.result (omega arith)))) in
    let at : A c.index-in-loop-i.result.now =
    subst A (sym c.index-in-loop-i.ensures) (answer_at g.F.Fn f c.args.from c.min-threads.result c.args.until c.loop-i.i c.in-Ok-index.share.items share (omega arith) c.index-in-loop-i.result.now) in
    let err : A (Err c.in-Err.fault) = subst A c.in-Err.is at in
    refused_at g.F.Fn f c.args.until n c.loop-i.rows.items c.in-Err.fault (omega arith) c.loop-i.invariant.rows err

pub loop-i-preserved : goal.loop-i-preserved
loop-i-preserved g c =
    let f = c.args.run.now in
    let n : ℕ = c.args.from + c.loop-i.i in
    let A : Result g.row.X.Denot g.row.E.Denot → Type 0 = λ x. g.F.Fn.post f (n, tt) x in
    let first : ℕ = c.args.from + c.loop-i.i % c.min-threads.result in
    let share : IsThreadShare g.F.Fn f first c.args.until c.min-threads.result c.in-Ok-index.share.items =
    subst (λ x. IfOk x (λ one. IsThreadShare g.F.Fn f first c.args.until c.min-threads.result one.items)) c.in-Ok-index.is
    (subst (λ x. IfOk x (λ one. IsThreadShare g.F.Fn f first c.args.until c.min-threads.result one.items)) (sym c.index.ensures)
    (c.in-Ok.ensures.each (c.loop-i.i % c.min-threads.result) c.index.result.now (mod_below c.loop-i.i c.min-threads.result (omega arith)))) in
    let at : A c.index-in-loop-i.result.now =
    subst A (sym c.index-in-loop-i.ensures) (answer_at g.F.Fn f c.args.from c.min-threads.result c.args.until c.loop-i.i c.in-Ok-index.share.items share (omega arith) c.index-in-loop-i.result.now) in
    let good : A (Ok c.in-Ok-index-2.row) = subst A c.in-Ok-index-2.is at in
    let rows = c.loop-i.rows.items ++ c.in-Ok-index-2.row ∷ [] in
    let next : n + 1 ≡ c.args.from + (c.loop-i.i + 1) = omega arith in
    let more : HaveRun g.F.Fn f (n + 1) rows = one_more g.F.Fn f n c.loop-i.rows.items c.in-Ok-index-2.row c.loop-i.invariant.rows good in
    record { rows = rw c.in-Ok-push.ensures.items (subst (λ (m : ℕ). HaveRun g.F.Fn f m rows) next more) }
