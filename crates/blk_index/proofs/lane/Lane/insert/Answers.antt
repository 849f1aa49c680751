use Rattle.std.proofs.Common.{◌∙◌, ap, List, Option, ℕ, Some}
use Rattle.blk_sched.specs.Meaning.{Waiting}
use Rattle.std.specs.Prelude.{◌++◌}
use Rattle.blk_index.specs.Inside.Lanes.{run_of, entries_of, at_id}
use Rattle.blk_index.proofs.Lanes.{all_passed, none_first, one_put, first_given, then_given, given_of, on_ok, on_err}
use Rattle.blk_index.proofs.lane.Lane.insert.Goals as goal

pub returns-then-pass_over-clause-ok : goal.returns-then-pass_over-clause-ok
returns-then-pass_over-clause-ok g c =
    let from = c.begin_at.new.self.from in
    let run = c.pass_over.new.run.items in
    let others = c.begin_at.new.self.others.entries in
    let after = c.push_back_reserved.new.self.items in
    let same = all_passed from c.begin_at.new.self.run.items run others (entries_of c.args.self.now) c.pass_over.ensures.same c.begin_at.ensures.same in
    given_of (run_of from run ++ others) (entries_of c.args.self.now) c.args.queued.id (Some c.args.queued) (at_id (run_of from after ++ others)) same
    (first_given (run_of from run) (run_of from after) others c.args.queued.id c.args.queued
    (λ k. ap (λ (os : List (Option Waiting)). at_id (run_of from os) k) c.push_back_reserved.ensures.items ∙ one_put from run c.args.queued.id c.args.queued c.if-pass_over.ensures.next k))

pub returns-clause-ok : goal.returns-clause-ok
returns-clause-ok g c =
    let from = c.begin_at.new.self.from in
    let run = c.pass_over.new.run.items in
    let es = run_of from run in
    let others = c.begin_at.new.self.others.entries in
    let after = c.put_other.new.others.entries in
    let same = all_passed from c.begin_at.new.self.run.items run others (entries_of c.args.self.now) c.pass_over.ensures.same c.begin_at.ensures.same in
    on_ok c.put_other.result (λ put.
    given_of (es ++ others) (entries_of c.args.self.now) c.args.queued.id (Some c.args.queued) (at_id (es ++ after)) same
    (then_given es others after c.args.queued.id c.args.queued (none_first es others c.args.queued.id (ap (λ l. at_id l c.args.queued.id) same ∙ c.requires)) put))
    c.put_other.ensures.ok

pub returns-clause-same : goal.returns-clause-same
returns-clause-same g c =
    let from = c.begin_at.new.self.from in
    let run = c.pass_over.new.run.items in
    let others = c.begin_at.new.self.others.entries in
    let same = all_passed from c.begin_at.new.self.run.items run others (entries_of c.args.self.now) c.pass_over.ensures.same c.begin_at.ensures.same in
    on_err c.put_other.result (λ put. ap (λ (l : List (ℕ × Waiting)). run_of from run ++ l) put ∙ same) c.put_other.ensures.same
