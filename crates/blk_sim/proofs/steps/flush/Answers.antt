use Rattle.std.proofs.Common.{arith, ◌≡◌, ◌<◌, length, refl, ap}
use Rattle.std.specs.Prelude.{slice_get, Some}
use Rattle.std.proofs.lemmas.Option.{slice_get_read}
use Rattle.std.proofs.lemmas.Result.{err_from_is_err_and}
use Rattle.std.proofs.Math.ListN.{set}
use Rattle.blk_sim.proofs.steps.flush.Goals as goal

pub returns-clause-flushed : goal.returns-clause-flushed
returns-clause-flushed g c =
    let lt : c.args.submitter < length c.args.plugs.now.items = c.requires.submitter in
    let at : slice_get c.args.plugs.now.items c.args.submitter ≡ Some c.index_mut.result.now = slice_get_read c.args.plugs.now.items (length c.args.plugs.now.items) c.args.submitter c.index_mut.result.now refl lt c.index_mut.ensures.value in
    let lt2 : c.args.submitter < length c.args.queues.now.items = let counts = c.requires.counts in omega (arith, lt, counts) in
    let at2 : slice_get c.args.queues.now.items c.args.submitter ≡ Some c.index_mut-2.result.now = slice_get_read c.args.queues.now.items (length c.args.queues.now.items) c.args.submitter c.index_mut-2.result.now refl lt2 c.index_mut-2.ensures.value in
    record {
      own = c.index_mut.result.now;
      to = c.index_mut-2.result.now;
      own_stands = at;
      to_stands = at2;
      room = c.in_ok-flush_plug.ensures.room;
      plugs_are = ap (set c.args.plugs.now.items c.args.submitter) c.in_ok-flush_plug.ensures.emptied;
      queues_are = ap (set c.args.queues.now.items c.args.submitter) c.in_ok-flush_plug.ensures.moved;
    }

pub flush_plug-requires-clause-limits : goal.flush_plug-requires-clause-limits
flush_plug-requires-clause-limits g c =
    let lt : c.args.submitter < length c.args.plugs.now.items = c.requires.submitter in
    let at : slice_get c.args.plugs.now.items c.args.submitter ≡ Some c.index_mut.result.now = slice_get_read c.args.plugs.now.items (length c.args.plugs.now.items) c.args.submitter c.index_mut.result.now refl lt c.index_mut.ensures.value in
    let lt2 : c.args.submitter < length c.args.queues.now.items = let counts = c.requires.counts in omega (arith, lt, counts) in
    let at2 : slice_get c.args.queues.now.items c.args.submitter ≡ Some c.index_mut-2.result.now = slice_get_read c.args.queues.now.items (length c.args.queues.now.items) c.args.submitter c.index_mut-2.result.now refl lt2 c.index_mut-2.ensures.value in
    c.requires.limits c.args.submitter c.index_mut.result.now c.index_mut-2.result.now at at2

pub flush_plug-requires-clause-few : goal.flush_plug-requires-clause-few
flush_plug-requires-clause-few g c =
    let lt : c.args.submitter < length c.args.plugs.now.items = c.requires.submitter in
    let at : slice_get c.args.plugs.now.items c.args.submitter ≡ Some c.index_mut.result.now = slice_get_read c.args.plugs.now.items (length c.args.plugs.now.items) c.args.submitter c.index_mut.result.now refl lt c.index_mut.ensures.value in
    let lt2 : c.args.submitter < length c.args.queues.now.items = let counts = c.requires.counts in omega (arith, lt, counts) in
    let at2 : slice_get c.args.queues.now.items c.args.submitter ≡ Some c.index_mut-2.result.now = slice_get_read c.args.queues.now.items (length c.args.queues.now.items) c.args.submitter c.index_mut-2.result.now refl lt2 c.index_mut-2.ensures.value in
    c.requires.few c.args.submitter c.index_mut.result.now c.index_mut-2.result.now at at2

pub returns-in_err-flush_plug-clause-refused : goal.returns-in_err-flush_plug-clause-refused
returns-in_err-flush_plug-clause-refused g c =
    let lt : c.args.submitter < length c.args.plugs.now.items = c.requires.submitter in
    let at : slice_get c.args.plugs.now.items c.args.submitter ≡ Some c.index_mut.result.now = slice_get_read c.args.plugs.now.items (length c.args.plugs.now.items) c.args.submitter c.index_mut.result.now refl lt c.index_mut.ensures.value in
    let lt2 : c.args.submitter < length c.args.queues.now.items = let counts = c.requires.counts in omega (arith, lt, counts) in
    let at2 : slice_get c.args.queues.now.items c.args.submitter ≡ Some c.index_mut-2.result.now = slice_get_read c.args.queues.now.items (length c.args.queues.now.items) c.args.submitter c.index_mut-2.result.now refl lt2 c.index_mut-2.ensures.value in
    let p = err_from_is_err_and c.from_residual.result c.from_residual.ensures.1 in
    rw (p.1, p.2) (c.index_mut.result.now, c.index_mut-2.result.now, at, at2, c.in_err-flush_plug.ensures.refused.0, c.in_err-flush_plug.ensures.refused.1)
