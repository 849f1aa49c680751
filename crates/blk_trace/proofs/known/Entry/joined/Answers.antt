use Rattle.std.proofs.Common.{◌≡◌, ap}
use Rattle.blk_bio.specs.Extents.{extent_of}
use Rattle.blk_bio.proofs.Fitting.{from_extents, to_extents}
use Rattle.blk_trace.specs.declared.known.Entry.{Entry}
use Rattle.blk_trace.specs.Waits.{Entered, summary}
use Rattle.blk_trace.proofs.Joining.{joined_is}
use Rattle.blk_trace.proofs.known.Entry.joined.Goals as goal

-- the extent that is kept
extent_is : (old : Entry) (w : Entered) → old ≡ summary w → old.extent ≡ extent_of w.bios
extent_is old w is = ap (λ (x : Entry). x.extent) is

pub joined-new-requires : goal.joined-new-requires
joined-new-requires g c = c.in-Some.ensures.some.touches

pub returns-in_default-clause-none : goal.returns-in_default-clause-none
returns-in_default-clause-none g c = λ w is request side fits.
    c.in_default.ensures.none side (to_extents c.args.limits.now c.args.self.now.extent c.extent-newcomer.result w.bios c.args.request.now side (extent_is c.args.self.now w is) c.extent-newcomer.ensures.value request c.extent-newcomer.ensures.is_request fits)

pub returns-clause-some : goal.returns-clause-some
returns-clause-some g c = λ w is request.
    let n = c.args.request.now in
    let rn = c.extent-newcomer.ensures.is_request in
    let f = from_extents c.args.limits.now c.args.self.now.extent c.extent-newcomer.result w.bios n c.in-Some.side (extent_is c.args.self.now w is) c.extent-newcomer.ensures.value request rn c.in-Some.ensures.some in
    ((c.in-Some.side, f), joined_is c.args.limits.now c.args.self.now w n c.args.round c.in-Some.side c.joined-new.result c.extent-newcomer.result is request rn f c.extent-newcomer.ensures.value c.joined-new.ensures)
