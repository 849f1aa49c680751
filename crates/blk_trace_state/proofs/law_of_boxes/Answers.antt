use Rattle.blk_trace_state.proofs.Reports.{boxes_are, kept_are}
use Rattle.blk_trace_state.proofs.law_of_boxes.Goals as goal

pub returns : goal.returns
returns c = record { issues = boxes_are; services = kept_are }
