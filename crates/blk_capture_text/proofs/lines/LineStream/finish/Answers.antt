use Rattle.blk_capture_text.proofs.Passing.{goes_on, few_on, end_streamed, all_refused}
use Rattle.blk_capture_text.proofs.lines.LineStream.finish.Goals as goal

pub returns-in-Err : goal.returns-in-Err
returns-in-Err c = λ o text h. all_refused c.args.recorder c.args.device text c.in-Err.fault (c.in-Err.ensures o text h)

pub streamed_steps-requires-clause-work : goal.streamed_steps-requires-clause-work
streamed_steps-requires-clause-work c = (c.in-Ok.ensures c.requires.0 c.requires.1 c.requires.2).read.work

pub streamed_steps-requires-clause-behind : goal.streamed_steps-requires-clause-behind
streamed_steps-requires-clause-behind c =
    goes_on c.requires.0 c.args.recorder c.args.device c.requires.1 c.read_pending.new.self c.in-Ok-steps.steps.records.items (c.in-Ok.ensures c.requires.0 c.requires.1 c.requires.2) c.in-Ok-steps.ensures.ordered

pub streamed_steps-requires-clause-few : goal.streamed_steps-requires-clause-few
streamed_steps-requires-clause-few c =
    few_on c.requires.0 c.args.recorder c.args.device c.requires.1 c.read_pending.new.self c.in-Ok-steps.steps.records.items (c.in-Ok.ensures c.requires.0 c.requires.1 c.requires.2) c.in-Ok-steps.ensures.ordered

pub returns : goal.returns
returns c = λ o text h.
    end_streamed o c.args.recorder c.args.device text c.read_pending.new.self c.in-Ok-steps.steps c.streamed_steps.result (c.in-Ok.ensures o text h) c.in-Ok-steps.ensures.ordered c.in-Ok-steps.ensures.rest
    c.streamed_steps.ensures.printed c.streamed_steps.ensures.streamed c.streamed_steps.ensures.ready c.streamed_steps.ensures.err
