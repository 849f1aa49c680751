use Rattle.blk_text.proofs.script.push_step.Goals as goal

pub returns-in-Bio : goal.returns-in-Bio
returns-in-Bio c = rw c.in-Bio.is c.push_bio.ensures.text

pub returns-in-Flush : goal.returns-in-Flush
returns-in-Flush c = rw c.in-Flush.is c.push.ensures.text

pub returns-in-Drain : goal.returns-in-Drain
returns-in-Drain c = rw c.in-Drain.is c.push-in-Drain.ensures.text

pub returns-in-Issue : goal.returns-in-Issue
returns-in-Issue c = rw c.in-Issue.is c.push-in-Issue.ensures.text

pub returns-in-Done : goal.returns-in-Done
returns-in-Done c = rw c.in-Done.is c.push-in-Done.ensures.text

pub returns-in-Back : goal.returns-in-Back
returns-in-Back c = rw c.in-Back.is c.push-in-Back.ensures.text

pub returns-in-Depth : goal.returns-in-Depth
returns-in-Depth c = rw c.in-Depth.is c.push-in-Depth.ensures.text

pub returns-in-Run : goal.returns-in-Run
returns-in-Run c = rw c.in-Run.is c.push-in-Run.ensures.text
