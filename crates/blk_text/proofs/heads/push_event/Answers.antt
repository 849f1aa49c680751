use Rattle.blk_text.proofs.heads.push_event.Goals as goal

pub returns-in-Release-clause-text : goal.returns-in-Release-clause-text
returns-in-Release-clause-text g c = rw c.in-Release.is (rw c.bios.ensures.bios at c.push_group.ensures.text)

pub returns-in-Join-clause-text : goal.returns-in-Join-clause-text
returns-in-Join-clause-text g c = rw c.in-Join.is (rw c.bios-in-Join.ensures.bios at c.push_group-in-Join.ensures.text)

pub returns-in-Issue-clause-text : goal.returns-in-Issue-clause-text
returns-in-Issue-clause-text g c = rw c.in-Issue.is c.push-in-Issue.ensures.text

pub returns-in-Done-clause-text : goal.returns-in-Done-clause-text
returns-in-Done-clause-text g c = rw c.in-Done.is c.push-in-Done.ensures.text

pub returns-in-Back-clause-text : goal.returns-in-Back-clause-text
returns-in-Back-clause-text g c = rw c.in-Back.is c.push-in-Back.ensures.text

pub returns-in-Depth-clause-text : goal.returns-in-Depth-clause-text
returns-in-Depth-clause-text g c = rw c.in-Depth.is c.push-in-Depth.ensures.text
