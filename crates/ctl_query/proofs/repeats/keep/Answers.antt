use Rattle.ctl_query.proofs.repeats.keep.Goals as goal

pub returns : goal.returns
returns c = (c.in_ok-text.text, c.in_ok-insert.ensures.entries)
