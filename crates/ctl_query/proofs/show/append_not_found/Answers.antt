use Rattle.ctl_query.proofs.show.append_not_found.Goals as goal

pub returns : goal.returns
returns c = rw c.text-version.ensures.text at c.in_ok-append_line.ensures
