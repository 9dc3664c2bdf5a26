use Rattle.ctl_query.proofs.show.append_all.Goals as goal

pub returns : goal.returns
returns c = rw (c.in_ok-append_rows.ensures, c.store.ensures, c.rows.ensures.rows)
