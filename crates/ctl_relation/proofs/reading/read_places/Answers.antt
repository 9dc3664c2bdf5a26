use Rattle.ctl_relation.proofs.reading.read_places.Goals as goal

pub returns-clause-held : goal.returns-clause-held
returns-clause-held c = c.in_ok-places.ensures.held c.args.body.now c.in_ok-read_groups.ensures.read.held
