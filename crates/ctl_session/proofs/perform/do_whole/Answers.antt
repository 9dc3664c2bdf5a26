use Rattle.ctl_session.specs.State.{cache_state}
use Rattle.ctl_session.specs.Replies.{outcome_from}
use Rattle.ctl_session.proofs.PerformLemmas.{request_may}
use Rattle.ctl_session.proofs.perform.do_whole.Goals as goal

pub returns-in-Ok-clause-may : goal.returns-in-Ok-clause-may
returns-in-Ok-clause-may c = λ last_line calm.
    request_may (cache_state c.args.cache.now) last_line c.args.command c.in-Ok.request
    (outcome_from c.do_request.result c.do_request.new.out.items (cache_state c.do_request.new.cache)) calm c.in-Ok.is c.do_request.ensures.may
