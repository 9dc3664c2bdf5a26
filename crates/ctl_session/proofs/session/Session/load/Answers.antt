use Rattle.ctl_session.proofs.LoadingLemmas.{loaded_if_read}
use Rattle.ctl_session.proofs.session.Session.load.Goals as goal

pub returns-clause-loaded : goal.returns-clause-loaded
returns-clause-loaded c =
    loaded_if_read _ _ c.args.name.now c.args.kind c.args.text.now _ _ (c.read_stanzas-read.ensures.read, c.read_stanzas-read.ensures.memory) c.add_loaded.ensures.loaded
