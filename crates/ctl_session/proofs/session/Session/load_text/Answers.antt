use Rattle.std.proofs.Common.{subst}
use Rattle.ctl_stanza.specs.Text.{read_text, Reads}
use Rattle.ctl_session.proofs.LoadingLemmas.{loaded_if_read}
use Rattle.ctl_session.proofs.session.Session.load_text.Goals as goal

pub returns-clause-loaded : goal.returns-clause-loaded
returns-clause-loaded c =
    let reads = subst (λ t. Reads c.read_stanzas-read.result (read_text c.args.kind 1 t)) c.deref.ensures.value c.read_stanzas-read.ensures.read in
    loaded_if_read _ _ c.args.name.now c.args.kind c.args.text.items _ _ (reads, c.read_stanzas-read.ensures.memory) c.add_loaded.ensures.loaded
