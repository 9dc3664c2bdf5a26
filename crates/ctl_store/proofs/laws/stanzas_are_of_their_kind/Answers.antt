use Rattle.ctl_stanza.specs.Lines.{lines_of}
use Rattle.ctl_stanza.specs.Text.{pieces_of}
use Rattle.ctl_store.proofs.SoundLemmas.{pieces_kind}
use Rattle.ctl_store.proofs.laws.stanzas_are_of_their_kind.Goals as goal

pub returns : goal.returns
returns c kind first text stanzas e = pieces_kind kind (pieces_of first (lines_of text)) stanzas e
