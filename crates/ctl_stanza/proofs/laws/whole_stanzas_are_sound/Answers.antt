use Rattle.ctl_stanza.proofs.SoundLemmas.{sound}
use Rattle.ctl_stanza.proofs.laws.whole_stanzas_are_sound.Goals as goal

pub returns : goal.returns
returns c content whole = sound c.reading_is_the_grammar.ensures.found c.fields_bound_atoms.ensures.some c.fields_bound_atoms.ensures.bounded content whole
