use Rattle.ctl_stanza.specs.Inside.HeldStanza.{content_in_front}
use Rattle.ctl_stanza.specs.Sound.{IsWhole}
use Rattle.ctl_stanza.proofs.stanza.stanza_of.Goals as goal

pub invariant_of-result : goal.invariant_of-result
invariant_of-result c =
    let content = content_in_front c.args.head.kind c.args.text_len c.args.bytes.items in
    let whole : IsWhole content = record { no_fault = c.requires.no_fault; small = c.requires.walk.small } in
    record {
      within = c.requires.within;
      walk = c.requires.walk;
      relations_are = c.requires.relations;
      offers_are = c.requires.offers;
      names_are = c.requires.names;
      whole = whole;
      sound = c.whole_stanzas_are_sound.ensures content whole;
    }
