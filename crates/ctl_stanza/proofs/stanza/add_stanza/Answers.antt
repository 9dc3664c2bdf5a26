use Rattle.std.proofs.Common.{◌≡◌, ◌∙◌, None, rules}
use Rattle.ctl_stanza.specs.Faults.{whole_fault}
use Rattle.ctl_stanza.specs.Inside.HeldFields.{shown_fields}
use Rattle.ctl_stanza.proofs.SoundLemmas.{no_fault_of, walk_of}
use Rattle.ctl_stanza.proofs.stanza.add_stanza.Goals as goal

pub stanza_of-requires-clause-no_fault : goal.stanza_of-requires-clause-no_fault
stanza_of-requires-clause-no_fault c =
    let whole : whole_fault c.args.head.kind c.args.head.line (shown_fields c.args.room.now.bytes.items c.args.room.now.fields.items) ≡ None = search rules in
    rw (c.replace-bytes.ensures.value ∙ c.read_offers.ensures.bytes) (no_fault_of c.args.head.kind c.args.head.line c.args.text_len c.args.room.now.bytes.items c.args.room.now.fields.items c.requires.read whole)

pub stanza_of-requires-clause-walk : goal.stanza_of-requires-clause-walk
stanza_of-requires-clause-walk c = rw (c.replace-bytes.ensures.value ∙ c.read_offers.ensures.bytes) (walk_of c.args.text_len c.args.room.now.bytes.items c.args.room.now.fields.items c.requires.read)
