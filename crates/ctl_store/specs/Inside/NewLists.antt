-- Lists that are made.
use Rattle.std.specs.Prelude.{ℕ, List, map}
use Rattle.ctl_store.specs.declared.held_list.NewList.{NewList}
use Rattle.ctl_store.specs.Edits.{Edit, AddList}

-- the edit that adds a list
abbrev pub adding : List ℕ → NewList → Edit
adding name list = AddList name list.kind list.class (map (λ stanza. stanza.value) list.stanzas.items)
