-- The sources of a row, among the lists that a store shows.
use Rattle.std.proofs.Common.{◌≡◌, ℕ, cond, List, [], ◌∷◌, refl, ap}
use Rattle.ctl_store.specs.State.{shown_lists}
use Rattle.ctl_store.specs.Keys.{stanza_lists}
use Rattle.ctl_store.specs.declared.stanza_key.StanzaKey.{StanzaKey}
use Rattle.ctl_policy.specs.Rows.{Lists, is_source, sources_of}
use Rattle.std.specs.Map.{keys_of as names_of}
use Rattle.std.proofs.Common.{filter}
use Rattle.ctl_index.specs.RowsTold.{sources_among}

among : (keys : List StanzaKey) (held : Lists) (ls : Lists) → sources_among keys held (shown_lists (stanza_lists ls)) ≡ filter (λ (list : List ℕ). is_source list held keys) (names_of ls)
among keys held [] = refl
among keys held (l ∷ ls) = ap (λ names. cond (is_source l.0 held keys) (l.0 ∷ names) names) (among keys held ls)

pub sources_shown : (keys : List StanzaKey) (ls : Lists) → sources_among keys ls (shown_lists (stanza_lists ls)) ≡ sources_of keys ls
sources_shown keys ls = among keys ls ls
