-- What is left of rows that are lent, newest first.
use Rattle.std.specs.Prelude.{ℕ, List, [], ◌∷◌, map, reverse, Option, None, Some, Vec, option_copied}
use Rattle.std.proofs.Common.{Global}
use Rattle.ctl_store.specs.declared.stanza_key.StanzaKey.{StanzaKey}
use Rattle.ctl_policy.specs.declared.newest.Left.{Left}
use Rattle.ctl_policy.specs.declared.newest.Left.TheVariants.{One, Many}

abbrev pub one_left : Option StanzaKey → List (List StanzaKey)
one_left None = []
one_left (Some key) = (key ∷ []) ∷ []

abbrev pub items_left : List (List ℕ × Vec StanzaKey Global) → List (List StanzaKey)
items_left es = reverse (map (λ (e : List ℕ × Vec StanzaKey Global). e.1.items) es)

abbrev pub keys_left : Left → List (List StanzaKey)
keys_left (One key) = one_left (option_copied key)
keys_left (Many es) = items_left es
