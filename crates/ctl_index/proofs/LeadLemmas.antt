-- Rows each of which has a lead, and their leads.
use Rattle.std.proofs.Common.{◌≡◌, List, [], ◌∷◌, Some, map, refl, ap}
use Rattle.std.specs.List.{AllByRecursion, filter_map}
use Rattle.std.proofs.lemmas.Bool.{false≢true}
use Rattle.ctl_store.specs.declared.stanza_key.StanzaKey.{StanzaKey}
use Rattle.ctl_policy.specs.Rows.{HasLead, lead_of}

-- all are told, and in their order
pub each_led : (rows : List (List StanzaKey)) → AllByRecursion HasLead rows → map Some (filter_map lead_of rows) ≡ map lead_of rows
each_led [] h = refl
each_led ([] ∷ rows) h = absurd (false≢true h.0)
each_led ((key ∷ keys) ∷ rows) h = ap (λ leads. Some key ∷ leads) (each_led rows h.1)
