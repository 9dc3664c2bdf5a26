-- What is held, as it stands in a store that was built anew.
use Rattle.std.specs.Prelude.{ℕ, suc, List, [], ◌∷◌}
use Rattle.ctl_store.specs.State.{StanzaList}
use Rattle.ctl_store.specs.Edits.{AddList}
use Rattle.ctl_store.specs.Keys.{Keyed, keyed_after, list_of_stanzas}
use Rattle.ctl_policy.specs.Rows.{Lists}
use Rattle.ctl_policy.specs.Priority.{World}
use Rattle.ctl_query.specs.Holdings.{Holdings}
use Rattle.ctl_query.specs.Query.{Query}
use Rattle.ctl_query.specs.Answer.{answer_text}

-- the lists, added one after another: each takes the next serial, and its stanzas theirs from 0 on
abbrev pub lists_anew : ℕ → List (List ℕ × StanzaList) → Lists
lists_anew serial [] = []
lists_anew serial (l ∷ ls) = (l.0, list_of_stanzas serial l.1.kind l.1.class l.1.stanzas) ∷ lists_anew (suc serial) ls

abbrev pub world_anew : Holdings → World
world_anew held = record { lists = lists_anew 0 held.lists; marks = held.marks; pins = held.pins; target = held.target }

-- no list yet
abbrev pub no_lists : Keyed
no_lists = record { lists = []; next_list = 0 }

-- the lists with one that an edit adds
abbrev pub added : Keyed → List ℕ × StanzaList → Keyed
added keyed l = keyed_after keyed (AddList l.0 l.1.kind l.1.class l.1.stanzas)

-- the answer of a store that was built anew
unfoldable pub answer_anew : Holdings → Query → List ℕ
answer_anew held query = answer_text (world_anew held) query
