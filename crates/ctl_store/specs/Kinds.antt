-- The stanzas of a list are of its kind.
use Rattle.std.specs.Prelude.{◌≡◌, ℕ, List}
use Rattle.std.specs.List.{AllByRecursion}
use Rattle.ctl_stanza.specs.declared.list_kind.ListKind.{ListKind}
use Rattle.ctl_stanza.specs.Content.{Content}
use Rattle.ctl_store.specs.State.{StanzaList}

-- each of the stanzas is of a kind
abbrev pub AreOfKind : ListKind → List Content → Type 0
AreOfKind kind stanzas = AllByRecursion (λ (x : Content). x.kind ≡ kind) stanzas

-- the stanzas of each list are of its kind
abbrev pub KeepKinds : List (List ℕ × StanzaList) → Type 0
KeepKinds lists = AllByRecursion (λ (l : List ℕ × StanzaList). AreOfKind l.1.kind l.1.stanzas) lists

-- the stanzas of a list that comes, which are all of its kind
pub record NewStanzas : Type 0 where
  pub kind : ListKind
  pub stanzas : List Content
