-- How the rows of a name are read, stanza by stanza.
use Rattle.std.specs.Prelude.{◌≡◌, ℕ, List, [], ◌∷◌}
use Rattle.std.specs.FinMap as fin
use Rattle.ctl_store.specs.declared.stanza_key.StanzaKey.{StanzaKey}
use Rattle.ctl_store.specs.Entries.{Entry, entries_of}
use Rattle.ctl_policy.specs.Keys.{with_key, some_keys}
use Rattle.ctl_policy.specs.Rows.{Lists, Rows, keys_at, keys_with, is_in_row}

-- keys, once others were put in turn
abbrev pub with_keys : List StanzaKey → List StanzaKey → List StanzaKey
with_keys ks [] = ks
with_keys ks (x ∷ xs) = with_keys (with_key x ks) xs

-- with what is left to be read, the rows have the keys of each version of a name
pub record IsReadSoFar (name : List ℕ) (rows : Rows) (left : List Entry) (lists : Lists) : Type 0 where
  pub some : (v : List ℕ) → fin.get rows v ≡ some_keys (keys_at rows v)
  pub rest : (v : List ℕ) → with_keys (keys_at rows v) (keys_with (is_in_row name v) left) ≡ keys_with (is_in_row name v) (entries_of lists)
