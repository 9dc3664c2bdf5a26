-- What `depends` tells of a name, by the rows of the name.
use Rattle.std.proofs.Common.{◌≡◌, ℕ, true, false, cond, List, [], ◌∷◌, ◌++◌, map, codes, refl, ap}
use Rattle.std.specs.Option.{option_or}
use Rattle.ctl_store.specs.declared.stanza_key.StanzaKey.{StanzaKey}
use Rattle.ctl_policy.specs.Candidate.{candidate_of}
use Rattle.ctl_policy.specs.Priority.{World}
use Rattle.ctl_policy.specs.Rows.{Row, rows_named, newest_first, keys_of_row, is_any_row, lead_of}
use Rattle.ctl_filter.specs.Texts.{line}
use Rattle.ctl_query.specs.Depends.{depends_one, first_lead, lead_lines, lead_shown}
use Rattle.ctl_query.specs.Packages.{rows_of, stanza_under, told}
use Rattle.ctl_query.specs.declared.query.DependsOptions.{DependsOptions}

no_row : (rows : List Row) → map keys_of_row rows ≡ [] → is_any_row rows ≡ false
no_row [] none = refl
no_row (row ∷ rows) none = cc

some_row : (rows : List Row) (newest : List StanzaKey) (others : List (List StanzaKey)) → map keys_of_row rows ≡ newest ∷ others → is_any_row rows ≡ true
some_row [] newest others are = cc
some_row (row ∷ rows) newest others are = refl

module _ (world : World) (options : DependsOptions) (name : List ℕ) where
  -- of a name without a row
  pub told_without : rows_of world name ≡ [] → depends_one world options name ≡ line (codes "<" ∷ name ∷ codes ">" ∷ [])
  unfolding depends_one rows_of
  told_without none =
      ap (λ b. cond b (line (name ∷ []) ++ told (lead_lines world options) (lead_shown world name)) (line (codes "<" ∷ name ∷ codes ">" ∷ [])))
      (no_row (newest_first (rows_named name world.lists)) none)

  -- of one with rows, by the newest of them
  pub told_with : (newest : List StanzaKey) (others : List (List StanzaKey)) → rows_of world name ≡ newest ∷ others →
      depends_one world options name ≡ line (name ∷ []) ++ told (lead_lines world options) (stanza_under world (option_or (candidate_of name world) (lead_of newest)))
  unfolding depends_one rows_of
  told_with newest others are = λ i.
      cond (some_row (newest_first (rows_named name world.lists)) newest others are i)
      (line (name ∷ []) ++ told (lead_lines world options) (stanza_under world (option_or (candidate_of name world) (first_lead (are i)))))
      (line (codes "<" ∷ name ∷ codes ">" ∷ []))
