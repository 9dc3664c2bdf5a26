-- What the rows of a name, their priorities and its candidate are, in words that tell no walk.
use Rattle.std.specs.Prelude.{◌≡◌, ◌≤ℤ◌, ◌<ℤ◌, ℕ, ℤ, Bool, true, false, List, [], ◌∷◌, ◌++◌, Some}
use Rattle.std.specs.List.{All, AllByRecursion, Contains}
use Rattle.std.specs.declared.cmp.Ordering.TheVariants.{Less}
use Rattle.ctl_relation.specs.Version.{triple_cmp}
use Rattle.ctl_store.specs.declared.stanza_key.StanzaKey.{StanzaKey}
use Rattle.ctl_policy.specs.Rows.{Row, lead_of}
use Rattle.ctl_policy.specs.Priority.{World, row_priority}
use Rattle.ctl_policy.specs.Candidate.{installed_version, may_be_taken}
use Rattle.ctl_policy.specs.Laws.{rows_in}

-- each row is newer than all those behind it
abbrev pub AreFalling : List Row → Type 0
AreFalling [] = Unit {0}
AreFalling (row ∷ rows) = AllByRecursion (λ (other : Row). triple_cmp other.0 row.0 ≡ Less) rows × AreFalling rows

-- a number is one of some, and none of them is greater
pub record IsGreatest (p : ℤ) (ps : List ℤ) : Type 0 where
  pub bound : All (λ q. q ≤ℤ p) ps
  pub one : Contains ps p

-- whether a row of a name may be taken, by its priority and the row that is installed
abbrev pub may_take : List ℕ → World → Row → Bool
may_take name w row = may_be_taken (row_priority name w row.1) row.0 (installed_version name w)

-- a row that may be taken has a priority below that of another, or at most that
abbrev pub IsBelow : List ℕ → World → Row → Row → Type 0
IsBelow name w row other = may_take name w other ≡ true → row_priority name w other.1 <ℤ row_priority name w row.1

abbrev pub IsAtMost : List ℕ → World → Row → Row → Type 0
IsAtMost name w row other = may_take name w other ≡ true → row_priority name w other.1 ≤ℤ row_priority name w row.1

-- A row of a name may be taken. Of those that may be, no newer one has a priority as great, and no older one a greater one.
pub record IsBest (name : List ℕ) (w : World) (row : Row) : Type 0 where
  pub newer : List Row
  pub older : List Row
  pub rows : rows_in name w ≡ newer ++ row ∷ older
  pub taken : may_take name w row ≡ true
  pub below : AllByRecursion (IsBelow name w row) newer
  pub at_most : AllByRecursion (IsAtMost name w row) older

-- a stanza leads such a row
pub record LeadsBest (name : List ℕ) (w : World) (lead : StanzaKey) : Type 0 where
  pub row : Row
  pub lead_is : lead_of row.1 ≡ Some lead
  pub best : IsBest name w row

-- no row of a name may be taken
abbrev pub MayTakeNone : List ℕ → World → Type 0
MayTakeNone name w = AllByRecursion (λ (row : Row). may_take name w row ≡ false) (rows_in name w)
