-- What is chosen of a name, and of all names.
use Rattle.std.specs.Prelude.{◌≡◌, ℕ, List, [], ◌∷◌, Option, None, Some, Vec}
use Rattle.std.proofs.Common.{Global}
use Rattle.std.specs.Ordering.{nat_cmp}
use Rattle.std.specs.Cmp.Lexicographic.{slice_cmp}
use Rattle.std.specs.BTreeMap.{BTreeMap, get_by}
use Rattle.ctl_policy.specs.declared.chosen.Chosen.{Chosen}
use Rattle.ctl_policy.specs.Rows.{Row, rows_named, newest_first}
use Rattle.ctl_policy.specs.Priority.{World}
use Rattle.ctl_policy.specs.Candidate.{installed_of, candidate_of}

-- what is chosen of a name
abbrev pub choice_in : List ℕ → World → Chosen
choice_in name w = record { installed = installed_of name w; candidate = candidate_of name w }

abbrev pub if_rows : List Row → Chosen → Option Chosen
if_rows [] choice = None
if_rows (row ∷ rows) choice = Some choice

-- what is to be kept of a name: what is chosen, and nothing where it has no row
abbrev pub kept_of : List ℕ → World → Option Chosen
kept_of name w = if_rows (newest_first (rows_named name w.lists)) (choice_in name w)

-- neither is chosen
abbrev pub no_choice : Chosen
no_choice = record { installed = None; candidate = None }

-- of each name there is what is chosen of it, also of those without a row
abbrev pub AreChosen : (List ℕ → Chosen) → World → Type 0
AreChosen chosen w = (name : List ℕ) → chosen name ≡ choice_in name w

-- ---- maps by name

-- the value at the key whose bytes are these
abbrev pub at_bytes : {X : Type 0} → BTreeMap (Vec ℕ Global) X → List ℕ → Option X
at_bytes m name = get_by (λ k. slice_cmp nat_cmp name k.items) m
