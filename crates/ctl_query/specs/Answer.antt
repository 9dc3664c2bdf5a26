-- The answer to a query.
use Rattle.std.specs.Prelude.{ℕ, List, [], ◌∷◌}
use Rattle.ctl_policy.specs.Priority.{World}
use Rattle.ctl_query.specs.Query.{Query, PackageNames, Show, Depends, ReverseDepends, Unmet, Policy, ShowPackage, Filter}
use Rattle.ctl_filter.specs.Grep.{filter_text}
use Rattle.ctl_query.specs.Packages.{stanzas_of}
use Rattle.ctl_query.specs.PackageNames.{package_names_text}
use Rattle.ctl_query.specs.Show.{show_text}
use Rattle.ctl_query.specs.Depends.{depends_text, depends_pairs}
use Rattle.ctl_query.specs.ReverseDepends.{reverse_depends_text}
use Rattle.ctl_query.specs.Unmet.{unmet_text}
use Rattle.ctl_query.specs.Policy.{policy_text, policy_of_all}
use Rattle.ctl_query.specs.ShowPackage.{show_package_text}

-- with names of each, without of all
abbrev pub policy_answer : World → List (List ℕ) → List ℕ
policy_answer world [] = policy_of_all world
policy_answer world (name ∷ names) = policy_text world (name ∷ names)

abbrev pub answer_text : World → Query → List ℕ
answer_text world (PackageNames all prefix) = package_names_text world all prefix
answer_text world (Show all asked) = show_text world all asked
answer_text world (Depends options names) = depends_text world options names
answer_text world (ReverseDepends installed names) = reverse_depends_text world installed names
answer_text world (Unmet important) = unmet_text world important
answer_text world (Policy names) = policy_answer world names
answer_text world (ShowPackage names) = show_package_text world names
answer_text world (Filter filter) = filter_text (stanzas_of world) filter

-- how many tests an answer may make
abbrev pub answer_pairs : World → Query → ℕ
answer_pairs world (PackageNames all prefix) = 0
answer_pairs world (Show all asked) = 0
answer_pairs world (Depends options names) = depends_pairs world options names
answer_pairs world (ReverseDepends installed names) = 0
answer_pairs world (Unmet important) = 0
answer_pairs world (Policy names) = 0
answer_pairs world (ShowPackage names) = 0
answer_pairs world (Filter filter) = 0
