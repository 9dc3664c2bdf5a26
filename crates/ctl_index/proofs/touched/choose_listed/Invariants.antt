use Rattle.std.proofs.Common.{◌≡◌, ℕ, List, if◌then◌else◌, length}
use Rattle.ctl_policy.specs.Chosen.{choice_in}
use Rattle.ctl_policy.specs.Priority.{world_of}
use Rattle.ctl_policy.specs.Touched.{is_one_of}
use Rattle.ctl_index.specs.Inside.TablesByName.{chosen_under}
use Rattle.ctl_index.specs.Inside.TablesChosen.{HasSameRows}
use Rattle.ctl_index.proofs.touched.choose_listed.Given as goal

abbrev pub invariant-names : goal.invariant-names
invariant-names l = record {
  rest : (q : List ℕ) → (if is_one_of q l.left then choice_in q (world_of l.fn.store) else chosen_under l.names.map q) ≡ (if is_one_of q l.fn.listed then choice_in q (world_of l.fn.store) else chosen_under l.fn.names.map q);
  stays : HasSameRows l.fn.names.map l.names.map;
}

abbrev pub decreases-names : goal.decreases-names
decreases-names l = length l.left
