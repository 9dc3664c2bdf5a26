use Rattle.ctl_index.proofs.OfferedLemmas.{chosen_offered}
use Rattle.ctl_index.proofs.choosing.chosen_names_are_offered.Goals as goal

pub returns : goal.returns
returns c = λ h t rising was chosen.
    chosen_offered
    (record { alike = c.rows_are_shown.ensures.alike; none = c.rows_are_shown.ensures.none; choice = c.names_with_rows_are_kept.ensures.choice })
    h t (c.rows_are_defined.ensures h t.names.map rising was.rows) chosen was
