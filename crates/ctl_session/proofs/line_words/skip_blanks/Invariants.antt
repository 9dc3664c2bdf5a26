use Rattle.std.proofs.Common.{◌≡◌, ◌≤◌, length}
use Rattle.ctl_session.specs.Script.{without_blanks}
use Rattle.ctl_session.proofs.line_words.skip_blanks.Given as goal

abbrev pub invariant-loop-rest : goal.invariant-loop-rest
invariant-loop-rest l = record {
  same : without_blanks l.rest ≡ without_blanks l.text;
  within : length l.rest ≤ length l.text;
}

abbrev pub decreases-loop-rest : goal.decreases-loop-rest
decreases-loop-rest l = length l.rest
