use Rattle.std.proofs.Common.{◌≡◌, ◌+◌, ◌≤◌, ◌==◌, ℕ, List, [], take, drop}
use Rattle.ctl_stanza.specs.Lines.{max_line, lent_lines}
use Rattle.ctl_stanza.specs.Faults.{names_of, has_name, body_len, first_fault}
use Rattle.ctl_stanza.specs.Inside.HeldNames.{holds}
use Rattle.ctl_stanza.proofs.line_faults.first_fault.Given as goal

-- the names and the body are those of the lines so far, none of which is faulty
abbrev pub invariant-loop-i : goal.invariant-loop-i
invariant-loop-i l =
    let lines = lent_lines l.lines in
    record {
      names : (other : List ℕ) → holds l.seen.names other ≡ has_name (names_of (take l.i lines)) other;
      body : l.seen.body_len ≡ body_len (take l.i lines);
      within : l.seen.body_len ≤ max_line;
      none : l.seen.is_none ≡ (l.i == 0);
      told : first_fault l.repeats l.first_line [] lines ≡ first_fault l.repeats (l.first_line + l.i) (take l.i lines) (drop l.i lines);
    }
