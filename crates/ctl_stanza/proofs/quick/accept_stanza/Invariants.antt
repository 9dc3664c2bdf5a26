use Rattle.std.proofs.Common.{◌≡◌, ◌≤◌, ◌+◌, ◌==◌, ℕ, List, length, take}
use Rattle.ctl_stanza.specs.Lines.{max_line, lines_of}
use Rattle.ctl_stanza.specs.Faults.{names_of, has_name, body_len}
use Rattle.ctl_stanza.specs.Inside.HeldNames.{holds}
use Rattle.ctl_stanza.proofs.QuickLemmas.{Reached}
use Rattle.ctl_stanza.proofs.quick.accept_stanza.Given as goal

-- the lines so far are accepted, and those of what is left come behind them
abbrev pub invariant-lines : goal.invariant-lines
invariant-lines l =
    let lines = lines_of l.text in
    record {
      reached : Reached l.text l.left l.count l.fields.items;
      within : l.count + length l.left ≤ length l.text;
      names : (other : List ℕ) → holds l.seen.names other ≡ has_name (names_of (take l.count lines)) other;
      body : l.seen.body_len ≡ body_len (take l.count lines);
      short : l.seen.body_len ≤ max_line;
      none : l.seen.is_none ≡ (l.count == 0);
    }

abbrev pub decreases-lines : goal.decreases-lines
decreases-lines l = length l.left
