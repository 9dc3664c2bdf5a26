use Rattle.std.proofs.Common.{◌≡◌, length}
use Rattle.ctl_session.specs.Words.{words_of}
use Rattle.ctl_session.specs.WordsRead.{words_read}
use Rattle.ctl_session.proofs.words.words.Given as goal

abbrev pub invariant-bytes : goal.invariant-bytes
invariant-bytes l = words_read l.reading l.left ≡ words_of l.fn.text

abbrev pub decreases-bytes : goal.decreases-bytes
decreases-bytes l = length l.left
