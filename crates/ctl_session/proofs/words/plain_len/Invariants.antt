use Rattle.std.proofs.Common.{take}
use Rattle.std.specs.List.{All}
use Rattle.ctl_session.specs.WordsRead.{IsPlain}
use Rattle.ctl_session.proofs.words.plain_len.Given as goal

abbrev pub invariant-loop-place : goal.invariant-loop-place
invariant-loop-place l = All IsPlain (take l.place l.text)
