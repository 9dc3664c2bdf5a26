use Rattle.std.proofs.Common.{◌≡◌, ◌++◌, take, drop}
use Rattle.ctl_session.specs.Script.{first_word}
use Rattle.ctl_session.specs.Words.{behind_word}
use Rattle.ctl_session.proofs.line_words.take_word.Given as goal

abbrev pub invariant-loop-byte : goal.invariant-loop-byte
invariant-loop-byte l = record {
  at : l.at ≡ l.byte-index;
  word : first_word l.text ≡ take l.at l.text ++ first_word (drop l.at l.text);
  behind : behind_word l.text ≡ behind_word (drop l.at l.text);
}
