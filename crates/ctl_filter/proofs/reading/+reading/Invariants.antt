use Rattle.std.proofs.Common.{◌+◌, ◌*◌, ◌<◌, length}
use Rattle.ctl_filter.specs.declared.token.Token.TheVariants.{And}
use Rattle.ctl_filter.specs.Grammar.{Lacks}
use Rattle.ctl_filter.specs.Inside.Reads.{ReadsConj, ReadsPred}
use Rattle.ctl_filter.proofs.reading.+reading.Given as goal

-- the words that are left, and which of the three calls the other
abbrev pub decreases-read_neg : goal.decreases-read_neg
decreases-read_neg l = 3 * length l.tokens.now

abbrev pub decreases-read_conj : goal.decreases-read_conj
decreases-read_conj l = 3 * length l.tokens.now + 1

abbrev pub decreases-read_pred : goal.decreases-read_pred
decreases-read_pred l = 3 * length l.tokens.now + 2

-- what was read of the conj so far
abbrev pub invariant-read_conj-negs : goal.invariant-read_conj-negs
invariant-read_conj-negs l = record {
  read : ReadsConj l.depth l.tokens l.rest l.fn.out.items l.out.items;
  shorter : length l.rest < length l.tokens;
}

abbrev pub decreases-read_conj-negs : goal.decreases-read_conj-negs
decreases-read_conj-negs l = length l.rest

-- what was read of the pred so far
abbrev pub invariant-read_pred-conjs : goal.invariant-read_pred-conjs
invariant-read_pred-conjs l = record {
  read : ReadsPred l.depth l.tokens l.rest l.fn.out.items l.out.items;
  ends : Lacks And l.rest;
  shorter : length l.rest < length l.tokens;
}

abbrev pub decreases-read_pred-conjs : goal.decreases-read_pred-conjs
decreases-read_pred-conjs l = length l.rest
