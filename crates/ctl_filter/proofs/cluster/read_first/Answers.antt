use Rattle.ctl_filter.specs.Words.{word_pieces, pieces_from}
use Rattle.ctl_filter.proofs.WordLemmas.{word-read}
use Rattle.ctl_filter.proofs.cluster.read_first.Goals as goal

pub returns-clause-ok : goal.returns-clause-ok
returns-clause-ok c =
    let words = c.args.words.now in
    rw c.if-taken.false (word-read c.args.pieces.now.items c.read_word.new.pieces.items c.in_ok-next.next (word_pieces c.args.word.now words) (λ next. pieces_from next words) c.in_ok-next.ensures)
