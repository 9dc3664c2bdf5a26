use Rattle.std.proofs.Common.{rules, ◌≡◌, ◌∙◌, ◌∷◌, ap, sym}
use Rattle.ctl_filter.specs.Words.{onto_word, cluster}
use Rattle.ctl_filter.proofs.WordLemmas.{one-letter}
use Rattle.ctl_filter.proofs.cluster.read_cluster.Goals as goal

pub letters-preserved : goal.letters-preserved
letters-preserved c =
    let front = c.letters.pieces.items in
    let rest : c.letters.rest.now ≡ c.in-Some.letter.now ∷ c.in-Some.others.now = search (rules, c.in-Some.ensures.cases) in
    c.letters.invariant ∙ ap (λ bs. onto_word front (cluster c.args.words.now bs)) rest
    ∙ one-letter front c.in_ok-letter_piece.field-0 c.args.words.now c.in-Some.letter.now c.in-Some.others.now (search (rules, c.takes_argument.ensures, c.if-takes_argument.false)) c.in_ok-letter_piece.ensures
    ∙ ap (λ ps. onto_word ps (cluster c.args.words.now c.in-Some.others.now)) (sym c.in_ok-push_piece.ensures)
