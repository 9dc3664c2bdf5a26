use Rattle.std.proofs.Common.{rules, ◌≡◌, ◌∙◌, ◌∷◌, ap}
use Rattle.ctl_filter.specs.Words.{onto_pieces, pieces_from}
use Rattle.ctl_filter.proofs.cluster.pieces_of.Goals as goal

pub words-preserved : goal.words-preserved
words-preserved c =
    let rest : c.words.rest.now ≡ c.in-Some.word.now ∷ c.in-Some.others.now = search (rules, c.in-Some.ensures.cases) in
    c.words.invariant ∙ ap (λ ws. onto_pieces c.words.pieces.items (pieces_from c.words.taken ws)) rest
    ∙ search (rules, c.in_ok-taken.ensures.ok, c.as_slice.ensures)
