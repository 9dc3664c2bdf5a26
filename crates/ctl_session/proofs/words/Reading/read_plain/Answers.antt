use Rattle.std.proofs.Common.{◌≡◌, ◌∙◌, ◌++◌, sym, subst}
use Rattle.std.specs.List.{All}
use Rattle.std.specs.Option.{option_map}
use Rattle.std.proofs.lemmas.List.{take-append-drop}
use Rattle.std.proofs.lemmas.List.Elements.{recursion_from_All}
use Rattle.ctl_session.specs.Words.{words_from}
use Rattle.ctl_session.specs.WordsRead.{onto_read, IsPlain}
use Rattle.ctl_session.proofs.WordLemmas.{all_go_on}
use Rattle.ctl_session.proofs.words.Reading.read_plain.Goals as goal

pub returns-clause-read : goal.returns-clause-read
returns-clause-read c =
    let place = c.args.self.now.place in
    let words = c.args.self.now.words.items in
    let word = c.args.self.now.word.items in
    let plain = c.split_at.result.0.now in
    let left = c.split_at.result.1.now in
    let same : plain ++ left ≡ c.args.text.now = (λ i. c.split_at.ensures.front i ++ c.split_at.ensures.back i) ∙ take-append-drop c.plain_len.result c.args.text.now in
    (λ i. option_map (onto_read place words (c.in_ok-extend_from_slice.ensures.items i)) (words_from place left))
    ∙ all_go_on place words word plain left c.requires (recursion_from_All IsPlain plain (subst (All IsPlain) (sym c.split_at.ensures.front) c.plain_len.ensures.plain))
    ∙ (λ i. option_map (onto_read place words word) (words_from place (same i)))
