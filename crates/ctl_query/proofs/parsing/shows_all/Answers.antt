use Rattle.std.proofs.Common.{rules, ◌≡◌, ◌∙◌, ℕ, Bool, true, List, [], ◌∷◌, map, not, codes, refl, ap, Bor}
use Rattle.std.specs.List.{fold}
use Rattle.std.specs.Str.{bytes_eq}
use Rattle.ctl_query.specs.Query.{shows_all_after}
use Rattle.ctl_query.proofs.parsing.shows_all.Goals as goal

abbrev is_all : Bor (List ℕ) → Bool
is_all option = not (bytes_eq option.now (codes "--no-all-versions"))

-- of options that are gone through the last one counts
last-counts : (all : Bool) (options : List (Bor (List ℕ))) → fold (λ (_ : Bool) (option : Bor (List ℕ)). is_all option) all options ≡ shows_all_after all (map (λ option. option.now) options)
last-counts all [] = refl
last-counts all (option ∷ options) = last-counts (is_all option) options

pub returns : goal.returns
returns c =
    let run = c.fold.ensures.runs.0 in
    let folded : c.fold.result ≡ fold (λ (_ : Bool) (option : Bor (List ℕ)). is_all option) true run.items =
    c.fold.ensures.runs.3 (λ (_ : Bool) (option : Bor (List ℕ)). is_all option) (search rules) in
    let lent : map (λ option. option.now) run.items ≡ run.from.rest.now = (c.iter.ensures.runs run run.seen).4 (c.fold.ensures.runs.2) in
    let from : run.from.rest.now ≡ c.args.options.now = cc c.fold.ensures.runs.1 in
    folded ∙ last-counts true run.items ∙ ap (shows_all_after true) (lent ∙ from)
