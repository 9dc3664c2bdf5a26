use Rattle.std.proofs.Common.{◌∙◌, sym, ⊎_elim}
use Rattle.std.specs.Prelude.{is_some}
use Rattle.std.proofs.lemmas.Bool.{cases_Bool, false_from_ne_true}
use Rattle.bstr.proofs.lemmas.ByteLemmas.{Contains-by}
use Rattle.ctl_filter.specs.Substring.{contains}
use Rattle.ctl_filter.proofs.SubstringLemmas.{IsSubstring-from_Contains, Contains-from_IsSubstring, contains-iff}
use Rattle.ctl_filter.proofs.pattern_finder.place_in.Goals as goal

pub returns-clause-found : goal.returns-clause-found
returns-clause-found c =
    let p = c.args.finder.now in
    let t = c.args.text.now in
    let law = contains-iff p t in
    let found = Contains-by t p c.find.result c.find.ensures in
    ⊎_elim
    (λ yes. yes ∙ sym (law.1 (IsSubstring-from_Contains p t (found.0 yes))))
    (λ no. no ∙ sym (false_from_ne_true (contains p t) (λ h. let some = found.1 (Contains-from_IsSubstring p t (law.0 h)) in cc)))
    (cases_Bool (is_some c.find.result))
