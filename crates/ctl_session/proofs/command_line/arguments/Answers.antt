use Rattle.std.proofs.Common.{◌≡◌, ◌∙◌, true, sym, subst, map}
use Rattle.std.proofs.lemmas.Bool.{false≢true}
use Rattle.clap.specs.Takes.{takes}
use Rattle.ctl_session.proofs.command_line.arguments.Goals as goal

-- clap refuses words that it takes for want of memory alone, and that was asked before
pub returns-in-Err-try_get_matches_from-clause-memory : goal.returns-in-Err-try_get_matches_from-clause-memory
returns-in-Err-try_get_matches_from-clause-memory c = λ taken.
    let kind = c.in-Err-try_get_matches_from.ensures.passes (subst (λ app. takes app (map (λ word. word.now) c.args.words.now) ≡ true) (sym c.in-Ok.ensures) taken) in
    let is_memory : c.eq.result ≡ true = rw (c.kind.ensures ∙ kind) at c.eq.ensures in
    absurd (false≢true (sym c.if-eq.false ∙ is_memory))
