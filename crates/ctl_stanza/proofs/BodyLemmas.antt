-- The bytes of a body, counted line by line.
use Rattle.std.proofs.Common.{◌≡◌, ◌∙◌, ◌+◌, ◌++◌, ◌&&◌, ℕ, Bool, true, false, List, [], ◌∷◌, length, refl, sym, ap, arith}
use Rattle.std.proofs.lemmas.Bool.{cond-true}
use Rattle.std.proofs.lemmas.List.{length-append}
use Rattle.std.specs.List.{list_all}
use Rattle.ctl_relation.specs.Bytes.{newline}
use Rattle.ctl_stanza.specs.declared.line_kind.LineKind.{LineKind}
use Rattle.ctl_stanza.specs.declared.line_kind.LineKind.TheVariants.{Blank, Field, Continuation, Faulty}
use Rattle.ctl_stanza.specs.LineKind.{kind_of}
use Rattle.ctl_stanza.specs.Fields.{value_of, continues, continued}
use Rattle.ctl_stanza.specs.Faults.{body_step, body_len_from}
use Rattle.ctl_stanza.specs.Laws.{AreContinuations, BodiesAreCounted}

both-are : (a b : Bool) → (a && b) ≡ true → (a ≡ true) × (b ≡ true)
both-are true b e = (refl, e)
both-are false b e = absurd cc

is-continuation : (kind : LineKind) → continues kind ≡ true → kind ≡ Continuation
is-continuation Continuation e = refl
is-continuation Blank e = absurd cc
is-continuation (Field n) e = absurd cc
is-continuation Faulty e = absurd cc

-- the lines so far, and then the others
counted-behind : (len : ℕ) (front lines : List (List ℕ)) → body_len_from len (front ++ lines) ≡ body_len_from (body_len_from len front) lines
counted-behind len [] lines = refl
counted-behind len (line ∷ front) lines = counted-behind (body_step len line (kind_of line)) front lines

counted-more : (len : ℕ) (more : List (List ℕ)) → AreContinuations more → body_len_from len more ≡ len + length (continued more)
counted-more len [] all = omega arith
counted-more len (line ∷ more) all =
    let both = both-are (continues (kind_of line)) (list_all (λ l. continues (kind_of l)) more) all in
    let step : body_step len line (kind_of line) ≡ len + (1 + length line) = ap (body_step len line) (is-continuation (kind_of line) both.0) in
    let is : continued (line ∷ more) ≡ newline ∷ (line ++ continued more) = cond-true _ _ _ both.0 in
    let size : len + (1 + length line) + length (continued more) ≡ len + length (newline ∷ (line ++ continued more)) = omega (arith, length-append line (continued more)) in
    ap (λ n. body_len_from n more) step ∙ counted-more (len + (1 + length line)) more both.1 ∙ size ∙ ap (λ t. len + length t) (sym is)

pub counted : BodiesAreCounted
counted front line more n field all =
    counted-behind 0 front (line ∷ more)
    ∙ ap (λ kind. body_len_from (body_step (body_len_from 0 front) line kind) more) field
    ∙ counted-more (length (value_of n line)) more all
    ∙ sym (length-append (value_of n line) (continued more))
