-- What each step of the reader has read.
use Rattle.std.proofs.Common.{◌≡◌, ◌∙◌, ◌<◌, ◌-◌, ◌==◌, true, false, length, ℕ, Ok, Err, List, [], ◌∷◌, ◌++◌, refl, sym, ap, arith, append_assoc}
use Rattle.ctl_filter.specs.declared.token.Token.{Token}
use Rattle.ctl_filter.specs.declared.token.Token.TheVariants.{Bang, Open, Close, And, Or, Atom}
use Rattle.ctl_filter.specs.declared.token.Step.{Step}
use Rattle.ctl_filter.specs.declared.token.Step.TheVariants as step
use Rattle.ctl_filter.specs.Grammar.{spell_conj, spell_pred, NoMore, IsNoPred, most_nested}
use Rattle.ctl_filter.specs.Grammar.Neg.{atom_neg, bang, parens}
use Rattle.ctl_filter.specs.Grammar.Conj.{one_neg}
use Rattle.ctl_filter.specs.Grammar.Pred.{one_conj}
use Rattle.ctl_filter.specs.Filter.{Truth, Not}
use Rattle.ctl_filter.specs.Trees.{truth_of_neg, truth_of_conj, truth_of_pred, truth_if, truth_of}
use Rattle.ctl_filter.specs.Inside.Steps.{Makes, built, built_by}
use Rattle.ctl_filter.specs.Inside.Reads.{ReadsNeg, ReadsConj, ReadsPred}
use Rattle.std.proofs.lemmas.Bool.{eqb-true}
use Rattle.ctl_store.specs.declared.refusal.Refusal.TheVariants as refusal
use Rattle.ctl_filter.proofs.GrammarLemmas.{ends, no-whole}
use Rattle.ctl_filter.proofs.TreeLemmas.{tree-found, no-tree}
use Rattle.ctl_filter.proofs.FrontLemmas.{with_neg, spell-with_neg, nest-with_neg, truth-with_neg, with_conj, spell-with_conj, nest-with_conj, truth-with_conj, steps-append}

-- one more step after steps that make a truth, and after those of two
makes-then : (xs : List Step) (s : Step) (x y : Truth) → Makes xs x → ((stack : List Truth) → built_by s (x ∷ stack) ≡ y ∷ stack) → Makes (xs ++ s ∷ []) y
makes-then xs s x y p one stack = steps-append xs (s ∷ []) stack ∙ ap (built_by s) (p stack) ∙ one stack

makes-two : (xs ys : List Step) (s : Step) (x y z : Truth) → Makes xs x → Makes ys y
    → ((stack : List Truth) → built_by s (y ∷ x ∷ stack) ≡ z ∷ stack) → Makes (xs ++ (ys ++ s ∷ [])) z
makes-two xs ys s x y z p q one stack =
    steps-append xs (ys ++ s ∷ []) stack ∙ ap (built (ys ++ s ∷ [])) (p stack)
    ∙ steps-append ys (s ∷ []) (x ∷ stack) ∙ ap (built_by s) (q (x ∷ stack)) ∙ one stack

pub reads-atom : (depth n : ℕ) (tokens rest : List Token) (old new : List Step) → tokens ≡ Atom n ∷ rest → new ≡ old ++ step.Value n ∷ [] → ReadsNeg depth tokens rest old new
reads-atom depth n tokens rest old new is e =
    record { read = atom_neg n; steps = step.Value n ∷ []; spelled = is; nested = omega arith; added = e; makes = λ stack. refl }

pub reads-not : (depth : ℕ) (tokens inside rest : List Token) (old mid new : List Step) → tokens ≡ Bang ∷ inside → 0 < depth
    → ReadsNeg (depth - 1) inside rest old mid → new ≡ mid ++ step.Not ∷ [] → ReadsNeg depth tokens rest old new
reads-not depth tokens inside rest old mid new is some r e = record {
  read = bang r.read;
  steps = r.steps ++ step.Not ∷ [];
  spelled = is ∙ ap (λ l. Bang ∷ l) r.spelled;
  nested = omega (arith, r.nested);
  added = e ∙ ap (λ l. l ++ step.Not ∷ []) r.added ∙ append_assoc old r.steps (step.Not ∷ []);
  makes = makes-then r.steps step.Not (truth_of_neg r.read) (Not (truth_of_neg r.read)) r.makes (λ stack. refl);
}

pub reads-parens : (depth : ℕ) (tokens inside closing rest : List Token) (old new : List Step) → tokens ≡ Open ∷ inside → 0 < depth
    → ReadsPred (depth - 1) inside closing old new → closing ≡ Close ∷ rest → ReadsNeg depth tokens rest old new
reads-parens depth tokens inside closing rest old new is some r closes = record {
  read = parens r.read;
  steps = r.steps;
  spelled = is ∙ ap (λ l. Open ∷ l) (r.spelled ∙ ap (spell_pred r.read) closes);
  nested = omega (arith, r.nested);
  added = r.added;
  makes = r.makes;
}

pub reads-one : (depth : ℕ) (tokens rest : List Token) (old new : List Step) → ReadsNeg depth tokens rest old new → ReadsConj depth tokens rest old new
reads-one depth tokens rest old new r = record { read = one_neg r.read; steps = r.steps; spelled = r.spelled; nested = r.nested; added = r.added; makes = r.makes }

pub reads-and : (depth : ℕ) (tokens before more rest : List Token) (old mid late new : List Step) → ReadsConj depth tokens before old mid → before ≡ And ∷ more
    → ReadsNeg depth more rest mid late → new ≡ late ++ step.Both ∷ [] → ReadsConj depth tokens rest old new
reads-and depth tokens before more rest old mid late new r is s e = record {
  read = with_neg r.read s.read;
  steps = r.steps ++ (s.steps ++ step.Both ∷ []);
  spelled = r.spelled ∙ ap (spell_conj r.read) (is ∙ ap (λ l. And ∷ l) s.spelled) ∙ sym (spell-with_neg r.read s.read rest);
  nested = nest-with_neg r.read s.read depth r.nested s.nested;
  added = e ∙ ap (λ l. l ++ step.Both ∷ []) (s.added ∙ ap (λ l. l ++ s.steps) r.added) ∙ append_assoc (old ++ r.steps) s.steps (step.Both ∷ []) ∙ append_assoc old r.steps (s.steps ++ step.Both ∷ []);
  makes = makes-two r.steps s.steps step.Both (truth_of_conj r.read) (truth_of_neg s.read) (truth_of_conj (with_neg r.read s.read)) r.makes s.makes
      (λ stack. ap (λ x. x ∷ stack) (sym (truth-with_neg r.read s.read)));
}

pub reads-single : (depth : ℕ) (tokens rest : List Token) (old new : List Step) → ReadsConj depth tokens rest old new → ReadsPred depth tokens rest old new
reads-single depth tokens rest old new r = record { read = one_conj r.read; steps = r.steps; spelled = r.spelled; nested = r.nested; added = r.added; makes = r.makes }

pub reads-or : (depth : ℕ) (tokens before more rest : List Token) (old mid late new : List Step) → ReadsPred depth tokens before old mid → before ≡ Or ∷ more
    → ReadsConj depth more rest mid late → new ≡ late ++ step.Either ∷ [] → ReadsPred depth tokens rest old new
reads-or depth tokens before more rest old mid late new r is s e = record {
  read = with_conj r.read s.read;
  steps = r.steps ++ (s.steps ++ step.Either ∷ []);
  spelled = r.spelled ∙ ap (spell_pred r.read) (is ∙ ap (λ l. Or ∷ l) s.spelled) ∙ sym (spell-with_conj r.read s.read rest);
  nested = nest-with_conj r.read s.read depth r.nested s.nested;
  added = e ∙ ap (λ l. l ++ step.Either ∷ []) (s.added ∙ ap (λ l. l ++ s.steps) r.added) ∙ append_assoc (old ++ r.steps) s.steps (step.Either ∷ []) ∙ append_assoc old r.steps (s.steps ++ step.Either ∷ []);
  makes = makes-two r.steps s.steps step.Either (truth_of_pred r.read) (truth_of_conj s.read) (truth_of_pred (with_conj r.read s.read)) r.makes s.makes
      (λ stack. ap (λ x. x ∷ stack) (sym (truth-with_conj r.read s.read)));
}

-- ---- all words

none-left : (rest : List Token) → (length rest == 0) ≡ true → rest ≡ []
none-left [] e = refl
none-left (t ∷ rest) e = absurd (omega (arith, eqb-true (length (t ∷ rest)) 0 e))

some-left : (rest : List Token) → (length rest == 0) ≡ false → rest ≡ [] → ⊥
some-left [] e is = absurd (cc)
some-left (t ∷ rest) e is = absurd (cc)

pub truth-read : (tokens rest : List Token) (old new : List Step) → ReadsPred most_nested tokens rest old new → old ≡ [] → (length rest == 0) ≡ true
    → (truth : Truth) × (truth_of tokens ≡ Ok truth) × Makes new truth
truth-read tokens rest old new r none all = (
  truth_of_pred r.read,
  ap truth_if (tree-found tokens r.read (r.spelled ∙ ap (spell_pred r.read) (none-left rest all), r.nested)),
  λ stack. ap (λ steps. built steps stack) (r.added ∙ ap (λ front. front ++ r.steps) none) ∙ r.makes stack,
)

pub words-left : (tokens rest : List Token) (old new : List Step) → ReadsPred most_nested tokens rest old new → NoMore rest → (length rest == 0) ≡ false → truth_of tokens ≡ Err refusal.Filter
words-left tokens rest old new r more left = ap truth_if (no-tree tokens (λ p h. no-whole tokens rest r.read r.spelled more (some-left rest left) p h.0))

pub none-read : (tokens : List Token) → IsNoPred most_nested tokens → truth_of tokens ≡ Err refusal.Filter
none-read tokens none = ap truth_if (no-tree tokens (λ p h. none p [] ends h.1 h.0))
