-- The words of an expression are read in one way.
use Rattle.std.proofs.Common.{◌≡◌, ◌∙◌, ◌-◌, ℕ, List, [], ◌∷◌, sym, arith}
use Rattle.ctl_filter.specs.declared.token.Token.{Token}
use Rattle.ctl_filter.specs.declared.token.Token.TheVariants.{Bang, Open, Close, And, Or, Atom}
use Rattle.ctl_filter.specs.Grammar.{Neg, Conj, Pred, spell_neg, spell_conj, spell_pred, Lacks, NoMore, IsNoNeg, IsNoConj, IsNoPred}
use Rattle.ctl_filter.specs.Grammar.Neg.{atom_neg, bang, parens}
use Rattle.ctl_filter.specs.Grammar.Conj.{one_neg, and_then}
use Rattle.ctl_filter.specs.Grammar.Pred.{one_conj, or_else}

pub closes : (rest : List Token) → NoMore (Close ∷ rest)
closes rest = (λ more e. cc, λ more e. cc)

pub or-lacks : (rest : List Token) → Lacks And (Or ∷ rest)
or-lacks rest more e = cc

pub ends : NoMore []
ends = (λ more e. cc, λ more e. cc)

-- two spellings of the same words leave the same rest
mutual
  pub neg-once : (x y : Neg) (r s : List Token) → spell_neg x r ≡ spell_neg y s → r ≡ s
  neg-once (atom_neg n) (atom_neg m) r s e = cc
  neg-once (atom_neg n) (bang y) r s e = absurd (cc)
  neg-once (atom_neg n) (parens q) r s e = absurd (cc)
  neg-once (bang x) (atom_neg m) r s e = absurd (cc)
  neg-once (bang x) (bang y) r s e = neg-once x y r s (cc)
  neg-once (bang x) (parens q) r s e = absurd (cc)
  neg-once (parens p) (atom_neg m) r s e = absurd (cc)
  neg-once (parens p) (bang y) r s e = absurd (cc)
  neg-once (parens p) (parens q) r s e = let inner = pred-once p q (Close ∷ r) (Close ∷ s) (closes r) (closes s) (cc) in cc

  pub conj-once : (c d : Conj) (r s : List Token) → Lacks And r → Lacks And s → spell_conj c r ≡ spell_conj d s → r ≡ s
  conj-once (one_neg x) (one_neg y) r s a b e = neg-once x y r s e
  conj-once (one_neg x) (and_then y d) r s a b e = absurd (a _ (neg-once x y r (And ∷ spell_conj d s) e))
  conj-once (and_then x c) (one_neg y) r s a b e = absurd (b _ (sym (neg-once x y (And ∷ spell_conj c r) s e)))
  conj-once (and_then x c) (and_then y d) r s a b e =
      let inner = neg-once x y (And ∷ spell_conj c r) (And ∷ spell_conj d s) e in conj-once c d r s a b (cc)

  pub pred-once : (p q : Pred) (r s : List Token) → NoMore r → NoMore s → spell_pred p r ≡ spell_pred q s → r ≡ s
  pred-once (one_conj c) (one_conj d) r s a b e = conj-once c d r s a.0 b.0 e
  pred-once (one_conj c) (or_else d q) r s a b e = absurd (a.1 _ (conj-once c d r (Or ∷ spell_pred q s) a.0 (or-lacks _) e))
  pred-once (or_else c p) (one_conj d) r s a b e = absurd (b.1 _ (sym (conj-once c d (Or ∷ spell_pred p r) s (or-lacks _) b.0 e)))
  pred-once (or_else c p) (or_else d q) r s a b e =
      let inner = conj-once c d (Or ∷ spell_pred p r) (Or ∷ spell_pred q s) (or-lacks _) (or-lacks _) e in pred-once p q r s a b (cc)

-- where a reader of negs finds none
pub no-neg-flat : (tokens : List Token) → ((n : ℕ) → Lacks (Atom n) tokens) → IsNoNeg 0 tokens
no-neg-flat tokens none (atom_neg n) rest le e = none n rest e
no-neg-flat tokens none (bang x) rest le e = absurd (omega arith)
no-neg-flat tokens none (parens p) rest le e = absurd (omega arith)

pub no-neg-other : (depth : ℕ) (tokens : List Token) → ((n : ℕ) → Lacks (Atom n) tokens) → Lacks Bang tokens → Lacks Open tokens → IsNoNeg depth tokens
no-neg-other depth tokens none no_bang no_open (atom_neg n) rest le e = none n rest e
no-neg-other depth tokens none no_bang no_open (bang x) rest le e = no_bang _ e
no-neg-other depth tokens none no_bang no_open (parens p) rest le e = no_open _ e

pub no-neg-bang : (depth : ℕ) (inside tokens : List Token) → tokens ≡ Bang ∷ inside → IsNoNeg (depth - 1) inside → IsNoNeg depth tokens
no-neg-bang depth inside tokens is none (atom_neg n) rest le e = absurd (cc)
no-neg-bang depth inside tokens is none (bang x) rest le e = none x rest (omega arith) (cc)
no-neg-bang depth inside tokens is none (parens p) rest le e = absurd (cc)

pub no-neg-open : (depth : ℕ) (inside tokens : List Token) → tokens ≡ Open ∷ inside → IsNoPred (depth - 1) inside → IsNoNeg depth tokens
no-neg-open depth inside tokens is none (atom_neg n) rest le e = absurd (cc)
no-neg-open depth inside tokens is none (bang x) rest le e = absurd (cc)
no-neg-open depth inside tokens is none (parens p) rest le e = none p (Close ∷ rest) (closes rest) (omega arith) (cc)

pub no-neg-closed : (depth : ℕ) (inside tokens closing : List Token) (q : Pred) → tokens ≡ Open ∷ inside → inside ≡ spell_pred q closing → NoMore closing
    → Lacks Close closing → IsNoNeg depth tokens
no-neg-closed depth inside tokens closing q is spelled ends none (atom_neg n) rest le e = absurd (cc)
no-neg-closed depth inside tokens closing q is spelled ends none (bang x) rest le e = absurd (cc)
no-neg-closed depth inside tokens closing q is spelled ends none (parens p) rest le e =
    none rest (pred-once q p closing (Close ∷ rest) ends (closes rest) (cc))

-- of conjs
pub no-conj-first : (depth : ℕ) (tokens : List Token) → IsNoNeg depth tokens → IsNoConj depth tokens
no-conj-first depth tokens none (one_neg x) rest ends le e = none x rest le e
no-conj-first depth tokens none (and_then x c) rest ends le e = none x _ (omega arith) e

pub no-conj-more : (depth : ℕ) (tokens more : List Token) (y : Neg) → tokens ≡ spell_neg y (And ∷ more) → IsNoConj depth more → IsNoConj depth tokens
no-conj-more depth tokens more y is none (one_neg x) rest ends le e = ends more (neg-once x y rest (And ∷ more) (sym e ∙ is))
no-conj-more depth tokens more y is none (and_then x c) rest ends le e =
    let inner = neg-once x y (And ∷ spell_conj c rest) (And ∷ more) (sym e ∙ is) in none c rest ends (omega arith) (cc)

-- of preds
pub no-pred-first : (depth : ℕ) (tokens : List Token) → IsNoConj depth tokens → IsNoPred depth tokens
no-pred-first depth tokens none (one_conj c) rest ends le e = none c rest ends.0 le e
no-pred-first depth tokens none (or_else c p) rest ends le e = none c _ (or-lacks _) (omega arith) e

pub no-pred-more : (depth : ℕ) (tokens more : List Token) (d : Conj) → tokens ≡ spell_conj d (Or ∷ more) → IsNoPred depth more → IsNoPred depth tokens
no-pred-more depth tokens more d is none (one_conj c) rest ends le e = ends.1 more (conj-once c d rest (Or ∷ more) ends.0 (or-lacks more) (sym e ∙ is))
no-pred-more depth tokens more d is none (or_else c p) rest ends le e =
    let inner = conj-once c d (Or ∷ spell_pred p rest) (Or ∷ more) (or-lacks _) (or-lacks _) (sym e ∙ is) in none p rest ends (omega arith) (cc)

-- where words are left after a pred, they are no pred
pub no-whole : (tokens rest : List Token) (q : Pred) → tokens ≡ spell_pred q rest → NoMore rest → (rest ≡ [] → ⊥) → (p : Pred) → tokens ≡ spell_pred p [] → ⊥
no-whole tokens rest q is more left p e = left (pred-once q p rest [] more ends (sym is ∙ e))
