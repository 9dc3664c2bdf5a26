use Rattle.std.proofs.Common.{◌≡◌, sym, ap, ◌∙◌, ℕ, List, ◌∷◌, take, drop}
use Rattle.ctl_relation.specs.Runs.{rest}
use Rattle.ctl_relation.specs.Bytes.{space, left_parenthesis}
use Rattle.ctl_relation.specs.Names.{is_name_byte}
use Rattle.ctl_relation.specs.Inside.PrintedAtoms.{ends_name}
use Rattle.ctl_relation.proofs.PrintedAtomLemmas.{bound_behind_name, byte_first, name_alone}
use Rattle.ctl_relation.proofs.printed.printed_atom.Goals as goal

pub returns-then-ends_name : goal.returns-then-ends_name
returns-then-ends_name c kind atom left read =
    let behind : rest is_name_byte c.args.text.now ≡ c.split_at.result.1.now = ap (λ n. drop n c.args.text.now) (sym c.run_len.ensures.len) ∙ sym c.split_at.ensures.back in
    c.split_at.ensures.front ∙ ap (λ n. take n c.args.text.now) c.run_len.ensures.len
    ∙ name_alone c.args.text.now (ap ends_name behind ∙ sym c.ends_name.ensures ∙ c.if-ends_name.true) kind atom left read

pub returns : goal.returns
returns c kind atom left read =
    let behind : rest is_name_byte c.args.text.now ≡ c.split_at.result.1.now = ap (λ n. drop n c.args.text.now) (sym c.run_len.ensures.len) ∙ sym c.split_at.ensures.back in
    let bound : rest is_name_byte c.args.text.now ≡ space ∷ left_parenthesis ∷ c.in_ok-behind.behind.now = behind ∙ byte_first space _ _ c.in_ok-bound.ensures.behind ∙ ap (λ (l : List ℕ). space ∷ l) (byte_first left_parenthesis _ _ c.in_ok-behind.ensures.behind) in
    c.split_at-2.ensures.front ∙ bound_behind_name c.args.text.now c.in_ok-behind.behind.now c.in_ok-left.left.now bound c.in_ok-left.ensures.printed kind atom left read
