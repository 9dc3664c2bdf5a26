use Rattle.std.proofs.Common.{◌≡◌, ℕ, List, ◌++◌, length, take, drop, sym, ap, ◌∙◌, append_assoc, arith, Result, Ok, Err}
use Rattle.std.specs.Prelude.{codes, OnErr}
use Rattle.std.proofs.lemmas.List.{take-append-drop}
use Rattle.std.proofs.Math.Seq.{take-append_seam}
use Rattle.ctl_relation.proofs.group.append_others.Goals as goal

-- what stood at first stays at the front, where it stays there with what came behind it twice
front_kept : (old more now bar mid new : List ℕ) (n m : ℕ) → n ≡ length old → m ≡ length mid → now ≡ old ++ more → mid ≡ now ++ bar → take m new ≡ mid → take n new ≡ old
front_kept old more now bar mid new n m few many e f h =
    let behind : List ℕ = drop m new in
    let whole : new ≡ old ++ (more ++ (bar ++ behind)) = sym (take-append-drop m new) ∙ ap (λ (l : List ℕ). l ++ behind) (h ∙ f ∙ ap (λ (l : List ℕ). l ++ bar) e) ∙ simp append_assoc in
    ap (take n) whole ∙ ap (λ k. take k (old ++ (more ++ (bar ++ behind)))) few ∙ take-append_seam old (more ++ (bar ++ behind))

-- what holds anyway holds where there is an error
on_err : {A E : Type 0} (P : Type 0) → P → (r : Result A E) → OnErr r P
on_err P h (Ok x) = tt
on_err P h (Err e) = h

pub returns-in_err-append_atom-clause-err : goal.returns-in_err-append_atom-clause-err
returns-in_err-append_atom-clause-err c =
    on_err _ (front_kept c.args.out.now.items _ c.loop-place.out.items (codes " | ") c.extend_from_slice.new.self.items c.append_atom.new.out.items _ _ (omega arith) (omega arith)
    c.loop-place.invariant c.in_ok-extend_from_slice.ensures.items c.in_err-append_atom.ensures.err) c.from_residual-in_err-append_atom.result
