use Rattle.std.proofs.Common.{◌∙◌, length, ap, arith}
use Rattle.std.proofs.lemmas.Result.{err_from_is_err_and}
use Rattle.ctl_filter.specs.Grammar.{spell_conj, spell_pred}
use Rattle.ctl_filter.proofs.GrammarLemmas.{no-neg-flat, no-neg-other, no-neg-bang, no-neg-open, no-neg-closed, no-conj-first, no-pred-first}
use Rattle.ctl_filter.proofs.FrontLemmas.{no-conj-after, no-pred-after}
use Rattle.ctl_filter.proofs.ReadsLemmas.{reads-atom, reads-not, reads-parens, reads-one, reads-and, reads-single, reads-or}
use Rattle.ctl_filter.proofs.reading.+reading.Goals as goal

pub read_conj-returns-in_err-rest-clause-refused : goal.read_conj-returns-in_err-rest-clause-refused
read_conj-returns-in_err-rest-clause-refused t c =
    let p = err_from_is_err_and c.from_residual.result c.from_residual.ensures.1 in
    rw (p.1, p.2) (λ e. no-conj-first c.args.depth c.args.tokens.now (c.in_err-rest.ensures.refused e))

pub read_conj-returns-in_err-rest-2-clause-refused : goal.read_conj-returns-in_err-rest-2-clause-refused
read_conj-returns-in_err-rest-2-clause-refused t c =
    let p = err_from_is_err_and c.from_residual-in_err-rest-2.result c.from_residual-in_err-rest-2.ensures.1 in
    rw (p.1, p.2) (λ e. let r = c.negs.invariant.read in no-conj-after c.args.depth c.args.tokens.now c.in-Some.more.now r.read (r.spelled ∙ ap (spell_conj r.read) c.in-Some.ensures) (c.in_err-rest-2.ensures.refused e))

pub read_conj-negs-init : goal.read_conj-negs-init
read_conj-negs-init t c = record { read = reads-one c.args.depth c.args.tokens.now c.in_ok-rest.rest.now c.args.out.now.items c.read_neg.new.out.items c.in_ok-rest.ensures.read; shorter = c.in_ok-rest.ensures.shorter }

pub read_conj-negs-preserved : goal.read_conj-negs-preserved
read_conj-negs-preserved t c = record {
  read = reads-and c.args.depth c.args.tokens.now c.negs.rest.now c.in-Some.more.now c.in_ok-rest-2.rest.now c.args.out.now.items c.negs.out.items c.read_neg-in-Some.new.out.items c.push_step.new.out.items
      c.negs.invariant.read c.in-Some.ensures c.in_ok-rest-2.ensures.read c.in_ok-push_step.ensures.ok;
  shorter = omega (arith, c.negs.invariant.shorter, ap length c.in-Some.ensures, c.in_ok-rest-2.ensures.shorter);
}

pub read_pred-returns-in_err-rest-clause-refused : goal.read_pred-returns-in_err-rest-clause-refused
read_pred-returns-in_err-rest-clause-refused t c =
    let p = err_from_is_err_and c.from_residual.result c.from_residual.ensures.1 in
    rw (p.1, p.2) (λ e. no-pred-first c.args.depth c.args.tokens.now (c.in_err-rest.ensures.refused e))

pub read_pred-returns-in_err-rest-2-clause-refused : goal.read_pred-returns-in_err-rest-2-clause-refused
read_pred-returns-in_err-rest-2-clause-refused t c =
    let p = err_from_is_err_and c.from_residual-in_err-rest-2.result c.from_residual-in_err-rest-2.ensures.1 in
    rw (p.1, p.2) (λ e. let r = c.conjs.invariant.read in no-pred-after c.args.depth c.args.tokens.now c.in-Some.more.now r.read (r.spelled ∙ ap (spell_pred r.read) c.in-Some.ensures) (c.in_err-rest-2.ensures.refused e))

pub read_pred-conjs-init : goal.read_pred-conjs-init
read_pred-conjs-init t c = record { read = reads-single c.args.depth c.args.tokens.now c.in_ok-rest.rest.now c.args.out.now.items c.read_conj.new.out.items c.in_ok-rest.ensures.read; ends = c.in_ok-rest.ensures.ends; shorter = c.in_ok-rest.ensures.shorter }

pub read_pred-conjs-preserved : goal.read_pred-conjs-preserved
read_pred-conjs-preserved t c = record {
  read = reads-or c.args.depth c.args.tokens.now c.conjs.rest.now c.in-Some.more.now c.in_ok-rest-2.rest.now c.args.out.now.items c.conjs.out.items c.read_conj-in-Some.new.out.items c.push_step.new.out.items
      c.conjs.invariant.read c.in-Some.ensures c.in_ok-rest-2.ensures.read c.in_ok-push_step.ensures.ok;
  ends = c.in_ok-rest-2.ensures.ends;
  shorter = omega (arith, c.conjs.invariant.shorter, ap length c.in-Some.ensures, c.in_ok-rest-2.ensures.shorter);
}

pub read_neg-returns-in-Some-clause-read : goal.read_neg-returns-in-Some-clause-read
read_neg-returns-in-Some-clause-read t c = reads-atom c.args.depth c.in-Some.atom c.args.tokens.now c.in-Some.rest.now c.args.out.now.items c.push_step.new.out.items c.in-Some.ensures c.in_ok-push_step.ensures.ok

pub read_neg-returns-then-depth-eq0-clause-refused : goal.read_neg-returns-then-depth-eq0-clause-refused
read_neg-returns-then-depth-eq0-clause-refused t c e = rw c.if-depth-eq0.true (no-neg-flat c.args.tokens.now c.in_default.ensures)

pub read_neg-returns-in_err-rest-clause-refused : goal.read_neg-returns-in_err-rest-clause-refused
read_neg-returns-in_err-rest-clause-refused t c =
    let p = err_from_is_err_and c.from_residual-in_err-rest.result c.from_residual-in_err-rest.ensures.1 in
    rw (p.1, p.2) (λ e. no-neg-bang c.args.depth c.in-Some-after.inside.now c.args.tokens.now c.in-Some-after.ensures (c.in_err-rest.ensures.refused e))

pub read_neg-returns-in-Some-after-clause-read : goal.read_neg-returns-in-Some-after-clause-read
read_neg-returns-in-Some-after-clause-read t c =
    reads-not c.args.depth c.args.tokens.now c.in-Some-after.inside.now c.in_ok-rest.rest.now c.args.out.now.items c.read_neg.new.out.items c.push_step-in-Some-after.new.out.items
    c.in-Some-after.ensures (omega arith) c.in_ok-rest.ensures.read c.in_ok-push_step-2.ensures.ok

pub read_neg-returns-in_err-closing-clause-refused : goal.read_neg-returns-in_err-closing-clause-refused
read_neg-returns-in_err-closing-clause-refused t c =
    let p = err_from_is_err_and c.from_residual-in_err-closing.result c.from_residual-in_err-closing.ensures.1 in
    rw (p.1, p.2) (λ e. no-neg-open c.args.depth c.in-Some-after-2.inside.now c.args.tokens.now c.in-Some-after-2.ensures (c.in_err-closing.ensures.refused e))

pub read_neg-returns-in-Some-after-3-clause-read : goal.read_neg-returns-in-Some-after-3-clause-read
read_neg-returns-in-Some-after-3-clause-read t c =
    reads-parens c.args.depth c.args.tokens.now c.in-Some-after-2.inside.now c.in_ok-closing.closing.now c.in-Some-after-3.rest.now c.args.out.now.items c.read_pred.new.out.items
    c.in-Some-after-2.ensures (omega arith) c.in_ok-closing.ensures.read c.in-Some-after-3.ensures

pub read_neg-returns-in-None-clause-refused : goal.read_neg-returns-in-None-clause-refused
read_neg-returns-in-None-clause-refused t c e =
    let r = c.in_ok-closing.ensures.read in
    no-neg-closed c.args.depth c.in-Some-after-2.inside.now c.args.tokens.now c.in_ok-closing.closing.now r.read c.in-Some-after-2.ensures r.spelled c.in_ok-closing.ensures.ends c.in-None.ensures

pub read_neg-returns-clause-refused : goal.read_neg-returns-clause-refused
read_neg-returns-clause-refused t c e = no-neg-other c.args.depth c.args.tokens.now c.in_default.ensures c.in_default-after.ensures c.in_default-after-2.ensures
