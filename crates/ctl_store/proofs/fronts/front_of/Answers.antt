use Rattle.std.proofs.Common.{◌∙◌, ◌+◌, ◌*◌, ◌-◌, arith, sym}
use Rattle.ctl_store.specs.Fronts.{front_len, packed}
use Rattle.ctl_store.proofs.FrontLemmas.{whole, made, fits, fits_word, first_most}
use Rattle.ctl_store.proofs.fronts.front_of.Goals as goal

pub overflow_mul-front : goal.overflow_mul-front
overflow_mul-front c = omega (arith, fits_word c.loop-place.place c.loop-place.front (omega arith) c.loop-place.invariant.bound)

pub overflow_add-front : goal.overflow_add-front
overflow_add-front c = omega (arith, fits_word c.loop-place.place c.loop-place.front (omega arith) c.loop-place.invariant.bound, c.first_of-digit.ensures.number, first_most c.loop-place.left.now)

pub loop-place-init : goal.loop-place-init
loop-place-init c = record { same = whole c.args.name.now; bound = omega arith }

pub loop-place-preserved : goal.loop-place-preserved
loop-place-preserved c = record {
  same =
      (λ j. packed (front_len - (c.loop-place.place + 1)) (c.loop-place.front * 40 + c.first_of-digit.ensures.number j) (c.first_of-digit.ensures.behind j))
      ∙ sym (made c.loop-place.place c.loop-place.front c.loop-place.left.now (omega arith)) ∙ c.loop-place.invariant.same;
  bound = omega (arith, fits c.loop-place.place c.loop-place.front c.loop-place.invariant.bound, c.first_of-digit.ensures.number, first_most c.loop-place.left.now);
}
