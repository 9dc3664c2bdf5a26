use Rattle.std.proofs.Common.{◌≡◌, nat_lt, true, false, Bool, refl, arith}
use Rattle.std.specs.Bool.{OnTrue}
use Rattle.std.proofs.lemmas.Bool.{ltb-true}
use Rattle.ctl_store.proofs.PiecesLemmas.{length_read}
use Rattle.ctl_store.proofs.pieces.is_spot.Goals as goal

on_true : (b : Bool) {P : Type 0} → (b ≡ true → P) → OnTrue b P
on_true true f = f refl
on_true false f = tt

pub returns-then-spot-pieces : goal.returns-then-spot-pieces
returns-then-spot-pieces g c =
    let read = length_read c.args.pieces.now c.args.spot.piece c.index-pieces-spot.result c.if-spot-pieces.true c.index-pieces-spot.is in
    on_true (nat_lt c.args.spot.at c.len.result) (λ e. omega (arith, read, c.len.ensures, ltb-true c.args.spot.at c.len.result e))
