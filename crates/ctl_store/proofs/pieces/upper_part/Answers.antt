use Rattle.std.proofs.lemmas.List.{take_rest}
use Rattle.ctl_store.proofs.pieces.upper_part.Goals as goal

pub returns-clause-items : goal.returns-clause-items
returns-clause-items c = take_rest c.args.piece.now c.args.half
