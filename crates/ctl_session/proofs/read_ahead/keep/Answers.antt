use Rattle.std.proofs.Common.{arith, ◌≤◌, ◌+◌, ◌-◌, ◌≡◌, ◌∙◌, ◌++◌, ap, take, length}
use Rattle.ctl_stanza.specs.Lines.{max_line}
use Rattle.ctl_session.proofs.LineLemmas.{keeps_all, keeps_front}
use Rattle.ctl_session.proofs.read_ahead.keep.Goals as goal

pub returns-then-piece-room-clause-front : goal.returns-then-piece-room-clause-front
returns-then-piece-room-clause-front c =
    let fits : length c.args.line.now.items + length c.args.piece.now ≤ max_line = omega (arith, c.args.line.now.ok.0) in
    (rw c.unwrap.ensures at c.extend_from_slice.ensures.items) ∙ keeps_all max_line c.args.line.now.items c.args.piece.now fits

pub returns-else-piece-room-clause-front : goal.returns-else-piece-room-clause-front
returns-else-piece-room-clause-front c =
    let short : length c.args.line.now.items ≤ max_line = omega (arith, c.args.line.now.ok.0) in
    let room : c.len-room.result ≡ length c.args.line.now.items = omega (arith, c.args.line.now.ok.0) in
    (rw c.unwrap-else-piece-room.ensures at c.extend_from_slice-else-piece-room.ensures.items) ∙
    ap (λ n. c.args.line.now.items ++ take (max_line - n) c.args.piece.now) room ∙ keeps_front max_line c.args.line.now.items c.args.piece.now short
