use Rattle.std.proofs.Common.{arith, ◌∙◌, ◌++◌, ◌+◌, ◌<◌, ◌≤◌, ◌^◌}
use Rattle.ctl_session.specs.LineReading.{newline_if}
use Rattle.ctl_session.proofs.LineLemmas.{piece_counts, takes_ahead, reads_piece, ends_by_newline, ends_at_end, stops_in_read, stops_unallowed, stops_long}
use Rattle.ctl_session.proofs.lines.next_line.Goals as goal

pub returns-in-Ok-false-2-clause-ok : goal.returns-in-Ok-false-2-clause-ok
returns-in-Ok-false-2-clause-ok g c =
    let line = c.pieces.invariant.line in
    (line.0, ends_at_end _ _ _ _ _ line.0 line.1 c.pieces.invariant.fits c.in-Ok-false.ensures.kept (c.in-Ok-false.ensures.end c.in-Ok-false.field-0-test) c.if-count-eq0.false)

pub returns-in-Err-clause-fault : goal.returns-in-Err-clause-fault
returns-in-Err-clause-fault g c =
    let line = c.pieces.invariant.line in
    stops_in_read _ _ _ _ _ line.0 c.args.allowed line.1 c.pieces.invariant.fits c.pieces.invariant.allowed c.in-Err.ensures.kept

pub returns-then-not-allowed-clause-fault : goal.returns-then-not-allowed-clause-fault
returns-then-not-allowed-clause-fault g c =
    let line = c.pieces.invariant.line in
    let piece = c.take_piece-piece.ensures.piece in
    let took = takes_ahead (g.R.Source.remaining c.fill.new.reader) c.fill.new.self c.take_piece-piece.new.self (piece.piece ++ newline_if c.take_piece-piece.result.newline) piece.split in
    stops_unallowed _ _ _ _ _ _ _ _ c.pieces.count c.take_piece-piece.result line.0 c.args.allowed line.1 c.in-Ok-true.ensures.kept piece took (c.in-Ok-true.ensures.some c.in-Ok-true.field-0-test) c.if-not-allowed.true

pub returns-then-piece-count-clause-fault : goal.returns-then-piece-count-clause-fault
returns-then-piece-count-clause-fault g c =
    let line = c.pieces.invariant.line in
    let piece = c.take_piece-piece.ensures.piece in
    let took = takes_ahead (g.R.Source.remaining c.fill.new.reader) c.fill.new.self c.take_piece-piece.new.self (piece.piece ++ newline_if c.take_piece-piece.result.newline) piece.split in
    let long : 2 ^ 32 ≤ c.pieces.count + c.take_piece-piece.result.count = omega (arith, c.if-piece-count.true) in
    stops_long _ _ _ _ _ _ _ _ c.pieces.count c.take_piece-piece.result line.0 c.args.allowed line.1 c.in-Ok-true.ensures.kept piece took long c.if-not-allowed.false

pub returns-then-piece-clause-ok : goal.returns-then-piece-clause-ok
returns-then-piece-clause-ok g c =
    let line = c.pieces.invariant.line in
    let piece = c.take_piece-piece.ensures.piece in
    let took = takes_ahead (g.R.Source.remaining c.fill.new.reader) c.fill.new.self c.take_piece-piece.new.self (piece.piece ++ newline_if c.take_piece-piece.result.newline) piece.split in
    let fits : c.pieces.count + c.take_piece-piece.result.count < 2 ^ 32 = omega (arith, c.if-piece-count.false, c.pieces.invariant.fits) in
    (line.0 ++ piece.piece, ends_by_newline _ _ _ _ _ _ _ _ c.pieces.count c.take_piece-piece.result line.0 line.1 c.in-Ok-true.ensures.kept piece took c.if-piece.true fits)

pub pieces-preserved : goal.pieces-preserved
pieces-preserved g c =
    let line = c.pieces.invariant.line in
    let piece = c.take_piece-piece.ensures.piece in
    let took = takes_ahead (g.R.Source.remaining c.fill.new.reader) c.fill.new.self c.take_piece-piece.new.self (piece.piece ++ newline_if c.take_piece-piece.result.newline) piece.split in
    record {
      room = c.take_piece-piece.ensures.room;
      short = c.take_piece-piece.ensures.short;
      failures = c.in-Ok-true.ensures.failed ∙ c.pieces.invariant.failures;
      fits = omega (arith, c.if-piece-count.false, c.pieces.invariant.fits);
      allowed = λ _. c.if-not-allowed.false;
      line = (line.0 ++ piece.piece, reads_piece _ _ _ _ _ _ _ _ c.pieces.count c.take_piece-piece.result line.0 line.1 c.in-Ok-true.ensures.kept piece took c.if-piece.false);
    }

pub pieces-smaller : goal.pieces-smaller
pieces-smaller g c =
    let counts : 0 < c.take_piece-piece.result.count = piece_counts _ _ _ _ c.take_piece-piece.result c.take_piece-piece.ensures.piece (c.in-Ok-true.ensures.some c.in-Ok-true.field-0-test) c.if-piece.false in
    omega (arith, counts, c.if-piece-count.false, c.pieces.invariant.fits)
