use Rattle.std.proofs.Common.{refl, ◌≡◌, ◌∙◌, ◌+◌, length, ap, sym, subst, arith, IfSome}
use Rattle.std.proofs.lemmas.List.{length-map}
use Rattle.ctl_stanza.specs.Lines.{lines_of, lent_lines}
use Rattle.ctl_stanza.specs.Inside.Quick.{IsAccepted}
use Rattle.ctl_stanza.proofs.PieceLemmas.{now}
use Rattle.ctl_stanza.proofs.TurnLemmas.{stanza-turn, gap-turn, stanza-end, first-lent, room-next, none-behind}
use Rattle.ctl_stanza.proofs.reading.read_pieces.Goals as goal

pub pieces-preserved-in-Some : goal.pieces-preserved-in-Some
pieces-preserved-in-Some c =
    let left = lines_of c.pieces.left.now in
    let behind = lines_of c.in-Some.behind.now in
    record {
      seen = c.pieces.invariant.seen;
      room = omega (arith, ap length c.in-Some.ensures.lines, c.pieces.invariant.room);
      told = gap-turn c.args.from.kind c.pieces.stanzas.items c.pieces.line left behind _ c.in-Some.ensures.lines c.pieces.invariant.told;
    }

pub pieces-preserved-in-Some-found : goal.pieces-preserved-in-Some-found
pieces-preserved-in-Some-found c =
    let left = c.pieces.left.now in
    let accepted = c.in-Some-found.accepted in
    let is : IsAccepted left accepted c.accept_stanza.new.fields.items =
    subst (λ found. IfSome found (λ stanza. IsAccepted left stanza c.accept_stanza.new.fields.items)) c.in-Some-found.is c.in_ok-found.ensures.accepted in
    record {
      seen = c.clear.ensures;
      room = omega (arith, is.room, c.pieces.invariant.room);
      told = stanza-turn c.args.from.kind c.pieces.stanzas.items c.add_accepted.new.stanzas.items c.pieces.line _ (lines_of left) (lines_of accepted.behind.now) (lines_of accepted.text.now) _ is.first
          (ap (λ k. c.pieces.line + k) is.count) c.in_ok-add_accepted.ensures.whole c.in_ok-add_accepted.ensures.stanza c.pieces.invariant.told;
    }

pub pieces-preserved : goal.pieces-preserved
pieces-preserved c =
    let taken = c.take_piece.new.lines.items in
    let left = lines_of c.pieces.left.now in
    let behind = lines_of c.in_ok-behind.behind.now in
    let count : c.len-count.result ≡ length taken = omega (arith, c.len-count.ensures) in
    record {
      seen = c.in_ok-read_piece.ensures.none;
      room = ap (λ n. c.pieces.line + n + length behind) count ∙ room-next left behind taken c.pieces.line _ c.in_ok-behind.ensures.lines c.pieces.invariant.room;
      told = stanza-turn c.args.from.kind c.pieces.stanzas.items c.read_piece.new.stanzas.items c.pieces.line _ left behind (lent_lines taken) _
          (first-lent left behind taken taken refl c.in_ok-behind.ensures.first)
          (ap (λ k. c.pieces.line + k) (count ∙ sym (length-map taken now)))
          c.in_ok-read_piece.ensures.whole c.in_ok-read_piece.ensures.stanzas c.pieces.invariant.told;
    }

pub returns-clause-line : goal.returns-clause-line
returns-clause-line c = none-behind c.pieces.left.now c.pieces.line _ (sym c.is_empty.ensures ∙ c.pieces-test.false) c.pieces.invariant.room

pub returns-clause-read : goal.returns-clause-read
returns-clause-read c = stanza-end c.args.from.kind c.pieces.line c.pieces.left.now c.pieces.stanzas.items _ _ (sym c.is_empty.ensures ∙ c.pieces-test.false) refl c.pieces.invariant.told
