use Rattle.std.proofs.Common.{◌≡◌, ◌∙◌, ◌+◌, ◌<◌, ◌++◌, length, drop, set, Vec, ap, sym, subst, arith}
use Rattle.std.proofs.lemmas.List.{get_or_default}
use Rattle.std.specs.List.{insert}
use Rattle.ctl_store.specs.declared.fronts.Placed.{Placed}
use Rattle.ctl_store.specs.Inside.HeldPieces.{ArePieces, IsPiece, joined, length_at, room_at, room_in}
use Rattle.ctl_store.proofs.PiecesLemmas.{plus_one, length_read, room_read, piece_read, pieces_insert, halves, joined_split, parts_at}
use Rattle.ctl_store.proofs.PlaceLemmas.{all_set}
use Rattle.ctl_store.proofs.pieces.split.Goals as goal

pub upper_part-requires : goal.upper_part-requires
upper_part-requires c =
    let within : c.args.at < length c.args.pieces.now.items = omega arith in
    omega (arith, c.requires.some, length_read c.args.pieces.now.items c.args.at c.index.result.now within c.index.ensures)

pub unreachable-requires : goal.unreachable-requires
unreachable-requires c =
    let within : c.args.at < length c.args.pieces.now.items = omega arith in
    omega (arith, c.in-Err.ensures.full, ap length c.requires.upper.none, c.upper_part.ensures.len, length_read c.args.pieces.now.items c.args.at c.index.result.now within c.index.ensures, c.requires.fits)

pub returns-clause-pieces : goal.returns-clause-pieces
returns-clause-pieces c =
    let ps = c.args.pieces.now.items in
    let within : c.args.at < length ps = omega arith in
    let p = c.index_mut.result.now in
    let n = length_read ps c.args.at p within c.index_mut.ensures.value in
    let was : IsPiece p = piece_read ps c.args.at p c.requires.pieces within c.index_mut.ensures.value in
    let read = length_read ps c.args.at c.index.result.now within c.index.ensures in
    let parts = c.upper_part.ensures.len in
    let low : IsPiece c.truncate.new.self = record { some = omega (arith, n, c.requires.lower, c.requires.some, c.truncate.ensures.len); few = omega (arith, was.few, c.truncate.ensures.len); room = omega (arith, was.room, c.truncate.ensures.capacity) } in
    let up : IsPiece c.extend_from_slice.new.self = record {
      some = omega (arith, c.in-Ok.ensures.len, ap length c.requires.upper.none, read, parts, c.requires.some);
      few = omega (arith, c.in-Ok.ensures.len, ap length c.requires.upper.none, read, parts, was.few, n);
      room = omega (arith, c.in-Ok.ensures.capacity, c.requires.upper.room);
    } in
    subst ArePieces (sym c.insert_piece.ensures.items) (pieces_insert (set ps c.args.at c.truncate.new.self) (c.args.at + 1) c.extend_from_slice.new.self (all_set IsPiece ps c.args.at c.truncate.new.self c.requires.pieces low) up)

pub returns-clause-items : goal.returns-clause-items
returns-clause-items c =
    let ps = c.args.pieces.now.items in
    let within : c.args.at < length ps = omega arith in
    let p = c.index_mut.result.now in
    let low = c.truncate.new.self in
    let up = c.extend_from_slice.new.self in
    let half = c.args.half in
    let same : c.index.result.now ≡ p = c.index.ensures ∙ get_or_default ps c.args.at c.index.result.now p within ∙ sym c.index_mut.ensures.value in
    let rest : up.items ≡ drop half p.items = c.in-Ok.ensures.items ∙ ap (λ l. l ++ c.upper_part.result.now) c.requires.upper.none ∙ c.upper_part.ensures.items ∙ ap (drop half) (c.deref.ensures.value ∙ ap (λ (v : Vec Placed _). v.items) same) in
    ap joined (c.insert_piece.ensures.items ∙ ap (λ n. insert (set ps c.args.at low) n up) (plus_one c.args.at))
    ∙ joined_split ps c.args.at p low up within c.index_mut.ensures.value (halves half p.items low.items up.items c.truncate.ensures.items rest)

-- what the parts have, and have room for
parts : (c : goal.After-insert_piece) → let qs = c.insert_piece.new.pieces.items in let low = c.truncate.new.self in let up = c.extend_from_slice.new.self in
    (length_at qs c.args.at ≡ length low.items) × (length_at qs (c.args.at + 1) ≡ length up.items) × (room_at qs c.args.at ≡ room_in low) × (room_at qs (c.args.at + 1) ≡ room_in up)
parts c =
    let at = c.args.at in
    let low = c.truncate.new.self in
    let up = c.extend_from_slice.new.self in
    subst (λ qs. (length_at qs at ≡ length low.items) × (length_at qs (at + 1) ≡ length up.items) × (room_at qs at ≡ room_in low) × (room_at qs (at + 1) ≡ room_in up)) (sym c.insert_piece.ensures.items)
    (subst (λ k. let qs = insert (set c.args.pieces.now.items at low) k up in (length_at qs at ≡ length low.items) × (length_at qs k ≡ length up.items) × (room_at qs at ≡ room_in low) × (room_at qs k ≡ room_in up)) (sym (plus_one at))
    (parts_at c.args.pieces.now.items at low up (omega arith)))

pub returns-clause-lower_length : goal.returns-clause-lower_length
returns-clause-lower_length c =
    let n = length_read c.args.pieces.now.items c.args.at c.index_mut.result.now (omega arith) c.index_mut.ensures.value in
    omega (arith, (parts c).0, n, c.requires.some, c.truncate.ensures.len)

pub returns-clause-upper_length : goal.returns-clause-upper_length
returns-clause-upper_length c =
    let n = length_read c.args.pieces.now.items c.args.at c.index.result.now (omega arith) c.index.ensures in
    omega (arith, (parts c).1, c.in-Ok.ensures.len, ap length c.requires.upper.none, c.upper_part.ensures.len, n)

pub returns-clause-lower_room : goal.returns-clause-lower_room
returns-clause-lower_room c =
    let r = room_read c.args.pieces.now.items c.args.at c.index_mut.result.now (omega arith) c.index_mut.ensures.value in
    omega (arith, (parts c).2, c.truncate.ensures.capacity, r)

pub returns-clause-upper_room : goal.returns-clause-upper_room
returns-clause-upper_room c = omega (arith, (parts c).3, c.in-Ok.ensures.capacity, c.requires.fits)
