use Rattle.std.proofs.Common.{◌≡◌, ◌∙◌, ◌-◌, ◌<◌, min, length, ap, arith}
use Rattle.std.specs.List.{insert}
use Rattle.ctl_store.specs.Inside.HeldPieces.{length_at, room_in, room_at, room_of_all, room_at_end, free_at_end}
use Rattle.ctl_store.proofs.PiecesLemmas.{length_read, some_free, free_last, last_at, room_of_all_push}
use Rattle.ctl_store.proofs.pieces.Pieces.push.Goals as goal

pub insert_within-requires-clause-at : goal.insert_within-requires-clause-at
insert_within-requires-clause-at g c =
    let ps = c.self.inside.pieces.items in
    let free : 0 < free_at_end ps = omega (arith, ap free_at_end c.deref.ensures.value) in
    let some = some_free ps free in
    let within : c.len-count.result - 1 < length ps = omega arith in
    omega (arith, length_read ps (c.len-count.result - 1) c.index.result.now within c.index.ensures)

pub insert_within-requires-clause-few : goal.insert_within-requires-clause-few
insert_within-requires-clause-few g c =
    let ps = c.self.inside.pieces.items in
    let free : 0 < free_at_end ps = omega (arith, ap free_at_end c.deref.ensures.value) in
    let some = some_free ps free in
    omega (arith, free_last ps (c.len-count.result - 1) (omega arith))

pub returns-then-free_in_last-eq0-clause-room : goal.returns-then-free_in_last-eq0-clause-room
returns-then-free_in_last-eq0-clause-room g c =
    let ps = c.self.inside.pieces.items in
    let qs = c.insert_piece.new.pieces.items in
    let p = c.insert_in.new.piece in
    let taken = c.take_ready-piece.result in
    let none : free_at_end ps ≡ 0 = omega (arith, ap free_at_end c.deref.ensures.value) in
    let count : c.len-count.result ≡ length ps = omega arith in
    let now : qs ≡ insert ps (length ps) p = c.insert_piece.ensures.items ∙ ap (λ n. insert ps n p) count in
    let one : length p.items ≡ 1 = omega (arith, ap length c.take_ready-piece.ensures.piece.none, c.insert_in.ensures.len) in
    let at : length_at qs (length ps) ≡ 1 = ap (λ l. length_at l (length ps)) now ∙ (last_at ps p).0 ∙ one in
    let room : room_at qs (length ps) ≡ room_in p = ap (λ l. room_at l (length ps)) now ∙ (last_at ps p).1 in
    let same : room_in p ≡ room_in taken = ap (λ n. min 64 n) c.insert_in.ensures.capacity in
    omega (arith, ap room_at_end c.self.view_is, none, at, room, same, c.take_ready-piece.ensures.piece.room, free_last qs (length ps) (omega (arith, c.insert_piece.ensures.len)), ap room_of_all c.take_ready-piece.ensures.items, room_of_all_push c.take_ready-piece.new.ready.items taken)

pub returns-else-free_in_last-eq0-clause-room : goal.returns-else-free_in_last-eq0-clause-room
returns-else-free_in_last-eq0-clause-room g c =
    let ps = c.self.inside.pieces.items in
    let qs = c.insert_within.new.pieces.items in
    let free : 0 < free_at_end ps = omega (arith, ap free_at_end c.deref.ensures.value) in
    let some = some_free ps free in
    let n = c.len-count.result - 1 in
    omega (arith, ap room_at_end c.self.view_is, c.insert_within.ensures.length, c.insert_within.ensures.room, free_last ps n (omega arith), free_last qs n (omega (arith, c.insert_within.ensures.len)))
