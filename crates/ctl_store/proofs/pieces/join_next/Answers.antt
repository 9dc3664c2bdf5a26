use Rattle.std.proofs.Common.{rules, ◌∙◌, suc, get_or, set, ap, sym, subst, arith}
use Rattle.std.specs.List.{remove}
use Rattle.ctl_store.specs.Inside.HeldPieces.{ArePieces, IsPiece, joined, length_at}
use Rattle.ctl_store.proofs.PiecesLemmas.{plus_one, length_read, room_read, piece_read, read_before, joined_join}
use Rattle.ctl_store.proofs.PlaceLemmas.{all_set, all_removed}
use Rattle.ctl_store.proofs.pieces.join_next.Goals as goal

pub unreachable-requires : goal.unreachable-requires
unreachable-requires g c =
    let ps = c.args.pieces.now.items in
    let at = c.args.at in
    let p = c.index_mut.result.now in
    let up = c.remove-next.result in
    let rest = c.remove-next.ensures.items ∙ ap (remove ps) (plus_one at) in
    let read = read_before ps at p (omega (arith, c.requires.next)) (c.index_mut.ensures.value ∙ ap (λ l. get_or l at p) rest) in
    let n = length_read ps at p (omega (arith, c.requires.next)) read in
    let m = length_read ps (suc at) up (omega (arith, c.requires.next)) (c.remove-next.ensures.value ∙ ap (λ n. get_or ps n up) (plus_one at)) in
    let r = room_read ps at p (omega (arith, c.requires.next)) read in
    omega (arith, c.in-Err.ensures.full, n, m, r, c.requires.room, ap (length_at ps) (plus_one at))

pub returns-clause-kept : goal.returns-clause-kept
returns-clause-kept g c =
    let ps = c.args.pieces.now.items in
    let at = c.args.at in
    let p = c.index_mut.result.now in
    let up = c.remove-next.result in
    let rest = c.remove-next.ensures.items ∙ ap (remove ps) (plus_one at) in
    let read = read_before ps at p (omega (arith, c.requires.next)) (c.index_mut.ensures.value ∙ ap (λ l. get_or l at p) rest) in
    let was : IsPiece p = piece_read ps at p c.requires.pieces (omega (arith, c.requires.next)) read in
    let n = length_read ps at p (omega (arith, c.requires.next)) read in
    let m = length_read ps (suc at) up (omega (arith, c.requires.next)) (c.remove-next.ensures.value ∙ ap (λ n. get_or ps n up) (plus_one at)) in
    let r = room_read ps at p (omega (arith, c.requires.next)) read in
    record {
      pieces = subst (λ l. ArePieces (set l at c.append.new.self)) (sym rest)
          (all_set IsPiece (remove ps (suc at)) at c.append.new.self (all_removed IsPiece ps (suc at) c.requires.pieces) (record {
            some = omega (arith, was.some, c.in-Ok.ensures.len);
            few = omega (arith, c.in-Ok.ensures.len, n, m, r, c.requires.room, ap (length_at ps) (plus_one at));
            room = omega (arith, was.room, c.in-Ok.ensures.capacity);
          }));
      len = search rules;
      capacity = search rules;
    }

pub returns-clause-items : goal.returns-clause-items
returns-clause-items g c =
    let ps = c.args.pieces.now.items in
    let at = c.args.at in
    let p = c.index_mut.result.now in
    let up = c.remove-next.result in
    let rest = c.remove-next.ensures.items ∙ ap (remove ps) (plus_one at) in
    ap (λ l. joined (set l at c.append.new.self)) rest
    ∙ joined_join ps at p up c.append.new.self (omega (arith, c.requires.next)) (c.index_mut.ensures.value ∙ ap (λ l. get_or l at p) rest) (c.remove-next.ensures.value ∙ ap (λ n. get_or ps n up) (plus_one at)) c.in-Ok.ensures.items
