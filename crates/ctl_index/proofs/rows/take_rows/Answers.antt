use Rattle.std.proofs.Common.{◌≡◌, ◌-◌, ◌+◌, ◌<◌, [], ◌∷◌, length, drop, drop_of_length-le, get_or, refl, sym, subst, arith, rules}
use Rattle.ctl_store.specs.declared.stanza_key.StanzaKey.{StanzaKey}
use Rattle.ctl_index.specs.Inside.TablesByName.{rows_under}
use Rattle.ctl_index.specs.Inside.TablesRows.{AreRowsTaken}
use Rattle.ctl_index.specs.Inside.TablesPending.{seen, entries_seen}
use Rattle.ctl_index.proofs.KeptLemmas.{more_taken_back, none_taken}
use Rattle.ctl_index.proofs.rows.take_rows.Goals as goal

pub loop-place-init : goal.loop-place-init
loop-place-init c = record {
  rows = subst (λ keys. AreRowsTaken (entries_seen c.args.pending.now keys) (rows_under c.args.names.now.map) (rows_under c.args.names.now.map)) (sym (drop_of_length-le c.args.keys.now (omega arith))) (none_taken (rows_under c.args.names.now.map));
  chosen = refl;
  offers = refl;
  namers = refl;
}

pub loop-place-preserved : goal.loop-place-preserved
loop-place-preserved c =
    let place = c.loop-place.place - 1 in
    let keys = c.args.keys.now in
    let key : StanzaKey = record { list = 0; stanza = 0 } in
    let old = rows_under c.args.names.now.map in
    let mid = rows_under c.loop-place.names.map in
    let new = rows_under c.take_row_at.new.names.map in
    let behind : c.loop-place.place ≡ place + 1 = omega (arith, c.loop-place-test.true) in
    let within : place < length keys = omega (arith, c.loop-place-test.true, c.loop-place.auto.place) in
    let taken : AreRowsTaken (entries_seen c.args.pending.now (get_or keys place key ∷ [])) mid new =
    c.take_row_at.ensures.rows in
    record {
      rows = more_taken_back (seen c.args.pending.now) keys place key within old mid new
          (subst (λ n. AreRowsTaken (entries_seen c.args.pending.now (drop n keys)) old mid) behind c.loop-place.invariant.rows) taken;
      chosen = search rules;
      offers = search rules;
      namers = search rules;
    }

pub returns-clause-rows : goal.returns-clause-rows
returns-clause-rows c =
    let none : c.loop-place.place ≡ 0 = omega (arith, c.loop-place-test.false) in
    subst (λ n. AreRowsTaken (entries_seen c.args.pending.now (drop n c.args.keys.now)) (rows_under c.args.names.now.map) (rows_under c.loop-place.names.map)) none c.loop-place.invariant.rows
