use Rattle.std.proofs.Common.{◌≡◌, ◌-◌, [], refl, arith}
use Rattle.ctl_store.specs.Store.{keyed_of}
use Rattle.ctl_index.specs.HeldCache.{standing}
use Rattle.ctl_index.specs.Offers.{contents}
use Rattle.ctl_index.specs.Inside.TablesHeld.{offers_in}
use Rattle.ctl_index.specs.Inside.TablesLoaded.{tests_put_in}
use Rattle.ctl_index.specs.Inside.TablesPending.{in_store}
use Rattle.ctl_index.specs.Work.{pairs}
use Rattle.ctl_index.proofs.JoinLemmas.{load_law, put_tests}
use Rattle.ctl_index.proofs.StoreLemmas.{rising_apart, store_seen}
use Rattle.ctl_index.proofs.RecoverLemmas.{joined_all, come_apart}
use Rattle.ctl_index.proofs.ThereLemmas.{listed_there}
use Rattle.ctl_index.proofs.cache.fill.Goals as goal

pub put_list-requires : goal.put_list-requires
put_list-requires c = listed_there (in_store c.args.store.now) (offers_in c.args.tables.now) [] c.requires.empty.offers tt

pub returns-clause-tables : goal.returns-clause-tables
returns-clause-tables c =
    let h = c.args.store.now in
    let keys = c.args.keys.now in
    load_law (in_store h) keys (standing h) [] c.args.tables.now c.put_list.new.tables (joined_all h keys c.requires.keys c.requires.found) c.requires.empty tt (come_apart h keys c.requires.keys c.requires.found c.requires.rising) tt
    (store_seen h (rising_apart (keyed_of h).lists c.requires.rising)) c.numbers_fit.ensures (rising_apart (keyed_of h).lists c.requires.rising) c.requires.few
    (c.in_ok-put_list.ensures.tables (come_apart h keys c.requires.keys c.requires.found c.requires.rising))

pub returns-clause-steps : goal.returns-clause-steps
returns-clause-steps c =
    let h = c.args.store.now in
    let keys = c.args.keys.now in
    let tests : tests_put_in (in_store h) keys c.args.tables.now ≡ pairs (contents (standing h)) - pairs (contents []) =
    put_tests (in_store h) keys (standing h) [] c.args.tables.now c.put_list.new.tables (joined_all h keys c.requires.keys c.requires.found) c.requires.empty tt (come_apart h keys c.requires.keys c.requires.found c.requires.rising) tt
    (store_seen h (rising_apart (keyed_of h).lists c.requires.rising)) in
    let none : pairs (contents []) ≡ 0 = refl in
    omega (arith, c.in_ok-put_list.ensures.steps, tests, none)

pub returns-clause-most : goal.returns-clause-most
returns-clause-most c =
    let h = c.args.store.now in
    let keys = c.args.keys.now in
    let tests : tests_put_in (in_store h) keys c.args.tables.now ≡ pairs (contents (standing h)) - pairs (contents []) =
    put_tests (in_store h) keys (standing h) [] c.args.tables.now c.put_list.new.tables (joined_all h keys c.requires.keys c.requires.found) c.requires.empty tt (come_apart h keys c.requires.keys c.requires.found c.requires.rising) tt
    (store_seen h (rising_apart (keyed_of h).lists c.requires.rising)) in
    let none : pairs (contents []) ≡ 0 = refl in
    omega (arith, c.put_list.ensures.most, tests, none)

pub returns-in_err-put_list-clause-most : goal.returns-in_err-put_list-clause-most
returns-in_err-put_list-clause-most c =
    let h = c.args.store.now in
    let keys = c.args.keys.now in
    let tests : tests_put_in (in_store h) keys c.args.tables.now ≡ pairs (contents (standing h)) - pairs (contents []) =
    put_tests (in_store h) keys (standing h) [] c.args.tables.now c.put_list.new.tables (joined_all h keys c.requires.keys c.requires.found) c.requires.empty tt (come_apart h keys c.requires.keys c.requires.found c.requires.rising) tt
    (store_seen h (rising_apart (keyed_of h).lists c.requires.rising)) in
    let none : pairs (contents []) ≡ 0 = refl in
    omega (arith, c.put_list.ensures.most, tests, none)
