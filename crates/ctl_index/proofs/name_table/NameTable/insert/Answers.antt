use Rattle.std.proofs.Common.{[], refl}
use Rattle.ctl_index.specs.Inside.TablesByName.{named_own, named_offers, named_namers, no_rows}
use Rattle.ctl_index.proofs.NameLemmas.{changed, used_either, on_ok_map}
use Rattle.ctl_index.proofs.name_table.NameTable.insert.Goals as goal

pub invariant_of-self : goal.invariant_of-self
invariant_of-self c = record { used = used_either c.insert.result c.args.name.now c.args.self.now.map c.insert.new.self c.args.named c.insert.ensures.ok c.insert.ensures.err c.requires c.args.self.now.used }

pub returns-clause-offers : goal.returns-clause-offers
returns-clause-offers c =
    on_ok_map c.insert.result (λ set. changed named_offers [] c.args.name.now c.args.self.now.map c.insert.new.self c.args.named (λ _. named_offers c.args.named) set refl) c.insert.ensures.ok

pub returns-clause-namers : goal.returns-clause-namers
returns-clause-namers c =
    on_ok_map c.insert.result (λ set. changed named_namers [] c.args.name.now c.args.self.now.map c.insert.new.self c.args.named (λ _. named_namers c.args.named) set refl) c.insert.ensures.ok

pub returns-clause-rows : goal.returns-clause-rows
returns-clause-rows c =
    on_ok_map c.insert.result (λ set. changed named_own no_rows c.args.name.now c.args.self.now.map c.insert.new.self c.args.named (λ _. named_own c.args.named) set refl) c.insert.ensures.ok
