use Rattle.std.proofs.Common.{rules, ◌≡◌, ◌++◌, ℕ, List, length, sym, subst}
use Rattle.std.specs.BTreeMap.{values}
use Rattle.std.specs.List.{All}
use Rattle.ctl_policy.specs.Priority.{world_of}
use Rattle.ctl_query.specs.Depends.{atom_lines}
use Rattle.ctl_query.specs.Inside.Repeats.{IsWritten}
use Rattle.ctl_query.proofs.RepeatLemmas.{all_stay, is_written, one_more}
use Rattle.ctl_query.proofs.depends.FieldLines.append_next.Goals as goal

-- the lines that were kept stand where they stood, and those that were just written behind them
pub returns-in_ok-keep-clause-written : goal.returns-in_ok-keep-clause-written
returns-in_ok-keep-clause-written c =
    let world = world_of c.args.self.now.depending.now.asking.now in
    let installed = c.args.self.now.depending.now.options.installed in
    let field = c.args.self.now.field in
    let further = c.args.alternative.further in
    let atom = c.args.alternative.atom in
    let old = c.args.out.now.items in
    let new = c.append_atom.new.out.items in
    let text : new ≡ old ++ atom_lines world installed field further atom = search rules in
    let start : c.len-start.result ≡ length old = search rules in
    let end : c.len-end.result ≡ length new = search rules in
    one_more (IsWritten world installed field new) c.args.self.now.kept c.keep.new.kept (record { further = further; atom = atom; start = c.len-start.result; end = c.len-end.result }) c.in_ok-keep.ensures
    (subst (λ (t : List ℕ). All (IsWritten world installed field t) (values c.args.self.now.kept)) (sym text) (all_stay world installed field old (atom_lines world installed field further atom) (values c.args.self.now.kept) c.requires.written))
    (is_written world installed field old new further atom c.len-start.result c.len-end.result start end text)
