use Rattle.std.proofs.Common.{◌≡◌, ◌∙◌, true, refl, sym, ap, rules, drop, List, [], drop_of_length-le, arith}
use Rattle.ctl_stanza.specs.declared.fields.Field.{Field}
use Rattle.ctl_stanza.specs.Inside.HeldFields.{shown_fields}
use Rattle.ctl_stanza.proofs.FieldLemmas.{left-shown, first_wrong-good, first_wrong-bad}
use Rattle.ctl_stanza.proofs.RelationLemmas.{version-turn, groups-turn, keeps-given, keeps-kept, kept_of, groups_found, all-kept}
use Rattle.ctl_stanza.specs.Faults.{or_else}
use Rattle.ctl_stanza.proofs.live.read_live.Goals as goal

pub loop-i-preserved : goal.loop-i-preserved
loop-i-preserved c =
    let inv = c.loop-i.invariant in
    let left = left-shown c.args.bytes.now _ _ c.args.fields.now c.loop-i.i _ c.loop-i-test.true refl refl in
    let so = inv.marked in
    let with = c.in-Ok.ensures.marks so.relations so.are.words in
    record {
      told = inv.told ∙ first_wrong-good true c.args.first_line _ _ _ left c.in-Ok.ensures.good;
      version = version-turn _ _ _ c.loop-i.live.version _ _ left c.in-Ok.ensures.version inv.version;
      marked = record {
        relations = with.fields;
        are = record { words = with.words; kept = keeps-kept c.args.bytes.now _ _ so.relations with.fields with.keeps so.are.kept };
        groups = λ kind. groups-turn kind c.args.bytes.now _ _ _ so.relations with.fields _ left (keeps-given c.args.bytes.now _ _ _ so.relations with.fields refl with.keeps kind) (so.groups kind);
      };
    }

pub returns-in-Err : goal.returns-in-Err
returns-in-Err c =
    let inv = c.loop-i.invariant in
    let left = left-shown c.args.bytes.now _ _ c.args.fields.now c.loop-i.i _ c.loop-i-test.true refl refl in
    record {
      good = tt;
      bad = λ other. inv.told ∙ first_wrong-bad true c.args.first_line _ _ _ _ left (c.in-Err.ensures.bad other);
      memory = search rules;
      version = tt;
      relations = tt;
    }

pub returns-clause-relations : goal.returns-clause-relations
returns-clause-relations c =
    let so = c.loop-i.invariant.marked in
    let bytes = c.args.bytes.now in
    let none : drop c.loop-i.i c.args.fields.now ≡ [] = drop_of_length-le c.args.fields.now (omega (arith, c.loop-i-test.false)) in
    record {
      relations = so.relations;
      are = record { words = so.are.words; kept = so.are.kept };
      groups = λ kind. all-kept kind bytes (shown_fields bytes c.args.fields.now) so.relations
          (sym (ap (λ (fs : List Field). or_else (kept_of kind bytes so.relations) (groups_found kind (shown_fields bytes fs))) none) ∙ so.groups kind);
    }
