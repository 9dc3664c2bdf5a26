use Rattle.std.proofs.Common.{◌≡◌, drop}
use Rattle.std.specs.List.{find}
use Rattle.ctl_relation.specs.declared.field_kind.FieldKind.{FieldKind}
use Rattle.ctl_stanza.specs.Fields.{is_same_name}
use Rattle.ctl_stanza.specs.RelationFields.{name_of, relation_kind}
use Rattle.ctl_stanza.proofs.live.relation_kind.Given as goal

-- the field is sought among those that are left
abbrev pub invariant-loop-kind : goal.invariant-loop-kind
invariant-loop-kind l = find (λ (kind : FieldKind). is_same_name l.name (name_of kind)) (drop l.kind-index l.kind-items) ≡ relation_kind l.name
