use Rattle.ctl_relation.proofs.VersionTextLaws.{texts_have_parts, parts_are_unique}
use Rattle.ctl_relation.proofs.version_laws.texts_have_one_cut.Goals as goal

pub returns-clause-parts : goal.returns-clause-parts
returns-clause-parts c = texts_have_parts

pub returns-clause-unique : goal.returns-clause-unique
returns-clause-unique c = parts_are_unique
