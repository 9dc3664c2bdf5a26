use Rattle.std.proofs.Common.{◌≡◌, true, drop}
use Rattle.ctl_stanza.specs.Fields.{body_named, version_name}
use Rattle.ctl_stanza.specs.Faults.{first_wrong, or_else}
use Rattle.ctl_stanza.specs.Inside.HeldFields.{shown_fields}
use Rattle.ctl_stanza.proofs.RelationLemmas.{AreMarkedSoFar}
use Rattle.ctl_stanza.proofs.live.read_live.Given as goal

-- no field so far is wrong; what they gave is kept, and what is left gives the rest
abbrev pub invariant-loop-i : goal.invariant-loop-i
invariant-loop-i l =
    let all = shown_fields l.bytes l.fields in
    let left = shown_fields l.bytes (drop l.i l.fields) in
    record {
      told : first_wrong true l.first_line all ≡ first_wrong true l.first_line left;
      version : or_else l.live.version (body_named version_name left) ≡ body_named version_name all;
      marked : AreMarkedSoFar l.bytes l.live.relations left all;
    }
