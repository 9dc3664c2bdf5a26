use Rattle.std.proofs.Common.{◌≡◌, ◌<◌, ◌^◌, ◌++◌, length, drop}
use Rattle.ctl_stanza.specs.Lines.{text_of_lines, lent_lines}
use Rattle.ctl_stanza.specs.Fields.{fields_of_lines, fields_from}
use Rattle.ctl_stanza.specs.Inside.HeldFields.{loose_bodies, shown_fields, AreWithin, AreBelow, StandsAt, Grows}
use Rattle.ctl_stanza.proofs.fields.fields_of_lines.Given as goal

-- the fields of the lines so far; what is left of the lines stands at the place that is reached
abbrev pub invariant-loop-i : goal.invariant-loop-i
invariant-loop-i l =
    let lines = lent_lines l.lines in
    record {
      grows : Grows (text_of_lines lines) l.bytes.items;
      short : length l.bytes.items < 2 ^ 32;
      stands : StandsAt l.bytes.items l.at (text_of_lines (drop l.i lines));
      told : shown_fields l.bytes.items l.fields.items ++ fields_from l.i (drop l.i lines) ≡ fields_of_lines lines;
      within : AreWithin l.bytes.items l.fields.items;
      loose : l.bytes.items ++ loose_bodies (drop l.i lines) ≡ text_of_lines lines ++ loose_bodies lines;
      known : AreBelow (length l.lines) l.fields.items;
    }
