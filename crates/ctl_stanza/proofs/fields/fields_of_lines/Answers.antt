use Rattle.std.proofs.Common.{◌≡◌, ◌∙◌, ◌<◌, ◌+◌, ◌-◌, ◌++◌, ◌∷◌, ℕ, List, [], length, take, drop, get_or, Bor, sym, ap, arith, take_all, drop_of_length-le, append_assoc, append-nil}
use Rattle.std.proofs.lemmas.List.{get_or-map, length-map, length-drop, drop-map, drop_more, length-append}
use Rattle.ctl_stanza.specs.Lines.{text_of_lines, lent_lines}
use Rattle.ctl_stanza.specs.Inside.HeldFields.{StandsAt, Grows, loose_bodies}
use Rattle.ctl_stanza.proofs.FieldLemmas.{loose-turn, length-text_of_lines, fields-turn, stands-room, stands-next, stands-grow}
use Rattle.ctl_stanza.proofs.fields.fields_of_lines.Goals as goal

abbrev now : Bor (List ℕ) → List ℕ
now x = x.now

-- the lines behind the one at i
behind_is : (lines : List (Bor (List ℕ))) (i : ℕ) → lent_lines (take (length lines - (i + 1)) (drop (i + 1) lines)) ≡ drop (i + 1) (lent_lines lines)
behind_is lines i = ap lent_lines (take_all (length lines - (i + 1)) (drop (i + 1) lines) (omega (arith, length-drop (i + 1) lines))) ∙ sym (drop-map now (i + 1) lines)

-- the line at i stands where what is left does
stands-here : (lines : List (List ℕ)) (line bytes : List ℕ) (i at : ℕ) → i < length lines → get_or lines i [] ≡ line → StandsAt bytes at (text_of_lines (drop i lines))
    → StandsAt bytes at (line ++ 10 ∷ text_of_lines (drop (i + 1) lines))
stands-here lines line bytes i at lt here stands =
    let left : text_of_lines (drop i lines) ≡ line ++ 10 ∷ text_of_lines (drop (i + 1) lines) =
    ap text_of_lines (drop_more lines i [] lt) ∙ ap (λ l. l ++ 10 ∷ text_of_lines (drop (i + 1) lines)) here in
    rw left at stands

pub overflow_cast-start : goal.overflow_cast-start
overflow_cast-start c =
    let lines = lent_lines c.args.lines.now in
    let i = c.loop-i.i in
    let lt : i < length lines = omega (arith, length-map c.args.lines.now now) in
    let here = get_or-map now c.args.lines.now i (record { ref_ptr = (0, 0); now = [] }) [] c.loop-i-test.true in
    let stands = stands-here lines _ c.loop-i.bytes.items i c.loop-i.at lt here c.loop-i.invariant.stands in
    let room = stands-room c.loop-i.bytes.items _ c.loop-i.at (drop (i + 1) lines) stands in
    let size = ap length c.loop-i.invariant.grows.joined in
    omega (arith, c.loop-i.invariant.short, size, length-append (text_of_lines lines) c.loop-i.invariant.grows.more, length-text_of_lines lines, lt)

pub add_field-requires-clause-stands : goal.add_field-requires-clause-stands
add_field-requires-clause-stands c =
    let lines = lent_lines c.args.lines.now in
    let i = c.loop-i.i in
    let lt : i < length lines = omega (arith, length-map c.args.lines.now now) in
    let here = get_or-map now c.args.lines.now i (record { ref_ptr = (0, 0); now = [] }) [] c.loop-i-test.true in
    let stands = stands-here lines _ c.loop-i.bytes.items i c.loop-i.at lt here c.loop-i.invariant.stands in
    let room = stands-room c.loop-i.bytes.items _ c.loop-i.at (drop (i + 1) lines) stands in
    rw (behind_is c.args.lines.now i) stands

pub overflow_cast-at : goal.overflow_cast-at
overflow_cast-at c =
    let lines = lent_lines c.args.lines.now in
    let i = c.loop-i.i in
    let lt : i < length lines = omega (arith, length-map c.args.lines.now now) in
    let here = get_or-map now c.args.lines.now i (record { ref_ptr = (0, 0); now = [] }) [] c.loop-i-test.true in
    let stands = stands-here lines _ c.loop-i.bytes.items i c.loop-i.at lt here c.loop-i.invariant.stands in
    let room = stands-room c.loop-i.bytes.items _ c.loop-i.at (drop (i + 1) lines) stands in
    omega (arith, c.loop-i.invariant.short, room)

pub overflow_add-at : goal.overflow_add-at
overflow_add-at c =
    let lines = lent_lines c.args.lines.now in
    let i = c.loop-i.i in
    let lt : i < length lines = omega (arith, length-map c.args.lines.now now) in
    let here = get_or-map now c.args.lines.now i (record { ref_ptr = (0, 0); now = [] }) [] c.loop-i-test.true in
    let stands = stands-here lines _ c.loop-i.bytes.items i c.loop-i.at lt here c.loop-i.invariant.stands in
    let room = stands-room c.loop-i.bytes.items _ c.loop-i.at (drop (i + 1) lines) stands in
    omega (arith, c.loop-i.invariant.short, room)

pub overflow_add-at-in-loop-i : goal.overflow_add-at-in-loop-i
overflow_add-at-in-loop-i c =
    let lines = lent_lines c.args.lines.now in
    let i = c.loop-i.i in
    let lt : i < length lines = omega (arith, length-map c.args.lines.now now) in
    let here = get_or-map now c.args.lines.now i (record { ref_ptr = (0, 0); now = [] }) [] c.loop-i-test.true in
    let stands = stands-here lines _ c.loop-i.bytes.items i c.loop-i.at lt here c.loop-i.invariant.stands in
    let room = stands-room c.loop-i.bytes.items _ c.loop-i.at (drop (i + 1) lines) stands in
    omega (arith, c.loop-i.invariant.short, room)

pub loop-i-preserved : goal.loop-i-preserved
loop-i-preserved c =
    let lines = lent_lines c.args.lines.now in
    let i = c.loop-i.i in
    let lt : i < length lines = omega (arith, length-map c.args.lines.now now) in
    let here = get_or-map now c.args.lines.now i (record { ref_ptr = (0, 0); now = [] }) [] c.loop-i-test.true in
    let stands = stands-here lines _ c.loop-i.bytes.items i c.loop-i.at lt here c.loop-i.invariant.stands in
    let room = stands-room c.loop-i.bytes.items _ c.loop-i.at (drop (i + 1) lines) stands in
    let old = c.loop-i.bytes.items in
    let added = c.in_ok-add_field.ensures in
    let adds = rw (behind_is c.args.lines.now i) at added.fields in
    let whole = c.loop-i.invariant.grows in
    let grown : Grows (text_of_lines lines) c.add_field.new.bytes.items = record {
      more = whole.more ++ added.grows.more;
      joined = added.grows.joined ∙ ap (λ t. t ++ added.grows.more) whole.joined ∙ append_assoc (text_of_lines lines) whole.more added.grows.more;
    } in
    record {
      grows = grown;
      short = added.short;
      stands = rw added.grows.joined (stands-grow old (text_of_lines (drop (i + 1) lines)) added.grows.more (c.loop-i.at + (length _ + 1)) (omega (arith, room)) (stands-next old _ c.loop-i.at (drop (i + 1) lines) stands));
      told = fields-turn lines _ c.add_field.new.bytes.items _ c.add_field.new.fields.items i _ lt here adds.fields c.loop-i.invariant.told;
      within = adds.within;
      loose = loose-turn lines _ old c.add_field.new.bytes.items _ i lt here (rw (behind_is c.args.lines.now i) at added.loose) c.loop-i.invariant.loose;
      known = added.lines (length c.args.lines.now) c.loop-i-test.true c.loop-i.invariant.known;
    }

pub returns-clause-loose : goal.returns-clause-loose
returns-clause-loose c =
    let lines = lent_lines c.args.lines.now in
    let none : drop c.loop-i.i lines ≡ [] = drop_of_length-le lines (omega (arith, c.loop-i-test.false, length-map c.args.lines.now now)) in
    c.shrink_to_fit.ensures.items ∙ sym (append-nil c.loop-i.bytes.items) ∙ ap (λ ls. c.loop-i.bytes.items ++ loose_bodies ls) (sym none) ∙ c.loop-i.invariant.loose
