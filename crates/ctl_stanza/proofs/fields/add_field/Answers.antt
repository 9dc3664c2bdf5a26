use Rattle.std.proofs.Common.{◌≡◌, ◌∙◌, ◌<◌, ◌≤◌, ◌+◌, ◌-◌, ◌++◌, ◌∷◌, ℕ, List, [], length, take, drop, sym, ap, ap₂, arith}
use Rattle.std.proofs.lemmas.List.{length-append, map-append}
use Rattle.std.proofs.lemmas.List.Elements.{All-push}
use Rattle.ctl_stanza.specs.declared.fields.Field.{Field}
use Rattle.ctl_relation.specs.declared.span.Span.{Span}
use Rattle.ctl_stanza.specs.declared.line_kind.LineKind.{LineKind}
use Rattle.ctl_stanza.specs.declared.line_kind.LineKind.TheVariants as kinds
use Rattle.ctl_stanza.specs.Lines.{text_of_lines, lent_lines}
use Rattle.ctl_stanza.specs.LineKind.{kind_of}
use Rattle.ctl_stanza.specs.Fields.{field_at, value_of, continued}
use Rattle.ctl_stanza.specs.Inside.HeldFields.{loose_at, shown, shown_field, shown_fields, IsFieldWithin, AreWithin, StandsAt, Grows, Shows, Adds}
use Rattle.ctl_stanza.proofs.FieldLemmas.{loose-other, nothing-added, within_line, stands-round, shown-grow, within-grow, fields-grow, fields_within-grow}
use Rattle.ctl_stanza.proofs.fields.add_field.Goals as goal

-- the field that was pushed
adds : (old_bytes bytes line : List ℕ) (behind : List (List ℕ)) (at n i : ℕ) (body : Span) (old new : List Field) (kind : LineKind) → Grows old_bytes bytes
    → StandsAt old_bytes at (line ++ 10 ∷ text_of_lines behind) → AreWithin old_bytes old → n < length line → kind ≡ kind_of line → kind ≡ kinds.Field n
    → Shows bytes body (value_of n line ++ continued behind)
    → new ≡ old ++ (record { line = i; name = record { start = at; end = at + n }; body = body } ∷ [])
    → Adds bytes line behind i (shown_fields old_bytes old) new
adds old_bytes bytes line behind at n i body old new kind grows stands all lt is field shows pushed =
    let name_span : Span = record { start = at; end = at + n } in
    let f : Field = record { line = i; name = name_span; body = body } in
    let round = stands-round old_bytes line at behind stands in
    let tail = 10 ∷ (text_of_lines behind ++ round.rest) in
    let nothing_more : at + 0 ≡ at = omega arith in
    let whole_name : n - 0 ≡ n = omega arith in
    let size = ap length round.whole in
    let name_within : (at ≤ at + n) × (at + n ≤ length old_bytes) = (omega arith, omega (arith, size, round.front_len, lt, length-append round.front (line ++ tail), length-append line tail)) in
    let name = ap (λ t. shown t name_span) grows.joined ∙ shown-grow old_bytes grows.more name_span name_within
    ∙ ap (λ t. take (at + n - at) (drop at t)) round.whole
    ∙ ap (λ k. take (at + n - k) (drop k (round.front ++ (line ++ tail)))) (sym nothing_more)
    ∙ within_line round.front line tail at 0 n round.front_len (omega arith) (omega arith) ∙ ap (λ k. take k line) whole_name in
    let field_is : shown_field bytes f ≡ record { line = i; name = take n line; body = value_of n line ++ continued behind } =
    ap₂ (λ (x y : List ℕ). record { line = i; name = x; body = y }) name shows.part_is in
    let old_within : AreWithin bytes old = rw grows.joined (fields_within-grow old_bytes grows.more old all) in
    record {
      within = rw pushed (All-push (IsFieldWithin bytes) old f old_within (rw grows.joined (within-grow old_bytes grows.more name_span name_within), shows.within));
      fields = ap (shown_fields bytes) pushed ∙ map-append (shown_field bytes) old (f ∷ [])
          ∙ ap₂ (λ xs x. xs ++ x ∷ []) (ap (λ t. shown_fields t old) grows.joined ∙ fields-grow old_bytes grows.more old all) field_is
          ∙ ap (λ k. shown_fields old_bytes old ++ field_at i k line behind) (sym field ∙ is);
    }

pub returns-clause-fields : goal.returns-clause-fields
returns-clause-fields c =
    adds c.args.bytes.now.items _ c.args.line.now (lent_lines c.args.behind.now) c.args.start.at c.in-Field.n c.args.start.index c.in_ok-body.body c.args.fields.now.items c.push.new.self.items c.kind_of.result
    c.in_ok-body.ensures.grows c.requires.stands c.requires.within c.in-Field.ensures.name c.kind_of.ensures.kind c.in-Field.is c.in_ok-body.ensures.body c.in_ok-push.ensures.items

pub returns-clause-loose : goal.returns-clause-loose
returns-clause-loose c = c.in_ok-body.ensures.loose ∙ ap (λ kind. c.args.bytes.now.items ++ loose_at kind c.args.line.now (lent_lines c.args.behind.now)) (sym c.in-Field.is ∙ c.kind_of.ensures.kind)

pub returns-in_default-clause-loose : goal.returns-in_default-clause-loose
returns-in_default-clause-loose c =
    let lines = lent_lines c.args.behind.now in
    nothing-added c.args.bytes.now.items _ (ap (λ kind. loose_at kind c.args.line.now lines) (sym c.kind_of.ensures.kind) ∙ loose-other c.kind_of.result c.args.line.now lines c.in_default.not-Field)
