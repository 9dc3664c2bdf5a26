use Rattle.std.proofs.Common.{◌≡◌, ◌∙◌, ◌++◌, ℕ, List, Bor, Vec, Global, Ok, Err, ap, ap₂, sym, subst, arith, length, rules, length-append}
use Rattle.std.proofs.lemmas.List.{take-append-drop}
use Rattle.ctl_stanza.specs.declared.fault.TextFault.{TextFault}
use Rattle.ctl_stanza.specs.declared.list_kind.ListKind.{ListKind}
use Rattle.ctl_stanza.specs.Text.{read_text, with_contents}
use Rattle.ctl_stanza.specs.InParts.{IsReading, EndsWithGap}
use Rattle.ctl_stanza.proofs.SoundLemmas.{lines_take_bytes}
use Rattle.ctl_stanza.proofs.ReaderLemmas.{further, longer, faulty}
use Rattle.ctl_stanza.proofs.reader.StanzaReader.push.Goals as goal
use Rattle.ctl_stanza.proofs.reader.StanzaReader.push.Goals.{in-Some+in_ok-extend_from_slice+in_ok-line, in_default}

pub read_behind-requires : goal.read_behind-requires
read_behind-requires c =
    let front = c.split_at.result.0.now in
    let behind = c.split_at.result.1.now in
    let rest = c.self.inside.rest.items in
    let whole : c.deref-in-Some.result.now ≡ rest ++ front = c.deref-in-Some.ensures.value ∙ c.in_ok-extend_from_slice.ensures.items in
    let split : c.args.piece.now ≡ front ++ behind = sym (take-append-drop c.in-Some.at c.args.piece.now) ∙ ap₂ ◌++◌ (sym c.split_at.ensures.front) (sym c.split_at.ensures.back) in
    record { lines = omega (arith, lines_take_bytes c.deref-in-Some.result.now, ap length whole, length-append rest front, ap length split, length-append front behind, c.len.ensures, c.if-piece-line.false, c.self.invariant) }

pub returns-in_err-line-clause-fault : goal.returns-in_err-line-clause-fault
returns-in_err-line-clause-fault c =
    let front = c.split_at.result.0.now in
    let behind = c.split_at.result.1.now in
    let piece = c.args.piece.now in
    let whole : c.deref-in-Some.result.now ≡ c.self.inside.rest.items ++ front = c.deref-in-Some.ensures.value ∙ c.in_ok-extend_from_slice.ensures.items in
    let split : piece ≡ front ++ behind = sym (take-append-drop c.in-Some.at piece) ∙ ap₂ ◌++◌ (sym c.split_at.ensures.front) (sym c.split_at.ensures.back) in
    let gap : EndsWithGap c.deref-in-Some.result.now = subst EndsWithGap (sym (whole ∙ ap₂ ◌++◌ (sym c.deref.ensures.value) c.split_at.ensures.front)) c.in-Some.ensures.gap in
    let told : (f : TextFault) → with_contents c.self.inside.stanzas.items (read_text c.self.inside.kind c.self.inside.line c.deref-in-Some.result.now) ≡ Err f
    → (kind : ListKind) (n : ℕ) (text more : List ℕ) → IsReading kind n text c.args.self → read_text kind n (text ++ (piece ++ more)) ≡ Err f
    = λ f e kind n text more is. faulty kind n text piece front behind c.deref-in-Some.result.now more _ f (subst (IsReading kind n text) (sym c.self.view_is) is) split whole gap e in
    search (rules, told)

abbrev items_of : {A : Type 0} → Vec A Global → List A
items_of v = v.items

abbrev now : Bor (List ℕ) → List ℕ
now b = b.now

pub invariant_of-result : goal.invariant_of-result
invariant_of-result c =
    let added = ap length c.in_ok-extend_from_slice-2.ensures.items ∙ length-append c.match-last_gap.rest.items c.match-last_gap.left.now in
    elim c.match-last_gap.branch [
      | in-Some+in_ok-extend_from_slice+in_ok-line w ↦
          let front = w.split_at.result.0.now in
          let behind = w.split_at.result.1.now in
          let rest = c.self.inside.rest.items in
          let whole : w.deref-in-Some.result.now ≡ rest ++ front = w.deref-in-Some.ensures.value ∙ w.in_ok-extend_from_slice.ensures.items in
          let split : c.args.piece.now ≡ front ++ behind = sym (take-append-drop w.in-Some.at c.args.piece.now) ∙ ap₂ ◌++◌ (sym w.split_at.ensures.front) (sym w.split_at.ensures.back) in
          omega (arith, added, w.line-is, ap length (ap items_of w.rest-is ∙ w.clear.ensures.items), ap length (ap now w.left-is), w.in_ok-line.ensures.line, lines_take_bytes w.deref-in-Some.result.now, ap length whole, length-append rest front, ap length split, length-append front behind, c.len.ensures, c.if-piece-line.false, c.self.invariant)
      | in_default w ↦ omega (arith, added, w.line-is, ap length (ap items_of w.rest-is), ap length (ap now w.left-is), c.len.ensures, c.if-piece-line.false, c.self.invariant)
    ]

pub returns-clause-read : goal.returns-clause-read
returns-clause-read c = λ kind n text is.
    let piece = c.args.piece.now in
    let added = c.in_ok-extend_from_slice-2.ensures.items in
    let new = c.extend_from_slice-2.new.self.items in
    let started = subst (IsReading kind n text) (sym c.self.view_is) is in
    elim c.match-last_gap.branch [
      | in-Some+in_ok-extend_from_slice+in_ok-line w ↦
          let front = w.split_at.result.0.now in
          let behind = w.split_at.result.1.now in
          let whole : w.deref-in-Some.result.now ≡ c.self.inside.rest.items ++ front = w.deref-in-Some.ensures.value ∙ w.in_ok-extend_from_slice.ensures.items in
          let split : piece ≡ front ++ behind = sym (take-append-drop w.in-Some.at piece) ∙ ap₂ ◌++◌ (sym w.split_at.ensures.front) (sym w.split_at.ensures.back) in
          let gap : EndsWithGap w.deref-in-Some.result.now = subst EndsWithGap (sym (whole ∙ ap₂ ◌++◌ (sym c.deref.ensures.value) w.split_at.ensures.front)) w.in-Some.ensures.gap in
          let left : new ≡ behind = added ∙ ap₂ ◌++◌ (ap items_of w.rest-is ∙ w.clear.ensures.items) (ap now w.left-is) in
          further kind n c.match-last_gap.line text piece front behind w.deref-in-Some.result.now new c.match-last_gap.stanzas.items _
          started split whole gap (w.in_ok-line.ensures.read ∙ ap Ok (sym (ap items_of w.stanzas-is))) (w.line-is ∙ w.in_ok-line.ensures.line) left
      | in_default w ↦ longer kind n c.match-last_gap.line text piece new c.match-last_gap.stanzas.items _ started (ap items_of w.stanzas-is) w.line-is (added ∙ ap₂ ◌++◌ (ap items_of w.rest-is) (ap now w.left-is))
    ]
