use Rattle.std.proofs.Common.{◌≡◌, ◌∙◌, ◌||◌, ◌&&◌, false, not, ℕ, List, [], ◌∷◌, Bor, sym, ap}
use Rattle.std.specs.List.{list_any}
use Rattle.std.specs.Ordering.{is_eq}
use Rattle.std.specs.Str.{bytes_eq, str_to_ascii_lowercase}
use Rattle.std.proofs.lemmas.List.{nil_from_length}
use Rattle.std.proofs.lemmas.List.Folds.{list_any-append}
use Rattle.std.proofs.lemmas.Map.Text.{is_eq-slice_cmp}
use Rattle.std.proofs.lemmas.Slice.Eq.{bytes_eq-Decides}
use Rattle.ctl_stanza.specs.Given.{Given}
use Rattle.ctl_stanza.specs.Inside.HeldNames.{holds}
use Rattle.ctl_stanza.specs.Inside.NameSlots.{has_slot, is_given}
use Rattle.ctl_stanza.specs.Fields.{is_same_name}
use Rattle.ctl_stanza.proofs.NameLemmas.{any-same, any-insert, new-beyond, beyond-more}
use Rattle.ctl_stanza.proofs.SlotLemmas.{given-is, held-already, known-given, not-first, taken-more, taken-still, first-more}
use Rattle.ctl_stanza.proofs.names_given.NamesGiven.add.Goals as goal

pub returns-then-is_among_taken-clause-added : goal.returns-then-is_among_taken-clause-added
returns-then-is_among_taken-clause-added c =
    let name = c.args.name.now in
    let found = ap (λ (xs : List (Bor (List ℕ))). c.has_slot-is_taken.result && list_any (λ (other : Bor (List ℕ)). is_same_name name other.now) xs) (sym c.deref.ensures.value)
    ∙ sym c.is_among_taken.ensures ∙ c.if-is_among_taken.true in
    sym (ap not (ap (λ (g : Given). holds g name) (sym c.self.view_is) ∙ given-is c.self.inside name ∙ known-given c.has_slot-is_taken.result (list_any (λ (other : Bor (List ℕ)). is_same_name name other.now) c.self.inside.first.items) (list_any (λ k. bytes_eq (str_to_ascii_lowercase name) k.items) c.self.inside.others.keys) found))

pub returns-then-is_among_taken-clause-held : goal.returns-then-is_among_taken-clause-held
returns-then-is_among_taken-clause-held c =
    let name = c.args.name.now in
    let found = ap (λ (xs : List (Bor (List ℕ))). c.has_slot-is_taken.result && list_any (λ (other : Bor (List ℕ)). is_same_name name other.now) xs) (sym c.deref.ensures.value)
    ∙ sym c.is_among_taken.ensures ∙ c.if-is_among_taken.true in
    λ other. ap (λ (g : Given). holds g other) c.self.view_is ∙ held-already c.args.self.now name (ap (λ (g : Given). holds g name) (sym c.self.view_is) ∙ given-is c.self.inside name ∙ known-given c.has_slot-is_taken.result (list_any (λ (other : Bor (List ℕ)). is_same_name name other.now) c.self.inside.first.items) (list_any (λ k. bytes_eq (str_to_ascii_lowercase name) k.items) c.self.inside.others.keys) found) other

pub returns-then-len-lt-FIRST_NAMES-clause-added : goal.returns-then-len-lt-FIRST_NAMES-clause-added
returns-then-len-lt-FIRST_NAMES-clause-added c =
    let name = c.args.name.now in
    let slots = c.self.inside.slots in
    let q = str_to_ascii_lowercase name in
    let sought = ap (λ (xs : List (Bor (List ℕ))). c.has_slot-is_taken.result && list_any (λ (other : Bor (List ℕ)). is_same_name name other.now) xs) (sym c.deref.ensures.value)
    ∙ sym c.is_among_taken.ensures ∙ c.if-is_among_taken.false in
    let first : list_any (λ (other : Bor (List ℕ)). is_same_name name other.now) c.self.inside.first.items ≡ false
    = not-first _ _ _ (λ e. c.has_slot-is_taken.ensures ∙ ap (has_slot slots) c.slot_of-slot.ensures.slot ∙ c.self.invariant name e) sought in
    let none = nil_from_length c.self.inside.others.keys (c.is_empty.ensures.0 c.if-is_empty.true) in
    let others = ap (list_any (λ k. bytes_eq q k.items)) none in
    sym (ap not (ap (λ (g : Given). holds g name) (sym c.self.view_is) ∙ given-is c.self.inside name ∙ ap (λ t. t || list_any (λ k. bytes_eq q k.items) c.self.inside.others.keys) first ∙ others))

adds : (c : goal.In_ok-added) (other : List ℕ)
    → is_given (record { first = c.self.inside.first; others = c.insert.new.self; slots = c.with_slot-self-inside.result }) other
    ≡ (is_same_name other c.args.name.now || is_given c.self.inside other)
adds c other =
    let q = str_to_ascii_lowercase other in
    let folded = c.in_ok-folded.folded in
    let keys = c.self.inside.others.keys in
    beyond-more _ _ _ _
    (ap (list_any (λ k. bytes_eq q k.items)) c.in_ok-added.ensures.keys
    ∙ any-insert _ (λ k. bytes_eq q k.items) folded (λ x e. ap (bytes_eq q) (sym ((bytes_eq-Decides folded.items x.items).0 (sym (is_eq-slice_cmp folded.items x.items) ∙ ap is_eq e)))) keys
    ∙ ap (λ t. bytes_eq q t || list_any (λ k. bytes_eq q k.items) keys) c.in_ok-folded.ensures.ok)

pub invariant_of-self-2 : goal.invariant_of-self-2
invariant_of-self-2 c =
    rw (c.with_slot-self-inside.ensures, c.slot_of-slot.ensures.slot) (taken-more c.self.inside.slots c.args.name.now (is_given c.self.inside) _ c.self.invariant (adds c))

pub returns-clause-added : goal.returns-clause-added
returns-clause-added c =
    let name = c.args.name.now in
    let slots = c.self.inside.slots in
    let keys = c.self.inside.others.keys in
    let sought = ap (λ (xs : List (Bor (List ℕ))). c.has_slot-is_taken.result && list_any (λ (other : Bor (List ℕ)). is_same_name name other.now) xs) (sym c.deref.ensures.value)
    ∙ sym c.is_among_taken.ensures ∙ c.if-is_among_taken.false in
    new-beyond _ _ _
    (not-first _ _ (list_any (λ k. bytes_eq (str_to_ascii_lowercase name) k.items) keys) (λ e. c.has_slot-is_taken.ensures ∙ ap (has_slot slots) c.slot_of-slot.ensures.slot ∙ c.self.invariant name e) sought)
    (c.in_ok-added.ensures.added
    ∙ ap not (any-same _ _ (λ x. is_eq-slice_cmp c.in_ok-folded.folded.items x.items ∙ ap (λ t. bytes_eq t x.items) c.in_ok-folded.ensures.ok) keys))
    ∙ ap not (sym (ap (λ (g : Given). holds g name) (sym c.self.view_is) ∙ given-is c.self.inside name))

pub returns-clause-held : goal.returns-clause-held
returns-clause-held c = λ other.
    given-is (record { first = c.self.inside.first; others = c.insert.new.self; slots = c.with_slot-self-inside.result }) other ∙ adds c other ∙ ap (λ t. is_same_name other c.args.name.now || t) (sym (ap (λ (g : Given). holds g other) (sym c.self.view_is) ∙ given-is c.self.inside other))

pub invariant_of-self : goal.invariant_of-self
invariant_of-self c =
    rw c.with_slot-self-inside.ensures (taken-still c.self.inside.slots c.slot_of-slot.result (is_given c.self.inside) c.self.invariant)

pub invariant_of-self-in_err-push : goal.invariant_of-self-in_err-push
invariant_of-self-in_err-push c =
    rw (c.with_slot-self-inside.ensures, c.in_err-push.ensures.items) (taken-still c.self.inside.slots c.slot_of-slot.result (is_given c.self.inside) c.self.invariant)

pub invariant_of-self-then-len-lt-FIRST_NAMES : goal.invariant_of-self-then-len-lt-FIRST_NAMES
invariant_of-self-then-len-lt-FIRST_NAMES c =
    let old = c.self.inside.first.items in
    let more : (other : List ℕ) → is_given (record { first = c.push.new.self; others = c.self.inside.others; slots = c.with_slot-self-inside.result }) other ≡ (is_same_name other c.args.name.now || is_given c.self.inside other) = λ other.
    first-more _ _ _ _ (ap (list_any (λ (o : Bor (List ℕ)). is_same_name other o.now)) c.in_ok-push.ensures.items ∙ list_any-append (λ (o : Bor (List ℕ)). is_same_name other o.now) old (c.args.name ∷ [])) in
    rw (c.with_slot-self-inside.ensures, c.slot_of-slot.ensures.slot) (taken-more c.self.inside.slots c.args.name.now (is_given c.self.inside) _ c.self.invariant more)

pub invariant_of-self-in_err-folded : goal.invariant_of-self-in_err-folded
invariant_of-self-in_err-folded c =
    rw c.with_slot-self-inside.ensures (taken-still c.self.inside.slots c.slot_of-slot.result (is_given c.self.inside) c.self.invariant)

pub invariant_of-self-in_err-added : goal.invariant_of-self-in_err-added
invariant_of-self-in_err-added c =
    rw (c.with_slot-self-inside.ensures, c.in_err-added.ensures.err) (taken-still c.self.inside.slots c.slot_of-slot.result (is_given c.self.inside) c.self.invariant)
