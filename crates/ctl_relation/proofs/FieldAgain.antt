-- A field of the grammar is read, with its groups.
use Rattle.std.proofs.Common.{◌≡◌, ◌⊎◌, ℕ, zero, suc, ◌+◌, ◌<◌, ◌≤◌, true, false, cond, Option, Some, None, List, [], ◌∷◌, ◌++◌, length, Result, Ok, Err, refl, sym, ap, subst, ◌∙◌, append_assoc, append-nil, length-append, length-drop, arith, inl, inr}
use Rattle.std.specs.Prelude.{◌==◌, IfOk, IfErr}
use Rattle.std.specs.List.{prefix_len}
use Rattle.std.specs.Char.{is_ascii_alphanumeric}
use Rattle.std.proofs.lemmas.Bool.Decides.{nat_tests}
use Rattle.std.proofs.lemmas.Bool.{and_parts}
use Rattle.ctl_relation.proofs.Found.{taken}
use Rattle.ctl_relation.specs.declared.relation_fault.RelationFault.{RelationFault}
use Rattle.ctl_relation.specs.declared.relation_fault.RelationFault.TheVariants as fault
use Rattle.ctl_relation.specs.declared.field_kind.FieldKind.{FieldKind}
use Rattle.ctl_relation.specs.Bytes.{comma, bar}
use Rattle.ctl_relation.specs.FieldBytes.{is_whitespace}
use Rattle.ctl_relation.specs.Runs.{rest, Stops}
use Rattle.ctl_relation.specs.Parts.{AtomParts}
use Rattle.ctl_relation.specs.Names.{is_name}
use Rattle.ctl_relation.specs.Reading.{◌>>=◌, atom_at, behind_byte, alternatives, group_at, groups_behind, groups_from, groups_at, relations_of, Gives}
use Rattle.ctl_relation.specs.Grammar.{IsWhitespace, AtomText, PaddedAtom, GroupText, PiecesText, given_groups, RelationsText}
use Rattle.ctl_relation.proofs.Only.{rest_again, nonempty}
use Rattle.ctl_relation.proofs.MemoryAlone.{memory_alone}
use Rattle.ctl_relation.proofs.AtomAgain.{step, atom_again}

-- a group goes up to a comma or the end
abbrev GroupEnd : List ℕ → Type 0
GroupEnd after = (after ≡ []) ⊎ ((more : List ℕ) × (after ≡ comma ∷ more))

pub letter_first : (b : ℕ) → is_ascii_alphanumeric b ≡ true → (is_whitespace b ≡ false) × ((b == comma) ≡ false)
letter_first b h = (grind (arith, nat_tests), grind (arith, nat_tests))

-- the first byte of an atom
record Begins (text : List ℕ) : Type 0 where
  stops : Stops is_whitespace text
  no_comma : behind_byte comma text ≡ None
  some : 0 < length text

name_begins : (name after : List ℕ) → is_name name ≡ true → Begins (name ++ after)
name_begins [] after h = absurd cc
name_begins (b ∷ name) after h =
    let l = letter_first b (and_parts (is_ascii_alphanumeric b) _ h).0 in
    record { stops = l.0; no_comma = ap (λ t. cond t (Some (name ++ after)) None) l.1; some = omega arith }

atom_begins : (kind : FieldKind) (t after : List ℕ) (atom : AtomParts) → AtomText kind t atom → Begins (t ++ after)
atom_begins kind t after atom h =
    let P : List ℕ → Type 0 = Begins in
    let w : t ++ after ≡ atom.name ++ ((h.qualifier_text ++ h.bound_text) ++ after) = ap (λ (l : List ℕ). l ++ after) h.whole ∙ append_assoc atom.name (h.qualifier_text ++ h.bound_text) after in
    subst P (sym w) (name_begins atom.name ((h.qualifier_text ++ h.bound_text) ++ after) h.name)

-- a padded atom before what follows it
record Read (kind : FieldKind) (text : List ℕ) (atom : AtomParts) (after : List ℕ) : Type 0 where
  blanks : List ℕ
  blank : IsWhitespace blanks
  begins : Begins (rest is_whitespace text)
  read : atom_at kind (rest is_whitespace text) ≡ taken (atom, blanks ++ after)
  shorter : length after < length (rest is_whitespace text)

padded_again : (kind : FieldKind) (text after : List ℕ) (atom : AtomParts) → PaddedAtom kind text atom → (after ≡ []) ⊎ ((b : ℕ) × (more : List ℕ) × (after ≡ b ∷ more) × ((b ≡ comma) ⊎ (b ≡ bar))) → Read kind (text ++ after) atom after
padded_again kind text after atom h n =
    let x : List ℕ = h.middle ++ (h.after ++ after) in
    let w : text ++ after ≡ h.before ++ x = ap (λ (l : List ℕ). l ++ after) h.whole ∙ append_assoc h.before (h.middle ++ h.after) after ∙ ap (λ (l : List ℕ). h.before ++ l) (append_assoc h.middle h.after after) in
    let b = atom_begins kind h.middle (h.after ++ after) atom h.spelled in
    let e : rest is_whitespace (text ++ after) ≡ x = ap (rest is_whitespace) w ∙ rest_again is_whitespace h.before x h.blanks.0 b.stops in
    let c : atom_at kind x ≡ taken (atom, h.after ++ after) = atom_again kind h.middle (h.after ++ after) atom h.spelled (record { blanks = h.after; text = after; blank = h.blanks.1; whole = refl; next = n }) in
    let P : List ℕ → Type 0 = Begins in
    let s = name_begins atom.name (h.spelled.qualifier_text ++ h.spelled.bound_text) h.spelled.name in
    record {
      blanks = h.after;
      blank = h.blanks.1;
      begins = subst P (sym e) b;
      read = ap (atom_at kind) e ∙ c;
      shorter = rw e (omega (arith, length-append h.middle (h.after ++ after), length-append h.after after, ap length h.spelled.whole, s.some));
    }

-- what follows a group, behind blanks
stops_end : (after : List ℕ) → GroupEnd after → Stops is_whitespace after × (behind_byte bar after ≡ None)
stops_end after (inl e) = let P : List ℕ → Type 0 = λ l. Stops is_whitespace l × (behind_byte bar l ≡ None) in subst P (sym e) (tt, refl)
stops_end after (inr m) = let P : List ℕ → Type 0 = λ l. Stops is_whitespace l × (behind_byte bar l ≡ None) in subst P (sym m.1) (refl, refl)

end_next : (after : List ℕ) → GroupEnd after → (after ≡ []) ⊎ ((b : ℕ) × (more : List ℕ) × (after ≡ b ∷ more) × ((b ≡ comma) ⊎ (b ≡ bar)))
end_next after (inl e) = inl e
end_next after (inr m) = inr (comma, m.0, m.1, inl refl)

rest-le : (text : List ℕ) → length (rest is_whitespace text) ≤ length text
rest-le text = omega (arith, length-drop (prefix_len is_whitespace text) text)

-- a group that is read
record ReadGroup (kind : FieldKind) (n : ℕ) (text : List ℕ) (group : List AtomParts) (after : List ℕ) : Type 0 where
  left : List ℕ
  begins : Begins (rest is_whitespace text)
  read : group_at n kind (rest is_whitespace text) ≡ taken (group, left)
  follows : rest is_whitespace left ≡ after

group_again : (kind : FieldKind) (n : ℕ) (text after : List ℕ) (group : List AtomParts) → GroupText kind text group → GroupEnd after → length (rest is_whitespace (text ++ after)) < n → ReadGroup kind n (text ++ after) group after
group_again kind zero text after group h e l = absurd (omega arith)
group_again kind (suc n) text after [] h e l = absurd h
group_again kind (suc n) text after (atom ∷ []) h e l =
    let r = padded_again kind text after atom h (end_next after e) in
    let s = stops_end after e in
    let f : rest is_whitespace (r.blanks ++ after) ≡ after = rest_again is_whitespace r.blanks after r.blank s.0 in
    record {
      left = r.blanks ++ after;
      begins = r.begins;
      read = step (atom_at kind (rest is_whitespace (text ++ after))) (λ a. alternatives kind (group_at n kind) a (behind_byte bar (rest is_whitespace a.1))) (atom, r.blanks ++ after) r.read
          ∙ ap (alternatives kind (group_at n kind) (atom, r.blanks ++ after)) (ap (behind_byte bar) f ∙ s.1);
      follows = f;
    }
group_again kind (suc n) text after (atom ∷ other ∷ more) h e l =
    let x : List ℕ = h.1 ++ after in
    let w : text ++ after ≡ h.0 ++ bar ∷ x = ap (λ (z : List ℕ). z ++ after) h.5 ∙ append_assoc h.0 (bar ∷ h.1) after in
    let r = padded_again kind h.0 (bar ∷ x) atom h.2 (inr (bar, x, refl, inr refl)) in
    let f : rest is_whitespace (r.blanks ++ bar ∷ x) ≡ bar ∷ x = rest_again is_whitespace r.blanks (bar ∷ x) r.blank refl in
    let small : length (rest is_whitespace x) < n = omega (arith, r.shorter, rest-le x, ap (λ (z : List ℕ). length (rest is_whitespace z)) w) in
    let g = group_again kind n h.1 after (other ∷ more) h.4 e small in
    let P : List ℕ → Type 0 = λ z. ReadGroup kind (suc n) z (atom ∷ other ∷ more) after in
    subst P (sym w) (record {
      left = g.left;
      begins = r.begins;
      read = step (atom_at kind (rest is_whitespace (h.0 ++ bar ∷ x))) (λ a. alternatives kind (group_at n kind) a (behind_byte bar (rest is_whitespace a.1))) (atom, r.blanks ++ bar ∷ x) r.read
          ∙ ap (λ z. alternatives kind (group_at n kind) (atom, r.blanks ++ bar ∷ x) (behind_byte bar z)) f
          ∙ ap (λ t. cond t (group_at n kind (rest is_whitespace x) >>= λ y. taken (atom ∷ y.0, y.1)) (Err fault.Alternative)) h.3
          ∙ step (group_at n kind (rest is_whitespace x)) (λ y. taken (atom ∷ y.0, y.1)) (other ∷ more, g.left) g.read;
      follows = g.follows;
    })

-- a field that is read
blank_rest : (text : List ℕ) → IsWhitespace text → rest is_whitespace text ≡ []
blank_rest text h = ap (rest is_whitespace) (sym (append-nil text)) ∙ rest_again is_whitespace text [] h tt

-- where a group comes first
group_first : (kind : FieldKind) (n : ℕ) (text after : List ℕ) (group : List AtomParts) → ReadGroup kind (length (rest is_whitespace text) + 1) text group after → groups_at (suc n) kind text ≡ groups_behind (groups_at n kind) group after (behind_byte comma after)
group_first kind n text after group r =
    let x : List ℕ = rest is_whitespace text in
    ap (groups_from (groups_at n kind) kind x) r.begins.no_comma
    ∙ ap (λ t. cond t (taken []) (group_at (length x + 1) kind x >>= λ g. groups_behind (groups_at n kind) g.0 (rest is_whitespace g.1) (behind_byte comma (rest is_whitespace g.1)))) (nonempty x r.begins.some)
    ∙ step (group_at (length x + 1) kind x) (λ g. groups_behind (groups_at n kind) g.0 (rest is_whitespace g.1) (behind_byte comma (rest is_whitespace g.1))) (group, r.left) r.read
    ∙ ap (λ z. groups_behind (groups_at n kind) group z (behind_byte comma z)) r.follows

pieces_again : (kind : FieldKind) (n : ℕ) (text : List ℕ) (pieces : List (Option (List AtomParts))) → PiecesText kind text pieces → length text < n → groups_at n kind text ≡ taken (given_groups pieces)
pieces_again kind zero text pieces h l = absurd (omega arith)
pieces_again kind (suc n) text [] h l = absurd h
pieces_again kind (suc n) text (None ∷ []) h l = ap (λ z. groups_from (groups_at n kind) kind z (behind_byte comma z)) (blank_rest text h)
pieces_again kind (suc n) text (Some group ∷ []) h l =
    let P : List ℕ → Type 0 = λ z. ReadGroup kind (length (rest is_whitespace z) + 1) z group [] in
    group_first kind n text [] group (subst P (append-nil text) (group_again kind (length (rest is_whitespace (text ++ [])) + 1) text [] group h (inl refl) (omega arith)))
pieces_again kind (suc n) text (None ∷ other ∷ more) h l =
    let e : rest is_whitespace text ≡ comma ∷ h.1 = ap (rest is_whitespace) h.4 ∙ rest_again is_whitespace h.0 (comma ∷ h.1) h.2 refl in
    ap (λ z. groups_from (groups_at n kind) kind z (behind_byte comma z)) e ∙ pieces_again kind n h.1 (other ∷ more) h.3 (omega (arith, ap length h.4, length-append h.0 (comma ∷ h.1)))
pieces_again kind (suc n) text (Some group ∷ other ∷ more) h l =
    let P : List ℕ → Type 0 = λ z. ReadGroup kind (length (rest is_whitespace z) + 1) z group (comma ∷ h.1) in
    let r = group_again kind (length (rest is_whitespace (h.0 ++ comma ∷ h.1)) + 1) h.0 (comma ∷ h.1) group h.2 (inr (h.1, refl)) (omega arith) in
    group_first kind n text (comma ∷ h.1) group (subst P (sym h.4) r)
    ∙ step (groups_at n kind h.1) (λ y. taken (group ∷ y)) (given_groups (other ∷ more)) (pieces_again kind n h.1 (other ∷ more) h.3 (omega (arith, ap length h.4, length-append h.0 (comma ∷ h.1))))

-- what is in the grammar is read
pub relations_again : (kind : FieldKind) (body : List ℕ) (groups : List (List AtomParts)) → RelationsText kind body groups → relations_of kind body ≡ taken groups
relations_again kind body groups h = pieces_again kind (length body + 1) body h.0 h.1 (omega arith) ∙ ap (λ (g : List (List AtomParts)). taken g) (sym h.2)

-- What a body in the grammar is read to are its groups, or memory runs out.
pub gives_again : (kind : FieldKind) (body : List ℕ) (r : Result (List (List AtomParts)) RelationFault) → Gives (λ (x : List (List AtomParts)). x) r (relations_of kind body) → (groups : List (List AtomParts)) → RelationsText kind body groups
    → IfOk r (λ x. x ≡ groups) × IfErr r (λ e. e ≡ fault.Memory)
gives_again kind body (Ok x) h groups t = let e : taken x ≡ taken groups = sym h ∙ relations_again kind body groups t in (cc, tt)
gives_again kind body (Err e) h groups t = (tt, memory_alone e (λ n. let z : taken groups ≡ Err e = sym (relations_again kind body groups t) ∙ h n in cc))
