-- A group is read from the end of a body, atom by atom, and a field group by group.
use Rattle.std.proofs.Common.{◌≡◌, ◌∙◌, ◌+◌, ◌-◌, ◌<◌, ◌≤◌, ◌^◌, ℕ, suc, ◌==◌, Bool, true, false, cond, List, [], ◌∷◌, ◌++◌, length, length-append, length-drop, drop, Some, None, Result, Ok, Err, refl, sym, ap, ap₂, subst, arith, append_assoc, take-append-drop}
use Rattle.std.specs.List.{prefix_len}
use Rattle.std.proofs.lemmas.List.Elements.{All-nil, All-head, All-tail, All-push, All-append}
use Rattle.std.proofs.Math.Seq.{drop-append_seam}
use Rattle.ctl_relation.specs.declared.field_kind.FieldKind.{FieldKind}
use Rattle.ctl_relation.specs.declared.relation_fault.RelationFault.{RelationFault}
use Rattle.ctl_relation.specs.declared.relation_fault.RelationFault.TheVariants as fault
use Rattle.ctl_relation.specs.Bytes.{bar, comma}
use Rattle.ctl_relation.specs.FieldBytes.{is_whitespace}
use Rattle.ctl_relation.specs.Runs.{run, rest}
use Rattle.ctl_relation.specs.Parts.{AtomParts}
use Rattle.ctl_relation.specs.FieldKind.{has_alternatives}
use Rattle.ctl_relation.specs.Reading.{behind_byte, atom_at, group_at, groups_at, relations_of}
use Rattle.ctl_relation.specs.Inside.HeldPlaces.{atom_read, atom_held, atoms_held, groups_held, HasAtom, HaveAtoms, Rise, AreHeld, IsEnd, place_of, ReadsGroup, ReadsField}
use Rattle.ctl_relation.proofs.Found.{atom_found, behind_found}
use Rattle.ctl_relation.proofs.TurnsOfReading.{with_front, behind, group_ends, group_goes_on, groups_fail, groups_end, groups_go_on, groups_done, groups_skip}
use Rattle.ctl_relation.proofs.PlaceLemmas.{rise-bounds, rise-low, rise-high, rise-append, rise-length, held-push}

-- ---- ends of a body

pub end-all : (body : List ℕ) → IsEnd body body
end-all body = record { front = []; whole = refl }

pub end-behind : (body text front left : List ℕ) → text ≡ front ++ left → IsEnd body text → IsEnd body left
end-behind body text front left e end = record { front = end.front ++ front; whole = end.whole ∙ ap (λ t. end.front ++ t) e ∙ sym (append_assoc end.front front left) }

pub end-blanks : (body text left : List ℕ) → left ≡ rest is_whitespace text → IsEnd body text → IsEnd body left
end-blanks body text left e end =
    end-behind body text (run is_whitespace text) left (sym (take-append-drop (prefix_len is_whitespace text) text) ∙ ap (λ t. run is_whitespace text ++ t) (sym e)) end

pub end-byte : (body text left : List ℕ) (byte : ℕ) → Some left ≡ behind_byte byte text → IsEnd body text → IsEnd body left
end-byte body text left byte e end = end-behind body text (byte ∷ []) left (behind_found byte text left (sym e)) end

pub end-size : (body text : List ℕ) → IsEnd body text → length text ≤ length body
end-size body text end = omega (arith, ap (λ (t : List ℕ). length t) end.whole, length-append end.front text)

end-drop : (body text : List ℕ) → IsEnd body text → drop (place_of body text) body ≡ text
end-drop body text end =
    let size : place_of body text ≡ length end.front = omega (arith, ap (λ (t : List ℕ). length t) end.whole, length-append end.front text) in
    ap (λ n. drop n body) size ∙ ap (drop (length end.front)) end.whole ∙ drop-append_seam end.front text

-- ---- the atom at the front of an end of a body

module _ (kind : FieldKind) (body : List ℕ) where
  front-read : (left : List ℕ) (x : AtomParts × List ℕ) → IsEnd body left → atom_at kind left ≡ Ok x → atom_at kind (drop (place_of body left) body) ≡ Ok x
  front-read left x end read = ap (atom_at kind) (end-drop body left end) ∙ read

  front-atom : (left : List ℕ) (x : AtomParts × List ℕ) → IsEnd body left → atom_at kind left ≡ Ok x → HasAtom kind body (place_of body left)
  front-atom left x end read = record { within = omega arith; atom = x.0; left = x.1; read = front-read left x end read }

  front-held : (left : List ℕ) (x : AtomParts × List ℕ) → IsEnd body left → atom_at kind left ≡ Ok x → atom_held kind body (place_of body left) ≡ x.0
  front-held left x end read = ap atom_read (front-read left x end read)

  end-atom : (left : List ℕ) (x : AtomParts × List ℕ) → IsEnd body left → atom_at kind left ≡ Ok x → IsEnd body x.1
  end-atom left x end read = let found = atom_found kind left x read in end-behind body left found.0 x.1 found.2 end

  held-more-atoms : (places : List ℕ) (place : ℕ) → atoms_held kind body (places ++ place ∷ []) ≡ atoms_held kind body places ++ atom_held kind body place ∷ []
  held-more-atoms [] place = refl
  held-more-atoms (p ∷ places) place = ap (λ t. atom_held kind body p ∷ t) (held-more-atoms places place)

  -- the atoms before this one were read
  pub record AtAtom (text left old new : List ℕ) : Type 0 where
    pub fuel : ℕ
    pub enough : length left < fuel
    pub before : List ℕ
    pub further : List ℕ
    pub added : new ≡ old ++ further
    pub places : place_of body text ∷ further ≡ before ++ place_of body left ∷ []
    pub atoms : HaveAtoms kind body before
    pub rise : Rise (place_of body text) (place_of body left) before
    pub ends : IsEnd body left
    pub room : length left ≤ length text
    pub told : with_front (atoms_held kind body before) (group_at fuel kind left) ≡ group_at (length text + 1) kind text

  pub first_atom : (text old : List ℕ) → IsEnd body text → AtAtom text text old old
  first_atom text old end = record {
    fuel = length text + 1;
    enough = omega arith;
    before = [];
    further = [];
    added = sym (append-none old);
    places = refl;
    atoms = All-nil (HasAtom kind body);
    rise = omega arith;
    ends = end;
    room = omega arith;
    told = none (group_at (length text + 1) kind text);
  }
    where
      append-none : (xs : List ℕ) → xs ++ [] ≡ xs
      append-none [] = refl
      append-none (x ∷ xs) = ap (λ t. x ∷ t) (append-none xs)

      none : (r : Result (List AtomParts × List ℕ) RelationFault) → with_front [] r ≡ r
      none (Ok x) = refl
      none (Err e) = refl

  pub one-less : (n left : ℕ) → left < n → n ≡ suc (n - 1)
  one-less n left lt = omega (arith, lt)

  pub last_atom : (text left old new : List ℕ) (x : AtomParts × List ℕ) → AtAtom text left old new → atom_at kind left ≡ Ok x → length x.1 < length left
      → None ≡ behind_byte bar (rest is_whitespace x.1) → ReadsGroup kind body text old new x.1
  last_atom text left old new x at read short none =
      let here = front-atom left x at.ends read in
      let all : HaveAtoms kind body (place_of body text ∷ at.further) = subst (HaveAtoms kind body) (sym at.places) (All-push (HasAtom kind body) at.before (place_of body left) at.atoms here) in
      let end = end-atom left x at.ends read in
      let rises : Rise (place_of body text) (place_of body x.1) (place_of body text ∷ at.further) = subst (Rise (place_of body text) (place_of body x.1)) (sym at.places)
      (rise-append (place_of body text) (place_of body left) (place_of body x.1) at.before (place_of body left ∷ []) at.rise (omega arith, omega (arith, short, end-size body left at.ends))) in
      record {
        further = at.further;
        added = at.added;
        first_atom = All-head (HasAtom kind body) (place_of body text) at.further all;
        further_atoms = All-tail (HasAtom kind body) (place_of body text) at.further all;
        rise = rises.1;
        ends = end;
        shorter = omega (arith, short, at.room);
        read = group_ends (atoms_held kind body at.before) at.fuel (at.fuel - 1) kind left x _ (one-less at.fuel (length left) at.enough) read none at.told
            ∙ ap (λ t. Ok (t, x.1)) (ap (λ a. atoms_held kind body at.before ++ a ∷ []) (sym (front-held left x at.ends read)) ∙ sym (held-more-atoms at.before (place_of body left)) ∙ ap (atoms_held kind body) (sym at.places));
      }

  pub next_ends : (left bared next : List ℕ) (x : AtomParts × List ℕ) → IsEnd body left → atom_at kind left ≡ Ok x → Some bared ≡ behind_byte bar (rest is_whitespace x.1) → next ≡ rest is_whitespace bared → IsEnd body next
  next_ends left bared next x end read some blanks =
      end-blanks body bared next blanks (end-byte body (rest is_whitespace x.1) bared bar some (end-blanks body x.1 (rest is_whitespace x.1) refl (end-atom left x end read)))

  pub next_atom : (text left old new bared next more : List ℕ) (x : AtomParts × List ℕ) → AtAtom text left old new → atom_at kind left ≡ Ok x → length x.1 < length left
      → Some bared ≡ behind_byte bar (rest is_whitespace x.1) → has_alternatives kind ≡ true → next ≡ rest is_whitespace bared → length next < length left
      → more ≡ new ++ place_of body next ∷ [] → AtAtom text next old more
  next_atom text left old new bared next more x at read short some allowed blanks less pushed =
      let end = next_ends left bared next x at.ends read some blanks in
      record {
        fuel = at.fuel - 1;
        enough = omega (arith, at.enough, less);
        before = at.before ++ place_of body left ∷ [];
        further = at.further ++ place_of body next ∷ [];
        added = pushed ∙ ap (λ t. t ++ place_of body next ∷ []) at.added ∙ append_assoc old at.further (place_of body next ∷ []);
        places = ap (λ t. t ++ place_of body next ∷ []) at.places;
        atoms = All-push (HasAtom kind body) at.before (place_of body left) at.atoms (front-atom left x at.ends read);
        rise = rise-append (place_of body text) (place_of body left) (place_of body next) at.before (place_of body left ∷ []) at.rise (omega arith, omega (arith, less, end-size body left at.ends));
        ends = end;
        room = omega (arith, at.room, less);
        told = ap (λ t. with_front t (group_at (at.fuel - 1) kind next)) (held-more-atoms at.before (place_of body left) ∙ ap (λ a. atoms_held kind body at.before ++ a ∷ []) (front-held left x at.ends read))
            ∙ ap (λ t. with_front (atoms_held kind body at.before ++ x.0 ∷ []) (group_at (at.fuel - 1) kind t)) blanks
            ∙ group_goes_on (atoms_held kind body at.before) at.fuel (at.fuel - 1) kind left x bared _ (one-less at.fuel (length left) at.enough) read some allowed at.told;
      }

  -- ---- groups

  -- the groups before this place were read
  pub record AtGroup (left starts further : List ℕ) : Type 0 where
    pub fuel : ℕ
    pub enough : length left < fuel
    pub first_atoms : HaveAtoms kind body starts
    pub further_atoms : HaveAtoms kind body further
    pub starts_rise : Rise 0 (place_of body left) starts
    pub further_rise : Rise 0 (place_of body left) further
    pub none : length starts ≡ 0 → length further ≡ 0
    pub ends : IsEnd body left
    pub told : behind (groups_held kind body starts further) (groups_at fuel kind left) ≡ relations_of kind body

  pub at_start : (starts further : List ℕ) → starts ≡ [] → further ≡ [] → AtGroup body starts further
  at_start starts further s f = subst (λ t. AtGroup body t further) (sym s) (subst (λ t. AtGroup body [] t) (sym f) (record {
    fuel = length body + 1;
    enough = omega arith;
    first_atoms = All-nil (HasAtom kind body);
    further_atoms = All-nil (HasAtom kind body);
    starts_rise = omega arith;
    further_rise = omega arith;
    none = λ e. refl;
    ends = end-all body;
    told = unread (groups_at (length body + 1) kind body);
  }))
    where
      unread : (r : Result (List (List AtomParts)) RelationFault) → behind [] r ≡ r
      unread (Ok x) = refl
      unread (Err e) = refl

  -- what was read so far is held
  so_far : (left starts further : List ℕ) → length body < 2 ^ 32 → AtGroup left starts further → AreHeld kind body starts further
  so_far left starts further short at = record {
    first_atoms = at.first_atoms;
    further_atoms = at.further_atoms;
    starts_rise = rise-high 0 (place_of body left) (2 ^ 32) starts (omega (arith, short)) at.starts_rise;
    further_rise = rise-high 0 (place_of body left) (2 ^ 32) further (omega (arith, short)) at.further_rise;
  }

  pub all_read : (left starts further : List ℕ) → length body < 2 ^ 32 → AtGroup left starts further → relations_of kind body ≡ Ok (groups_held kind body starts further) → ReadsField kind body starts further
  all_read left starts further short at read = record {
    held = so_far left starts further short at;
    few = omega (arith, short, rise-length 0 (place_of body left) starts at.starts_rise);
    read = read;
  }

  -- a group more is held, before what is left
  pub record AreAdded (group : List AtomParts) (left starts further pushed more : List ℕ) : Type 0 where
    pub first_atoms : HaveAtoms kind body pushed
    pub further_atoms : HaveAtoms kind body more
    pub starts_rise : Rise 0 (place_of body left) pushed
    pub further_rise : Rise 0 (place_of body left) more
    pub none : length pushed ≡ 0 → length more ≡ 0
    pub groups : groups_held kind body pushed more ≡ groups_held kind body starts further ++ group ∷ []

  pub group_added : (left text after starts further pushed more : List ℕ) → AtGroup left starts further → IsEnd body text → length text ≤ length left
      → (group : ReadsGroup kind body text further more after) → pushed ≡ starts ++ place_of body text ∷ [] → AreAdded (atoms_held kind body (place_of body text ∷ group.further)) after starts further pushed more
  group_added left text after starts further pushed more at end le group e =
      let place : ℕ = place_of body text in
      let starts_rise : Rise 0 place starts = rise-high 0 (place_of body left) place starts (omega (arith, le)) at.starts_rise in
      let further_rise : Rise 0 place further = rise-high 0 (place_of body left) place further (omega (arith, le)) at.further_rise in
      let further_behind : Rise place (place_of body after) group.further = rise-low (suc place) place (place_of body after) group.further (omega arith) group.rise in
      let later : suc place ≤ place_of body after = rise-bounds (suc place) (place_of body after) group.further group.rise in
      record {
        first_atoms = subst (HaveAtoms kind body) (sym e) (All-push (HasAtom kind body) starts place at.first_atoms group.first_atom);
        further_atoms = subst (HaveAtoms kind body) (sym group.added) (All-append (HasAtom kind body) further group.further at.further_atoms group.further_atoms);
        starts_rise = subst (Rise 0 (place_of body after)) (sym e) (rise-append 0 place (place_of body after) starts (place ∷ []) starts_rise (omega arith, later));
        further_rise = subst (Rise 0 (place_of body after)) (sym group.added) (rise-append 0 place (place_of body after) further group.further further_rise further_behind);
        none = λ z. absurd (omega (arith, z, ap (λ (t : List ℕ). length t) e, length-append starts (place ∷ [])));
        groups = ap₂ (groups_held kind body) e group.added ∙ held-push kind body (place_of body after) place starts further group.further starts_rise further_rise at.none group.rise;
      }

  -- no comma and not the end comes first, so a group does
  pub record IsGroupDue (left text : List ℕ) : Type 0 where
    pub blanks : text ≡ rest is_whitespace left
    pub no_comma : None ≡ behind_byte comma text
    pub some : (length text == 0) ≡ false

  due-size : (left text : List ℕ) → text ≡ rest is_whitespace left → length text ≤ length left
  due-size left text e = omega (arith, ap (λ (t : List ℕ). length t) e, length-drop (prefix_len is_whitespace left) left)

  pub group_fault : (left text starts further : List ℕ) (why : RelationFault) → AtGroup left starts further → IsGroupDue left text → group_at (length text + 1) kind text ≡ Err why → relations_of kind body ≡ Err why
  group_fault left text starts further why at due bad =
      groups_fail (groups_held kind body starts further) kind left text (relations_of kind body) at.fuel (at.fuel - 1) why (one-less at.fuel (length left) at.enough) due.blanks due.no_comma due.some bad at.told

  -- behind the group that was read comes no comma: the field ends there, or is at fault
  pub group_last : (left text after rested starts further pushed more : List ℕ) (ended : Bool) → AtGroup left starts further → IsGroupDue left text
      → (group : ReadsGroup kind body text further more after) → pushed ≡ starts ++ place_of body text ∷ [] → rested ≡ rest is_whitespace after → None ≡ behind_byte comma rested → (length rested == 0) ≡ ended
      → relations_of kind body ≡ cond ended (Ok (groups_held kind body pushed more)) (Err fault.Name)
  group_last left text after rested starts further pushed more ended at due group e blanks no_comma end =
      let added = group_added left text after starts further pushed more at (end-blanks body left text due.blanks at.ends) (due-size left text due.blanks) group e in
      groups_end (groups_held kind body starts further) kind left text rested (relations_of kind body) at.fuel (at.fuel - 1) _ ended (one-less at.fuel (length left) at.enough) due.blanks due.no_comma due.some group.read blanks no_comma end at.told
      ∙ ap (λ g. cond ended (Ok g) (Err fault.Name)) (sym added.groups)

  pub last_read : (left text after rested starts further pushed more : List ℕ) → length body < 2 ^ 32 → AtGroup left starts further → IsGroupDue left text
      → ReadsGroup kind body text further more after → pushed ≡ starts ++ place_of body text ∷ [] → rested ≡ rest is_whitespace after → None ≡ behind_byte comma rested → (length rested == 0) ≡ true
      → ReadsField kind body pushed more
  last_read left text after rested starts further pushed more short at due group e blanks no_comma end =
      let added = group_added left text after starts further pushed more at (end-blanks body left text due.blanks at.ends) (due-size left text due.blanks) group e in
      record {
        held = record {
          first_atoms = added.first_atoms;
          further_atoms = added.further_atoms;
          starts_rise = rise-high 0 (place_of body after) (2 ^ 32) pushed (omega (arith, short)) added.starts_rise;
          further_rise = rise-high 0 (place_of body after) (2 ^ 32) more (omega (arith, short)) added.further_rise;
        };
        few = omega (arith, short, rise-length 0 (place_of body after) pushed added.starts_rise);
        read = group_last left text after rested starts further pushed more true at due group e blanks no_comma end;
      }

  pub next_group : (left text after rested next starts further pushed more : List ℕ) → AtGroup left starts further → IsGroupDue left text
      → ReadsGroup kind body text further more after → pushed ≡ starts ++ place_of body text ∷ [] → rested ≡ rest is_whitespace after → Some next ≡ behind_byte comma rested → length next < length rested
      → AtGroup next pushed more
  next_group left text after rested next starts further pushed more at due group e blanks some less =
      let size = due-size left text due.blanks in
      let rest_size = due-size after rested blanks in
      let added = group_added left text after starts further pushed more at (end-blanks body left text due.blanks at.ends) size group e in
      let fewer : length next ≤ length after = omega (arith, less, rest_size) in
      record {
        fuel = at.fuel - 1;
        enough = omega (arith, at.enough, size, group.shorter, less, rest_size);
        first_atoms = added.first_atoms;
        further_atoms = added.further_atoms;
        starts_rise = rise-high 0 (place_of body after) (place_of body next) pushed (omega (arith, fewer)) added.starts_rise;
        further_rise = rise-high 0 (place_of body after) (place_of body next) more (omega (arith, fewer)) added.further_rise;
        none = added.none;
        ends = end-byte body rested next comma some (end-blanks body after rested blanks group.ends);
        told = ap (λ g. behind g (groups_at (at.fuel - 1) kind next)) added.groups
            ∙ groups_go_on (groups_held kind body starts further) kind left text rested next (relations_of kind body) at.fuel (at.fuel - 1) _ (one-less at.fuel (length left) at.enough) due.blanks due.no_comma due.some group.read blanks some at.told;
      }

  -- a comma, and no group before it
  pub skip_comma : (left text next starts further : List ℕ) → AtGroup left starts further → text ≡ rest is_whitespace left → Some next ≡ behind_byte comma text → length next < length text → AtGroup next starts further
  skip_comma left text next starts further at blanks some less =
      let size = due-size left text blanks in
      let fewer : length next ≤ length left = omega (arith, less, size) in
      record {
        fuel = at.fuel - 1;
        enough = omega (arith, at.enough, size, less);
        first_atoms = at.first_atoms;
        further_atoms = at.further_atoms;
        starts_rise = rise-high 0 (place_of body left) (place_of body next) starts (omega (arith, fewer)) at.starts_rise;
        further_rise = rise-high 0 (place_of body left) (place_of body next) further (omega (arith, fewer)) at.further_rise;
        none = at.none;
        ends = end-byte body text next comma some (end-blanks body left text blanks at.ends);
        told = groups_skip (groups_held kind body starts further) kind left text next (relations_of kind body) at.fuel (at.fuel - 1) (one-less at.fuel (length left) at.enough) blanks some at.told;
      }

  -- the end of the field behind a comma, or at once
  pub no_more : (left text starts further : List ℕ) → length body < 2 ^ 32 → AtGroup left starts further → text ≡ rest is_whitespace left → None ≡ behind_byte comma text → (length text == 0) ≡ true → ReadsField kind body starts further
  no_more left text starts further short at blanks no_comma end =
      all_read left starts further short at
      (groups_done (groups_held kind body starts further) kind left text (relations_of kind body) at.fuel (at.fuel - 1) (one-less at.fuel (length left) at.enough) blanks no_comma end at.told)
