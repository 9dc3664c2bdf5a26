-- The names that an edit touches: those of a list that comes are told by their rows.
use Rattle.std.proofs.Common.{◌≡◌, ℕ, false, List, [], ◌∷◌, map, Some, slice_get, ap, sym, subst, ◌∙◌}
use Rattle.ctl_stanza.specs.declared.list_kind.ListKind.{ListKind}
use Rattle.ctl_stanza.specs.Content.{Content}
use Rattle.ctl_store.specs.declared.list_class.ListClass.{ListClass}
use Rattle.ctl_store.specs.declared.stanza_key.StanzaKey.{StanzaKey}
use Rattle.ctl_store.specs.Edits.{Edit, AddList, DropList, Put, Remove, Mark, Unmark, Pin, Unpin, Target, Prefs}
use Rattle.ctl_store.specs.Keys.{key_of, added_of, keyed_after}
use Rattle.ctl_store.specs.Plans.{Planned, IsReady}
use Rattle.ctl_store.specs.Slots.{slots_from}
use Rattle.ctl_store.specs.Store.{Held, keyed_of}
use Rattle.ctl_policy.specs.Rows.{Rows, AreRowsOf, has_list}
use Rattle.ctl_policy.specs.Touched.{IsAccepted, IsNotTouched, TouchesOnly}
use Rattle.ctl_index.specs.Inside.TablesByName.{NameMap, rows_under}
use Rattle.ctl_index.specs.Inside.TablesTouched.{Covers, is_touched}
use Rattle.ctl_index.specs.declared.touched.Touched.{Touched}
use Rattle.ctl_index.specs.declared.touched.Touched.TheVariants.{OfList, Names}

-- ---- what is touched

-- the first key of a list that comes has its serial
first_serial : (serial : ℕ) (slots : List (ℕ × Content)) (first : StanzaKey) → slice_get (map (λ (slot : ℕ × Content). key_of serial slot.0) slots) 0 ≡ Some first → first.list ≡ serial
first_serial serial [] first e = cc
first_serial serial (slot ∷ slots) first e = ap (λ (k : StanzaKey). k.list) (sym (same e))
  where
    same : Some (key_of serial slot.0) ≡ Some first → key_of serial slot.0 ≡ first
    same e = cc

pub listed_first : (plan : Planned) (name : List ℕ) (kind : ListKind) (class : ListClass) (xs : List Content) → AddList name kind class xs ≡ plan.edit
    → (first : StanzaKey) → slice_get plan.added 0 ≡ Some first → (h : Held) → IsReady h plan → Covers (OfList first.list) h plan.edit
listed_first plan name kind class xs is first at h ready =
    let keys : plan.added ≡ added_of (keyed_of h) (AddList name kind class xs) = ready.added ∙ ap (added_of (keyed_of h)) (sym is) in
    subst (Covers (OfList first.list) h) is (first_serial h.next_list (slots_from 0 xs) first (ap (λ ks. slice_get ks 0) (sym keys) ∙ at))

-- what the rows of a name tell of a list that comes
abbrev pub TellTouched : Type 0
TellTouched = (h : Held) → (list : List ℕ) → (kind : ListKind) → (class : ListClass) → (stanzas : List Content) → (rows : Rows) → (name : List ℕ) → IsAccepted h (AddList list kind class stanzas)
    → AreRowsOf rows name (keyed_after (keyed_of h) (AddList list kind class stanzas)).lists → has_list h.next_list rows ≡ false → IsNotTouched name h (AddList list kind class stanzas)

pub touches_only : TellTouched → (h : Held) (touched : Touched) (edit : Edit) (m : NameMap) → IsAccepted h edit → Covers touched h edit
    → ((q : List ℕ) → AreRowsOf (rows_under m q) q (keyed_after (keyed_of h) edit).lists) → TouchesOnly (is_touched m touched) h edit
touches_only tell h (Names names) edit m a alone rows q none = alone q none
touches_only tell h (OfList list) (AddList name kind class xs) m a is rows q none = tell h name kind class xs (rows_under m q) q a (rows q) (ap (λ n. has_list n (rows_under m q)) (sym is) ∙ none)
touches_only tell h (OfList list) (DropList name) m a is rows q none = absurd is
touches_only tell h (OfList list) (Put name x) m a is rows q none = absurd is
touches_only tell h (OfList list) (Remove name removed version) m a is rows q none = absurd is
touches_only tell h (OfList list) (Mark name version) m a is rows q none = absurd is
touches_only tell h (OfList list) (Unmark name) m a is rows q none = absurd is
touches_only tell h (OfList list) (Pin s p) m a is rows q none = absurd is
touches_only tell h (OfList list) (Unpin s) m a is rows q none = absurd is
touches_only tell h (OfList list) (Target target) m a is rows q none = absurd is
touches_only tell h (OfList list) (Prefs pins) m a is rows q none = absurd is
