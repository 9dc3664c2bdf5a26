-- A list that is read from a source.
use Rattle.std.proofs.Common.{◌≡◌, ◌≢◌, ◌⊎◌, ◌∙◌, inl, inr, if◌then◌else◌, ℕ, ◌+◌, ◌<◌, ◌≤◌, ◌^◌, List, [], ◌++◌, Option, Result, Ok, Err, Vec, length, Bool, true, eqb, ◌∷◌, refl, sym, ap, arith, subst, append-nil}
use Rattle.std.specs.declared.alloc.Global.{Global}
use Rattle.std.specs.Io.KnownBytes.{Consumes, IsAtEnd}
use Rattle.std.proofs.KnownBytes.{Consumes-trans}
use Rattle.std.proofs.lemmas.List.{length-append}
use Rattle.ctl_stanza.specs.declared.list_kind.ListKind.{ListKind}
use Rattle.ctl_stanza.specs.declared.fault.TextFault.{TextFault}
use Rattle.ctl_stanza.specs.declared.fault.Cause.TheVariants as causes
use Rattle.ctl_stanza.specs.Content.{Content}
use Rattle.ctl_stanza.specs.InParts.{Reading, IsReading}
use Rattle.ctl_stanza.specs.Text.{read_text}
use Rattle.ctl_stanza.specs.declared.fault.Cause.{Cause}
use Rattle.std.proofs.lemmas.Bool.{cases_Bool, eqb-true}
use Rattle.ctl_relation.specs.Names.{is_name}
use Rattle.ctl_store.specs.declared.list_class.ListClass.TheVariants.{Plain}
use Rattle.ctl_store.specs.declared.refusal.Refusal.TheVariants.{Memory, Name}
use Rattle.ctl_session.specs.State.{CacheState}
use Rattle.ctl_session.specs.Outcome.{Outcome, Refused}
use Rattle.ctl_session.specs.Effect.{contents_of, list_added, loaded, read_loaded, refusal_by}
use Rattle.ctl_session.specs.Replies.{LoadCameTo, outcome_of_load}
use Rattle.ctl_session.specs.declared.load_fault.LoadFault.{LoadFault}
use Rattle.ctl_session.specs.Loading.{ReadsAs, ReadsSoFar, ReadsList, GaveTooMuch, LoadsText}
use Rattle.ctl_session.proofs.WholeLemmas.{consumes_none}

-- so much of a source was read
pub record ListSoFar (kind : ListKind) (given given' : Option (List ℕ)) (count : ℕ) (reading : Result Reading TextFault) : Type 0 where
  pub text : List ℕ
  pub gave : Consumes given given' text
  pub counted : count ≡ length text
  pub reads : ReadsSoFar kind text reading

-- nothing was read yet
pub so_far_none : (kind : ListKind) (given : Option (List ℕ)) (reading : Reading) → IsReading kind 1 [] reading →
    ListSoFar kind given given 0 (Ok reading)
so_far_none kind given reading reads = record { text = []; gave = consumes_none given; counted = refl; reads = reads }

-- one block more
pub so_far_more : (kind : ListKind) (given mid new : Option (List ℕ)) (count size : ℕ) (pending block : List ℕ) (reading reading' : Result Reading TextFault) →
    ListSoFar kind given mid count reading → Consumes mid new pending → block ≡ pending → size ≡ length block →
    ((kind : ListKind) (text : List ℕ) → ReadsSoFar kind text reading → ReadsSoFar kind (text ++ block) reading') →
    ListSoFar kind given new (count + size) reading'
so_far_more kind given mid new count size pending block reading reading' so_far took same sized goes_on = record {
  text = so_far.text ++ block;
  gave = Consumes-trans given mid new so_far.text block so_far.gave (subst (λ b. Consumes mid new b) (sym same) took);
  counted = omega (arith, so_far.counted, sized, length-append so_far.text block);
  reads = goes_on kind so_far.text so_far.reads;
}

-- the source has come to its end
pub reads_list : (kind : ListKind) (given mid new : Option (List ℕ)) (count : ℕ) (pending : List ℕ) (reading : Result Reading TextFault)
    (read : Result (Vec Content Global) TextFault) → ListSoFar kind given mid count reading → Consumes mid new pending → pending ≡ [] →
    (pending ≡ [] → IsAtEnd new) → count < 2 ^ 32 →
    ((kind : ListKind) (text : List ℕ) → ReadsSoFar kind text reading → ReadsAs read (read_text kind 1 text)) → ReadsList kind given new read
reads_list kind given mid new count pending reading read so_far took none end few reads = record {
  text = so_far.text;
  gave = subst (λ t. Consumes given new t) (append-nil so_far.text)
      (Consumes-trans given mid new so_far.text [] so_far.gave (subst (λ p. Consumes mid new p) none took));
  end = end none;
  within = omega (arith, so_far.counted, few);
  holds = reads kind so_far.text so_far.reads;
}

-- a block without a byte was the last
pub no_block : (pending block : List ℕ) (b : Bool) → block ≡ pending → b ≡ eqb (length block) 0 → b ≡ true → pending ≡ []
no_block pending [] b same tested holds = sym same
no_block pending (x ∷ block) b same tested holds =
    let none : length (x ∷ block) ≡ 0 = eqb-true (length (x ∷ block)) 0 (sym tested ∙ holds) in absurd (omega (arith, none))

-- the source gave too much
pub gave_too_much : (kind : ListKind) (given mid new : Option (List ℕ)) (count size : ℕ) (pending block : List ℕ) (reading : Result Reading TextFault) →
    ListSoFar kind given mid count reading → Consumes mid new pending → block ≡ pending → size ≡ length block → 2 ^ 32 ≤ count + size →
    GaveTooMuch given new
gave_too_much kind given mid new count size pending block reading so_far took same sized many = record {
  bytes = so_far.text ++ block;
  gave = Consumes-trans given mid new so_far.text block so_far.gave (subst (λ b. Consumes mid new b) (sym same) took);
  more = omega (arith, so_far.counted, sized, many, length-append so_far.text block);
}

-- a fault that was told is that of the text
pub fault_is_told : (kind : ListKind) (text : List ℕ) (reading : Result Reading TextFault) (fault : TextFault) → reading ≡ Err fault →
    ReadsSoFar kind text reading → ReadsAs (Err fault) (read_text kind 1 text)
fault_is_told kind text reading fault is reads =
    let same : ReadsSoFar kind text (Err fault) = subst (ReadsSoFar kind text) is reads in
    (λ told. subst (λ t. read_text kind 1 t ≡ Err fault) (append-nil text) (same.1 told []), same.0)

-- ---- what a load comes to, by what was read

no_memory : (cause : Cause) → (cause ≡ causes.Memory) ⊎ (cause ≢ causes.Memory)
no_memory causes.Memory = inl refl
no_memory causes.TooLong = inr (λ e. cc e)
no_memory causes.Line = inr (λ e. cc e)
no_memory causes.FieldTwice = inr (λ e. cc e)
no_memory causes.Missing = inr (λ e. cc e)
no_memory causes.Name = inr (λ e. cc e)
no_memory causes.Version = inr (λ e. cc e)
no_memory causes.Relation = inr (λ e. cc e)
no_memory causes.Priority = inr (λ e. cc e)
no_memory causes.Form = inr (λ e. cc e)

-- the outcome is that of what was read, or memory ran out
told_by_read : (old : CacheState) (name : List ℕ) (kind : ListKind) (text : List ℕ) (fault : TextFault) (outcome : Outcome) →
    (fault.cause ≡ causes.Memory → fault.line ≡ 0) → (fault.cause ≢ causes.Memory → read_text kind 1 text ≡ Err fault) →
    (outcome ≡ read_loaded old name kind (Err fault)) ⊎ (outcome ≡ Refused 0 Memory) →
    (outcome ≡ loaded old name kind text) ⊎ (outcome ≡ Refused 0 Memory)
told_by_read old name kind text fault outcome line reads (inr memory) = inr memory
told_by_read old name kind text fault outcome line reads (inl came) = elim (no_memory fault.cause) [
  | inr other ↦ inl (came ∙ sym (ap (read_loaded old name kind) (reads other)))
  | inl memory ↦ elim (cases_Bool (is_name name)) [
    | inr none ↦ inl (came ∙ ap (λ b. if b then Refused fault.line (refusal_by fault.cause) else Refused 0 Name) none
        ∙ sym (ap (λ b. if b then list_added old 0 name kind Plain text else Refused 0 Name) none))
    | inl is ↦ inr (came ∙ ap (λ b. if b then Refused fault.line (refusal_by fault.cause) else Refused 0 Name) is
        ∙ ap (λ l. Refused l (refusal_by fault.cause)) (line memory) ∙ ap (λ c. Refused 0 (refusal_by c)) memory)
  ]
]

pub loaded_if_read : (old new : CacheState) (name : List ℕ) (kind : ListKind) (text : List ℕ) (read : Result (Vec Content Global) TextFault)
    (result : Result Unit LoadFault) → ReadsAs read (read_text kind 1 text) →
    LoadCameTo result new (read_loaded old name kind (contents_of read)) → LoadCameTo result new (loaded old name kind text)
loaded_if_read old new name kind text (Ok stanzas) result reads came =
    subst (λ r. LoadCameTo result new (read_loaded old name kind r)) (sym reads.0) came
loaded_if_read old new name kind text (Err fault) result reads came =
    told_by_read old name kind text fault (outcome_of_load result new) reads.1 reads.0 came

-- the same of all that a source gave
pub loads_text : (given given' : Option (List ℕ)) (old new : CacheState) (name : List ℕ) (kind : ListKind)
    (read : Result (Vec Content Global) TextFault) (result : Result Unit LoadFault) → ReadsList kind given given' read →
    LoadCameTo result new (read_loaded old name kind (contents_of read)) → LoadsText given given' result old new name kind
loads_text given given' old new name kind read result reads came = record {
  text = reads.text;
  gave = reads.gave;
  end = reads.end;
  within = reads.within;
  holds = loaded_if_read old new name kind reads.text read result reads.holds came;
}
