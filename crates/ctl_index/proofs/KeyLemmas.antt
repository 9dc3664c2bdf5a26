-- The order of the keys of stanzas.
use Rattle.std.proofs.Common.{◌≡◌, ℕ, ap, ◌∙◌, arith}
use Rattle.std.specs.Cmp.{IsTotalOrder, nat_cmp_total}
use Rattle.std.specs.Ordering.{nat_cmp, ordering_reverse, ordering_then}
use Rattle.std.specs.declared.cmp.Ordering.TheVariants.{Less, Equal, Greater}
use Rattle.std.proofs.lemmas.Bool.Decides.{nat_tests}
use Rattle.std.proofs.lemmas.Cmp.{on_total, then_total}
use Rattle.ctl_store.specs.declared.stanza_key.StanzaKey.{StanzaKey}
use Rattle.ctl_store.specs.Keys.{key_cmp}

pub keys_total : IsTotalOrder key_cmp
keys_total = then_total (on_total (λ (k : StanzaKey). k.list) nat_cmp_total) (on_total (λ (k : StanzaKey). k.stanza) nat_cmp_total)

pub nat_same : (a : ℕ) → nat_cmp a a ≡ Equal
nat_same a = grind (arith, nat_tests)

pub key_same : (k : StanzaKey) → key_cmp k k ≡ Equal
key_same k = λ i. ordering_then (nat_same k.list i) (nat_same k.stanza i)

pub turned : (a b : StanzaKey) → key_cmp a b ≡ Less → key_cmp b a ≡ Greater
turned a b h = keys_total.antisymm b a ∙ ap ordering_reverse h
