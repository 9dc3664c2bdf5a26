-- Queues, whose lists are as long as they are.
use Rattle.std.proofs.Common.{◌≡◌, ℕ, ◌<◌, Option, None, Some, Global, get_or, length, sym, arith}
use Rattle.std.proofs.lemmas.Bool.{true≢false}
use Rattle.std.proofs.lemmas.List.{get_or_read_under}
use Rattle.std.specs.Prelude.{◌↔◌, IsSome, OnSome}
use Rattle.std.specs.List.{remove}
use Rattle.std.specs.VecDeque.{deque_len}
use Rattle.std.specs.declared.collections.VecDeque.{VecDeque}

module _ (old : VecDeque ℕ Global) (at : ℕ) where
  -- what is taken out at a place of the list is out of it
  pub taken : (new : VecDeque ℕ Global) (r : Option ℕ) → at < length old.items → IsSome r ↔ (at < deque_len old) → OnSome r (new.items ≡ remove old.items at) → new.items ≡ remove old.items at
  taken new (Some s) l v e = e
  taken new None l v e = absurd (true≢false (sym (v.1 (let ok = old.ok in omega (arith, l)))))

  pub inside : at < deque_len old → at < length old.items
  inside l = let ok = old.ok in omega (arith, l)

  -- what is read at a place
  pub read : (s : ℕ) → s ≡ get_or old.items at s → at < deque_len old → s ≡ get_or old.items at 0
  read s e l = get_or_read_under old.items at (deque_len old) s 0 e l old.ok.0
