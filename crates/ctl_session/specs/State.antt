-- What a session holds.
use Rattle.std.specs.Prelude.{ℕ}
use Rattle.ctl_store.specs.declared.limits.Limits.{Limits}
use Rattle.ctl_store.specs.State.{State}
use Rattle.ctl_store.specs.Store.{state_of}
use Rattle.ctl_index.specs.HeldCache.{HeldCache}

-- What commands work on: what a store holds, and its limits. The definitions of commands, outcomes and runs speak of it alone.
pub record CacheState : Type 0 where
  pub store : State
  pub limits : Limits

-- That of a cache. How many tests it made isn't in it, nor whether its tables are out of date: no command depends on them.
abbrev pub cache_state : HeldCache → CacheState
cache_state cache = record { store = state_of cache.store; limits = cache.store.limits }

-- a session: its cache, and how many lines a run of it may read
pub record SessionState : Type 0 where
  pub cache : HeldCache
  pub max_lines : ℕ
