-- How a property's listeners are found: they stand together, since the listeners are sorted by property.
use Rattle.std.specs.Prelude.{ℕ, ◌==◌, ◌≡◌, ◌<◌, ◌≤◌, nat_lt, nat_le, Bool, true, false, ◌&&◌, List, length, AllPairs, slice_index_or}
use Rattle.fx_handles.specs.declared.Owner.{Owner}
use Rattle.fx_listen.specs.declared.entries.ListenKind.{ListenKind}
use Rattle.fx_listen.specs.declared.entries.Listener.{Listener}
use Rattle.fx_listen.specs.Listening.{is_live, same_kind}

-- no listener stands behind one on a later property
abbrev pub IsByName : List Listener → Type 0
IsByName listeners = AllPairs (λ (one other : Listener). one.name.0 ≤ other.name.0) listeners

abbrev pub is_on : ℕ → Listener → Bool
is_on name listener = listener.name.0 == name

-- it is on a property before this one
abbrev pub is_below : ℕ → Listener → Bool
is_below name listener = nat_lt listener.name.0 name

-- it is on this property or on one before
abbrev pub is_upto : ℕ → Listener → Bool
is_upto name listener = nat_le listener.name.0 name

-- it is on this property or on a later one
abbrev pub is_from : ℕ → Listener → Bool
is_from name listener = nat_le name listener.name.0

-- it is on a later property
abbrev pub is_above : ℕ → Listener → Bool
is_above name listener = nat_lt name listener.name.0

-- it is told in this way, and it lives
abbrev pub is_heard : List Owner → ListenKind → Listener → Bool
is_heard living kind listener = same_kind listener.kind kind && is_live living listener

-- the place is that of the first that passes the test
pub record IsFirst (test : Listener → Bool) (listeners : List Listener) (place : ℕ) : Type 0 where
  pub within : place < length listeners
  pub passes : (other : Listener) → test (slice_index_or listeners place other) ≡ true
  pub before : (earlier : ℕ) (other : Listener) → earlier < place
      → test (slice_index_or listeners earlier other) ≡ false
