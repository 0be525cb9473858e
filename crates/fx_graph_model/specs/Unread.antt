-- The properties whose value wasn't read since it may have changed, as flags, one for each name.
use Rattle.std.specs.Prelude.{ℕ, ◌+◌, ◌≡◌, Bool, true, false, not, if◌then◌else◌, ◌&&◌, ◌||◌, List, [], ◌∷◌, length, map, filter, slice_index_or, Contains}
use Rattle.std.specs.List.{list_any, range_with_len}
use Rattle.fx_graph_model.specs.declared.entries.Entry.{Entry}
use Rattle.fx_graph_model.specs.Uses.{uses, bound_in, leads}

abbrev pub marked : List Bool → ℕ → Bool
marked flags name = slice_index_or flags name false

-- the name is one of these, or reaches one
unfoldable pub leads_to_any : List Entry → List ℕ → ℕ → Bool
leads_to_any entries names name = list_any (leads entries name) names

-- these names changed: they and all that reach them are unread
abbrev pub after_marking : List Entry → List ℕ → List Bool → List Bool
after_marking entries names flags =
    map (λ (name : ℕ). marked flags name || leads_to_any entries names name) (range_with_len 0 (length flags))

-- those that weren't unread before, rising
abbrev pub newly_marked : List Entry → List ℕ → List Bool → List ℕ
newly_marked entries names flags =
    filter (λ (name : ℕ). not (marked flags name) && leads_to_any entries names name)
    (range_with_len 0 (length flags))

-- the name and all that it reaches are read
abbrev pub after_reading : List Entry → ℕ → List Bool → List Bool
after_reading entries name flags =
    map (λ (other : ℕ). marked flags other && not (leads entries name other)) (range_with_len 0 (length flags))

-- it is one of these names, or one of them reaches it
unfoldable pub is_reached : List Entry → List ℕ → ℕ → Bool
is_reached entries names other = list_any (λ (name : ℕ). leads entries name other) names

-- all of these names and all that they reach are read
abbrev pub after_reads : List Entry → List ℕ → List Bool → List Bool
after_reads entries names flags =
    map (λ (other : ℕ). marked flags other && not (is_reached entries names other)) (range_with_len 0 (length flags))

-- how many of these pass the test
abbrev pub tally : {X : Type 0} → (X → Bool) → List X → ℕ
tally test [] = 0
tally test (x ∷ xs) = (if test x then 1 else 0) + tally test xs

-- how many names aren't unread
unfoldable pub unmarked : List Bool → ℕ
unmarked flags = tally not flags

-- how many unread names are bound
unfoldable pub bound_unread : List Entry → List Bool → ℕ
bound_unread entries flags =
    tally (λ (name : ℕ). bound_in entries name && marked flags name) (range_with_len 0 (length entries))

-- how many unread bound names a read of this one may evaluate
unfoldable pub evaluations : List Entry → ℕ → List Bool → ℕ
evaluations entries name flags =
    tally (λ (other : ℕ). bound_in entries other && (marked flags other && leads entries name other))
    (range_with_len 0 (length entries))

-- how many of them a read of all these names may evaluate
unfoldable pub evaluations_of : List Entry → List ℕ → List Bool → ℕ
evaluations_of entries names flags =
    tally (λ (other : ℕ). bound_in entries other && (marked flags other && is_reached entries names other))
    (range_with_len 0 (length entries))

-- who uses an unread name is unread
abbrev pub IsClosed : List Entry → List Bool → Type 0
IsClosed entries flags =
    (user name : ℕ) → Contains (uses entries user) name → marked flags name ≡ true → marked flags user ≡ true

-- some of the names that a read of this one needs were read, and nothing else changed
pub record IsPartRead (entries : List Entry) (name : ℕ) (before now : List Bool) : Type 0 where
  pub flags : length now ≡ length before
  pub fewer : (other : ℕ) → marked now other ≡ true → marked before other ≡ true
  pub needed : (other : ℕ) → marked before other ≡ true → marked now other ≡ false
      → leads entries name other ≡ true
