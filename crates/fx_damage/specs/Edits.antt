-- Edits of a picture: new entries for some of its places.
use Rattle.std.specs.Prelude.{◌≡◌, ◌<◌, ℕ, true, List, [], ◌∷◌, map, slice_index_or, slice_set}
use Rattle.fx_damage.specs.Births.{RisesStrictly, is_among}
use Rattle.fx_damage.specs.declared.edits.Edit.{Edit}
use Rattle.fx_picture.specs.declared.entries.Entry.{Entry}

-- the entries after each edit was made
abbrev pub edited : List Edit → List Entry → List Entry
edited [] entries = entries
edited (e ∷ es) entries = edited es (slice_set entries e.place e.entry)

abbrev pub places_of : List Edit → List ℕ
places_of edits = map (λ (e : Edit). e.place) edits

-- the places rise and are those of entries
pub record AreEdits (edits : List Edit) (count : ℕ) : Type 0 where
  pub rise : RisesStrictly (places_of edits)
  pub within : (k : ℕ) → is_among (places_of edits) k ≡ true → k < count

-- what stood at the places of the edits, and what they put there
abbrev pub replaced : List Edit → List Entry → List Entry
replaced edits olds = map (λ (e : Edit). slice_index_or olds e.place e.entry) edits

abbrev pub entries_of : List Edit → List Entry
entries_of edits = map (λ (e : Edit). e.entry) edits
