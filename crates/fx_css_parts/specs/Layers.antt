-- Texts that are separated by commas, as selectors, paints and sides are: first the grammar, then the reading.
-- A comma inside parentheses, as in `rgb(1,2,3)`, separates nothing.
use Rattle.std.specs.Prelude.{◌≡◌, ℕ, suc, ◌+◌, ◌-◌, Bool, true, not, ◌&&◌, ◌==◌, if◌then◌else◌, List, [], ◌∷◌, ◌++◌, take, drop, Option, Some, None, IsTrue}
use Rattle.std.specs.Option.{option_and_then, option_map}
use Rattle.fx_text.specs.Characters.{comma, left_parenthesis, right_parenthesis}
use Rattle.fx_css_parts.specs.Texts.{IsBetweenWhite}
use Rattle.fx_text.specs.Trimming.{trimmed}

-- how many parentheses are open behind a byte, and behind a text
abbrev pub depth_behind : ℕ → ℕ → ℕ
depth_behind depth c = if c == left_parenthesis then depth + 1
    else (if c == right_parenthesis then depth - 1 else depth)

abbrev pub depth_after : ℕ → List ℕ → ℕ
depth_after depth [] = depth
depth_after depth (c ∷ cs) = depth_after (depth_behind depth c) cs

abbrev pub separates : ℕ → ℕ → Bool
separates depth c = (c == comma) && (depth == 0)

-- no comma stands outside parentheses
abbrev pub is_one : ℕ → List ℕ → Bool
is_one depth [] = true
is_one depth (c ∷ cs) = not (separates depth c) && is_one (depth_behind depth c) cs

-- what a text spells that is separated by commas outside parentheses, with white round each part
pub data Separated {A : Type 0} (Spells : List ℕ → A → Type 0) : List ℕ → List A → Type 0 where
  last : (text : List ℕ) (x : A) → IsTrue (is_one 0 text) → IsBetweenWhite Spells text x
      → Separated Spells text (x ∷ [])
  more : (text part rest : List ℕ) (x : A) (xs : List A) → text ≡ part ++ (comma ∷ rest)
      → IsTrue (is_one 0 part) → depth_after 0 part ≡ 0
      → IsBetweenWhite Spells part x → Separated Spells rest xs → Separated Spells text (x ∷ xs)

-- the reading

-- the length of the first part
abbrev pub part_length : ℕ → List ℕ → ℕ
part_length depth [] = 0
part_length depth (c ∷ cs) = if separates depth c then 0 else suc (part_length (depth_behind depth c) cs)

-- the first part, and what is behind the comma behind it
abbrev pub first_part : List ℕ → List ℕ
first_part text = take (part_length 0 text) text

abbrev pub behind_comma : List ℕ → Option (List ℕ)
behind_comma [] = None
behind_comma (c ∷ cs) = Some cs

abbrev pub behind_part : List ℕ → Option (List ℕ)
behind_part text = behind_comma (drop (part_length 0 text) text)

abbrev pub onto_first : ℕ → List (List ℕ) → List (List ℕ)
onto_first c [] = []
onto_first c (part ∷ parts) = (c ∷ part) ∷ parts

abbrev pub parts : ℕ → List ℕ → List (List ℕ)
parts depth [] = [] ∷ []
parts depth (c ∷ cs) = if separates depth c then [] ∷ parts 0 cs else onto_first c (parts (depth_behind depth c) cs)

abbrev pub each_at : {A : Type 0} → (List ℕ → Option A) → List (List ℕ) → Option (List A)
each_at read [] = Some []
each_at read (part ∷ parts) =
    option_and_then (λ x. option_map (λ xs. x ∷ xs) (each_at read parts)) (read (trimmed part))

abbrev pub separated_at : {A : Type 0} → (List ℕ → Option A) → List ℕ → Option (List A)
separated_at read text = each_at read (parts 0 text)

-- of a text that is left, or none
abbrev pub left_at : {A : Type 0} → (List ℕ → Option A) → Option (List ℕ) → Option (List A)
left_at read None = Some []
left_at read (Some rest) = separated_at read rest
