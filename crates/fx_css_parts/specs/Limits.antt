-- Where the parts of a text begin, and the first of them that is past a limit.
use Rattle.std.specs.Prelude.{ℕ, ◌+◌, Bool, true, false, ◌||◌, ◌==◌, nat_le, if◌then◌else◌, List, [], ◌∷◌, length, Option, Some, None, slice_get}
use Rattle.std.specs.List.{find}
use Rattle.std.specs.Option.{option_map}
use Rattle.fx_text.specs.Characters.{comma}
use Rattle.fx_look.specs.declared.styles.StyleForm.{StyleForm}
use Rattle.fx_look.specs.declared.styles.StyleForm.TheVariants as form
use Rattle.fx_css_parts.specs.Layers.{separates, depth_behind}
use Rattle.fx_css_parts.specs.Selecting.{is_gap}
use Rattle.fx_css_parts.specs.Declaring.{not_colon}
use Rattle.fx_text.specs.Classes.{is_white}
use Rattle.fx_text.specs.Fronts.{front, behind}
use Rattle.fx_text.specs.Trimming.{trimmed}
use Rattle.fx_css_types.specs.Limits.{form_of}

-- the place of a compound's first byte, the number of its selector and its own number in it, from 0
pub record Start : Type 0 where
  pub place : ℕ
  pub selector : ℕ
  pub compound : ℕ

-- behind so many selectors and so many compounds of the next one, within a compound or not, from a place on
abbrev pub starts : Bool → ℕ → ℕ → ℕ → List ℕ → List Start
starts within selector compound place [] = []
starts within selector compound place (c ∷ cs) = if c == comma then starts false (selector + 1) 0 (place + 1) cs
    else (if is_gap c then starts false selector compound (place + 1) cs
    else (if within then starts true selector compound (place + 1) cs
    else (record { place = place; selector = selector; compound = compound })
    ∷ starts true selector (compound + 1) (place + 1) cs))

-- of the 65th selector, or the 17th compound of one
abbrev pub is_past : Start → Bool
is_past s = nat_le 64 s.selector || nat_le 16 s.compound

abbrev pub past_in_selectors : List ℕ → Option ℕ
past_in_selectors text = option_map (λ s. s.place) (find is_past (starts false 0 0 0 text))

-- the places where layers begin: of each, its first byte that isn't white
abbrev pub layer_starts : Bool → ℕ → ℕ → List ℕ → List ℕ
layer_starts within depth place [] = []
layer_starts within depth place (c ∷ cs) = if separates depth c then layer_starts false 0 (place + 1) cs
    else (if within || is_white c then layer_starts within (depth_behind depth c) (place + 1) cs
    else place ∷ layer_starts true (depth_behind depth c) (place + 1) cs)

abbrev pub is_layered : StyleForm → Bool
is_layered form.Paints = true
is_layered form.SidesList = true
is_layered _ = false

abbrev pub has_layers : Option StyleForm → Bool
has_layers None = false
has_layers (Some f) = is_layered f

-- the place of the ninth layer of a value that begins at a place
abbrev pub past_in_value : Option StyleForm → ℕ → List ℕ → Option ℕ
past_in_value f place value = if has_layers f then slice_get (layer_starts false 0 place value) 8 else None

abbrev pub past_behind : Option StyleForm → ℕ → List ℕ → Option ℕ
past_behind f place [] = None
past_behind f place (c ∷ cs) = past_in_value f (place + 1) cs

abbrev pub past_in_declaration : List ℕ → Option ℕ
past_in_declaration text =
    past_behind (form_of (trimmed (front not_colon text))) (length (front not_colon text)) (behind not_colon text)
