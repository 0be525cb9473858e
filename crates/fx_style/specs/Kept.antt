-- What is kept from one update to the next, and what is made anew.
use Rattle.std.specs.Prelude.{ℕ, ◌≡◌, ◌==◌, Bool, true, ◌&&◌, List, [], ◌∷◌, slice_get, slice_set, Option, Some, None, option_and_then, if◌then◌else◌}
use Rattle.std.specs.List.{list_any, position}
use Rattle.std.specs.Option.{option_map}
use Rattle.fx_base.specs.Answers.{or_else}
use Rattle.fx_base.specs.declared.keys.NodeKey.{NodeKey}
use Rattle.fx_look.specs.declared.looks.Look.{Look}
use Rattle.fx_kinds.specs.declared.facts.StyleFacts.{StyleFacts}
use Rattle.fx_node_style.specs.declared.node_styles.NodeStyle.{NodeStyle}
use Rattle.fx_style.specs.declared.kept.Rest.{Rest}
use Rattle.fx_style.specs.declared.kept.Entry.{Entry}
use Rattle.fx_style.specs.declared.kept.Fresh.{Fresh}

-- one look and the rest of one entry for each node of the last update, in their order, and the places whose looks may
-- be others than before it
pub record Kept : Type 0 where
  pub looks : List Look
  pub rest : List Rest
  pub changed : List ℕ

abbrev pub entry : NodeKey → NodeStyle → Entry
entry key style = record { key = key; style = style }

abbrev pub joined : Option Look → Option Rest → Option Entry
joined (Some look) (Some rest) = Some (entry rest.key (record { look = look; paints = rest.paints }))
joined _ _ = None

-- the entry of a place
abbrev pub entry_in : List Look → List Rest → ℕ → Option Entry
entry_in looks rest at = joined (slice_get looks at) (slice_get rest at)

abbrev pub is_key : NodeKey → NodeKey → Bool
is_key one other = (one.slot == other.slot) && (one.birth == other.birth)

-- where a key stands
abbrev pub place_of_key : List Rest → NodeKey → Option ℕ
place_of_key rest key = position (λ (r : Rest). is_key r.key key) rest

abbrev pub style_of_entry : Option Entry → Option NodeStyle
style_of_entry o = option_map (λ (e : Entry). e.style) o

-- what is kept under a key
unfoldable pub kept_under : List Look → List Rest → NodeKey → Option NodeStyle
kept_under looks rest key =
    style_of_entry (option_and_then (entry_in looks rest) (place_of_key rest key))

-- what is kept under the key of a node
abbrev pub kept_at : List Look → List Rest → List StyleFacts → ℕ → Option NodeStyle
kept_at looks rest facts at =
    option_and_then (λ (node : StyleFacts). kept_under looks rest node.key) (slice_get facts at)

-- no two entries have one key
abbrev pub HaveDifferentKeys : List Rest → Type 0
HaveDifferentKeys rest =
    (i j : ℕ) (a b : Rest) → slice_get rest i ≡ Some a → slice_get rest j ≡ Some b → is_key a.key b.key ≡ true → i ≡ j

-- no two nodes have one key
abbrev pub AreDifferent : List StyleFacts → Type 0
AreDifferent facts =
    (i j : ℕ) (a b : StyleFacts) → slice_get facts i ≡ Some a → slice_get facts j ≡ Some b
    → is_key a.key b.key ≡ true → i ≡ j

abbrev pub is_among : List ℕ → ℕ → Bool
is_among places at = list_any (λ (place : ℕ). place == at) places

-- entries made anew, each for a place

abbrev pub if_at : Fresh → ℕ → Option Entry
if_at f at = if f.at == at then Some f.entry else None

-- the last one for a place
abbrev pub fresh_at : List Fresh → ℕ → Option Entry
fresh_at [] at = None
fresh_at (f ∷ fs) at = or_else (fresh_at fs at) (if_at f at)

-- what stands at a place once they are put there
abbrev pub planned_at : List Look → List Rest → List Fresh → ℕ → Option Entry
planned_at looks rest fresh at = or_else (fresh_at fresh at) (entry_in looks rest at)

abbrev pub rest_of : Entry → Rest
rest_of e = record { key = e.key; paints = e.style.paints }

abbrev pub put_looks : List Look → List Fresh → List Look
put_looks looks [] = looks
put_looks looks (f ∷ fs) = put_looks (slice_set looks f.at f.entry.style.look) fs

abbrev pub put_rest : List Rest → List Fresh → List Rest
put_rest rest [] = rest
put_rest rest (f ∷ fs) = put_rest (slice_set rest f.at (rest_of f.entry)) fs
