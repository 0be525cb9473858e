-- The declarations of a body: it is cut at each sign that ends one, and each piece is judged by itself.
use Rattle.std.specs.Prelude.{ℕ, Bool, ◌||◌, List, [], ◌∷◌, ◌++◌, suc, Option, Some, None, nat_le, slice_get, if◌then◌else◌}
use Rattle.std.specs.List.{slice_split, flat_map}
use Rattle.std.specs.Option.{option_and_then, option_map, option_to_list}
use Rattle.fx_text.specs.Characters.{right_brace, semicolon}
use Rattle.fx_css_parts.specs.Parts.{declaration_at}
use Rattle.fx_css_parts.specs.declared.ReadDeclaration.{ReadDeclaration}
use Rattle.fx_css.specs.declared.parts.Numbered.{Numbered}
use Rattle.fx_css.specs.Numbered.{bytes_of, is_sign, is_white}
use Rattle.fx_css.specs.declared.declarations.Kept.{Kept}
use Rattle.fx_css.specs.declared.declarations.Piece.{Piece}
use Rattle.fx_css.specs.declared.declarations.Piece.TheVariants.{Blank, Bad, Good}

-- `;` and `}` end a declaration
unfoldable pub ends_declaration : Numbered → Bool
ends_declaration m = is_sign semicolon m || is_sign right_brace m

-- the number of the first mark that is not white
abbrev pub first_shown : List Numbered → Option ℕ
first_shown [] = None
first_shown (m ∷ ms) = if is_white m then first_shown ms else Some m.number

-- the number of the mark at an index
abbrev pub number_at : List Numbered → Option ℕ → Option ℕ
number_at ms index = option_and_then (λ i. option_map (λ m. m.number) (slice_get ms i)) index

-- the declaration that these marks are
unfoldable pub judged : List Numbered → Option ReadDeclaration
judged ms = declaration_at (bytes_of ms)

-- a piece whose first shown mark has the number start
abbrev pub shown_piece : List Numbered → ℕ → Option ReadDeclaration → Piece
shown_piece ms start None = Bad start
shown_piece ms start (Some d) = Good (record { declaration = d.declaration; start = start; past = number_at ms d.past })

abbrev pub piece_from : List Numbered → Option ℕ → Piece
piece_from ms None = Blank
piece_from ms (Some start) = shown_piece ms start (judged ms)

-- blank, or a declaration, or dropped with a warning at its first shown mark
unfoldable pub piece_of : List Numbered → Piece
piece_of ms = piece_from ms (first_shown ms)

abbrev pub kept : Piece → List Kept
kept (Good k) = k ∷ []
kept p = []

abbrev pub warned : Piece → List ℕ
warned (Bad p) = p ∷ []
warned p = []

-- the declarations of a body
unfoldable pub kept_in : List Numbered → List Kept
kept_in body = flat_map (λ ms. kept (piece_of ms)) (slice_split ends_declaration body)

-- and where those begin that are dropped
unfoldable pub warnings_in : List Numbered → List ℕ
warnings_in body = flat_map (λ ms. warned (piece_of ms)) (slice_split ends_declaration body)

-- where, in their order, declarations and layers past a limit begin, where n declarations stand before these
abbrev pub past_declarations : ℕ → List Kept → List ℕ
past_declarations n [] = []
past_declarations n (k ∷ ks) =
    (if nat_le 256 n then k.start ∷ [] else []) ++ (option_to_list k.past ++ past_declarations (suc n) ks)
