-- The order of what speaks for a property (JavaFX CSS Reference Guide, "Understanding Parsing", with an own order among
-- parents): the greatest key wins, and the first number of two keys that differs tells.
use Rattle.std.specs.Prelude.{ℕ, ◌==◌, nat_lt, Bool, false, ◌&&◌, ◌||◌, List, [], ◌∷◌, fold, slice_get, Option, Some, None, if◌then◌else◌}
use Rattle.fx_css_types.specs.declared.sheets.Candidate.{Candidate}
use Rattle.fx_css_types.specs.declared.sheets.SheetOrigin.{SheetOrigin}
use Rattle.fx_css_types.specs.declared.sheets.SheetOrigin.TheVariants.{Agent, Scene, Parent, Inline}
use Rattle.fx_cascade.specs.declared.sources.Source.{Source}
use Rattle.fx_cascade.specs.declared.sources.Source.TheVariants.{Code, Declared}

-- the first number that differs is less
abbrev pub precedes : List ℕ → List ℕ → Bool
precedes (x ∷ xs) (y ∷ ys) = nat_lt x y || ((x == y) && precedes xs ys)
precedes (x ∷ xs) [] = false
precedes [] ys = false

-- a user agent sheet, below a value that code set (1); a sheet of the scene; one of a parent, the deeper parent the
-- higher; an inline style, below a bound value (5)
abbrev pub origin_rank : SheetOrigin → ℕ × ℕ
origin_rank Agent = (0, 0)
origin_rank Scene = (2, 0)
origin_rank (Parent depth) = (3, depth)
origin_rank Inline = (4, 0)

-- origin; ids, classes and pseudo-classes, types; sheet, rule, place in the rule
abbrev pub declared_key : Candidate → ℕ → List ℕ
declared_key c place =
    (origin_rank c.origin).0 ∷ (origin_rank c.origin).1 ∷ c.specificity.0 ∷ c.specificity.1 ∷ c.specificity.2
    ∷ c.sheet ∷ c.rule ∷ place ∷ []

abbrev pub code_key : Bool → List ℕ
code_key bound = (if bound then 5 else 1) ∷ 0 ∷ 0 ∷ 0 ∷ 0 ∷ 0 ∷ 0 ∷ 0 ∷ []

abbrev pub matched_key : Option Candidate → ℕ → List ℕ
matched_key None place = 0 ∷ 0 ∷ 0 ∷ 0 ∷ 0 ∷ 0 ∷ 0 ∷ 0 ∷ []
matched_key (Some c) place = declared_key c place

-- by what values are ordered that speak for a property
abbrev pub key : List Candidate → Source → List ℕ
key matched (Code bound) = code_key bound
key matched (Declared at place) = matched_key (slice_get matched at) place

abbrev pub is_below : List Candidate → Source → Source → Bool
is_below matched one other = precedes (key matched one) (key matched other)

-- of two, the one that isn't below the other; the later of two with one key
abbrev pub greater_of : List Candidate → Source → Source → Source
greater_of matched best said = if is_below matched said best then best else said

unfoldable pub greater : List Candidate → Option Source → Source → Option Source
greater matched None said = Some said
greater matched (Some best) said = Some (greater_of matched best said)

-- the greatest of these, if there is any
abbrev pub greatest : List Candidate → List Source → Option Source
greatest matched sources = fold (greater matched) None sources
