-- The greatest of a list, voice by voice.
use Rattle.std.proofs.Common.{◌≡◌, ◌++◌, ℕ, Bool, true, false, cond, List, [], ◌∷◌, fold, map, filter, Option, Some, None, drop, get_or, length, zero, suc, ◌+◌, ◌<◌, ◌≤◌, subst, arith, refl, sym, ap, ◌∙◌}
use Rattle.std.specs.Prelude.{All, slice_get, option_and_then}
use Rattle.std.specs.Str.{bytes_eq}
use Rattle.std.proofs.lemmas.List.{drop_all, drop_more}
use Rattle.std.proofs.lemmas.List.Elements.{All-nil}
use Rattle.std.proofs.lemmas.Option.{get_or_from_slice_get, slice_get_within}
use Rattle.fx_look.specs.declared.styles.CodeValue.{CodeValue}
use Rattle.fx_css_types.specs.declared.declarations.Declaration.{Declaration}
use Rattle.fx_css_types.specs.declared.sheets.SheetAt.{SheetAt}
use Rattle.fx_css_types.specs.declared.sheets.Rule.{Rule}
use Rattle.fx_css_types.specs.declared.sheets.Candidate.{Candidate}
use Rattle.fx_css_types.specs.declared.sheets.SheetOrigin.TheVariants.{Agent}
use Rattle.fx_css_types.specs.Limits.{AreWithinLimits, IsKeptDeclaration, IsKeptRule, IsWithinLimits}
use Rattle.fx_cascade.specs.declared.sources.Source.{Source}
use Rattle.fx_cascade.specs.Sources.{Voice, best_source, code_voice, declarations_of, declared_voices, rule_at, rule_voices, sources_for, voices}
use Rattle.fx_cascade.specs.Ranks.{greater}
use Rattle.fx_cascade.specs.Winners.{hear, heard}

abbrev pub no_candidate : Candidate
no_candidate = record { sheet = 0; rule = 0; specificity = (0, 0, 0); origin = Agent }

pub heard-append : (matched : List Candidate) (name : List ℕ) (best : Option Source) (vs ws : List Voice)
    → heard matched name best (vs ++ ws) ≡ heard matched name (heard matched name best vs) ws
heard-append matched name best [] ws = refl
heard-append matched name best (v ∷ vs) ws = heard-append matched name (hear matched name best v) vs ws

abbrev is_for : List ℕ → Voice → Bool
is_for name v = bytes_eq v.name name

-- what is heard for a name is what is listed for it
pub heard_is : (matched : List Candidate) (name : List ℕ) (best : Option Source) (vs : List Voice)
    → heard matched name best vs ≡ fold (greater matched) best (sources_for name vs)
heard_is matched name best [] = refl
heard_is matched name best (v ∷ vs) = heard_is matched name (hear matched name best v) vs
    ∙ elim (bytes_eq v.name name) as (λ (b : Bool).
    fold (greater matched) (cond b (greater matched best v.source) best) (sources_for name vs)
    ≡ fold (greater matched) best
    (map (λ (v : Voice). v.source) (cond b (v ∷ filter (is_for name) vs) (filter (is_for name) vs))))
    [ true ↦ refl | false ↦ refl ]

-- the winner, hearing the code values first and then the declarations
pub best_is : (sheets : List SheetAt) (matched : List Candidate) (codes : List CodeValue) (name : List ℕ)
    → heard matched name (heard matched name None (map code_voice codes)) (declared_voices sheets 0 matched)
    ≡ best_source sheets matched codes name
unfolding best_source
best_is sheets matched codes name =
    sym (heard-append matched name None (map code_voice codes) (declared_voices sheets 0 matched))
    ∙ heard_is matched name None (voices sheets matched codes)

-- nothing is left behind the last match
pub voices_done : (all : List Candidate) (name : List ℕ) (best : Option Source) (sheets : List SheetAt) (at : ℕ)
    (matched : List Candidate) → length matched ≤ at
    → best ≡ heard all name best (declared_voices sheets at (drop at matched))
unfolding declared_voices
voices_done all name best sheets at matched past = rw (drop_all at matched past) refl

-- the next match is heard first
pub voices_more : (all : List Candidate) (name : List ℕ) (best : Option Source) (sheets : List SheetAt) (at : ℕ)
    (matched : List Candidate) (c : Candidate) → at < length matched
    → heard all name best (declared_voices sheets at (drop at matched))
    ≡ heard all name (heard all name best (rule_voices at 0 (declarations_of (rule_at sheets (get_or matched at c)))))
    (declared_voices sheets (at + 1) (drop (at + 1) matched))
unfolding declared_voices
voices_more all name best sheets at matched c within =
    rw (drop_more matched at c within)
    (heard-append all name best (rule_voices at 0 (declarations_of (rule_at sheets (get_or matched at c))))
    (declared_voices sheets (at + 1) (drop (at + 1) matched)))

-- the declarations of a rule of sheets within their limits

at_place : {X : Type 0} (P : X → Type 0) (xs : List X) (i : ℕ) (x : X) → All P xs → slice_get xs i ≡ Some x → P x
at_place {X} P xs i x all e =
    subst P (get_or_from_slice_get xs i x x e) (all i x (slice_get_within xs i x e))

kept_rule : (rules : List Rule) (place : ℕ) (o : Option Rule) → slice_get rules place ≡ o → All IsKeptRule rules
    → All IsKeptDeclaration (declarations_of o)
kept_rule rules place None e all = All-nil IsKeptDeclaration
kept_rule rules place (Some r) e all = (at_place IsKeptRule rules place r all e).each

kept_sheet : (sheets : List SheetAt) (c : Candidate) (o : Option SheetAt) → slice_get sheets c.sheet ≡ o
    → AreWithinLimits sheets
    → All IsKeptDeclaration (declarations_of (option_and_then (λ (s : SheetAt). slice_get s.sheet.rules c.rule) o))
kept_sheet sheets c None e all = All-nil IsKeptDeclaration
kept_sheet sheets c (Some s) e all =
    kept_rule s.sheet.rules c.rule (slice_get s.sheet.rules c.rule) refl
    (at_place (λ (s : SheetAt). IsWithinLimits s.sheet) sheets c.sheet s all e).each

pub kept_declarations : (sheets : List SheetAt) (c : Candidate) → AreWithinLimits sheets
    → All IsKeptDeclaration (declarations_of (rule_at sheets c))
kept_declarations sheets c all = kept_sheet sheets c (slice_get sheets c.sheet) refl all
