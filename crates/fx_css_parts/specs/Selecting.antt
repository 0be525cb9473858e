-- Selectors as texts (Selectors Level 3, "Grammar"): first the grammar, then the reading.
use Rattle.std.specs.Prelude.{◌≡◌, ◌≢◌, ℕ, Bool, true, false, not, ◌||◌, ◌&&◌, ◌==◌, if◌then◌else◌, List, [], ◌∷◌, ◌++◌, Option, Some, None, IsTrue}
use Rattle.std.specs.List.{list_all}
use Rattle.std.specs.Option.{option_and_then, option_map}
use Rattle.fx_text.specs.Characters.{asterisk, colon, full_stop, greater_than_sign, number_sign}
use Rattle.fx_css_types.specs.declared.selectors.Combinator.{Combinator}
use Rattle.fx_css_types.specs.declared.selectors.Combinator.TheVariants.{Descendant, Child}
use Rattle.fx_css_types.specs.declared.selectors.Compound.{Compound}
use Rattle.fx_css_types.specs.declared.selectors.Selector.{Selector}
use Rattle.fx_css_parts.specs.Texts.{is_ident}
use Rattle.fx_css_parts.specs.Layers.{Separated, separated_at}
use Rattle.fx_text.specs.Classes.{is_white}
use Rattle.fx_text.specs.Fronts.{front, behind}
use Rattle.fx_text.specs.Trimming.{trim_front}

-- `.`, `#` and `:`, which stand before the name of a class, an id and a pseudo-class
abbrev pub is_sign : ℕ → Bool
is_sign c = (c == full_stop) || ((c == number_sign) || (c == colon))

-- a sign and the name behind it
pub record Part : Type 0 where
  pub sign : ℕ
  pub name : List ℕ

abbrev pub is_part : Part → Bool
is_part p = is_sign p.sign && is_ident p.name

abbrev pub parts_text : List Part → List ℕ
parts_text [] = []
parts_text (p ∷ ps) = p.sign ∷ (p.name ++ parts_text ps)

-- the names behind a sign, in their order
abbrev pub names_behind : ℕ → List Part → List (List ℕ)
names_behind sign [] = []
names_behind sign (p ∷ ps) = if p.sign == sign then p.name ∷ names_behind sign ps else names_behind sign ps

abbrev pub compound : Option Combinator → Option (List ℕ) → List Part → Compound
compound combinator kind ps = record {
  combinator = combinator;
  kind = kind;
  classes = names_behind full_stop ps;
  ids = names_behind number_sign ps;
  pseudos = names_behind colon ps;
}

-- a type, or `*` or nothing for any type
pub data IsKind : List ℕ → Option (List ℕ) → Type 0 where
  unsaid : IsKind [] None
  any : IsKind (asterisk ∷ []) None
  type : (name : List ℕ) → IsTrue (is_ident name) → IsKind name (Some name)

pub record IsCompound (combinator : Option Combinator) (text : List ℕ) (c : Compound) : Type 0 where
  pub word : List ℕ
  pub kind : Option (List ℕ)
  pub behind_word : List Part
  pub parts : text ≡ word ++ parts_text behind_word
  pub some : text ≢ []
  pub is_kind : IsKind word kind
  pub are_parts : IsTrue (list_all is_part behind_word)
  pub value : c ≡ compound combinator kind behind_word

-- white, or `>` with white round it or not
pub data IsCombinator : List ℕ → Combinator → Type 0 where
  white : (text : List ℕ) → text ≢ [] → IsTrue (list_all is_white text) → IsCombinator text Descendant
  child : (text before after : List ℕ) → text ≡ before ++ (greater_than_sign ∷ after)
      → IsTrue (list_all is_white before) → IsTrue (list_all is_white after) → IsCombinator text Child

-- compounds, each behind its combinator
pub data AreLinked : List ℕ → List Compound → Type 0 where
  end : AreLinked [] []
  link : (text gap word rest : List ℕ) (combinator : Combinator) (c : Compound) (cs : List Compound)
      → text ≡ gap ++ (word ++ rest)
      → IsCombinator gap combinator → IsCompound (Some combinator) word c → AreLinked rest cs → AreLinked text (c ∷ cs)

abbrev pub selector : List Compound → Selector
selector compounds = record { compounds = compounds }

pub record IsSelector (text : List ℕ) (s : Selector) : Type 0 where
  pub word : List ℕ
  pub rest : List ℕ
  pub first : Compound
  pub others : List Compound
  pub parts : text ≡ word ++ rest
  pub is_first : IsCompound None word first
  pub are_others : AreLinked rest others
  pub value : s ≡ selector (first ∷ others)

-- the selectors of a rule
abbrev pub IsSelectors : List ℕ → List Selector → Type 0
IsSelectors = Separated IsSelector

-- the reading

abbrev pub not_sign : ℕ → Bool
not_sign c = not (is_sign c)

abbrev pub parts_at : List ℕ → List Part
parts_at [] = []
parts_at (c ∷ cs) = if is_sign c then (record { sign = c; name = front not_sign cs }) ∷ parts_at cs else parts_at cs

abbrev pub is_any : List ℕ → Bool
is_any [] = true
is_any (c ∷ []) = c == asterisk
is_any (c ∷ d ∷ cs) = false

abbrev pub kind_at : List ℕ → Option (Option (List ℕ))
kind_at word = if is_any word then Some None else (if is_ident word then Some (Some word) else None)

abbrev pub with_parts : Option Combinator → List Part → Option (List ℕ) → Option Compound
with_parts combinator ps kind = if list_all is_part ps then Some (compound combinator kind ps) else None

abbrev pub compound_at : Option Combinator → List ℕ → Option Compound
compound_at combinator [] = None
compound_at combinator (c ∷ cs) =
    option_and_then (with_parts combinator (parts_at (c ∷ cs))) (kind_at (front not_sign (c ∷ cs)))

abbrev pub is_gap : ℕ → Bool
is_gap c = is_white c || (c == greater_than_sign)

abbrev pub not_gap : ℕ → Bool
not_gap c = not (is_gap c)

abbrev pub behind_sign : List ℕ → Option Combinator
behind_sign [] = Some Descendant
behind_sign (c ∷ cs) = if (c == greater_than_sign) && list_all is_white cs then Some Child else None

-- the combinator that a text of white and `>` is
abbrev pub combinator_at : List ℕ → Option Combinator
combinator_at gap = behind_sign (trim_front gap)

-- white and `>`, and the word behind them
pub record Link : Type 0 where
  pub gap : List ℕ
  pub word : List ℕ

-- within a gap or not
abbrev pub links_at : Bool → List ℕ → List Link
links_at within [] = []
links_at within (c ∷ cs) = if is_gap c
    then (if within then links_at true cs
    else (record { gap = front is_gap (c ∷ cs); word = front not_gap (behind is_gap (c ∷ cs)) }) ∷ links_at true cs)
    else links_at false cs

abbrev pub link_at : Link → Option Compound
link_at l = option_and_then (λ combinator. compound_at (Some combinator) l.word) (combinator_at l.gap)

abbrev pub linked_at : List Link → Option (List Compound)
linked_at [] = Some []
linked_at (l ∷ ls) = option_and_then (λ c. option_map (λ cs. c ∷ cs) (linked_at ls)) (link_at l)

abbrev pub selector_at : List ℕ → Option Selector
selector_at text = option_and_then
    (λ first. option_map (λ others. selector (first ∷ others)) (linked_at (links_at false text)))
    (compound_at None (front not_gap text))

abbrev pub selectors_in : List ℕ → Option (List Selector)
selectors_in text = separated_at selector_at text
