-- Where selectors that are read are first past a limit.
-- Cited by the law of selectors.
use Rattle.std.proofs.Common.{◌≡◌, ℕ, ◌+◌, false, List, Some, sym, ap, ◌∙◌, subst, arith}
use Rattle.std.specs.List.{find}
use Rattle.fx_text.proofs.FrontLemmas.{map_gives}
use Rattle.fx_css_types.specs.declared.selectors.Selector.{Selector}
use Rattle.fx_css_parts.specs.declared.Selectors.{Selectors}
use Rattle.fx_css_parts.specs.Parts.{selectors_at}
use Rattle.fx_css_parts.specs.Selecting.{selectors_in}
use Rattle.fx_css_parts.specs.Limits.{Start, starts, is_past, past_in_selectors}
use Rattle.fx_css_parts.proofs.SelectorLaws.{selectors_read}
use Rattle.fx_css_laws.specs.Selectors.{IsFirstPast}
use Rattle.fx_css_laws.proofs.Selectors.{goes_of}

-- counted from the text's front on, a place is as far as it is told
from_front : (text : List ℕ) (ss : List Selector) (i at : ℕ) → at ≡ 0 + i → IsFirstPast 64 text ss i → IsFirstPast 64 text ss at
from_front text ss i at far p = subst (IsFirstPast 64 text ss) (let same : i ≡ at = omega (arith, far) in same) p

abbrev read_as : List ℕ → List Selector → Selectors
read_as text chains = record { selectors = chains; past = past_in_selectors text }

pub first_told : (text : List ℕ) (r : Selectors) (at : ℕ) → selectors_at text ≡ Some r → r.past ≡ Some at → IsFirstPast 64 text r.selectors at
first_told text r at e past =
    let h = map_gives (read_as text) (selectors_in text) r e in
    let place : past_in_selectors text ≡ Some at = ap (λ (y : Selectors). y.past) h.2 ∙ past in
    let f = map_gives (λ (s : Start). s.place) (find is_past (starts false 0 0 0 text)) at place in
    let g = goes_of 63 0 text h.0 (selectors_read.sound text h.0 h.1) (omega arith) 0 f.0 f.1 in
    subst (λ ss. IsFirstPast 64 text ss at) (ap (λ (y : Selectors). y.selectors) h.2)
    (from_front text h.0 g.0 at (sym f.2 ∙ g.1) g.2)
