-- A node that differs in bound lengths alone has the kept style with these lengths.
use Rattle.std.proofs.Common.{◌≡◌, ◌∷◌, [], ◌<◌, ℕ, suc, false, List, Option, Some, None, length, flat_map, filter_map, option_and_then, reverse, refl, sym, ◌∙◌, ap, subst, arith}
use Rattle.std.specs.Prelude.{slice_get}
use Rattle.std.specs.List.{enumerate_from}
use Rattle.std.specs.Option.{option_map}
use Rattle.std.proofs.lemmas.Option.{slice_get_within}
use Rattle.fx_look.specs.declared.looks.Look.{Look}
use Rattle.fx_look.specs.declared.styles.CodeValue.{CodeValue}
use Rattle.fx_kinds.specs.declared.classes.Class.{Class}
use Rattle.fx_kinds.specs.declared.facts.StyleFacts.{StyleFacts}
use Rattle.fx_kinds.specs.Properties.{initial_alignment}
use Rattle.fx_css_types.specs.declared.sheets.Candidate.{Candidate}
use Rattle.fx_css_types.specs.declared.sheets.Rule.{Rule}
use Rattle.fx_css_types.specs.declared.sheets.SheetAt.{SheetAt}
use Rattle.fx_css_types.specs.declared.selectors.Compound.{Compound}
use Rattle.fx_css_types.specs.declared.selectors.Selector.{Selector}
use Rattle.fx_select.specs.AllMatching.{matching_in, matching_rule, rule_weights}
use Rattle.fx_select.specs.Chains.{ParentsStandBefore, upward}
use Rattle.fx_select.specs.Hits.{selector_weight}
use Rattle.fx_select.specs.Listing.{IsListing, Listing, each}
use Rattle.fx_select.specs.Matching.{fits, matches_up}
use Rattle.fx_select.proofs.AlikeLemmas.{match-alike}
use Rattle.fx_select.proofs.ChainLemmas.{upward-none, upward-some}
use Rattle.fx_node_style.specs.declared.node_styles.NodeStyle.{NodeStyle}
use Rattle.fx_node_style.specs.Styling.{look_above, paints_above, style_under}
use Rattle.fx_node_style.proofs.RecodingLemmas.{style_recoded}
use Rattle.fx_style.specs.declared.kept.Fresh.{Fresh}
use Rattle.fx_style.specs.declared.kept.Rest.{Rest}
use Rattle.fx_style.specs.Kept.{entry_in, is_among, kept_at, style_of_entry}
use Rattle.fx_style.specs.Lasts.{AreStylesOf, DiffersInLengths, IsLike, rewritten}
use Rattle.fx_style.specs.Places.{parent_at, places_up}
use Rattle.fx_style.specs.Rules.{anew, chain_style, chain_styles, matching_nodes, style_of}
use Rattle.fx_style.specs.Styled.{first_of, styled}
use Rattle.fx_style.specs.Turns.{AreRightBelow}
use Rattle.fx_style.proofs.ChainLaws.{style_chain}
use Rattle.fx_style.proofs.PlaceLemmas.{parent_before}
use Rattle.fx_style.proofs.UpdateLemmas.{from_nothing, now_of, same_up, style_entry, styled-some, styles_below}

-- ---- code values are nothing to rules

matches_same : (old : StyleFacts) (codes : List CodeValue) (up : List StyleFacts)
    (compounds : List Compound)
    → matches_up compounds (record old { codes = codes } ∷ up) ≡ matches_up compounds (old ∷ up)
unfolding matches_up fits
matches_same old codes up [] = refl
matches_same old codes up (last ∷ before) = refl

weight_same : (old : StyleFacts) (codes : List CodeValue) (up : List StyleFacts) (sheet : ℕ)
    (selector : Selector) → selector_weight (record old { codes = codes } ∷ up) sheet selector
    ≡ selector_weight (old ∷ up) sheet selector
unfolding selector_weight
weight_same old codes up sheet selector =
    rw (matches_same old codes up (reverse selector.compounds)) refl

filter_same : {A B : Type 0} (f g : A → Option B) → ((x : A) → f x ≡ g x) → (xs : List A)
    → filter_map f xs ≡ filter_map g xs
filter_same f g same [] = refl
filter_same f g same (x ∷ xs) = rw (same x, filter_same f g same xs) refl

flat_same : {A B : Type 0} (f g : A → List B) → ((x : A) → f x ≡ g x) → (xs : List A)
    → flat_map f xs ≡ flat_map g xs
flat_same f g same [] = refl
flat_same f g same (x ∷ xs) = rw (same x, flat_same f g same xs) refl

each_same : {X A : Type 0} (f g : ℕ → X → List A) → ((n : ℕ) (x : X) → f n x ≡ g n x) → (xs : List X)
    → each f xs ≡ each g xs
unfolding each
each_same {X} f g same xs = flat_same (λ (e : ℕ × X). f e.0 e.1) (λ (e : ℕ × X). g e.0 e.1)
    (λ e. same e.0 e.1) (enumerate_from 0 xs)

rule_same : (old : StyleFacts) (codes : List CodeValue) (up : List StyleFacts) (sheet : ℕ)
    (s : SheetAt) (place : ℕ) (r : Rule)
    → matching_rule (record old { codes = codes } ∷ up) sheet s place r
    ≡ matching_rule (old ∷ up) sheet s place r
rule_same old codes up sheet s place r = rw (weights r.selectors) refl
  where
    weights : (selectors : List Selector)
        → rule_weights (record old { codes = codes } ∷ up) sheet selectors
        ≡ rule_weights (old ∷ up) sheet selectors
    weights [] = refl
    weights (first ∷ more) =
        filter_same (selector_weight (record old { codes = codes } ∷ up) sheet)
        (selector_weight (old ∷ up) sheet) (weight_same old codes up sheet) (first ∷ more)

matching_same : (sheets : List SheetAt) (old : StyleFacts) (codes : List CodeValue)
    (up : List StyleFacts) → matching_nodes sheets (record old { codes = codes } ∷ up)
    ≡ matching_nodes sheets (old ∷ up)
matching_same sheets old codes up =
    each_same (matching_in (record old { codes = codes } ∷ up)) (matching_in (old ∷ up))
    (λ sheet s. each_same (matching_rule (record old { codes = codes } ∷ up) sheet s)
    (matching_rule (old ∷ up) sheet s) (rule_same old codes up sheet s) s.sheet.rules) sheets

-- a node that is another up to its code values
chain_recoded : (sheets : List SheetAt) (old node : StyleFacts) (up : List StyleFacts) (above : List NodeStyle)
    → DiffersInLengths old node
    → chain_style sheets (node ∷ up) above ≡ rewritten node.codes (chain_style sheets (old ∷ up) above)
unfolding chain_style
chain_recoded sheets old node up above differs =
    let codes = node.codes in
    let look = look_above above in
    let paints = paints_above above in
    let alignment = initial_alignment old.class in
    ap (λ (n : StyleFacts). style_under sheets (matching_nodes sheets (n ∷ up)) n.codes (initial_alignment n.class) look
    paints) differs.alike
    ∙ (ap (λ (matched : List Candidate). style_under sheets matched codes alignment look paints)
    (matching_same sheets old codes up)
    ∙ style_recoded sheets (matching_nodes sheets (old ∷ up)) old.codes codes differs.codes alignment look paints)

-- a node that is like a sibling
pub chain_like : (sheets : List SheetAt) (listing : Listing) → IsListing sheets listing → (old node : StyleFacts)
    (up : List StyleFacts) (above : List NodeStyle) → IsLike listing old node
    → chain_style sheets (node ∷ up) above ≡ rewritten node.codes (chain_style sheets (old ∷ up) above)
unfolding chain_style
chain_like sheets listing is old node up above like =
    let codes = node.codes in
    let look = look_above above in
    let paints = paints_above above in
    let alignment = initial_alignment old.class in
    ap (λ (class : Class). style_under sheets (matching_nodes sheets (node ∷ up)) codes (initial_alignment class) look
    paints) (sym like.alike.class)
    ∙ (ap (λ (matched : List Candidate). style_under sheets matched codes alignment look paints)
    (sym (match-alike sheets listing is old node up like.alike like.old_id like.node_id))
    ∙ style_recoded sheets (matching_nodes sheets (old ∷ up)) old.codes codes like.codes alignment look paints)

-- ---- a style from nothing
first_up : (sheets : List SheetAt) (facts : List StyleFacts) → ParentsStandBefore facts → (at : ℕ) (node : StyleFacts)
    → slice_get facts at ≡ Some node → style_of sheets facts at
    ≡ Some (chain_style sheets (node ∷ upward facts node.parent) (chain_styles sheets (upward facts node.parent)))
first_up sheets facts before at node is =
    let within = slice_get_within facts at node is in
    ap first_of
    (style_chain (suc at) sheets facts before (Some at)
    (λ p e. let h : at ≡ p = cc in subst (λ (n : ℕ). n < length facts) h within)
    (λ p e. let h : at ≡ p = cc in omega arith)
    ∙ ap (chain_styles sheets) (upward-some facts before at node is))

above_same : (sheets : List SheetAt) (facts olds : List StyleFacts) (restyle : List ℕ) (looks : List Look)
    (rest : List Rest) → ParentsStandBefore facts → AreStylesOf sheets facts restyle looks rest olds
    → (at : ℕ) → at < length facts → (o : Option ℕ) → parent_at facts at ≡ o
    → ((p : ℕ) → parent_at facts at ≡ Some p → is_among restyle p ≡ false) → upward olds o ≡ upward facts o
above_same sheets facts olds restyle looks rest before are at within None e calm =
    upward-none olds ∙ sym (upward-none facts)
above_same sheets facts olds restyle looks rest before are at within (Some p) e calm =
    let less : p < at = parent_before facts before at p e in
    are.chains p (omega (arith, less, within)) (calm p e)

pub parent_is : (facts : List StyleFacts) (at : ℕ) (node : StyleFacts) → slice_get facts at ≡ Some node
    → parent_at facts at ≡ node.parent
parent_is facts at node is = ap (option_and_then (λ (n : StyleFacts). n.parent)) is

pub style_recoded_at : (sheets : List SheetAt) (facts olds : List StyleFacts) (restyle : List ℕ) (looks : List Look)
    (rest : List Rest) → ParentsStandBefore facts → AreStylesOf sheets facts restyle looks rest olds
    → (at : ℕ) (old node : StyleFacts) → slice_get olds at ≡ Some old → slice_get facts at ≡ Some node
    → DiffersInLengths old node → ((p : ℕ) → parent_at facts at ≡ Some p → is_among restyle p ≡ false)
    → style_of sheets facts at ≡ option_map (rewritten node.codes) (style_of sheets olds at)
style_recoded_at sheets facts olds restyle looks rest before are at old node was is differs calm =
    let within = slice_get_within facts at node is in
    let parent : old.parent ≡ node.parent = sym (ap (λ (n : StyleFacts). n.parent) differs.alike) in
    let up : upward olds old.parent ≡ upward facts node.parent =
    ap (upward olds) parent
    ∙ above_same sheets facts olds restyle looks rest before are at within node.parent (parent_is facts at node is)
    calm in
    first_up sheets facts before at node is
    ∙ (ap Some (chain_recoded sheets old node (upward facts node.parent)
    (chain_styles sheets (upward facts node.parent)) differs)
    ∙ (ap (λ (ups : List StyleFacts).
    Some (rewritten node.codes (chain_style sheets (old ∷ ups) (chain_styles sheets ups)))) (sym up)
    ∙ sym (ap (option_map (rewritten node.codes)) (first_up sheets olds are.before at old was))))

-- ---- what an update makes of it
anew_is : (sheets : List SheetAt) (facts olds : List StyleFacts) (restyle : List ℕ) (looks : List Look)
    (rest : List Rest) (fresh : List Fresh) → ParentsStandBefore facts
    → AreStylesOf sheets facts restyle looks rest olds → (at : ℕ) → at < length facts
    → AreRightBelow sheets facts restyle (kept_at looks rest facts) looks rest fresh at
    → Some (anew sheets facts at (filter_map (now_of looks rest fresh) (places_up facts (parent_at facts at))))
    ≡ style_of sheets facts at
anew_is sheets facts olds restyle looks rest fresh before are at within right =
    let parent = parent_at facts at in
    let up : filter_map (now_of looks rest fresh) (places_up facts parent)
    ≡ styled (anew sheets facts) (places_up facts parent) =
    same_up at (anew sheets facts) facts before (now_of looks rest fresh) at (omega (arith, within))
    (λ j below. styles_below sheets facts restyle (kept_at looks rest facts) looks rest fresh at (omega (arith, within))
    right j below
    ∙ from_nothing sheets facts restyle (kept_at looks rest facts) before are.right j (omega (arith, below, within)))
    parent (λ p e. parent_before facts before at p e) (λ p e. parent_before facts before at p e) in
    ap (λ (above : List NodeStyle). Some (anew sheets facts at above)) up
    ∙ sym (ap first_of (styled-some (anew sheets facts) facts before at within))

pub rewritten_is : (sheets : List SheetAt) (facts olds : List StyleFacts) (restyle : List ℕ) (looks : List Look)
    (rest : List Rest) (fresh : List Fresh) → ParentsStandBefore facts
    → AreStylesOf sheets facts restyle looks rest olds → (at : ℕ) (old node : StyleFacts)
    → slice_get olds at ≡ Some old → slice_get facts at ≡ Some node → DiffersInLengths old node
    → ((p : ℕ) → parent_at facts at ≡ Some p → is_among restyle p ≡ false)
    → AreRightBelow sheets facts restyle (kept_at looks rest facts) looks rest fresh at
    → option_map (rewritten node.codes) (style_of_entry (entry_in looks rest at))
    ≡ Some (anew sheets facts at (filter_map (now_of looks rest fresh) (places_up facts (parent_at facts at))))
rewritten_is sheets facts olds restyle looks rest fresh before are at old node was is differs calm right =
    let within = slice_get_within facts at node is in
    ap (option_map (rewritten node.codes))
    (ap style_of_entry (are.styles at old was) ∙ style_entry old.key (style_of sheets olds at))
    ∙ (sym (style_recoded_at sheets facts olds restyle looks rest before are at old node was is differs calm)
    ∙ sym (anew_is sheets facts olds restyle looks rest fresh before are at within right))
