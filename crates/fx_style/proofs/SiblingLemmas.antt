-- A node that is like the sibling before it has the style that was made of that, with its own bound lengths.
use Rattle.std.proofs.Common.{◌≡◌, ◌∷◌, ◌<◌, ℕ, Bool, true, List, Option, Some, filter_map, length, sym, ◌∙◌, ap, arith}
use Rattle.std.proofs.lemmas.Option.{slice_get_within}
use Rattle.fx_look.specs.declared.looks.Look.{Look}
use Rattle.fx_kinds.specs.declared.facts.StyleFacts.{StyleFacts}
use Rattle.fx_css_types.specs.declared.sheets.SheetAt.{SheetAt}
use Rattle.fx_select.specs.Chains.{ParentsStandBefore, upward}
use Rattle.fx_select.specs.Listing.{IsListing, Listing}
use Rattle.fx_select.proofs.ChainLemmas.{upward-some}
use Rattle.fx_node_style.specs.declared.node_styles.NodeStyle.{NodeStyle}
use Rattle.fx_style.specs.declared.kept.Entry.{Entry}
use Rattle.fx_style.specs.declared.kept.Fresh.{Fresh}
use Rattle.fx_style.specs.declared.kept.Rest.{Rest}
use Rattle.fx_base.specs.Answers.{or_else}
use Rattle.fx_style.specs.Kept.{entry_in, is_among, kept_at, style_of_entry}
use Rattle.fx_style.specs.Lasts.{rewritten}
use Rattle.fx_style.specs.Places.{parent_at, places_up}
use Rattle.fx_style.specs.Rules.{anew, chain_style, renewed, renewed_by}
use Rattle.fx_style.specs.Siblings.{IsMadeLike}
use Rattle.fx_style.specs.Styled.{first_of, styled}
use Rattle.fx_style.specs.Turns.{AreRightBelow}
use Rattle.fx_style.proofs.PlaceLemmas.{parent_before}
use Rattle.fx_style.proofs.RecodedLemmas.{chain_like, parent_is}
use Rattle.fx_style.proofs.UpdateLemmas.{Rule, now_of, same_up, styled-some, styles_below}

the_style : (a b : NodeStyle) → Some a ≡ Some b → a ≡ b
the_style a b e = cc

pub sibling_is : (sheets : List SheetAt) (listing : Listing) → IsListing sheets listing → (facts : List StyleFacts) (restyle : List ℕ) (looks : List Look)
    (rest : List Rest) (fresh : List Fresh) → ParentsStandBefore facts → (place at : ℕ) (made : Entry)
    → (of : IsMadeLike listing facts fresh place at made) → place < at → is_among restyle place ≡ true
    → AreRightBelow sheets facts restyle (kept_at looks rest facts) looks rest fresh at
    → rewritten of.node.codes made.style
    ≡ anew sheets facts at (filter_map (now_of looks rest fresh) (places_up facts (parent_at facts at)))
sibling_is sheets listing is facts restyle looks rest fresh before place at made of less listed right =
    let kept = kept_at looks rest facts in
    let old = of.old in
    let node = of.node in
    let rule : Rule = renewed (is_among restyle) kept (anew sheets facts) in
    let within : at < length facts = slice_get_within facts at node of.is in
    let inside : place < length facts = slice_get_within facts place old of.was in
    let parent = parent_at facts at in
    let above = filter_map (now_of looks rest fresh) (places_up facts parent) in
    let same : old.parent ≡ node.parent = of.like.parent in
    let shared : parent_at facts place ≡ parent =
    parent_is facts place old of.was ∙ (same ∙ sym (parent_is facts at node of.is)) in
    let up : above ≡ styled rule (places_up facts parent) =
    same_up at rule facts before (now_of looks rest fresh) at (omega (arith, within))
    (styles_below sheets facts restyle kept looks rest fresh at (omega (arith, within)) right) parent
    (λ p e. parent_before facts before at p e) (λ p e. parent_before facts before at p e) in
    let here : Some made.style ≡ Some (anew sheets facts place above) =
    sym (ap (λ (o : Option Entry). style_of_entry (or_else o (entry_in looks rest place))) of.there)
    ∙ (styles_below sheets facts restyle kept looks rest fresh at (omega (arith, within)) right place less
    ∙ (ap first_of (styled-some rule facts before place inside)
    ∙ (ap (λ (o : Option ℕ). Some (rule place (styled rule (places_up facts o)))) shared
    ∙ (ap (λ (l : List NodeStyle). Some (rule place l)) (sym up)
    ∙ ap (λ (b : Bool). Some (renewed_by b (kept place) (anew sheets facts place above))) listed)))) in
    ap (rewritten node.codes) (the_style made.style (anew sheets facts place above) here)
    ∙ (ap (λ (nodes : List StyleFacts). rewritten node.codes (chain_style sheets nodes above))
    (upward-some facts before place old of.was)
    ∙ (ap (λ (o : Option ℕ). rewritten node.codes (chain_style sheets (old ∷ upward facts o) above)) same
    ∙ (sym (chain_like sheets listing is old node (upward facts node.parent) above of.like)
    ∙ sym (ap (λ (nodes : List StyleFacts). chain_style sheets nodes above)
    (upward-some facts before at node of.is)))))
