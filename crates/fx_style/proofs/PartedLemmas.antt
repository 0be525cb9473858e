-- An update of which some nodes get lengths where they stand, and others are styled anew, is an update.
use Rattle.std.proofs.Common.{◌≡◌, ◌∷◌, [], ◌<◌, ◌+◌, ℕ, zero, suc, Bool, true, false, ◌||◌, cond, List, Option, Some, None, get_or, length, refl, sym, ◌∙◌, ap, subst, arith, inl, inr}
use Rattle.std.specs.Prelude.{slice_get, is_none}
use Rattle.std.specs.List.{list_any}
use Rattle.std.specs.Option.{option_map}
use Rattle.std.proofs.lemmas.Bool.{cases_Bool, or_parts, true≢false}
use Rattle.std.proofs.lemmas.Option.{slice_get_within}
use Rattle.fx_base.specs.declared.keys.NodeKey.{NodeKey}
use Rattle.fx_css_types.specs.declared.sheets.SheetAt.{SheetAt}
use Rattle.fx_kinds.specs.declared.facts.StyleFacts.{StyleFacts}
use Rattle.fx_look.specs.declared.looks.Look.{Look}
use Rattle.fx_look.specs.declared.styles.CodeValue.{CodeValue}
use Rattle.fx_node_style.specs.declared.node_styles.NodeStyle.{NodeStyle}
use Rattle.fx_select.specs.Chains.{ParentsStandBefore}
use Rattle.fx_style.specs.declared.kept.Entry.{Entry}
use Rattle.fx_style.specs.declared.kept.Fresh.{Fresh}
use Rattle.fx_style.specs.declared.kept.Rest.{Rest}
use Rattle.fx_style.specs.Changes.{NamesChanges}
use Rattle.fx_style.specs.Kept.{Kept, entry, entry_in, is_among, joined, put_looks}
use Rattle.fx_style.specs.Lasts.{rewritten}
use Rattle.fx_style.specs.Parting.{IsPart, IsParted, is_under}
use Rattle.fx_style.specs.Places.{parent_at, places_up}
use Rattle.fx_style.specs.Rewriting.{bound_at, rewritten_at}
use Rattle.fx_style.specs.Rules.{IsUpdate, KeepsOthers, anew, kept_of, needs, needs_by, or_made, renewed, renewed_by, style_of, ticks, updated_style, worked}
use Rattle.fx_style.specs.Styled.{first_of, onto, styled}
use Rattle.fx_style.specs.Turns.{ArePut, AreRightBelow}
use Rattle.fx_style.proofs.IdleLemmas.{kept_there, stays}
use Rattle.fx_style.proofs.PartingLemmas.{under_up}
use Rattle.fx_style.proofs.PlaceLemmas.{parent_before, places-none, places-some}
use Rattle.fx_style.proofs.RecodedLemmas.{style_recoded_at}
use Rattle.fx_style.proofs.TurnLemmas.{get_there}
use Rattle.fx_style.proofs.UpdateLemmas.{Rule, from_nothing, styled-some}

-- ---- two lists of what is styled anew

-- where they are the same of each node from a place up, so are the styles
same_lists : (fuel : ℕ) (sheets : List SheetAt) (facts : List StyleFacts) (restyle left : List ℕ) (there : List Bool)
    (kept : ℕ → Option NodeStyle) → ParentsStandBefore facts
    → ((p : ℕ) → p < length facts → get_or there p false ≡ false → is_among left p ≡ is_among restyle p)
    → (place : Option ℕ) → ((p : ℕ) → place ≡ Some p → p < length facts) → ((p : ℕ) → place ≡ Some p → p < fuel)
    → is_under there facts place ≡ false
    → styled (renewed (is_among left) kept (anew sheets facts)) (places_up facts place)
    ≡ styled (renewed (is_among restyle) kept (anew sheets facts)) (places_up facts place)
same_lists fuel sheets facts restyle left there kept before same None inside within clear =
    ap (styled (renewed (is_among left) kept (anew sheets facts))) (places-none facts)
    ∙ sym (ap (styled (renewed (is_among restyle) kept (anew sheets facts))) (places-none facts))
same_lists zero sheets facts restyle left there kept before same (Some at) inside within clear =
    absurd (let h : at < zero = within at refl in omega arith)
same_lists (suc fuel) sheets facts restyle left there kept before same (Some at) inside within clear =
    let here : at < length facts = inside at refl in
    let up = parent_at facts at in
    let off = or_parts (get_or there at false) (is_under there facts up)
    (sym (ap (list_any (λ (p : ℕ). get_or there p false)) (places-some facts before at here)) ∙ clear) in
    let one : Rule = renewed (is_among left) kept (anew sheets facts) in
    let other : Rule = renewed (is_among restyle) kept (anew sheets facts) in
    let above : List NodeStyle = styled other (places_up facts up) in
    let rest : styled one (places_up facts up) ≡ above =
    same_lists fuel sheets facts restyle left there kept before same up
    (λ p e. let h : p < at = parent_before facts before at p e in omega arith)
    (λ p e. let h : p < at = parent_before facts before at p e in let g : at < suc fuel =
    within at refl in omega arith) off.1 in
    styled-some one facts before at here
    ∙ ap (onto (one at)) rest
    ∙ ap (λ (b : Bool). renewed_by b (kept at) (anew sheets facts at above) ∷ above) (same at here off.0)
    ∙ sym (styled-some other facts before at here)

-- a node that isn't listed keeps its style
kept_style : (sheets : List SheetAt) (facts : List StyleFacts) (list : List ℕ) (kept : ℕ → Option NodeStyle)
    → ParentsStandBefore facts → (at : ℕ) (style : NodeStyle) → at < length facts → is_among list at ≡ false
    → kept at ≡ Some style → updated_style sheets facts list kept at ≡ Some style
kept_style sheets facts list kept before at style within off is =
    let rule : Rule = renewed (is_among list) kept (anew sheets facts) in
    let made : NodeStyle = anew sheets facts at (styled rule (places_up facts (parent_at facts at))) in
    ap first_of (styled-some rule facts before at within)
    ∙ ap (λ (b : Bool). Some (renewed_by b (kept at) made)) off
    ∙ ap (λ (o : Option NodeStyle). Some (or_made o made)) is

-- ---- what is apart

-- the part of a place
abbrev Part : List StyleFacts → Kept → List StyleFacts → List Bool → List Bool → List ℕ → ℕ → Type 0
Part olds old facts marks there left at =
    IsPart (Some olds) facts old.rest marks (get_or there at false) (is_among left at) at

not_both : (b d : Bool) → (b ≡ true → d ≡ false) → d ≡ true → b ≡ false
not_both true d one left = absurd (true≢false (sym left ∙ one refl))
not_both false d one left = refl

listed_same : (a b d : Bool) → a ≡ (b || d) → b ≡ false → d ≡ a
listed_same a true d e off = absurd (true≢false off)
listed_same a false d e off = sym e

same_listed : (sheets : List SheetAt) (facts : List StyleFacts) (restyle : List ℕ) (old : Kept) (there : List Bool)
    (left : List ℕ) → IsParted sheets facts restyle old there left → (p : ℕ) → p < length facts
    → get_or there p false ≡ false → is_among left p ≡ is_among restyle p
same_listed sheets facts restyle old there left w p within off =
    listed_same (get_or w.marks p false) (get_or there p false) (is_among left p) (w.parts.each p within).marked off
    ∙ w.marked p within

-- a node that isn't left has its key where it stands
stay_of : (sheets : List SheetAt) (facts : List StyleFacts) (restyle : List ℕ) (old : Kept) (there : List Bool)
    (left : List ℕ) → IsParted sheets facts restyle old there left → (at : ℕ) (node : StyleFacts)
    → slice_get facts at ≡ Some node → is_among left at ≡ false
    → (style : NodeStyle) × (entry_in old.looks old.rest at ≡ Some (entry node.key style))
    × (kept_of old facts at ≡ Some style)
stay_of sheets facts restyle old there left w at node is off =
    let within = slice_get_within facts at node is in
    let stay = stays [] old.looks old.rest node at (record {
      unlisted = refl;
      place = (w.parts.each at within).key off node is;
      in_looks = subst (λ (n : ℕ). at < n) (sym w.looks) within;
      in_rest = subst (λ (n : ℕ). at < n) (sym w.rest) within;
    }) in
    (stay.style, stay.here, sym (kept_there old.looks old.rest facts at node is) ∙ stay.kept)

-- the style of a node that gets no lengths is that of the update
others_right : (sheets : List SheetAt) (facts : List StyleFacts) (restyle : List ℕ) (old : Kept) (there : List Bool)
    (left : List ℕ) → ParentsStandBefore facts → IsParted sheets facts restyle old there left → (at : ℕ)
    (node : StyleFacts) → slice_get facts at ≡ Some node → get_or there at false ≡ false
    → updated_style sheets facts left (kept_of old facts) at ≡ updated_style sheets facts restyle (kept_of old facts) at
others_right sheets facts restyle old there left before w at node is off =
    let within = slice_get_within facts at node is in
    let kept = kept_of old facts in
    elim (cases_Bool (is_among left at)) [
      | inl listed ↦
          ap first_of (same_lists (suc at) sheets facts restyle left there kept before
          (same_listed sheets facts restyle old there left w) (Some at)
          (λ p e. let h : at ≡ p = cc in subst (λ (n : ℕ). n < length facts) h within)
          (λ p e. let h : at ≡ p = cc in omega arith)
          (under_up there facts before at within off ∙ w.parts.clear at listed))
      | inr other ↦
          (let s = stay_of sheets facts restyle old there left w at node is other in
          kept_style sheets facts left kept before at s.0 within other s.2
          ∙ sym (kept_style sheets facts restyle kept before at s.0 within
          (sym (same_listed sheets facts restyle old there left w at within off) ∙ other) s.2))
    ]

-- ---- what stands at a place

-- the entry of a place of which the look has the lengths
entry_rewritten : (node : StyleFacts) (look : Option Look) (rest : Option Rest)
    → joined (option_map (bound_at (Some node)) look) rest
    ≡ option_map (λ (e : Entry). entry e.key (rewritten node.codes e.style)) (joined look rest)
entry_rewritten node None rest = refl
entry_rewritten node (Some look) None = refl
entry_rewritten node (Some look) (Some rest) = refl

over_key : (key : NodeKey) (codes : List CodeValue) (o : Option NodeStyle)
    → option_map (λ (e : Entry). entry e.key (rewritten codes e.style)) (option_map (entry key) o)
    ≡ option_map (entry key) (option_map (rewritten codes) o)
over_key key codes None = refl
over_key key codes (Some style) = refl

abbrev written : Bool → Option StyleFacts → Option Look → Option Look
written marked node look = cond marked (option_map (bound_at node) look) look

-- the kept style of a node that gets lengths, with these, is its style from nothing
recoded_right : (sheets : List SheetAt) (facts : List StyleFacts) (restyle : List ℕ) (old : Kept) (there : List Bool)
    (left : List ℕ) → ParentsStandBefore facts → IsParted sheets facts restyle old there left → (at : ℕ)
    (node : StyleFacts) → slice_get facts at ≡ Some node → get_or there at false ≡ true
    → option_map (λ (e : Entry). entry e.key (rewritten node.codes e.style)) (entry_in old.looks old.rest at)
    ≡ option_map (entry node.key) (style_of sheets facts at)
recoded_right sheets facts restyle old there left before w at node is marked =
    let within = slice_get_within facts at node is in
    let part = w.parts.each at within in
    let recoded = part.recoded marked in
    let same : recoded.node ≡ node = (let h : Some recoded.node ≡ Some node = sym recoded.is ∙ is in cc) in
    let olds : recoded.olds ≡ w.olds = (let h : Some w.olds ≡ Some recoded.olds = recoded.given in cc) in
    let was : slice_get w.olds at ≡ Some recoded.old =
    ap (λ (l : List StyleFacts). slice_get l at) (sym olds) ∙ recoded.was in
    let key : recoded.old.key ≡ node.key =
    sym (ap (λ (n : StyleFacts). n.key) recoded.differs.alike) ∙ ap (λ (n : StyleFacts). n.key) same in
    let calm : (p : ℕ) → parent_at facts at ≡ Some p → is_among restyle p ≡ false =
    λ p up. (let less = parent_before facts before at p up in
    sym (w.marked p (omega (arith, less, within))) ∙ part.calm marked p up) in
    ap (option_map (λ (e : Entry). entry e.key (rewritten node.codes e.style))) (w.are.styles at recoded.old was)
    ∙ (over_key recoded.old.key node.codes (style_of sheets w.olds at)
    ∙ (ap (λ (k : NodeKey). option_map (entry k) (option_map (rewritten node.codes) (style_of sheets w.olds at))) key
    ∙ ap (option_map (entry node.key))
    (ap (λ (n : StyleFacts). option_map (rewritten n.codes) (style_of sheets w.olds at)) (sym same)
    ∙ sym (style_recoded_at sheets facts w.olds restyle old.looks old.rest before w.are at recoded.old recoded.node
    was
    recoded.is recoded.differs calm))))

-- an update on its way: fresh entries stand in their places, and lengths are to be written
pub record ArePartsPut (sheets : List SheetAt) (facts : List StyleFacts) (old mid new : Kept) (there : List Bool)
    (left : List ℕ) (fresh : List Fresh) : Type 0 where
  pub right : AreRightBelow sheets facts left (kept_of old facts) old.looks old.rest fresh (length facts)
  pub put : ArePut old mid fresh (length facts)
  pub long : length new.looks ≡ length mid.looks
  pub looks : (at : ℕ) → slice_get new.looks at ≡ rewritten_at there facts mid.looks at
  pub rest : new.rest ≡ mid.rest

-- what stands at a place before the lengths are written
planned : (sheets : List SheetAt) (facts : List StyleFacts) (old mid new : Kept) (there : List Bool) (left : List ℕ)
    (fresh : List Fresh) → ArePartsPut sheets facts old mid new there left fresh → (at : ℕ) (node : StyleFacts)
    → slice_get facts at ≡ Some node
    → entry_in mid.looks mid.rest at
    ≡ option_map (entry node.key) (updated_style sheets facts left (kept_of old facts) at)
planned sheets facts old mid new there left fresh p at node is =
    let within = slice_get_within facts at node is in
    p.put.each at within ∙ p.right.each at node within is

there_right : (sheets : List SheetAt) (facts : List StyleFacts) (restyle : List ℕ) (old mid new : Kept)
    (there : List Bool) (left : List ℕ) (fresh : List Fresh) → ParentsStandBefore facts
    → IsParted sheets facts restyle old there left → ArePartsPut sheets facts old mid new there left fresh
    → (at : ℕ) (node : StyleFacts) → slice_get facts at ≡ Some node → get_or there at false ≡ true
    → joined (rewritten_at there facts mid.looks at) (slice_get mid.rest at)
    ≡ option_map (entry node.key) (updated_style sheets facts restyle (kept_of old facts) at)
there_right sheets facts restyle old mid new there left fresh before w p at node is marked =
    let within = slice_get_within facts at node is in
    let kept = kept_of old facts in
    let off : is_among left at ≡ false = (w.parts.each at within).one marked in
    let s = stay_of sheets facts restyle old there left w at node is off in
    let still : entry_in mid.looks mid.rest at ≡ entry_in old.looks old.rest at =
    planned sheets facts old mid new there left fresh p at node is
    ∙ ap (option_map (entry node.key)) (kept_style sheets facts left kept before at s.0 within off s.2)
    ∙ sym s.1 in
    ap (λ (b : Bool). joined (written b (slice_get facts at) (slice_get mid.looks at)) (slice_get mid.rest at)) marked
    ∙ (ap (λ (o : Option StyleFacts). joined (option_map (bound_at o) (slice_get mid.looks at))
    (slice_get mid.rest at)) is
    ∙ (entry_rewritten node (slice_get mid.looks at) (slice_get mid.rest at)
    ∙ (ap (option_map (λ (e : Entry). entry e.key (rewritten node.codes e.style))) still
    ∙ (recoded_right sheets facts restyle old there left before w at node is marked
    ∙ ap (option_map (entry node.key))
    (sym (from_nothing sheets facts restyle kept before w.are.right at within))))))

other_right : (sheets : List SheetAt) (facts : List StyleFacts) (restyle : List ℕ) (old mid new : Kept)
    (there : List Bool) (left : List ℕ) (fresh : List Fresh) → ParentsStandBefore facts
    → IsParted sheets facts restyle old there left → ArePartsPut sheets facts old mid new there left fresh
    → (at : ℕ) (node : StyleFacts) → slice_get facts at ≡ Some node → get_or there at false ≡ false
    → joined (rewritten_at there facts mid.looks at) (slice_get mid.rest at)
    ≡ option_map (entry node.key) (updated_style sheets facts restyle (kept_of old facts) at)
other_right sheets facts restyle old mid new there left fresh before w p at node is off =
    ap (λ (b : Bool). joined (written b (slice_get facts at) (slice_get mid.looks at)) (slice_get mid.rest at)) off
    ∙ (planned sheets facts old mid new there left fresh p at node is
    ∙ ap (option_map (entry node.key)) (others_right sheets facts restyle old there left before w at node is off))

pub parts_done : (sheets : List SheetAt) (facts : List StyleFacts) (restyle : List ℕ) (old mid new : Kept)
    (there : List Bool) (left : List ℕ) (fresh : List Fresh) → ParentsStandBefore facts
    → ArePartsPut sheets facts old mid new there left fresh → IsParted sheets facts restyle old there left
    → IsUpdate sheets facts restyle old new
parts_done sheets facts restyle old mid new there left fresh before p w = record {
  looks = p.long ∙ p.put.looks;
  rest = ap length p.rest ∙ p.put.rest;
  each = λ at node is.
      ap (λ (o : Option Look). joined o (slice_get new.rest at)) (p.looks at)
      ∙ (ap (λ (l : List Rest). joined (rewritten_at there facts mid.looks at) (slice_get l at)) p.rest
      ∙ elim (cases_Bool (get_or there at false)) [
        | inl marked ↦ there_right sheets facts restyle old mid new there left fresh before w p at node is marked
        | inr off ↦ other_right sheets facts restyle old mid new there left fresh before w p at node is off
      ]);
}

-- ---- the places whose looks are others

pub parts_changed : (facts : List StyleFacts) (old mid new : Kept) (there : List Bool) (fresh : List Fresh)
    (places : List ℕ) → ((at : ℕ) → slice_get new.looks at ≡ rewritten_at there facts mid.looks at)
    → new.changed ≡ places → mid.looks ≡ put_looks old.looks fresh → NamesChanges old.looks fresh places
    → ((at : ℕ) → is_among places at ≡ false → rewritten_at there facts old.looks at ≡ slice_get old.looks at)
    → KeepsOthers old new
parts_changed facts old mid new there fresh places looks changed put named lengths at within off =
    let none : is_among places at ≡ false = sym (ap (λ (l : List ℕ). is_among l at) changed) ∙ off in
    looks at
    ∙ ap (λ (l : List Look). rewritten_at there facts l at) put
    ∙ ap (written (get_or there at false) (slice_get facts at)) (named at none)
    ∙ lengths at none

-- ---- what it costs

worked_both : (p q r : ℕ → Bool) (n : ℕ) → ((k : ℕ) → k < n → ticks (p k) + ticks (q k) ≡ ticks (r k))
    → worked p n + worked q n ≡ worked r n
worked_both p q r zero each = refl
worked_both p q r (suc n) each =
    let rest : worked p n + worked q n ≡ worked r n = worked_both p q r n (λ k less. each k (omega arith)) in
    let here : ticks (p n) + ticks (q n) ≡ ticks (r n) = each n (omega arith) in
    omega arith

ticks_both : (listed there left : Bool) (kept : Option NodeStyle) → listed ≡ (there || left)
    → (there ≡ true → left ≡ false) → (left ≡ false → is_none kept ≡ false)
    → ticks (needs_by left kept) + ticks there ≡ ticks (needs_by listed kept)
ticks_both listed true true kept e one some = absurd (true≢false (one refl))
ticks_both listed true false kept e one some =
    ap (λ (b : Bool). ticks b + 1) (some refl) ∙ sym (ap (λ (b : Bool). ticks (needs_by b kept)) e)
ticks_both listed false true kept e one some = sym (ap (λ (b : Bool). ticks (needs_by b kept)) e)
ticks_both listed false false kept e one some =
    ap (λ (b : Bool). ticks b + 0) (some refl)
    ∙ sym (ap (λ (b : Bool). ticks (needs_by b kept)) e ∙ ap ticks (some refl))

pub parts_cost : (sheets : List SheetAt) (facts : List StyleFacts) (restyle : List ℕ) (old : Kept) (there : List Bool)
    (left : List ℕ) → IsParted sheets facts restyle old there left
    → worked (needs left (kept_of old facts)) (length facts) + worked (λ at. get_or there at false) (length facts)
    ≡ worked (needs restyle (kept_of old facts)) (length facts)
parts_cost sheets facts restyle old there left w =
    let kept = kept_of old facts in
    worked_both (needs left kept) (λ at. get_or there at false) (needs restyle kept) (length facts)
    (λ k within. (let part = w.parts.each k within in
    ticks_both (is_among restyle k) (get_or there k false) (is_among left k) (kept k)
    (sym (w.marked k within) ∙ part.marked) part.one
    (λ off. (let node = get_there facts k within in
    ap is_none (stay_of sheets facts restyle old there left w k node.0 node.1 off).2))))
