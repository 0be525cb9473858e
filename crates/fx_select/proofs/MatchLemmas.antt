-- What a try at a node says of its ancestors.
use Rattle.std.proofs.Common.{◌≡◌, Bool, true, false, ◌&&◌, ◌||◌, List, [], ◌∷◌, Option, Some, None, refl, sym, ◌∙◌, ap}
use Rattle.std.proofs.lemmas.Bool.{false≢true}
use Rattle.fx_css_types.specs.declared.selectors.Combinator.{Combinator}
use Rattle.fx_css_types.specs.declared.selectors.Combinator.TheVariants.{Descendant, Child}
use Rattle.fx_css_types.specs.declared.selectors.Compound.{Compound}
use Rattle.fx_kinds.specs.declared.facts.StyleFacts.{StyleFacts}
use Rattle.fx_select.specs.declared.matching.Match.{Match}
use Rattle.fx_select.specs.declared.matching.Match.TheVariants.{Here, NotHere, Nowhere}
use Rattle.fx_select.specs.Matching.{IsVerdict, fits, matches_before, matches_up, somewhere}

or_false : (a b : Bool) → (a || b) ≡ false → (a ≡ false) × (b ≡ false)
or_false true b e = absurd (false≢true (sym e))
or_false false b e = (refl, e)

or_true : (a b : Bool) → a ≡ true → (a || b) ≡ true
or_true true b e = refl
or_true false b e = absurd (false≢true e)

and_false : (a b : Bool) → b ≡ false → (a && b) ≡ false
and_false true b e = e
and_false false b e = refl

pub somewhere-none : (holds : List StyleFacts → Bool) → somewhere holds [] ≡ false
unfolding somewhere
somewhere-none holds = refl

-- what holds here holds somewhere
pub somewhere-here : (holds : List StyleFacts → Bool) (node : StyleFacts) (above : List StyleFacts)
    → holds (node ∷ above) ≡ true → somewhere holds (node ∷ above) ≡ true
unfolding somewhere
somewhere-here holds node above here = or_true (holds (node ∷ above)) (somewhere holds above) here

-- what doesn't hold here is looked for above
pub somewhere-above : (holds : List StyleFacts → Bool) (node : StyleFacts) (above : List StyleFacts)
    → holds (node ∷ above) ≡ false → somewhere holds (node ∷ above) ≡ somewhere holds above
unfolding somewhere
somewhere-above holds node above here = ap (λ (b : Bool). b || somewhere holds above) here

-- what holds nowhere doesn't hold here
pub nowhere-here : (holds : List StyleFacts → Bool) (node : StyleFacts) (above : List StyleFacts)
    → somewhere holds (node ∷ above) ≡ false → holds (node ∷ above) ≡ false
unfolding somewhere
nowhere-here holds node above nowhere = (or_false (holds (node ∷ above)) (somewhere holds above) nowhere).0

-- what holds nowhere is nowhere to be looked for
pub nowhere-twice : (holds : List StyleFacts → Bool) (nodes : List StyleFacts)
    → somewhere holds nodes ≡ false → somewhere (somewhere holds) nodes ≡ false
unfolding somewhere
nowhere-twice holds [] nowhere = refl
nowhere-twice holds (node ∷ above) nowhere =
    let parts : (holds (node ∷ above) ≡ false) × (somewhere holds above ≡ false) = or_false (holds (node ∷ above)) (somewhere holds above) nowhere in
    ap (λ (b : Bool). b || somewhere (somewhere holds) above) nowhere ∙ nowhere-twice holds above parts.1

-- no compound matches anywhere
pub none-nowhere : (nodes : List StyleFacts) → somewhere (matches_up []) nodes ≡ false
unfolding somewhere matches_up
none-nowhere [] = refl
none-nowhere (node ∷ above) = none-nowhere above

pub matches_up-nothing : (compounds : List Compound) → matches_up compounds [] ≡ false
unfolding matches_up
matches_up-nothing [] = refl
matches_up-nothing (last ∷ before) = refl

nowhere-start : (holds : List StyleFacts → Bool) → holds [] ≡ false → (nodes : List StyleFacts)
    → somewhere holds nodes ≡ false → holds nodes ≡ false
nowhere-start holds nothing [] nowhere = nothing
nowhere-start holds nothing (node ∷ above) nowhere = nowhere-here holds node above nowhere

nowhere-stepped : (step holds : List StyleFacts → Bool) (passes : StyleFacts → Bool) → step [] ≡ false
    → ((node : StyleFacts) (above : List StyleFacts) → holds (node ∷ above) ≡ (passes node && step above))
    → (nodes : List StyleFacts) → somewhere step nodes ≡ false → somewhere holds nodes ≡ false
unfolding somewhere
nowhere-stepped step holds passes nothing is [] nowhere = refl
nowhere-stepped step holds passes nothing is (node ∷ above) nowhere =
    let further : somewhere step above ≡ false = (or_false (step (node ∷ above)) (somewhere step above) nowhere).1 in
    let here : holds (node ∷ above) ≡ false =
    is node above ∙ and_false (passes node) (step above) (nowhere-start step nothing above further) in
    ap (λ (b : Bool). b || somewhere holds above) here
    ∙ nowhere-stepped step holds passes nothing is above further

nowhere-before : (last : Compound) (before : List Compound) (combinator : Option Combinator) → last.combinator ≡ combinator
    → (nodes : List StyleFacts)
    → somewhere (matches_before combinator (matches_up before)) nodes ≡ false → somewhere (matches_up (last ∷ before)) nodes ≡ false
unfolding somewhere matches_up
nowhere-before last before None is [] nowhere = refl
nowhere-before last before None is (node ∷ above) nowhere = absurd (false≢true (sym nowhere))
nowhere-before last before (Some Child) is nodes nowhere =
    nowhere-stepped (matches_up before) (matches_up (last ∷ before)) (fits last) (matches_up-nothing before)
    (λ node above. ap (λ (c : Option Combinator). fits last node && matches_before c (matches_up before) above) is) nodes nowhere
nowhere-before last before (Some Descendant) is nodes nowhere =
    nowhere-stepped (somewhere (matches_up before)) (matches_up (last ∷ before)) (fits last) refl
    (λ node above. ap (λ (c : Option Combinator). fits last node && matches_before c (matches_up before) above) is) nodes nowhere

-- a compound that fits leaves the verdict to what stands before it
pub verdict-fits : (last : Compound) (before : List Compound) (node : StyleFacts) (above : List StyleFacts) (verdict : Match)
    → fits last node ≡ true → IsVerdict (matches_before last.combinator (matches_up before)) above verdict
    → IsVerdict (matches_up (last ∷ before)) (node ∷ above) verdict
unfolding matches_up
verdict-fits last before node above Here fit said = ap (λ (b : Bool). b && matches_before last.combinator (matches_up before) above) fit ∙ said
verdict-fits last before node above NotHere fit said = ap (λ (b : Bool). b && matches_before last.combinator (matches_up before) above) fit ∙ said
verdict-fits last before node above Nowhere fit said =
    let here : matches_up (last ∷ before) (node ∷ above) ≡ false =
    ap (λ (b : Bool). b && matches_before last.combinator (matches_up before) above) fit ∙ said.0 in
    (here, somewhere-above (matches_up (last ∷ before)) node above here ∙ nowhere-before last before last.combinator refl above said.1)

pub not-here : (last : Compound) (before : List Compound) (node : StyleFacts) (above : List StyleFacts)
    → fits last node ≡ false → matches_up (last ∷ before) (node ∷ above) ≡ false
unfolding matches_up
not-here last before node above fit = ap (λ (b : Bool). b && matches_before last.combinator (matches_up before) above) fit

pub no-compound : (nodes : List StyleFacts) → IsVerdict (matches_up []) nodes Nowhere
unfolding matches_up
no-compound nodes = (refl, none-nowhere nodes)
