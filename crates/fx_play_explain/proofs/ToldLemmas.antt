-- What is told of a node of a world, from what is told over lists, and the line that prints it.
use Rattle.std.proofs.Common.{◌≡◌, ◌∙◌, ℕ, Bool, true, List, [], Some, None, Result, Ok, Err, OnOk, ap, cond, length, map, refl, subst, sym}
use Rattle.std.specs.Prelude.{IsSome, is_some}
use Rattle.std.specs.List.{position_or_len}
use Rattle.std.proofs.lemmas.Bool.{lt-ltb}
use Rattle.fx_base.specs.declared.keys.Name.{Name}
use Rattle.fx_base.specs.declared.keys.NodeKey.{NodeKey}
use Rattle.fx_css_types.specs.declared.sheets.SheetAt.{SheetAt}
use Rattle.fx_focus.specs.Attached.{is_attached}
use Rattle.fx_kinds.specs.declared.facts.StyleFacts.{StyleFacts}
use Rattle.fx_plain_steps.specs.Lines.{Step, printing}
use Rattle.fx_select.specs.Chains.{ParentsStandBefore}
use Rattle.fx_stage_facts.specs.Attached.{attached_keys, looked}
use Rattle.fx_stage_facts.specs.Laws.{AreOneScene}
use Rattle.fx_stage_facts.specs.Scenes.{facts_of}
use Rattle.fx_stage_facts.specs.Sheets.{sheets_of}
use Rattle.fx_stage_facts.specs.Styles.{style_facts}
use Rattle.fx_stage_facts.specs.declared.facts.Facts.{Facts}
use Rattle.fx_stage_model.specs.World.{World}
use Rattle.fx_stage_text.specs.Printing.{refused_line}
use Rattle.fx_stage_types.specs.Words.{word_of}
use Rattle.fx_stage_types.specs.declared.refusals.Refusal.{Refusal}
use Rattle.fx_tree.specs.Scene.{IsSound, has, is_same}
use Rattle.fx_plain_explain.specs.Explaining.{IsAnswered, IsExplainLine, IsToldOf, find_attached, place_of}
use Rattle.fx_play_explain.proofs.PlaceLemmas.{has_place, stands_there}

facts_sheets : (world : World) → (facts_of world).sheets ≡ sheets_of world
unfolding facts_of
facts_sheets world = refl

facts_styles : (world : World) → (facts_of world).styles ≡ style_facts world
unfolding facts_of
facts_styles world = refl

pub parents_before : (world : World) (facts : Facts) → facts ≡ facts_of world → AreOneScene world → ParentsStandBefore facts.styles
parents_before world facts are one =
    subst ParentsStandBefore (sym (ap (λ (f : Facts). f.styles) are ∙ facts_styles world)) one.before

-- a node that stands in the scene has facts
pub has_facts : (world : World) (facts : Facts) → facts ≡ facts_of world → AreOneScene world → IsSound world.graph.tree
    → (key : NodeKey) → is_attached world.graph.tree key ≡ true → IsSome (place_of facts.styles key)
has_facts world facts are one sound key attached =
    let keys : map (λ (node : StyleFacts). node.key) facts.styles ≡ attached_keys world =
    ap (λ (f : Facts). map (λ (node : StyleFacts). node.key) f.styles) are
    ∙ ap (map (λ (node : StyleFacts). node.key)) (facts_styles world)
    ∙ one.styles in
    let there = subst (λ (ks : List NodeKey). has ks key ≡ true) (sym keys) (stands_there world.graph.tree sound key attached) in
    let same : StyleFacts → Bool = λ (node : StyleFacts). is_same node.key key in
    ap (λ (b : Bool). is_some (cond b (Some (position_or_len same facts.styles)) None))
    (lt-ltb (position_or_len same facts.styles) (length facts.styles) (has_place (λ (node : StyleFacts). node.key) facts.styles key there))

-- over the facts of a world
pub told_of_world : (world : World) (facts : Facts) (key : NodeKey) (name text : List ℕ) → facts ≡ facts_of world
    → IsToldOf facts.sheets facts.styles key name text → IsToldOf (sheets_of world) (style_facts world) key name text
told_of_world world facts key name text are told =
    subst (λ (sheets : List SheetAt). IsToldOf sheets (style_facts world) key name text)
    (ap (λ (f : Facts). f.sheets) are ∙ facts_sheets world)
    (subst (λ (styles : List StyleFacts). IsToldOf facts.sheets styles key name text)
    (ap (λ (f : Facts). f.styles) are ∙ facts_styles world) told)

-- who was told is nobody
pub step_printing : (text other : List ℕ) (heard : List (Name × ℕ)) (now world : World) → text ≡ other → heard ≡ [] → now ≡ world
    → ◌≡◌ {A = Step} (record { text = text; heard = heard; world = now }) (printing other world)
step_printing text other heard now world same none is = λ i. record { text = same i; heard = none i; world = is i }

pub line_told : (number : ℕ) (path : List (List ℕ)) (name : List ℕ) (world : World) (key : NodeKey) (text : List ℕ) (step : Step)
    → Ok key ≡ find_attached world path → IsToldOf (sheets_of world) (style_facts world) key name text
    → step ≡ printing text (looked world) → IsExplainLine number path name world step
line_told number path name world key text step found told is =
    subst (λ (o : Result NodeKey Refusal). IsAnswered number name world o step) found
    (record { text = text; told = told; is = is })

pub line_refused : (number : ℕ) (path : List (List ℕ)) (name : List ℕ) (world : World) (word : Refusal) (step : Step)
    → Err word ≡ find_attached world path → step ≡ printing (refused_line number (word_of word)) world
    → IsExplainLine number path name world step
line_refused number path name world word step found is =
    subst (λ (o : Result NodeKey Refusal). IsAnswered number name world o step) found is

pub on_both : {T E A B C : Type 0} (r : Result T E) → OnOk r A → OnOk r B → (A → B → C) → OnOk r C
on_both (Ok value) a b both = both a b
on_both (Err error) a b both = tt

pub on_each : {T E P : Type 0} (r : Result T E) → P → OnOk r P
on_each (Ok value) holds = holds
on_each (Err error) holds = tt
