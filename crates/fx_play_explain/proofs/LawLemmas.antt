-- There is one text, and its winner is that of the style.
use Rattle.std.proofs.Common.{◌≡◌, ◌∙◌, ◌<◌, ℕ, List, [], ◌∷◌, Option, Some, Result, Ok, Err, ap, subst, sym, length, inl, inr, arith}
use Rattle.std.proofs.lemmas.Option.{slice_get_cases}
use Rattle.std.proofs.lemmas.List.Quantifiers.{position-Some}
use Rattle.fx_base.specs.declared.keys.NodeKey.{NodeKey}
use Rattle.fx_cascade.specs.Sources.{NameEachRuleOnce, best_source}
use Rattle.fx_css_types.specs.declared.sheets.Candidate.{Candidate}
use Rattle.fx_css_types.specs.declared.sheets.SheetAt.{SheetAt}
use Rattle.fx_explain.specs.Explained.{IsExplained}
use Rattle.fx_explain.specs.declared.explained.Explained.{Explained}
use Rattle.fx_kinds.specs.declared.facts.StyleFacts.{StyleFacts}
use Rattle.fx_look.specs.declared.styles.CodeValue.{CodeValue}
use Rattle.fx_plain_steps.specs.Lines.{Step, printing}
use Rattle.fx_select.specs.AllMatching.{matching_of}
use Rattle.fx_select.specs.Chains.{ParentsStandBefore, chain, upward}
use Rattle.fx_select.proofs.ChainLemmas.{upward-some}
use Rattle.fx_stage_facts.specs.Attached.{looked}
use Rattle.fx_stage_facts.specs.Sheets.{sheets_of}
use Rattle.fx_stage_facts.specs.Styles.{style_facts}
use Rattle.fx_stage_model.specs.World.{World}
use Rattle.fx_stage_types.specs.declared.refusals.Refusal.{Refusal}
use Rattle.fx_style.specs.Rules.{matching_nodes, winner_at, winner_of}
use Rattle.fx_tree.specs.Scene.{is_same}
use Rattle.fx_plain_explain.specs.Explaining.{IsAnswered, IsTold, IsToldOf, codes_of, place_of, seen_by}
use Rattle.fx_plain_explain.specs.Ranks.{explanation_lines, source_text}

-- there is one explanation of a property, where each rule is named once
abbrev pub OneTold : Type 0
OneTold =
    (sheets : List SheetAt) (matched : List Candidate) (codes : List CodeValue) (name : List ℕ) (told other : Explained)
    → NameEachRuleOnce matched → IsExplained sheets matched codes name told → IsExplained sheets matched codes name other
    → told ≡ other

abbrev pub Once : Type 0
Once = (sheets : List SheetAt) (nodes : List StyleFacts) → NameEachRuleOnce (matching_nodes sheets nodes)

one_at : OneTold → Once → (sheets : List SheetAt) (nodes : List StyleFacts) (at : ℕ) (name text other : List ℕ)
    → IsTold sheets nodes at name text → IsTold sheets nodes at name other → text ≡ other
one_at one once sheets nodes at name text other this that =
    this.is
    ∙ ap
    (λ (told : Explained). explanation_lines (source_text sheets (seen_by (chain nodes at)) (matching_of sheets nodes at)) told)
    (one sheets (matching_of sheets nodes at) (codes_of (chain nodes at)) name this.told that.told (once sheets (chain nodes at))
    this.explained that.explained)
    ∙ sym that.is

one_place : (o : Option ℕ) (at other : ℕ) → o ≡ Some at → o ≡ Some other → at ≡ other
one_place o at other is so = cc

one_of : OneTold → Once → (sheets : List SheetAt) (nodes : List StyleFacts) (key : NodeKey) (name text other : List ℕ)
    → IsToldOf sheets nodes key name text → IsToldOf sheets nodes key name other → text ≡ other
one_of one once sheets nodes key name text other this that =
    one_at one once sheets nodes that.at name text other
    (subst (λ (at : ℕ). IsTold sheets nodes at name text) (one_place (place_of nodes key) this.at that.at this.there that.there)
    this.told)
    that.told

pub one_answer : OneTold → Once → (number : ℕ) (name : List ℕ) (world : World) (found : Result NodeKey Refusal) (step other : Step)
    → IsAnswered number name world found step → IsAnswered number name world found other → step ≡ other
one_answer one once number name world (Ok key) step other this that =
    this.is
    ∙ ap (λ (text : List ℕ). printing text (looked world))
    (one_of one once (sheets_of world) (style_facts world) key name this.text that.text this.told that.told)
    ∙ sym that.is
one_answer one once number name world (Err word) step other this that = this ∙ sym that

-- the winner

pub place_there : (nodes : List StyleFacts) (key : NodeKey) (at : ℕ) → place_of nodes key ≡ Some at → at < length nodes
place_there [] key at is = cc
place_there (node ∷ rest) key at is =
    (position-Some (λ (n : StyleFacts). is_same n.key key) (node ∷ rest) at node is).0

abbrev pub WinsBest : Type 0
WinsBest =
    (sheets : List SheetAt) (matched : List Candidate) (codes : List CodeValue) (name : List ℕ) (told : Explained)
    → NameEachRuleOnce matched → IsExplained sheets matched codes name told → told.winner ≡ best_source sheets matched codes name

pub wins_style : WinsBest → Once → (sheets : List SheetAt) (nodes : List StyleFacts) → ParentsStandBefore nodes → (at : ℕ)
    → at < length nodes → (name text : List ℕ) (told : IsTold sheets nodes at name text)
    → told.told.winner ≡ winner_at sheets nodes at name
wins_style wins once sheets nodes before at there name text told = elim (slice_get_cases nodes at).1 [
  | inl (node, within, is, read) ↦
      let up : chain nodes at ≡ node ∷ upward nodes node.parent = upward-some nodes before at node is in
      wins sheets (matching_of sheets nodes at) (codes_of (chain nodes at)) name told.told (once sheets (chain nodes at)) told.explained
      ∙ ap (λ (c : List StyleFacts). best_source sheets (matching_nodes sheets c) (codes_of c) name) up
      ∙ sym (ap (λ (c : List StyleFacts). winner_of sheets c name) up)
  | inr (past, none) ↦ absurd (omega arith)
]
