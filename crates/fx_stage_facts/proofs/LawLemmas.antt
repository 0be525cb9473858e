-- The lists of a scene fit together.
use Rattle.std.proofs.Common.{◌≡◌, ◌∙◌, ◌<◌, ◌+◌, ℕ, zero, suc, Bool, true, false, cond, List, [], ◌∷◌, ◌++◌, All, append_assoc, arith, get_or, length, map, Option, Some, None, refl, sym, ap, subst, inl, inr}
use Rattle.std.specs.Prelude.{option_to_list, slice_get}
use Rattle.std.specs.List.{flat_map}
use Rattle.std.specs.Option.{option_map, option_map_or}
use Rattle.std.proofs.Math.ListN.{get_or-map}
use Rattle.std.proofs.Math.Seq.{get_or-append_seam}
use Rattle.std.proofs.lemmas.Bool.{cases_lt}
use Rattle.std.proofs.lemmas.List.{append-nil, get_or_append_left, length-append, length-map, map-append}
use Rattle.std.proofs.lemmas.List.Elements.{All-append, All-cons, All-get_or, All-nil}
use Rattle.std.proofs.lemmas.List.Quantifiers.{position-Some}
use Rattle.std.proofs.lemmas.Option.{slice_get-get_or, slice_get-map, slice_get_within}
use Rattle.fx_base.specs.declared.keys.NodeKey.{NodeKey}
use Rattle.fx_graph_model.specs.declared.entries.Entry.{Entry}
use Rattle.fx_graph_model.specs.Uses.{entry_of}
use Rattle.fx_kinds.specs.declared.facts.BoxFacts.{BoxFacts}
use Rattle.fx_kinds.specs.declared.facts.StyleFacts.{StyleFacts}
use Rattle.fx_kinds.specs.Properties.{PropertyRow, is_styling, listed, rows_of, styled_by}
use Rattle.fx_look.specs.Styles.{StyleRow, styles}
use Rattle.fx_look.specs.declared.styles.CodeValue.{CodeValue}
use Rattle.fx_look.specs.declared.styles.StyleForm.TheVariants as form
use Rattle.fx_look.specs.declared.styles.TheConstants.{STYLE_COUNT}
use Rattle.fx_look.proofs.StyleLemmas.{styles_counted}
use Rattle.fx_stage_types.specs.declared.node_data.NodeData.{NodeData}
use Rattle.fx_stage_types.specs.Tables.{data_of}
use Rattle.fx_stage_model.specs.World.{World}
use Rattle.fx_tree.specs.Scene.{IsSound, children_or_none, is_same, parent_of, subtree, subtree_in}
use Rattle.fx_tree.proofs.Lines.{subtree_in-more}
use Rattle.fx_stage_facts.specs.declared.stands.Stand.{Stand}
use Rattle.fx_stage_facts.specs.Attached.{attached_keys}
use Rattle.fx_stage_facts.specs.Boxes.{box_at, box_facts, box_in}
use Rattle.fx_stage_facts.specs.Laws.{FactsFitTogether, IsTree}
use Rattle.fx_stage_facts.specs.Sheets.{common_sheets, sheets_at}
use Rattle.fx_stage_facts.specs.Stands.{place_of, stand_of, stands_from, stands_of}
use Rattle.fx_stage_facts.specs.Styles.{code_of, code_with, codes_from, is_initial, style_at, style_facts, style_in, styles_from}
use Rattle.fx_stage_facts.specs.Values.{is_set_disabled}
use Rattle.fx_stage_facts.proofs.TreeLemmas.{HasParent, all_hung, child_up, hang_below}

-- the nodes

stands_keys : (world : World) (stands : List Stand) (keys : List NodeKey)
    → map (λ (stand : Stand). stand.key) (stands_from world stands keys) ≡ map (λ (stand : Stand). stand.key) stands ++ keys
stands_keys world stands [] = sym (append-nil (map (λ (stand : Stand). stand.key) stands))
stands_keys world stands (key ∷ keys) =
    stands_keys world (stands ++ stand_of world stands key ∷ []) keys
    ∙ ap (λ (ks : List NodeKey). ks ++ keys) (map-append (λ (stand : Stand). stand.key) stands (stand_of world stands key ∷ []))
    ∙ append_assoc (map (λ (stand : Stand). stand.key) stands) (key ∷ []) keys

style_key : (world : World) (place : ℕ) (stand : Stand) (o : Option NodeData) → (style_in world place stand o).key ≡ stand.key
style_key world place stand None = refl
style_key world place stand (Some node) = refl

style_parent : (world : World) (place : ℕ) (stand : Stand) (o : Option NodeData)
    → (style_in world place stand o).parent ≡ stand.parent
style_parent world place stand None = refl
style_parent world place stand (Some node) = refl

styles_as : {X : Type 0} (f : StyleFacts → X) (g : Stand → X) (world : World)
    → ((place : ℕ) (stand : Stand) → f (style_at world place stand) ≡ g stand) → (place : ℕ) (stands : List Stand)
    → map f (styles_from world place stands) ≡ map g stands
styles_as f g world each place [] = refl
styles_as f g world each place (stand ∷ rest) =
    ap (λ x. x ∷ map f (styles_from world (place + length (sheets_at world.graph stand)) rest)) (each place stand)
    ∙ ap (λ xs. g stand ∷ xs) (styles_as f g world each (place + length (sheets_at world.graph stand)) rest)

boxes_as : {X : Type 0} (f : BoxFacts → X) (g : Stand → X) (world : World) → ((stand : Stand) → f (box_at world stand) ≡ g stand)
    → (stands : List Stand) → map f (map (box_at world) stands) ≡ map g stands
boxes_as f g world each [] = refl
boxes_as f g world each (stand ∷ rest) =
    ap (λ x. x ∷ map f (map (box_at world) rest)) (each stand) ∙ ap (λ xs. g stand ∷ xs) (boxes_as f g world each rest)

box_key : (entries : List Entry) (stand : Stand) (o : Option NodeData) → (box_in entries stand o).key ≡ stand.key
box_key entries stand None = refl
box_key entries stand (Some node) = refl

box_parent : (entries : List Entry) (stand : Stand) (o : Option NodeData) → (box_in entries stand o).parent ≡ stand.parent
box_parent entries stand None = refl
box_parent entries stand (Some node) = refl

-- parents

abbrev ParentsBefore : List Stand → Type 0
ParentsBefore stands =
    (place parent : ℕ) (d : Stand) → place < length stands → (get_or stands place d).parent ≡ Some parent → parent < place

place_below : (stands : List Stand) (o : Option NodeKey) (parent : ℕ) → place_of stands o ≡ Some parent → parent < length stands
place_below stands None parent is = absurd (cc)
place_below stands (Some key) parent is =
    (position-Some (λ (stand : Stand). is_same stand.key key) stands parent
    (record { key = key; parent = None; disabled = false }) is).0

before_more : (world : World) (stands : List Stand) (key : NodeKey) → ParentsBefore stands
    → ParentsBefore (stands ++ stand_of world stands key ∷ [])
before_more world stands key before place parent d within is =
    elim (cases_lt place (length stands)) [
      | inl low ↦
          before place parent d low
          (ap (λ (s : Stand). s.parent) (sym (get_or_append_left stands (stand_of world stands key ∷ []) d place low)) ∙ is)
      | inr high ↦
          let long = length-append stands (stand_of world stands key ∷ []) in
          let last : place ≡ length stands = omega (arith, within, high, long) in
          let here : get_or (stands ++ stand_of world stands key ∷ []) place d ≡ stand_of world stands key =
          ap (λ (n : ℕ). get_or (stands ++ stand_of world stands key ∷ []) n d) last
          ∙ get_or-append_seam stands (stand_of world stands key) [] d in
          let below = place_below stands (parent_of world.graph.tree.nodes key) parent (ap (λ (s : Stand). s.parent) (sym here) ∙ is) in
          omega (arith, below, last)
    ]

all_before : (world : World) (stands : List Stand) (keys : List NodeKey) → ParentsBefore stands
    → ParentsBefore (stands_from world stands keys)
all_before world stands [] before = before
all_before world stands (key ∷ keys) before =
    all_before world (stands ++ stand_of world stands key ∷ []) keys (before_more world stands key before)

-- values by code

abbrev IsSmall : CodeValue → Type 0
IsSmall code = code.style.0 < STYLE_COUNT

no_row : StyleRow
no_row = record { name = []; form = form.Size; property = None }

small_style : (name : List ℕ) (place : ℕ) → styled_by name ≡ Some place → place < STYLE_COUNT
unfolding styled_by
small_style name place is =
    let there = position-Some (is_styling name) styles place no_row is in
    omega (arith, there.0, styles_counted)

code_small : (entries : List Entry) (n : ℕ) (o : Option ℕ) → ((place : ℕ) → o ≡ Some place → place < STYLE_COUNT)
    → All IsSmall (option_to_list (code_of entries n o))
code_small entries n None small = All-nil IsSmall
code_small entries n (Some style) small = by_origin (is_initial (entry_of entries n).origin)
  where
    by_origin : (b : Bool) → All IsSmall (option_to_list (cond b None (Some (code_with style entries n))))
    by_origin true = All-nil IsSmall
    by_origin false = All-cons IsSmall (code_with style entries n) [] (small style refl) (All-nil IsSmall)

codes_small : (entries : List Entry) (n : ℕ) (rows : List PropertyRow) → All IsSmall (codes_from entries n (map listed rows))
codes_small entries n [] = All-nil IsSmall
codes_small entries n (row ∷ rows) =
    All-append IsSmall (option_to_list (code_of entries n (styled_by row.name))) (codes_from entries (n + 1) (map listed rows))
    (code_small entries n (styled_by row.name) (small_style row.name))
    (codes_small entries (n + 1) rows)

style_small : (world : World) (place : ℕ) (stand : Stand) (o : Option NodeData)
    → All IsSmall (style_in world place stand o).codes
style_small world place stand None = All-nil IsSmall
style_small world place stand (Some node) = codes_small world.store.entries node.first (rows_of node.class)

styles_small : (world : World) (place : ℕ) (stands : List Stand)
    → All (λ (node : StyleFacts). All IsSmall node.codes) (styles_from world place stands)
styles_small world place [] = All-nil (λ (node : StyleFacts). All IsSmall node.codes)
styles_small world place (stand ∷ rest) =
    All-cons (λ (node : StyleFacts). All IsSmall node.codes) (style_at world place stand)
    (styles_from world (place + length (sheets_at world.graph stand)) rest)
    (style_small world place stand (data_of world.graph.table stand.key))
    (styles_small world (place + length (sheets_at world.graph stand)) rest)

-- all together

module _ (world : World) where
  abbrev first : ℕ
  first = length (common_sheets world.graph)

  keys_are : map (λ (stand : Stand). stand.key) (stands_of world) ≡ attached_keys world
  keys_are = stands_keys world [] (attached_keys world)

  style_parents : map (λ (node : StyleFacts). node.parent) (style_facts world) ≡ map (λ (stand : Stand). stand.parent) (stands_of world)
  style_parents =
      styles_as (λ (node : StyleFacts). node.parent) (λ (stand : Stand). stand.parent) world
      (λ place stand. style_parent world place stand (data_of world.graph.table stand.key)) first (stands_of world)

  box_parents : map (λ (node : BoxFacts). node.parent) (box_facts world) ≡ map (λ (stand : Stand). stand.parent) (stands_of world)
  box_parents =
      boxes_as (λ (node : BoxFacts). node.parent) (λ (stand : Stand). stand.parent) world
      (λ stand. box_parent world.store.entries stand (data_of world.graph.table stand.key)) (stands_of world)

  some_stand : Stand
  some_stand = record { key = record { slot = 0; birth = 0 }; parent = None; disabled = false }

  given : {A : Type 0} (a b : A) → ◌≡◌ {A = Option A} (Some a) (Some b) → a ≡ b
  given a b e = cc

  stands_before : ParentsBefore (stands_of world)
  stands_before = all_before world [] (attached_keys world) (λ place parent d within. absurd (omega (arith, within)))

  parents_before : (place parent : ℕ) (node : StyleFacts) → slice_get (style_facts world) place ≡ Some node
      → node.parent ≡ Some parent → parent < place
  parents_before place parent node there is =
      let long : length (style_facts world) ≡ length (stands_of world) =
      sym (length-map (style_facts world) (λ (n : StyleFacts). n.parent))
      ∙ ap length style_parents
      ∙ length-map (stands_of world) (λ (s : Stand). s.parent) in
      let within : place < length (stands_of world) =
      omega (arith, slice_get_within (style_facts world) place node there, long) in
      let stand = get_or (stands_of world) place some_stand in
      let same : Some node.parent ≡ Some stand.parent =
      sym (slice_get-map (λ (n : StyleFacts). n.parent) (style_facts world) place ∙ ap (option_map (λ (n : StyleFacts). n.parent)) there)
      ∙ ap (λ (ps : List (Option ℕ)). slice_get ps place) style_parents
      ∙ slice_get-map (λ (s : Stand). s.parent) (stands_of world) place
      ∙ ap (option_map (λ (s : Stand). s.parent)) (slice_get-get_or (stands_of world) place some_stand within) in
      stands_before place parent some_stand within (sym (given node.parent stand.parent same) ∙ is)

parent_at : (world : World) (place : ℕ)
    → get_or (map (λ (stand : Stand). stand.parent) (stands_of world)) place None
    ≡ (get_or (stands_of world) place (some_stand world)).parent
unfolding some_stand
parent_at world place = get_or-map (λ (stand : Stand). stand.parent) (stands_of world) place (some_stand world)

pub facts_fit : FactsFitTogether
facts_fit world = record {
  styles = styles_as (λ (node : StyleFacts). node.key) (λ (stand : Stand). stand.key) world
      (λ place stand. style_key world place stand (data_of world.graph.table stand.key)) (first world) (stands_of world)
      ∙ keys_are world;
  boxes = boxes_as (λ (node : BoxFacts). node.key) (λ (stand : Stand). stand.key) world
      (λ stand. box_key world.store.entries stand (data_of world.graph.table stand.key)) (stands_of world)
      ∙ keys_are world;
  marks = length-map (attached_keys world) (is_set_disabled world);
  parents = style_parents world ∙ sym (box_parents world);
  before = parents_before world;
  codes = styles_small world (first world) (stands_of world);
}

-- the nodes are a tree

abbrev parents : List Stand → List (Option ℕ)
parents stands = map (λ (stand : Stand). stand.parent) stands

abbrev AreHungStands : List Stand → Type 0
AreHungStands stands =
    (get_or (parents stands) 0 None ≡ None)
    × ((place : ℕ) → 0 < place → place < length stands
    → (parent : ℕ) × (get_or (parents stands) place None ≡ Some parent))

no_stand : Stand
no_stand = record { key = record { slot = 0; birth = 0 }; parent = None; disabled = false }

hung_list : (root : Stand) (more : List Stand) → root.parent ≡ None → All HasParent more → AreHungStands (root ∷ more)
unfolding no_stand
hung_list root more none all = (none, later)
  where
    later : (place : ℕ) → 0 < place → place < length (root ∷ more)
        → (parent : ℕ) × (get_or (parents (root ∷ more)) place None ≡ Some parent)
    later zero some within = absurd (omega (arith, some))
    later (suc k) some within =
        let at = All-get_or HasParent more k no_stand (omega (arith, within)) all in
        (at.0, get_or-map (λ (stand : Stand). stand.parent) more k no_stand ∙ at.1)

module _ (world : World) (sound : IsSound world.graph.tree) where
  hung_from : (o : Option NodeKey) → world.graph.tree.root ≡ o
      → AreHungStands (stands_from world [] (option_map_or (subtree world.graph.tree.nodes) o []))
  hung_from None is = (refl, λ place some within. absurd (omega (arith, within)))
  hung_from (Some root) is =
      let below : NodeKey → List NodeKey = children_or_none world.graph.tree.nodes in
      let tail = flat_map (subtree_in 63 below) (below root) in
      let stand = stand_of world [] root in
      let rest =
      all_hung world tail (stand ∷ [])
      (hang_below (parent_of world.graph.tree.nodes) below (child_up world.graph.tree sound) 63 root) in
      let keys : subtree world.graph.tree.nodes root ≡ root ∷ tail = subtree_in-more 64 below root (λ e. absurd (omega (arith, e))) in
      subst AreHungStands (sym (ap (stands_from world []) keys ∙ rest.1))
      (hung_list stand rest.0 (ap (place_of []) (sound.topmost root is).1) rest.2)

  pub nodes_hang : IsTree world
  nodes_hang =
      let hung = hung_from world.graph.tree.root refl in
      let same = box_parents world in
      let long = ap length same ∙ length-map (stands_of world) (λ (s : Stand). s.parent) in
      record {
        root = ap (λ (ps : List (Option ℕ)). get_or ps 0 None) same ∙ hung.0;
        below = λ place some within.
            let inside : place < length (stands_of world) = omega (arith, within, long) in
            let at = hung.1 place some inside in (
              at.0,
              ap (λ (ps : List (Option ℕ)). get_or ps place None) same ∙ at.1,
              stands_before world place at.0 (some_stand world) inside
                  (sym (parent_at world place) ∙ at.1),
            );
      }
