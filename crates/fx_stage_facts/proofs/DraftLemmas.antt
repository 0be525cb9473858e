-- The lists of a frame's facts, made node by node.
use Rattle.std.proofs.Common.{◌≡◌, ◌∙◌, ◌<◌, ◌≤◌, ◌+◌, ℕ, List, [], ◌∷◌, ◌++◌, All, Bool, Contains, false, true, add-one, append_assoc, arith, cond, drop, filter, get_or, length, map, take, Option, None, Some, refl, subst, sym, ap}
use Rattle.std.specs.List.{flat_map}
use Rattle.std.proofs.Math.Seq.{take-suc}
use Rattle.std.proofs.lemmas.Grind.{flat_map-append}
use Rattle.std.proofs.lemmas.List.{append-nil, drop_all, length-append, map-append, take_all}
use Rattle.std.proofs.lemmas.List.Elements.{All-append, All-cons, All-head, All-nil, All-tail, All-take}
use Rattle.fx_graph_model.specs.Unread.{marked}
use Rattle.fx_graph_model.proofs.Members.{contains_first, contains_later}
use Rattle.fx_base.specs.declared.keys.NodeKey.{NodeKey}
use Rattle.fx_css_types.specs.declared.sheets.SheetAt.{SheetAt}
use Rattle.fx_kinds.specs.declared.facts.BoxFacts.{BoxFacts}
use Rattle.fx_kinds.specs.declared.facts.StyleFacts.{StyleFacts}
use Rattle.fx_stage_types.specs.declared.node_data.NodeData.{NodeData}
use Rattle.fx_stage_types.specs.Tables.{NodeTable, data_of}
use Rattle.fx_store_model.specs.Stored.{Stored}
use Rattle.fx_stage_model.specs.World.{World}
use Rattle.fx_stage_facts.specs.declared.drafts.Draft.{Draft}
use Rattle.fx_stage_facts.specs.declared.drafts.Standing.{Standing}
use Rattle.fx_stage_facts.specs.declared.facts.Facts.{Facts}
use Rattle.fx_stage_facts.specs.declared.stands.Stand.{Stand}
use Rattle.fx_stage_facts.specs.Attached.{attached_keys, displayed_in, looked}
use Rattle.fx_stage_facts.specs.Boxes.{box_at}
use Rattle.fx_stage_facts.specs.Drafts.{IsDraft, IsPut, ReachTo}
use Rattle.fx_stage_facts.specs.Reads.{AreRead, IsRead, IsReadAt}
use Rattle.fx_stage_facts.specs.Scenes.{facts_of}
use Rattle.fx_stage_facts.specs.Sheets.{common_sheets, sheets_at, sheets_of}
use Rattle.fx_stage_facts.specs.Stands.{keys_of, stand_of, stands_from, stands_of}
use Rattle.fx_stage_facts.specs.Styles.{style_at, style_facts, styles_from}
use Rattle.fx_stage_facts.specs.Unread.{unread_in, unread_of}
use Rattle.fx_stage_facts.specs.Values.{is_set_disabled}
use Rattle.fx_stage_facts.proofs.LoopLemmas.{next_left}

-- no node yet

pub draft_none : (world : World) (stands : List Stand) (draft : Draft) → stands ≡ []
    → draft.sheets ≡ common_sheets world.graph → draft.styles ≡ [] → draft.boxes ≡ []
    → IsDraft world stands draft
draft_none world stands draft none sheets styles boxes = record {
  sheets = sheets
      ∙ sym (append-nil (common_sheets world.graph))
      ∙ sym (ap (λ (ss : List Stand). common_sheets world.graph ++ flat_map (sheets_at world.graph) ss) none);
  styles = styles ∙ sym (ap (styles_from world (length (common_sheets world.graph))) none);
  boxes = boxes ∙ sym (ap (map (box_at world)) none);
}

-- a node more

more_sheets : (world : World) (stands : List Stand) (stand : Stand)
    → flat_map (sheets_at world.graph) (stands ++ stand ∷ [])
    ≡ flat_map (sheets_at world.graph) stands ++ sheets_at world.graph stand
more_sheets world stands stand =
    flat_map-append (sheets_at world.graph) stands (stand ∷ [])
    ∙ ap (λ (ss : List SheetAt). flat_map (sheets_at world.graph) stands ++ ss) (append-nil (sheets_at world.graph stand))

more_styles : (world : World) (start : ℕ) (stands : List Stand) (stand : Stand)
    → styles_from world start (stands ++ stand ∷ [])
    ≡ styles_from world start stands
    ++ style_at world (start + length (flat_map (sheets_at world.graph) stands)) stand ∷ []
more_styles world start [] stand =
    let same : start ≡ start + 0 = omega arith in
    ap (λ (n : ℕ). style_at world n stand ∷ []) same
more_styles world start (first ∷ rest) stand =
    let own = sheets_at world.graph first in
    let others = flat_map (sheets_at world.graph) rest in
    let long : length (own ++ others) ≡ length own + length others = length-append own others in
    let same : start + length own + length others ≡ start + length (own ++ others) = omega (arith, long) in
    ap (λ (fs : List StyleFacts). style_at world start first ∷ fs) (more_styles world (start + length own) rest stand)
    ∙ ap
    (λ (n : ℕ). style_at world start first ∷ (styles_from world (start + length own) rest ++ style_at world n stand ∷ []))
    same

pub draft_next : (world : World) (stands now : List Stand) (stand : Stand) (before after : Draft)
    → now ≡ stands ++ stand ∷ []
    → after.sheets ≡ before.sheets ++ sheets_at world.graph stand
    → after.styles ≡ before.styles ++ style_at world (length before.sheets) stand ∷ []
    → after.boxes ≡ before.boxes ++ box_at world stand ∷ []
    → IsDraft world stands before → IsDraft world now after
draft_next world stands now stand before after are sheets styles boxes so_far =
    let common = common_sheets world.graph in
    let long : length before.sheets ≡ length common + length (flat_map (sheets_at world.graph) stands) =
    ap length so_far.sheets ∙ length-append common (flat_map (sheets_at world.graph) stands) in
    record {
      sheets = sheets
          ∙ ap (λ (ss : List SheetAt). ss ++ sheets_at world.graph stand) so_far.sheets
          ∙ append_assoc common (flat_map (sheets_at world.graph) stands) (sheets_at world.graph stand)
          ∙ ap (λ (ss : List SheetAt). common ++ ss) (sym (more_sheets world stands stand))
          ∙ ap (λ (ss : List Stand). common ++ flat_map (sheets_at world.graph) ss) (sym are);
      styles = styles
          ∙ ap (λ (fs : List StyleFacts). fs ++ style_at world (length before.sheets) stand ∷ []) so_far.styles
          ∙ ap (λ (n : ℕ). styles_from world (length common) stands ++ style_at world n stand ∷ []) long
          ∙ sym (more_styles world (length common) stands stand)
          ∙ ap (styles_from world (length common)) (sym are);
      boxes = boxes
          ∙ ap (λ (fs : List BoxFacts). fs ++ box_at world stand ∷ []) so_far.boxes
          ∙ sym (map-append (box_at world) stands (stand ∷ []))
          ∙ ap (map (box_at world)) (sym are);
    }

pub stands_next : (world : World) (stands now : List Stand) (keys : List NodeKey) (place : ℕ) (d : NodeKey)
    → place < length keys → now ≡ stands ++ stand_of world stands (get_or keys place d) ∷ []
    → stands_from world now (drop (place + 1) keys) ≡ stands_from world stands (drop place keys)
stands_next world stands now keys place d within made =
    ap (λ (ss : List Stand). stands_from world ss (drop (place + 1) keys)) made
    ∙ sym (ap (stands_from world stands) (next_left keys place d within))

pub keys_next : (world : World) (stands now : List Stand) (keys : List NodeKey) (place : ℕ) (d : NodeKey)
    → place < length keys → now ≡ stands ++ stand_of world stands (get_or keys place d) ∷ []
    → keys_of now ++ drop (place + 1) keys ≡ keys_of stands ++ drop place keys
keys_next world stands now keys place d within made =
    let key = get_or keys place d in
    ap (λ (ss : List Stand). keys_of ss ++ drop (place + 1) keys) made
    ∙ ap (λ (ks : List NodeKey). ks ++ drop (place + 1) keys)
    (map-append (λ (s : Stand). s.key) stands (stand_of world stands key ∷ []))
    ∙ append_assoc (keys_of stands) (key ∷ []) (drop (place + 1) keys)
    ∙ sym (ap (λ (ks : List NodeKey). keys_of stands ++ ks) (next_left keys place d within))

pub marks_next : (world : World) (marks now : List Bool) (keys : List NodeKey) (place : ℕ) (d : NodeKey)
    → place < length keys → now ≡ marks ++ is_set_disabled world (get_or keys place d) ∷ []
    → marks ≡ map (is_set_disabled world) (take place keys) → now ≡ map (is_set_disabled world) (take (place + 1) keys)
marks_next world marks now keys place d within made so_far =
    let next : take (place + 1) keys ≡ take place keys ++ get_or keys place d ∷ [] =
    ap (λ (n : ℕ). take n keys) (add-one place) ∙ take-suc keys place d within in
    made
    ∙ ap (λ (ms : List Bool). ms ++ is_set_disabled world (get_or keys place d) ∷ []) so_far
    ∙ sym (map-append (is_set_disabled world) (take place keys) (get_or keys place d ∷ []))
    ∙ ap (map (is_set_disabled world)) (sym next)

-- all that is made so far

pub reach_none : (world : World) (keys : List NodeKey) (standing : Standing) (draft : Draft) → standing.stands.items ≡ []
    → standing.marks.items ≡ [] → draft.sheets ≡ common_sheets world.graph → draft.styles ≡ [] → draft.boxes ≡ []
    → ReachTo world keys 0 standing draft
reach_none world keys standing draft none unmarked sheets styles boxes = record {
  within = omega arith;
  left = ap (λ (ss : List Stand). stands_from world ss keys) none;
  whole = ap (λ (ss : List Stand). keys_of ss ++ keys) none;
  marks = unmarked;
  facts = draft_none world standing.stands.items draft none sheets styles boxes;
  read = All-nil (IsReadAt world);
}

reach_more : (world : World) (keys : List NodeKey) (place : ℕ) (d : NodeKey) (before now : Standing) (old new : Draft)
    → place < length keys → ReachTo world keys place before old → IsPut true world (get_or keys place d) before now old new
    → ReachTo world keys (place + 1) now new
reach_more world keys place d before now old new within so_far put =
    let next : take (place + 1) keys ≡ take place keys ++ get_or keys place d ∷ [] =
    ap (λ (n : ℕ). take n keys) (add-one place) ∙ take-suc keys place d within in
    record {
      within = omega (arith, within);
      left = stands_next world before.stands.items now.stands.items keys place d within put.0.stands ∙ so_far.left;
      whole = keys_next world before.stands.items now.stands.items keys place d within put.0.stands ∙ so_far.whole;
      marks = marks_next world before.marks.items now.marks.items keys place d within put.0.marks so_far.marks;
      facts = draft_next world before.stands.items now.stands.items
          (stand_of world before.stands.items (get_or keys place d)) old new put.0.stands put.0.sheets put.0.styles
          put.0.boxes so_far.facts;
      read = subst (λ (ks : List NodeKey). All (IsReadAt world) ks) (sym next)
          (All-append (IsReadAt world) (take place keys) (get_or keys place d ∷ []) so_far.read
          (All-cons (IsReadAt world) (get_or keys place d) [] put.1 (All-nil (IsReadAt world))));
    }

pub reach_next : (world : World) (keys : List NodeKey) (place : ℕ) (d : NodeKey) (before now : Standing) (old new : Draft)
    (put : Bool) → place < length keys → put ≡ true → ReachTo world keys place before old
    → IsPut put world (get_or keys place d) before now old new → ReachTo world keys (place + 1) now new
reach_next world keys place d before now old new put within done so_far node =
    reach_more world keys place d before now old new within so_far
    (subst (λ (b : Bool). IsPut b world (get_or keys place d) before now old new) done node)

-- a node that isn't put changes nothing
pub reach_same : (world : World) (keys : List NodeKey) (place : ℕ) (d : NodeKey) (before now : Standing) (old new : Draft)
    (put : Bool) → put ≡ false → ReachTo world keys place before old
    → IsPut put world (get_or keys place d) before now old new → ReachTo world keys place now new
reach_same world keys place d before now old new put none so_far node =
    let same = subst (λ (b : Bool). IsPut b world (get_or keys place d) before now old new) none node in
    subst (λ (s : Standing). ReachTo world keys place s new) (sym same.0)
    (subst (λ (draft : Draft). ReachTo world keys place before draft) (sym same.1) so_far)

-- what is made stays so where more is read
pub reach_looked : (world now : World) (keys : List NodeKey) (place : ℕ) (standing : Standing) (draft : Draft)
    → now ≡ looked world → AreRead now keys → ReachTo world keys place standing draft → ReachTo now keys place standing draft
reach_looked world now keys place standing draft is read so_far =
    subst (λ (w : World). ReachTo w keys place standing draft) (sym is)
    (record {
      within = so_far.within;
      left = so_far.left;
      whole = so_far.whole;
      marks = so_far.marks;
      facts = record { sheets = so_far.facts.sheets; styles = so_far.facts.styles; boxes = so_far.facts.boxes };
      read = All-take (IsReadAt (looked world)) place keys (subst (λ (w : World). AreRead w keys) is read);
    })

-- of nodes that were read nothing is unread

no_names : (test : ℕ → Bool) (names : List ℕ) → ((name : ℕ) → Contains names name → test name ≡ false)
    → filter test names ≡ []
no_names test [] off = refl
no_names test (name ∷ names) off =
    ap (λ (b : Bool). cond b (name ∷ filter test names) (filter test names)) (off name (contains_first name names))
    ∙ no_names test names (λ other later. off other (contains_later name names other later))

none_in : (store : Stored) (o : Option NodeData) → ((node : NodeData) → o ≡ Some node → IsRead store node)
    → unread_in store.unread o ≡ []
none_in store None read = refl
none_in store (Some node) read = no_names (marked store.unread) (displayed_in (Some node)) (read node refl).read

pub none_unread_of : (world : World) (keys : List NodeKey) → AreRead world keys
    → unread_of world.store.unread world.graph.table keys ≡ []
none_unread_of world [] read = refl
none_unread_of world (key ∷ keys) read =
    ap (λ (ns : List ℕ). ns ++ unread_of world.store.unread world.graph.table keys)
    (none_in world.store (data_of world.graph.table key) (All-head (IsReadAt world) key keys read))
    ∙ none_unread_of world keys (All-tail (IsReadAt world) key keys read)

pub none_found : (world : World) (key : NodeKey) → data_of world.graph.table key ≡ None → IsReadAt world key
none_found world key none node found =
    let neither : ◌≡◌ {A = Option NodeData} None (Some node) = sym none ∙ found in absurd (cc)

pub found_read : (world : World) (key : NodeKey) (node : NodeData) → data_of world.graph.table key ≡ Some node
    → IsRead world.store node → IsReadAt world key
found_read world key node here read other found =
    let both : Some node ≡ Some other = sym here ∙ found in
    let same : node ≡ other = cc in
    subst (IsRead world.store) same read

pub names_next : (unread : List Bool) (table : NodeTable) (keys : List NodeKey) (place : ℕ) (d : NodeKey)
    (before now : List ℕ) → place < length keys
    → now ≡ before ++ unread_in unread (data_of table (get_or keys place d))
    → before ≡ unread_of unread table (take place keys) → now ≡ unread_of unread table (take (place + 1) keys)
names_next unread table keys place d before now within made so_far =
    let key = get_or keys place d in
    let own = λ (k : NodeKey). unread_in unread (data_of table k) in
    let next : take (place + 1) keys ≡ take place keys ++ key ∷ [] =
    ap (λ (n : ℕ). take n keys) (add-one place) ∙ take-suc keys place d within in
    made
    ∙ ap (λ (ns : List ℕ). ns ++ own key) so_far
    ∙ ap (λ (ns : List ℕ). unread_of unread table (take place keys) ++ ns) (sym (append-nil (own key)))
    ∙ sym (flat_map-append own (take place keys) (key ∷ []))
    ∙ ap (unread_of unread table) (sym next)

-- all nodes

pub facts_reached : (world : World) (keys : List NodeKey) (place : ℕ) (standing : Standing) (draft : Draft)
    → keys ≡ attached_keys world → place ≡ length keys → ReachTo world keys place standing draft
    → ◌≡◌ {A = Facts}
    (record {
      sheets = draft.sheets;
      styles = draft.styles;
      boxes = draft.boxes;
      disabled = standing.marks.items;
      window = world.window;
    })
    (facts_of world)
unfolding facts_of
facts_reached world keys place standing draft attached end made =
    let past : length keys ≤ place = omega (arith, end) in
    let nodes : standing.stands.items ≡ stands_of world =
    sym (ap (stands_from world standing.stands.items) (drop_all place keys past))
    ∙ made.left
    ∙ ap (stands_from world []) attached in
    let one : draft.sheets ≡ sheets_of world =
    made.facts.sheets
    ∙ ap (λ (ss : List Stand). common_sheets world.graph ++ flat_map (sheets_at world.graph) ss) nodes in
    let two : draft.styles ≡ style_facts world =
    made.facts.styles ∙ ap (styles_from world (length (common_sheets world.graph))) nodes in
    let three = made.facts.boxes ∙ ap (map (box_at world)) nodes in
    let four =
    made.marks ∙ ap (map (is_set_disabled world)) (take_all place keys past) ∙ ap (map (is_set_disabled world)) attached in
    λ i. record { sheets = one i; styles = two i; boxes = three i; disabled = four i; window = world.window }
