-- Where no node is measured anew and the root stays as large, no node has another size.
use Rattle.std.proofs.Common.{sym, ap, subst, ◌∙◌, ◌≡◌, ℕ, zero, suc, ◌<◌, Bool, false, not, nat_eq, All, List, [], length, map, Option, arith}
use Rattle.std.proofs.lemmas.Bool.{eq-eqb, or_from}
use Rattle.std.proofs.lemmas.List.{get_or-map, length-map}
use Rattle.fx_base.specs.declared.keys.NodeKey.{NodeKey}
use Rattle.fx_kinds.specs.declared.facts.BoxFacts.{BoxFacts}
use Rattle.fx_look.specs.declared.looks.Look.{Look}
use Rattle.fx_panes_parts.specs.declared.axes.Axis.{Axis}
use Rattle.fx_panes_parts.specs.declared.axes.Axis.TheVariants.{Across, Down}
use Rattle.fx_panes_parts.specs.declared.axes.Extent.{Extent}
use Rattle.fx_panes_parts.specs.declared.axes.Span.{Span}
use Rattle.fx_layout.specs.Updates.{AreDifferent, IsUpdate, Kept, is_listed, is_resized, is_wide_anew, old_place, old_places, resized, root_size}
use Rattle.fx_layout.proofs.Agree.{map_all, own_place}
use Rattle.fx_layout.proofs.One.{of_its_parent}
use Rattle.fx_layout_sweeps.specs.Nodes.{AreNodes, children_lists, keys, no_node, node_at, nowhere, parents, places_at, span_at}
use Rattle.fx_layout_sweeps.specs.Sweeps.{ArePlaced, fitted, is_worked, kept_in, last_in, old_at, spans_for}
use Rattle.fx_layout_sweeps.proofs.Respreads.{fitted_all}
use Rattle.fx_pulse_kept.proofs.CountLemmas.{tally_none}

-- an update of the nodes of the last one, none of which is listed
pub record Rest : Type 0 where
  pub nodes : List BoxFacts
  pub looks : List Look
  pub window : Option (ℕ × ℕ)
  pub listed : List ℕ
  pub old : Kept
  pub new : Kept

pub record IsRest (r : Rest) : Type 0 where
  pub tree : AreNodes r.nodes
  pub differ : AreDifferent (keys r.nodes)
  pub same_keys : r.old.keys ≡ keys r.nodes
  pub same_children : r.old.children ≡ children_lists (parents r.nodes)
  pub none : (p : ℕ) → p < length r.nodes → is_listed r.listed p ≡ false
  pub update : IsUpdate r.old r.nodes r.looks r.window r.listed r.new
  pub size : root_size r.old ≡ root_size r.new

abbrev olds : Rest → List ℕ
olds r = old_places r.old.keys r.nodes

old_is : (r : Rest) → IsRest r → (p : ℕ) → p < length r.nodes → old_at (olds r) p ≡ p
old_is r g p within =
    get_or-map (λ (n : BoxFacts). old_place r.old.keys n.key) r.nodes p no_node 0 within
    ∙ (ap (λ (ks : List NodeKey). old_place ks (node_at r.nodes p).key) g.same_keys
    ∙ own_place r.nodes g.differ p within)

as_long : (a b : ℕ) → a ≡ b → not (nat_eq a b) ≡ false
as_long a b same = ap not (eq-eqb a b same)

idle : (r : Rest) → IsRest r → (test : ℕ → Bool) (old_spans spans : List Span) (q : ℕ) → q < length r.nodes
    → test q ≡ false → (span_at spans q).length ≡ (span_at old_spans q).length
    → is_worked test (last_in (olds r) old_spans) spans q ≡ false
idle r g test old_spans spans q within free same =
    or_from (test q) (not (nat_eq (span_at spans q).length (last_in (olds r) old_spans q).length)) free
    (as_long (span_at spans q).length (last_in (olds r) old_spans q).length
    (same ∙ ap (λ j. (span_at old_spans j).length) (sym (old_is r g q within))))

kept_same : (r : Rest) → IsRest r → (old_spans : List Span) (q : ℕ) → q < length r.nodes
    → kept_in (olds r) r.old.children old_spans q ≡ map (span_at old_spans) (places_at r.new.children q)
kept_same r g old_spans q within =
    ap (λ j. map (span_at old_spans) (places_at r.old.children j)) (old_is r g q within)
    ∙ ap (λ (l : List (List ℕ)). map (span_at old_spans) (places_at l q))
    (g.same_children ∙ sym g.update.children)

kids_stay : (r : Rest) → IsRest r → (axis : Axis) → (test : ℕ → Bool) (widths heights : List Extent)
    (old_spans spans : List Span) → ArePlaced axis r.nodes r.looks r.new.children test widths heights
    (last_in (olds r) old_spans) (kept_in (olds r) r.old.children old_spans) spans → (q : ℕ) → q < length r.nodes
    → test q ≡ false → (span_at spans q).length ≡ (span_at old_spans q).length
    → All (λ j. span_at spans j ≡ span_at old_spans j) (places_at r.new.children q)
kids_stay r g axis test widths heights old_spans spans placed q within free same =
    let kids = places_at r.new.children q in
    let kept = kept_in (olds r) r.old.children old_spans in
    let is : map (span_at spans) kids ≡ fitted (length kids) (kept q) =
    subst (λ b. map (span_at spans) kids
    ≡ fitted (length kids) (spans_for axis r.nodes r.looks r.new.children widths heights kept q b
    (span_at spans q).length)) (idle r g test old_spans spans q within free same) (placed q within) in
    map_all (span_at spans) (span_at old_spans) nowhere kids
    (is ∙ (ap (λ (l : List Span). fitted (length kids) l) (kept_same r g old_spans q within)
    ∙ fitted_all (map (span_at old_spans) kids) (length kids) (length-map kids (span_at old_spans))))

lengths_stay : (r : Rest) → IsRest r → (axis : Axis) → (test : ℕ → Bool) (widths heights : List Extent)
    (old_spans spans : List Span) → ArePlaced axis r.nodes r.looks r.new.children test widths heights
    (last_in (olds r) old_spans) (kept_in (olds r) r.old.children old_spans) spans
    → ((q : ℕ) → q < length r.nodes → test q ≡ false)
    → (span_at spans 0).length ≡ (span_at old_spans 0).length → (k p : ℕ) → p < k → p < length r.nodes
    → (span_at spans p).length ≡ (span_at old_spans p).length
lengths_stay r g axis test widths heights old_spans spans placed free root zero p early within =
    absurd (omega (arith, early))
lengths_stay r g axis test widths heights old_spans spans placed free root (suc k) zero early within = root
lengths_stay r g axis test widths heights old_spans spans placed free root (suc k) (suc p) early within =
    let many : length (parents r.nodes) ≡ length r.nodes = length-map r.nodes (λ (n : BoxFacts). n.parent) in
    let up = g.tree.tree.below (suc p) (omega arith) (omega (arith, many, within)) in
    let there : up.0 < length r.nodes = omega (arith, up.2, within) in
    let same = lengths_stay r g axis test widths heights old_spans spans placed free root k up.0
    (omega (arith, up.2, early)) there in
    ap (λ (x : Span). x.length)
    (of_its_parent r.nodes r.new.children g.update.children (λ j. span_at spans j ≡ span_at old_spans j) up.0 (suc p)
    there within up.1
    (kids_stay r g axis test widths heights old_spans spans placed up.0 there (free up.0 there) same))

across_stays : (r : Rest) → IsRest r → (p : ℕ) → p < length r.nodes
    → (span_at r.new.across p).length ≡ (span_at r.old.across p).length
across_stays r g p within =
    lengths_stay r g Across (is_listed r.listed) r.new.widths [] r.old.across r.new.across g.update.across g.none
    (sym (ap (λ (s : ℕ × ℕ). s.0) g.size)) (suc p) p (omega arith) within

down_stays : (r : Rest) → IsRest r → (p : ℕ) → p < length r.nodes
    → (span_at r.new.down p).length ≡ (span_at r.old.down p).length
down_stays r g p within =
    lengths_stay r g Down (is_wide_anew r.listed (olds r) r.old.across r.new.across) r.new.widths r.new.heights
    r.old.down r.new.down g.update.down
    (λ q inside. idle r g (is_listed r.listed) r.old.across r.new.across q inside (g.none q inside)
    (across_stays r g q inside))
    (sym (ap (λ (s : ℕ × ℕ). s.1) g.size)) (suc p) p (omega arith) within

pub none_resized : (r : Rest) → IsRest r → resized r.old r.nodes r.new ≡ 0
none_resized r g =
    tally_none (is_resized r.old r.nodes r.new) (length r.nodes)
    (λ p within.
    or_from (not (nat_eq (span_at r.new.across p).length (last_in (olds r) r.old.across p).length))
    (not (nat_eq (span_at r.new.down p).length (last_in (olds r) r.old.down p).length))
    (as_long (span_at r.new.across p).length (last_in (olds r) r.old.across p).length
    (across_stays r g p within ∙ ap (λ j. (span_at r.old.across j).length) (sym (old_is r g p within))))
    (as_long (span_at r.new.down p).length (last_in (olds r) r.old.down p).length
    (down_stays r g p within ∙ ap (λ j. (span_at r.old.down j).length) (sym (old_is r g p within)))))
