-- The value of a property that was read is the one that is kept.
use Rattle.std.proofs.Common.{◌≡◌, ◌∙◌, ◌<◌, ◌+◌, ◌||◌, ℕ, Bool, true, false, cond, List, [], Contains, arith, get_or, Option, Some, None, refl, sym, ap, subst, inl, inr, true≢false}
use Rattle.std.specs.List.{position}
use Rattle.std.specs.Option.{option_map}
use Rattle.std.specs.Str.{bytes_eq}
use Rattle.std.proofs.lemmas.List.{length-map}
use Rattle.std.proofs.lemmas.List.Quantifiers.{position-Some}
use Rattle.fx_base.specs.declared.kinds.Kind.TheVariants as kind
use Rattle.fx_graph_refusals.specs.Known.{known_value}
use Rattle.fx_graph_model.specs.declared.entries.Entry.{Entry}
use Rattle.fx_graph_model.specs.Eager.{eager}
use Rattle.fx_graph_model.specs.Unread.{marked}
use Rattle.fx_graph_model.specs.Uses.{unknown_in}
use Rattle.fx_kinds.specs.declared.classes.Class.{Class}
use Rattle.fx_kinds.specs.Properties.{ListedProperty, listed, properties_of, rows_of}
use Rattle.fx_stage_rows.proofs.RowLemmas.{few_rows}
use Rattle.fx_stage_types.specs.declared.node_data.NodeData.{NodeData}
use Rattle.fx_stage_model.specs.Looking.{place_of, property_in}
use Rattle.fx_store_model.specs.Stored.{Stored}
use Rattle.fx_stage_facts.specs.Attached.{displayed_in, is_displayed}
use Rattle.fx_stage_facts.specs.Reads.{IsRead}
use Rattle.fx_stage_facts.specs.Values.{value_in}
use Rattle.fx_text.proofs.FrontLemmas.{bytes_tell}
use Rattle.fx_stage_facts.proofs.ReadLemmas.{displayed_place}

pub some_property : ListedProperty
some_property = record { name = []; kind = kind.Int; read_only = false; styled = None }

pub same_name : (one other : List ℕ) → bytes_eq one other ≡ true → one ≡ other
same_name one other is =
    elim (bytes_tell one other) [
      | inl same ↦ same.1
      | inr differ ↦ absurd (true≢false (sym is ∙ differ))
    ]

abbrev pub named : List ℕ → ListedProperty → Bool
named property listed = bytes_eq listed.name property

given : {A : Type 0} (a b : A) → ◌≡◌ {A = Option A} (Some a) (Some b) → a ≡ b
given a b e = cc

-- a property that is found by a name that a frame reads is one of those that it reads
found_by : (node : NodeData) (property : List ℕ) (n : ℕ) (o : Option ℕ)
    → position (named property) (properties_of node.class) ≡ o
    → option_map (λ (place : ℕ). node.first + place) o ≡ Some n → is_displayed property ≡ true
    → Contains (displayed_in (Some node)) n
found_by node property n None here is displayed = absurd (cc)
found_by node property n (Some place) here is displayed =
    let at = position-Some (named property) (properties_of node.class) place some_property here in
    let name = same_name (get_or (properties_of node.class) place some_property).name property at.1 in
    subst (λ (m : ℕ). Contains (displayed_in (Some node)) m) (given (node.first + place) n is)
    (displayed_place node.first (properties_of node.class) place some_property at.0 (ap is_displayed name ∙ displayed))

pub found_displayed : (node : NodeData) (property : List ℕ) (n : ℕ) → property_in (Some node) property ≡ Some n
    → is_displayed property ≡ true → Contains (displayed_in (Some node)) n
unfolding property_in place_of
found_displayed node property n is displayed =
    found_by node property n (position (named property) (properties_of node.class)) refl is displayed

kept : (entries : List Entry) (unread : List Bool) (n : ℕ) → unknown_in entries n ≡ false → marked unread n ≡ false
    → known_value entries unread n ≡ Some (eager entries n)
kept entries unread n known read =
    ap (λ (b : Bool). cond (b || marked unread n) None (Some (eager entries n))) known
    ∙ ap (λ (b : Bool). cond (false || b) None (Some (eager entries n))) read

-- so its value is kept
pub value_kept : (store : Stored) (node : NodeData) (property : List ℕ) (n : ℕ) → IsRead store node
    → is_displayed property ≡ true → property_in (Some node) property ≡ Some n
    → known_value store.entries store.unread n ≡ value_in store.entries node property
value_kept store node property n read displayed is =
    let there = found_displayed node property n is displayed in
    kept store.entries store.unread n (read.known n there) (read.read n there)
    ∙ sym (ap (option_map (eager store.entries)) is)

-- a property by its place in the class's list

pub found_at : (node : NodeData) (property : List ℕ) (o : Option ℕ) → o ≡ place_of node.class property
    → option_map (λ (place : ℕ). node.first + place) o ≡ property_in (Some node) property
unfolding property_in
found_at node property o is = ap (λ (p : Option ℕ). option_map (λ (place : ℕ). node.first + place) p) is

pub small_place : (class : Class) (property : List ℕ) (o : Option ℕ) (place : ℕ)
    → o ≡ place_of class property → o ≡ Some place → place < 100
unfolding place_of
small_place class property o place is found =
    let there = position-Some (named property) (properties_of class) place some_property (sym is ∙ found) in
    omega (arith, there.0, few_rows class, length-map (rows_of class) listed)
