-- What a change of the scene graph leaves of the classes of nodes and of the numbers of their properties.
use Rattle.std.proofs.Common.{◌≡◌, ◌≤◌, ℕ, Bool, true, false, cond, eqb, List, [], Contains, length, Option, Some, None, Result, Ok, Err, OnOk, OnErr, refl, sym, ◌∙◌, ap, subst}
use Rattle.std.proofs.lemmas.Bool.{and_parts, eqb-true}
use Rattle.std.specs.FinMap.{get-insert, insert}
use Rattle.std.specs.List.{range_with_len}
use Rattle.std.specs.Option.{option_map, option_map_or}
use Rattle.std.specs.Ordering.{eq_by_cmp}
use Rattle.fx_base.specs.declared.keys.Name.{Name}
use Rattle.fx_base.specs.declared.keys.NodeKey.{NodeKey}
use Rattle.fx_events.specs.Keyed.{key_cmp}
use Rattle.fx_events.proofs.Maps.{key_cmp_total, key_tied}
use Rattle.fx_graph_model.specs.declared.entries.Entry.{Entry}
use Rattle.fx_kinds.specs.declared.classes.Class.{Class}
use Rattle.fx_kinds.specs.Properties.{properties_of}
use Rattle.fx_stage_types.specs.Edits.{edited, with_edge}
use Rattle.fx_stage_types.specs.declared.edits.NodeEdit.{NodeEdit}
use Rattle.fx_stage_types.specs.declared.edits.NodeEdit.TheVariants as edit
use Rattle.fx_stage_types.specs.declared.node_data.NodeData.{NodeData}
use Rattle.fx_stage_types.specs.Tables.{NodeTable, changed_data, data_of}
use Rattle.fx_stage_model.specs.Graphs.{Graph}
use Rattle.fx_stage_model.specs.Looking.{properties_in}
use Rattle.fx_stage_model.specs.Sound.{IsSound}

-- a node's class and the number of its first property
abbrev pub Head : Type 0
Head = Class × ℕ

abbrev pub head_of : NodeData → Head
head_of node = (node.class, node.first)

abbrev pub heads : NodeTable → NodeKey → Option Head
heads table key = option_map head_of (data_of table key)

abbrev numbers_of : Option Head → List ℕ
numbers_of None = []
numbers_of (Some head) = range_with_len head.1 (length (properties_of head.0))

numbers_are : (o : Option NodeData) → properties_in o ≡ numbers_of (option_map head_of o)
numbers_are None = refl
numbers_are (Some node) = refl

pub same_numbers : (o p : Option NodeData) → option_map head_of o ≡ option_map head_of p → properties_in o ≡ properties_in p
same_numbers o p same = numbers_are o ∙ ap numbers_of same ∙ sym (numbers_are p)

given : {A : Type 0} (a b : A) → ◌≡◌ {A = Option A} (Some a) (Some b) → a ≡ b
given a b e = cc

pub low_of : (o p : Option NodeData) (node : NodeData) → o ≡ Some node → option_map head_of o ≡ option_map head_of p
    → ((old : NodeData) → p ≡ Some old → old.first ≤ 4000000) → node.first ≤ 4000000
low_of None p node is same low = absurd (cc)
low_of (Some n) None node is same low = absurd (cc)
low_of (Some n) (Some old) node is same low =
    subst (λ (k : ℕ). k ≤ 4000000)
    (sym (ap (λ (h : Head). h.1) (given (head_of n) (head_of old) same)) ∙ ap (λ (m : NodeData). m.first) (given n node is))
    (low old refl)

-- where classes and numbers stay, what is true of a world stays
pub sound_heads : (entries : List Entry) (old new : NodeTable) (free : List (List ℕ × Name))
    → ((key : NodeKey) → heads new key ≡ heads old key) → IsSound entries old free → IsSound entries new free
sound_heads entries old new free same sound = record {
  owned = λ key name there.
      sound.owned key name
      (subst (λ (ns : List ℕ). Contains ns name) (same_numbers (data_of new key) (data_of old key) (same key)) there);
  apart = λ one other name here there.
      sound.apart one other name
      (subst (λ (ns : List ℕ). Contains ns name) (same_numbers (data_of new one) (data_of old one) (same one)) here)
      (subst (λ (ns : List ℕ). Contains ns name) (same_numbers (data_of new other) (data_of old other) (same other)) there);
  low = λ key node is. low_of (data_of new key) (data_of old key) node is (same key) (sound.low key);
  declared = sound.declared;
  unowned = λ name property key is there.
      sound.unowned name property key is
      (subst (λ (ns : List ℕ). Contains ns property.0) (same_numbers (data_of new key) (data_of old key) (same key)) there);
}

pub key_equal : (one other : NodeKey) → eq_by_cmp key_cmp one other ≡ true → one ≡ other
key_equal one other e =
    let parts = and_parts (eqb one.slot other.slot) (eqb one.birth other.birth) (sym (key_tied one other) ∙ e) in
    ap (λ (n : ℕ). record one { slot = n }) (eqb-true one.slot other.slot parts.0)
    ∙ ap (λ (n : ℕ). record other { birth = n }) (eqb-true one.birth other.birth parts.1)

pub heads_changed : (table : NodeTable) (key : NodeKey) (change : NodeData → NodeData)
    → ((node : NodeData) → head_of (change node) ≡ head_of node) → (q : NodeKey)
    → heads (changed_data key change table) q ≡ heads table q
heads_changed table key change keeps q = by_data (data_of table key) refl
  where
    by_key : (node : NodeData) → data_of table key ≡ Some node → (b : Bool) → eq_by_cmp key_cmp q key ≡ b
        → option_map head_of (cond b (Some (change node)) (data_of table q)) ≡ heads table q
    by_key node here true e =
        ap Some (keeps node)
        ∙ sym (ap (option_map head_of) (ap (data_of table) (key_equal q key e) ∙ here))
    by_key node here false e = refl

    by_data : (o : Option NodeData) → data_of table key ≡ o
        → heads (option_map_or (λ (node : NodeData). insert table key (change node)) o table) q ≡ heads table q
    by_data None here = refl
    by_data (Some node) here =
        ap (option_map head_of) (get-insert key_cmp_total table key (change node) q)
        ∙ by_key node here (eq_by_cmp key_cmp q key) refl

keeps_edited : (change : NodeEdit) (node : NodeData) → head_of (edited change node) ≡ head_of node
unfolding edited
keeps_edited (edit.AddClass name) node = refl
keeps_edited (edit.RemoveClass name) node = refl
keeps_edited (edit.AddPseudo name) node = refl
keeps_edited (edit.RemovePseudo name) node = refl
keeps_edited (edit.SetInline sheet) node = refl
keeps_edited (edit.AddSheet sheet) node = refl
keeps_edited (edit.PutConstraint constraint) node = refl
keeps_edited (edit.RemoveConstraint name) node = refl
keeps_edited (edit.SetTracks columns rows) node = refl

pub sound_edited : (entries : List Entry) (table : NodeTable) (free : List (List ℕ × Name)) (key : NodeKey) (change : NodeEdit)
    → IsSound entries table free → IsSound entries (changed_data key (edited change) table) free
sound_edited entries table free key change sound =
    sound_heads entries table (changed_data key (edited change) table) free
    (heads_changed table key (edited change) (keeps_edited change)) sound

pub sound_edge : (entries : List Entry) (table : NodeTable) (free : List (List ℕ × Name)) (key : NodeKey) (edge : Option ℕ)
    → IsSound entries table free → IsSound entries (changed_data key (with_edge edge) table) free
sound_edge entries table free key edge sound =
    sound_heads entries table (changed_data key (with_edge edge) table) free
    (heads_changed table key (with_edge edge) (λ node. refl)) sound

-- whether a change was made or not
pub either_way : {T E : Type 0} (result : Result T E) (P : Graph → Type 0) (now made before : Graph) → OnOk result (now ≡ made)
    → OnErr result (now ≡ before) → P made → P before → P now
either_way (Ok t) P now made before ok err here there = subst P (sym ok) here
either_way (Err e) P now made before ok err here there = subst P (sym err) there
