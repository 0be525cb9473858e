-- A further free property.
use Rattle.std.proofs.Common.{◌≡◌, ◌<◌, Contains, arith, ℕ, Bool, true, false, cond, List, [], ◌∷◌, ◌++◌, length, Option, Some, None, Result, Ok, Err, is_some, refl, sym, ◌∙◌, ap, inl, inr}
use Rattle.std.specs.Map.{lookup}
use Rattle.std.specs.Str.{bytes_eq}
use Rattle.std.proofs.lemmas.List.{get_or_push}
use Rattle.fx_base.specs.Printing.{kind_of}
use Rattle.fx_base.specs.declared.keys.Name.{Name}
use Rattle.fx_base.specs.declared.keys.NodeKey.{NodeKey}
use Rattle.fx_base.specs.declared.kinds.Kind.{Kind}
use Rattle.fx_base.specs.declared.values.Value.{Value}
use Rattle.fx_graph_model.specs.declared.entries.Entry.{Entry}
use Rattle.fx_graph_model.specs.Uses.{is_gone, nothing, unknown_in}
use Rattle.fx_graph_model.proofs.Changed.{entry-declared, known_within}
use Rattle.fx_look.specs.Readings.{value_at}
use Rattle.fx_stage_types.specs.declared.answers.StageError.TheVariants.{Memory}
use Rattle.fx_stage_types.specs.declared.refusals.Refusal.{Refusal}
use Rattle.fx_stage_types.specs.declared.refusals.Refusal.TheVariants as word
use Rattle.fx_stage_types.specs.Tables.{NodeTable, data_of}
use Rattle.fx_stage_model.specs.Answers.{Taken, and_then, or_word, unless}
use Rattle.fx_stage_model.specs.Looking.{properties_in}
use Rattle.fx_stage_model.specs.Properties.{declare, declared, has_no_room, kind_named}
use Rattle.fx_stage_model.specs.Sound.{IsSound}
use Rattle.fx_stage_model.specs.Taking.{IsTaken}
use Rattle.fx_stage_model.specs.World.{World}
use Rattle.fx_stage_words.proofs.ReadLemmas.{kind_read}

-- where memory is wanting before anything is made
pub memory_first : (made : Result Taken Refusal) (world : World) → IsTaken made world world (Err Memory)
memory_first (Ok taken) world =
    (refl, inl (inl (record { rest = refl; store = record { rest = refl; flags = refl; fewer = λ name unread. unread } })))
memory_first (Err refusal) world = (refl, inr refl)

-- known properties, and one more

pub known_more : (es : List Entry) (entry : Entry) (name : ℕ) → unknown_in es name ≡ false → unknown_in (es ++ entry ∷ []) name ≡ false
known_more es entry name known =
    ap (λ (e : Entry). is_gone e.definition) (entry-declared es entry name (known_within es name known)) ∙ known

known_new : (es : List Entry) (entry : Entry) (name : ℕ) → length es ≡ name → is_gone entry.definition ≡ false
    → unknown_in (es ++ entry ∷ []) name ≡ false
known_new es entry name last there =
    ap (λ (e : Entry). is_gone e.definition) (get_or_push es entry nothing name last) ∙ there

lookup_push : (free : List (List ℕ × Name)) (new : List ℕ) (property : Name) (name : List ℕ)
    → lookup (bytes_eq name) (free ++ (new, property) ∷ [])
    ≡ cond (is_some (lookup (bytes_eq name) free)) (lookup (bytes_eq name) free) (cond (bytes_eq name new) (Some property) None)
lookup_push [] new property name = refl
lookup_push (e ∷ rest) new property name = by_test (bytes_eq name e.0) (lookup_push rest new property name)
  where
    by_test : (b : Bool)
        → lookup (bytes_eq name) (rest ++ (new, property) ∷ [])
        ≡ cond (is_some (lookup (bytes_eq name) rest)) (lookup (bytes_eq name) rest) (cond (bytes_eq name new) (Some property) None)
        → cond b (Some e.1) (lookup (bytes_eq name) (rest ++ (new, property) ∷ []))
        ≡ cond (is_some (cond b (Some e.1) (lookup (bytes_eq name) rest))) (cond b (Some e.1) (lookup (bytes_eq name) rest))
        (cond (bytes_eq name new) (Some property) None)
    by_test true later = refl
    by_test false later = later

pub sound_more : (es : List Entry) (entry : Entry) (table : NodeTable) (free : List (List ℕ × Name)) (new : List ℕ) (property : Name)
    → property.0 ≡ length es → is_gone entry.definition ≡ false → IsSound es table free
    → IsSound (es ++ entry ∷ []) table (free ++ (new, property) ∷ [])
sound_more es entry table free new property last there sound = record {
  owned = λ key name has. known_more es entry name (sound.owned key name has);
  apart = sound.apart;
  low = sound.low;
  declared = λ name other is. by_old name other (lookup (bytes_eq name) free) refl (bytes_eq name new) (sym (lookup_push free new property name) ∙ is);
  unowned = λ name other key is has.
      unowned_old name other key has (lookup (bytes_eq name) free) refl (bytes_eq name new) (sym (lookup_push free new property name) ∙ is);
}
  where
    given : (a b : Name) → ◌≡◌ {A = Option Name} (Some a) (Some b) → a ≡ b
    given a b e = cc

    by_new : (other : Name) (b : Bool) → cond b (Some property) None ≡ Some other → unknown_in (es ++ entry ∷ []) other.0 ≡ false
    by_new other true e =
        ap (λ (n : Name). unknown_in (es ++ entry ∷ []) n.0) (sym (given property other e)) ∙ known_new es entry property.0 (sym last) there
    by_new other false e = absurd (cc)

    by_old : (name : List ℕ) (other : Name) (o : Option Name) → lookup (bytes_eq name) free ≡ o → (b : Bool)
        → cond (is_some o) o (cond b (Some property) None) ≡ Some other → unknown_in (es ++ entry ∷ []) other.0 ≡ false
    by_old name other (Some old) here b e = known_more es entry other.0 (sound.declared name other (here ∙ e))
    by_old name other None here b e = by_new other b e

    unowned_new : (other : Name) (key : NodeKey) → Contains (properties_in (data_of table key)) other.0 → (b : Bool)
        → cond b (Some property) None ≡ Some other → ⊥
    unowned_new other key has true e =
        let there : other.0 < length es = known_within es other.0 (sound.owned key other.0 has) in
        let same : property.0 ≡ other.0 = ap (λ (n : Name). n.0) (given property other e) in
        omega (arith, there, same, last)
    unowned_new other key has false e = absurd (cc)

    unowned_old : (name : List ℕ) (other : Name) (key : NodeKey) → Contains (properties_in (data_of table key)) other.0
        → (o : Option Name) → lookup (bytes_eq name) free ≡ o → (b : Bool)
        → cond (is_some o) o (cond b (Some property) None) ≡ Some other → ⊥
    unowned_old name other key has (Some old) here b e = sound.unowned name other key (here ∙ e) has
    unowned_old name other key has None here b e = unowned_new other key has b e

-- `prop` of a name that is new, where there is room
module _ (name kind text : List ℕ) (world : World) (v : Value) (is : Some v ≡ value_at (kind_named kind) text)
    (new : is_some (lookup (bytes_eq name) world.names.free) ≡ false) (room : has_no_room world ≡ false) where
  by_value : Option Value → Result Taken Refusal
  by_value o =
      and_then (or_word word.Value o) (λ (value : Value).
      unless (is_some (lookup (bytes_eq name) world.names.free)) word.Exists
      (unless (has_no_room world) word.Full (declared name (kind_named kind) value world)))

  pub declare_is : declare name kind text world ≡ declared name (kind_of v) v world
  unfolding declare by_value
  declare_is =
      ap by_value (sym is)
      ∙ ap (λ (b : Bool). unless b word.Exists (unless (has_no_room world) word.Full (declared name (kind_named kind) v world))) new
      ∙ ap (λ (b : Bool). unless b word.Full (declared name (kind_named kind) v world)) room
      ∙ ap (λ (k : Kind). declared name k v world) (sym (kind_read (kind_named kind) text v is))
