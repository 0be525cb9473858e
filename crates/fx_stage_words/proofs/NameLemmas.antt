-- Names that are none of a node's class.
use Rattle.std.proofs.Common.{◌≡◌, ℕ, Bool, true, false, cond, ◌&&◌, List, [], ◌∷◌, None, Some, refl, sym, ◌∙◌, ap, inl, inr}
use Rattle.std.specs.List.{find}
use Rattle.std.specs.Str.{bytes_eq}
use Rattle.fx_text.proofs.FrontLemmas.{bytes_tell}
use Rattle.fx_kinds.specs.declared.classes.Class.{Class}
use Rattle.fx_kinds.specs.Classes.{classes, is_node, name_of}
use Rattle.fx_stage_model.specs.Nodes.{node_class}

find_nothing : {X : Type 0} (test : X → Bool) → ((x : X) → test x ≡ false) → (xs : List X) → find test xs ≡ None
find_nothing test never [] = refl
find_nothing test never (x ∷ xs) =
    ap (λ (b : Bool). cond b (Some x) (find test xs)) (never x) ∙ find_nothing test never xs

and_none : (a b : Bool) → b ≡ false → (a && b) ≡ false
and_none true b e = e
and_none false b e = refl

other_name : (name : List ℕ) → ((c : Class) → name_of c ≡ name → ⊥) → (c : Class) → bytes_eq (name_of c) name ≡ false
other_name name none c = elim (bytes_tell (name_of c) name) [ inl same ↦ absurd (none c same.1) | inr differs ↦ differs ]

pub no_class : (name : List ℕ) → ((c : Class) → name_of c ≡ name → ⊥) → None ≡ node_class name
no_class name none =
    sym
    (find_nothing (λ (c : Class). is_node c && bytes_eq (name_of c) name)
    (λ c. and_none (is_node c) (bytes_eq (name_of c) name) (other_name name none c)) classes)
