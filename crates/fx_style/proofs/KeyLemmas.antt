-- Keys that differ stand at one place at most.
use Rattle.std.proofs.Common.{◌≡◌, ◌∷◌, [], ◌<◌, ℕ, Bool, true, eqb, cond, ltb, List, Some, None, get_or, length, sym, ◌∙◌, ap, inl, inr, arith, eq-eqb}
use Rattle.std.specs.Prelude.{slice_get}
use Rattle.std.specs.List.{position_or_len}
use Rattle.std.proofs.lemmas.Bool.{and_from, and_parts, cases_Bool, eqb-true, lt-ltb}
use Rattle.std.proofs.lemmas.List.Quantifiers.{position-Some}
use Rattle.std.proofs.lemmas.List.Sums.{position_or_len_is}
use Rattle.std.proofs.lemmas.Option.{get_or_from_slice_get, slice_get-get_or, slice_get_within}
use Rattle.fx_base.specs.declared.keys.NodeKey.{NodeKey}
use Rattle.fx_style.specs.declared.kept.Rest.{Rest}
use Rattle.fx_style.specs.Kept.{HaveDifferentKeys, is_key, place_of_key}

pub same_key : (a b : NodeKey) → is_key a b ≡ true → a ≡ b
same_key a b e =
    let parts = and_parts (eqb a.slot b.slot) (eqb a.birth b.birth) e in
    ap (λ (n : ℕ). record a { slot = n }) (eqb-true a.slot b.slot parts.0)
    ∙ ap (λ (n : ℕ). record b { birth = n }) (eqb-true a.birth b.birth parts.1)

pub key_is : (a b : NodeKey) → a ≡ b → is_key a b ≡ true
key_is a b e =
    and_from (eqb a.slot b.slot) (eqb a.birth b.birth) (eq-eqb a.slot b.slot (ap (λ (k : NodeKey). k.slot) e))
    (eq-eqb a.birth b.birth (ap (λ (k : NodeKey). k.birth) e))

abbrev has_key : NodeKey → Rest → Bool
has_key key r = is_key r.key key

-- a place whose entry has the key is where the key stands
pub key_place : (rest : List Rest) (key : NodeKey) (guess : ℕ) (one : Rest) → HaveDifferentKeys rest
    → slice_get rest guess ≡ Some one → is_key one.key key ≡ true → place_of_key rest key ≡ Some guess
key_place rest key guess one differ is hit =
    let within : guess < length rest = slice_get_within rest guess one is in
    let first : position_or_len (has_key key) rest ≡ guess =
    position_or_len_is (has_key key) rest guess one (omega arith)
    (λ k below. elim (cases_Bool (is_key (get_or rest k one).key key)) [
      | inr miss ↦ miss
      | inl other ↦ absurd (
          let same : (get_or rest k one).key ≡ one.key =
          same_key (get_or rest k one).key key other ∙ sym (same_key one.key key hit) in
          let at : k ≡ guess = differ k guess (get_or rest k one) one
          (slice_get-get_or rest k one (omega arith)) is (key_is (get_or rest k one).key one.key same) in
          omega (arith, at))
    ])
    (λ inside. ap (has_key key) (get_or_from_slice_get rest guess one one is) ∙ hit) in
    ap (λ (n : ℕ). cond (ltb n (length rest)) (Some n) None) first
    ∙ ap (λ (b : Bool). cond b (Some guess) None) (lt-ltb guess (length rest) within)

-- the entry where a key stands has it
pub key_found : (rest : List Rest) (key : NodeKey) (place : ℕ) (one : Rest) → place_of_key rest key ≡ Some place
    → slice_get rest place ≡ Some one → one.key ≡ key
key_found rest key place one e is =
    let found = position-Some (has_key key) rest place one e in
    same_key one.key key (ap (has_key key) (sym (get_or_from_slice_get rest place one one is)) ∙ found.1)

-- a key stands within the list
pub key_within : (rest : List Rest) (key : NodeKey) (place : ℕ) → place_of_key rest key ≡ Some place
    → slice_get rest place ≡ None → ⊥
key_within [] key place e none = let h : None ≡ Some place = e in cc
key_within (one ∷ rest) key place e none =
    let found = position-Some (has_key key) (one ∷ rest) place one e in
    let h : Some (get_or (one ∷ rest) place one) ≡ None =
    sym (slice_get-get_or (one ∷ rest) place one found.0) ∙ none in cc
