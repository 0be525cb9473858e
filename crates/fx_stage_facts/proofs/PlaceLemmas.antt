-- Where no node stands twice, any place of a node is its first one.
use Rattle.std.proofs.Common.{◌≡◌, ◌∙◌, ◌<◌, ◌+◌, ◌||◌, ℕ, zero, suc, Bool, true, false, not, cond, List, [], ◌∷◌, ◌++◌, arith, get_or, length, Some, None, refl, sym, ap}
use Rattle.std.specs.List.{position, position_or_len}
use Rattle.std.proofs.Math.ListN.{get_or-map}
use Rattle.std.specs.Prelude.{nat_lt as ltb}
use Rattle.std.proofs.lemmas.Bool.{and_parts, and_from, both_ways, lt-ltb, not-true, or_parts}
use Rattle.std.proofs.lemmas.List.{length-map}
use Rattle.fx_base.specs.declared.keys.NodeKey.{NodeKey}
use Rattle.fx_stage_facts.specs.declared.stands.Stand.{Stand}
use Rattle.fx_tree.specs.Scene.{has, is_once, is_same}
use Rattle.fx_stage_facts.specs.Stands.{AreOnce, keys_of}
use Rattle.fx_tree.proofs.Keys.{has-item, is_same-false, is_same-true}

there : (stands : List Stand) (k : ℕ) (d : Stand) → k < length stands → has (keys_of stands) (get_or stands k d).key ≡ true
there stands k d within =
    let long : length (keys_of stands) ≡ length stands = length-map stands (λ (s : Stand). s.key) in
    ap (has (keys_of stands)) (sym (get_or-map (λ (s : Stand). s.key) stands k d))
    ∙ has-item (keys_of stands) k d.key (omega (arith, within, long))

first_place : (stands : List Stand) (key : NodeKey) (place : ℕ) (d : Stand) → AreOnce stands → place < length stands
    → is_same (get_or stands place d).key key ≡ true → position_or_len (λ (s : Stand). is_same s.key key) stands ≡ place
unfolding is_once
first_place [] key place d once within here = absurd (omega (arith, within))
first_place (stand ∷ rest) key zero d once within here =
    ap (λ (b : Bool). cond (not b) (1 + position_or_len (λ (s : Stand). is_same s.key key) rest) 0) here
first_place (stand ∷ rest) key (suc k) d once within here =
    let parts = and_parts (not (has (keys_of rest) stand.key)) (is_once (keys_of rest)) once in
    let further : k < length rest = omega (arith, within) in
    let other : is_same stand.key key ≡ false =
    is_same-false stand.key key
    (λ e. both_ways _ (not-true _ parts.0)
    (ap (has (keys_of rest)) (e ∙ sym (is_same-true (get_or rest k d).key key here)) ∙ there rest k d further)) in
    ap (λ (b : Bool). cond (not b) (1 + position_or_len (λ (s : Stand). is_same s.key key) rest) 0) other
    ∙ ap (λ (n : ℕ). 1 + n) (first_place rest key k d parts.1 further here)
    ∙ omega arith

pub only_place : (stands : List Stand) (key : NodeKey) (place : ℕ) (d : Stand) → AreOnce stands → place < length stands
    → is_same (get_or stands place d).key key ≡ true → position (λ (s : Stand). is_same s.key key) stands ≡ Some place
only_place stands key place d once within here =
    let at = first_place stands key place d once within here in
    ap (λ (n : ℕ). cond (ltb n (length stands)) (Some n) None) at
    ∙ ap (λ (b : Bool). cond b (Some place) None) (lt-ltb place (length stands) within)

-- what stands in front is there once too

has_front : (front back : List NodeKey) (key : NodeKey) → has (front ++ back) key ≡ false → has front key ≡ false
unfolding has
has_front [] back key absent = refl
has_front (x ∷ xs) back key absent =
    let parts = or_parts (is_same x key) (has (xs ++ back) key) absent in
    ap (λ (b : Bool). b || has xs key) parts.0 ∙ has_front xs back key parts.1

pub once_front : (front back : List NodeKey) → is_once (front ++ back) ≡ true → is_once front ≡ true
unfolding is_once
once_front [] back once = refl
once_front (x ∷ xs) back once =
    let parts = and_parts (not (has (xs ++ back) x)) (is_once (xs ++ back)) once in
    and_from (not (has xs x)) (is_once xs) (ap not (has_front xs back x (not-true _ parts.0))) (once_front xs back parts.1)

pub once_so_far : (stands shown : List Stand) (keys left : List NodeKey) → shown ≡ stands → keys_of stands ++ left ≡ keys
    → is_once keys ≡ true → AreOnce shown
once_so_far stands shown keys left is parts once =
    ap (λ (ss : List Stand). is_once (keys_of ss)) is ∙ once_front (keys_of stands) left (ap is_once parts ∙ once)
