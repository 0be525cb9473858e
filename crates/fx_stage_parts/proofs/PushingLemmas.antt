-- Numbers that are put behind the others, one after another.
use Rattle.std.proofs.Common.{◌≡◌, ◌+◌, ◌++◌, ℕ, suc, List, [], ◌∷◌, arith, map, sym, ◌∙◌, ap}
use Rattle.std.specs.List.{range_with_len}
use Rattle.std.proofs.lemmas.List.{append_assoc, map-append}
use Rattle.fx_base.specs.Names.{name_of}
use Rattle.fx_base.specs.declared.keys.Name.{Name}
use Rattle.fx_handles.proofs.Given.{range_with_len-suc}

pub range_pushed : (first place : ℕ) (old before now : List Name) → now ≡ before ++ name_of (first + place) ∷ []
    → before ≡ old ++ map name_of (range_with_len first place) → now ≡ old ++ map name_of (range_with_len first (place + 1))
range_pushed first place old before now pushed before_is =
    let next : place + 1 ≡ suc place = omega arith in
    pushed
    ∙ ap (λ (names : List Name). names ++ name_of (first + place) ∷ []) before_is
    ∙ append_assoc old (map name_of (range_with_len first place)) (name_of (first + place) ∷ [])
    ∙ ap (λ (names : List Name). old ++ names)
    (sym
    (ap (λ (n : ℕ). map name_of (range_with_len first n)) next
    ∙ ap (λ (ns : List ℕ). map name_of ns) (range_with_len-suc first place)
    ∙ map-append name_of (range_with_len first place) ((first + place) ∷ [])))
