-- What stays true over all calls: birth numbers rise, and the dead stay dead.
use Rattle.std.proofs.Common.{◌≡◌, ℕ, ◌+◌, ◌≤◌, Bool, true, false, cond, List, [], ◌∷◌, ◌++◌, length, map, filter, Contains, ◌⊎◌, refl, sym, ◌∙◌, ap, inl, inr, add-one, arith, length-append}
use Rattle.std.specs.List.{range_with_len}
use Rattle.slab.proofs.SlabLemmas.{Contains-cons, Contains-cons_cases}
use Rattle.fx_handles.specs.declared.Owner.{Owner}
use Rattle.fx_handles.specs.Living.{Register, LeadsTo, none, made, released, nobody, EachBirthOnce, DeadStayDead}
use Rattle.fx_handles.proofs.Given.{range_with_len-suc}

map-push : {X Y : Type 0} (f : X → Y) (xs : List X) (y : X) → map f (xs ++ y ∷ []) ≡ map f xs ++ f y ∷ []
map-push f [] y = refl
map-push f (x ∷ xs) y = ap (λ (l : List _). f x ∷ l) (map-push f xs y)

born_is : (owners : List Owner) (register : Register) → LeadsTo nobody owners register → register.born ≡ length owners
born_is _ _ none = refl
born_is _ _ (made {owners} {register} owner next before) =
    omega (arith, next, born_is owners register before, length-append owners (owner ∷ []))
born_is _ _ (released {owners} {register} owner before) = born_is owners register before

pub each_birth_once : EachBirthOnce
each_birth_once _ _ none = refl
each_birth_once _ _ (made {owners} {register} owner next before) =
    let last : owner.birth ≡ 1 + length owners = omega (arith, next, born_is owners register before) in
    let more : length (owners ++ owner ∷ []) ≡ length owners + 1 = omega (arith, length-append owners (owner ∷ [])) in
    map-push (λ (o : Owner). o.birth) owners owner
    ∙ ap (λ (l : List ℕ). l ++ owner.birth ∷ []) (each_birth_once owners register before)
    ∙ ap (λ (n : ℕ). range_with_len 1 (length owners) ++ n ∷ []) last
    ∙ sym (ap (range_with_len 1) (more ∙ add-one (length owners)) ∙ range_with_len-suc 1 (length owners))
each_birth_once _ _ (released {owners} {register} owner before) = each_birth_once owners register before

born_rises : (first later : Register) (owners : List Owner) → LeadsTo first owners later → first.born ≤ later.born
born_rises _ _ _ none = omega arith
born_rises first _ _ (made {owners} {register} owner next before) = omega (arith, next, born_rises first register owners before)
born_rises first _ _ (released {owners} {register} owner before) = born_rises first register owners before

Contains-push_cases : {X : Type 0} (xs : List X) (y x : X) → Contains (xs ++ y ∷ []) x → Contains xs x ⊎ (y ≡ x)
Contains-push_cases [] y x there =
    elim (Contains-cons_cases y x [] there) [ inl same ↦ inr same | inr rest ↦ absurd (omega (arith, rest.1)) ]
Contains-push_cases (head ∷ rest) y x there =
    elim (Contains-cons_cases head x (rest ++ y ∷ []) there) [
      | inl same ↦ inl (0, omega arith, same)
      | inr later ↦
          elim (Contains-push_cases rest y x later) [
            | inl in_rest ↦ inl (Contains-cons head x rest in_rest)
            | inr same ↦ inr same
          ]
    ]

Contains-filtered : {X : Type 0} (test : X → Bool) (xs : List X) (x : X) → Contains (filter test xs) x → Contains xs x
Contains-filtered test [] x there = there
Contains-filtered test (head ∷ rest) x there = by_test (test head) there (Contains-filtered test rest x)
  where
    by_test : (b : Bool) → Contains (cond b (head ∷ filter test rest) (filter test rest)) x
        → (Contains (filter test rest) x → Contains rest x) → Contains (head ∷ rest) x
    by_test true at inner =
        elim (Contains-cons_cases head x (filter test rest) at) [
          | inl same ↦ (0, omega arith, same)
          | inr later ↦ Contains-cons head x rest (inner later)
        ]
    by_test false at inner = Contains-cons head x rest (inner at)

pub dead_stay_dead : DeadStayDead
dead_stay_dead _ _ _ owner none given dead there = dead there
dead_stay_dead first _ _ owner (made {owners} {register} next_owner next before) given dead there =
    elim (Contains-push_cases register.living next_owner owner there) [
      | inl earlier ↦ dead_stay_dead first register owners owner before given dead earlier
      | inr same ↦
          let e : next_owner.birth ≡ owner.birth = ap (λ (o : Owner). o.birth) same in
          absurd (omega (arith, e, next, given, born_rises first register owners before))
    ]
dead_stay_dead first _ _ owner (released {owners} {register} gone before) given dead there =
    dead_stay_dead first register owners owner before given dead (Contains-filtered _ register.living owner there)
