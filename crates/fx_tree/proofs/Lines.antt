-- The line from a node up: that the function gives it, and what becomes of it where a link is made or cut.
use Rattle.std.proofs.Common.{◌≡◌, ℕ, zero, suc, ◌+◌, ◌-◌, ◌<◌, ◌≤◌, Bool, true, false, cond, ◌||◌, List, [], ◌∷◌, ◌++◌, length, Option, Some, None, refl, sym, ◌∙◌, ap, subst, inl, inr, arith}
use Rattle.std.specs.List.{list_all, flat_map}
use Rattle.std.proofs.lemmas.Bool.{cases_Bool, false≢true}
use Rattle.std.proofs.lemmas.Option.{none-some}
use Rattle.fx_base.specs.declared.keys.NodeKey.{NodeKey}
use Rattle.fx_tree.specs.Scene.{is_same, has, line_in, IsLine, subtree_in}
use Rattle.fx_tree.specs.Slots.{fits_in}
use Rattle.fx_tree.proofs.Keys.{is_same-refl, is_same-true, list_all-has, list_all-from_has}

Up : Type 0
Up = NodeKey → Option NodeKey

pub line_is : (n : ℕ) (up : NodeKey → Option NodeKey) (o : Option NodeKey) (keys : List NodeKey)
    → IsLine up o keys → length keys ≤ n → line_in n up o ≡ keys
unfolding IsLine line_in
line_is zero up o [] line few = refl
line_is zero up o (x ∷ rest) line few = absurd (omega (arith, few))
line_is (suc n) up None [] line few = refl
line_is (suc n) up None (x ∷ rest) line few = absurd line
line_is (suc n) up (Some key) [] line few = absurd line
line_is (suc n) up (Some key) (x ∷ rest) line few =
    let further : IsLine up (up key) rest = let P : NodeKey → Type 0 = λ y. IsLine up (up y) rest in subst P line.0 line.1 in
    ap (λ (tail : List NodeKey). key ∷ tail) (line_is n up (up key) rest further (omega (arith, few)))
    ∙ ap (λ (first : NodeKey). first ∷ rest) (sym line.0)

pub line_in-same : (n : ℕ) (f g : NodeKey → Option NodeKey) (o : Option NodeKey) → ((key : NodeKey) → f key ≡ g key)
    → line_in n f o ≡ line_in n g o
unfolding line_in
line_in-same zero f g o same = refl
line_in-same (suc n) f g None same = refl
line_in-same (suc n) f g (Some key) same =
    ap (λ (tail : List NodeKey). key ∷ tail)
    (line_in-same n f g (f key) same ∙ ap (line_in n g) (same key))

pub length-line_in : (n : ℕ) (up : NodeKey → Option NodeKey) (o : Option NodeKey) → length (line_in n up o) ≤ n
unfolding line_in
length-line_in zero up o = omega arith
length-line_in (suc n) up None = omega arith
length-line_in (suc n) up (Some key) = omega (arith, length-line_in n up (up key))

pub line_in-none : (n : ℕ) (up : NodeKey → Option NodeKey) → line_in n up None ≡ []
unfolding line_in
line_in-none zero up = refl
line_in-none (suc n) up = refl

pub line_in-more : (n : ℕ) (up : NodeKey → Option NodeKey) (key : NodeKey) → line_in (suc n) up (Some key) ≡ key ∷ line_in n up (up key)
unfolding line_in
line_in-more n up key = refl

pub line_in-zero : (up : NodeKey → Option NodeKey) (o : Option NodeKey) → line_in 0 up o ≡ []
unfolding line_in
line_in-zero up o = refl

pub IsLine-same : (f g : NodeKey → Option NodeKey) (o : Option NodeKey) (keys : List NodeKey)
    → ((key : NodeKey) → has keys key ≡ true → g key ≡ f key) → IsLine f o keys → IsLine g o keys
unfolding IsLine has
IsLine-same f g None [] same line = line
IsLine-same f g None (x ∷ rest) same line = absurd line
IsLine-same f g (Some key) [] same line = absurd line
IsLine-same f g (Some key) (x ∷ rest) same line =
    let P : Option NodeKey → Type 0 = λ o. IsLine g o rest in (
      line.0,
      subst P (sym (same x (ap (λ (b : Bool). b || has rest x) (is_same-refl x))))
          (IsLine-same f g (f x) rest (λ k there. same k (later (is_same x k) (has rest k) there)) line.1),
    )
  where
    later : (a b : Bool) → b ≡ true → (a || b) ≡ true
    later true b e = refl
    later false b e = e

-- the line of nothing is empty
IsLine-none : (up : NodeKey → Option NodeKey) (o : Option NodeKey) (keys : List NodeKey) → o ≡ None → IsLine up o keys → keys ≡ []
unfolding IsLine
IsLine-none up None [] none line = refl
IsLine-none up None (x ∷ rest) none line = absurd line
IsLine-none up (Some key) keys none line = absurd (none-some key (sym none))

module _ (f g : NodeKey → Option NodeKey) (child : NodeKey)
    (others : (key : NodeKey) → is_same key child ≡ false → g key ≡ f key) where
  -- a link is made from a topmost node
  pub IsLine-joined : (parent : NodeKey) (above : List NodeKey) → f child ≡ None → g child ≡ Some parent → IsLine g (Some parent) above
      → (o : Option NodeKey) (keys : List NodeKey) → IsLine f o keys → IsLine g o (keys ++ cond (has keys child) above [])
  unfolding IsLine has
  IsLine-joined parent above topmost linked line_above None [] line = tt
  IsLine-joined parent above topmost linked line_above None (x ∷ rest) line = absurd line
  IsLine-joined parent above topmost linked line_above (Some key) [] line = absurd line
  IsLine-joined parent above topmost linked line_above (Some key) (x ∷ rest) line =
      elim (cases_Bool (is_same x child)) [
        | inl same ↦
            let here : x ≡ child = is_same-true x child same in
            let ends : rest ≡ [] = IsLine-none f (f x) rest (ap f here ∙ topmost) line.1 in
            let P : Bool → Type 0 = λ b. IsLine g (g x) (rest ++ cond (b || has rest child) above []) in
            let Q : List NodeKey → Type 0 = λ r. IsLine g (g x) (r ++ above) in
            let R : Option NodeKey → Type 0 = λ o. IsLine g o above in
            (line.0, subst P (sym same) (subst Q (sym ends) (subst R (sym (ap g here ∙ linked)) line_above)))
        | inr differs ↦
            let P : Bool → Type 0 = λ b. IsLine g (g x) (rest ++ cond (b || has rest child) above []) in
            let R : Option NodeKey → Type 0 = λ o. IsLine g o (rest ++ cond (has rest child) above []) in (
              line.0,
              subst P (sym differs)
                  (subst R (sym (others x differs)) (IsLine-joined parent above topmost linked line_above (f x) rest line.1)),
            )
      ]

  -- a link is cut
  pub IsLine-cut : g child ≡ None → (o : Option NodeKey) (keys : List NodeKey) → IsLine f o keys
      → (less : List NodeKey) × (length less ≤ length keys) × IsLine g o less
  unfolding IsLine
  IsLine-cut cut None [] line = ([], omega arith, tt)
  IsLine-cut cut None (x ∷ rest) line = absurd line
  IsLine-cut cut (Some key) [] line = absurd line
  IsLine-cut cut (Some key) (x ∷ rest) line =
      elim (cases_Bool (is_same x child)) [
        | inl same ↦
            let ends : g x ≡ None = ap g (is_same-true x child same) ∙ cut in
            let R : Option NodeKey → Type 0 = λ o. IsLine g o [] in
            (x ∷ [], omega arith, (line.0, subst R (sym ends) tt))
        | inr differs ↦
            let more = IsLine-cut cut (f x) rest line.1 in
            let R : Option NodeKey → Type 0 = λ o. IsLine g o more.0 in
            let few : length more.0 ≤ length rest = more.1 in
            (x ∷ more.0, omega (arith, few), (line.0, subst R (sym (others x differs)) more.2))
      ]

-- so many steps up lead from one node to another
unfoldable pub Climb : (NodeKey → Option NodeKey) → ℕ → NodeKey → NodeKey → Type 0
Climb up zero from to = from ≡ to
Climb up (suc m) from to = (next : NodeKey) × (up from ≡ Some next) × Climb up m next to

module _ (up : NodeKey → Option NodeKey) where
  climb_last : (m : ℕ) (from to : NodeKey) → Climb up (suc m) from to → (last : NodeKey) × Climb up m from last × (up last ≡ Some to)
  unfolding Climb
  climb_last zero from to climb = (from, refl, climb.1 ∙ ap Some climb.2)
  climb_last (suc m) from to climb =
      let rest = climb_last m climb.0 to climb.2 in
      (rest.0, (climb.0, climb.1, rest.1), rest.2)

  climb_more : (m : ℕ) (from last to : NodeKey) → Climb up m from last → up last ≡ Some to → Climb up (suc m) from to
  unfolding Climb
  climb_more zero from last to climb step = (to, ap up climb ∙ step, refl)
  climb_more (suc m) from last to climb step = (climb.0, climb.1, climb_more m climb.0 last to climb.2 step)

  -- a line that holds a topmost node climbs to it, and ends there
  pub climb_from_line : (top : NodeKey) → up top ≡ None → (keys : List NodeKey) (from : NodeKey) → IsLine up (Some from) keys → has keys top ≡ true
      → (m : ℕ) × Climb up m from top × (length keys ≡ m + 1)
  unfolding IsLine has Climb
  climb_from_line top topmost [] from line there = absurd line
  climb_from_line top topmost (x ∷ rest) from line there =
      elim (cases_Bool (is_same x top)) [
        | inl same ↦
            let ends : rest ≡ [] = IsLine-none up (up x) rest (ap up (is_same-true x top same) ∙ topmost) line.1 in
            let none : length rest ≡ 0 = ap length ends in
            (0, sym line.0 ∙ is_same-true x top same, omega (arith, none))
        | inr differs ↦
            by_next (up x) refl line.1 (sym (ap (λ (b : Bool). b || has rest top) differs) ∙ there)
            (λ next line_rest there_rest. climb_from_line top topmost rest next line_rest there_rest)
      ]
    where
      by_next : (o : Option NodeKey) → up x ≡ o → IsLine up o rest → has rest top ≡ true
          → ((next : NodeKey) → IsLine up (Some next) rest → has rest top ≡ true → (m : ℕ) × Climb up m next top × (length rest ≡ m + 1))
          → (m : ℕ) × Climb up m from top × (length (x ∷ rest) ≡ m + 1)
      by_next None is line_rest there_rest further = absurd (false≢true (sym (ap (λ (r : List NodeKey). has r top) (IsLine-none up None rest refl line_rest)) ∙ there_rest))
      by_next (Some next) is line_rest there_rest further =
          let more = further next line_rest there_rest in
          let long : length rest ≡ more.0 + 1 = more.2 in
          (suc more.0, (next, sym (ap up line.0) ∙ is, more.1), omega (arith, long))

  pub line_from_climb : (top : NodeKey) → up top ≡ None → (m : ℕ) (from : NodeKey) (keys : List NodeKey) → Climb up m from top → IsLine up (Some from) keys
      → (has keys top ≡ true) × (length keys ≡ m + 1)
  unfolding IsLine has Climb
  line_from_climb top topmost m from [] climb line = absurd line
  line_from_climb top topmost zero from (x ∷ rest) climb line =
      let here : x ≡ top = line.0 ∙ climb in
      let ends : rest ≡ [] = IsLine-none up (up x) rest (ap up here ∙ topmost) line.1 in
      let none : length rest ≡ 0 = ap length ends in
      (ap (λ (k : NodeKey). is_same k top || has rest top) here ∙ ap (λ (b : Bool). b || has rest top) (is_same-refl top), omega (arith, none))
  line_from_climb top topmost (suc m) from (x ∷ rest) climb line =
      let R : Option NodeKey → Type 0 = λ o. IsLine up o rest in
      let more = line_from_climb top topmost m climb.0 rest climb.2 (subst R (ap up line.0 ∙ climb.1) line.1) in
      let long : length rest ≡ m + 1 = more.1 in
      (later (is_same x top) (has rest top) more.0, omega (arith, long))
    where
      later : (a b : Bool) → b ≡ true → (a || b) ≡ true
      later true b e = refl
      later false b e = e

  module _ (below : NodeKey → List NodeKey)
      (forth : (key parent : NodeKey) → up key ≡ Some parent → has (below parent) key ≡ true)
      (back : (key parent : NodeKey) → has (below parent) key ≡ true → up key ≡ Some parent) where
    pub climbs_within : (n : ℕ) (to : NodeKey) → fits_in n below to ≡ true → (m : ℕ) (from : NodeKey) → Climb up m from to → m < n
    unfolding fits_in
    climbs_within zero to fits m from climb = absurd (false≢true fits)
    climbs_within (suc n) to fits zero from climb = omega arith
    climbs_within (suc n) to fits (suc m) from climb =
        let step = climb_last m from to climb in
        let less : m < n = climbs_within n step.0 (list_all-has (fits_in n below) (below to) step.0 fits (forth step.0 to step.2)) m from step.1 in
        omega (arith, less)

    pub fits_from_climbs : (n : ℕ) (to : NodeKey) → ((m : ℕ) (from : NodeKey) → Climb up m from to → m < n) → fits_in n below to ≡ true
    unfolding fits_in Climb
    fits_from_climbs zero to each = absurd (let none : 0 < 0 = each 0 to refl in omega (arith, none))
    fits_from_climbs (suc n) to each =
        list_all-from_has (fits_in n below) (below to)
        (λ child there. fits_from_climbs n child
        (λ m from climb. let less : suc m < suc n = each (suc m) from (climb_more m from child to climb (back child to there)) in omega (arith, less)))

-- levels down, by children that are the same
pub subtree_in-same : (n : ℕ) (f g : NodeKey → List NodeKey) (key : NodeKey) → ((k : NodeKey) → f k ≡ g k) → subtree_in n f key ≡ subtree_in n g key
unfolding subtree_in
subtree_in-same zero f g key same = refl
subtree_in-same (suc n) f g key same =
    ap (λ (tail : List NodeKey). key ∷ tail)
    (flat_map-same (f key) (λ k. subtree_in-same n f g k same) ∙ ap (flat_map (subtree_in n g)) (same key))
  where
    flat_map-same : (keys : List NodeKey) → ((k : NodeKey) → subtree_in n f k ≡ subtree_in n g k) → flat_map (subtree_in n f) keys ≡ flat_map (subtree_in n g) keys
    flat_map-same [] each = refl
    flat_map-same (x ∷ rest) each =
        ap (λ (front : List NodeKey). front ++ flat_map (subtree_in n f) rest) (each x)
        ∙ ap (λ (back : List NodeKey). subtree_in n g x ++ back) (flat_map-same rest each)

pub line_step : (i : ℕ) (up : NodeKey → Option NodeKey) (key : NodeKey) → i < 64
    → line_in (64 - i) up (Some key) ≡ key ∷ line_in (64 - (i + 1)) up (up key)
line_step i up key within =
    let e : 64 - i ≡ suc (64 - (i + 1)) = omega (arith, within) in
    ap (λ (n : ℕ). line_in n up (Some key)) e ∙ line_in-more (64 - (i + 1)) up key

-- a walk up of 64 steps, after the first steps
module _ (up : NodeKey → Option NodeKey) (i : ℕ) (at : Option NodeKey) where
  pub walk_none : at ≡ None → line_in (64 - i) up at ≡ []
  walk_none none = ap (line_in (64 - i) up) none ∙ line_in-none (64 - i) up

  pub walk_some : (here : NodeKey) → at ≡ Some here → i < 64 → line_in (64 - i) up at ≡ here ∷ line_in (64 - (i + 1)) up (up here)
  walk_some here is within = ap (line_in (64 - i) up) is ∙ line_step i up here within

  pub walk_end : 64 ≤ i → line_in (64 - i) up at ≡ []
  walk_end done =
      let e : 64 - i ≡ 0 = omega (arith, done) in
      ap (λ (n : ℕ). line_in n up at) e ∙ line_in-zero up at

pub fits_in-more : (n : ℕ) (below : NodeKey → List NodeKey) (key : NodeKey) → (n ≡ 0 → ⊥) → fits_in n below key ≡ list_all (fits_in (n - 1) below) (below key)
unfolding fits_in
fits_in-more zero below key some = absurd (some refl)
fits_in-more (suc n) below key some =
    let e : n ≡ suc n - 1 = omega arith in
    ap (λ (m : ℕ). list_all (fits_in m below) (below key)) e

pub fits_in-zero : (n : ℕ) (below : NodeKey → List NodeKey) (key : NodeKey) → n ≡ 0 → fits_in n below key ≡ false
unfolding fits_in
fits_in-zero n below key none = ap (λ (m : ℕ). fits_in m below key) none

pub subtree_in-more : (n : ℕ) (below : NodeKey → List NodeKey) (key : NodeKey) → (n ≡ 0 → ⊥) → subtree_in n below key ≡ key ∷ flat_map (subtree_in (n - 1) below) (below key)
unfolding subtree_in
subtree_in-more zero below key some = absurd (some refl)
subtree_in-more (suc n) below key some =
    let e : n ≡ suc n - 1 = omega arith in
    ap (λ (m : ℕ). key ∷ flat_map (subtree_in m below) (below key)) e

pub subtree_in-zero : (n : ℕ) (below : NodeKey → List NodeKey) (key : NodeKey) → n ≡ 0 → subtree_in n below key ≡ []
unfolding subtree_in
subtree_in-zero n below key none = ap (λ (m : ℕ). subtree_in m below key) none
