-- A search visits fewer and fewer names that weren't visited, so its number of steps suffices.
use Rattle.std.proofs.Common.{◌≡◌, ◌<◌, ◌≤◌, ◌+◌, ◌++◌, ◌∷◌, [], ℕ, zero, suc, Bool, true, false, cond, ◌||◌, List, Option, Some, None, map, length, refl, sym, ap, ◌∙◌, subst, inl, inr, arith, Bor}
use Rattle.std.specs.List.{list_any}
use Rattle.std.specs.Str.{bytes_eq}
use Rattle.std.proofs.lemmas.Bool.{cases_Bool}
use Rattle.std.proofs.lemmas.List.{map-append}
use Rattle.std.proofs.lemmas.Slice.Eq.{bytes_eq-Decides}
use Rattle.fx_base.specs.declared.color.Color.{Color as Rgba}
use Rattle.fx_css_types.specs.declared.declarations.Paint.{Paint}
use Rattle.fx_css_types.specs.declared.declarations.Paint.TheVariants.{Color, Named}
use Rattle.fx_lookup.specs.declared.named.NamedPaint.{NamedPaint}
use Rattle.fx_lookup.specs.Lookups.{along, has_name, names_in, nearest, or_above, paint_under, resolved, resolved_in, steps_in}

-- how many of these names weren't visited
abbrev pub left_of : List (List ℕ) → List (List ℕ) → ℕ
left_of visited [] = 0
left_of visited (n ∷ ns) = cond (has_name visited n) (left_of visited ns) (suc (left_of visited ns))

any-append : (xs ys : List (List ℕ)) (name : List ℕ) → has_name (xs ++ ys) name ≡ (has_name xs name || has_name ys name)
any-append [] ys name = refl
any-append (x ∷ xs) ys name =
    elim (bytes_eq x name) as
    (λ (b : Bool). (b || has_name (xs ++ ys) name) ≡ (b || has_name xs name || has_name ys name))
    [ true ↦ refl | false ↦ any-append xs ys name ]

-- a name that was visited stays so
stays : (visited : List (List ℕ)) (name n : List ℕ) → has_name visited n ≡ true
    → has_name (visited ++ name ∷ []) n ≡ true
stays visited name n e = any-append visited (name ∷ []) n ∙ ap (λ (b : Bool). b || has_name (name ∷ []) n) e

visited_now : (visited : List (List ℕ)) (name n : List ℕ) → bytes_eq n name ≡ true
    → has_name (visited ++ name ∷ []) n ≡ true
visited_now visited name n e =
    any-append visited (name ∷ []) n
    ∙ ap (λ (m : List ℕ). has_name visited n || (bytes_eq m n || false)) (sym ((bytes_eq-Decides n name).0 e))
    ∙ ap (λ (b : Bool). has_name visited n || (b || false)) ((bytes_eq-Decides n n).1 refl)
    ∙ elim (has_name visited n) as (λ (b : Bool). (b || (true || false)) ≡ true) [ true ↦ refl | false ↦ refl ]

cond_le : (b d : Bool) (m n : ℕ) → (b ≡ true → d ≡ true) → m ≤ n → cond d m (suc m) ≤ cond b n (suc n)
cond_le true true m n h le = le
cond_le true false m n h le = absurd (let e = h refl in cc)
cond_le false true m n h le = omega arith
cond_le false false m n h le = omega arith

left_less : (names visited : List (List ℕ)) (name : List ℕ)
    → left_of (visited ++ name ∷ []) names ≤ left_of visited names
left_less [] visited name = omega arith
left_less (n ∷ ns) visited name =
    cond_le (has_name visited n) (has_name (visited ++ name ∷ []) n) (left_of (visited ++ name ∷ []) ns)
    (left_of visited ns) (stays visited name n) (left_less ns visited name)

cond_lt : (b d : Bool) (m n : ℕ) → (b ≡ true → d ≡ true) → m < n → cond d m (suc m) < cond b n (suc n)
cond_lt true true m n h lt = lt
cond_lt true false m n h lt = absurd (let e = h refl in cc)
cond_lt false true m n h lt = omega arith
cond_lt false false m n h lt = omega arith

-- a name that is among these and wasn't visited makes them fewer
pub left_fewer : (names visited : List (List ℕ)) (name : List ℕ) → has_name names name ≡ true
    → has_name visited name ≡ false
    → left_of (visited ++ name ∷ []) names < left_of visited names
left_fewer [] visited name is fresh = absurd (cc)
left_fewer (n ∷ ns) visited name is fresh = elim (cases_Bool (bytes_eq n name)) [
  | inl same ↦
      let one : n ≡ name = (bytes_eq-Decides n name).0 same in
      let before : has_name visited n ≡ false = ap (has_name visited) one ∙ fresh in
      let behind : has_name (visited ++ name ∷ []) n ≡ true = visited_now visited name n same in
      subst (λ (b : Bool). cond b (left_of (visited ++ name ∷ []) ns) (suc (left_of (visited ++ name ∷ []) ns)) < cond
      (has_name visited n) (left_of visited ns) (suc (left_of visited ns))) (sym behind)
      (subst (λ (b : Bool). left_of (visited ++ name ∷ []) ns < cond b (left_of visited ns)
      (suc (left_of visited ns))) (sym before)
      (omega (arith, left_less ns visited name)))
  | inr other ↦
      cond_lt (has_name visited n) (has_name (visited ++ name ∷ []) n) (left_of (visited ++ name ∷ []) ns)
      (left_of visited ns) (stays visited name n)
      (left_fewer ns visited name (sym (ap (λ (b : Bool). b || has_name ns name) other) ∙ is) fresh)
]

under_named : (node : List NamedPaint) (name : List ℕ) (found : Option Paint) → paint_under node name ≡ Some found
    → has_name (map (λ (p : NamedPaint). p.name) node) name ≡ true
under_named [] name found e = absurd (cc)
under_named (p ∷ ps) name found e = elim (cases_Bool (bytes_eq p.name name)) [
  | inl same ↦ ap (λ (b : Bool). b || has_name (map (λ (p : NamedPaint). p.name) ps) name) same
  | inr other ↦ ap (λ (b : Bool). b || has_name (map (λ (p : NamedPaint). p.name) ps) name) other
      ∙ under_named ps name found (sym (ap (λ (b : Bool). cond b (Some p.paint) (paint_under ps name)) other) ∙ e)
]

or_true : (a b : Bool) → b ≡ true → (a || b) ≡ true
or_true true b e = refl
or_true false b e = e

-- a paint is found only under a name that some node has
pub nearest_named : (chain : List (List NamedPaint)) (name : List ℕ) (paint : Paint) → nearest chain name ≡ Some paint
    → has_name (names_in chain) name ≡ true
nearest_named [] name paint e = absurd (cc)
nearest_named (node ∷ above) name paint e =
    any-append (map (λ (p : NamedPaint). p.name) node) (names_in above) name
    ∙ named_by (paint_under node name) refl (nearest_named above name paint)
  where
    named_by : (o : Option (Option Paint)) → paint_under node name ≡ o
        → (nearest above name ≡ Some paint → has_name (names_in above) name ≡ true)
        → (has_name (map (λ (p : NamedPaint). p.name) node) name || has_name (names_in above) name) ≡ true
    named_by None none further =
        or_true (has_name (map (λ (p : NamedPaint). p.name) node) name) (has_name (names_in above) name)
        (further (sym (ap (λ (o : Option (Option Paint)). or_above o (nearest above name)) none) ∙ e))
    named_by (Some found) some further =
        ap (λ (b : Bool). b || has_name (names_in above) name) (under_named node name found some)

-- more steps than names are left change nothing
pub enough : (m n : ℕ) (chain : List (List NamedPaint)) (visited : List (List ℕ)) (name : List ℕ)
    → left_of visited (names_in chain) < m → left_of visited (names_in chain) < n
    → resolved_in m chain visited name ≡ resolved_in n chain visited name
unfolding resolved_in
enough zero n chain visited name few more = absurd (omega arith)
enough (suc m) zero chain visited name few more = absurd (omega arith)
enough (suc m) (suc n) chain visited name few more = elim (cases_Bool (has_name visited name)) [
  | inl was ↦
      ap (λ (b : Bool). cond b None (along (nearest chain name) (resolved_in m chain (visited ++ name ∷ [])))) was
      ∙ sym (ap (λ (b : Bool). cond b None (along (nearest chain name) (resolved_in n chain (visited ++ name ∷ [])))) was)
  | inr fresh ↦ ap (λ (o : Option Rgba). cond (has_name visited name) None o)
      (along_same (nearest chain name) refl fresh
      (λ next fewer. enough m n chain (visited ++ name ∷ []) next (omega (arith, fewer)) (omega (arith, fewer))))
]
  where
    along_same : (p : Option Paint) → nearest chain name ≡ p → has_name visited name ≡ false
        → ((next : List ℕ) → left_of (visited ++ name ∷ []) (names_in chain) < left_of visited (names_in chain)
        → resolved_in m chain (visited ++ name ∷ []) next ≡ resolved_in n chain (visited ++ name ∷ []) next)
        → along p (resolved_in m chain (visited ++ name ∷ [])) ≡ along p (resolved_in n chain (visited ++ name ∷ []))
    along_same None e fresh further = refl
    along_same (Some (Color color)) e fresh further = refl
    along_same (Some (Named next)) e fresh further =
        further next (left_fewer (names_in chain) visited name (nearest_named chain name (Named next) e) fresh)

pub left-none : (names : List (List ℕ)) → left_of [] names ≡ length names
left-none [] = refl
left-none (n ∷ ns) = ap suc (left-none ns)

-- so the search is the same in any number of steps that is as great
pub any_steps : (m : ℕ) (chain : List (List NamedPaint)) (name : List ℕ) → length (names_in chain) < m
    → resolved_in m chain [] name ≡ resolved chain name
any_steps m chain name more =
    enough m (steps_in chain) chain [] name (subst (λ (k : ℕ). k < m) (sym (left-none (names_in chain))) more)
    (subst (λ (k : ℕ). k < suc (length (names_in chain))) (sym (left-none (names_in chain))) (omega arith))

pub any-seen : (names : List (Bor (List ℕ))) (name : List ℕ)
    → list_any (λ (n : Bor (List ℕ)). bytes_eq n.now name) names
    ≡ has_name (map (λ (n : Bor (List ℕ)). n.now) names) name
any-seen [] name = refl
any-seen (n ∷ ns) name = ap (λ (b : Bool). bytes_eq n.now name || b) (any-seen ns name)

-- the search goes on: from a name and the names that were visited it ends as the whole search does
abbrev pub GoesOn : List (List NamedPaint) → List (List ℕ) → List ℕ → List ℕ → Type 0
GoesOn chain visited current name = (m : ℕ) → left_of visited (names_in chain) < m
    → resolved_in m chain visited current ≡ resolved chain name

pub begins : (chain : List (List NamedPaint)) (visited : List (List ℕ)) (name : List ℕ) → visited ≡ []
    → GoesOn chain visited name name
begins chain visited name none = subst (λ (v : List (List ℕ)). GoesOn chain v name name) (sym none)
    (λ m more. any_steps m chain name (subst (λ (k : ℕ). k < m) (left-none (names_in chain)) more))

pub one_step : (k : ℕ) (chain : List (List NamedPaint)) (visited : List (List ℕ)) (current : List ℕ)
    → has_name visited current ≡ false
    → resolved_in (suc k) chain visited current
    ≡ along (nearest chain current) (resolved_in k chain (visited ++ current ∷ []))
unfolding resolved_in
one_step k chain visited current fresh =
    ap (λ (b : Bool). cond b None (along (nearest chain current) (resolved_in k chain (visited ++ current ∷ [])))) fresh

pub came_back : (k : ℕ) (chain : List (List NamedPaint)) (visited : List (List ℕ)) (current : List ℕ)
    → has_name visited current ≡ true → resolved_in (suc k) chain visited current ≡ None
unfolding resolved_in
came_back k chain visited current was =
    ap (λ (b : Bool). cond b None (along (nearest chain current) (resolved_in k chain (visited ++ current ∷ [])))) was

pub ends_back : (chain : List (List NamedPaint)) (visited : List (List ℕ)) (current name : List ℕ)
    → GoesOn chain visited current name → has_name visited current ≡ true → None ≡ resolved chain name
ends_back chain visited current name on was =
    sym (came_back (left_of visited (names_in chain)) chain visited current was)
    ∙ on (suc (left_of visited (names_in chain))) (omega arith)

pub ends_with : (chain : List (List NamedPaint)) (visited : List (List ℕ)) (current name : List ℕ)
    (found : Option Paint) → GoesOn chain visited current name → has_name visited current ≡ false
    → found ≡ nearest chain current
    → along found (resolved_in (left_of visited (names_in chain)) chain (visited ++ current ∷ []))
    ≡ resolved chain name
ends_with chain visited current name found on fresh is =
    ap (λ (p : Option Paint). along p
    (resolved_in (left_of visited (names_in chain)) chain (visited ++ current ∷ []))) is
    ∙ sym (one_step (left_of visited (names_in chain)) chain visited current fresh)
    ∙ on (suc (left_of visited (names_in chain))) (omega arith)

pub next_fewer : (chain : List (List NamedPaint)) (visited : List (List ℕ)) (current next : List ℕ)
    → has_name visited current ≡ false → Some (Named next) ≡ nearest chain current
    → left_of (visited ++ current ∷ []) (names_in chain) < left_of visited (names_in chain)
next_fewer chain visited current next fresh is =
    left_fewer (names_in chain) visited current (nearest_named chain current (Named next) (sym is)) fresh

pub goes_on : (chain : List (List NamedPaint)) (visited more : List (List ℕ)) (current next name : List ℕ)
    → GoesOn chain visited current name → has_name visited current ≡ false
    → Some (Named next) ≡ nearest chain current → more ≡ visited ++ current ∷ [] → GoesOn chain more next name
goes_on chain visited more current next name on fresh is behind =
    subst (λ (v : List (List ℕ)). GoesOn chain v next name) (sym behind) (λ m few.
    enough m (left_of visited (names_in chain)) chain (visited ++ current ∷ []) next few
    (next_fewer chain visited current next fresh is)
    ∙ ends_with chain visited current name (Some (Named next)) on fresh is)

pub seen-push : (names : List (Bor (List ℕ))) (n : Bor (List ℕ)) (more : List (Bor (List ℕ))) → more ≡ names ++ n ∷ []
    → map (λ (n : Bor (List ℕ)). n.now) more ≡ map (λ (n : Bor (List ℕ)). n.now) names ++ n.now ∷ []
seen-push names n more is = ap (map (λ (n : Bor (List ℕ)). n.now)) is
    ∙ map-append (λ (n : Bor (List ℕ)). n.now) names (n ∷ [])
