-- Names that are put one by one, from the last entry of a table on.
use Rattle.std.proofs.Common.{◌≡◌, ◌≤◌, ℕ, suc, zero, List, [], ◌∷◌, Some, drop, length, slice_get, cond, sym, ◌∙◌, ap}
use Rattle.std.specs.Str.{bytes_eq}
use Rattle.std.specs.Map.{lookup}
use Rattle.std.proofs.lemmas.Cmp.{nat_list_eq_equiv}
use Rattle.std.proofs.lemmas.List.{drop_all}
use mathlib.Core.Path.{fun_ext}
use Rattle.fx_scene_things.specs.Names.{Names, nothing, with_name}
use Rattle.fx_scene_things.specs.declared.things.Thing.{Thing}

-- what entries tell of names
abbrev pub seen : {K : Type 0} → (K → List ℕ) → List (K × Thing) → Names
seen bytes entries name = lookup (λ k. bytes_eq name (bytes k)) entries

at_entry : {A : Type 0} (es : List A) (i : ℕ) (e : A) → slice_get es i ≡ Some e → drop i es ≡ e ∷ drop (suc i) es
at_entry [] i e h = absurd (cc)
at_entry (x ∷ es) zero e h = let same : x ≡ e = cc in ap (λ y. y ∷ es) same
at_entry (x ∷ es) (suc i) e h = at_entry es i e h

pub none_put : {K : Type 0} (bytes : K → List ℕ) (es : List (K × Thing)) (left : ℕ) (names : Names) → length es ≤ left
    → names ≡ nothing → names ≡ seen bytes (drop left es)
none_put bytes es left names h none = none ∙ ap (seen bytes) (sym (drop_all left es h))

pub one_put : {K : Type 0} (bytes : K → List ℕ) (es : List (K × Thing)) (left : ℕ) (key : K) (thing made : Thing)
    (old new : Names) (name : List ℕ) → slice_get es left ≡ Some (key, thing) → old ≡ seen bytes (drop (suc left) es)
    → name ≡ bytes key → made ≡ thing → new ≡ with_name old name made → new ≡ seen bytes (drop left es)
one_put bytes es left key thing made old new name at so_far called copied put =
    let rest = seen bytes (drop (suc left) es) in
    put
    ∙ (ap (λ (n : Names). with_name n name made) so_far
    ∙ (ap (λ (t : List ℕ). with_name rest t made) called
    ∙ (ap (with_name rest (bytes key)) copied
    ∙ (fun_ext (λ other. ap (λ b. cond b (Some thing) (rest other)) (nat_list_eq_equiv.symm (bytes key) other))
    ∙ ap (seen bytes) (sym (at_entry es left (key, thing) at))))))
