-- Changed places, entry by entry.
use Rattle.std.proofs.Common.{◌≡◌, ◌++◌, ◌∷◌, [], ◌<◌, ◌+◌, ℕ, Bool, true, false, ◌||◌, eqb, List, Some, map, get_or, set, take, length, refl, sym, ◌∙◌, ap, subst, inl, inr, eq-eqb}
use Rattle.std.specs.Prelude.{slice_get}
use Rattle.std.proofs.lemmas.Bool.{cases_eq, or_parts}
use Rattle.std.proofs.lemmas.List.{take_more}
use Rattle.std.proofs.lemmas.Option.{slice_get_within}
use Rattle.fx_look.specs.declared.looks.Look.{Look}
use Rattle.fx_style.specs.declared.kept.Fresh.{Fresh}
use Rattle.fx_style.specs.Changes.{IsNoted, NamesChanges}
use Rattle.fx_style.specs.Kept.{Kept, is_among, put_looks}
use Rattle.fx_style.specs.Rules.{KeepsOthers}
use Rattle.fx_style.specs.Turns.{ArePut}
use Rattle.fx_style.proofs.FreshLemmas.{not_among}
use Rattle.fx_style.proofs.PutLemmas.{get-set_other, get-set_same, length-put_looks}

pub looks-push : (looks : List Look) (fs : List Fresh) (f : Fresh)
    → set (put_looks looks fs) f.at f.entry.style.look ≡ put_looks looks (fs ++ f ∷ [])
looks-push looks [] f = refl
looks-push looks (g ∷ gs) f = looks-push (set looks g.at g.entry.style.look) gs f

pub among-push : (places : List ℕ) (p at : ℕ) → is_among (places ++ p ∷ []) at ≡ false
    → (is_among places at ≡ false) × (p ≡ at → ⊥)
among-push [] p at off =
    let parts = or_parts (eqb p at) false off in
    (refl, λ e. let h : eqb p at ≡ true = eq-eqb p at e in absurd (cc))
among-push (q ∷ qs) p at off =
    let parts = or_parts (eqb q at) (is_among (qs ++ p ∷ []) at) off in
    let rest = among-push qs p at parts.1 in
    (ap (λ (b : Bool). b || is_among qs at) parts.0 ∙ rest.0, rest.1)

others_put : (looks : List Look) (fs : List Fresh) (f : Fresh) (at : ℕ) → (f.at ≡ at → ⊥)
    → slice_get (put_looks looks fs) at ≡ slice_get looks at
    → slice_get (put_looks looks (fs ++ f ∷ [])) at ≡ slice_get looks at
others_put looks fs f at differ same =
    ap (λ (l : List Look). slice_get l at) (sym (looks-push looks fs f))
    ∙ get-set_other (put_looks looks fs) f.at at f.entry.style.look differ
    ∙ same

same_put : (looks : List Look) (fs : List Fresh) (f : Fresh) → slice_get looks f.at ≡ Some f.entry.style.look
    → slice_get (put_looks looks (fs ++ f ∷ [])) f.at ≡ slice_get looks f.at
same_put looks fs f is =
    ap (λ (l : List Look). slice_get l f.at) (sym (looks-push looks fs f))
    ∙ get-set_same (put_looks looks fs) f.at f.entry.style.look
    (subst (λ (n : ℕ). f.at < n) (sym (length-put_looks looks fs))
    (slice_get_within looks f.at f.entry.style.look is))
    ∙ sym is

-- one more entry
noted_more : (looks : List Look) (fs : List Fresh) (f : Fresh) (old new : List ℕ) → NamesChanges looks fs old
    → IsNoted looks f old new → NamesChanges looks (fs ++ f ∷ []) new
noted_more looks fs f old new named (inl pushed) at off =
    let parts = among-push old f.at at (sym (ap (λ (l : List ℕ). is_among l at) pushed) ∙ off) in
    others_put looks fs f at parts.1 (named at parts.0)
noted_more looks fs f old new named (inr kept) at off = elim (cases_eq f.at at) [
  | inl same ↦
      subst (λ (n : ℕ). slice_get (put_looks looks (fs ++ f ∷ [])) n ≡ slice_get looks n) same
      (same_put looks fs f kept.1)
  | inr differ ↦
      others_put looks fs f at differ (named at (sym (ap (λ (l : List ℕ). is_among l at) kept.0) ∙ off))
]

pub changes_more : (looks : List Look) (fresh : List Fresh) (i : ℕ) (f : Fresh) (old new : List ℕ) → i < length fresh
    → f ≡ get_or fresh i f → NamesChanges looks (take i fresh) old → IsNoted looks f old new
    → NamesChanges looks (take (i + 1) fresh) new
changes_more looks fresh i f old new within is named noted =
    subst (λ (l : List Fresh). NamesChanges looks l new)
    (ap (λ (x : Fresh). take i fresh ++ x ∷ []) is ∙ sym (take_more fresh i f within))
    (noted_more looks (take i fresh) f old new named noted)

pub changes_done : (stay : Bool) (old new : Kept) (fresh : List Fresh) (count : ℕ) (places : List ℕ)
    → ArePut old new fresh count → new.changed ≡ places
    → (stay ≡ true → new.looks ≡ put_looks old.looks fresh)
    → (stay ≡ true → NamesChanges old.looks fresh places)
    → (stay ≡ false → places ≡ map (λ (f : Fresh). f.at) fresh) → KeepsOthers old new
changes_done true old new fresh count places put changed looks named all at within off =
    ap (λ (l : List Look). slice_get l at) (looks refl)
    ∙ named refl at (sym (ap (λ (l : List ℕ). is_among l at) changed) ∙ off)
changes_done false old new fresh count places put changed looks named all at within off =
    put.others at (subst (λ (n : ℕ). at < n) put.looks within)
    (not_among fresh at (sym (ap (λ (l : List ℕ). is_among l at) (changed ∙ all refl)) ∙ off))
