-- A property in no pair is joined with itself alone.
use Rattle.std.proofs.Common.{◌≡◌, ◌↔◌, ℕ, true, false, List, [], ◌∷◌, Contains, arith, refl, sym, subst, ap, ◌∙◌, ◌⊎◌, inl, inr}
use Rattle.fx_base.specs.declared.keys.Name.{Name}
use Rattle.fx_graph_model.proofs.Members.{contains_cases, contains_first, none_in_nil}
use Rattle.fx_store_pairs.specs.Pairs.{is_paired, joined}
use Rattle.fx_store_pairs.proofs.Joining.{joined-least, joined-refl}
use Rattle.fx_store.specs.Groups.{AreJoinedWith}
use Rattle.fx_store.proofs.Staying.{first_paired, second_paired}

itself_alone : (pairs : List (ℕ × ℕ)) (name : ℕ) → is_paired pairs name ≡ false → (other : ℕ) → joined pairs name other ≡ true
    → name ≡ other
itself_alone pairs name alone other on =
    sym ((joined-least (λ (one another : ℕ). (one ≡ name) ↔ (another ≡ name)) pairs
    (record {
      itself = λ n. (λ e. e, λ e. e);
      turned = λ one another e. (e.1, e.0);
      onwards = λ one middle another e f. (λ h. f.0 (e.0 h), λ h. e.1 (f.1 h));
    })
    (λ pair c. (λ e. absurd (never pair.0 (first_paired pairs pair c) e), λ e. absurd (never pair.1 (second_paired pairs pair c) e)))
    name other on).0
    refl)
  where
    never : (n : ℕ) → is_paired pairs n ≡ true → n ≡ name → ⊥
    never n on e =
        let off : is_paired pairs n ≡ false = ap (is_paired pairs) e ∙ alone in
        absurd (cc)

pub alone_joined : (pairs : List (ℕ × ℕ)) (name : Name) → is_paired pairs name.0 ≡ false → AreJoinedWith pairs name.0 (name ∷ [])
alone_joined pairs name alone =
    record {
      members = λ other. (into other, λ on. subst (Contains (name.0 ∷ [])) (itself_alone pairs name.0 alone other on) (contains_first name.0 []));
      distinct = λ i j d low high. absurd (omega (arith, low, high));
    }
  where
    into : (other : ℕ) → Contains (name.0 ∷ []) other → joined pairs name.0 other ≡ true
    into other c = by (contains_cases name.0 [] other c)
      where
        by : (name.0 ≡ other) ⊎ Contains [] other → joined pairs name.0 other ≡ true
        by (inl e) = subst (λ (n : ℕ). joined pairs name.0 n ≡ true) e (joined-refl pairs name.0)
        by (inr none) = absurd (none_in_nil other none)
