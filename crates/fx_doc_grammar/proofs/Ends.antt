-- Where a comment or an instruction ends: lists that hold no end, one character longer.
-- Below the steps.
use Rattle.std.proofs.Common.{◌≡◌, ℕ, List, [], ◌∷◌, ◌++◌, refl, sym, ◌∙◌, ap, append_assoc}
use Rattle.fx_doc_grammar.specs.Characters.{class_of}
use Rattle.fx_doc_grammar.specs.Beginnings.{HasNoEnd}
use Rattle.fx_doc_grammar.specs.declared.Class.{Class}

-- a list is empty or has a last element
pub data Back : List ℕ → Type 0 where
  Bare : Back []
  Last : (front : List ℕ) (c : ℕ) → Back (front ++ (c ∷ []))

back_on : (d : ℕ) (x : List ℕ) → Back x → Back (d ∷ x)
back_on d x Bare = Last [] d
back_on d x (Last front c) = Last (d ∷ front) c

pub back : (x : List ℕ) → Back x
back [] = Bare
back (d ∷ x) = back_on d x (back x)

pub no_nil : (a : List ℕ) (c : ℕ) → [] ≡ a ++ (c ∷ []) → ⊥
no_nil [] c e = cc
no_nil (d ∷ a) c e = cc

pub last_same : (a b : List ℕ) (c d : ℕ) → a ++ (c ∷ []) ≡ b ++ (d ∷ []) → (a ≡ b) × (c ≡ d)
last_same [] [] c d e = (refl, cc)
last_same [] (y ∷ b) c d e = absurd (no_nil b d (let h : c ∷ [] ≡ y ∷ (b ++ (d ∷ [])) = e in cc))
last_same (x ∷ a) [] c d e = absurd (no_nil a c (let h : x ∷ (a ++ (c ∷ [])) ≡ d ∷ [] = e in cc))
last_same (x ∷ a) (y ∷ b) c d e =
    let h : x ∷ (a ++ (c ∷ [])) ≡ y ∷ (b ++ (d ∷ [])) = e in
    let k : a ++ (c ∷ []) ≡ b ++ (d ∷ []) = cc in
    let r = last_same a b c d k in
    let r0 : a ≡ b = r.0 in
    let r1 : c ≡ d = r.1 in
    (cc, r1)

no_end_go : (e x : List ℕ) (c : ℕ) → HasNoEnd e x → (c ≡ 62 → (a : List ℕ) → x ≡ a ++ e → ⊥)
    → (a b : List ℕ) → Back b → x ++ (c ∷ []) ≡ a ++ (e ++ (62 ∷ b)) → ⊥
no_end_go e x c o n a b Bare h =
    let r = last_same x (a ++ e) c 62 (h ∙ sym (append_assoc a e (62 ∷ []))) in
    n r.1 a r.0
no_end_go e x c o n a b (Last front d) h =
    let shape : a ++ (e ++ (62 ∷ (front ++ (d ∷ [])))) ≡ (a ++ (e ++ (62 ∷ front))) ++ (d ∷ []) = simp append_assoc in
    o a front (last_same x (a ++ (e ++ (62 ∷ front))) c d (h ∙ shape)).0

pub no_end_more : (e x : List ℕ) (c : ℕ) → HasNoEnd e x → (c ≡ 62 → (a : List ℕ) → x ≡ a ++ e → ⊥) → HasNoEnd e (x ++ (c ∷ []))
no_end_more e x c o n a b h = no_end_go e x c o n a b (back b) h

pub no_end_nil : (e a b : List ℕ) → [] ≡ a ++ (e ++ (62 ∷ b)) → ⊥
no_end_nil [] [] b h = cc
no_end_nil (x ∷ e) [] b h = cc
no_end_nil e (x ∷ a) b h = cc

pub other_class : (c n : ℕ) (k j : Class) → class_of c ≡ k → class_of n ≡ j → (k ≡ j → ⊥) → c ≡ n → ⊥
other_class c n k j e f d h = d (sym e ∙ (ap class_of h ∙ f))
