-- The machine goes over each piece of a document as it is written: comments, instructions, tags, values and the ends of elements.
-- Above the goings in general.
use Rattle.std.proofs.Common.{◌≡◌, ℕ, true, false, List, [], ◌∷◌, ◌++◌, Some, refl, sym, ◌∙◌, ap, subst, append_assoc, append-nil, ◌⊎◌, inl, inr}
use lib.Utf8.{encode, encodes}
use Rattle.fx_doc_grammar.specs.Characters.{class_of, in_name}
use Rattle.fx_base.specs.Positions.{after, after_all}
use Rattle.fx_doc_grammar.specs.Grammar.{IsName, IsComment, IsInstructed, IsApart, Instruction_ok, comment_text, instruction_text}
use Rattle.std.specs.Prelude.{codes}
use Rattle.fx_doc_grammar.specs.Machine.{Held, Mode, Inside, Commented, Dashed, DashDashed, Asked, Instructing, Instructed, EndAsked, State, at, with_instruction, in_commented, in_dashed, in_dash_dashed, in_asked, in_instructing, in_instructed, in_end_asked, step}
use Rattle.fx_doc_grammar.specs.Beginnings.{HasNoEnd}
use Rattle.fx_doc_grammar.proofs.Runs.{fits_at}
use Rattle.fx_doc_grammar.proofs.Steps.{encodes_one, encodes_question}
use Rattle.fx_doc_grammar.proofs.Goes.{Goes, stays, seq, one_then, ends_at, named_each}
use Rattle.fx_doc_grammar.specs.declared.Class.{Class}
use Rattle.fx_doc_grammar.specs.declared.Class.TheVariants.{Greater, Question, Dash, Letter, Digit}
use Rattle.fx_base.specs.declared.positions.Position.{Position}

abbrev pub as_state : Held → Mode → State
as_state h m = record { held = h; mode = m }

-- comments ----------------------------------------------------------------------------------------

-- what a mode within a comment says of the text so far
abbrev CommentMode : Mode → List ℕ → Type 0
CommentMode Commented said = Unit {0}
CommentMode Dashed said = (a : List ℕ) × (said ≡ a ++ (45 ∷ []))
CommentMode DashDashed said = (a : List ℕ) × (said ≡ a ++ (45 ∷ (45 ∷ [])))
CommentMode _ said = ⊥

CommentStep : Held → Position → Mode → List ℕ → ℕ → Type 0
CommentStep h p m said c = (m' : Mode) × CommentMode m' (said ++ (c ∷ [])) × (step p (as_state h m) c ≡ Some (as_state h m'))

commented_step : (h : Held) (p : Position) (said : List ℕ) (c : ℕ) (k : Class) → class_of c ≡ k → (m' : Mode) × CommentMode m' (said ++ (c ∷ [])) × (in_commented h k ≡ Some (as_state h m'))
commented_step h p said c Dash e = (Dashed, (said, ap (λ y. said ++ (y ∷ [])) (fits_at c Dash e)), refl)
commented_step h p said c k e = (Commented, tt, refl)

dashed_step : (h : Held) (p : Position) (said : List ℕ) (c : ℕ) (k : Class) → class_of c ≡ k → CommentMode Dashed said → (m' : Mode) × CommentMode m' (said ++ (c ∷ [])) × (in_dashed h k ≡ Some (as_state h m'))
dashed_step h p said c Dash e o = (DashDashed, (o.0, ap (λ y. y ++ (c ∷ [])) o.1 ∙ (append_assoc o.0 (45 ∷ []) (c ∷ []) ∙ ap (λ y. o.0 ++ (45 ∷ (y ∷ []))) (fits_at c Dash e))), refl)
dashed_step h p said c k e o = (Commented, tt, refl)

dash_dashed_step : (h : Held) (p : Position) (said : List ℕ) (c : ℕ) (k : Class) → class_of c ≡ k → CommentMode DashDashed said → (c ≡ 62 → (a : List ℕ) → said ≡ a ++ (45 ∷ (45 ∷ [])) → ⊥) → (m' : Mode) × CommentMode m' (said ++ (c ∷ [])) × (in_dash_dashed h k ≡ Some (as_state h m'))
dash_dashed_step h p said c Dash e o n = (DashDashed, (o.0 ++ (45 ∷ []), ap (λ y. y ++ (c ∷ [])) o.1 ∙ (append_assoc o.0 (45 ∷ (45 ∷ [])) (c ∷ []) ∙ (ap (λ y. o.0 ++ (45 ∷ (45 ∷ (y ∷ [])))) (fits_at c Dash e) ∙ sym (append_assoc o.0 (45 ∷ []) (45 ∷ (45 ∷ [])))))), refl)
dash_dashed_step h p said c Greater e o n = absurd (n (fits_at c Greater e) o.0 o.1)
dash_dashed_step h p said c k e o n = (Commented, tt, refl)

comment_step : (h : Held) (p : Position) (m : Mode) (said : List ℕ) (c : ℕ) → CommentMode m said → (c ≡ 62 → (a : List ℕ) → said ≡ a ++ (45 ∷ (45 ∷ [])) → ⊥) → CommentStep h p m said c
unfolding CommentStep
comment_step h p Commented said c o n = commented_step h p said c (class_of c) refl
comment_step h p Dashed said c o n = dashed_step h p said c (class_of c) refl o
comment_step h p DashDashed said c o n = dash_dashed_step h p said c (class_of c) refl o n
comment_step h p m said c o n = absurd o

comment_over : (h : Held) (x said : List ℕ) (p : Position) (m : Mode) → CommentMode m said → HasNoEnd (45 ∷ (45 ∷ [])) (said ++ x) → (m' : Mode) × CommentMode m' (said ++ x) × Goes p (as_state h m) x (as_state h m')
unfolding CommentStep
comment_over h [] said p m o n = (m, subst (CommentMode m) (sym (append-nil said)) o, stays)
comment_over h (c ∷ x) said p m o n =
    let first = comment_step h p m said c o (λ e a q. n a x (ap (λ y. said ++ (y ∷ x)) e ∙ (ap (λ y. y ++ (62 ∷ x)) q ∙ append_assoc a (45 ∷ (45 ∷ [])) (62 ∷ x)))) in
    let rest = comment_over h x (said ++ (c ∷ [])) (after p c) first.0 first.1 (subst (HasNoEnd (45 ∷ (45 ∷ []))) (sym (append_assoc said (c ∷ []) x)) n) in
    (rest.0, subst (CommentMode rest.0) (append_assoc said (c ∷ []) x) rest.1, one_then first.2 rest.2)

comment_last : (h : Held) (m : Mode) (said : List ℕ) → CommentMode m said → (p : Position) → Goes p (as_state h m) (codes "-->") (as_state h Inside)
unfolding class_of
comment_last h Commented said o p = record { is = refl }
comment_last h Dashed said o p = record { is = refl }
comment_last h DashDashed said o p = record { is = refl }
comment_last h m said o p = absurd o

comment_first : (h : Held) (p : Position) → Goes p (as_state h Inside) (60 ∷ (33 ∷ (45 ∷ (45 ∷ [])))) (as_state h Commented)
unfolding class_of
comment_first h p = record { is = refl }

pub comment_goes : (h : Held) (x : List ℕ) → IsComment x → (p : Position) → Goes p (as_state h Inside) (comment_text x) (as_state h Inside)
comment_goes h x o p =
    let m = comment_over h x [] (after_all p (60 ∷ (33 ∷ (45 ∷ (45 ∷ []))))) Commented tt (λ a b e. o a (b ++ (45 ∷ (45 ∷ []))) (ap (λ y. y ++ (45 ∷ (45 ∷ []))) e ∙ append_assoc a ((codes "-->") ++ b) (45 ∷ (45 ∷ [])))) in
    seq (comment_first h p) (seq m.2 (comment_last h m.0 x m.1 (after_all (after_all p (60 ∷ (33 ∷ (45 ∷ (45 ∷ []))))) x)))

-- instructions ------------------------------------------------------------------------------------

abbrev InText : List ℕ → List ℕ → Mode → Type 0
InText n said m = (m ≡ Instructed n (encodes said)) ⊎ ((y : List ℕ) × (said ≡ y ++ (63 ∷ [])) × (m ≡ EndAsked n (encodes y)))

instructed_step : (h : Held) (n said : List ℕ) (c : ℕ) (k : Class) → class_of c ≡ k → (m' : Mode) × InText n (said ++ (c ∷ [])) m' × (in_instructed n (encodes said) h c k ≡ Some (as_state h m'))
instructed_step h n said c Question e = (EndAsked n (encodes said), inr (said, ap (λ y. said ++ (y ∷ [])) (fits_at c Question e), refl), refl)
instructed_step h n said c k e = (Instructed n (encodes said ++ encode c), inl (ap (λ y. Instructed n y) (sym (encodes_one said c))), refl)

end_asked_step : (h : Held) (n y : List ℕ) (c : ℕ) (k : Class) → class_of c ≡ k → (c ≡ 62 → ⊥) → (m' : Mode) × InText n ((y ++ (63 ∷ [])) ++ (c ∷ [])) m' × (in_end_asked n (encodes y) h c k ≡ Some (as_state h m'))
end_asked_step h n y c Question e g = (EndAsked n (encodes y ++ (63 ∷ [])), inr (y ++ (63 ∷ []), ap (λ z. (y ++ (63 ∷ [])) ++ (z ∷ [])) (fits_at c Question e), ap (λ z. EndAsked n z) (sym (encodes_question y))), refl)
end_asked_step h n y c Greater e g = absurd (g (fits_at c Greater e))
end_asked_step h n y c k e g = (Instructed n ((encodes y ++ (63 ∷ [])) ++ encode c), inl (ap (λ z. Instructed n (z ++ encode c)) (sym (encodes_question y)) ∙ ap (λ z. Instructed n z) (sym (encodes_one (y ++ (63 ∷ [])) c))), refl)

abbrev TextStep : Held → Position → List ℕ → List ℕ → Mode → ℕ → Type 0
TextStep h p n said m c = (m' : Mode) × InText n (said ++ (c ∷ [])) m' × (step p (as_state h m) c ≡ Some (as_state h m'))

text_step : (h : Held) (p : Position) (n said : List ℕ) (m : Mode) (c : ℕ) → InText n said m → (c ≡ 62 → (a : List ℕ) → said ≡ a ++ (63 ∷ []) → ⊥) → TextStep h p n said m c
text_step h p n said m c (inl e) g = subst (λ (y : Mode). TextStep h p n said y c) (sym e) (instructed_step h n said c (class_of c) refl)
text_step h p n said m c (inr (y, f, e)) g =
    let r : TextStep h p n (y ++ (63 ∷ [])) (EndAsked n (encodes y)) c = end_asked_step h n y c (class_of c) refl (λ u. g u y f) in
    subst (λ (z : Mode). TextStep h p n said z c) (sym e) (subst (λ (z : List ℕ). TextStep h p n z (EndAsked n (encodes y)) c) (sym f) r)

text_over : (h : Held) (n x said : List ℕ) (p : Position) (m : Mode) → InText n said m → HasNoEnd (63 ∷ []) (said ++ x) → (m' : Mode) × InText n (said ++ x) m' × Goes p (as_state h m) x (as_state h m')
text_over h n [] said p m o g = (m, subst (λ y. InText n y m) (sym (append-nil said)) o, stays)
text_over h n (c ∷ x) said p m o g =
    let first = text_step h p n said m c o (λ e a q. g a x (ap (λ y. said ++ (y ∷ x)) e ∙ (ap (λ y. y ++ (62 ∷ x)) q ∙ append_assoc a (63 ∷ []) (62 ∷ x)))) in
    let rest = text_over h n x (said ++ (c ∷ [])) (after p c) first.0 first.1 (subst (HasNoEnd (63 ∷ [])) (sym (append_assoc said (c ∷ []) x)) g) in
    (rest.0, subst (λ y. InText n y rest.0) (append_assoc said (c ∷ []) x) rest.1, one_then first.2 rest.2)

instructed_last : (h : Held) (n x : List ℕ) (p : Position) → Goes p (as_state h (Instructed n x)) (codes "?>") (as_state (with_instruction h n x) Inside)
unfolding class_of
instructed_last h n x p = record { is = refl }

asked_last : (h : Held) (n x : List ℕ) (p : Position) → Goes p (as_state h (EndAsked n x)) (codes "?>") (as_state (with_instruction h n (x ++ (63 ∷ []))) Inside)
unfolding class_of
asked_last h n x p = record { is = refl }

text_last : (h : Held) (n said : List ℕ) (m : Mode) → InText n said m → (p : Position) → Goes p (as_state h m) (codes "?>") (as_state (with_instruction h n (encodes said)) Inside)
text_last h n said m (inl e) p = subst (λ (y : Mode). Goes p (as_state h y) (codes "?>") (as_state (with_instruction h n (encodes said)) Inside)) (sym e) (instructed_last h n (encodes said) p)
text_last h n said m (inr (y, f, e)) p =
    subst (λ (z : Mode). Goes p (as_state h z) (codes "?>") (as_state (with_instruction h n (encodes said)) Inside)) (sym e)
    (ends_at (ap (λ z. as_state (with_instruction h n z) Inside) (sym (encodes_question y) ∙ ap encodes (sym f))) (asked_last h n (encodes y) p))

no_text : (h : Held) (n : List ℕ) (p : Position) → Goes p (as_state h (Instructing n)) (codes "?>") (as_state (with_instruction h n []) Inside)
unfolding class_of
no_text h n p = record { is = refl }

text_goes : (h : Held) (n x : List ℕ) → IsApart x → IsInstructed x → (p : Position) → Goes p (as_state h (Instructing n)) (x ++ (codes "?>")) (as_state (with_instruction h n (encodes x)) Inside)
text_goes h n [] a o p = no_text h n p
text_goes h n (c ∷ x) a o p =
    let m = text_over h n x (c ∷ []) (after p c) (Instructed n (encode c)) (inl (ap (λ y. Instructed n y) (sym (append-nil (encode c))))) (λ b d e. o b (d ++ (63 ∷ [])) (ap (λ y. y ++ (63 ∷ [])) e ∙ append_assoc b ((codes "?>") ++ d) (63 ∷ []))) in
    one_then (ap (λ k. in_instructing n h c k) a) (seq m.2 (text_last h n (c ∷ x) m.0 m.1 (after_all (after p c) x)))

instructing_on : (h : Held) (n : List ℕ) (c : ℕ) (k : Class) → in_name k ≡ true → in_instructing n h c k ≡ at h (Instructing (n ++ (c ∷ [])))
instructing_on h n c Letter e = refl
instructing_on h n c Digit e = refl
instructing_on h n c Dash e = refl
instructing_on h n c k e = absurd (let f : false ≡ true = e in cc)

pub instruction_name : (h : Held) (n : List ℕ) → IsName n → (p : Position) → Goes p (as_state h Asked) n (as_state h (Instructing n))
instruction_name h [] o p = absurd o
instruction_name h (c ∷ n) o p = one_then (ap (λ k. in_asked h c k) o.0) (named_each (λ y. as_state h (Instructing y)) (λ q y d e. instructing_on h y d (class_of d) e) (c ∷ []) n (after p c) o.1)

pub instruction_first : (h : Held) (p : Position) → Goes p (as_state h Inside) (60 ∷ (63 ∷ [])) (as_state h Asked)
unfolding class_of
instruction_first h p = record { is = refl }

pub instruction_goes : (h : Held) (n x : List ℕ) → Instruction_ok n x → (p : Position) → Goes p (as_state h Inside) (instruction_text n x) (as_state (with_instruction h n (encodes x)) Inside)
instruction_goes h n x o p = seq (instruction_first h p) (seq (instruction_name h n o.0 (after_all p (60 ∷ (63 ∷ [])))) (text_goes h n x o.1 o.2 (after_all (after_all p (60 ∷ (63 ∷ []))) n)))
