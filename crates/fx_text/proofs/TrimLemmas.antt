-- White at the ends of texts: how loops take it off, and that what is left is what stands between it.
use Rattle.std.proofs.Common.{◌≡◌, ℕ, Bool, true, false, cond, List, [], ◌∷◌, ◌++◌, append-nil, refl, sym, ap, ◌∙◌, subst}
use Rattle.std.specs.List.{list_all}
use Rattle.std.specs.Cmp.Derive.{both_true}
use Rattle.std.proofs.lemmas.Bool.{and_parts}
use Rattle.fx_text.specs.Classes.{is_white}
use Rattle.fx_text.specs.Trimming.{trim_front, trim_last, trim_back, trimmed, IsTrimmed}

-- the loops

pub front_step : (c : ℕ) (rest : List ℕ) → is_white c ≡ true → trim_front (c ∷ rest) ≡ trim_front rest
front_step c rest e = ap (λ y. cond y (trim_front rest) (c ∷ rest)) e

pub front_stop : (c : ℕ) (rest : List ℕ) → is_white c ≡ false → trim_front (c ∷ rest) ≡ c ∷ rest
front_stop c rest e = ap (λ y. cond y (trim_front rest) (c ∷ rest)) e

pub last_shown : (c : ℕ) → is_white c ≡ false → trim_last c [] ≡ c ∷ []
last_shown c e = ap (λ y. cond y [] (c ∷ [])) e

pub last_white : (c : ℕ) → is_white c ≡ true → trim_last c [] ≡ []
last_white c e = ap (λ y. cond y [] (c ∷ [])) e

pub back_empty : (ws rest : List ℕ) → trim_back rest ≡ [] → trim_back (ws ++ rest) ≡ trim_back ws
back_empty [] rest e = e
back_empty (w ∷ ws) rest e = ap (λ y. trim_last w y) (back_empty ws rest e)

last_on : (w : ℕ) (ws : List ℕ) (d : ℕ) (ds : List ℕ) → trim_last w (ws ++ (d ∷ ds)) ≡ w ∷ (ws ++ (d ∷ ds))
last_on w [] d ds = refl
last_on w (x ∷ ws) d ds = refl

pub back_filled : (ws rest : List ℕ) (d : ℕ) (ds : List ℕ) → trim_back rest ≡ d ∷ ds → trim_back (ws ++ rest) ≡ ws ++ (d ∷ ds)
back_filled [] rest d ds e = e
back_filled (w ∷ ws) rest d ds e = ap (λ y. trim_last w y) (back_filled ws rest d ds e) ∙ last_on w ws d ds

pub back_step : (rest : List ℕ) (c : ℕ) → is_white c ≡ true → trim_back (rest ++ (c ∷ [])) ≡ trim_back rest
back_step rest c e = back_empty rest (c ∷ []) (last_white c e)

pub back_stop : (rest : List ℕ) (c : ℕ) → is_white c ≡ false → trim_back (rest ++ (c ∷ [])) ≡ rest ++ (c ∷ [])
back_stop rest c e = back_filled rest (c ∷ []) c [] (last_shown c e)

pub ruleset front_moves = (front_step, front_stop)

pub ruleset back_moves = (back_step, back_stop)

-- what is left stands between white

pub record FrontCut (text : List ℕ) : Type 0 where
  pub before : List ℕ
  pub parts : text ≡ before ++ trim_front text
  pub white : list_all is_white before ≡ true

front_cut_by : (c : ℕ) (cs : List ℕ) (b : Bool) → is_white c ≡ b → FrontCut cs → FrontCut (c ∷ cs)
front_cut_by c cs true e h = record {
  before = c ∷ h.before;
  parts = ap (λ y. c ∷ y) (h.parts ∙ ap (λ y. h.before ++ y) (sym (front_step c cs e)));
  white = both_true e h.white;
}
front_cut_by c cs false e h = record { before = []; parts = sym (front_stop c cs e); white = refl }

pub front_cut : (text : List ℕ) → FrontCut text
front_cut [] = record { before = []; parts = refl; white = refl }
front_cut (c ∷ cs) = front_cut_by c cs (is_white c) refl (front_cut cs)

front_begins_by : (d : ℕ) (ds : List ℕ) (c : ℕ) (rest : List ℕ) (b : Bool) → is_white d ≡ b → (trim_front ds ≡ c ∷ rest → is_white c ≡ false) → trim_front (d ∷ ds) ≡ c ∷ rest → is_white c ≡ false
front_begins_by d ds c rest true e h f = h (sym (front_step d ds e) ∙ f)
front_begins_by d ds c rest false e h f =
    let same : d ∷ ds ≡ c ∷ rest = sym (front_stop d ds e) ∙ f in
    let first : d ≡ c = cc in
    subst (λ x. is_white x ≡ false) first e

front_begins : (text : List ℕ) (c : ℕ) (rest : List ℕ) → trim_front text ≡ c ∷ rest → is_white c ≡ false
front_begins [] c rest f = absurd (cc)
front_begins (d ∷ ds) c rest f = front_begins_by d ds c rest (is_white d) refl (front_begins ds c rest) f

record BackCut (text : List ℕ) : Type 0 where
  after : List ℕ
  parts : text ≡ trim_back text ++ after
  white : list_all is_white after ≡ true

back_cut_alone : (c : ℕ) (cs : List ℕ) (b : Bool) → is_white c ≡ b → trim_back cs ≡ [] → BackCut cs → BackCut (c ∷ cs)
back_cut_alone c cs true e f h = record {
  after = c ∷ cs;
  parts = ap (λ y. y ++ (c ∷ cs)) (sym (ap (λ y. trim_last c y) f ∙ last_white c e));
  white = both_true e (ap (λ y. list_all is_white y) (h.parts ∙ ap (λ y. y ++ h.after) f) ∙ h.white);
}
back_cut_alone c cs false e f h = record {
  after = h.after;
  parts = ap (λ y. c ∷ y) (h.parts ∙ ap (λ y. y ++ h.after) f) ∙ ap (λ y. y ++ h.after) (sym (ap (λ y. trim_last c y) f ∙ last_shown c e));
  white = h.white;
}

back_cut_by : (c : ℕ) (cs r : List ℕ) → trim_back cs ≡ r → BackCut cs → BackCut (c ∷ cs)
back_cut_by c cs [] f h = back_cut_alone c cs (is_white c) refl f h
back_cut_by c cs (d ∷ ds) f h = record {
  after = h.after;
  parts = ap (λ y. c ∷ y) (h.parts ∙ ap (λ y. y ++ h.after) f) ∙ ap (λ y. y ++ h.after) (sym (ap (λ y. trim_last c y) f));
  white = h.white;
}

back_cut : (text : List ℕ) → BackCut text
back_cut [] = record { after = []; parts = refl; white = refl }
back_cut (c ∷ cs) = back_cut_by c cs (trim_back cs) refl (back_cut cs)

one_ends : (d : ℕ) (rest : List ℕ) (c : ℕ) → is_white d ≡ false → d ∷ [] ≡ rest ++ (c ∷ []) → is_white c ≡ false
one_ends d [] c e f = let same : d ≡ c = cc in subst (λ x. is_white x ≡ false) same e
one_ends d (x ∷ []) c e f = absurd (cc)
one_ends d (x ∷ y ∷ ys) c e f = absurd (cc)

none_ends : (rest : List ℕ) (c : ℕ) → [] ≡ rest ++ (c ∷ []) → ⊥
none_ends [] c f = cc
none_ends (x ∷ xs) c f = cc

back_ends_alone : (d : ℕ) (rest : List ℕ) (c : ℕ) (b : Bool) → is_white d ≡ b → trim_last d [] ≡ rest ++ (c ∷ []) → is_white c ≡ false
back_ends_alone d rest c true e f = absurd (none_ends rest c (sym (last_white d e) ∙ f))
back_ends_alone d rest c false e f = one_ends d rest c e (sym (last_shown d e) ∙ f)

back_ends_by : (d : ℕ) (ds r : List ℕ) (rest : List ℕ) (c : ℕ) → trim_back ds ≡ r → ((more : List ℕ) → trim_back ds ≡ more ++ (c ∷ []) → is_white c ≡ false) → trim_last d r ≡ rest ++ (c ∷ []) → is_white c ≡ false
back_ends_by d ds [] rest c e h f = back_ends_alone d rest c (is_white d) refl f
back_ends_by d ds (x ∷ xs) [] c e h f = absurd (cc)
back_ends_by d ds (x ∷ xs) (y ∷ ys) c e h f = h ys (e ∙ cc)

back_ends : (text : List ℕ) (rest : List ℕ) (c : ℕ) → trim_back text ≡ rest ++ (c ∷ []) → is_white c ≡ false
back_ends [] rest c f = absurd (none_ends rest c f)
back_ends (d ∷ ds) rest c f = back_ends_by d ds (trim_back ds) rest c refl (λ more. back_ends ds more c) f

pub trimmed_sound : (text : List ℕ) → IsTrimmed text (trimmed text)
trimmed_sound text =
    let f = front_cut text in
    let b = back_cut (trim_front text) in
    record {
      before = f.before;
      after = b.after;
      parts = f.parts ∙ ap (λ y. f.before ++ y) b.parts;
      white_before = f.white;
      white_after = b.white;
      begins = λ c rest e. front_begins text c (rest ++ b.after) (b.parts ∙ ap (λ y. y ++ b.after) e);
      ends = back_ends (trim_front text);
    }

-- what stands between white is what is left

pub front_skip : (ws rest : List ℕ) → list_all is_white ws ≡ true → trim_front (ws ++ rest) ≡ trim_front rest
front_skip [] rest h = refl
front_skip (w ∷ ws) rest h =
    let both = and_parts (is_white w) (list_all is_white ws) h in
    front_step w (ws ++ rest) both.0 ∙ front_skip ws rest both.1

back_all : (ws : List ℕ) → list_all is_white ws ≡ true → trim_back ws ≡ []
back_all [] h = refl
back_all (w ∷ ws) h =
    let both = and_parts (is_white w) (list_all is_white ws) h in
    ap (λ y. trim_last w y) (back_all ws both.1) ∙ last_white w both.0

back_stays : (text : List ℕ) → ((rest : List ℕ) (c : ℕ) → text ≡ rest ++ (c ∷ []) → is_white c ≡ false) → trim_back text ≡ text
back_stays [] ends = refl
back_stays (c ∷ []) ends = last_shown c (ends [] c refl)
back_stays (c ∷ d ∷ ds) ends = ap (λ y. trim_last c y) (back_stays (d ∷ ds) (λ rest x e. ends (c ∷ rest) x (ap (λ y. c ∷ y) e)))

pub front_all : (ws : List ℕ) → list_all is_white ws ≡ true → trim_front ws ≡ []
front_all ws h = ap trim_front (sym (append-nil ws)) ∙ front_skip ws [] h

kept : (inner after : List ℕ) → list_all is_white after ≡ true → ((c : ℕ) (rest : List ℕ) → inner ≡ c ∷ rest → is_white c ≡ false)
    → ((rest : List ℕ) (c : ℕ) → inner ≡ rest ++ (c ∷ []) → is_white c ≡ false) → trim_back (trim_front (inner ++ after)) ≡ inner
kept [] after white begins ends = ap trim_back (ap trim_front (sym (append-nil after)) ∙ front_skip after [] white)
kept (c ∷ cs) after white begins ends =
    ap trim_back (front_stop c (cs ++ after) (begins c cs refl)) ∙ back_empty (c ∷ cs) after (back_all after white) ∙ back_stays (c ∷ cs) ends

pub trimmed_complete : (text inner : List ℕ) → IsTrimmed text inner → trimmed text ≡ inner
trimmed_complete text inner t =
    ap trimmed t.parts ∙ ap trim_back (front_skip t.before (inner ++ t.after) t.white_before) ∙ kept inner t.after t.white_after t.begins t.ends
