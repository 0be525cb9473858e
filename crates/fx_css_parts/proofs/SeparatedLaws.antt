-- A text is separated in one way, and the reading finds it.
use Rattle.std.proofs.Common.{◌≡◌, ℕ, suc, Bool, true, false, cond, not, ◌&&◌, ◌==◌, List, [], ◌∷◌, ◌++◌, take, drop, Option, Some, None, refl, sym, ap, ◌∙◌, subst, arith}
use Rattle.std.specs.Option.{option_and_then, option_map}
use Rattle.std.proofs.lemmas.Bool.{and_parts}
use Rattle.std.proofs.lemmas.Bool.Decides.{nat_tests}
use Rattle.fx_text.proofs.FrontLemmas.{bind_gives, map_gives}
use Rattle.fx_css_parts.specs.Texts.{IsBetweenWhite}
use Rattle.fx_css_parts.specs.Layers.{depth_behind, depth_after, separates, is_one, Separated, last, more, part_length, first_part, behind_comma, behind_part, onto_first, parts, each_at, separated_at}
use Rattle.fx_text.proofs.TrimLemmas.{trimmed_sound, trimmed_complete}
use Rattle.fx_css_parts.proofs.LayerLemmas.{parts_left, parts_first}
use Rattle.fx_text.specs.Trimming.{trimmed}

-- the reading gives what a text spells, and nothing else
pub record IsReading {A : Type 0} (Spells : List ℕ → A → Type 0) (read : List ℕ → Option A) : Type 0 where
  pub sound : (text : List ℕ) (x : A) → read text ≡ Some x → Spells text x
  pub complete : (text : List ℕ) (x : A) → Spells text x → read text ≡ Some x

pub one_reading : {A : Type 0} (Spells : List ℕ → A → Type 0) (read : List ℕ → Option A) → IsReading Spells read → (text : List ℕ) (x y : A) → Spells text x → Spells text y → x ≡ y
one_reading Spells read i text x y a b = let both : Some x ≡ Some y = sym (i.complete text x a) ∙ i.complete text y b in cc

pub between_read : {A : Type 0} (Spells : List ℕ → A → Type 0) (read : List ℕ → Option A) → IsReading Spells read → (text : List ℕ) (x : A) → IsBetweenWhite Spells text x → read (trimmed text) ≡ Some x
between_read Spells read i text x b = ap read (trimmed_complete text b.inner b.is_inner) ∙ i.complete b.inner x b.spells

pub between_sound : {A : Type 0} (Spells : List ℕ → A → Type 0) (read : List ℕ → Option A) → IsReading Spells read → (text : List ℕ) (x : A) → read (trimmed text) ≡ Some x → IsBetweenWhite Spells text x
between_sound Spells read i text x e = record { inner = trimmed text; is_inner = trimmed_sound text; spells = i.sound (trimmed text) x e }

-- cuts at commas

one_by : (d c : ℕ) (cs : List ℕ) (b : Bool) → (not b && is_one (depth_behind d c) cs) ≡ true → (is_one (depth_behind d c) cs ≡ true → parts (depth_behind d c) cs ≡ cs ∷ [])
    → cond b ([] ∷ parts 0 cs) (onto_first c (parts (depth_behind d c) cs)) ≡ (c ∷ cs) ∷ []
one_by d c cs true h ih = absurd (cc)
one_by d c cs false h ih = ap (λ y. onto_first c y) (ih h)

parts_one : (d : ℕ) (text : List ℕ) → is_one d text ≡ true → parts d text ≡ text ∷ []
parts_one d [] h = refl
parts_one d (c ∷ cs) h = one_by d c cs (separates d c) h (parts_one (depth_behind d c) cs)

cut_by : (d c : ℕ) (cs rest : List ℕ) (b : Bool) → (not b && is_one (depth_behind d c) cs) ≡ true
    → (is_one (depth_behind d c) cs ≡ true → parts (depth_behind d c) (cs ++ (44 ∷ rest)) ≡ cs ∷ parts 0 rest)
    → cond b ([] ∷ parts 0 (cs ++ (44 ∷ rest))) (onto_first c (parts (depth_behind d c) (cs ++ (44 ∷ rest)))) ≡ (c ∷ cs) ∷ parts 0 rest
cut_by d c cs rest true h ih = absurd (cc)
cut_by d c cs rest false h ih = ap (λ y. onto_first c y) (ih h)

parts_cut : (d : ℕ) (part rest : List ℕ) → is_one d part ≡ true → depth_after d part ≡ 0 → parts d (part ++ (44 ∷ rest)) ≡ part ∷ parts 0 rest
parts_cut d [] rest h e = ap (λ y. parts y (44 ∷ rest)) e
parts_cut d (c ∷ cs) rest h e = cut_by d c cs rest (separates d c) h (λ g. parts_cut (depth_behind d c) cs rest g e)

record IsWhole (d n : ℕ) (text : List ℕ) : Type 0 where
  one : is_one d text ≡ true
  all : take n text ≡ text

whole_by : (d c : ℕ) (cs : List ℕ) (b : Bool) → separates d c ≡ b → behind_comma (drop (cond b 0 (suc (part_length (depth_behind d c) cs))) (c ∷ cs)) ≡ None
    → (behind_comma (drop (part_length (depth_behind d c) cs) cs) ≡ None → IsWhole (depth_behind d c) (part_length (depth_behind d c) cs) cs)
    → IsWhole d (cond b 0 (suc (part_length (depth_behind d c) cs))) (c ∷ cs)
whole_by d c cs true s e ih = absurd (cc)
whole_by d c cs false s e ih =
    let h = ih e in
    record { one = ap (λ b. not b && is_one (depth_behind d c) cs) s ∙ h.one; all = ap (λ y. c ∷ y) h.all }

whole : (d : ℕ) (text : List ℕ) → behind_comma (drop (part_length d text) text) ≡ None → IsWhole d (part_length d text) text
whole d [] e = record { one = refl; all = refl }
whole d (c ∷ cs) e = whole_by d c cs (separates d c) refl e (whole (depth_behind d c) cs)

record IsCut (d n : ℕ) (text rest : List ℕ) : Type 0 where
  cut : text ≡ take n text ++ (44 ∷ rest)
  one : is_one d (take n text) ≡ true
  flat : depth_after d (take n text) ≡ 0

comma_is : (c : ℕ) → (c == 44) ≡ true → c ≡ 44
comma_is c e = grind (arith, nat_tests, e)

flat_is : (d : ℕ) → (d == 0) ≡ true → d ≡ 0
flat_is d e = grind (arith, nat_tests, e)

cut_at_by : (d c : ℕ) (cs rest : List ℕ) (b : Bool) → separates d c ≡ b → behind_comma (drop (cond b 0 (suc (part_length (depth_behind d c) cs))) (c ∷ cs)) ≡ Some rest
    → (behind_comma (drop (part_length (depth_behind d c) cs) cs) ≡ Some rest → IsCut (depth_behind d c) (part_length (depth_behind d c) cs) cs rest)
    → IsCut d (cond b 0 (suc (part_length (depth_behind d c) cs))) (c ∷ cs) rest
cut_at_by d c cs rest true s e ih =
    let both = and_parts (c == 44) (d == 0) s in
    let same : cs ≡ rest = cc in
    record { cut = ap (λ y. y ∷ cs) (comma_is c both.0) ∙ ap (λ y. 44 ∷ y) same; one = refl; flat = flat_is d both.1 }
cut_at_by d c cs rest false s e ih =
    let h = ih e in
    record {
      cut = ap (λ y. c ∷ y) h.cut;
      one = ap (λ b. not b && is_one (depth_behind d c) (take (part_length (depth_behind d c) cs) cs)) s ∙ h.one;
      flat = h.flat;
    }

cut_at : (d : ℕ) (text rest : List ℕ) → behind_comma (drop (part_length d text) text) ≡ Some rest → IsCut d (part_length d text) text rest
cut_at d [] rest e = absurd (cc)
cut_at d (c ∷ cs) rest e = cut_at_by d c cs rest (separates d c) refl e (cut_at (depth_behind d c) cs rest)

-- the law

separated_complete : {A : Type 0} (Spells : List ℕ → A → Type 0) (read : List ℕ → Option A) → IsReading Spells read → (text : List ℕ) (xs : List A) → Separated Spells text xs → separated_at read text ≡ Some xs
separated_complete Spells read i text xs (last t x one b) =
    ap (λ ps. each_at read ps) (parts_one 0 t one)
    ∙ ap (λ y. option_and_then (λ x. option_map (λ xs. x ∷ xs) (Some [])) y) (between_read Spells read i t x b)
separated_complete Spells read i text xs (more t part rest x ys e one flat b m) =
    ap (λ y. each_at read (parts 0 y)) e
    ∙ ap (λ ps. each_at read ps) (parts_cut 0 part rest one flat)
    ∙ ap (λ y. option_and_then (λ x. option_map (λ xs. x ∷ xs) (each_at read (parts 0 rest))) y) (between_read Spells read i part x b)
    ∙ ap (λ y. option_map (λ xs. x ∷ xs) y) (separated_complete Spells read i rest ys m)

last_sound : {A : Type 0} (Spells : List ℕ → A → Type 0) (read : List ℕ → Option A) → IsReading Spells read → (text : List ℕ) (ps : List (List ℕ)) (x : A) (xs : List A) → behind_part text ≡ None → [] ≡ ps
    → read (trimmed (first_part text)) ≡ Some x → each_at read ps ≡ Some xs → Separated Spells text (x ∷ xs)
last_sound Spells read i text [] x xs e p r h =
    let w = whole 0 text e in
    let none : [] ≡ xs = cc in
    subst (λ ys. Separated Spells text (x ∷ ys)) none
    (last text x w.one (between_sound Spells read i text x (ap (λ y. read (trimmed y)) (sym w.all) ∙ r)))
last_sound Spells read i text (p ∷ ps) x xs e q r h = absurd (cc)

left_sound : {A : Type 0} (Spells : List ℕ → A → Type 0) (read : List ℕ → Option A) → IsReading Spells read → (ps : List (List ℕ)) (text : List ℕ) (x : A) (xs : List A) (o : Option (List ℕ)) → behind_part text ≡ o → parts_left o ≡ ps
    → read (trimmed (first_part text)) ≡ Some x → each_at read ps ≡ Some xs → ((rest : List ℕ) → parts 0 rest ≡ ps → Separated Spells rest xs) → Separated Spells text (x ∷ xs)
left_sound Spells read i ps text x xs None e p r h ih = last_sound Spells read i text ps x xs e p r h
left_sound Spells read i ps text x xs (Some rest) e p r h ih =
    let c = cut_at 0 text rest e in
    more text (first_part text) rest x xs c.cut c.one c.flat (between_sound Spells read i (first_part text) x r) (ih rest p)

each_sound : {A : Type 0} (Spells : List ℕ → A → Type 0) (read : List ℕ → Option A) → IsReading Spells read → (ps : List (List ℕ)) (text : List ℕ) (xs : List A) → parts 0 text ≡ ps → each_at read ps ≡ Some xs → Separated Spells text xs
each_sound Spells read i [] text xs p h = absurd (let first : first_part text ∷ parts_left (behind_part text) ≡ [] = sym (parts_first 0 text) ∙ p in cc)
each_sound Spells read i (q ∷ ps) text xs p h =
    let cut : first_part text ∷ parts_left (behind_part text) ≡ q ∷ ps = sym (parts_first 0 text) ∙ p in
    let first : q ≡ first_part text = cc in
    let others : parts_left (behind_part text) ≡ ps = cc in
    let one = bind_gives (λ x. option_map (λ ys. x ∷ ys) (each_at read ps)) (read (trimmed q)) xs h in
    let rest = map_gives (λ ys. one.0 ∷ ys) (each_at read ps) xs one.2 in
    subst (λ ys. Separated Spells text ys) rest.2
    (left_sound Spells read i ps text one.0 rest.0 (behind_part text) refl others (ap (λ y. read (trimmed y)) (sym first) ∙ one.1) rest.1
    (λ more_text e. each_sound Spells read i ps more_text rest.0 e rest.1))

pub separated_read : {A : Type 0} (Spells : List ℕ → A → Type 0) (read : List ℕ → Option A) → IsReading Spells read → IsReading (Separated Spells) (separated_at read)
separated_read Spells read i = record {
  sound = λ text xs e. each_sound Spells read i (parts 0 text) text xs refl e;
  complete = separated_complete Spells read i;
}
