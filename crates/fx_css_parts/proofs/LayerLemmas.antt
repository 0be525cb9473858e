-- Texts are cut at their first comma outside parentheses, part by part.
use Rattle.std.proofs.Common.{◌≡◌, ℕ, zero, suc, ◌+◌, ◌<◌, ◌≤◌, Bool, true, false, cond, List, [], ◌∷◌, ◌++◌, length, take, drop, append_assoc, zero-add, Option, Some, None, refl, sym, ap, ◌∙◌, arith}
use Rattle.std.specs.List.{prefix_len}
use Rattle.std.specs.Option.{option_and_then, option_map}
use Rattle.std.proofs.lemmas.Bool.Decides.{nat_tests}
use Rattle.fx_css_parts.specs.Layers.{depth_behind, separates, part_length, first_part, behind_comma, behind_part, onto_first, parts, each_at, separated_at, left_at}
use Rattle.fx_css_parts.specs.Drafts.{is_flat}
use Rattle.fx_text.specs.Trimming.{trimmed}

abbrev pub parts_left : Option (List ℕ) → List (List ℕ)
parts_left None = []
parts_left (Some rest) = parts 0 rest

parts_first_by : (d c : ℕ) (cs : List ℕ) (b : Bool) → parts (depth_behind d c) cs ≡ take (part_length (depth_behind d c) cs) cs ∷ parts_left (behind_comma (drop (part_length (depth_behind d c) cs) cs))
    → cond b ([] ∷ parts 0 cs) (onto_first c (parts (depth_behind d c) cs))
    ≡ take (cond b 0 (suc (part_length (depth_behind d c) cs))) (c ∷ cs) ∷ parts_left (behind_comma (drop (cond b 0 (suc (part_length (depth_behind d c) cs))) (c ∷ cs)))
parts_first_by d c cs true h = refl
parts_first_by d c cs false h = ap (λ y. onto_first c y) h

pub parts_first : (d : ℕ) (text : List ℕ) → parts d text ≡ take (part_length d text) text ∷ parts_left (behind_comma (drop (part_length d text) text))
parts_first d [] = refl
parts_first d (c ∷ cs) = parts_first_by d c cs (separates d c) (parts_first (depth_behind d c) cs)

-- how much is left to read
abbrev pub left_length : Option (List ℕ) → ℕ
left_length None = 0
left_length (Some rest) = suc (length rest)

comma_length : (text : List ℕ) (n : ℕ) → left_length (behind_comma (drop n text)) ≤ length text
comma_length [] zero = omega arith
comma_length [] (suc n) = omega arith
comma_length (c ∷ cs) zero = omega arith
comma_length (c ∷ cs) (suc n) = let h : left_length (behind_comma (drop n cs)) ≤ length cs = comma_length cs n in omega arith

pub less_left : (text : List ℕ) (o : Option (List ℕ)) → o ≡ behind_part text → left_length o < suc (length text)
less_left text o e = let h : left_length (behind_part text) ≤ length text = comma_length text (part_length 0 text) in rw e (omega arith)

-- one part and those that are left

left_parts : {A : Type 0} (read : List ℕ → Option A) (o : Option (List ℕ)) → each_at read (parts_left o) ≡ left_at read o
left_parts read None = refl
left_parts read (Some rest) = refl

pub separated_first : {A : Type 0} (read : List ℕ → Option A) (text : List ℕ) → separated_at read text ≡ option_and_then (λ x. option_map (λ xs. x ∷ xs) (left_at read (behind_part text))) (read (trimmed (first_part text)))
separated_first read text =
    ap (λ ps. each_at read ps) (parts_first 0 text)
    ∙ ap (λ y. option_and_then (λ x. option_map (λ xs. x ∷ xs) y) (read (trimmed (first_part text)))) (left_parts read (behind_part text))

map_more : {A : Type 0} (done : List A) (x : A) (o : Option (List A)) → option_map (λ xs. done ++ xs) (option_map (λ xs. x ∷ xs) o) ≡ option_map (λ xs. (done ++ (x ∷ [])) ++ xs) o
map_more done x None = refl
map_more done x (Some xs) = ap (λ y. Some y) (sym (append_assoc done (x ∷ []) xs))

pub layer_turn : {A : Type 0} (read : List ℕ → Option A) (text part : List ℕ) (o : Option (List ℕ)) (done : List A) (x : A) → part ≡ trimmed (first_part text) → o ≡ behind_part text → Some x ≡ read part
    → option_map (λ xs. (done ++ (x ∷ [])) ++ xs) (left_at read o) ≡ option_map (λ xs. done ++ xs) (separated_at read text)
layer_turn read text part o done x p r e =
    ap (λ y. option_map (λ xs. (done ++ (x ∷ [])) ++ xs) (left_at read y)) r
    ∙ sym (map_more done x (left_at read (behind_part text)))
    ∙ ap (λ y. option_map (λ xs. done ++ xs) y) (ap (λ y. option_and_then (λ x. option_map (λ xs. x ∷ xs) (left_at read (behind_part text))) y) (e ∙ ap read p) ∙ sym (separated_first read text))

pub layer_fails : {A : Type 0} (read : List ℕ → Option A) (text part : List ℕ) (done : List A) → part ≡ trimmed (first_part text) → None ≡ read part → None ≡ option_map (λ xs. done ++ xs) (separated_at read text)
layer_fails read text part done p e =
    ap (λ y. option_map (λ xs. done ++ xs) y) (ap (λ y. option_and_then (λ x. option_map (λ xs. x ∷ xs) (left_at read (behind_part text))) y) (e ∙ ap read p) ∙ sym (separated_first read text))

-- the loop that measures the first part

pub length_step : (d c : ℕ) (cs : List ℕ) → separates d c ≡ false → part_length d (c ∷ cs) ≡ suc (part_length (depth_behind d c) cs)
length_step d c cs e = ap (λ b. cond b 0 (suc (part_length (depth_behind d c) cs))) e

pub length_stop : (d c : ℕ) (cs : List ℕ) → separates d c ≡ true → part_length d (c ∷ cs) ≡ 0
length_stop d c cs e = ap (λ b. cond b 0 (suc (part_length (depth_behind d c) cs))) e

pub depth_grows : (d c : ℕ) → depth_behind d c ≤ d + 1
depth_grows d c = grind arith

pub ruleset length_moves = (length_step, length_stop, depth_grows)

-- the flat front of a part

flat_on : (c : ℕ) → is_flat c ≡ true → separates 0 c ≡ false
flat_on c e = grind (arith, nat_tests, e)

flat_depth : (c : ℕ) → is_flat c ≡ true → depth_behind 0 c ≡ 0
flat_depth c e = grind (arith, nat_tests, e)

flat_by : (c : ℕ) (cs : List ℕ) (b : Bool) → is_flat c ≡ b → part_length 0 cs ≡ prefix_len is_flat cs + part_length 0 (drop (prefix_len is_flat cs) cs)
    → part_length 0 (c ∷ cs) ≡ cond b (1 + prefix_len is_flat cs) 0 + part_length 0 (drop (cond b (1 + prefix_len is_flat cs) 0) (c ∷ cs))
flat_by c cs true e h =
    let one : 1 + prefix_len is_flat cs ≡ suc (prefix_len is_flat cs) = omega arith in
    let here : part_length 0 (c ∷ cs) ≡ suc (part_length 0 cs) = length_step 0 c cs (flat_on c e) ∙ ap (λ d. suc (part_length d cs)) (flat_depth c e) in
    rw one (here ∙ omega (arith, h))
flat_by c cs false e h = sym (zero-add (part_length 0 (c ∷ cs)))

pub flat_skip : (text : List ℕ) → part_length 0 text ≡ prefix_len is_flat text + part_length 0 (drop (prefix_len is_flat text) text)
flat_skip [] = refl
flat_skip (c ∷ cs) = flat_by c cs (is_flat c) refl (flat_skip cs)
