-- Runs of characters over which the machine stays as it is, or only makes a text longer.
-- The reader takes them whole; its answers cite these.
use Rattle.std.proofs.Common.{◌≡◌, ℕ, zero, suc, ◌+◌, ◌<◌, ◌≤◌, Bool, true, false, cond, ◌&&◌, List, [], ◌∷◌, ◌++◌, take, drop, Option, Some, None, length, refl, sym, ◌∙◌, ap, subst, append_assoc, append-nil, length-append, ◌-◌, arith}
use Rattle.std.specs.List.{list_all, prefix_len}
use Rattle.std.proofs.lemmas.List.{take-append-drop}
use lib.Dec.{ltb}
use lib.Utf8.{encode}
use Rattle.std.proofs.lemmas.Str.{encode_ascii}
use Rattle.fx_text.specs.Classes.{is_white, is_continuation}
use Rattle.fx_text.proofs.FrontLemmas.{front-passes}
use Rattle.fx_base.specs.Positions.{after, after_all, after_byte, after_bytes}
use Rattle.fx_base.specs.declared.positions.Position.{Position}
use Rattle.fx_doc_grammar.specs.Characters.{class_of}
use Rattle.fx_doc_grammar.specs.Grammar.{Head, Level, first_shown, one_sign, quote_code}
use Rattle.fx_doc_grammar.specs.declared.Quote.{Quote}
use Rattle.fx_doc_grammar.specs.Machine.{State, Held, Stack, Bottom, Opened, Inside, Commented, Instructed, Spaced, Tight, Quoted, at, step, is_open, sign_in, with_sign, is_deep, is_long, level_long, in_inside, in_commented, in_instructed, in_spaced, in_tight}
use Rattle.fx_doc_grammar.specs.declared.Class.{Class}
use Rattle.fx_doc_grammar.specs.declared.Class.TheVariants.{White, Less, Ampersand, Dash, Question}
use Rattle.fx_doc_grammar.proofs.Marks.{as_state}
use Rattle.fx_doc_grammar.proofs.Runs.{fits_at}
use Rattle.fx_doc_drafts.specs.Ahead.{is_low, is_flat, is_text, is_calm, is_gap, is_plain}
use Rattle.fx_doc_runs.specs.Reached.{Calm, Took, TookFlat, IsPast, IsRun, run_first, run_level}
use Rattle.fx_doc_runs.proofs.Calm.{one_calm, if_fresh, white_is, value_calm}
use Rattle.fx_doc_runs.proofs.Firsts.{along_is}

both : (a b : Bool) → (a && b) ≡ true → (a ≡ true) × (b ≡ true)
both true b e = (refl, e)
both false b e = Prim.cc

-- positions behind parts in ASCII ------------------------------------------------------------------

leads : (c : ℕ) → is_low c ≡ true → is_continuation c ≡ false
leads c e = grind (arith, e)

byte_on : (p : Position) (c : ℕ) → is_low c ≡ true → after_byte p c ≡ after p c
byte_on p c e = ap (λ b. cond b p (after p c)) (leads c e)

pub low_after : (cs : List ℕ) (p : Position) → list_all is_low cs ≡ true → after_bytes p cs ≡ after_all p cs
low_after [] p e = refl
low_after (c ∷ cs) p e =
    let a = both (is_low c) (list_all is_low cs) e in
    ap (λ q. after_bytes q cs) (byte_on p c a.0) ∙ low_after cs (after p c) a.1

-- walks one behind another ------------------------------------------------------------------------

pub calm_then : (p : Position) (s : State) (a : List ℕ) (t : State) (b : List ℕ) (u : State) → Calm p s a t
    → Calm (after_all p a) t b u → Calm p s (a ++ b) u
calm_then p s [] t b u x y = subst (λ (z : State). Calm p z b u) (sym x) y
calm_then p s (c ∷ a) t b u x y = one_calm p s x.0 c (a ++ b) u x.1 x.2 x.3 (calm_then (after p c) x.0 a t b u x.4 y)

pub flat_append : (a b : List ℕ) → list_all is_flat a ≡ true → list_all is_flat b ≡ true → list_all is_flat (a ++ b)
    ≡ true
flat_append [] b e f = f
flat_append (c ∷ a) b e f = let x = both (is_flat c) (list_all is_flat a) e in
    ap (λ z. z && list_all is_flat (a ++ b)) x.0 ∙ flat_append a b x.1 f

-- the position behind a part of a text, by the lengths of what is left
pub along_part : (text part rest : List ℕ) (p q : Position) → text ≡ part ++ rest → list_all is_flat part ≡ true
    → q.line ≡ p.line → q.column ≡ p.column + (length text - length rest) → q ≡ after_all p part
along_part text part rest p q w f e g =
    let l : length text ≡ length part + length rest = ap length w ∙ length-append part rest in
    let n : length text - length rest ≡ length part = omega arith in
    (λ i. record { line = e i; column = (g ∙ ap (λ y. p.column + y) n) i }) ∙ sym (along_is p part f)

-- a run, and then more
pub run_then : (text part rest left : List ℕ) (p q : Position) (s t u : State) → text ≡ part ++ rest
    → list_all is_flat part ≡ true → q ≡ after_all p part → Calm p s part t → TookFlat rest q t left u
    → TookFlat text p s left u
run_then text part rest left p q s t u w f e k m = record {
  part = part ++ m.part;
  split = w ∙ (ap (λ y. part ++ y) m.split ∙ sym (append_assoc part m.part left));
  flat = flat_append part m.part f m.flat;
  calm = calm_then p s part t m.part u k (subst (λ (y : Position). Calm y t m.part u) e m.calm);
}

pub flat_then : (a b c : List ℕ) (p : Position) (s t u : State) → TookFlat a p s b t
    → ((q : Position) → TookFlat b q t c u) → TookFlat a p s c u
flat_then a b c p s t u x y = run_then a x.part b c p (after_all p x.part) s t u x.split x.flat refl x.calm
    (y (after_all p x.part))

-- fronts ------------------------------------------------------------------------------------------

some_by : (test : ℕ → Bool) (x : ℕ) (xs : List ℕ) (k : ℕ) (b : Bool)
    → (k ≤ prefix_len test xs → list_all test (take k xs) ≡ true) → test x ≡ b
    → suc k ≤ cond b (1 + prefix_len test xs) 0 → (test x && list_all test (take k xs)) ≡ true
some_by test x xs k true ih e g = ap (λ z. z && list_all test (take k xs)) e
    ∙ ih (let f : suc k ≤ 1 + prefix_len test xs = g in omega arith)
some_by test x xs k false ih e g = absurd (let f : suc k ≤ 0 = g in omega arith)

pub front_some : (test : ℕ → Bool) (xs : List ℕ) (k : ℕ) → k ≤ prefix_len test xs → list_all test (take k xs) ≡ true
front_some test [] zero h = refl
front_some test [] (suc k) h = refl
front_some test (x ∷ xs) zero h = refl
front_some test (x ∷ xs) (suc k) h = some_by test x xs k (test x) (front_some test xs k) refl h

-- what code cuts is a run
pub run_is : (test : ℕ → Bool) (text bytes piece rest : List ℕ) (n k : ℕ) → n ≡ prefix_len test bytes → bytes ≡ text
    → k ≤ n → piece ≡ take k text → rest ≡ drop k text → IsRun test text piece rest
run_is test text bytes piece rest n k e b h f g = record {
  split = sym (take-append-drop k text) ∙ (ap (λ y. y ++ drop k text) (sym f) ∙ ap (λ y. piece ++ y) (sym g));
  each = ap (list_all test) f ∙ front_some test text k (subst (λ (m : ℕ). k ≤ m) (e ∙ ap (prefix_len test) b) h);
}

pub gap_is : (text bytes piece rest : List ℕ) (n : ℕ) → n ≡ prefix_len is_gap bytes → bytes ≡ text → piece
    ≡ take n text → rest ≡ drop n text → IsRun is_gap text piece rest
gap_is text bytes piece rest n e b = run_is is_gap text bytes piece rest n n e b (same n)
  where
    same : (n : ℕ) → n ≤ n
    same n = omega arith

all_of : (test other : ℕ → Bool) → ((c : ℕ) → test c ≡ true → other c ≡ true) → (cs : List ℕ) → list_all test cs ≡ true
    → list_all other cs ≡ true
all_of test other f [] e = refl
all_of test other f (c ∷ cs) e = let a = both (test c) (list_all test cs) e in
    ap (λ z. z && list_all other cs) (f c a.0) ∙ all_of test other f cs a.1

calm_flat : (a b c : ℕ) → is_calm a b c ≡ true → is_flat c ≡ true
calm_flat a b c e = grind (arith, e)

gap_flat : (c : ℕ) → is_gap c ≡ true → is_flat c ≡ true
gap_flat c e = grind (arith, e)

text_low : (c : ℕ) → is_text c ≡ true → is_low c ≡ true
text_low c e = grind (arith, e)

white_low : (c : ℕ) → is_white c ≡ true → is_low c ≡ true
white_low c e = grind (arith, e)

flat_low : (c : ℕ) → is_flat c ≡ true → is_low c ≡ true
flat_low c e = grind (arith, e)

plain_low : (q c : ℕ) → is_plain q c ≡ true → is_low c ≡ true
plain_low q c e = grind (arith, e)

pub text_all_low : (cs : List ℕ) → list_all is_text cs ≡ true → list_all is_low cs ≡ true
text_all_low = all_of is_text is_low text_low

pub white_all_low : (cs : List ℕ) → list_all is_white cs ≡ true → list_all is_low cs ≡ true
white_all_low = all_of is_white is_low white_low

pub flat_all_low : (cs : List ℕ) → list_all is_flat cs ≡ true → list_all is_low cs ≡ true
flat_all_low = all_of is_flat is_low flat_low

pub plain_all_low : (q : ℕ) (cs : List ℕ) → list_all (is_plain q) cs ≡ true → list_all is_low cs ≡ true
plain_all_low q = all_of (is_plain q) is_low (plain_low q)

pub calm_all_flat : (a b : ℕ) (cs : List ℕ) → list_all (is_calm a b) cs ≡ true → list_all is_flat cs ≡ true
calm_all_flat a b = all_of (is_calm a b) is_flat (calm_flat a b)

pub gap_all_flat : (cs : List ℕ) → list_all is_gap cs ≡ true → list_all is_flat cs ≡ true
gap_all_flat = all_of is_gap is_flat gap_flat

-- classes -----------------------------------------------------------------------------------------

by_test : (b : Bool) (k : Class) → b ≡ true → cond b White k ≡ White
by_test true k e = refl
by_test false k e = absurd (let f : false ≡ true = e in cc)

pub white_class : (c : ℕ) → is_white c ≡ true → class_of c ≡ White
unfolding class_of
white_class c e = by_test (is_white c) _ e

gap_is_white : (c : ℕ) → is_gap c ≡ true → is_white c ≡ true
gap_is_white c e = grind (arith, e)

pub gap_all_white : (cs : List ℕ) → list_all is_gap cs ≡ true → list_all is_white cs ≡ true
gap_all_white = all_of is_gap is_white gap_is_white

pub gap_class : (c : ℕ) → is_gap c ≡ true → class_of c ≡ White
gap_class c e = white_class c (gap_is_white c e)

text_less : (c : ℕ) → is_text c ≡ true → class_of c ≡ Less → ⊥
text_less c e k = let f : c ≡ 60 = fits_at c Less k in grind (arith, e, f)

text_ampersand : (c : ℕ) → is_text c ≡ true → class_of c ≡ Ampersand → ⊥
text_ampersand c e k = let f : c ≡ 38 = fits_at c Ampersand k in grind (arith, e, f)

-- states that stay --------------------------------------------------------------------------------

pub still : (s : State) (test : ℕ → Bool) → ((p : Position) (c : ℕ) → test c ≡ true → step p s c ≡ Some s) → is_deep s
    ≡ false → is_long s ≡ false → (cs : List ℕ) → list_all test cs ≡ true → (p : Position) → Calm p s cs s
still s test f d l [] e p = refl
still s test f d l (c ∷ cs) e p = let a = both (test c) (list_all test cs) e in
    one_calm p s s c cs s (f p c a.0) d l (still s test f d l cs a.1 (after p c))

sign_out : (st : Stack) (p : Position) (c : ℕ) (h : Held) → is_open st ≡ false → sign_in st p c h ≡ h
sign_out Bottom p c h e = refl
sign_out (Opened s l t) p c h e = absurd (let f : true ≡ false = e in cc)

white_stays : (h : Held) → is_open h.stack ≡ false → (p : Position) (c : ℕ) → is_white c ≡ true
    → step p (as_state h Inside) c ≡ Some (as_state h Inside)
white_stays h o p c e = ap (λ (k : Class). in_inside p h c k) (white_class c e)
    ∙ ap (λ (y : Held). at y Inside) (sign_out h.stack p c h o)

pub white_took : (h : Held) (text rest : List ℕ) (p q : Position) → is_open h.stack ≡ false → level_long h ≡ false
    → IsPast is_white text p rest q → Took text p (as_state h Inside) rest q (as_state h Inside)
white_took h text rest p q o l r = record {
  part = r.part;
  split = r.split;
  low = white_all_low r.part r.each;
  place = r.place;
  calm = still (as_state h Inside) is_white (white_stays h o) refl l r.part r.each p;
}

-- the text of an element --------------------------------------------------------------------------

inside_on : (p : Position) (h : Held) (c : ℕ) (k : Class) → (k ≡ Less → ⊥) → (k ≡ Ampersand → ⊥) → is_open h.stack
    ≡ true → in_inside p h c k ≡ at (with_sign p c h) Inside
inside_on p h c White a b e = refl
inside_on p h c Less a b e = absurd (a refl)
inside_on p h c Ampersand a b e = absurd (b refl)
inside_on p h c k a b e = if_fresh (is_open h.stack) (at (with_sign p c h) Inside) e

abbrev leveled : List (List ℕ) → Stack → Level → State
leveled imports st l = record { held = record { imports = imports; stack = st; level = l }; mode = Inside }

few : (n : ℕ) → n ≤ 4096 → ltb 4096 n ≡ false
few n h = grind arith

pub low_flat : (c : ℕ) → is_flat c ≡ true → c < 128
low_flat c e = grind (arith, e)

low : (c : ℕ) → is_low c ≡ true → c < 128
low c e = grind (arith, e)

none_more : (n : ℕ) → n ≡ n + 0
none_more n = omega arith

one_more : (n m : ℕ) → (n + 1) + m ≡ n + suc m
one_more n m = omega arith

text_calm : (imports : List (List ℕ)) (s : Stack) (b : Level) (t : Head) (cs : List ℕ) (p : Position) (l : Level)
    → list_all is_text cs ≡ true → l.count + length cs ≤ 4096
    → Calm p (leveled imports (Opened s b t) l) cs (leveled imports (Opened s b t) (run_level p cs l))
text_calm imports s b t [] p l e h =
    ap (leveled imports (Opened s b t)) (λ j. record {
      nodes = l.nodes;
      run = sym (append-nil l.run) j;
      first =
          l.first;
      count = none_more l.count j;
    })
text_calm imports s b t (c ∷ cs) p l e h =
    let a = both (is_text c) (list_all is_text cs) e in
    let byte = ap (λ y. (l.run ++ y) ++ cs) (encode_ascii c (low c (text_low c a.0)))
    ∙ append_assoc l.run (c ∷ []) cs in
    let room : l.count + 1 ≤ 4096 = omega arith in
    let more : (l.count + 1) + length cs ≤ 4096 = omega arith in
    let held : Held = record { imports = imports; stack = Opened s b t; level = l } in
    let same : run_level (after p c) cs (one_sign p c l) ≡ run_level p (c ∷ cs) l =
    λ j. record {
      nodes = l.nodes;
      run = byte j;
      first = run_first p (c ∷ cs) l.first;
      count =
          one_more l.count (length cs) j;
    } in
    subst (λ (y : Level). Calm p (leveled imports (Opened s b t) l) (c ∷ cs) (leveled imports (Opened s b t) y)) same
    (one_calm p (leveled imports (Opened s b t) l) (leveled imports (Opened s b t) (one_sign p c l)) c cs
    (leveled imports (Opened s b t) (run_level (after p c) cs (one_sign p c l)))
    (inside_on p held c (class_of c) (text_less c a.0) (text_ampersand c a.0) refl) refl (few (l.count + 1) room)
    (text_calm imports s b t cs (after p c) (one_sign p c l) a.1 more))

open_calm : (imports : List (List ℕ)) (st : Stack) (cs : List ℕ) (p : Position) (l : Level) → is_open st ≡ true
    → list_all is_text cs ≡ true → l.count + length cs ≤ 4096
    → Calm p (leveled imports st l) cs (leveled imports st (run_level p cs l))
open_calm imports Bottom cs p l o e h = absurd (let f : false ≡ true = o in cc)
open_calm imports (Opened s b t) cs p l o e h = text_calm imports s b t cs p l e h

pub text_took : (h : Held) (l : Level) (text part rest : List ℕ) (p q : Position) → is_open h.stack ≡ true
    → IsRun is_text text part rest → h.level.count + length part ≤ 4096 → l ≡ run_level p part h.level
    → q ≡ after_all p part
    → Took text p (as_state h Inside) rest q (as_state (record { imports = h.imports; stack = h.stack; level = l })
    Inside)
text_took h l text part rest p q o r n w e = record {
  part = part;
  split = r.split;
  low = text_all_low part r.each;
  place = e;
  calm = subst (λ (y : Level). Calm p (as_state h Inside) part (leveled h.imports h.stack y)) (sym w)
      (open_calm h.imports h.stack part p h.level o r.each n);
}

-- the position of the first character that isn't white --------------------------------------------

abbrev column_at : Position → ℕ → Position
column_at p n = record { line = p.line; column = n }

pub first_stays : (cs : List ℕ) (p q : Position) → run_first p cs (Some q) ≡ Some q
first_stays [] p q = refl
first_stays (c ∷ cs) p q = first_stays cs (after p c) q

not_white_class : (c : ℕ) → is_white c ≡ false → class_of c ≡ White → ⊥
not_white_class c e k = absurd (let f : true ≡ false = sym (white_is c k) ∙ e in cc)

shown_by : (p : Position) (k : Class) → (k ≡ White → ⊥) → first_shown None p k ≡ Some p
shown_by p White n = absurd (n refl)
shown_by p k n = refl

blank_by : (c : ℕ) (cs : List ℕ) (p : Position) (b : Bool) → (prefix_len is_white cs ≡ length cs
    → run_first (after p c) cs None ≡ None) → is_white c ≡ b → cond b (1 + prefix_len is_white cs) 0 ≡ suc (length cs)
    → run_first (after p c) cs (first_shown None p (class_of c)) ≡ None
blank_by c cs p true ih w g = ap (λ (k : Class). run_first (after p c) cs (first_shown None p k)) (white_class c w)
    ∙ ih (let f : 1 + prefix_len is_white cs ≡ suc (length cs) = g in omega arith)
blank_by c cs p false ih w g = absurd (let f : 0 ≡ suc (length cs) = g in omega arith)

pub first_blank : (cs : List ℕ) (p : Position) → prefix_len is_white cs ≡ length cs → run_first p cs None ≡ None
first_blank [] p e = refl
first_blank (c ∷ cs) p e = blank_by c cs p (is_white c) (first_blank cs (after p c)) refl e

one_more_taken : (n : ℕ) (c : ℕ) (cs : List ℕ) → c ∷ take n cs ≡ take (1 + n) (c ∷ cs)
one_more_taken n c cs = ap (λ m. take m (c ∷ cs)) (next n)
  where
    next : (n : ℕ) → suc n ≡ 1 + n
    next n = omega arith

up : (n m : ℕ) → n ≡ m → 1 + n ≡ suc m
up n m e = omega arith

found_by : (c : ℕ) (cs : List ℕ) (p : Position) (b : Bool)
    → ((prefix_len is_white cs ≡ length cs → ⊥) → run_first (after p c) cs None
    ≡ Some (after_all (after p c) (take (prefix_len is_white cs) cs)))
    → is_white c ≡ b → (cond b (1 + prefix_len is_white cs) 0 ≡ suc (length cs) → ⊥)
    → run_first (after p c) cs (first_shown None p (class_of c))
    ≡ Some (after_all p (take (cond b (1 + prefix_len is_white cs) 0) (c ∷ cs)))
found_by c cs p true ih w g =
    ap (λ (k : Class). run_first (after p c) cs (first_shown None p k)) (white_class c w)
    ∙ (ih (λ e. g (up (prefix_len is_white cs) (length cs) e))
    ∙ ap (λ y. Some (after_all p y)) (one_more_taken (prefix_len is_white cs) c cs))
found_by c cs p false ih w g =
    ap (λ (o : Option Position). run_first (after p c) cs o) (shown_by p (class_of c) (not_white_class c w))
    ∙ first_stays cs (after p c) p

pub first_found : (cs : List ℕ) (p : Position) → (prefix_len is_white cs ≡ length cs → ⊥)
    → run_first p cs None ≡ Some (after_all p (take (prefix_len is_white cs) cs))
first_found [] p n = absurd (n refl)
first_found (c ∷ cs) p n = found_by c cs p (is_white c) (first_found cs (after p c)) refl n

-- as code finds it
pub blank_in : (piece bytes : List ℕ) (p : Position) (n : ℕ) → n ≡ prefix_len is_white bytes → bytes ≡ piece → n
    ≡ length piece → None ≡ run_first p piece None
blank_in piece bytes p n e b w = sym (first_blank piece p (sym (e ∙ ap (prefix_len is_white) b) ∙ w))

pub found_in : (piece bytes front : List ℕ) (p r : Position) (n : ℕ) → list_all is_low piece ≡ true → n
    ≡ prefix_len is_white bytes → bytes ≡ piece → (n ≡ length piece → ⊥) → front ≡ take n bytes
    → r ≡ after_bytes p front → Some r ≡ run_first p piece None
found_in piece bytes front p r n f e b x t w =
    let m : n ≡ prefix_len is_white piece = e ∙ ap (prefix_len is_white) b in
    let same : front ≡ take (prefix_len is_white piece) piece = t ∙ (ap (take n) b ∙ ap (λ k. take k piece) m) in
    let low : list_all is_low front ≡ true = white_all_low front
    (ap (list_all is_white) same ∙ front-passes is_white piece) in
    ap Some (w ∙ (low_after front p low ∙ ap (after_all p) same)) ∙ sym (first_found piece p (λ z. x (m ∙ z)))

-- comments ----------------------------------------------------------------------------------------

comment_dash : (c : ℕ) → is_calm 45 45 c ≡ true → class_of c ≡ Dash → ⊥
comment_dash c e k = let f : c ≡ 45 = fits_at c Dash k in grind (arith, e, f)

commented_on : (h : Held) (k : Class) → (k ≡ Dash → ⊥) → in_commented h k ≡ at h Commented
commented_on h Dash n = absurd (n refl)
commented_on h k n = refl

pub comment_took : (h : Held) (text part rest : List ℕ) (p : Position) → level_long h ≡ false
    → IsRun (is_calm 45 45) text part rest → TookFlat text p (as_state h Commented) rest (as_state h Commented)
comment_took h text part rest p l r = record {
  part = part;
  split = r.split;
  flat = calm_all_flat 45 45 part r.each;
  calm = still (as_state h Commented) (is_calm 45 45) (λ q c e. commented_on h (class_of c) (comment_dash c e)) refl l
      part r.each p;
}

-- instructions ------------------------------------------------------------------------------------

text_question : (c : ℕ) → is_calm 63 63 c ≡ true → class_of c ≡ Question → ⊥
text_question c e k = let f : c ≡ 63 = fits_at c Question k in grind (arith, e, f)

instructed_on : (n x : List ℕ) (h : Held) (c : ℕ) (k : Class) → (k ≡ Question → ⊥) → in_instructed n x h c k
    ≡ at h (Instructed n (x ++ encode c))
instructed_on n x h c Question e = absurd (e refl)
instructed_on n x h c k e = refl

instruction_calm : (h : Held) (n : List ℕ) → level_long h ≡ false → (cs x : List ℕ) (p : Position)
    → list_all (is_calm 63 63) cs ≡ true → Calm p (as_state h (Instructed n x)) cs (as_state h (Instructed n (x ++ cs)))
instruction_calm h n l [] x p e = ap (λ y. as_state h (Instructed n y)) (sym (append-nil x))
instruction_calm h n l (c ∷ cs) x p e =
    let a = both (is_calm 63 63 c) (list_all (is_calm 63 63) cs) e in
    let byte = ap (λ y. (x ++ y) ++ cs) (encode_ascii c (low_flat c (calm_flat 63 63 c a.0)))
    ∙ append_assoc x (c ∷ []) cs in
    subst (λ y. Calm p (as_state h (Instructed n x)) (c ∷ cs) (as_state h (Instructed n y))) byte
    (one_calm p (as_state h (Instructed n x)) (as_state h (Instructed n (x ++ encode c))) c cs
    (as_state h (Instructed n ((x ++ encode c) ++ cs)))
    (instructed_on n x h c (class_of c) (text_question c a.0)) refl l
    (instruction_calm h n l cs (x ++ encode c) (after p c) a.1))

pub instruction_took : (h : Held) (n x y text part rest : List ℕ) (p : Position) → level_long h ≡ false
    → IsRun (is_calm 63 63) text part rest → y ≡ x ++ part → TookFlat text p (as_state h (Instructed n x)) rest
    (as_state h (Instructed n y))
instruction_took h n x y text part rest p l r w = record {
  part = part;
  split = r.split;
  flat = calm_all_flat 63 63 part r.each;
  calm = subst (λ z. Calm p (as_state h (Instructed n x)) part (as_state h (Instructed n z))) (sym w)
      (instruction_calm h n l part x p r.each);
}

-- white in a tag ----------------------------------------------------------------------------------

pub spaced_calm : (h : Held) (head : Head) (part : List ℕ) (p : Position) → level_long h ≡ false
    → list_all is_white part ≡ true → Calm p (as_state h (Spaced head)) part (as_state h (Spaced head))
spaced_calm h head part p l e = still (as_state h (Spaced head))
    is_white (λ q c g. ap (λ (k : Class). in_spaced q head h c k) (white_class c g)) refl l part e p

-- the value of an attribute -----------------------------------------------------------------------

plain_flat : (q c : ℕ) → is_plain q c ≡ true → is_flat c ≡ true
plain_flat q c e = grind (arith, e)

value_took : (h : Held) (head : Head) (q : Position) (key : List ℕ) (u : Quote) (v w : List ℕ) (n m : ℕ)
    (text part rest : List ℕ) (p : Position) → level_long h ≡ false → IsRun (is_plain (quote_code u)) text part rest
    → n + length part ≤ 4096 → w ≡ v ++ part → m ≡ n + length part
    → TookFlat text p (as_state h (Quoted head q key u v n)) rest (as_state h (Quoted head q key u w m))
value_took h head q key u v w n m text part rest p l r f e g = record {
  part = part;
  split = r.split;
  flat = all_of (is_plain (quote_code u)) is_flat (plain_flat (quote_code u)) part r.each;
  calm = subst (λ (y : List ℕ). Calm p (as_state h (Quoted head q key u v n)) y (as_state h (Quoted head q key u w m)))
      (append-nil part)
      (value_calm h head q key u l part v w [] n (as_state h (Quoted head q key u w m)) p e f r.each
      (λ t. ap (λ (y : ℕ). as_state h (Quoted head q key u w y)) (sym g)));
}

pub value_taken : (h : Held) (head : Head) (q : Position) (key : List ℕ) (u : Quote) (code : ℕ) (v w : List ℕ)
    (n m : ℕ) (text part rest : List ℕ) (p : Position) → code ≡ quote_code u → level_long h ≡ false
    → IsRun (is_plain code) text part rest → n + length part ≤ 4096 → w ≡ v ++ part → m ≡ n + length part
    → TookFlat text p (as_state h (Quoted head q key u v n)) rest (as_state h (Quoted head q key u w m))
value_taken h head q key u code v w n m text part rest p c l r =
    value_took h head q key u v w n m text part rest p l (subst (λ (z : ℕ). IsRun (is_plain z) text part rest) c r)

-- white behind a value ----------------------------------------------------------------------------

pub tight_white_calm : (h : Held) (head : Head) (part : List ℕ) (p : Position) → (part ≡ [] → ⊥)
    → level_long h ≡ false → list_all is_white part ≡ true
    → Calm p (as_state h (Tight head)) part (as_state h (Spaced head))
tight_white_calm h head [] p n l e = absurd (n refl)
tight_white_calm h head (c ∷ cs) p n l e =
    let a = both (is_white c) (list_all is_white cs) e in
    one_calm p (as_state h (Tight head)) (as_state h (Spaced head)) c cs (as_state h (Spaced head))
    (ap (λ (k : Class). in_tight head h k) (white_class c a.0)) refl l (spaced_calm h head cs (after p c) l a.1)
