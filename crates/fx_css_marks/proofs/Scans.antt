-- What is scanned are the marks of the text, and its only ones.
-- Below the answers on marks.
use Rattle.std.proofs.Common.{◌≡◌, ℕ, Bool, true, false, ◌&&◌, ◌||◌, List, [], ◌∷◌, ◌++◌, refl, sym, ◌∙◌, ap, subst, append_assoc, append-nil}
use Rattle.std.proofs.lemmas.Bool.{eqb-true, eq-eqb}
use Rattle.std.specs.Bool.{if◌then◌else◌}
use Rattle.std.specs.List.{list_any}
use lib.Dec.{eqb}
use Rattle.fx_base.specs.declared.positions.Position.{Position}
use Rattle.fx_css_marks.specs.declared.marks.Mark.{Mark}
use Rattle.fx_css_marks.specs.Scanning.{Mode}
use Rattle.fx_css_marks.specs.Scanning as v
use Rattle.fx_text.specs.Classes.{is_quote}
use Rattle.fx_base.specs.Positions.{after_byte, after_bytes}
use Rattle.fx_css_marks.specs.Bytes.{begins_with, has_end}
use Rattle.fx_css_marks.specs.Marks.{mark, space, quoted, quotation, Marked, Ended, Plain, Comment, OpenComment, Quoted, OpenQuoted}
use Rattle.fx_css_marks.specs.Scanning.{plain_marks, plain_mode, marks_at, mode_after, scanned}
use Rattle.fx_css_marks.proofs.Comments.{or_left, or_right, or_both, and_left, and_right, IsSafe, fewer_ends, safe_none, safe_more, star_more, after_bytes-append}

-- the same marks of the same bytes, written otherwise
re : {p q : Position} {cs ds : List ℕ} {ms ns : List Mark} → p ≡ q → cs ≡ ds → ms ≡ ns → Marked p cs ms → Marked q ds ns
re {p} {q} {cs} {ds} {ms} {ns} e f g h = subst (λ y. Marked y ds ns) e (subst (λ y. Marked p y ns) f (subst (λ y. Marked p cs y) g h))

quoted-append : (p : Position) (x y : List ℕ) → quoted p (x ++ y) ≡ quoted p x ++ quoted (after_bytes p x) y
quoted-append p [] y = refl
quoted-append p (c ∷ x) y = ap (λ z. mark c p false ∷ z) (quoted-append (after_byte p c) x y)

any_more : (q : ℕ) (x : List ℕ) (c : ℕ) → list_any (λ d. eqb d q) x ≡ false → eqb c q ≡ false → list_any (λ d. eqb d q) (x ++ (c ∷ [])) ≡ false
any_more q [] c e n = or_both (eqb c q) false n refl
any_more q (d ∷ x) c e n = or_both (eqb d q) (list_any (λ d. eqb d q) (x ++ (c ∷ []))) (or_left (eqb d q) (list_any (λ d. eqb d q) x) e) (any_more q x c (or_right (eqb d q) (list_any (λ d. eqb d q) x) e) n)

-- what a scan in this mode gives, together with what was taken before
abbrev Good : Mode → Position → List ℕ → Type 0
Good v.Plain p cs = Marked p cs (scanned v.Plain p cs)
Good (v.Slashed q) p cs = p ≡ after_byte q 47 → Marked q (47 ∷ cs) (scanned (v.Slashed q) p cs)
Good v.Commented p cs = (q : Position) (x : List ℕ) → IsSafe x → p ≡ after_bytes q (47 ∷ (42 ∷ x)) → Marked q (47 ∷ (42 ∷ (x ++ cs))) (space q ∷ scanned v.Commented p cs)
Good v.Starred p cs = (q : Position) (x : List ℕ) → has_end (x ++ (42 ∷ [])) ≡ false → p ≡ after_bytes q (47 ∷ (42 ∷ (x ++ (42 ∷ [])))) → Marked q (47 ∷ (42 ∷ ((x ++ (42 ∷ [])) ++ cs))) (space q ∷ scanned v.Starred p cs)
Good (v.Quoted s) p cs = (q : Position) (x : List ℕ) → is_quote s ≡ true → list_any (λ d. eqb d s) x ≡ false → p ≡ after_bytes q (s ∷ x) → Marked q (s ∷ (x ++ cs)) (quoted q (s ∷ x) ++ scanned (v.Quoted s) p cs)

-- the scan of one more byte, and the rest
abbrev Goes : Mode → Position → ℕ → List ℕ → List Mark
Goes m p c cs = marks_at m p c ++ scanned (mode_after m p c) (after_byte p c) cs

plain_turn : (p : Position) (c : ℕ) (cs : List ℕ) (a b : Bool) → eqb c 47 ≡ a → is_quote c ≡ b → ((m : Mode) → Good m (after_byte p c) cs) → Marked p (c ∷ cs) (plain_marks p c ++ scanned (plain_mode p c) (after_byte p c) cs)
unfolding plain_marks plain_mode
plain_turn p c cs true b e f g =
    let h : c ≡ 47 = eqb-true c 47 e in
    rw e (re refl (ap (λ y. y ∷ cs) (sym h)) refl (g (v.Slashed p) (ap (λ y. after_byte p y) h)))
plain_turn p c cs false true e f g = rw (e, f) (g (v.Quoted c) p [] f refl refl)
plain_turn p c cs false false e f g = rw (e, f) (Plain c f (and_left (eqb c 47) (begins_with 42 cs) e) (g v.Plain))

slashed_turn : (q p : Position) (c : ℕ) (cs : List ℕ) (a : Bool) → eqb c 42 ≡ a → ((m : Mode) → Good m (after_byte p c) cs) → p ≡ after_byte q 47 → Marked q (47 ∷ (c ∷ cs)) (Goes (v.Slashed q) p c cs)
unfolding marks_at mode_after
slashed_turn q p c cs true e g h =
    let k : c ≡ 42 = eqb-true c 42 e in
    rw e (re refl (ap (λ y. 47 ∷ (y ∷ cs)) (sym k)) refl (g v.Commented q [] safe_none (ap (λ y. after_byte p y) k ∙ ap (λ y. after_byte y 42) h)))
slashed_turn q p c cs false e g h =
    rw e (Plain 47 refl (and_right (eqb 47 47) (eqb c 42) e) (re h refl refl (plain_turn p c cs (eqb c 47) (is_quote c) refl refl g)))

-- the place behind one byte more
place_more : (p q : Position) (x : List ℕ) (c : ℕ) → p ≡ after_bytes q x → after_byte p c ≡ after_bytes q (x ++ (c ∷ []))
place_more p q x c e = ap (λ y. after_byte y c) e ∙ sym (after_bytes-append q x (c ∷ []))

commented_turn : (p : Position) (c : ℕ) (cs : List ℕ) (a : Bool) → eqb c 42 ≡ a → ((m : Mode) → Good m (after_byte p c) cs) → (q : Position) (x : List ℕ) → IsSafe x → p ≡ after_bytes q (47 ∷ (42 ∷ x)) → Marked q (47 ∷ (42 ∷ (x ++ (c ∷ cs)))) (space q ∷ Goes v.Commented p c cs)
unfolding marks_at mode_after
commented_turn p c cs true e g q x s h =
    let k : c ≡ 42 = eqb-true c 42 e in
    rw e (re refl (ap (λ y. 47 ∷ (42 ∷ y)) (append_assoc x (42 ∷ []) cs ∙ ap (λ y. x ++ (y ∷ cs)) (sym k))) refl
    (g v.Starred q x (s.ends 42) (place_more p q (47 ∷ (42 ∷ x)) c h ∙ ap (λ y. after_bytes q (47 ∷ (42 ∷ (x ++ (y ∷ []))))) k)))
commented_turn p c cs false e g q x s h =
    rw e (re refl (ap (λ y. 47 ∷ (42 ∷ y)) (append_assoc x (c ∷ []) cs)) refl
    (g v.Commented q (x ++ (c ∷ [])) (safe_more x c (s.ends c) e) (place_more p q (47 ∷ (42 ∷ x)) c h)))

starred_turn : (p : Position) (c : ℕ) (cs : List ℕ) (a b : Bool) → eqb c 47 ≡ a → eqb c 42 ≡ b → ((m : Mode) → Good m (after_byte p c) cs) → (q : Position) (x : List ℕ) → has_end (x ++ (42 ∷ [])) ≡ false → p ≡ after_bytes q (47 ∷ (42 ∷ (x ++ (42 ∷ [])))) → Marked q (47 ∷ (42 ∷ ((x ++ (42 ∷ [])) ++ (c ∷ cs)))) (space q ∷ Goes v.Starred p c cs)
unfolding marks_at mode_after
starred_turn p c cs true b e f g q x s h =
    let k : c ≡ 47 = eqb-true c 47 e in
    let two : (x ++ (42 ∷ [])) ++ (c ∷ []) ≡ x ++ (42 ∷ (47 ∷ [])) = append_assoc x (42 ∷ []) (c ∷ []) ∙ ap (λ y. x ++ (42 ∷ (y ∷ []))) k in
    rw e (Comment x cs
    (ap (λ y. 47 ∷ (42 ∷ y)) (sym (append_assoc (x ++ (42 ∷ [])) (c ∷ []) cs) ∙ ap (λ y. y ++ cs) two))
    s
    (re (place_more p q (47 ∷ (42 ∷ (x ++ (42 ∷ [])))) c h ∙ ap (λ y. after_bytes q (47 ∷ (42 ∷ y))) two) refl refl (g v.Plain)))
starred_turn p c cs false true e f g q x s h =
    let k : c ≡ 42 = eqb-true c 42 f in
    rw (e, f) (re refl (ap (λ y. 47 ∷ (42 ∷ y)) (append_assoc (x ++ (42 ∷ [])) (42 ∷ []) cs ∙ ap (λ y. (x ++ (42 ∷ [])) ++ (y ∷ cs)) (sym k))) refl
    (g v.Starred q (x ++ (42 ∷ [])) (star_more x 42 s refl) (place_more p q (47 ∷ (42 ∷ (x ++ (42 ∷ [])))) c h ∙ ap (λ y. after_bytes q (47 ∷ (42 ∷ ((x ++ (42 ∷ [])) ++ (y ∷ []))))) k)))
starred_turn p c cs false false e f g q x s h =
    rw (e, f) (re refl (ap (λ y. 47 ∷ (42 ∷ y)) (append_assoc (x ++ (42 ∷ [])) (c ∷ []) cs)) refl
    (g v.Commented q ((x ++ (42 ∷ [])) ++ (c ∷ [])) (safe_more (x ++ (42 ∷ [])) c (star_more x c s e) f) (place_more p q (47 ∷ (42 ∷ (x ++ (42 ∷ [])))) c h)))

-- the marks of a quoted text with one byte more
quoted_more : (p q : Position) (x : List ℕ) (c : ℕ) (ms : List Mark) → p ≡ after_bytes q x → quoted q (x ++ (c ∷ [])) ++ ms ≡ quoted q x ++ (mark c p false ∷ ms)
quoted_more p q x c ms e = ap (λ y. y ++ ms) (quoted-append q x (c ∷ [])) ∙ (append_assoc (quoted q x) (quoted (after_bytes q x) (c ∷ [])) ms ∙ ap (λ y. quoted q x ++ (mark c y false ∷ ms)) (sym e))

quoted_turn : (s : ℕ) (p : Position) (c : ℕ) (cs : List ℕ) (a : Bool) → eqb c s ≡ a → ((m : Mode) → Good m (after_byte p c) cs) → (q : Position) (x : List ℕ) → is_quote s ≡ true → list_any (λ d. eqb d s) x ≡ false → p ≡ after_bytes q (s ∷ x) → Marked q (s ∷ (x ++ (c ∷ cs))) (quoted q (s ∷ x) ++ Goes (v.Quoted s) p c cs)
unfolding marks_at mode_after
quoted_turn s p c cs true e g q x k n h =
    let i : c ≡ s = eqb-true c s e in
    rw e (re refl refl
    (quoted_more p q (s ∷ x) s (scanned v.Plain (after_byte p c) cs) h ∙ ap (λ y. quoted q (s ∷ x) ++ (mark y p false ∷ scanned v.Plain (after_byte p c) cs)) (sym i))
    (Quoted s x cs k
    (ap (λ y. s ∷ y) (ap (λ y. x ++ (y ∷ cs)) i ∙ sym (append_assoc x (s ∷ []) cs)))
    n
    (re (place_more p q (s ∷ x) c h ∙ ap (λ y. after_bytes q (s ∷ (x ++ (y ∷ [])))) i) refl refl (g v.Plain))))
quoted_turn s p c cs false e g q x k n h =
    rw e (re refl (ap (λ y. s ∷ y) (append_assoc x (c ∷ []) cs))
    (quoted_more p q (s ∷ x) c (scanned (v.Quoted s) (after_byte p c) cs) h)
    (g (v.Quoted s) q (x ++ (c ∷ [])) k (any_more s x c n e) (place_more p q (s ∷ x) c h)))

good : (cs : List ℕ) (m : Mode) (p : Position) → Good m p cs
unfolding marks_at mode_after
good [] v.Plain p = Ended
good [] (v.Slashed q) p = λ e. Plain 47 refl refl Ended
good [] v.Commented p = λ q x s e. OpenComment x (ap (λ y. 47 ∷ (42 ∷ y)) (append-nil x)) (fewer_ends x 0 (s.ends 0))
good [] v.Starred p = λ q x s e. OpenComment (x ++ (42 ∷ [])) (ap (λ y. 47 ∷ (42 ∷ y)) (append-nil (x ++ (42 ∷ [])))) s
good [] (v.Quoted s) p = λ q x k n e. re refl (ap (λ y. s ∷ y) (sym (append-nil x))) (sym (append-nil (quoted q (s ∷ x)))) (OpenQuoted s x k refl n)
good (c ∷ cs) v.Plain p = plain_turn p c cs (eqb c 47) (is_quote c) refl refl (λ m. good cs m (after_byte p c))
good (c ∷ cs) (v.Slashed q) p = slashed_turn q p c cs (eqb c 42) refl (λ m. good cs m (after_byte p c))
good (c ∷ cs) v.Commented p = commented_turn p c cs (eqb c 42) refl (λ m. good cs m (after_byte p c))
good (c ∷ cs) v.Starred p = starred_turn p c cs (eqb c 47) (eqb c 42) refl refl (λ m. good cs m (after_byte p c))
good (c ∷ cs) (v.Quoted s) p = quoted_turn s p c cs (eqb c s) refl (λ m. good cs m (after_byte p c))

pub marks_scanned : (p : Position) (cs : List ℕ) → Marked p cs (scanned v.Plain p cs)
marks_scanned p cs = good cs v.Plain p

-- a text has no other marks

-- in a comment, behind a `*` or not
abbrev inside : Bool → Mode
inside true = v.Starred
inside false = v.Commented

abbrev behind_star : Bool → List ℕ → List ℕ
behind_star true x = 42 ∷ x
behind_star false x = x

not_slash : (b : Bool) (c : ℕ) (x : List ℕ) → has_end (behind_star b (c ∷ x)) ≡ false → has_end (c ∷ x) ≡ false
not_slash true c x e = or_right (eqb c 47) (has_end (c ∷ x)) e
not_slash false c x e = e

comment_mode : (b : Bool) (p : Position) (c : ℕ) (x : List ℕ) → has_end (behind_star b (c ∷ x)) ≡ false → mode_after (inside b) p c ≡ inside (eqb c 42)
unfolding mode_after
comment_mode true p c x e =
    let n : eqb c 47 ≡ false = or_left (eqb c 47) (has_end (c ∷ x)) e in
    rw n (same (eqb c 42))
  where
    same : (b : Bool) → (if b then v.Starred else v.Commented) ≡ inside b
    same true = refl
    same false = refl
comment_mode false p c x e = same (eqb c 42)
  where
    same : (b : Bool) → (if b then v.Starred else v.Commented) ≡ inside b
    same true = refl
    same false = refl

no_marks : (b : Bool) (p : Position) (c : ℕ) → marks_at (inside b) p c ≡ []
unfolding marks_at
no_marks true p c = refl
no_marks false p c = refl

next_star : (b : Bool) (c : ℕ) (x : List ℕ) (k : Bool) → eqb c 42 ≡ k → has_end (behind_star b (c ∷ x)) ≡ false → has_end (behind_star k x) ≡ false
next_star b c x true k e = subst (λ y. has_end (y ∷ x) ≡ false) (eqb-true c 42 k) (not_slash b c x e)
next_star b c x false k e = or_right (eqb c 42 && begins_with 47 x) (has_end x) (not_slash b c x e)

in_step : (b : Bool) (p : Position) (c : ℕ) (x cs : List ℕ) → has_end (behind_star b (c ∷ x)) ≡ false → scanned (inside b) p (c ∷ cs) ≡ scanned (inside (eqb c 42)) (after_byte p c) cs
in_step b p c x cs e = ap (λ y. y ++ scanned (mode_after (inside b) p c) (after_byte p c) cs) (no_marks b p c) ∙ ap (λ y. scanned y (after_byte p c) cs) (comment_mode b p c x e)

in_comment : (x : List ℕ) (b : Bool) (p : Position) (rest : List ℕ) → has_end (behind_star b (x ++ (42 ∷ []))) ≡ false → scanned (inside b) p ((x ++ (42 ∷ (47 ∷ []))) ++ rest) ≡ scanned v.Plain (after_bytes p (x ++ (42 ∷ (47 ∷ [])))) rest
unfolding marks_at mode_after
in_comment [] true p rest e = refl
in_comment [] false p rest e = refl
in_comment (c ∷ x) b p rest e =
    in_step b p c (x ++ (42 ∷ [])) ((x ++ (42 ∷ (47 ∷ []))) ++ rest) e
    ∙ in_comment x (eqb c 42) (after_byte p c) rest (next_star b c (x ++ (42 ∷ [])) (eqb c 42) refl e)

open_comment : (x : List ℕ) (b : Bool) (p : Position) → has_end (behind_star b x) ≡ false → scanned (inside b) p x ≡ []
open_comment [] true p e = refl
open_comment [] false p e = refl
open_comment (c ∷ x) b p e = in_step b p c x x e ∙ open_comment x (eqb c 42) (after_byte p c) (next_star b c x (eqb c 42) refl e)

in_quote : (s : ℕ) (x : List ℕ) (p : Position) (rest : List ℕ) → list_any (λ d. eqb d s) x ≡ false → scanned (v.Quoted s) p ((x ++ (s ∷ [])) ++ rest) ≡ quoted p (x ++ (s ∷ [])) ++ scanned v.Plain (after_bytes p (x ++ (s ∷ []))) rest
unfolding marks_at mode_after
in_quote s [] p rest e =
    let k : eqb s s ≡ true = eq-eqb s s refl in
    rw k refl
in_quote s (c ∷ x) p rest e =
    let n : eqb c s ≡ false = or_left (eqb c s) (list_any (λ d. eqb d s) x) e in
    rw n (ap (λ y. mark c p false ∷ y) (in_quote s x (after_byte p c) rest (or_right (eqb c s) (list_any (λ d. eqb d s) x) e)))

open_quote : (s : ℕ) (x : List ℕ) (p : Position) → list_any (λ d. eqb d s) x ≡ false → scanned (v.Quoted s) p x ≡ quoted p x
unfolding marks_at mode_after
open_quote s [] p e = refl
open_quote s (c ∷ x) p e =
    let n : eqb c s ≡ false = or_left (eqb c s) (list_any (λ d. eqb d s) x) e in
    rw n (ap (λ y. mark c p false ∷ y) (open_quote s x (after_byte p c) (or_right (eqb c s) (list_any (λ d. eqb d s) x) e)))

slash_alone : (q p : Position) (cs : List ℕ) → begins_with 42 cs ≡ false → scanned (v.Slashed q) p cs ≡ mark 47 q true ∷ scanned v.Plain p cs
unfolding marks_at mode_after
slash_alone q p [] e = refl
slash_alone q p (c ∷ cs) e = rw e refl

pub plain_alone : (p : Position) (c : ℕ) (cs : List ℕ) (b : Bool) → eqb c 47 ≡ b → is_quote c ≡ false → (eqb c 47 && begins_with 42 cs) ≡ false → scanned v.Plain p (c ∷ cs) ≡ mark c p true ∷ scanned v.Plain (after_byte p c) cs
unfolding marks_at mode_after plain_marks plain_mode
plain_alone p c cs true e f g =
    let n : begins_with 42 cs ≡ false = subst (λ y. (y && begins_with 42 cs) ≡ false) e g in
    rw e (slash_alone p (after_byte p c) cs n ∙ ap (λ y. mark y p true ∷ scanned v.Plain (after_byte p c) cs) (sym (eqb-true c 47 e)))
plain_alone p c cs false e f g = rw (e, f) refl

pub quote_opens : (p : Position) (s : ℕ) (cs : List ℕ) → is_quote s ≡ true → scanned v.Plain p (s ∷ cs) ≡ mark s p false ∷ scanned (v.Quoted s) (after_byte p s) cs
unfolding marks_at mode_after plain_marks plain_mode
quote_opens p s cs k =
    let n : eqb s 47 ≡ false = no_slash s (eqb s 34) refl k in
    rw (n, k) refl
  where
    no_slash : (c : ℕ) (b : Bool) → eqb c 34 ≡ b → is_quote c ≡ true → eqb c 47 ≡ false
    no_slash c true e k = ap (λ y. eqb y 47) (eqb-true c 34 e)
    no_slash c false e k = ap (λ y. eqb y 47) (eqb-true c 39 (subst (λ y. (y || eqb c 39) ≡ true) e k))

comment_opens : (p : Position) (cs : List ℕ) → scanned v.Plain p (47 ∷ (42 ∷ cs)) ≡ space p ∷ scanned v.Commented (after_bytes p (47 ∷ (42 ∷ []))) cs
unfolding marks_at mode_after plain_marks plain_mode
comment_opens p cs = refl

pub only_scanned : {p : Position} {cs : List ℕ} {ms : List Mark} → Marked p cs ms → ms ≡ scanned v.Plain p cs
only_scanned {p} Ended = refl
only_scanned {p} (Plain {bs = cs} c f g m) = ap (λ y. mark c p true ∷ y) (only_scanned m) ∙ sym (plain_alone p c cs (eqb c 47) refl f g)
only_scanned {p} (Comment x rest e h m) =
    ap (λ y. space p ∷ y) (only_scanned m ∙ sym (in_comment x false (after_bytes p (47 ∷ (42 ∷ []))) rest h))
    ∙ (sym (comment_opens p ((x ++ (42 ∷ (47 ∷ []))) ++ rest)) ∙ ap (λ y. scanned v.Plain p y) (sym e))
only_scanned {p} (OpenComment x e h) = ap (λ y. space p ∷ y) (sym (open_comment x false (after_bytes p (47 ∷ (42 ∷ []))) h)) ∙ (sym (comment_opens p x) ∙ ap (λ y. scanned v.Plain p y) (sym e))
only_scanned {p} (Quoted q x rest k e n m) =
    ap (λ y. quoted p (quotation q x) ++ y) (only_scanned m)
    ∙ (ap (λ y. mark q p false ∷ y) (sym (in_quote q x (after_byte p q) rest n))
    ∙ (sym (quote_opens p q ((x ++ (q ∷ [])) ++ rest) k) ∙ ap (λ y. scanned v.Plain p y) (sym e)))
only_scanned {p} (OpenQuoted q x k e n) =
    ap (λ y. quoted p y) e ∙ (ap (λ y. mark q p false ∷ y) (sym (open_quote q x (after_byte p q) n)) ∙ (sym (quote_opens p q x k) ∙ ap (λ y. scanned v.Plain p y) (sym e)))

pub one_marking : (p : Position) (cs : List ℕ) (ms ns : List Mark) → Marked p cs ms → Marked p cs ns → ms ≡ ns
one_marking p cs ms ns h g = only_scanned h ∙ sym (only_scanned g)
