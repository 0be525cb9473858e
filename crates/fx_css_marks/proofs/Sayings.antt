-- What the parts of a text say: bare runs themselves, comments one space, and quoted texts nothing.
-- Below the answers on what is said.
use Rattle.std.proofs.Common.{◌≡◌, ℕ, Bool, true, false, ◌&&◌, ◌||◌, List, [], ◌∷◌, ◌++◌, length, take, drop, replicate, refl, sym, ◌∙◌, ap, subst, append-nil, append_assoc, eqb-true}
use Rattle.std.proofs.lemmas.List.{map-append, length-map}
use Rattle.std.specs.Bool.{if◌then◌else◌}
use Rattle.std.specs.List.{list_any}
use lib.Dec.{eqb}
use Rattle.std.specs.List.{position_or_len}
use Rattle.fx_base.specs.declared.positions.Position.{Position}
use Rattle.fx_css_marks.specs.declared.marks.Mark.{Mark}
use Rattle.fx_css_marks.specs.declared.saying.Said.{Said}
use Rattle.fx_text.specs.Classes.{is_quote}
use Rattle.fx_base.specs.Positions.{start, after_byte, after_bytes}
use Rattle.fx_css_marks.specs.Bytes.{begins_with, has_beginning}
use Rattle.fx_css_marks.specs.Marks.{mark, space, quoted, Marked, sign, bytes, signs}
use Rattle.fx_css_marks.specs.Scanning.{scanned}
use Rattle.fx_css_marks.specs.Scanning as v
use Rattle.fx_css_marks.specs.Lengths.{is_stop, quoted_length, comment_rest, is_bare}
use Rattle.fx_css_marks.specs.Saying.{Says, Took}
use Rattle.fx_css_marks.proofs.Comments.{or_left, or_right}
use Rattle.fx_css_marks.proofs.Scans.{plain_alone, quote_opens, marks_scanned, only_scanned}
use Rattle.fx_css_marks.proofs.Spans.{bare, run_span, quoted_span, whole_comment}

-- bytes and signs of marks

bare_bytes : (p : Position) (x : List ℕ) → bytes (bare p x) ≡ x
bare_bytes p [] = refl
bare_bytes p (c ∷ x) = ap (λ y. c ∷ y) (bare_bytes (after_byte p c) x)

bare_signs : (p : Position) (x : List ℕ) → signs (bare p x) ≡ x
bare_signs p [] = refl
bare_signs p (c ∷ x) = ap (λ y. c ∷ y) (bare_signs (after_byte p c) x)

quoted_bytes : (p : Position) (x : List ℕ) → bytes (quoted p x) ≡ x
quoted_bytes p [] = refl
quoted_bytes p (c ∷ x) = ap (λ y. c ∷ y) (quoted_bytes (after_byte p c) x)

quoted_signs : (p : Position) (x : List ℕ) → signs (quoted p x) ≡ replicate (length x) 255
quoted_signs p [] = refl
quoted_signs p (c ∷ x) = ap (λ y. 255 ∷ y) (quoted_signs (after_byte p c) x)

-- parts

says_none : (text : List ℕ) → Says text text [] []
says_none text = record { behind = λ p. p; front = λ p. []; scan = λ p. refl; bytes = λ p. refl; signs = λ p. refl }

pub says_more : (text left far b s c t : List ℕ) → Says text left b s → Says left far c t → Says text far (b ++ c) (s ++ t)
says_more text left far b s c t x y = record {
  behind = λ p. y.behind (x.behind p);
  front = λ p. x.front p ++ y.front (x.behind p);
  scan = λ p. x.scan p ∙ (ap (λ z. x.front p ++ z) (y.scan (x.behind p)) ∙ sym (append_assoc (x.front p) (y.front (x.behind p)) (scanned v.Plain (y.behind (x.behind p)) far)));
  bytes = λ p. map-append (λ m. m.byte) (x.front p) (y.front (x.behind p)) ∙ (ap (λ z. z ++ bytes (y.front (x.behind p))) (x.bytes p) ∙ ap (λ z. b ++ z) (y.bytes (x.behind p)));
  signs = λ p. map-append sign (x.front p) (y.front (x.behind p)) ∙ (ap (λ z. z ++ signs (y.front (x.behind p))) (x.signs p) ∙ ap (λ z. s ++ z) (y.signs (x.behind p)));
}

pub says_empty : (said : Said) (text : List ℕ) → said.bytes.items ≡ [] → said.signs.items ≡ [] → Says text text said.bytes.items said.signs.items
says_empty said text e f = subst (λ y. Says text text y said.signs.items) (sym e) (subst (λ y. Says text text [] y) (sym f) (says_none text))

run_says : (text : List ℕ) → Says text (drop (position_or_len is_stop text) text) (take (position_or_len is_stop text) text) (take (position_or_len is_stop text) text)
run_says text =
    let run : List ℕ = take (position_or_len is_stop text) text in
    record {
      behind = λ p. after_bytes p run;
      front = λ p. bare p run;
      scan = λ p. run_span text p;
      bytes = λ p. bare_bytes p run;
      signs = λ p. bare_signs p run;
    }

comment_says : (text : List ℕ) → begins_with 42 text ≡ true → Says (47 ∷ text) (drop (comment_rest text) text) (32 ∷ []) (32 ∷ [])
comment_says text e = record {
  behind = λ p. after_bytes (after_byte p 47) (take (comment_rest text) text);
  front = λ p. space p ∷ [];
  scan = λ p. whole_comment p text e;
  bytes = λ p. refl;
  signs = λ p. refl;
}

alone_says : (c : ℕ) (text : List ℕ) → is_quote c ≡ false → (eqb c 47 && begins_with 42 text) ≡ false → Says (c ∷ text) text (c ∷ []) (c ∷ [])
alone_says c text q e = record {
  behind = λ p. after_byte p c;
  front = λ p. mark c p true ∷ [];
  scan = λ p. plain_alone p c text (eqb c 47) refl q e;
  bytes = λ p. refl;
  signs = λ p. refl;
}

quoted_says : (q : ℕ) (text : List ℕ) → is_quote q ≡ true
    → Says (q ∷ text) (drop (quoted_length q text) text) ((q ∷ []) ++ take (quoted_length q text) text) ((255 ∷ []) ++ replicate (length (take (quoted_length q text) text)) 255)
quoted_says q text e =
    let inside : List ℕ = take (quoted_length q text) text in
    record {
      behind = λ p. after_bytes (after_byte p q) inside;
      front = λ p. mark q p false ∷ quoted (after_byte p q) inside;
      scan = λ p. quote_opens p q text e ∙ ap (λ y. mark q p false ∷ y) (quoted_span q text (after_byte p q));
      bytes = λ p. ap (λ y. q ∷ y) (quoted_bytes (after_byte p q) inside);
      signs = λ p. ap (λ y. 255 ∷ y) (quoted_signs (after_byte p q) inside);
    }

-- steps of what is said

took : (old new : Said) (text left b s : List ℕ) → Says text left b s → new.bytes.items ≡ old.bytes.items ++ b → new.signs.items ≡ old.signs.items ++ s → Took old new text left
took old new text left b s says e f = record {
  says = λ whole before.
      subst (λ y. Says whole left y new.signs.items) (sym e)
      (subst (λ y. Says whole left (old.bytes.items ++ b) y) (sym f) (says_more whole text left old.bytes.items old.signs.items b s before says));
}

pub took_run : (old new : Said) (text run left : List ℕ) (n : ℕ) → n ≡ position_or_len is_stop text → run ≡ take n text → left ≡ drop n text
    → new.bytes.items ≡ old.bytes.items ++ run → new.signs.items ≡ old.signs.items ++ run → Took old new text left
took_run old new text run left n count front back e f =
    let r : run ≡ take (position_or_len is_stop text) text = front ∙ ap (λ k. take k text) count in
    let l : left ≡ drop (position_or_len is_stop text) text = back ∙ ap (λ k. drop k text) count in
    took old new text left run run
    (subst (λ y. Says text left y y) (sym r) (subst (λ y. Says text y (take (position_or_len is_stop text) text) (take (position_or_len is_stop text) text)) (sym l) (run_says text)))
    e f

pub took_alone : (old new : Said) (c : ℕ) (text : List ℕ) → is_quote c ≡ false → (eqb c 47 && begins_with 42 text) ≡ false
    → new.bytes.items ≡ old.bytes.items ++ (c ∷ []) → new.signs.items ≡ old.signs.items ++ (c ∷ []) → Took old new (c ∷ text) text
took_alone old new c text q n e f = took old new (c ∷ text) text (c ∷ []) (c ∷ []) (alone_says c text q n) e f

both : (a b : Bool) → (a && b) ≡ true → (a ≡ true) × (b ≡ true)
both true b e = (refl, e)
both false b e = Prim.cc

pub took_comment : (old new : Said) (c : ℕ) (text left : List ℕ) (n : ℕ) → (eqb c 47 && begins_with 42 text) ≡ true → n ≡ comment_rest text → left ≡ drop n text
    → new.bytes.items ≡ old.bytes.items ++ (32 ∷ []) → new.signs.items ≡ old.signs.items ++ (32 ∷ []) → Took old new (c ∷ text) left
took_comment old new c text left n begins count back e f =
    let parts = both (eqb c 47) (begins_with 42 text) begins in
    let slash : c ≡ 47 = eqb-true c 47 parts.0 in
    let l : left ≡ drop (comment_rest text) text = back ∙ ap (λ k. drop k text) count in
    took old new (c ∷ text) left (32 ∷ []) (32 ∷ [])
    (subst (λ y. Says (y ∷ text) left (32 ∷ []) (32 ∷ [])) (sym slash) (subst (λ y. Says (47 ∷ text) y (32 ∷ []) (32 ∷ [])) (sym l) (comment_says text parts.1)))
    e f

pub took_quoted : (old middle new : Said) (q : ℕ) (text inside left : List ℕ) (n : ℕ) → is_quote q ≡ true → n ≡ quoted_length q text → inside ≡ take n text → left ≡ drop n text
    → middle.bytes.items ≡ old.bytes.items ++ (q ∷ []) → middle.signs.items ≡ old.signs.items ++ (255 ∷ [])
    → new.bytes.items ≡ middle.bytes.items ++ inside → new.signs.items ≡ middle.signs.items ++ replicate (length inside) 255 → Took old new (q ∷ text) left
took_quoted old middle new q text inside left n is count front back e f g h =
    let i : inside ≡ take (quoted_length q text) text = front ∙ ap (λ k. take k text) count in
    let l : left ≡ drop (quoted_length q text) text = back ∙ ap (λ k. drop k text) count in
    took old new (q ∷ text) left ((q ∷ []) ++ inside) ((255 ∷ []) ++ replicate (length inside) 255)
    (subst (λ y. Says (q ∷ text) left ((q ∷ []) ++ y) ((255 ∷ []) ++ replicate (length y) 255)) (sym i)
    (subst (λ y. Says (q ∷ text) y ((q ∷ []) ++ take (quoted_length q text) text) ((255 ∷ []) ++ replicate (length (take (quoted_length q text) text)) 255)) (sym l) (quoted_says q text is)))
    (g ∙ (ap (λ y. y ++ inside) e ∙ append_assoc old.bytes.items (q ∷ []) inside))
    (h ∙ (ap (λ y. y ++ replicate (length inside) 255) f ∙ append_assoc old.signs.items (255 ∷ []) (replicate (length inside) 255)))

-- the whole text

said_all : (p : Position) (text b s : List ℕ) (ms : List Mark) → Says text [] b s → Marked p text ms → (b ≡ bytes ms) × (s ≡ signs ms)
said_all p text b s ms says marked =
    let e : ms ≡ says.front p = only_scanned marked ∙ (says.scan p ∙ append-nil (says.front p)) in
    (sym (ap bytes e ∙ says.bytes p), sym (ap signs e ∙ says.signs p))

pub said_whole : (text rest : List ℕ) (said : Said) → Says text rest said.bytes.items said.signs.items → rest ≡ [] → (p : Position) (ms : List Mark) → Marked p text ms
    → (said.bytes.items ≡ bytes ms) × (said.signs.items ≡ signs ms)
said_whole text rest said says none p ms marked = said_all p text said.bytes.items said.signs.items ms (subst (λ y. Says text y said.bytes.items said.signs.items) none says) marked

pub said_same : (text rest : List ℕ) (said : Said) → Says text rest said.bytes.items said.signs.items → rest ≡ [] → length said.bytes.items ≡ length said.signs.items
said_same text rest said says none =
    let p : Position = start in
    let parts = said_whole text rest said says none p (scanned v.Plain p text) (marks_scanned p text) in
    ap length parts.0 ∙ (length-map (scanned v.Plain p text) (λ m. m.byte) ∙ (sym (length-map (scanned v.Plain p text) sign) ∙ sym (ap length parts.1)))

-- a bare text

bare_by : (c : ℕ) (text : List ℕ) (b : Bool) → (is_quote c || (eqb c 47 && begins_with 42 text)) ≡ b → (if b then false else is_bare text) ≡ true → (is_bare text ≡ true → Says text [] text text) → Says (c ∷ text) [] (c ∷ text) (c ∷ text)
bare_by c text true f g rest = Prim.cc
bare_by c text false f g rest =
    says_more (c ∷ text) text [] (c ∷ []) (c ∷ []) text text
    (alone_says c text (or_left (is_quote c) (eqb c 47 && begins_with 42 text) f) (or_right (is_quote c) (eqb c 47 && begins_with 42 text) f))
    (rest g)

bare_says : (text : List ℕ) → is_bare text ≡ true → Says text [] text text
bare_says [] e = says_none []
bare_says (c ∷ text) e = bare_by c text (is_quote c || (eqb c 47 && begins_with 42 text)) refl e (λ g. bare_says text g)

pub bare_itself : (text : List ℕ) → is_bare text ≡ true → (p : Position) (ms : List Mark) → Marked p text ms → (bytes ms ≡ text) × (signs ms ≡ text)
bare_itself text e p ms marked = let parts = said_all p text text text ms (bare_says text e) marked in (sym parts.0, sym parts.1)

pub nothing_bare : (text : List ℕ) → list_any is_quote text ≡ false → has_beginning text ≡ false → is_bare text ≡ true
nothing_bare [] q e = refl
nothing_bare (c ∷ text) q e =
    let a : is_quote c ≡ false = or_left (is_quote c) (list_any is_quote text) q in
    let b : (eqb c 47 && begins_with 42 text) ≡ false = or_left (eqb c 47 && begins_with 42 text) (has_beginning text) e in
    rw (a, b) (nothing_bare text (or_right (is_quote c) (list_any is_quote text) q) (or_right (eqb c 47 && begins_with 42 text) (has_beginning text) e))
