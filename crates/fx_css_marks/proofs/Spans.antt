-- A scan passes a bare run, a comment and a quoted text as wholes.
-- Below the answers on what is said, and on walks.
use Rattle.std.proofs.Common.{◌≡◌, ℕ, suc, Bool, true, false, List, [], ◌∷◌, ◌++◌, take, drop, refl, sym, ◌∙◌, ap}
use lib.Dec.{eqb}
use Rattle.std.specs.List.{position_or_len}
use Rattle.fx_base.specs.declared.positions.Position.{Position}
use Rattle.fx_css_marks.specs.declared.marks.Mark.{Mark}
use Rattle.fx_text.specs.Classes.{is_quote}
use Rattle.fx_base.specs.Positions.{after_byte, after_bytes}
use Rattle.fx_css_marks.specs.Bytes.{begins_with}
use Rattle.fx_css_marks.specs.Marks.{mark, space, quoted}
use Rattle.fx_css_marks.specs.Scanning.{marks_at, mode_after, plain_marks, plain_mode, scanned}
use Rattle.fx_css_marks.specs.Scanning as v
use Rattle.fx_css_marks.specs.Lengths.{is_stop, quoted_length, comment_length, comment_rest}
use Rattle.fx_css_marks.proofs.Comments.{or_left, or_right}
use Rattle.fx_css_marks.proofs.Finds.{run_none, run_more}
use Rattle.fx_css_marks.proofs.Scans.{plain_alone}

-- the marks of bytes that mean themselves
abbrev pub bare : Position → List ℕ → List Mark
bare p [] = []
bare p (b ∷ bs) = mark b p true ∷ bare (after_byte p b) bs

run_by : (p : Position) (c : ℕ) (cs : List ℕ) (b : Bool) → is_stop c ≡ b
    → ((q : Position) → scanned v.Plain q cs ≡ bare q (take (position_or_len is_stop cs) cs) ++ scanned v.Plain (after_bytes q (take (position_or_len is_stop cs) cs)) (drop (position_or_len is_stop cs) cs))
    → scanned v.Plain p (c ∷ cs) ≡ bare p (take (position_or_len is_stop (c ∷ cs)) (c ∷ cs)) ++ scanned v.Plain (after_bytes p (take (position_or_len is_stop (c ∷ cs)) (c ∷ cs))) (drop (position_or_len is_stop (c ∷ cs)) (c ∷ cs))
run_by p c cs true e h =
    let none : position_or_len is_stop (c ∷ cs) ≡ 0 = run_none is_stop c cs e in
    ap (λ r. bare p (take r (c ∷ cs)) ++ scanned v.Plain (after_bytes p (take r (c ∷ cs))) (drop r (c ∷ cs))) (sym none)
run_by p c cs false e h =
    let q : is_quote c ≡ false = or_left (is_quote c) (eqb c 47) e in
    let s : eqb c 47 ≡ false = or_right (is_quote c) (eqb c 47) e in
    let more : position_or_len is_stop (c ∷ cs) ≡ suc (position_or_len is_stop cs) = run_more is_stop c cs e in
    plain_alone p c cs (eqb c 47) refl q (rw s refl)
    ∙ (ap (λ y. mark c p true ∷ y) (h (after_byte p c))
    ∙ ap (λ r. bare p (take r (c ∷ cs)) ++ scanned v.Plain (after_bytes p (take r (c ∷ cs))) (drop r (c ∷ cs))) (sym more))

pub run_span : (cs : List ℕ) (p : Position) → scanned v.Plain p cs ≡ bare p (take (position_or_len is_stop cs) cs) ++ scanned v.Plain (after_bytes p (take (position_or_len is_stop cs) cs)) (drop (position_or_len is_stop cs) cs)
run_span [] p = refl
run_span (c ∷ cs) p = run_by p c cs (is_stop c) refl (run_span cs)

quoted_by : (q : ℕ) (p : Position) (c : ℕ) (cs : List ℕ) (b : Bool) → eqb c q ≡ b
    → ((r : Position) → scanned (v.Quoted q) r cs ≡ quoted r (take (quoted_length q cs) cs) ++ scanned v.Plain (after_bytes r (take (quoted_length q cs) cs)) (drop (quoted_length q cs) cs))
    → scanned (v.Quoted q) p (c ∷ cs) ≡ quoted p (take (quoted_length q (c ∷ cs)) (c ∷ cs)) ++ scanned v.Plain (after_bytes p (take (quoted_length q (c ∷ cs)) (c ∷ cs))) (drop (quoted_length q (c ∷ cs)) (c ∷ cs))
unfolding marks_at mode_after
quoted_by q p c cs true e h =
    let one : quoted_length q (c ∷ cs) ≡ 1 = rw e refl in
    let is : scanned (v.Quoted q) p (c ∷ cs) ≡ mark c p false ∷ scanned v.Plain (after_byte p c) cs = rw e refl in
    is ∙ ap (λ r. quoted p (take r (c ∷ cs)) ++ scanned v.Plain (after_bytes p (take r (c ∷ cs))) (drop r (c ∷ cs))) (sym one)
quoted_by q p c cs false e h =
    let more : quoted_length q (c ∷ cs) ≡ suc (quoted_length q cs) = rw e refl in
    let is : scanned (v.Quoted q) p (c ∷ cs) ≡ mark c p false ∷ scanned (v.Quoted q) (after_byte p c) cs = rw e refl in
    is ∙ (ap (λ y. mark c p false ∷ y) (h (after_byte p c))
    ∙ ap (λ r. quoted p (take r (c ∷ cs)) ++ scanned v.Plain (after_bytes p (take r (c ∷ cs))) (drop r (c ∷ cs))) (sym more))

pub quoted_span : (q : ℕ) (cs : List ℕ) (p : Position) → scanned (v.Quoted q) p cs ≡ quoted p (take (quoted_length q cs) cs) ++ scanned v.Plain (after_bytes p (take (quoted_length q cs) cs)) (drop (quoted_length q cs) cs)
quoted_span q [] p = refl
quoted_span q (c ∷ cs) p = quoted_by q p c cs (eqb c q) refl (quoted_span q cs)

-- behind a `*` that no `/` follows
star_alone : (p : Position) (cs : List ℕ) → begins_with 47 cs ≡ false → scanned v.Starred p cs ≡ scanned v.Commented p cs
unfolding marks_at mode_after
star_alone p [] e = refl
star_alone p (c ∷ cs) e = rw e refl

star_ends : (p : Position) (c : ℕ) (cs : List ℕ) → begins_with 47 cs ≡ true → scanned v.Starred (after_byte p c) cs ≡ scanned v.Plain (after_bytes p (take 2 (c ∷ cs))) (drop 2 (c ∷ cs))
unfolding marks_at mode_after
star_ends p c [] e = Prim.cc
star_ends p c (d ∷ cs) e = rw e refl

comment_by : (p : Position) (c : ℕ) (cs : List ℕ) (a b : Bool) → eqb c 42 ≡ a → begins_with 47 cs ≡ b
    → ((q : Position) → scanned v.Commented q cs ≡ scanned v.Plain (after_bytes q (take (comment_length cs) cs)) (drop (comment_length cs) cs))
    → scanned v.Commented p (c ∷ cs) ≡ scanned v.Plain (after_bytes p (take (comment_length (c ∷ cs)) (c ∷ cs))) (drop (comment_length (c ∷ cs)) (c ∷ cs))
unfolding marks_at mode_after
comment_by p c cs true true e f h =
    let two : comment_length (c ∷ cs) ≡ 2 = rw (e, f) refl in
    let is : scanned v.Commented p (c ∷ cs) ≡ scanned v.Starred (after_byte p c) cs = rw e refl in
    is ∙ (star_ends p c cs f ∙ ap (λ r. scanned v.Plain (after_bytes p (take r (c ∷ cs))) (drop r (c ∷ cs))) (sym two))
comment_by p c cs true false e f h =
    let more : comment_length (c ∷ cs) ≡ suc (comment_length cs) = rw (e, f) refl in
    let is : scanned v.Commented p (c ∷ cs) ≡ scanned v.Starred (after_byte p c) cs = rw e refl in
    is ∙ (star_alone (after_byte p c) cs f ∙ (h (after_byte p c) ∙ ap (λ r. scanned v.Plain (after_bytes p (take r (c ∷ cs))) (drop r (c ∷ cs))) (sym more)))
comment_by p c cs false b e f h =
    let more : comment_length (c ∷ cs) ≡ suc (comment_length cs) = rw e refl in
    let is : scanned v.Commented p (c ∷ cs) ≡ scanned v.Commented (after_byte p c) cs = rw e refl in
    is ∙ (h (after_byte p c) ∙ ap (λ r. scanned v.Plain (after_bytes p (take r (c ∷ cs))) (drop r (c ∷ cs))) (sym more))

comment_span : (cs : List ℕ) (p : Position) → scanned v.Commented p cs ≡ scanned v.Plain (after_bytes p (take (comment_length cs) cs)) (drop (comment_length cs) cs)
comment_span [] p = refl
comment_span (c ∷ cs) p = comment_by p c cs (eqb c 42) (begins_with 47 cs) refl refl (comment_span cs)

-- a comment from its `/` on
pub whole_comment : (p : Position) (cs : List ℕ) → begins_with 42 cs ≡ true
    → scanned v.Plain p (47 ∷ cs) ≡ space p ∷ scanned v.Plain (after_bytes (after_byte p 47) (take (comment_rest cs) cs)) (drop (comment_rest cs) cs)
unfolding marks_at mode_after plain_marks plain_mode
whole_comment p [] e = Prim.cc
whole_comment p (c ∷ cs) e =
    let opens : scanned v.Plain p (47 ∷ (c ∷ cs)) ≡ space p ∷ scanned v.Commented (after_byte (after_byte p 47) c) cs = rw e refl in
    opens ∙ ap (λ y. space p ∷ y) (comment_span cs (after_byte (after_byte p 47) c))
