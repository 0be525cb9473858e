-- What was taken over ends of lines: the position behind it, and one part behind another.
-- Above the lemmas on runs and attributes; the reader's answers cite these.
use Rattle.std.proofs.Common.{◌≡◌, ℕ, ◌+◌, ◌-◌, ◌≤◌, Bool, true, false, ◌&&◌, List, [], ◌∷◌, ◌++◌, take, drop, Result, Ok, Err, IfOk, Option, Some, None, IfSome, length, refl, sym, ◌∙◌, ap, subst, append_assoc, length-append, arith}
use Rattle.std.specs.Prelude.{IfNone}
use Rattle.std.specs.List.{list_all, prefix_len}
use Rattle.std.proofs.lemmas.List.{take-append-drop}
use Rattle.fx_text.specs.Classes.{is_white}
use Rattle.fx_text.proofs.FrontLemmas.{front-passes}
use Rattle.fx_base.specs.Positions.{after_all}
use Rattle.fx_base.specs.declared.positions.Position.{Position}
use Rattle.fx_doc_grammar.specs.Machine.{State, Spaced, Tight}
use Rattle.fx_doc_grammar.proofs.Marks.{as_state}
use Rattle.fx_doc_grammar.proofs.Roots.{column_bound}
use Rattle.fx_doc_drafts.specs.Ahead.{is_low}
use Rattle.fx_doc_runs.specs.Reached.{Calm, Took, TookFlat, TookWhole, IsPast}
use Rattle.fx_doc_runs.specs.Views.{view, head_view, held_view, inside_view, stack_view, mode_view}
use Rattle.fx_doc_runs.specs.declared.document.DocError.{DocError}
use Rattle.fx_doc_runs.specs.declared.modes.Head.{Head}
use Rattle.fx_doc_runs.specs.declared.modes.Held.{Held}
use Rattle.fx_doc_runs.specs.declared.modes.Mode.{Mode}
use Rattle.fx_doc_runs.specs.declared.modes.Mode.TheVariants as v
use Rattle.fx_doc_runs.specs.declared.modes.Reader.{Reader}
use Rattle.fx_doc_runs.proofs.Carried.{in_mode, spaced_kept}
use Rattle.fx_doc_runs.proofs.Flowing.{calm_then, along_part, flat_all_low, white_all_low, tight_white_calm}
use Rattle.fx_doc_runs.proofs.Shorts.{level_short}

both : (a b : Bool) → (a && b) ≡ true → (a ≡ true) × (b ≡ true)
both true b e = (refl, e)
both false b e = Prim.cc

low_append : (a b : List ℕ) → list_all is_low a ≡ true → list_all is_low b ≡ true → list_all is_low (a ++ b) ≡ true
low_append [] b e f = f
low_append (c ∷ a) b e f = let x = both (is_low c) (list_all is_low a) e in
    ap (λ z. z && list_all is_low (a ++ b)) x.0 ∙ low_append a b x.1 f

after_both : (a b : List ℕ) (p : Position) → after_all p (a ++ b) ≡ after_all (after_all p a) b
after_both [] b p = refl
after_both (c ∷ a) b p = after_both a b _

-- a part of one line
pub flat_took : (text left rest : List ℕ) (p q : Position) (s s' : State) → TookFlat text p s left s' → rest ≡ left
    → q.line ≡ p.line → q.column ≡ p.column + (length text - length left) → Took text p s rest q s'
flat_took text left rest p q s s' t g e f = record {
  part = t.part;
  split = t.split ∙ ap (λ y. t.part ++ y) (sym g);
  low = flat_all_low t.part t.flat;
  place = along_part text t.part left p q t.split t.flat e f;
  calm = t.calm;
}

-- one part behind another
pub took_then : (a b c : List ℕ) (p q r : Position) (s t u : State) → Took a p s b q t → Took b q t c r u
    → Took a p s c r u
took_then a b c p q r s t u x y = record {
  part = x.part ++ y.part;
  split = x.split ∙ (ap (λ z. x.part ++ z) y.split ∙ sym (append_assoc x.part y.part c));
  low = low_append x.part y.part x.low y.low;
  place = y.place ∙ (ap (λ z. after_all z y.part) x.place ∙ sym (after_both x.part y.part p));
  calm = calm_then p s x.part t y.part u x.calm (subst (λ (z : Position). Calm z t y.part u) x.place y.calm);
}

-- what is left is no longer, and its columns stay as small
pub flat_shorter : (text rest : List ℕ) (p : Position) (s s' : State) → TookFlat text p s rest s'
    → length rest ≤ length text
flat_shorter text rest p s s' t =
    let l : length text ≡ length t.part + length rest = ap length t.split ∙ length-append t.part rest in
    omega arith

columns : (text part rest : List ℕ) (p q : Position) → text ≡ part ++ rest → q ≡ after_all p part
    → q.column + length rest ≤ p.column + length text
columns text part rest p q e f =
    let b : (after_all p part).column ≤ p.column + length part = column_bound p part in
    let c : q.column ≡ (after_all p part).column = ap (λ (y : Position). y.column) f in
    let l : length text ≡ length part + length rest = ap length e ∙ length-append part rest in
    omega arith

pub took_column : (text rest : List ℕ) (p q : Position) (s s' : State) → Took text p s rest q s'
    → q.column + length rest ≤ p.column + length text
took_column text rest p q s s' t = columns text t.part rest p q t.split t.place

pub past_column : (text rest : List ℕ) (p q : Position) → IsPast is_white text p rest q
    → q.column + length rest ≤ p.column + length text
past_column text rest p q t = columns text t.part rest p q t.split t.place

-- white --------------------------------------------------------------------------------------------

pub white_front : (text bytes piece : List ℕ) (n : ℕ) → n ≡ prefix_len is_white bytes → bytes ≡ text → piece
    ≡ take n text → list_all is_white piece ≡ true
white_front text bytes piece n e b f = ap (list_all is_white) (f ∙ ap (λ m. take m text)
    (e ∙ ap (prefix_len is_white) b)) ∙ front-passes is_white text

pub white_past : (text bytes piece rest left : List ℕ) (n : ℕ) (p q : Position) → n ≡ prefix_len is_white bytes
    → bytes ≡ text → piece ≡ take n text → rest ≡ drop n text → left ≡ rest → q ≡ after_all p piece
    → IsPast is_white text p left q
white_past text bytes piece rest left n p q e b f g l w = record {
  part = piece;
  split = sym (take-append-drop n text) ∙ (ap (λ y. y ++ drop n text) (sym f) ∙ ap (λ y. piece ++ y) (sym (l ∙ g)));
  each = white_front text bytes piece n e b f;
  place = w;
}

white_filled : (text rest : List ℕ) (p q : Position) → (t : IsPast is_white text p rest q)
    → (length rest ≡ length text → ⊥)
    → t.part ≡ [] → ⊥
white_filled text rest p q t n e = n (sym (ap length (t.split ∙ ap (λ y. y ++ rest) e)))

white_tight : (r : Reader) (a : Head) (text rest : List ℕ) (p q : Position) → r.mode ≡ v.Tight a
    → IsPast is_white text p rest q → (length rest ≡ length text → ⊥)
    → Took text p (view r) rest q (as_state (held_view r.held) (Spaced (head_view a)))
white_tight r a text rest p q e t n =
    subst (λ (y : Mode). Took text p (in_mode r y) rest q (as_state (held_view r.held) (Spaced (head_view a)))) (sym e)
    (record {
      part = t.part;
      split = t.split;
      low = white_all_low t.part t.each;
      place = t.place;
      calm = tight_white_calm (held_view r.held) (head_view a) t.part p (white_filled text rest p q t n)
          (level_short r) t.each;
    })

white_spaced : (r : Reader) (a : Head) (text rest : List ℕ) (p q : Position) → r.mode ≡ v.Spaced a
    → IsPast is_white text p rest q → Took text p (view r) rest q (view r)
white_spaced r a text rest p q e t = record {
  part = t.part;
  split = t.split;
  low = white_all_low t.part t.each;
  place = t.place;
  calm = spaced_kept r a t.part p e t.each;
}

-- the reader ---------------------------------------------------------------------------------------

pub inside_taken : (r : Reader) (h : Held) (text rest : List ℕ) (p q : Position) → r.mode ≡ v.Inside
    → Took text p (inside_view r.held) rest q (inside_view h)
    → Took text p (view r) rest q (as_state (held_view h) (mode_view (stack_view h.stack.items) r.mode))
inside_taken r h text rest p q e t = subst (λ (y : Mode). Took text p (in_mode r y) rest q
    (as_state (held_view h) (mode_view (stack_view h.stack.items) y))) (sym e) t

-- white in a tag, and then more
pub spaced_then : {X : Type 0} (o : Result X DocError) (now : X → List ℕ) (place : X → Position) (r r' : Reader)
    (a : Head) (text left : List ℕ) (p q : Position) → r.mode ≡ v.Spaced a → IsPast is_white text p left q
    → IfOk o (λ x. Took left q (view r) (now x) (place x) (view r'))
    → IfOk o (λ x. Took text p (view r) (now x) (place x) (view r'))
spaced_then (Ok x) now place r r' a text left p q e k t =
    took_then text left (now x) p q (place x) (view r) (view r) (view r') (white_spaced r a text left p q e k) t
spaced_then (Err y) now place r r' a text left p q e k t = tt

-- a text, and what begins behind it
pub inside_then : (r r1 r2 : Reader) (text left more rest : List ℕ) (p q z : Position)
    → Took text p (view r) left q (view r1) → TookFlat left q (view r1) more (view r2) → rest ≡ more → z.line ≡ q.line
    → z.column ≡ q.column + (length left - length more) → Took text p (view r) rest z (view r2)
inside_then r r1 r2 text left more rest p q z t u g l w =
    took_then text left rest p q z (view r) (view r1) (view r2) t
    (flat_took left more rest q z (view r1) (view r2) u g l w)

-- an attribute that stands in white
pub attribute_taken : (r : Reader) (a d b : Head) (text left rest : List ℕ) (p q : Position) → r.mode ≡ v.Spaced a
    → TookWhole text p a left d → v.Spaced d ≡ v.Spaced b → rest ≡ left → q.line ≡ p.line
    → q.column ≡ p.column + (length text - length left) → Took text p (view r) rest q (in_mode r (v.Tight b))
attribute_taken r a d b text left rest p q e t f k l w =
    let same : d ≡ b = Prim.cc in
    subst (λ (y : Head). Took text p (view r) rest q (in_mode r (v.Tight y))) same
    (subst (λ (y : Mode). Took text p (in_mode r y) rest q (in_mode r (v.Tight d))) (sym e)
    (flat_took text left rest p q (as_state (held_view r.held) (Spaced (head_view a)))
    (as_state (held_view r.held) (Tight (head_view d))) (t (held_view r.held) (level_short r)) k l w))

-- no attribute whose value is plain, and its name
pub key_behind : (r r' : Reader) (a d : Head) (text left rest : List ℕ) (p q : Position) → r.mode ≡ v.Spaced a → d ≡ a
    → TookFlat text p (in_mode r (v.Spaced d)) left (view r') → rest ≡ left → q.line ≡ p.line → q.column
    ≡ p.column + (length text - length left) → Took text p (view r) rest q (view r')
key_behind r r' a d text left rest p q e f t k l w =
    subst (λ (y : Mode). Took text p (in_mode r y) rest q (view r')) (sym e)
    (flat_took text left rest p q (in_mode r (v.Spaced a)) (view r')
    (subst (λ (y : Head). TookFlat text p (in_mode r (v.Spaced y)) left (view r')) f t) k l w)

-- an attribute behind another
pub further_taken : (r : Reader) (a d : Head) (text left more rest : List ℕ) (p q z : Position) → r.mode ≡ v.Tight a
    → IsPast is_white text p left q → (length left ≡ length text → ⊥) → TookWhole left q a more d → rest ≡ more
    → z.line ≡ q.line → z.column ≡ q.column + (length left - length more)
    → Took text p (view r) rest z (in_mode r (v.Tight d))
further_taken r a d text left more rest p q z e k n t g l w =
    took_then text left rest p q z (view r) (as_state (held_view r.held) (Spaced (head_view a))) (in_mode r (v.Tight d))
    (white_tight r a text left p q e k n)
    (flat_took left more rest q z (as_state (held_view r.held) (Spaced (head_view a)))
    (as_state (held_view r.held) (Tight (head_view d))) (t (held_view r.held) (level_short r)) g l w)

-- white behind an attribute, and what begins there
pub behind_white : (r r' : Reader) (m : Mode) (a d b : Head) (text left more rest : List ℕ) (p q z : Position) → r.mode
    ≡ v.Tight a → IsPast is_white text p left q → (length left ≡ length text → ⊥) → d ≡ a → v.Tight d ≡ v.Tight b
    → m ≡ v.Spaced b → TookFlat left q (in_mode r m) more (view r') → rest ≡ more → z.line ≡ q.line
    → z.column ≡ q.column + (length left - length more) → Took text p (view r) rest z (view r')
behind_white r r' m a d b text left more rest p q z e k n i f g t j l w =
    let same : b ≡ a = Prim.cc in
    took_then text left rest p q z (view r) (in_mode r (v.Spaced a)) (view r') (white_tight r a text left p q e k n)
    (flat_took left more rest q z (in_mode r (v.Spaced a)) (view r')
    (subst (λ (y : Mode). TookFlat left q (in_mode r y) more (view r')) (g ∙ ap (λ (y : Head). v.Spaced y) same) t)
    j l w)

-- what is left behind an attribute that is taken whole is no longer
pub whole_shorter : (r : Reader) (a d : Head) (text left : List ℕ) (p : Position) → TookWhole text p a left d
    → length left ≤ length text
whole_shorter r a d text left p t = flat_shorter text left p (as_state (held_view r.held) (Spaced (head_view a)))
    (as_state (held_view r.held) (Tight (head_view d))) (t (held_view r.held) (level_short r))

-- what an answer says of a value that is known, or of none
pub some_of : {X : Type 0} (o : Option X) (x : X) (P : X → Type 0) → o ≡ Some x → IfSome o P → P x
some_of o x P e h = subst (λ y. IfSome y P) e h

pub none_of : {X : Type 0} (o : Option X) (P : Type 0) → ((x : X) → o ≡ Some x → ⊥) → IfNone o P → P
none_of None P n h = h
none_of (Some x) P n h = absurd (n x refl)
