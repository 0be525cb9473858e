-- One turn of the loop over a text, and its end.
-- The answers on the loop cite these.
use Rattle.std.proofs.Common.{◌≡◌, ℕ, suc, ◌+◌, ◌<◌, ◌≤◌, List, [], ◌∷◌, ◌++◌, length, Ok, Err, Result, None, Some, refl, sym, ◌∙◌, ap, subst, append_assoc, append-nil, length-append, arith}
use Rattle.std.specs.Result.{IsErrAnd}
use Rattle.std.specs.Str.{chars, IsUtf8}
use Rattle.std.proofs.lemmas.Str.{chars-nil}
use Rattle.fx_base.specs.Positions.{start, after, after_all}
use Rattle.fx_doc_grammar.specs.Grammar.{Reading as ReadingView, IsRoot}
use Rattle.fx_doc_grammar.specs.Machine.{State, initial, answer}
use Rattle.fx_doc_grammar.specs.Beginnings.{IsStopped}
use Rattle.fx_base.specs.declared.positions.Position.{Position}
use Rattle.fx_doc_grammar.proofs.Bounds.{within_start}
use Rattle.fx_doc_grammar.proofs.Roots.{line_bound, column_bound, answered_root}
use Rattle.fx_doc.specs.Reads.{IsNext, IsRead}
use Rattle.fx_doc_runs.specs.Reached.{Calm, Said, Took, IsReached}
use Rattle.fx_doc_runs.specs.Views.{view, reading}
use Rattle.fx_doc_runs.specs.declared.document.Document.{Document}
use Rattle.fx_doc_runs.specs.declared.document.DocError.{DocError}
use Rattle.fx_doc_runs.specs.declared.modes.Reader.{Reader}
use Rattle.fx_doc_runs.proofs.Calm.{said_more}
use Rattle.fx_doc_runs.proofs.Firsts.{low_chars, utf8_behind}
use Rattle.fx_doc.proofs.Loops.{goes_on, within_on, stops, passed, ends_read, ends_stopped}
use Rattle.fx_doc_grammar.proofs.Turns.{place_more}

pub begins : (text : List ℕ) (r : Reader) → IsUtf8 text → view r ≡ initial → IsReached text text start (view r)
begins text r u e = record {
  said = [];
  split = refl;
  fewer = same (length text);
  utf8 = u;
  reached = record { state = ap Some (sym e); position = refl; within = within_start };
}
  where
    same : (n : ℕ) → 0 + n ≤ n
    same n = omega arith

pub line_fits : (text rest : List ℕ) (p : Position) (s : State) → IsReached text rest p s → length text ≤ 4194304 → p.line + length rest ≤ 4194306
line_fits text rest p s h k =
    let b : (after_all start h.said).line ≤ 1 + length h.said = line_bound start h.said in
    let e : p.line ≡ (after_all start h.said).line = ap (λ (y : Position). y.line) h.reached.position in
    let f : length h.said + length rest ≤ length text = h.fewer in
    omega arith

pub column_fits : (text rest : List ℕ) (p : Position) (s : State) → IsReached text rest p s → length text ≤ 4194304 → p.column + length rest ≤ 4194306
column_fits text rest p s h k =
    let b : (after_all start h.said).column ≤ 1 + length h.said = column_bound start h.said in
    let e : p.column ≡ (after_all start h.said).column = ap (λ (y : Position). y.column) h.reached.position in
    let f : length h.said + length rest ≤ length text = h.fewer in
    omega arith

-- behind one character
pub one_reached : (text rest behind : List ℕ) (p q : Position) (r r' : Reader) (c : ℕ) → IsReached text rest p (view r) → chars rest ≡ c ∷ chars behind → length behind < length rest → IsUtf8 behind → IsNext (view r) p c r' (Ok tt) → q ≡ after p c → IsReached text behind q (view r')
one_reached text rest behind p q r r' c h e k u n w =
    let l : length (h.said ++ (c ∷ [])) ≡ length h.said + 1 = length-append h.said (c ∷ []) in
    let f : length h.said + length rest ≤ length text = h.fewer in
    record {
      said = h.said ++ (c ∷ []);
      split = h.split ∙ (ap (λ y. h.said ++ y) e ∙ sym (append_assoc h.said (c ∷ []) (chars behind)));
      fewer = omega arith;
      utf8 = u;
      reached = record {
        state = goes_on h.said c p r r' h.reached.state h.reached.position n;
        position = w ∙ place_more h.said c p h.reached.position;
        within = within_on h.said c p r r' h.reached.state h.reached.position h.reached.within n;
      };
    }

-- behind a part in ASCII
pub took_reached : (text rest left : List ℕ) (p q : Position) (r r' : Reader) → IsReached text rest p (view r)
    → Took rest p (view r) left q (view r') → IsReached text left q (view r')
took_reached text rest left p q r r' h t =
    let l : length rest ≡ length t.part + length left = ap length t.split ∙ length-append t.part left in
    let m : length (h.said ++ t.part) ≡ length h.said + length t.part = length-append h.said t.part in
    let g : length h.said + length rest ≤ length text = h.fewer in
    record {
      said = h.said ++ t.part;
      split = h.split ∙ (ap (λ y. h.said ++ y) (ap chars t.split ∙ low_chars t.part left t.low) ∙ sym (append_assoc
          h.said t.part (chars left)));
      fewer = omega arith;
      utf8 = utf8_behind t.part left t.low (subst IsUtf8 t.split h.utf8);
      reached = subst (λ (y : Position). Said (h.said ++ t.part) y (view r')) (sym t.place) (said_more h.said p (view
          r) t.part (view r') h.reached t.calm);
    }

-- nothing was taken
nothing : (p : Position) (s s' : State) (part : List ℕ) → length part ≡ 0 → Calm p s part s' → s ≡ s'
nothing p s s' [] e k = k
nothing p s s' (c ∷ part) e k = absurd (let f : suc (length part) ≡ 0 = e in omega arith)

pub still_reached : (text rest left : List ℕ) (p q : Position) (s s' : State) → IsReached text rest p s
    → Took rest p s left q s' → (length left < length rest → ⊥) → IsReached text rest p s'
still_reached text rest left p q s s' h t n =
    let l : length rest ≡ length t.part + length left = ap length t.split ∙ length-append t.part left in
    let none : length t.part ≡ 0 = omega arith in
    subst (λ (y : State). IsReached text rest p y) (nothing p s s' t.part none t.calm) h

-- a step that stops
pub stops_reached : (text rest behind : List ℕ) (p : Position) (r r' : Reader) (c : ℕ) (e : DocError) → IsReached text rest p (view r) → chars rest ≡ c ∷ chars behind → IsNext (view r) p c r' (Err e) → IsRead (chars text) (Err e)
stops_reached text rest behind p r r' c e h k n = stops (chars text) h.said c p r r' e (record { more = chars behind; split = h.split ∙ ap (λ y. h.said ++ y) k }) h.reached.state h.reached.position h.reached.within n

pub memory_read : (all : List ℕ) (r : Result Document DocError) (e m : DocError) → IsRead all (Err m) → e ≡ m → IsErrAnd r (λ y. y ≡ e) → IsRead all r
memory_read all r e m h g i = passed all r e i (subst (λ (z : DocError). IsRead all (Err z)) (sym g) h)

-- the end of the text
whole : (text rest : List ℕ) (p : Position) (s : State) (h : IsReached text rest p s) → rest ≡ [] → h.said ≡ chars text
whole text rest p s h e = sym (h.split ∙ (ap (λ y. h.said ++ chars y) e ∙ (ap (λ y. h.said ++ y) chars-nil ∙ append-nil h.said)))

pub ends_reached : (text rest : List ℕ) (p : Position) (r : Reader) (d : Document) → IsReached text rest p (view r) → rest ≡ [] → answer (view r) ≡ Some (reading d) → IsRead (chars text) (Ok d)
ends_reached text rest p r d h e a = ends_read (chars text) h.said r d (whole text rest p (view r) h e) h.reached.state h.reached.within a

pub stopped_reached : (text rest : List ℕ) (p : Position) (r : Reader) → IsReached text rest p (view r) → rest ≡ [] → answer (view r) ≡ None → IsStopped (chars text) p
stopped_reached text rest p r h e a = ends_stopped (chars text) h.said p r (whole text rest p (view r) h e) h.reached.state h.reached.position h.reached.within a

pub root_reached : (text rest : List ℕ) (p : Position) (r : Reader) → IsReached text rest p (view r) → (n : ReadingView) → answer (view r) ≡ Some n → IsRoot n.root
root_reached text rest p r h n e = answered_root h.said (view r) n h.reached.state e
