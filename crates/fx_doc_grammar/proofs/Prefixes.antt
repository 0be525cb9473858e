-- The longest prefix that some document begins with is what the machine takes.
-- Above soundness, completeness and completion; code cites it.
use Rattle.std.proofs.Common.{◌≡◌, ℕ, ◌≤◌, List, [], ◌∷◌, ◌++◌, Option, Some, None, length, refl, sym, ◌∙◌, ap, subst, append_assoc, append-nil, length-append, arith, suc, ◌⊎◌, inl, inr}
use Rattle.fx_base.specs.Positions.{start, after, after_all}
use Rattle.fx_doc_grammar.specs.Grammar.{Items, root_of, imports_of, Reading, Spells, Begins, IsMarkup}
use Rattle.fx_doc_grammar.specs.Machine.{Held, Inside, State, initial, step, next, run, answer}
use Rattle.fx_doc_grammar.specs.Beginnings.{Path, Top, Part, PInside, part_text, zip_text}
use Rattle.fx_doc_grammar.proofs.Runs.{run-append, run-none}
use Rattle.fx_doc_grammar.proofs.States.{here, mode_of, state_of, zip_place}
use Rattle.fx_doc_grammar.proofs.Steps.{some_same, none_some}
use Rattle.fx_doc_grammar.proofs.Marks.{as_state}
use Rattle.fx_doc_grammar.proofs.Advance.{run_reached, sound}
use Rattle.fx_doc_grammar.proofs.Written.{complete, answer_top}
use Rattle.fx_doc_grammar.proofs.Completion.{finish, closes_all}
use Rattle.fx_base.specs.declared.positions.Position.{Position}

inside_part : (q : Position) (a : Part) → mode_of q a ≡ Inside → a ≡ PInside
inside_part q PInside e = refl
inside_part q a e = cc

-- at Inside the place is behind the last item
inside_place : (text : List ℕ) (p : Path) (i : Items) (a : Part) → text ≡ zip_text p i a → a ≡ PInside → after_all start text ≡ here p i
inside_place text p i a w e = ap (after_all start) w ∙ (zip_place p i a ∙ ap (λ (y : Part). after_all (here p i) (part_text y)) e)

closed_begins : (text : List ℕ) (h : Held) → run start (Some initial) text ≡ Some (as_state h Inside) → Begins text
closed_begins text h e =
    let r = run_reached text (as_state h Inside) e in
    let a : r.part ≡ PInside = inside_part (here r.path r.items) r.part (ap (λ (y : State). y.mode) r.is) in
    let c = closes_all r.path r.items r.path_ok r.items_ok in
    let here_is : after_all start text ≡ here r.path r.items = inside_place text r.path r.items r.part r.written a in
    let at_is : as_state h Inside ≡ state_of r.path r.items PInside = sym r.is ∙ ap (λ (y : Part). state_of r.path r.items y) a in
    let goes : run start (Some initial) (text ++ c.more) ≡ Some (state_of Top c.items PInside) =
    run-append start (Some initial) text c.more
    ∙ (ap (λ (y : Option State). run (after_all start text) y c.more) (e ∙ ap (λ (y : State). Some y) at_is)
    ∙ (ap (λ (y : Position). run y (Some (state_of r.path r.items PInside)) c.more) here_is ∙ c.goes.is)) in
    let n : Reading = record { imports = imports_of c.items; root = root_of start c.items } in
    (c.more, n, sound (text ++ c.more) (state_of Top c.items PInside) n goes (answer_top c.items c.one))

longer_begins : (text more : List ℕ) → Begins (text ++ more) → Begins text
longer_begins text more (rest, n, s) = (more ++ rest, n, subst (λ y. Spells y n) (append_assoc text more rest) s)

-- what the machine has taken some document begins with
pub viable : (text : List ℕ) (s : State) → run start (Some initial) text ≡ Some s → Begins text
viable text s h =
    let r = run_reached text s h in
    let f = finish r.path r.items r.part r.part_ok (after_all start text) in
    let goes : run start (Some initial) (text ++ f.more) ≡ Some (as_state f.held Inside) =
    run-append start (Some initial) text f.more
    ∙ (ap (λ (y : Option State). run (after_all start text) y f.more) (h ∙ ap (λ (y : State). Some y) (sym r.is)) ∙ f.goes.is) in
    longer_begins text f.more (closed_begins (text ++ f.more) f.held goes)

some_run : (p : Position) (o : Option State) (more : List ℕ) (s : State) → run p o more ≡ Some s → (t : State) × (o ≡ Some t)
some_run p None more s h = absurd (none_some (sym (run-none p more) ∙ h))
some_run p (Some t) more s h = (t, refl)

pub begins_runs : (text : List ℕ) → Begins text → (s : State) × (run start (Some initial) text ≡ Some s)
begins_runs text (more, n, w) =
    let c = complete (text ++ more) n w in
    some_run (after_all start text) (run start (Some initial) text) more c.0 (sym (run-append start (Some initial) text more) ∙ c.1)

split_longer : (longer more front : List ℕ) (c : ℕ) (rest : List ℕ) → longer ++ more ≡ front ++ (c ∷ rest) → (length longer ≤ length front) ⊎ ((e : List ℕ) × (longer ≡ front ++ (c ∷ e)))
split_longer [] more front c rest h = inl (omega arith)
split_longer (x ∷ longer) more [] c rest h =
    let g : x ∷ (longer ++ more) ≡ c ∷ rest = h in
    let e : x ≡ c = cc in
    inr (longer, ap (λ y. y ∷ longer) e)
split_longer (x ∷ longer) more (y ∷ front) c rest h =
    let g : x ∷ (longer ++ more) ≡ y ∷ (front ++ (c ∷ rest)) = h in
    let e : x ≡ y = cc in
    let t : longer ++ more ≡ front ++ (c ∷ rest) = cc in
    grown x y longer front c e (split_longer longer more front c rest t)
  where
    grown : (x y : ℕ) (longer front : List ℕ) (c : ℕ) → x ≡ y → (length longer ≤ length front) ⊎ ((e : List ℕ) × (longer ≡ front ++ (c ∷ e))) → (length (x ∷ longer) ≤ length (y ∷ front)) ⊎ ((e : List ℕ) × (x ∷ longer ≡ (y ∷ front) ++ (c ∷ e)))
    grown x y longer front c e (inl h) = inl (let g : suc (length longer) ≤ suc (length front) = omega arith in g)
    grown x y longer front c e (inr (z, h)) = inr (z, let g : x ∷ longer ≡ y ∷ (front ++ (c ∷ z)) = cc in g)

-- behind a refused character no document goes on
refused : {X : Type 0} (front : List ℕ) (c : ℕ) (rest : List ℕ) (s t : State) → run start (Some initial) front ≡ Some s → step (after_all start front) s c ≡ None → run start (Some initial) (front ++ (c ∷ rest)) ≡ Some t → X
refused front c rest s t h e g =
    absurd (none_some (sym (run-none (after (after_all start front) c) rest)
    ∙ (ap (λ (y : Option State). run (after (after_all start front) c) y rest) (sym e)
    ∙ (ap (λ (y : Option State). run (after (after_all start front) c) (next (after_all start front) y c) rest) (sym h)
    ∙ (sym (run-append start (Some initial) front (c ∷ rest)) ∙ g)))))

pub stop_here : (text front : List ℕ) (c : ℕ) (rest : List ℕ) (p : Position) (s : State) → text ≡ front ++ (c ∷ rest) → p ≡ after_all start front → run start (Some initial) front ≡ Some s → step p s c ≡ None → IsMarkup text p
stop_here text front c rest p s w q h e =
    let e' : step (after_all start front) s c ≡ None = ap (λ (y : Position). step y s c) (sym q) ∙ e in
    record {
      nothing = λ n x. let k = complete text n x in refused front c rest s k.0 h e' (ap (run start (Some initial)) (sym w) ∙ k.1);
      front = front;
      rest = c ∷ rest;
      split = w;
      begins = viable front s h;
      longest = λ longer more u b. no_longer longer front c rest s h e' b (split_longer longer more front c rest (sym u ∙ w));
      position = q;
    }
  where
    no_longer : (longer front : List ℕ) (c : ℕ) (rest : List ℕ) (s : State) → run start (Some initial) front ≡ Some s → step (after_all start front) s c ≡ None → Begins longer → (length longer ≤ length front) ⊎ ((e : List ℕ) × (longer ≡ front ++ (c ∷ e))) → length longer ≤ length front
    no_longer longer front c rest s h e b (inl k) = k
    no_longer longer front c rest s h e b (inr (z, k)) = let r = begins_runs longer b in refused front c z s r.0 h e (ap (run start (Some initial)) (sym k) ∙ r.1)

pub stop_end : (text : List ℕ) (p : Position) (s : State) → p ≡ after_all start text → run start (Some initial) text ≡ Some s → answer s ≡ None → IsMarkup text p
stop_end text p s q h e = record {
  nothing = λ n x. let k = complete text n x in absurd (none_some (sym e ∙ (ap answer (some_same (sym h ∙ k.1)) ∙ k.2)));
  front = text;
  rest = [];
  split = sym (append-nil text);
  begins = viable text s h;
  longest = λ longer more u b. shorter longer more text u;
  position = q;
}
  where
    shorter : (longer more text : List ℕ) → text ≡ longer ++ more → length longer ≤ length text
    shorter longer more text u = omega (arith, length-append longer more, ap length u)

pub stop_here_front : (text front : List ℕ) (c : ℕ) (rest : List ℕ) (p : Position) (s : State) (w : text ≡ front ++ (c ∷ rest)) (q : p ≡ after_all start front) (h : run start (Some initial) front ≡ Some s) (e : step p s c ≡ None) → front ≡ (stop_here text front c rest p s w q h e).front
unfolding stop_here
stop_here_front text front c rest p s w q h e = refl

pub stop_end_front : (text : List ℕ) (p : Position) (s : State) (q : p ≡ after_all start text) (h : run start (Some initial) text ≡ Some s) (e : answer s ≡ None) → text ≡ (stop_end text p s q h e).front
unfolding stop_end
stop_end_front text p s q h e = refl
