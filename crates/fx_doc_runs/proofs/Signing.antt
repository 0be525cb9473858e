-- What begins with a sign in the text of an element: references, tags, and both ends of a comment.
-- Above the lemmas on runs; the answers on what is taken there cite these.
use Rattle.std.proofs.Common.{◌≡◌, ℕ, Bool, true, false, ◌&&◌, List, [], ◌∷◌, ◌++◌, Option, Some, None, IfSome, refl, sym, ◌∙◌, ap, subst, append_assoc}
use lib.Dec.{ltb}
use Rattle.std.specs.List.{list_all}
use Rattle.fx_base.specs.Positions.{after, after_all}
use Rattle.fx_base.specs.declared.positions.Position.{Position}
use Rattle.fx_doc_grammar.specs.Characters.{class_of}
use Rattle.fx_doc_grammar.specs.Grammar.{Head as HeadView, Level as LevelView, one_child, closed}
use Rattle.fx_doc_grammar.specs.declared.Entity.{Entity}
use Rattle.fx_doc_grammar.specs.declared.Entity.TheVariants.{Begun}
use Rattle.fx_doc_grammar.specs.declared.Turn.TheVariants.{Further, Whole}
use Rattle.fx_doc_grammar.specs.Machine.{State, Stack, Bottom, Opened, Held as HeldView, Inside, Referring, Opening, Banged, BangDashed, Commented, Dashed, DashDashed, Spaced, Ending, at, step, entity_step, in_referring, some_if, is_open, begin_end, close, close_in, with_sign, is_deep, is_long, level_long, stack_depth, may_begin}
use Rattle.fx_doc_grammar.proofs.Marks.{as_state}
use Rattle.fx_doc_drafts.specs.Ahead.{is_flat, is_calm, is_gap, is_named, begins_name}
use Rattle.fx_doc_runs.specs.Reached.{Calm, TookFlat, IsRun}
use Rattle.fx_doc_runs.specs.Keys.{IsNameAhead}
use Rattle.fx_doc_runs.specs.References.{Letters, Refers}
use Rattle.fx_doc_runs.specs.Views.{bare_head, head_view, held_view, moved, open_name, stack_view, mode_view, view}
use Rattle.fx_doc_runs.specs.declared.modes.Head.{Head}
use Rattle.fx_doc_runs.specs.declared.modes.Held.{Held}
use Rattle.fx_doc_runs.specs.declared.modes.Mode.{Mode}
use Rattle.fx_doc_runs.specs.declared.modes.Mode.TheVariants as v
use Rattle.fx_doc_runs.specs.declared.modes.Reader.{Reader}
use Rattle.fx_doc_runs.proofs.Calm.{one_calm, if_fresh}
use Rattle.fx_doc_runs.proofs.Carried.{in_mode}
use Rattle.fx_doc_runs.proofs.Flowing.{calm_then, flat_then, flat_append, comment_took}
use Rattle.fx_doc_runs.proofs.Shorts.{never_long, level_short}
use Rattle.fx_doc_runs.proofs.Tagging.{tag_took, ending_calm, shallow}
use Rattle.fx_doc_runs.proofs.Whole.{all_flat, named_flat}

both : (a b : Bool) → (a && b) ≡ true → (a ≡ true) × (b ≡ true)
both true b e = (refl, e)
both false b e = Prim.cc

-- both ends of a comment ---------------------------------------------------------------------------

less_on : (h : HeldView) (p : Position) → step p (as_state h Inside) 60 ≡ Some (as_state h (Opening p))
unfolding class_of
less_on h p = refl

less_then : (h : HeldView) (s : State) (text behind left : List ℕ) (p : Position) → level_long h ≡ false → text
    ≡ 60 ∷ behind → TookFlat behind (after p 60) (as_state h (Opening p)) left s
    → TookFlat text p (as_state h Inside) left s
less_then h s text behind left p l e t = record {
  part = 60 ∷ t.part;
  split = e ∙ ap (λ y. 60 ∷ y) t.split;
  flat = t.flat;
  calm = one_calm p (as_state h Inside) (as_state h (Opening p)) 60 t.part s (less_on h p) refl l t.calm;
}

bang_on : (h : HeldView) (q p : Position) → step p (as_state h (Opening q)) 33 ≡ Some (as_state h Banged)
unfolding class_of
bang_on h q p = refl

first_on : (h : HeldView) (p : Position) → step p (as_state h Banged) 45 ≡ Some (as_state h BangDashed)
unfolding class_of
first_on h p = refl

second_on : (h : HeldView) (p : Position) → step p (as_state h BangDashed) 45 ≡ Some (as_state h Commented)
unfolding class_of
second_on h p = refl

third_on : (h : HeldView) (p : Position) → step p (as_state h Commented) 45 ≡ Some (as_state h Dashed)
unfolding class_of
third_on h p = refl

fourth_on : (h : HeldView) (p : Position) → step p (as_state h Dashed) 45 ≡ Some (as_state h DashDashed)
unfolding class_of
fourth_on h p = refl

greater_on : (h : HeldView) (p : Position) → step p (as_state h DashDashed) 62 ≡ Some (as_state h Inside)
unfolding class_of
greater_on h p = refl

comment_begins : (h : HeldView) (q : Position) (text left : List ℕ) (p : Position) → level_long h ≡ false → text
    ≡ 33 ∷ (45 ∷ (45 ∷ left)) → TookFlat text p (as_state h (Opening q)) left (as_state h Commented)
comment_begins h q text left p l e = record {
  part = 33 ∷ (45 ∷ (45 ∷ []));
  split = e;
  flat = refl;
  calm = one_calm p (as_state h (Opening q)) (as_state h Banged) 33 (45 ∷ (45 ∷ [])) (as_state h Commented)
      (bang_on h q p) refl l
      (one_calm (after p 33) (as_state h Banged) (as_state h BangDashed) 45 (45 ∷ []) (as_state h Commented)
      (first_on h (after p 33)) refl l
      (one_calm (after (after p 33) 45) (as_state h BangDashed) (as_state h Commented) 45 [] (as_state h Commented)
      (second_on h (after (after p 33) 45)) refl l refl));
}

comment_ends : (h : HeldView) (text left : List ℕ) (p : Position) → level_long h ≡ false → text
    ≡ 45 ∷ (45 ∷ (62 ∷ left)) → TookFlat text p (as_state h Commented) left (as_state h Inside)
comment_ends h text left p l e = record {
  part = 45 ∷ (45 ∷ (62 ∷ []));
  split = e;
  flat = refl;
  calm = one_calm p (as_state h Commented) (as_state h Dashed) 45 (45 ∷ (62 ∷ [])) (as_state h Inside)
      (third_on h p) refl l
      (one_calm (after p 45) (as_state h Dashed) (as_state h DashDashed) 45 (62 ∷ []) (as_state h Inside)
      (fourth_on h (after p 45)) refl l
      (one_calm (after (after p 45) 45) (as_state h DashDashed) (as_state h Inside) 62 [] (as_state h Inside)
      (greater_on h (after (after p 45) 45)) refl l refl));
}

pub begun_taken : (r : Reader) (text behind left : List ℕ) (p : Position) → r.mode ≡ v.Inside → text ≡ 60 ∷ behind
    → behind ≡ 33 ∷ (45 ∷ (45 ∷ left)) → TookFlat text p (view r) left (in_mode r v.Commented)
begun_taken r text behind left p m e f =
    subst (λ (y : Mode). TookFlat text p (in_mode r y) left (in_mode r v.Commented)) (sym m)
    (less_then (held_view r.held) (as_state (held_view r.held) Commented) text behind left p (level_short r) e
    (comment_begins (held_view r.held) p behind left (after p 60) (level_short r) f))

pub ended_taken : (r : Reader) (text part rest left : List ℕ) (p : Position) → r.mode ≡ v.Commented
    → IsRun (is_calm 45 45) text part rest → rest ≡ 45 ∷ (45 ∷ (62 ∷ left))
    → TookFlat text p (view r) left (in_mode r v.Inside)
ended_taken r text part rest left p m k e =
    let h = held_view r.held in
    subst (λ (y : Mode). TookFlat text p (in_mode r y) left (in_mode r v.Inside)) (sym m)
    (flat_then text rest left p (as_state h Commented) (as_state h Commented) (as_state h Inside)
    (comment_took h text part rest p (level_short r) k) (λ q. comment_ends h rest left q (level_short r) e))

-- the name of an element ---------------------------------------------------------------------------

pub name_taken : (r : Reader) (h : Head) (text behind name more gap left key : List ℕ) (p : Position) → r.mode
    ≡ v.Inside → text ≡ 60 ∷ behind → ltb (stack_depth (stack_view r.held.stack.items)) 128 ≡ true
    → may_begin (held_view r.held) ≡ true
    → IsNameAhead behind name more → IsRun is_gap more gap left → (gap ≡ [] → ⊥) → key ≡ name → head_view h
    ≡ bare_head p key → TookFlat text p (view r) left (in_mode r (v.Spaced h))
name_taken r h text behind name more gap left key p m e d b a g n k w =
    let s : bare_head p name ≡ head_view h = sym (w ∙ ap (bare_head p) k) in
    subst (λ (y : Mode). TookFlat text p (in_mode r y) left (in_mode r (v.Spaced h))) (sym m)
    (subst (λ (y : HeadView). TookFlat text p (as_state (held_view r.held) Inside) left
    (as_state (held_view r.held) (Spaced y))) s
    (less_then (held_view r.held) (as_state (held_view r.held) (Spaced (bare_head p name))) text behind left p
    (level_short r) e
    (tag_took (held_view r.held) p behind name more gap left (after p 60) (level_short r)
    (shallow (stack_depth (stack_view r.held.stack.items)) d) b a g n)))

-- an end tag ---------------------------------------------------------------------------------------

slash_on : (h : HeldView) (q p : Position) → step p (as_state h (Opening q)) 47 ≡ begin_end h.stack h
unfolding class_of
slash_on h q p = refl

close_on : (h : HeldView) (p : Position) → step p (as_state h (Ending [])) 62 ≡ close h
unfolding class_of
close_on h p = refl

end_begins : (s : Stack) (h : HeldView) (c : ℕ) (cs : List ℕ) → open_name s ≡ c ∷ cs → begin_end s h
    ≡ Some (as_state h (Ending (open_name s)))
end_begins Bottom h c cs e = absurd (let f : [] ≡ c ∷ cs = e in cc)
end_begins (Opened s l head) h c cs e = refl

end_on : (h : HeldView) (name : List ℕ) (q p : Position) → begins_name name ≡ true → open_name h.stack ≡ name
    → step p (as_state h (Opening q)) 47 ≡ Some (as_state h (Ending name))
end_on h [] q p b e = absurd (let f : false ≡ true = b in cc)
end_on h (c ∷ cs) q p b e = slash_on h q p ∙ (end_begins h.stack h c cs e ∙ ap (λ y. Some (as_state h (Ending y))) e)

closed_in : (imports : List (List ℕ)) (s : Stack) (l : LevelView) (m : State) → close_in imports s l ≡ Some m
    → is_deep m ≡ false
closed_in imports Bottom l m e = absurd (let f : None ≡ Some m = e in cc)
closed_in imports (Opened s before head) l m e =
    let x : HeldView = record { imports = imports; stack = s; level = one_child before head (closed l) } in
    let f : Some (as_state x Inside) ≡ Some m = e in
    let g : as_state x Inside ≡ m = cc in
    sym (ap is_deep g)

end_took : (h : HeldView) (m : State) (text behind name more left : List ℕ) (p : Position) → level_long h ≡ false
    → is_long m ≡ false → text ≡ 60 ∷ (47 ∷ behind) → IsNameAhead behind name more → more ≡ 62 ∷ left
    → open_name h.stack ≡ name → close h ≡ Some m
    → TookFlat text p (as_state h Inside) left m
end_took h m text behind name more left p l k e a w o x =
    let q = after (after p 60) 47 in
    let t = after_all q name in
    record {
      part = 60 ∷ (47 ∷ (name ++ (62 ∷ [])));
      split = e ∙ ap (λ y. 60 ∷ (47 ∷ y)) (a.split ∙ (ap (λ y. name ++ y) w ∙ sym (append_assoc name (62 ∷ []) left)));
      flat = all_flat is_named named_flat name (62 ∷ []) a.named refl;
      calm = one_calm p (as_state h Inside) (as_state h (Opening p)) 60 (47 ∷ (name ++ (62 ∷ []))) m
          (less_on h p) refl l
          (one_calm (after p 60) (as_state h (Opening p)) (as_state h (Ending name)) 47 (name ++ (62 ∷ [])) m
          (end_on h name p (after p 60) a.begins o) refl l
          (calm_then q (as_state h (Ending name)) name (as_state h (Ending [])) (62 ∷ []) m (ending_calm h name q l)
          (one_calm t (as_state h (Ending [])) m 62 [] m (close_on h t ∙ x)
          (closed_in h.imports h.stack h.level m x) k refl)));
    }

pub end_taken : (r : Reader) (g : Held) (m : Mode) (text behind name more left : List ℕ) (p : Position) → r.mode
    ≡ v.Inside → text ≡ 60 ∷ (47 ∷ behind) → IsNameAhead behind name more → more ≡ 62 ∷ left
    → open_name (stack_view r.held.stack.items) ≡ name
    → moved g (Some m) ≡ close (held_view r.held) → TookFlat text p (view r) left
    (as_state (held_view g) (mode_view (stack_view g.stack.items) m))
end_taken r g m text behind name more left p i e a w o x =
    let s : State = as_state (held_view g) (mode_view (stack_view g.stack.items) m) in
    subst (λ (y : Mode). TookFlat text p (in_mode r y) left s) (sym i)
    (end_took (held_view r.held) s text behind name more left p (level_short r)
    (never_long (record { held = g; mode = m })) e a w o (sym x))

-- references ---------------------------------------------------------------------------------------

pub refers_ends : (e : Entity) (text rest : List ℕ) (x c : ℕ) → text ≡ x ∷ rest → is_flat x ≡ true → entity_step e x
    ≡ Some (Whole c) → Refers e text c rest
refers_ends e text rest x c s f w = record {
  letters = [];
  last = x;
  end = e;
  split = s;
  along = refl;
  flat =
      f;
  whole = w;
}

pub refers_on : (e m : Entity) (text rest left : List ℕ) (x c : ℕ) → text ≡ x ∷ rest → is_flat x ≡ true
    → entity_step e x ≡ Some (Further m) → Refers m rest c left → Refers e text c left
refers_on e m text rest left x c s f w r = record {
  letters = x ∷ r.letters;
  last = r.last;
  end = r.end;
  split = s ∙ ap (λ y. x ∷ y) r.split;
  along = (m, w, f, r.along);
  flat = r.flat;
  whole = r.whole;
}

pub letters_flat : (e : Entity) (xs : List ℕ) (f : Entity) → Letters e xs f → list_all is_flat xs ≡ true
letters_flat e [] f x = refl
letters_flat e (c ∷ xs) f x = ap (λ b. b && list_all is_flat xs) x.2 ∙ letters_flat x.0 xs f x.3

letters_calm : (h : HeldView) (q : Position) → level_long h ≡ false
    → (e : Entity) (xs : List ℕ) (f : Entity) (p : Position) → Letters e xs f
    → Calm p (as_state h (Referring q e)) xs (as_state h (Referring q f))
letters_calm h q l e [] f p x = ap (λ (y : Entity). as_state h (Referring q y)) x
letters_calm h q l e (c ∷ xs) f p x =
    one_calm p (as_state h (Referring q e)) (as_state h (Referring q x.0)) c xs (as_state h (Referring q f))
    (ap (in_referring q h) x.1) refl l (letters_calm h q l x.0 xs f (after p c) x.3)

ampersand_on : (h : HeldView) (p : Position) → step p (as_state h Inside) 38
    ≡ some_if (is_open h.stack) (at h (Referring p Begun))
unfolding class_of
ampersand_on h p = refl

reference_took : (h g : HeldView) (text behind left : List ℕ) (c : ℕ) (p : Position) → level_long h ≡ false
    → level_long g ≡ false → is_open h.stack ≡ true → text ≡ 38 ∷ behind → Refers Begun behind c left → g
    ≡ with_sign p c h
    → TookFlat text p (as_state h Inside) left (as_state g Inside)
reference_took h g text behind left c p l m o e a w =
    let t = after_all (after p 38) a.letters in
    record {
      part = 38 ∷ (a.letters ++ (a.last ∷ []));
      split = e ∙ ap (λ y. 38 ∷ y) (a.split ∙ sym (append_assoc a.letters (a.last ∷ []) left));
      flat = flat_append a.letters (a.last ∷ []) (letters_flat Begun a.letters a.end a.along)
          (ap (λ b. b && true) a.flat);
      calm = one_calm p (as_state h Inside) (as_state h (Referring p Begun)) 38 (a.letters ++ (a.last ∷ []))
          (as_state g Inside) (ampersand_on h p ∙ if_fresh (is_open h.stack) (at h (Referring p Begun)) o) refl l
          (calm_then (after p 38) (as_state h (Referring p Begun)) a.letters (as_state h (Referring p a.end))
          (a.last ∷ []) (as_state g Inside) (letters_calm h p l Begun a.letters a.end (after p 38) a.along)
          (one_calm t (as_state h (Referring p a.end)) (as_state g Inside) a.last [] (as_state g Inside)
          (ap (in_referring p h) a.whole ∙ ap (λ (y : HeldView). at y Inside) (sym w)) refl m refl));
    }

pub reference_taken : (r r' : Reader) (text behind left : List ℕ) (c : ℕ) (p : Position) → r.mode ≡ v.Inside → r'.mode
    ≡ v.Inside → is_open (stack_view r.held.stack.items) ≡ true → text ≡ 38 ∷ behind → Refers Begun behind c left
    → held_view r'.held ≡ with_sign p c (held_view r.held)
    → TookFlat text p (view r) left (view r')
reference_taken r r' text behind left c p i j o e a w =
    subst (λ (y : Mode). TookFlat text p (in_mode r y) left (in_mode r' r'.mode)) (sym i)
    (subst (λ (y : Mode). TookFlat text p (as_state (held_view r.held) Inside) left (in_mode r' y)) (sym j)
    (reference_took (held_view r.held) (held_view r'.held) text behind left c p (level_short r)
    (level_short r') o e a w))

pub refers_next : {X : Type 0} (o : Option X) (found : X → ℕ) (left : X → List ℕ) (e m : Entity) (text rest : List ℕ)
    (x : ℕ) → text ≡ x ∷ rest → is_flat x ≡ true → entity_step e x ≡ Some (Further m)
    → IfSome o (λ y. Refers m rest (found y) (left y)) → IfSome o (λ y. Refers e text (found y) (left y))
refers_next (Some y) found left e m text rest x s f w r = refers_on e m text rest (left y) x (found y) s f w r
refers_next None found left e m text rest x s f w r = tt
