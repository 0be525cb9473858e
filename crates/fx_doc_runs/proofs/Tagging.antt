-- Tags: the name behind a `<`, and the end of a tag, as the reader takes them.
-- Above the lemmas on runs; the reader's answers cite these.
use Rattle.std.proofs.Common.{◌≡◌, ℕ, ◌+◌, ◌≤◌, Bool, true, false, ◌&&◌, ◌==◌, List, [], ◌∷◌, ◌++◌, Some, length, refl, sym, ◌∙◌, ap, subst, append_assoc, append-nil, length-append, arith}
use lib.Dec.{leb, ltb}
use Rattle.std.specs.List.{list_all}
use Rattle.fx_base.specs.Positions.{after}
use Rattle.fx_base.specs.declared.positions.Position.{Position}
use Rattle.fx_doc_grammar.specs.Characters.{class_of, in_name, starts_name}
use Rattle.fx_doc_grammar.specs.Grammar.{Head as HeadView}
use Rattle.fx_doc_grammar.specs.Machine.{State, Held as HeldView, Inside, Opening, Naming, Spaced, Tight, Slashed, Ending, at, step, level_long, stack_depth, may_begin, with_leaf, open_element, in_opening, in_naming, in_ending}
use Rattle.fx_doc_grammar.specs.declared.Class.{Class}
use Rattle.fx_doc_grammar.specs.declared.Class.TheVariants.{Letter, Digit, Dash}
use Rattle.fx_doc_grammar.proofs.Marks.{as_state}
use Rattle.fx_doc_drafts.specs.Ahead.{is_gap, is_named, begins_name}
use Rattle.fx_doc_runs.specs.Reached.{Calm, TookFlat, IsRun}
use Rattle.fx_doc_runs.specs.Keys.{IsNameAhead}
use Rattle.fx_doc_runs.specs.Views.{bare_head, head_view, held_view, inside_view, mode_view, stack_view, view}
use Rattle.fx_doc_runs.specs.declared.modes.Head.{Head}
use Rattle.fx_doc_runs.specs.declared.modes.Held.{Held}
use Rattle.fx_doc_runs.specs.declared.modes.Mode.{Mode}
use Rattle.fx_doc_runs.specs.declared.modes.Mode.TheVariants as v
use Rattle.fx_doc_runs.specs.declared.modes.Reader.{Reader}
use Rattle.fx_doc_runs.proofs.Calm.{one_calm, short_or, if_fresh}
use Rattle.fx_doc_runs.proofs.Flowing.{gap_class, gap_all_flat, gap_all_white, spaced_calm}
use Rattle.fx_doc_runs.proofs.Whole.{all_flat, named_flat}
use Rattle.fx_doc_runs.proofs.Shorts.{not_past, level_short}
use Rattle.fx_doc_runs.proofs.Carried.{in_mode, turned}

both : (a b : Bool) → (a && b) ≡ true → (a ≡ true) × (b ≡ true)
both true b e = (refl, e)
both false b e = Prim.cc

-- the end of a tag ---------------------------------------------------------------------------------

slash_on : (h : HeldView) (head : HeadView) (p : Position) → step p (as_state h (Tight head)) 47
    ≡ Some (as_state h (Slashed head))
unfolding class_of
slash_on h head p = refl

leaf_on : (h : HeldView) (head : HeadView) (p : Position) → step p (as_state h (Slashed head)) 62
    ≡ Some (as_state (with_leaf h head) Inside)
unfolding class_of
leaf_on h head p = refl

open_on : (h : HeldView) (head : HeadView) (p : Position) → step p (as_state h (Tight head)) 62
    ≡ Some (as_state (open_element h head) Inside)
unfolding class_of
open_on h head p = refl

pub leaf_took : (h g : HeldView) (head : HeadView) (text one rest : List ℕ) (p : Position) → level_long h ≡ false
    → level_long g ≡ false → g ≡ with_leaf h head → text ≡ 47 ∷ one → one ≡ 62 ∷ rest
    → TookFlat text p (as_state h (Tight head)) rest (as_state g Inside)
leaf_took h g head text one rest p l m e s t = record {
  part = 47 ∷ (62 ∷ []);
  split = s ∙ ap (λ y. 47 ∷ y) t;
  flat = refl;
  calm = subst (λ (y : HeldView). Calm p (as_state h (Tight head)) (47 ∷ (62 ∷ [])) (as_state y Inside)) (sym e)
      (one_calm p (as_state h (Tight head)) (as_state h (Slashed head)) 47 (62 ∷ [])
      (as_state (with_leaf h head) Inside) (slash_on h head p) refl l
      (one_calm (after p 47) (as_state h (Slashed head)) (as_state (with_leaf h head) Inside) 62 []
      (as_state (with_leaf h head) Inside) (leaf_on h head (after p 47)) refl
      (subst (λ (y : HeldView). level_long y ≡ false) e m) refl));
}

pub open_took : (h g : HeldView) (head : HeadView) (text rest : List ℕ) (p : Position) → level_long g ≡ false → g
    ≡ open_element h head → text ≡ 62 ∷ rest
    → TookFlat text p (as_state h (Tight head)) rest (as_state g Inside)
open_took h g head text rest p m e s = record {
  part = 62 ∷ [];
  split = s;
  flat = refl;
  calm = subst (λ (y : HeldView). Calm p (as_state h (Tight head)) (62 ∷ []) (as_state y Inside)) (sym e)
      (one_calm p (as_state h (Tight head)) (as_state (open_element h head) Inside) 62 []
      (as_state (open_element h head) Inside) (open_on h head p) refl
      (subst (λ (y : HeldView). level_long y ≡ false) e m) refl);
}

-- the name of an element ---------------------------------------------------------------------------

naming_on : (h : HeldView) (q : Position) (n : List ℕ) (c : ℕ) (k : Class) → in_name k ≡ true → in_naming q n h c k
    ≡ at h (Naming q (n ++ (c ∷ [])))
naming_on h q n c Letter e = refl
naming_on h q n c Digit e = refl
naming_on h q n c Dash e = refl
naming_on h q n c k e = absurd (let f : false ≡ true = e in cc)

begins_on : (h : HeldView) (q : Position) (c : ℕ) (k : Class) → starts_name k ≡ true → may_begin h ≡ true
    → in_opening q h c k ≡ Some (as_state h (Naming q (c ∷ [])))
begins_on h q c Letter e m = if_fresh (may_begin h) (at h (Naming q (c ∷ []))) m
begins_on h q c k e m = absurd (let f : false ≡ true = e in cc)

naming_calm : (h : HeldView) (q : Position) → level_long h ≡ false → leb 128 (stack_depth h.stack) ≡ false
    → (cs k name rest : List ℕ) (s : State) (p : Position) → name ≡ k ++ cs → list_all is_named cs ≡ true
    → length name ≤ 4096
    → ((t : Position) → Calm t (as_state h (Naming q name)) rest s) → Calm p (as_state h (Naming q k)) (cs ++ rest) s
naming_calm h q l d [] k name rest s p e n f w = subst (λ (y : List ℕ). Calm p (as_state h (Naming q y)) rest s)
    (e ∙ append-nil k) (w p)
naming_calm h q l d (c ∷ cs) k name rest s p e n f w =
    let a = both (is_named c) (list_all is_named cs) n in
    let g : name ≡ (k ++ (c ∷ [])) ++ cs = e ∙ sym (append_assoc k (c ∷ []) cs) in
    let long : length name ≡ length (k ++ (c ∷ [])) + length cs = ap length g ∙ length-append (k ++ (c ∷ [])) cs in
    let room : length (k ++ (c ∷ [])) ≤ 4096 = omega arith in
    one_calm p (as_state h (Naming q k)) (as_state h (Naming q (k ++ (c ∷ [])))) c (cs ++ rest) s
    (naming_on h q k c (class_of c) (both (ltb c 128) (in_name (class_of c)) a.0).1) d
    (short_or (length (k ++ (c ∷ []))) (level_long h) room l)
    (naming_calm h q l d cs (k ++ (c ∷ [])) name rest s (after p c) g a.1 f w)

opened_calm : (h : HeldView) (q : Position) (name rest : List ℕ) (s : State) (p : Position) → level_long h ≡ false
    → leb 128 (stack_depth h.stack) ≡ false → may_begin h ≡ true → begins_name name ≡ true → list_all is_named name
    ≡ true → length name ≤ 4096
    → ((t : Position) → Calm t (as_state h (Naming q name)) rest s) → Calm p (as_state h (Opening q)) (name ++ rest) s
opened_calm h q [] rest s p l d m b n f w = absurd (let g : false ≡ true = b in cc)
opened_calm h q (c ∷ cs) rest s p l d m b n f w =
    let a = both (is_named c) (list_all is_named cs) n in
    let one : 1 ≤ 4096 = omega arith in
    one_calm p (as_state h (Opening q)) (as_state h (Naming q (c ∷ []))) c (cs ++ rest) s
    (begins_on h q c (class_of c) b m) d (short_or 1 (level_long h) one l)
    (naming_calm h q l d cs (c ∷ []) (c ∷ cs) rest s (after p c) refl a.1 f w)

named_white : (h : HeldView) (q : Position) (name gap : List ℕ) (p : Position) → (gap ≡ [] → ⊥) → level_long h ≡ false
    → list_all is_gap gap ≡ true → Calm p (as_state h (Naming q name)) gap (as_state h (Spaced (bare_head q name)))
named_white h q name [] p n l e = absurd (n refl)
named_white h q name (c ∷ cs) p n l e =
    let a = both (is_gap c) (list_all is_gap cs) e in
    one_calm p (as_state h (Naming q name)) (as_state h (Spaced (bare_head q name))) c cs
    (as_state h (Spaced (bare_head q name))) (ap (λ (k : Class). in_naming q name h c k) (gap_class c a.0)) refl l
    (spaced_calm h (bare_head q name) cs (after p c) l (gap_all_white cs a.1))

pub tag_took : (h : HeldView) (q : Position) (text name rest gap left : List ℕ) (p : Position) → level_long h ≡ false
    → leb 128 (stack_depth h.stack) ≡ false → may_begin h ≡ true → IsNameAhead text name rest
    → IsRun is_gap rest gap left → (gap ≡ [] → ⊥)
    → TookFlat text p (as_state h (Opening q)) left (as_state h (Spaced (bare_head q name)))
tag_took h q text name rest gap left p l d m a g n = record {
  part = name ++ gap;
  split = a.split ∙ (ap (λ y. name ++ y) g.split ∙ sym (append_assoc name gap left));
  flat = all_flat is_named named_flat name gap a.named (gap_all_flat gap g.each);
  calm = opened_calm h q name gap (as_state h (Spaced (bare_head q name))) p l d m a.begins a.named a.short
      (λ t. named_white h q name gap t n l g.each);
}

-- the name of an end tag ---------------------------------------------------------------------------

same_code : (c : ℕ) → (c == c) ≡ true
same_code c = grind arith

ending_on : (h : HeldView) (c : ℕ) (rest : List ℕ) → in_ending (c ∷ rest) h c (class_of c)
    ≡ Some (as_state h (Ending rest))
ending_on h c rest = if_fresh (c == c) (at h (Ending rest)) (same_code c)

pub ending_calm : (h : HeldView) (name : List ℕ) (p : Position) → level_long h ≡ false
    → Calm p (as_state h (Ending name)) name (as_state h (Ending []))
ending_calm h [] p l = refl
ending_calm h (c ∷ cs) p l =
    one_calm p (as_state h (Ending (c ∷ cs))) (as_state h (Ending cs)) c cs (as_state h (Ending []))
    (ending_on h c cs) refl l (ending_calm h cs (after p c) l)

-- over the reader's own values ---------------------------------------------------------------------

pub leaf_taken : (r : Reader) (n : Mode) (b : Head) (g : Held) (text one rest : List ℕ) (p : Position)
    → r.mode ≡ v.Tight b → n ≡ v.Inside → held_view g ≡ with_leaf (held_view r.held) (head_view b) → text ≡ 47 ∷ one
    → one ≡ 62 ∷ rest
    → TookFlat text p (view r) rest (as_state (held_view g) (mode_view (stack_view g.stack.items) n))
leaf_taken r n b g text one rest p k i w s t =
    turned (TookFlat text p (view r) rest) g v.Inside n i
    (subst (λ (y : Mode). TookFlat text p (in_mode r y) rest (inside_view g)) (sym k)
    (leaf_took (held_view r.held) (held_view g) (head_view b) text one rest p (level_short r)
    (not_past g.level.run.count g.level.run.short) w s t))

pub open_taken : (r : Reader) (n : Mode) (b : Head) (g : Held) (text rest : List ℕ) (p : Position)
    → r.mode ≡ v.Tight b → n ≡ v.Inside → held_view g ≡ open_element (held_view r.held) (head_view b)
    → text ≡ 62 ∷ rest
    → TookFlat text p (view r) rest (as_state (held_view g) (mode_view (stack_view g.stack.items) n))
open_taken r n b g text rest p k i w s =
    turned (TookFlat text p (view r) rest) g v.Inside n i
    (subst (λ (y : Mode). TookFlat text p (in_mode r y) rest (inside_view g)) (sym k)
    (open_took (held_view r.held) (held_view g) (head_view b) text rest p
    (not_past g.level.run.count g.level.run.short) w s))

pub shallow : (n : ℕ) → ltb n 128 ≡ true → leb 128 n ≡ false
shallow n e = grind (arith, e)
