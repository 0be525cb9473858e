-- What the machine has taken is a beginning that is written so: one lemma for each mode.
-- Above the states; the theorems on whole texts rest on it.
use Rattle.std.proofs.Common.{◌≡◌, ℕ, Bool, true, false, List, [], ◌∷◌, ◌++◌, Option, Some, None, refl, sym, ◌∙◌, ap, subst, append_assoc, append-nil, arith}
use lib.Utf8.{encode, encodes}
use Rattle.fx_doc_grammar.specs.Characters.{class_of, in_name, IsWhite, Each}
use Rattle.fx_doc_grammar.specs.Grammar.{IsNamed, IsName, Plain, is_plain, Tag, tag_text, Tag_ok, Items, Empty, Shown, Comment, Instruction, Branch, items_text, comment_text, instruction_text, end_text}
use Rattle.fx_doc_grammar.specs.Machine.{Held, Inside, Referring, Commented, Instructing, Instructed, EndAsked, Naming, State, at, some_if, is_open, may_begin, with_sign, close, in_inside, in_opening, in_banged, in_bang_dashed, in_commented, in_dashed, in_dash_dashed, in_asked, in_instructing, in_name_asked, in_instructed, in_end_asked}
use Rattle.fx_doc_grammar.specs.Beginnings.{Path, Top, Within, Part, PInside, PReferring, PLess, PBang, PBangDash, PComment, PDashed, PDashDashed, PAsk, PInstructing, PNameAsked, PInstructed, PEndAsked, PNaming, PEnding, part_text, path_text, zip_text, Items_ok, IsRoom, Path_ok, HasNoEnd, EndsOtherwise, Part_ok}
use Rattle.fx_doc_grammar.proofs.Runs.{encodes-append, fits_at}
use Rattle.fx_doc_grammar.proofs.States.{here, stack_of, held_of, state_of, Reached, held_shown, held_comment, held_branch, held_instruction, white_ok, sign_ok, comment_ok, instruction_ok, branch_ok, room_at, within_open, name_more, filled_more, apart_more}
use Rattle.fx_doc_grammar.proofs.Ends.{last_same, no_nil, no_end_more, no_end_nil, other_class}
use Rattle.fx_doc_grammar.specs.declared.Class.{Class}
use Rattle.fx_doc_grammar.specs.declared.Class.TheVariants.{White, Less, Greater, Slash, Bang, Question, Dash, Ampersand, Letter}
use Rattle.fx_doc_grammar.specs.declared.Entity.TheVariants.{Begun}

abbrev pub Leads : Path → Items → Part → ℕ → State → Type 0
Leads p i a c s = Reached (zip_text p i a ++ (c ∷ [])) s

abbrev pub Placed : Path → Items → Type 0
Placed p i = Path_ok p × Items_ok p i

pub some_same : {X : Type 0} {a b : X} → Some a ≡ Some b → a ≡ b
some_same e = cc

pub none_some : {X : Type 0} {a : X} → None ≡ Some a → ⊥
none_some e = cc

-- the same items, and a longer part
pub stay : (p : Path) (i : Items) (a b : Part) (c : ℕ) (s : State) → Placed p i → Part_ok p i b → part_text a ++ (c ∷ []) ≡ part_text b → Some (state_of p i b) ≡ Some s → Leads p i a c s
stay p i a b c s o k e h = record {
  path = p;
  items = i;
  part = b;
  path_ok = o.0;
  items_ok = o.1;
  part_ok = k;
  written = append_assoc (path_text p ++ items_text i) (part_text a) (c ∷ []) ∙ ap (λ z. (path_text p ++ items_text i) ++ z) e;
  is = some_same h;
}

-- a piece is whole
pub done : (p : Path) (i j : Items) (a : Part) (c : ℕ) (s : State) (piece : List ℕ) → Path_ok p → Items_ok p j → items_text j ≡ items_text i ++ piece → part_text a ++ (c ∷ []) ≡ piece → Some (state_of p j PInside) ≡ Some s → Leads p i a c s
done p i j a c s piece o k w e h = record {
  path = p;
  items = j;
  part = PInside;
  path_ok = o;
  items_ok = k;
  part_ok = tt;
  written = append_assoc (path_text p ++ items_text i) (part_text a) (c ∷ [])
      ∙ (ap (λ z. (path_text p ++ items_text i) ++ z) e
      ∙ (append_assoc (path_text p) (items_text i) piece
      ∙ (ap (λ z. path_text p ++ z) (sym w)
      ∙ sym (append-nil (path_text p ++ items_text j)))));
  is = some_same h;
}

pub opens : (p : Path) (i : Items) (t : Tag) (a : Part) (c : ℕ) (s : State) → Placed p i → IsRoom p i → Tag_ok t → part_text a ++ (c ∷ []) ≡ tag_text t ++ (62 ∷ []) → Some (state_of (Within p i t) Empty PInside) ≡ Some s → Leads p i a c s
opens p i t a c s o r k e h = record {
  path = Within p i t;
  items = Empty;
  part = PInside;
  path_ok = (o.0, o.1, r, k);
  items_ok = tt;
  part_ok = tt;
  written = append_assoc (path_text p ++ items_text i) (part_text a) (c ∷ [])
      ∙ (ap (λ z. (path_text p ++ items_text i) ++ z) e
      ∙ (sym (append-nil (path_text (Within p i t))) ∙ sym (append-nil (path_text (Within p i t) ++ []))));
  is = some_same h;
}

close_text : (p i t x w : List ℕ) → ((((p ++ i) ++ (t ++ (62 ∷ []))) ++ x) ++ w) ≡ (p ++ (i ++ ((t ++ (62 ∷ [])) ++ (x ++ w)))) ++ []
close_text p i t x w = simp (append_assoc, append-nil)

pub closes : (p : Path) (i : Items) (t : Tag) (inner : Items) (w : List ℕ) (a : Part) (c : ℕ) (s : State) → Placed (Within p i t) inner → Each IsWhite w → part_text a ++ (c ∷ []) ≡ end_text t.name w
    → close (held_of (Within p i t) inner) ≡ Some s → Leads (Within p i t) inner a c s
closes p i t inner w a c s o ws e h = record {
  path = p;
  items = Branch i t inner w;
  part = PInside;
  path_ok = o.0.0;
  items_ok = branch_ok p i t inner w o.0.1 o.0.2 o.0.3 o.1 ws;
  part_ok = tt;
  written = append_assoc (path_text (Within p i t) ++ items_text inner) (part_text a) (c ∷ [])
      ∙ (ap (λ z. (path_text (Within p i t) ++ items_text inner) ++ z) e
      ∙ close_text (path_text p) (items_text i) (tag_text t) (items_text inner) (end_text t.name w));
  is = ap (λ (z : Held). record { held = z; mode = Inside }) (held_branch p i t inner w) ∙ some_same h;
}

pub if_some : (b : Bool) (o : Option State) (s : State) → some_if b o ≡ Some s → (b ≡ true) × (o ≡ Some s)
if_some true o s h = (refl, h)
if_some false o s h = absurd (none_some h)

-- inside ------------------------------------------------------------------------------------------

shown_plain : (p : Path) (i : Items) (c : ℕ) (s : State) → Path_ok p → Items_ok p (Shown i (Plain c)) → at (with_sign (here p i) c (held_of p i)) Inside ≡ Some s → Leads p i PInside c s
shown_plain p i c s o k h = done p i (Shown i (Plain c)) PInside c s (c ∷ []) o k refl refl (ap (λ (z : Held). at z Inside) (held_shown p i (Plain c)) ∙ h)

shown_open : (p : Path) (i : Items) (c : ℕ) (s : State) → Placed p i → is_plain (class_of c) ≡ true → some_if (is_open (stack_of p)) (at (with_sign (here p i) c (held_of p i)) Inside) ≡ Some s → Leads p i PInside c s
shown_open p i c s o k h =
    let r = if_some (is_open (stack_of p)) (at (with_sign (here p i) c (held_of p i)) Inside) s h in
    shown_plain p i c s o.0 (sign_ok p i (Plain c) (within_open p r.0) o.1 k) r.1

pub adv_inside : (p : Path) (i : Items) (c : ℕ) (s : State) → Placed p i → (k : Class) → class_of c ≡ k → in_inside (here p i) (held_of p i) c k ≡ Some s → Leads p i PInside c s
adv_inside p i c s o White e h = shown_plain p i c s o.0 (white_ok p i c o.1 e) h
adv_inside p i c s o Less e h = stay p i PInside PLess c s o tt (ap (λ z. z ∷ []) (fits_at c Less e)) h
adv_inside p i c s o Ampersand e h =
    let r = if_some (is_open (stack_of p)) (at (held_of p i) (Referring (here p i) Begun)) s h in
    stay p i PInside (PReferring Begun []) c s o (within_open p r.0, tt) (ap (λ z. z ∷ []) (fits_at c Ampersand e)) r.1
adv_inside p i c s o k e h = shown_open p i c s o (ap is_plain e) h

-- markup ------------------------------------------------------------------------------------------

pub adv_less : (p : Path) (i : Items) (c : ℕ) (s : State) → Placed p i → (k : Class) → class_of c ≡ k → in_opening (here p i) (held_of p i) c k ≡ Some s → Leads p i PLess c s
adv_less p i c s o Letter e h =
    let r = if_some (may_begin (held_of p i)) (at (held_of p i) (Naming (here p i) (c ∷ []))) s h in
    stay p i PLess (PNaming (c ∷ [])) c s o (room_at p i r.0, (e, tt)) refl r.1
adv_less p i c s o Bang e h = stay p i PLess PBang c s o tt (ap (λ z. 60 ∷ (z ∷ [])) (fits_at c Bang e)) h
adv_less p i c s o Question e h = stay p i PLess PAsk c s o tt (ap (λ z. 60 ∷ (z ∷ [])) (fits_at c Question e)) h
adv_less Top i c s o Slash e h = absurd (none_some h)
adv_less (Within p j t) i c s o Slash e h = stay (Within p j t) i PLess (PEnding [] t.name) c s o refl (ap (λ z. 60 ∷ (z ∷ [])) (fits_at c Slash e)) h
adv_less p i c s o k e h = absurd (none_some h)

pub adv_bang : (p : Path) (i : Items) (c : ℕ) (s : State) → Placed p i → (k : Class) → class_of c ≡ k → in_banged (held_of p i) k ≡ Some s → Leads p i PBang c s
adv_bang p i c s o Dash e h = stay p i PBang PBangDash c s o tt (ap (λ z. 60 ∷ (33 ∷ (z ∷ []))) (fits_at c Dash e)) h
adv_bang p i c s o k e h = absurd (none_some h)

pub adv_bang_dash : (p : Path) (i : Items) (c : ℕ) (s : State) → Placed p i → (k : Class) → class_of c ≡ k → in_bang_dashed (held_of p i) k ≡ Some s → Leads p i PBangDash c s
adv_bang_dash p i c s o Dash e h = stay p i PBangDash (PComment []) c s o (no_end_nil (45 ∷ (45 ∷ [])), λ a. no_nil a 45) (ap (λ z. 60 ∷ (33 ∷ (45 ∷ (z ∷ [])))) (fits_at c Dash e)) h
adv_bang_dash p i c s o k e h = absurd (none_some h)

-- comments and instructions -----------------------------------------------------------------------

pub class_dash : class_of 45 ≡ Dash
unfolding class_of
class_dash = refl

pub class_question : class_of 63 ≡ Question
unfolding class_of
class_question = refl

pub class_greater : class_of 62 ≡ Greater
unfolding class_of
class_greater = refl

-- a last character of another class
ends_other : (x : List ℕ) (c n : ℕ) (k j : Class) → class_of c ≡ k → class_of n ≡ j → (k ≡ j → ⊥) → EndsOtherwise n (x ++ (c ∷ []))
ends_other x c n k j e f d a q = other_class c n k j e f d (last_same x a c n q).1

comment_more : (p : Path) (i : Items) (x : List ℕ) (c : ℕ) (s : State) → Placed p i → Part_ok p i (PComment x) → (k : Class) → class_of c ≡ k → (k ≡ Dash → ⊥) → at (held_of p i) Commented ≡ Some s → Leads p i (PComment x) c s
comment_more p i x c s o z k e d h = stay p i (PComment x) (PComment (x ++ (c ∷ []))) c s o
    (no_end_more (45 ∷ (45 ∷ [])) x c z.0 (λ u a q. z.1 (a ++ (45 ∷ [])) (q ∙ sym (append_assoc a (45 ∷ []) (45 ∷ [])))), ends_other x c 45 k Dash e class_dash d)
    refl h

pub adv_comment : (p : Path) (i : Items) (x : List ℕ) (c : ℕ) (s : State) → Placed p i → Part_ok p i (PComment x) → (k : Class) → class_of c ≡ k → in_commented (held_of p i) k ≡ Some s → Leads p i (PComment x) c s
adv_comment p i x c s o z Dash e h = stay p i (PComment x) (PDashed x) c s o
    (no_end_more (45 ∷ (45 ∷ [])) x 45 z.0 (λ u a q. absurd (let v : 45 ≡ 62 = u in grind arith)), z.1)
    (ap (λ y. 60 ∷ (33 ∷ (45 ∷ (45 ∷ (x ++ (y ∷ [])))))) (fits_at c Dash e)) h
adv_comment p i x c s o z k e h = comment_more p i x c s o z k e (λ q. cc) h

dashed_more : (p : Path) (i : Items) (x : List ℕ) (c : ℕ) (s : State) → Placed p i → Part_ok p i (PDashed x) → (k : Class) → class_of c ≡ k → (k ≡ Dash → ⊥) → at (held_of p i) Commented ≡ Some s → Leads p i (PDashed x) c s
dashed_more p i x c s o z k e d h = stay p i (PDashed x) (PComment ((x ++ (45 ∷ [])) ++ (c ∷ []))) c s o
    (no_end_more (45 ∷ (45 ∷ [])) (x ++ (45 ∷ [])) c z.0 (λ u a q. z.1 a (last_same x (a ++ (45 ∷ [])) 45 45 (q ∙ sym (append_assoc a (45 ∷ []) (45 ∷ [])))).0), ends_other (x ++ (45 ∷ [])) c 45 k Dash e class_dash d)
    refl h

pub adv_dashed : (p : Path) (i : Items) (x : List ℕ) (c : ℕ) (s : State) → Placed p i → Part_ok p i (PDashed x) → (k : Class) → class_of c ≡ k → in_dashed (held_of p i) k ≡ Some s → Leads p i (PDashed x) c s
adv_dashed p i x c s o z Dash e h = stay p i (PDashed x) (PDashDashed x) c s o
    (subst (HasNoEnd (45 ∷ (45 ∷ []))) (append_assoc x (45 ∷ []) (45 ∷ [])) (no_end_more (45 ∷ (45 ∷ [])) (x ++ (45 ∷ [])) 45 z.0 (λ u a q. absurd (let v : 45 ≡ 62 = u in grind arith))), tt)
    (ap (λ y. 60 ∷ (33 ∷ (45 ∷ (45 ∷ y)))) (append_assoc x (45 ∷ []) (c ∷ []) ∙ ap (λ y. x ++ (45 ∷ (y ∷ []))) (fits_at c Dash e))) h
adv_dashed p i x c s o z k e h = dashed_more p i x c s o z k e (λ q. cc) h

dash_dashed_more : (p : Path) (i : Items) (x : List ℕ) (c : ℕ) (s : State) → Placed p i → Part_ok p i (PDashDashed x) → (k : Class) → class_of c ≡ k → (k ≡ Dash → ⊥) → (k ≡ Greater → ⊥) → at (held_of p i) Commented ≡ Some s → Leads p i (PDashDashed x) c s
dash_dashed_more p i x c s o z k e d g h = stay p i (PDashDashed x) (PComment ((x ++ (45 ∷ (45 ∷ []))) ++ (c ∷ []))) c s o
    (no_end_more (45 ∷ (45 ∷ [])) (x ++ (45 ∷ (45 ∷ []))) c z.0 (λ u a q. absurd (other_class c 62 k Greater e class_greater g u)), ends_other (x ++ (45 ∷ (45 ∷ []))) c 45 k Dash e class_dash d)
    refl h

pub adv_dash_dashed : (p : Path) (i : Items) (x : List ℕ) (c : ℕ) (s : State) → Placed p i → Part_ok p i (PDashDashed x) → (k : Class) → class_of c ≡ k → in_dash_dashed (held_of p i) k ≡ Some s → Leads p i (PDashDashed x) c s
adv_dash_dashed p i x c s o z Dash e h = stay p i (PDashDashed x) (PDashDashed (x ++ (45 ∷ []))) c s o
    (subst (HasNoEnd (45 ∷ (45 ∷ []))) (append_assoc x (45 ∷ (45 ∷ [])) (45 ∷ []) ∙ sym (append_assoc x (45 ∷ []) (45 ∷ (45 ∷ [])))) (no_end_more (45 ∷ (45 ∷ [])) (x ++ (45 ∷ (45 ∷ []))) 45 z.0 (λ u a q. absurd (let v : 45 ≡ 62 = u in grind arith))), tt)
    (ap (λ y. 60 ∷ (33 ∷ (45 ∷ (45 ∷ y)))) (append_assoc x (45 ∷ (45 ∷ [])) (c ∷ []) ∙ (ap (λ y. x ++ (45 ∷ (45 ∷ (y ∷ [])))) (fits_at c Dash e) ∙ sym (append_assoc x (45 ∷ []) (45 ∷ (45 ∷ [])))))) h
adv_dash_dashed p i x c s o z Greater e h = done p i (Comment i x) (PDashDashed x) c s (comment_text x) o.0 (comment_ok p i x o.1 z.0) refl
    (ap (λ y. 60 ∷ (33 ∷ (45 ∷ (45 ∷ y)))) (append_assoc x (45 ∷ (45 ∷ [])) (c ∷ []) ∙ ap (λ y. x ++ (45 ∷ (45 ∷ (y ∷ [])))) (fits_at c Greater e)))
    (ap (λ (y : Held). at y Inside) (held_comment p i x) ∙ h)
adv_dash_dashed p i x c s o z k e h = dash_dashed_more p i x c s o z k e (λ q. cc) (λ q. cc) h

pub adv_ask : (p : Path) (i : Items) (c : ℕ) (s : State) → Placed p i → (k : Class) → class_of c ≡ k → in_asked (held_of p i) c k ≡ Some s → Leads p i PAsk c s
adv_ask p i c s o Letter e h = stay p i PAsk (PInstructing (c ∷ [])) c s o (e, tt) refl h
adv_ask p i c s o k e h = absurd (none_some h)

pub named_at : (c : ℕ) (k : Class) → class_of c ≡ k → in_name k ≡ true → IsNamed c
named_at c k e h = ap in_name e ∙ h

instructing_more : (p : Path) (i : Items) (n : List ℕ) (c : ℕ) (s : State) → Placed p i → IsName n → (k : Class) → class_of c ≡ k → some_if (in_name k) (at (held_of p i) (Instructing (n ++ (c ∷ [])))) ≡ Some s → Leads p i (PInstructing n) c s
instructing_more p i n c s o z k e h =
    let r = if_some (in_name k) (at (held_of p i) (Instructing (n ++ (c ∷ [])))) s h in
    stay p i (PInstructing n) (PInstructing (n ++ (c ∷ []))) c s o (name_more n c z (named_at c k e r.0)) refl r.1

pub adv_instructing : (p : Path) (i : Items) (n : List ℕ) (c : ℕ) (s : State) → Placed p i → IsName n → (k : Class) → class_of c ≡ k → in_instructing n (held_of p i) c k ≡ Some s → Leads p i (PInstructing n) c s
adv_instructing p i n c s o z White e h = stay p i (PInstructing n) (PInstructed n (c ∷ [])) c s o
    (z, tt, e, no_end_more (63 ∷ []) [] c (no_end_nil (63 ∷ [])) (λ u a q. no_nil a 63 q), ends_other [] c 63 White Question e class_question (λ q. cc))
    refl (ap (λ y. at (held_of p i) (Instructed n y)) (append-nil (encode c)) ∙ h)
adv_instructing p i n c s o z Question e h = stay p i (PInstructing n) (PNameAsked n) c s o z (ap (λ y. 60 ∷ (63 ∷ (n ++ (y ∷ [])))) (fits_at c Question e)) h
adv_instructing p i n c s o z k e h = instructing_more p i n c s o z k e h

pub adv_name_asked : (p : Path) (i : Items) (n : List ℕ) (c : ℕ) (s : State) → Placed p i → IsName n → (k : Class) → class_of c ≡ k → in_name_asked n (held_of p i) k ≡ Some s → Leads p i (PNameAsked n) c s
adv_name_asked p i n c s o z Greater e h = done p i (Instruction i n []) (PNameAsked n) c s (instruction_text n []) o.0
    (instruction_ok p i n [] o.1 (z, tt, no_end_more (63 ∷ []) [] 63 (no_end_nil (63 ∷ [])) (λ u a q. no_nil a 63 q))) refl
    (ap (λ y. 60 ∷ (63 ∷ y)) (append_assoc n (63 ∷ []) (c ∷ []) ∙ ap (λ y. n ++ (63 ∷ (y ∷ []))) (fits_at c Greater e)))
    (ap (λ (y : Held). at y Inside) (held_instruction p i n []) ∙ h)
adv_name_asked p i n c s o z k e h = absurd (none_some h)

pub encodes_one : (x : List ℕ) (c : ℕ) → encodes (x ++ (c ∷ [])) ≡ encodes x ++ encode c
encodes_one x c = encodes-append x (c ∷ []) ∙ ap (λ y. encodes x ++ y) (append-nil (encode c))

pub encodes_question : (x : List ℕ) → encodes (x ++ (63 ∷ [])) ≡ encodes x ++ (63 ∷ [])
unfolding encode
encodes_question x = encodes-append x (63 ∷ [])

instructed_more : (p : Path) (i : Items) (n x : List ℕ) (c : ℕ) (s : State) → Placed p i → Part_ok p i (PInstructed n x) → (k : Class) → class_of c ≡ k → (k ≡ Question → ⊥) → at (held_of p i) (Instructed n (encodes x ++ encode c)) ≡ Some s → Leads p i (PInstructed n x) c s
instructed_more p i n x c s o z k e d h = stay p i (PInstructed n x) (PInstructed n (x ++ (c ∷ []))) c s o
    (z.0, filled_more x c, apart_more x (c ∷ []) z.1 z.2, no_end_more (63 ∷ []) x c z.3 (λ u. z.4), ends_other x c 63 k Question e class_question d)
    (ap (λ y. 60 ∷ (63 ∷ y)) (append_assoc n x (c ∷ []))) (ap (λ y. at (held_of p i) (Instructed n y)) (encodes_one x c) ∙ h)

pub adv_instructed : (p : Path) (i : Items) (n x : List ℕ) (c : ℕ) (s : State) → Placed p i → Part_ok p i (PInstructed n x) → (k : Class) → class_of c ≡ k → in_instructed n (encodes x) (held_of p i) c k ≡ Some s → Leads p i (PInstructed n x) c s
adv_instructed p i n x c s o z Question e h = stay p i (PInstructed n x) (PEndAsked n x) c s o
    (z.0, z.1, z.2, no_end_more (63 ∷ []) x 63 z.3 (λ u a q. absurd (let v : 63 ≡ 62 = u in grind arith)))
    (ap (λ y. 60 ∷ (63 ∷ y)) (append_assoc n x (c ∷ []) ∙ ap (λ y. n ++ (x ++ (y ∷ []))) (fits_at c Question e))) h
adv_instructed p i n x c s o z k e h = instructed_more p i n x c s o z k e (λ q. cc) h

end_asked_more : (p : Path) (i : Items) (n x : List ℕ) (c : ℕ) (s : State) → Placed p i → Part_ok p i (PEndAsked n x) → (k : Class) → class_of c ≡ k → (k ≡ Question → ⊥) → (k ≡ Greater → ⊥) → at (held_of p i) (Instructed n ((encodes x ++ (63 ∷ [])) ++ encode c)) ≡ Some s → Leads p i (PEndAsked n x) c s
end_asked_more p i n x c s o z k e d g h = stay p i (PEndAsked n x) (PInstructed n ((x ++ (63 ∷ [])) ++ (c ∷ []))) c s o
    (z.0, filled_more (x ++ (63 ∷ [])) c, apart_more (x ++ (63 ∷ [])) (c ∷ []) (filled_more x 63) (apart_more x (63 ∷ []) z.1 z.2), no_end_more (63 ∷ []) (x ++ (63 ∷ [])) c z.3 (λ u a q. absurd (other_class c 62 k Greater e class_greater g u)), ends_other (x ++ (63 ∷ [])) c 63 k Question e class_question d)
    (ap (λ y. 60 ∷ (63 ∷ y)) (append_assoc n (x ++ (63 ∷ [])) (c ∷ [])))
    (ap (λ y. at (held_of p i) (Instructed n y)) (encodes_one (x ++ (63 ∷ [])) c ∙ ap (λ y. y ++ encode c) (encodes_question x)) ∙ h)

pub adv_end_asked : (p : Path) (i : Items) (n x : List ℕ) (c : ℕ) (s : State) → Placed p i → Part_ok p i (PEndAsked n x) → (k : Class) → class_of c ≡ k → in_end_asked n (encodes x) (held_of p i) c k ≡ Some s → Leads p i (PEndAsked n x) c s
adv_end_asked p i n x c s o z Greater e h = done p i (Instruction i n x) (PEndAsked n x) c s (instruction_text n x) o.0 (instruction_ok p i n x o.1 (z.0, z.2, z.3)) refl
    (ap (λ y. 60 ∷ (63 ∷ y)) (append_assoc n (x ++ (63 ∷ [])) (c ∷ []) ∙ ap (λ y. n ++ y) (append_assoc x (63 ∷ []) (c ∷ []) ∙ ap (λ y. x ++ (63 ∷ (y ∷ []))) (fits_at c Greater e))))
    (ap (λ (y : Held). at y Inside) (held_instruction p i n x) ∙ h)
adv_end_asked p i n x c s o z Question e h = stay p i (PEndAsked n x) (PEndAsked n (x ++ (63 ∷ []))) c s o
    (z.0, filled_more x 63, apart_more x (63 ∷ []) z.1 z.2, no_end_more (63 ∷ []) (x ++ (63 ∷ [])) 63 z.3 (λ u a q. absurd (let v : 63 ≡ 62 = u in grind arith)))
    (ap (λ y. 60 ∷ (63 ∷ y)) (append_assoc n (x ++ (63 ∷ [])) (c ∷ []) ∙ ap (λ y. n ++ ((x ++ (63 ∷ [])) ++ (y ∷ []))) (fits_at c Question e)))
    (ap (λ y. at (held_of p i) (EndAsked n y)) (encodes_question x) ∙ h)
adv_end_asked p i n x c s o z k e h = end_asked_more p i n x c s o z k e (λ q. cc) (λ q. cc) h
