-- What the machine has taken of a text is a beginning of a document, and what it answers is spelled.
-- Above the steps of each mode.
use Rattle.std.proofs.Common.{◌≡◌, ℕ, ◌+◌, Bool, true, false, not, List, [], ◌∷◌, ◌++◌, Option, Some, None, length, refl, sym, ◌∙◌, ap, subst, append_assoc, append-nil}
use lib.Utf8.{encode}
use Rattle.fx_doc_grammar.specs.Characters.{class_of}
use Rattle.fx_base.specs.Positions.{start, after, after_all}
use Rattle.fx_doc_grammar.specs.Grammar.{reference_text, Sign, Stands, Tag, tag_text, Items, Empty, Shown, items_text, Top_ok, has_element, value_of, head_of, root_of, Reading, Spells}
use Rattle.fx_doc_grammar.specs.Machine.{entity_step, Bottom, Held, Inside, Quoted, State, at, initial, is_nothing, with_sign, in_referring, in_value_referring, step, run, answer, answer_of}
use Rattle.fx_doc_grammar.specs.Beginnings.{Path, Top, Within, Part, PInside, PReferring, PLess, PBang, PBangDash, PComment, PDashed, PDashDashed, PAsk, PInstructing, PNameAsked, PInstructed, PEndAsked, PNaming, PSpaced, PTight, PKeyed, PKeySpaced, PSigned, PQuoted, PValueReferring, PSlashed, PEnding, PEnded, entity_text, value_part, part_text, zip_text, Items_ok, IsWithin, Part_ok}
use Rattle.fx_doc_grammar.proofs.Runs.{after-append, run-none}
use Rattle.fx_doc_grammar.proofs.States.{here, held_of, state_of, Reached, zip_place, held_shown, none_yet, sign_ok, value_more}
use Rattle.fx_doc_grammar.proofs.Steps.{Leads, Placed, some_same, none_some, stay, done, adv_inside, adv_less, adv_bang, adv_bang_dash, adv_comment, adv_dashed, adv_dash_dashed, adv_ask, adv_instructing, adv_name_asked, adv_instructed, adv_end_asked}
use Rattle.fx_doc_grammar.proofs.Tags.{adv_naming, adv_spaced, adv_tight, adv_keyed, adv_key_spaced, adv_signed, adv_quoted, adv_slashed, adv_ended, adv_ending, sign_more, value_text}
use Rattle.fx_doc_grammar.proofs.References.{Turns, entity_goes}
use Rattle.fx_doc_grammar.specs.declared.Quote.{Quote}
use Rattle.fx_doc_grammar.specs.declared.Entity.{Entity}
use Rattle.fx_doc_grammar.specs.declared.Turn.{Turn}
use Rattle.fx_doc_grammar.specs.declared.Turn.TheVariants.{Further, Whole}
use Rattle.fx_base.specs.declared.positions.Position.{Position}

-- references --------------------------------------------------------------------------------------

referring_turn : (p : Path) (i : Items) (e : Entity) (ds : List ℕ) (c : ℕ) (s : State) → Placed p i → IsWithin p → (u : Turn) → Turns (entity_text e ds ++ (c ∷ [])) u
    → in_referring (here p i) (held_of p i) (Some u) ≡ Some s → Leads p i (PReferring e ds) c s
referring_turn p i e ds c s o w (Further f) x h = stay p i (PReferring e ds) (PReferring f x.0) c s o (w, x.1) x.2 h
referring_turn p i e ds c s o w (Whole n) x h = done p i (Shown i (Stands x.0)) (PReferring e ds) c s (reference_text x.0) o.0 (sign_ok p i (Stands x.0) w o.1 x.1) refl x.2
    (ap (λ (y : Held). at y Inside) (held_shown p i (Stands x.0)) ∙ (ap (λ y. at (with_sign (here p i) y (held_of p i)) Inside) (sym x.3) ∙ h))

adv_referring : (p : Path) (i : Items) (e : Entity) (ds : List ℕ) (c : ℕ) (s : State) → Placed p i → Part_ok p i (PReferring e ds) → (u : Option Turn) → entity_step e c ≡ u → in_referring (here p i) (held_of p i) u ≡ Some s → Leads p i (PReferring e ds) c s
adv_referring p i e ds c s o z None g h = absurd (none_some h)
adv_referring p i e ds c s o z (Some u) g h = referring_turn p i e ds c s o z.0 u (entity_goes e ds c u z.1 g) h

value_turn : (p : Path) (i : Items) (t : Tag) (key w v : List ℕ) (q : Quote) (value : List Sign) (e : Entity) (ds : List ℕ) (c : ℕ) (s : State) → Placed p i → Part_ok p i (PQuoted t key w v q value)
    → (u : Turn) → Turns (entity_text e ds ++ (c ∷ [])) u
    → in_value_referring (head_of (here p i) t) (after_all (here p i) (tag_text t)) key q (value_of value) (length value) (after_all (here p i) (value_part t key w v q value)) (held_of p i) (Some u) ≡ Some s → Leads p i (PValueReferring t key w v q value e ds) c s
value_turn p i t key w v q value e ds c s o z (Further f) x h = stay p i (PValueReferring t key w v q value e ds) (PValueReferring t key w v q value f x.0) c s o
    (z.0, z.1, z.2, z.3, x.1) (append_assoc (value_part t key w v q value) (entity_text e ds) (c ∷ []) ∙ ap (λ y. value_part t key w v q value ++ y) x.2) h
value_turn p i t key w v q value e ds c s o z (Whole n) x h = stay p i (PValueReferring t key w v q value e ds) (PQuoted t key w v q (value ++ (Stands x.0 ∷ []))) c s o
    (z.0, z.1, z.2, value_more q value (Stands x.0) z.3 x.1)
    (append_assoc (value_part t key w v q value) (entity_text e ds) (c ∷ []) ∙ (ap (λ y. value_part t key w v q value ++ y) x.2 ∙ value_text t key w v q value (Stands x.0)))
    (sign_more p i t key w v q value (Stands x.0) s z x.1
    (ap (λ y. at (held_of p i) (Quoted (head_of (here p i) t) (after_all (here p i) (tag_text t)) key q (value_of value ++ encode y) (length value + 1))) (sym x.3) ∙ h))

adv_value_referring : (p : Path) (i : Items) (t : Tag) (key w v : List ℕ) (q : Quote) (value : List Sign) (e : Entity) (ds : List ℕ) (c : ℕ) (s : State) → Placed p i → Part_ok p i (PValueReferring t key w v q value e ds)
    → (u : Option Turn) → entity_step e c ≡ u
    → in_value_referring (head_of (here p i) t) (after_all (here p i) (tag_text t)) key q (value_of value) (length value) (after_all (here p i) (value_part t key w v q value)) (held_of p i) u ≡ Some s → Leads p i (PValueReferring t key w v q value e ds) c s
adv_value_referring p i t key w v q value e ds c s o z None g h = absurd (none_some h)
adv_value_referring p i t key w v q value e ds c s o z (Some u) g h = value_turn p i t key w v q value e ds c s o (z.0, z.1, z.2, z.3) u (entity_goes e ds c u z.4 g) h

-- one step ----------------------------------------------------------------------------------------

adv : (p : Path) (i : Items) (a : Part) (c : ℕ) (s : State) → Placed p i → Part_ok p i a → step (after_all (here p i) (part_text a)) (state_of p i a) c ≡ Some s → Leads p i a c s
adv p i PInside c s o z h = adv_inside p i c s o (class_of c) refl h
adv p i (PReferring e ds) c s o z h = adv_referring p i e ds c s o z (entity_step e c) refl h
adv p i PLess c s o z h = adv_less p i c s o (class_of c) refl h
adv p i PBang c s o z h = adv_bang p i c s o (class_of c) refl h
adv p i PBangDash c s o z h = adv_bang_dash p i c s o (class_of c) refl h
adv p i (PComment x) c s o z h = adv_comment p i x c s o z (class_of c) refl h
adv p i (PDashed x) c s o z h = adv_dashed p i x c s o z (class_of c) refl h
adv p i (PDashDashed x) c s o z h = adv_dash_dashed p i x c s o z (class_of c) refl h
adv p i PAsk c s o z h = adv_ask p i c s o (class_of c) refl h
adv p i (PInstructing n) c s o z h = adv_instructing p i n c s o z (class_of c) refl h
adv p i (PNameAsked n) c s o z h = adv_name_asked p i n c s o z (class_of c) refl h
adv p i (PInstructed n x) c s o z h = adv_instructed p i n x c s o z (class_of c) refl h
adv p i (PEndAsked n x) c s o z h = adv_end_asked p i n x c s o z (class_of c) refl h
adv p i (PNaming n) c s o z h = adv_naming p i n c s o z (class_of c) refl h
adv p i (PSpaced t) c s o z h = adv_spaced p i t c s o z (class_of c) refl h
adv p i (PTight t) c s o z h = adv_tight p i t c s o z (class_of c) refl h
adv p i (PKeyed t key) c s o z h = adv_keyed p i t key c s o z (class_of c) refl h
adv p i (PKeySpaced t key w) c s o z h = adv_key_spaced p i t key w c s o z (class_of c) refl h
adv p i (PSigned t key w v) c s o z h = adv_signed p i t key w v c s o z (class_of c) refl h
adv p i (PQuoted t key w v q value) c s o z h = adv_quoted p i t key w v q value c s o z (class_of c) refl h
adv p i (PValueReferring t key w v q value e ds) c s o z h = adv_value_referring p i t key w v q value e ds c s o z (entity_step e c) refl h
adv p i (PSlashed t) c s o z h = adv_slashed p i t c s o z (class_of c) refl h
adv p i (PEnding said rest) c s o z h = adv_ending p i said rest c s o z (class_of c) refl h
adv p i (PEnded n w) c s o z h = adv_ended p i n w c s o z (class_of c) refl h

pub advance : (text : List ℕ) (s : State) (c : ℕ) (s' : State) → Reached text s → step (after_all start text) s c ≡ Some s' → Reached (text ++ (c ∷ [])) s'
advance text s c s' r h =
    let g : step (after_all (here r.path r.items) (part_text r.part)) (state_of r.path r.items r.part) c ≡ Some s' =
    ap (λ (y : Position). step y (state_of r.path r.items r.part) c) (sym (zip_place r.path r.items r.part))
    ∙ (ap (λ y. step (after_all start y) (state_of r.path r.items r.part) c) (sym r.written)
    ∙ (ap (λ (y : State). step (after_all start text) y c) r.is ∙ h)) in
    subst (λ y. Reached (y ++ (c ∷ [])) s') (sym r.written) (adv r.path r.items r.part c s' (r.path_ok, r.items_ok) r.part_ok g)

-- whole texts -------------------------------------------------------------------------------------

pub reached_start : Reached [] initial
reached_start = record { path = Top; items = Empty; part = PInside; path_ok = tt; items_ok = tt; part_ok = tt; written = refl; is = refl }

reached_next : (said : List ℕ) (c : ℕ) (cs : List ℕ) (s : State) (o : Option State) (s' : State) → Reached said s → step (after_all start said) s c ≡ o → run (after (after_all start said) c) o cs ≡ Some s'
    → ((t : State) → Reached (said ++ (c ∷ [])) t → run (after_all start (said ++ (c ∷ []))) (Some t) cs ≡ Some s' → Reached ((said ++ (c ∷ [])) ++ cs) s') → Reached (said ++ (c ∷ cs)) s'
reached_next said c cs s None s' r e h k = absurd (none_some (sym (run-none (after (after_all start said) c) cs) ∙ h))
reached_next said c cs s (Some t) s' r e h k =
    subst (λ y. Reached y s') (append_assoc said (c ∷ []) cs)
    (k t (advance said s c t r e) (ap (λ (y : Position). run y (Some t) cs) (after-append start said (c ∷ [])) ∙ h))

run_on : (said more : List ℕ) (s s' : State) → Reached said s → run (after_all start said) (Some s) more ≡ Some s' → Reached (said ++ more) s'
run_on said [] s s' r h = subst (λ y. Reached y s') (sym (append-nil said)) (subst (Reached said) (some_same h) r)
run_on said (c ∷ cs) s s' r h = reached_next said c cs s (step (after_all start said) s c) s' r refl h (λ t x y. run_on (said ++ (c ∷ [])) cs t s' x y)

pub run_reached : (text : List ℕ) (s : State) → run start (Some initial) text ≡ Some s → Reached text s
run_reached text s h = run_on [] text initial s reached_start h

-- an answer is what is read of the items at the top
no_answer : {X : Type 0} {a : X} → None ≡ Some a → ⊥
no_answer e = cc

has_one : (b c : Bool) → b ≡ not c → b ≡ false → c ≡ true
has_one b true e f = refl
has_one b false e f = cc

answered : (text : List ℕ) (i : Items) (n : Reading) → Top_ok i → text ≡ zip_text Top i PInside → (b : Bool) → is_nothing (root_of start i) ≡ b → answer_of (held_of Top i) Bottom Inside b ≡ Some n → Spells text n
answered text i n o w true e h = absurd (no_answer h)
answered text i n o w false e h = record {
  items = i;
  top = o;
  one = has_one (is_nothing (root_of start i)) (has_element i) (none_yet start i) e;
  written = w ∙ append-nil (items_text i);
  imports = ap (λ (y : Reading). y.imports) (sym (some_same h));
  root = ap (λ (y : Reading). y.root) (sym (some_same h));
}

answer_at : (text : List ℕ) (p : Path) (i : Items) (a : Part) (n : Reading) → Items_ok p i → text ≡ zip_text p i a → answer (state_of p i a) ≡ Some n → Spells text n
answer_at text (Within p j t) i a n o w h = absurd (no_answer h)
answer_at text Top i PInside n o w h = answered text i n o w (is_nothing (root_of start i)) refl h
answer_at text Top i a n o w h = absurd (no_answer h)

pub sound : (text : List ℕ) (s : State) (n : Reading) → run start (Some initial) text ≡ Some s → answer s ≡ Some n → Spells text n
sound text s n h e =
    let r = run_reached text s h in
    answer_at text r.path r.items r.part n r.items_ok r.written (ap answer r.is ∙ e)
