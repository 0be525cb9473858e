-- The place of the first sign past a limit is told by the state before its last character.
-- Below the law that a text has one answer.
use Rattle.std.proofs.Common.{◌≡◌, ℕ, ◌+◌, ◌≤◌, List, [], ◌∷◌, ◌++◌, Option, Some, None, length, refl, sym, ◌∙◌, ap, subst, append_assoc, append-nil, arith, suc}
use lib.Utf8.{encode}
use Rattle.fx_doc_grammar.specs.Characters.{Each}
use Rattle.fx_base.specs.Positions.{start, after, after_all}
use Rattle.fx_doc_grammar.specs.Grammar.{IsNamed, IsName, Reference, ForLess, ForGreater, ForAmpersand, ForQuotation, ForApostrophe, ByDecimal, ByHexadecimal, reference_text, Reference_ok, stands_for, Sign, Plain, Stands, Sign_ok, Value_ok, Value_sign_ok, Tag, tag_text, Items, Shown, items_text, value_of, head_of}
use Rattle.fx_doc_grammar.specs.Machine.{entity_step, Inside, Referring, Naming, Quoted, ValueReferring, State, initial, with_sign, step, run, stack_depth, sign_position}
use Rattle.fx_doc_grammar.specs.Beginnings.{Path, Top, Within, Part, PInside, PInstructing, PNaming, PKeyed, PQuoted, value_part, part_text, path_text, zip_text, Items_ok, IsWithin, Part_ok, IsBegun, depth_of, PassesDepth, IsPast, InRun, InValue, InName, InKey, InInstruction, PassesLength}
use Rattle.fx_doc_grammar.proofs.Runs.{run-append}
use Rattle.fx_doc_grammar.proofs.States.{here, stack_of, held_of, mode_of, state_of, here_place}
use Rattle.fx_doc_grammar.proofs.Ends.{last_same}
use Rattle.fx_doc_grammar.proofs.Goes.{Goes, stays, one_then, ends_at, entity_run, turn_step, turned, reference_rest, reference_parts, reference_run}
use Rattle.fx_doc_grammar.proofs.TagGoes.{value_turned, value_ampersand}
use Rattle.fx_doc_grammar.proofs.Written.{referring_turned, ampersand_inside, inside_goes}
use Rattle.fx_doc_grammar.proofs.Bounds.{StateAt, naming_at, instructing_at, keyed_at, quoted_at, inside_at}
use Rattle.fx_doc_grammar.proofs.Marks.{as_state}
use Rattle.fx_doc_grammar.proofs.Steps.{some_same}
use Rattle.fx_doc_grammar.proofs.Tags.{value_text}
use Rattle.fx_doc_grammar.specs.declared.Quote.{Quote}
use Rattle.fx_doc_grammar.specs.declared.Entity.{Entity}
use Rattle.fx_doc_grammar.specs.declared.Entity.TheVariants.{Begun}
use Rattle.fx_doc_grammar.specs.declared.Turn.{Turn}
use Rattle.fx_doc_grammar.specs.declared.Turn.TheVariants.{Further, Whole}
use Rattle.fx_base.specs.declared.positions.Position.{Position}

-- references but for their last character ---------------------------------------------------------

reference_last : (r : Reference) → (f : List ℕ) × (reference_rest r ≡ f ++ (59 ∷ []))
reference_last ForLess = (108 ∷ (116 ∷ []), refl)
reference_last ForGreater = (103 ∷ (116 ∷ []), refl)
reference_last ForAmpersand = (97 ∷ (109 ∷ (112 ∷ [])), refl)
reference_last ForQuotation = (113 ∷ (117 ∷ (111 ∷ (116 ∷ []))), refl)
reference_last ForApostrophe = (97 ∷ (112 ∷ (111 ∷ (115 ∷ []))), refl)
reference_last (ByDecimal ds) = (35 ∷ ds, refl)
reference_last (ByHexadecimal ds) = (35 ∷ (120 ∷ ds), refl)

entity_snoc : (o : Option Turn) (cs : List ℕ) (c : ℕ) → entity_run o (cs ++ (c ∷ [])) ≡ turn_step (entity_run o cs) c
entity_snoc o [] c = refl
entity_snoc o (d ∷ cs) c = entity_snoc (turn_step o d) cs c

further_of : (o : Option Turn) (c n : ℕ) → turn_step o c ≡ Some (Whole n) → (e : Entity) × (o ≡ Some (Further e))
further_of None c n h = absurd (cc)
further_of (Some (Further e)) c n h = (e, refl)
further_of (Some (Whole m)) c n h = absurd (cc)

entity_nothing : (cs : List ℕ) → entity_run None cs ≡ None
entity_nothing [] = refl
entity_nothing (c ∷ cs) = entity_nothing cs

whole_stays : (cs : List ℕ) (m : ℕ) (e : Entity) → entity_run (Some (Whole m)) cs ≡ Some (Further e) → ⊥
whole_stays [] m e h = cc
whole_stays (c ∷ cs) m e h = let g : None ≡ Some (Further e) = sym (entity_nothing cs) ∙ h in cc

none_stays : (cs : List ℕ) (e : Entity) → entity_run None cs ≡ Some (Further e) → ⊥
none_stays cs e h = let g : None ≡ Some (Further e) = sym (entity_nothing cs) ∙ h in cc

further_same : (e e' : Entity) → Some (Further e) ≡ Some (Further e') → e ≡ e'
further_same e e' h = cc

turn_on : (f : Entity → State) (g : ℕ → State) (e : Entity) (c : ℕ) (cs : List ℕ) (p : Position) (e' : Entity) (o : Option Turn) → step p (f e) c ≡ turned f g o → entity_run o cs ≡ Some (Further e')
    → ((d : Entity) → entity_run (Some (Further d)) cs ≡ Some (Further e') → Goes (after p c) (f d) cs (f e')) → Goes p (f e) (c ∷ cs) (f e')
turn_on f g e c cs p e' None h r k = absurd (none_stays cs e' r)
turn_on f g e c cs p e' (Some (Further d)) h r k = one_then h (k d r)
turn_on f g e c cs p e' (Some (Whole m)) h r k = absurd (whole_stays cs m e' r)

entity_on : (f : Entity → State) (g : ℕ → State) → ((p : Position) (e : Entity) (c : ℕ) → step p (f e) c ≡ turned f g (entity_step e c)) → (cs : List ℕ) (e : Entity) (p : Position) (e' : Entity) → entity_run (Some (Further e)) cs ≡ Some (Further e') → Goes p (f e) cs (f e')
entity_on f g k [] e p e' r = ends_at (ap f (further_same e e' r)) stays
entity_on f g k (c ∷ cs) e p e' r = turn_on f g e c cs p e' (entity_step e c) (k p e c) r (λ d r'. entity_on f g k cs d (after p c) e' r')

abbrev Broken : Reference → Type 0
Broken r = (f : List ℕ) × (e : Entity) × (reference_text r ≡ (38 ∷ f) ++ (59 ∷ [])) × (entity_run (Some (Further Begun)) f ≡ Some (Further e))

broken : (r : Reference) → Reference_ok r → Broken r
broken r o =
    let l = reference_last r in
    let h : turn_step (entity_run (Some (Further Begun)) l.0) 59 ≡ Some (Whole (stands_for r)) = sym (entity_snoc (Some (Further Begun)) l.0 59) ∙ (ap (entity_run (Some (Further Begun))) (sym l.1) ∙ reference_run r o) in
    let f = further_of (entity_run (Some (Further Begun)) l.0) 59 (stands_for r) h in
    (l.0, f.0, sym (reference_parts r) ∙ ap (λ y. 38 ∷ y) l.1, f.1)

-- the state before the last character -------------------------------------------------------------

-- where the last sign of a text begins, by the state before its last character
abbrev pub SignAt : List ℕ → Position → Type 0
SignAt front p = (s : State) × StateAt front s × (p ≡ sign_position (after_all start front) s.mode)

last_text : (front : List ℕ) (c : ℕ) (p : Path) (i : Items) (a b : Part) (d : ℕ) → front ++ (c ∷ []) ≡ zip_text p i a → part_text a ≡ part_text b ++ (d ∷ []) → front ≡ zip_text p i b
last_text front c p i a b d w e = (last_same front (zip_text p i b) c d (w ∙ (ap (λ y. (path_text p ++ items_text i) ++ y) e ∙ sym (append_assoc (path_text p ++ items_text i) (part_text b) (d ∷ []))))).0

begun_by : (front : List ℕ) (p : Path) (i : Items) (a b : Part) (text : List ℕ) → IsBegun text p i a → Part_ok p i b → front ≡ zip_text p i b → IsBegun front p i b
begun_by front p i a b text x o w = record { path_ok = x.path_ok; items_ok = x.items_ok; part_ok = o; written = w }

each_less : (P : ℕ → Type 0) (a : List ℕ) (c : ℕ) → Each P (a ++ (c ∷ [])) → Each P a
each_less P [] c x = tt
each_less P (d ∷ a) c x = (x.0, each_less P a c x.1)

name_less : (n : List ℕ) (c : ℕ) → length n ≡ 4096 → IsName (n ++ (c ∷ [])) → IsName n
name_less [] c e o = absurd (let h : 0 ≡ 4096 = e in grind arith)
name_less (d ∷ n) c e o = (o.0, each_less IsNamed n c o.1)

value_less : (u : Quote) (v : List Sign) (s : Sign) → Value_ok u (v ++ (s ∷ [])) → Value_ok u v × Value_sign_ok u s
value_less u [] s o = (tt, o.0)
value_less u (x ∷ v) s o = ((o.0, (value_less u v s o.1).0), (value_less u v s o.1).1)

-- at a part that is a sign by itself less
plain_sign : (front : List ℕ) (p : Path) (i : Items) (b : Part) (q : Position) (before : List ℕ) → StateAt front (state_of p i b) → front ≡ before → q ≡ after_all start before → ((r : Position) → sign_position r (mode_of (here p i) b) ≡ r) → SignAt front q
plain_sign front p i b q before s w k m = (state_of p i b, s, k ∙ (ap (after_all start) (sym w) ∙ sym (m (after_all start front))))

-- at a reference: its `&` is told by the mode
reference_sign : (front before : List ℕ) (c : ℕ) (r : Reference) (o : Reference_ok r) (s : State) (f : Entity → State) (g : ℕ → State) (q : Position) → front ++ (c ∷ []) ≡ before ++ reference_text r → StateAt before s → step (after_all start before) s 38 ≡ Some (f Begun)
    → ((p : Position) (e : Entity) (d : ℕ) → step p (f e) d ≡ turned f g (entity_step e d)) → ((p : Position) (e : Entity) → q ≡ sign_position p (f e).mode) → SignAt front q
reference_sign front before c r o s f g q w h a k m =
    let b = broken r o in
    let e : front ≡ before ++ (38 ∷ b.0) = (last_same front (before ++ (38 ∷ b.0)) c 59 (w ∙ (ap (λ y. before ++ y) b.2 ∙ sym (append_assoc before (38 ∷ b.0) (59 ∷ []))))).0 in
    let t : Goes (after (after_all start before) 38) (f Begun) b.0 (f b.1) = entity_on f g k b.0 Begun (after (after_all start before) 38) b.1 b.3 in (
      f b.1,
      ap (run start (Some initial)) e ∙ (run-append start (Some initial) before (38 ∷ b.0) ∙ (ap (λ (y : Option State). run (after_all start before) y (38 ∷ b.0)) h ∙ (ap (λ (y : Option State). run (after (after_all start before) 38) y b.0) a ∙ t.is))),
      m (after_all start front) b.1,
    )

value_sign : (front : List ℕ) (c : ℕ) (p : Path) (i : Items) (t : Tag) (key w v : List ℕ) (u : Quote) (value : List Sign) (s : Sign) (q : Position) → IsBegun (front ++ (c ∷ [])) p i (PQuoted t key w v u (value ++ (s ∷ [])))
    → q ≡ after_all start (zip_text p i (PQuoted t key w v u value)) → SignAt front q
value_sign front c p i t key w v u value (Plain d) q b k =
    let o = b.part_ok in
    let e = last_text front c p i (PQuoted t key w v u (value ++ (Plain d ∷ []))) (PQuoted t key w v u value) d b.written (sym (value_text t key w v u value (Plain d))) in
    plain_sign front p i (PQuoted t key w v u value) q (zip_text p i (PQuoted t key w v u value))
    (quoted_at front p i t key w v u value (begun_by front p i (PQuoted t key w v u (value ++ (Plain d ∷ []))) (PQuoted t key w v u value) (front ++ (c ∷ [])) b (o.0, o.1, o.2, (value_less u value (Plain d) o.3).0) e)) e k (λ r. refl)
value_sign front c p i t key w v u value (Stands r) q b k =
    let o = b.part_ok in
    let before : List ℕ = zip_text p i (PQuoted t key w v u value) in
    let x = begun_by before p i (PQuoted t key w v u (value ++ (Stands r ∷ []))) (PQuoted t key w v u value) (front ++ (c ∷ [])) b (o.0, o.1, o.2, (value_less u value (Stands r) o.3).0) refl in
    reference_sign front before c r (value_less u value (Stands r) o.3).1 (state_of p i (PQuoted t key w v u value))
    (λ e. as_state (held_of p i) (ValueReferring (head_of (here p i) t) (after_all (here p i) (tag_text t)) key u (value_of value) (length value) (after_all start before) e))
    (λ y. as_state (held_of p i) (Quoted (head_of (here p i) t) (after_all (here p i) (tag_text t)) key u (value_of value ++ encode y) (length value + 1))) q
    (b.written ∙ (ap (λ y. (path_text p ++ items_text i) ++ y) (sym (value_text t key w v u value (Stands r))) ∙ sym (append_assoc (path_text p ++ items_text i) (value_part t key w v u value) (reference_text r))))
    (quoted_at before p i t key w v u value x)
    (value_ampersand (held_of p i) (after_all start before) (head_of (here p i) t) (after_all (here p i) (tag_text t)) key u (value_of value) (length value))
    (λ y e d. value_turned (held_of p i) y (head_of (here p i) t) (after_all (here p i) (tag_text t)) key u (value_of value) (length value) (after_all start before) (entity_step e d))
    (λ y e. k)

sign_of : (p : Path) (i : Items) (s : Sign) → IsWithin p → Items_ok p (Shown i s) → Items_ok p i × Sign_ok s
sign_of Top i s w o = absurd w
sign_of (Within p j t) i s w o = o

run_sign : (front : List ℕ) (c : ℕ) (p : Path) (i : Items) (s : Sign) (q : Position) → IsWithin p → IsBegun (front ++ (c ∷ [])) p (Shown i s) PInside → q ≡ after_all start (path_text p ++ items_text i) → SignAt front q
run_sign front c p i (Plain d) q w b k =
    let o = sign_of p i (Plain d) w b.items_ok in
    let e : front ≡ path_text p ++ items_text i = (last_same front (path_text p ++ items_text i) c d (b.written ∙ (append-nil (path_text p ++ (items_text i ++ (d ∷ []))) ∙ sym (append_assoc (path_text p) (items_text i) (d ∷ []))))).0 in
    (state_of p i PInside, ap (run start (Some initial)) e ∙ (inside_goes p i b.path_ok o.0).is, k ∙ ap (after_all start) (sym e))
run_sign front c p i (Stands r) q w b k =
    let o = sign_of p i (Stands r) w b.items_ok in
    reference_sign front (path_text p ++ items_text i) c r o.1 (state_of p i PInside) (λ e. as_state (held_of p i) (Referring (here p i) e)) (λ n. as_state (with_sign (here p i) n (held_of p i)) Inside) q
    (b.written ∙ (append-nil (path_text p ++ (items_text i ++ reference_text r)) ∙ sym (append_assoc (path_text p) (items_text i) (reference_text r))))
    (inside_goes p i b.path_ok o.0).is
    (ap (λ (y : Position). step y (state_of p i PInside) 38) (here_place p i) ∙ ampersand_inside p i w)
    (λ y e d. referring_turned (held_of p i) (here p i) (entity_step e d))
    (λ y e. k ∙ here_place p i)

with_part : (text : List ℕ) (p : Path) (i : Items) (a b : Part) → a ≡ b → IsBegun text p i a → IsBegun text p i b
with_part text p i a b e x = subst (λ (y : Part). IsBegun text p i y) e x

pub sign_at : (front : List ℕ) (c : ℕ) (p : Path) (i : Items) (a : Part) (before : List ℕ) (q : Position) → IsBegun (front ++ (c ∷ [])) p i a → IsPast p i a before → q ≡ after_all start before → SignAt front q
sign_at front c p i a before q b (InRun j s w ei ea n h) k = run_sign front c p j s q w (subst (λ (y : Items). IsBegun (front ++ (c ∷ [])) p y PInside) ei (with_part (front ++ (c ∷ [])) p i a PInside ea b)) (k ∙ ap (after_all start) h)
sign_at front c p i a before q b (InValue t key w v u value s e n h) k = value_sign front c p i t key w v u value s q (with_part (front ++ (c ∷ [])) p i a (PQuoted t key w v u (value ++ (s ∷ []))) e b) (k ∙ ap (after_all start) h)
sign_at front c p i a before q b (InName m d e n h) k =
    let x = with_part (front ++ (c ∷ [])) p i a (PNaming (m ++ (d ∷ []))) e b in
    let f = last_text front c p i (PNaming (m ++ (d ∷ []))) (PNaming m) d x.written refl in
    plain_sign front p i (PNaming m) q before (naming_at front p i m (begun_by front p i (PNaming (m ++ (d ∷ []))) (PNaming m) (front ++ (c ∷ [])) x (x.part_ok.0, name_less m d n x.part_ok.1) f)) (f ∙ sym h) k (λ r. refl)
sign_at front c p i a before q b (InKey t key d e n h) k =
    let x = with_part (front ++ (c ∷ [])) p i a (PKeyed t (key ++ (d ∷ []))) e b in
    let o = x.part_ok.1 in
    let f = last_text front c p i (PKeyed t (key ++ (d ∷ []))) (PKeyed t key) d x.written (sym (append_assoc (tag_text t) key (d ∷ []))) in
    plain_sign front p i (PKeyed t key) q before (keyed_at front p i t key (begun_by front p i (PKeyed t (key ++ (d ∷ []))) (PKeyed t key) (front ++ (c ∷ [])) x (x.part_ok.0, (o.0, o.1, name_less key d n o.2)) f)) (f ∙ sym h) k (λ r. refl)
sign_at front c p i a before q b (InInstruction m d e n h) k =
    let x = with_part (front ++ (c ∷ [])) p i a (PInstructing (m ++ (d ∷ []))) e b in
    let f = last_text front c p i (PInstructing (m ++ (d ∷ []))) (PInstructing m) d x.written refl in
    plain_sign front p i (PInstructing m) q before (instructing_at front p i m (begun_by front p i (PInstructing (m ++ (d ∷ []))) (PInstructing m) (front ++ (c ∷ [])) x (name_less m d n x.part_ok) f)) (f ∙ sym h) k (λ r. refl)

pub length_place : (front : List ℕ) (c : ℕ) (q : Position) → PassesLength (front ++ (c ∷ [])) q → SignAt front q
length_place front c q x = sign_at front c x.path x.items x.part x.before q x.begun x.past x.position

pub depth_place : (text : List ℕ) (q : Position) → PassesDepth text q → (s : State) × (n : List ℕ) × StateAt text s × (s.mode ≡ Naming q n)
depth_place text q x = (state_of x.path x.items (PNaming x.name), x.name, naming_at text x.path x.items x.name x.begun, ap (λ (y : Position). Naming y x.name) (sym (here_place x.path x.items) ∙ sym x.position))

-- an element begins too deep only before its name is long

stack_depths : (p : Path) → stack_depth (stack_of p) ≡ depth_of p
stack_depths Top = refl
stack_depths (Within p i t) = ap suc (stack_depths p)

deep_before : (front : List ℕ) (c : ℕ) (p : Path) (i : Items) (a : Part) (before : List ℕ) (q : Position) (s : State) (n : List ℕ) → IsBegun (front ++ (c ∷ [])) p i a → IsPast p i a before → StateAt (front ++ (c ∷ [])) s → s.mode ≡ Naming q n → 128 ≤ stack_depth s.held.stack → (r : Position) × PassesDepth front r
deep_before front c p i a before q s n b (InRun j y w ei ea m h) st sm d =
    let x = inside_at (front ++ (c ∷ [])) p (Shown j y) (subst (λ (z : Items). IsBegun (front ++ (c ∷ [])) p z PInside) ei (with_part (front ++ (c ∷ [])) p i a PInside ea b)) in
    let g : Inside ≡ Naming q n = ap (λ (z : State). z.mode) (some_same (sym x ∙ st)) ∙ sm in
    absurd (cc)
deep_before front c p i a before q s n b (InValue t key w v u value y e m h) st sm d =
    let x = quoted_at (front ++ (c ∷ [])) p i t key w v u (value ++ (y ∷ [])) (with_part (front ++ (c ∷ [])) p i a (PQuoted t key w v u (value ++ (y ∷ []))) e b) in
    let g : (state_of p i (PQuoted t key w v u (value ++ (y ∷ [])))).mode ≡ Naming q n = ap (λ (z : State). z.mode) (some_same (sym x ∙ st)) ∙ sm in
    absurd (cc)
deep_before front c p i a before q s n b (InName m k e l h) st sm d =
    let x = with_part (front ++ (c ∷ [])) p i a (PNaming (m ++ (k ∷ []))) e b in
    let f = last_text front c p i (PNaming (m ++ (k ∷ []))) (PNaming m) k x.written refl in
    let y = naming_at (front ++ (c ∷ [])) p i (m ++ (k ∷ [])) x in (
      after_all start (path_text p ++ items_text i),
      record {
        path = p;
        items = i;
        name = m;
        begun = begun_by front p i (PNaming (m ++ (k ∷ []))) (PNaming m) (front ++ (c ∷ [])) x (x.part_ok.0, name_less m k l x.part_ok.1) f;
        deep = subst (λ z. 128 ≤ z) (ap (λ (z : State). stack_depth z.held.stack) (some_same (sym st ∙ y)) ∙ stack_depths p) d;
        position = refl;
      },
    )
deep_before front c p i a before q s n b (InKey t key k e l h) st sm d =
    let x = keyed_at (front ++ (c ∷ [])) p i t (key ++ (k ∷ [])) (with_part (front ++ (c ∷ [])) p i a (PKeyed t (key ++ (k ∷ []))) e b) in
    let g : (state_of p i (PKeyed t (key ++ (k ∷ [])))).mode ≡ Naming q n = ap (λ (z : State). z.mode) (some_same (sym x ∙ st)) ∙ sm in
    absurd (cc)
deep_before front c p i a before q s n b (InInstruction m k e l h) st sm d =
    let x = instructing_at (front ++ (c ∷ [])) p i (m ++ (k ∷ [])) (with_part (front ++ (c ∷ [])) p i a (PInstructing (m ++ (k ∷ []))) e b) in
    let g : (state_of p i (PInstructing (m ++ (k ∷ [])))).mode ≡ Naming q n = ap (λ (z : State). z.mode) (some_same (sym x ∙ st)) ∙ sm in
    absurd (cc)

pub not_both : (front : List ℕ) (c : ℕ) (p q : Position) → PassesDepth (front ++ (c ∷ [])) p → PassesLength (front ++ (c ∷ [])) q → (r : Position) × PassesDepth front r
not_both front c p q x y =
    deep_before front c y.path y.items y.part y.before p (state_of x.path x.items (PNaming x.name)) x.name y.begun y.past (naming_at (front ++ (c ∷ [])) x.path x.items x.name x.begun)
    (ap (λ (z : Position). Naming z x.name) (sym (here_place x.path x.items) ∙ sym x.position)) (subst (λ z. 128 ≤ z) (sym (stack_depths x.path)) x.deep)
