-- The limits on depth and length: where the machine passes one, the beginning does, and the other way round.
-- Above the steps and what is written; code cites it.
use Rattle.std.proofs.Common.{◌≡◌, ℕ, ◌+◌, ◌≤◌, Bool, true, false, ◌||◌, List, [], ◌∷◌, ◌++◌, Option, Some, None, length, refl, sym, ◌∙◌, ap, subst, append_assoc, append-nil, length-append, arith, suc}
use lib.Dec.{eqb, ltb, leb}
use lib.Utf8.{encodes}
use Rattle.fx_doc_grammar.specs.Characters.{class_of, in_name}
use Rattle.fx_base.specs.Positions.{start, after_all}
use Rattle.fx_doc_grammar.specs.Grammar.{IsName, Sign, Plain, Stands, sign_text, sign_code, is_plain, is_quote, Tag, tag_text, Items, Empty, Shown, Comment, Instruction, Leaf, Branch, items_text, Head, Level, value_of, head_of, level_of}
use Rattle.fx_doc_grammar.specs.Machine.{entity_step, Stack, Bottom, Opened, Held, Inside, Referring, Instructing, Naming, Keyed, KeySpaced, Signed, Ending, State, at, some_if, is_open, may_begin, with_sign, close_in, begin_end, is_fresh, in_inside, in_referring, in_opening, in_banged, in_bang_dashed, in_commented, in_dashed, in_dash_dashed, in_asked, in_instructing, in_name_asked, in_instructed, in_end_asked, in_naming, in_spaced, in_tight, in_keyed, in_key_spaced, in_signed, in_value, in_quoted, in_value_referring, in_slashed, in_ended, in_ending, step, stack_depth, mode_long, level_long, is_long, sign_position}
use Rattle.fx_doc_grammar.specs.Beginnings.{Path, Top, Within, Part, PInside, PReferring, PLess, PBang, PBangDash, PComment, PDashed, PDashDashed, PAsk, PInstructing, PNameAsked, PInstructed, PEndAsked, PNaming, PSpaced, PTight, PKeyed, PKeySpaced, PSigned, PQuoted, PValueReferring, PSlashed, PEnding, PEnded, entity_text, value_part, part_text, path_text, zip_text, Items_ok, IsWithin, Path_ok, Part_ok, depth_of, run_count, PassesDepth, IsPast, InRun, InValue, InName, InKey, InInstruction, PassesLength}
use Rattle.fx_doc_grammar.proofs.States.{place_at, here, level_at, stack_of, held_of, mode_of, state_of, Reached, here_place, zip_place, white_ok, sign_ok, within_open, value_more, name_more}
use Rattle.fx_doc_grammar.proofs.Marks.{as_state}
use Rattle.fx_doc_grammar.proofs.References.{Turns, entity_goes}
use Rattle.fx_doc_grammar.proofs.Steps.{Placed, some_same, none_some, if_some, named_at}
use Rattle.fx_doc_grammar.proofs.Tags.{value_text}
use Rattle.fx_doc_grammar.specs.declared.Class.{Class}
use Rattle.fx_doc_grammar.specs.declared.Class.TheVariants.{White, Less, Greater, Slash, Equals, Bang, Question, Dash, Quotation, Apostrophe, Ampersand, Letter}
use Rattle.fx_doc_grammar.specs.declared.Quote.{Quote}
use Rattle.fx_doc_grammar.specs.declared.Entity.{Entity}
use Rattle.fx_doc_grammar.specs.declared.Entity.TheVariants.{Begun}
use Rattle.fx_doc_grammar.specs.declared.Turn.{Turn}
use Rattle.fx_doc_grammar.specs.declared.Turn.TheVariants.{Further, Whole}
use Rattle.fx_base.specs.declared.positions.Position.{Position}

-- steps that pass no limit ------------------------------------------------------------------------

abbrev Quiet : Option State → Type 0
Quiet None = Unit {0}
Quiet (Some s) = is_long s ≡ false

pub true_false : {X : Type 0} {b : Bool} → b ≡ true → b ≡ false → X
true_false e f = absurd (let h : true ≡ false = sym e ∙ f in cc)

hush : {X : Type 0} (o : Option State) (s : State) → Quiet o → o ≡ Some s → is_long s ≡ true → X
hush None s n h l = absurd (none_some h)
hush (Some x) s n h l = true_false l (ap is_long (sym (some_same h)) ∙ n)

or_false : (a b : Bool) → (a || b) ≡ false → (a ≡ false) × (b ≡ false)
or_false true b e = cc
or_false false b e = (refl, e)

or_left : (a b : Bool) → (a || b) ≡ true → b ≡ false → a ≡ true
or_left true b e f = refl
or_left false b e f = true_false e f

quiet_if : (b : Bool) (o : Option State) → Quiet o → Quiet (some_if b o)
quiet_if true o n = n
quiet_if false o n = tt

quiet_begin_end : (s : Stack) (h : Held) → level_long h ≡ false → Quiet (begin_end s h)
quiet_begin_end Bottom h n = tt
quiet_begin_end (Opened s l d) h n = n

quiet_close : (imports : List (List ℕ)) (s : Stack) (l : Level) → Quiet (close_in imports s l)
quiet_close imports Bottom l = tt
quiet_close imports (Opened s b d) l = refl

quiet_less : (q : Position) (h : Held) (c : ℕ) → level_long h ≡ false → (k : Class) → Quiet (in_opening q h c k)
quiet_less q h c n Letter = quiet_if (may_begin h) (at h (Naming q (c ∷ []))) n
quiet_less q h c n Bang = n
quiet_less q h c n Question = n
quiet_less q h c n Slash = quiet_begin_end h.stack h n
quiet_less q h c n k = tt

quiet_banged : (h : Held) → level_long h ≡ false → (k : Class) → Quiet (in_banged h k)
quiet_banged h n Dash = n
quiet_banged h n k = tt

quiet_bang_dashed : (h : Held) → level_long h ≡ false → (k : Class) → Quiet (in_bang_dashed h k)
quiet_bang_dashed h n Dash = n
quiet_bang_dashed h n k = tt

quiet_commented : (h : Held) → level_long h ≡ false → (k : Class) → Quiet (in_commented h k)
quiet_commented h n Dash = n
quiet_commented h n k = n

quiet_dashed : (h : Held) → level_long h ≡ false → (k : Class) → Quiet (in_dashed h k)
quiet_dashed h n Dash = n
quiet_dashed h n k = n

quiet_dash_dashed : (h : Held) → level_long h ≡ false → (k : Class) → Quiet (in_dash_dashed h k)
quiet_dash_dashed h n Dash = n
quiet_dash_dashed h n Greater = n
quiet_dash_dashed h n k = n

quiet_asked : (h : Held) (c : ℕ) → level_long h ≡ false → (k : Class) → Quiet (in_asked h c k)
quiet_asked h c n Letter = n
quiet_asked h c n k = tt

quiet_name_asked : (name : List ℕ) (h : Held) → level_long h ≡ false → (k : Class) → Quiet (in_name_asked name h k)
quiet_name_asked name h n Greater = n
quiet_name_asked name h n k = tt

quiet_instructed : (name x : List ℕ) (h : Held) (c : ℕ) → level_long h ≡ false → (k : Class) → Quiet (in_instructed name x h c k)
quiet_instructed name x h c n Question = n
quiet_instructed name x h c n k = n

quiet_end_asked : (name x : List ℕ) (h : Held) (c : ℕ) → level_long h ≡ false → (k : Class) → Quiet (in_end_asked name x h c k)
quiet_end_asked name x h c n Greater = n
quiet_end_asked name x h c n Question = n
quiet_end_asked name x h c n k = n

quiet_spaced : (p : Position) (head : Head) (h : Held) (c : ℕ) → level_long h ≡ false → (k : Class) → Quiet (in_spaced p head h c k)
quiet_spaced p head h c n White = n
quiet_spaced p head h c n Slash = n
quiet_spaced p head h c n Greater = refl
quiet_spaced p head h c n Letter = n
quiet_spaced p head h c n k = tt

quiet_tight : (head : Head) (h : Held) → level_long h ≡ false → (k : Class) → Quiet (in_tight head h k)
quiet_tight head h n White = n
quiet_tight head h n Slash = n
quiet_tight head h n Greater = refl
quiet_tight head h n k = tt

quiet_key_spaced : (head : Head) (q : Position) (key : List ℕ) (h : Held) → level_long h ≡ false → (k : Class) → Quiet (in_key_spaced head q key h k)
quiet_key_spaced head q key h n White = n
quiet_key_spaced head q key h n Equals = n
quiet_key_spaced head q key h n k = tt

quiet_signed : (head : Head) (q : Position) (key : List ℕ) (h : Held) → level_long h ≡ false → (k : Class) → Quiet (in_signed head q key h k)
quiet_signed head q key h n White = n
quiet_signed head q key h n Quotation = n
quiet_signed head q key h n Apostrophe = n
quiet_signed head q key h n k = tt

quiet_slashed : (head : Head) (h : Held) → (k : Class) → Quiet (in_slashed head h k)
quiet_slashed head h Greater = refl
quiet_slashed head h k = tt

quiet_ended : (h : Held) → level_long h ≡ false → (k : Class) → Quiet (in_ended h k)
quiet_ended h n White = n
quiet_ended h n Greater = quiet_close h.imports h.stack h.level
quiet_ended h n k = tt

quiet_ending : (rest : List ℕ) (h : Held) (c : ℕ) → level_long h ≡ false → (k : Class) → Quiet (in_ending rest h c k)
quiet_ending [] h c n k = quiet_ended h n k
quiet_ending (x ∷ rest) h c n k = quiet_if (eqb c x) (at h (Ending rest)) n

-- steps that may pass one -------------------------------------------------------------------------

exactly : (n : ℕ) → ltb 4096 n ≡ false → ltb 4096 (n + 1) ≡ true → n ≡ 4096
exactly n e f = grind (arith, e, f)

one_longer : (n : List ℕ) (c : ℕ) → length (n ++ (c ∷ [])) ≡ length n + 1
one_longer n c = length-append n (c ∷ [])

full_name : (n : List ℕ) (c : ℕ) → ltb 4096 (length n) ≡ false → ltb 4096 (length (n ++ (c ∷ []))) ≡ true → length n ≡ 4096
full_name n c e f = exactly (length n) e (sym (ap (λ y. ltb 4096 y) (one_longer n c)) ∙ f)

-- what is known of a step that passes the length
abbrev Past : Path → Items → Part → ℕ → Type 0
Past p i a c = PassesLength (zip_text p i a ++ (c ∷ [])) (sign_position (after_all (here p i) (part_text a)) (mode_of (here p i) a))

-- a sign more in the part at hand
past_part : (p : Path) (i : Items) (a a0 b : Part) (c : ℕ) (q : Position) → Placed p i → Part_ok p i b → part_text a ++ (c ∷ []) ≡ part_text b → IsPast p i b (zip_text p i a0) → q ≡ after_all (here p i) (part_text a0) → PassesLength (zip_text p i a ++ (c ∷ [])) q
past_part p i a a0 b c q o k e x w = record {
  path = p;
  items = i;
  part = b;
  before = zip_text p i a0;
  begun = record { path_ok = o.0; items_ok = o.1; part_ok = k; written = append_assoc (path_text p ++ items_text i) (part_text a) (c ∷ []) ∙ ap (λ z. (path_text p ++ items_text i) ++ z) e };
  past = x;
  position = w ∙ sym (zip_place p i a0);
}

name_grows : (p : Path) (i : Items) (n : List ℕ) (c : ℕ) (s : State) → Placed p i → Part_ok p i (PNaming n) → ltb 4096 (length n) ≡ false → level_long (held_of p i) ≡ false → is_long s ≡ true
    → (k : Class) → class_of c ≡ k → some_if (in_name k) (at (held_of p i) (Naming (here p i) (n ++ (c ∷ [])))) ≡ Some s → Past p i (PNaming n) c
name_grows p i n c s o z ml ll l k e h =
    let r = if_some (in_name k) (at (held_of p i) (Naming (here p i) (n ++ (c ∷ [])))) s h in
    let f = full_name n c ml (or_left (ltb 4096 (length (n ++ (c ∷ [])))) (level_long (held_of p i)) (ap is_long (some_same r.1) ∙ l) ll) in
    past_part p i (PNaming n) (PNaming n) (PNaming (n ++ (c ∷ []))) c (after_all (here p i) (60 ∷ n)) o (z.0, name_more n c z.1 (named_at c k e r.0)) refl (InName n c refl f refl) refl

past_naming : (p : Path) (i : Items) (n : List ℕ) (c : ℕ) (s : State) → Placed p i → Part_ok p i (PNaming n) → ltb 4096 (length n) ≡ false → level_long (held_of p i) ≡ false → is_long s ≡ true
    → (k : Class) → class_of c ≡ k → in_naming (here p i) n (held_of p i) c k ≡ Some s → Past p i (PNaming n) c
past_naming p i n c s o z ml ll l White e h = hush (in_naming (here p i) n (held_of p i) c White) s ll h l
past_naming p i n c s o z ml ll l Slash e h = hush (in_naming (here p i) n (held_of p i) c Slash) s ll h l
past_naming p i n c s o z ml ll l Greater e h = hush (in_naming (here p i) n (held_of p i) c Greater) s refl h l
past_naming p i n c s o z ml ll l k e h = name_grows p i n c s o z ml ll l k e h

instruction_grows : (p : Path) (i : Items) (n : List ℕ) (c : ℕ) (s : State) → Placed p i → IsName n → ltb 4096 (length n) ≡ false → level_long (held_of p i) ≡ false → is_long s ≡ true
    → (k : Class) → class_of c ≡ k → some_if (in_name k) (at (held_of p i) (Instructing (n ++ (c ∷ [])))) ≡ Some s → Past p i (PInstructing n) c
instruction_grows p i n c s o z ml ll l k e h =
    let r = if_some (in_name k) (at (held_of p i) (Instructing (n ++ (c ∷ [])))) s h in
    let f = full_name n c ml (or_left (ltb 4096 (length (n ++ (c ∷ [])))) (level_long (held_of p i)) (ap is_long (some_same r.1) ∙ l) ll) in
    past_part p i (PInstructing n) (PInstructing n) (PInstructing (n ++ (c ∷ []))) c (after_all (here p i) (60 ∷ (63 ∷ n))) o (name_more n c z (named_at c k e r.0)) refl (InInstruction n c refl f refl) refl

past_instructing : (p : Path) (i : Items) (n : List ℕ) (c : ℕ) (s : State) → Placed p i → IsName n → ltb 4096 (length n) ≡ false → level_long (held_of p i) ≡ false → is_long s ≡ true
    → (k : Class) → class_of c ≡ k → in_instructing n (held_of p i) c k ≡ Some s → Past p i (PInstructing n) c
past_instructing p i n c s o z ml ll l White e h = hush (in_instructing n (held_of p i) c White) s ll h l
past_instructing p i n c s o z ml ll l Question e h = hush (in_instructing n (held_of p i) c Question) s ll h l
past_instructing p i n c s o z ml ll l k e h = instruction_grows p i n c s o z ml ll l k e h

key_grows : (p : Path) (i : Items) (t : Tag) (key : List ℕ) (c : ℕ) (s : State) → Placed p i → Part_ok p i (PKeyed t key) → ltb 4096 (length key) ≡ false → level_long (held_of p i) ≡ false → is_long s ≡ true
    → (k : Class) → class_of c ≡ k → some_if (in_name k) (at (held_of p i) (Keyed (head_of (here p i) t) (after_all (here p i) (tag_text t)) (key ++ (c ∷ [])))) ≡ Some s → Past p i (PKeyed t key) c
key_grows p i t key c s o z ml ll l k e h =
    let r = if_some (in_name k) (at (held_of p i) (Keyed (head_of (here p i) t) (after_all (here p i) (tag_text t)) (key ++ (c ∷ [])))) s h in
    let f = full_name key c ml (or_left (ltb 4096 (length (key ++ (c ∷ [])))) (level_long (held_of p i)) (ap is_long (some_same r.1) ∙ l) ll) in
    past_part p i (PKeyed t key) (PKeyed t key) (PKeyed t (key ++ (c ∷ []))) c (after_all (here p i) (tag_text t ++ key)) o (z.0, (z.1.0, z.1.1, name_more key c z.1.2 (named_at c k e r.0))) (append_assoc (tag_text t) key (c ∷ [])) (InKey t key c refl f refl) refl

past_keyed : (p : Path) (i : Items) (t : Tag) (key : List ℕ) (c : ℕ) (s : State) → Placed p i → Part_ok p i (PKeyed t key) → ltb 4096 (length key) ≡ false → level_long (held_of p i) ≡ false → is_long s ≡ true
    → (k : Class) → class_of c ≡ k → in_keyed (head_of (here p i) t) (after_all (here p i) (tag_text t)) key (held_of p i) c k ≡ Some s → Past p i (PKeyed t key) c
past_keyed p i t key c s o z ml ll l White e h = hush (in_keyed (head_of (here p i) t) (after_all (here p i) (tag_text t)) key (held_of p i) c White) s (quiet_if (is_fresh key (head_of (here p i) t)) (at (held_of p i) (KeySpaced (head_of (here p i) t) (after_all (here p i) (tag_text t)) key)) ll) h l
past_keyed p i t key c s o z ml ll l Equals e h = hush (in_keyed (head_of (here p i) t) (after_all (here p i) (tag_text t)) key (held_of p i) c Equals) s (quiet_if (is_fresh key (head_of (here p i) t)) (at (held_of p i) (Signed (head_of (here p i) t) (after_all (here p i) (tag_text t)) key)) ll) h l
past_keyed p i t key c s o z ml ll l k e h = key_grows p i t key c s o z ml ll l k e h

-- values

value_grows : (p : Path) (i : Items) (t : Tag) (key w v : List ℕ) (u : Quote) (value : List Sign) (c : ℕ) (s : State) → Placed p i → Part_ok p i (PQuoted t key w v u value) → ltb 4096 (length value) ≡ false → level_long (held_of p i) ≡ false → is_long s ≡ true
    → (k : Class) → class_of c ≡ k → is_plain k ≡ true → (b : Bool) → is_quote u k ≡ b → in_value b (head_of (here p i) t) (after_all (here p i) (tag_text t)) key u (value_of value) (length value) (held_of p i) c k ≡ Some s → Past p i (PQuoted t key w v u value) c
value_grows p i t key w v u value c s o z ml ll l k e f true g h = hush (in_value true (head_of (here p i) t) (after_all (here p i) (tag_text t)) key u (value_of value) (length value) (held_of p i) c k) s ll h l
value_grows p i t key w v u value c s o z ml ll l k e f false g h =
    let n = exactly (length value) ml (or_left (ltb 4096 (length value + 1)) (level_long (held_of p i)) (ap is_long (some_same h) ∙ l) ll) in
    past_part p i (PQuoted t key w v u value) (PQuoted t key w v u value) (PQuoted t key w v u (value ++ (Plain c ∷ []))) c (after_all (here p i) (value_part t key w v u value)) o
    (z.0, z.1, z.2, value_more u value (Plain c) z.3 (ap is_plain e ∙ f, ap (λ y. is_quote u y) e ∙ g)) (value_text t key w v u value (Plain c)) (InValue t key w v u value (Plain c) refl n refl) refl

past_quoted : (p : Path) (i : Items) (t : Tag) (key w v : List ℕ) (u : Quote) (value : List Sign) (c : ℕ) (s : State) → Placed p i → Part_ok p i (PQuoted t key w v u value) → ltb 4096 (length value) ≡ false → level_long (held_of p i) ≡ false → is_long s ≡ true
    → (k : Class) → class_of c ≡ k → in_quoted (after_all (here p i) (value_part t key w v u value)) (head_of (here p i) t) (after_all (here p i) (tag_text t)) key u (value_of value) (length value) (held_of p i) c k ≡ Some s → Past p i (PQuoted t key w v u value) c
past_quoted p i t key w v u value c s o z ml ll l Less e h = absurd (none_some h)
past_quoted p i t key w v u value c s o z ml ll l Ampersand e h = true_false l (ap is_long (sym (some_same h)) ∙ (ap (λ y. y || level_long (held_of p i)) ml ∙ ll))
past_quoted p i t key w v u value c s o z ml ll l k e h = value_grows p i t key w v u value c s o z ml ll l k e refl (is_quote u k) refl h

value_turn_past : (p : Path) (i : Items) (t : Tag) (key w v : List ℕ) (u : Quote) (value : List Sign) (e : Entity) (ds : List ℕ) (c : ℕ) (s : State) → Placed p i → Part_ok p i (PQuoted t key w v u value) → ltb 4096 (length value) ≡ false → level_long (held_of p i) ≡ false → is_long s ≡ true
    → (x : Turn) → Turns (entity_text e ds ++ (c ∷ [])) x
    → in_value_referring (head_of (here p i) t) (after_all (here p i) (tag_text t)) key u (value_of value) (length value) (after_all (here p i) (value_part t key w v u value)) (held_of p i) (Some x) ≡ Some s → Past p i (PValueReferring t key w v u value e ds) c
value_turn_past p i t key w v u value e ds c s o z ml ll l (Further f) x h = true_false l (ap is_long (sym (some_same h)) ∙ (ap (λ y. y || level_long (held_of p i)) ml ∙ ll))
value_turn_past p i t key w v u value e ds c s o z ml ll l (Whole m) x h =
    let n = exactly (length value) ml (or_left (ltb 4096 (length value + 1)) (level_long (held_of p i)) (ap is_long (some_same h) ∙ l) ll) in
    past_part p i (PValueReferring t key w v u value e ds) (PQuoted t key w v u value) (PQuoted t key w v u (value ++ (Stands x.0 ∷ []))) c (after_all (here p i) (value_part t key w v u value)) o
    (z.0, z.1, z.2, value_more u value (Stands x.0) z.3 x.1)
    (append_assoc (value_part t key w v u value) (entity_text e ds) (c ∷ []) ∙ (ap (λ y. value_part t key w v u value ++ y) x.2 ∙ value_text t key w v u value (Stands x.0)))
    (InValue t key w v u value (Stands x.0) refl n refl) refl

past_value_referring : (p : Path) (i : Items) (t : Tag) (key w v : List ℕ) (u : Quote) (value : List Sign) (e : Entity) (ds : List ℕ) (c : ℕ) (s : State) → Placed p i → Part_ok p i (PValueReferring t key w v u value e ds) → ltb 4096 (length value) ≡ false → level_long (held_of p i) ≡ false → is_long s ≡ true
    → (x : Option Turn) → entity_step e c ≡ x
    → in_value_referring (head_of (here p i) t) (after_all (here p i) (tag_text t)) key u (value_of value) (length value) (after_all (here p i) (value_part t key w v u value)) (held_of p i) x ≡ Some s → Past p i (PValueReferring t key w v u value e ds) c
past_value_referring p i t key w v u value e ds c s o z ml ll l None g h = absurd (none_some h)
past_value_referring p i t key w v u value e ds c s o z ml ll l (Some x) g h = value_turn_past p i t key w v u value e ds c s o (z.0, z.1, z.2, z.3) ml ll l x (entity_goes e ds c x z.4 g) h

-- runs

grows : (p : Path) (i : Items) (x : Sign) → ltb 4096 (with_sign (here p i) (sign_code x) (held_of p i)).level.count ≡ true → IsWithin p × (ltb 4096 ((level_at p i).count + 1) ≡ true)
grows Top i x h = absurd (let e : false ≡ true = h in cc)
grows (Within p j t) i x h = (tt, h)

pub level_counts : (q : Position) (i : Items) → (level_of q i).count ≡ run_count i
level_counts q Empty = refl
level_counts q (Shown i s) = ap (λ y. y + 1) (level_counts q i)
level_counts q (Comment i x) = level_counts q i
level_counts q (Instruction i n x) = level_counts q i
level_counts q (Leaf i t) = refl
level_counts q (Branch i t inner w) = refl

at_within : (p : Path) (i : Items) → IsWithin p → (level_at p i).count ≡ run_count i
at_within Top i w = absurd w
at_within (Within p j t) i w = level_counts (place_at (Within p j t)) i

-- a sign more in a run
past_sign : (p : Path) (i : Items) (x : Sign) (a : Part) (c : ℕ) (s : State) (q : Position) → Path_ok p → Items_ok p (Shown i x) → level_long (held_of p i) ≡ false → is_long s ≡ true → Some (as_state (with_sign (here p i) (sign_code x) (held_of p i)) Inside) ≡ Some s
    → part_text a ++ (c ∷ []) ≡ sign_text x → q ≡ here p i → PassesLength (zip_text p i a ++ (c ∷ [])) q
past_sign p i x a c s q o k ll l h e w =
    let g = grows p i x (ap is_long (some_same h) ∙ l) in
    record {
      path = p;
      items = Shown i x;
      part = PInside;
      before = path_text p ++ items_text i;
      begun = record {
        path_ok = o;
        items_ok = k;
        part_ok = tt;
        written = append_assoc (path_text p ++ items_text i) (part_text a) (c ∷ []) ∙ (ap (λ z. (path_text p ++ items_text i) ++ z) e ∙ (append_assoc (path_text p) (items_text i) (sign_text x) ∙ sym (append-nil (path_text p ++ items_text (Shown i x)))));
      };
      past = InRun i x g.0 refl refl (sym (at_within p i g.0) ∙ exactly (level_at p i).count ll g.1) refl;
      position = w ∙ sym (here_place p i);
    }

open_sign : (p : Path) (i : Items) (c : ℕ) (s : State) → Placed p i → level_long (held_of p i) ≡ false → is_long s ≡ true → is_plain (class_of c) ≡ true → some_if (is_open (stack_of p)) (at (with_sign (here p i) c (held_of p i)) Inside) ≡ Some s → Past p i PInside c
open_sign p i c s o ll l k h =
    let r = if_some (is_open (stack_of p)) (at (with_sign (here p i) c (held_of p i)) Inside) s h in
    past_sign p i (Plain c) PInside c s (here p i) o.0 (sign_ok p i (Plain c) (within_open p r.0) o.1 k) ll l r.1 refl refl

past_inside : (p : Path) (i : Items) (c : ℕ) (s : State) → Placed p i → level_long (held_of p i) ≡ false → is_long s ≡ true → (k : Class) → class_of c ≡ k → in_inside (here p i) (held_of p i) c k ≡ Some s → Past p i PInside c
past_inside p i c s o ll l White e h = past_sign p i (Plain c) PInside c s (here p i) o.0 (white_ok p i c o.1 e) ll l h refl refl
past_inside p i c s o ll l Less e h = hush (in_inside (here p i) (held_of p i) c Less) s ll h l
past_inside p i c s o ll l Ampersand e h = hush (in_inside (here p i) (held_of p i) c Ampersand) s (quiet_if (is_open (stack_of p)) (at (held_of p i) (Referring (here p i) Begun)) ll) h l
past_inside p i c s o ll l k e h = open_sign p i c s o ll l (ap is_plain e) h

turn_past : (p : Path) (i : Items) (e : Entity) (ds : List ℕ) (c : ℕ) (s : State) → Placed p i → IsWithin p → level_long (held_of p i) ≡ false → is_long s ≡ true → (x : Turn) → Turns (entity_text e ds ++ (c ∷ [])) x
    → in_referring (here p i) (held_of p i) (Some x) ≡ Some s → Past p i (PReferring e ds) c
turn_past p i e ds c s o w ll l (Further f) x h = hush (in_referring (here p i) (held_of p i) (Some (Further f))) s ll h l
turn_past p i e ds c s o w ll l (Whole n) x h = past_sign p i (Stands x.0) (PReferring e ds) c s (here p i) o.0 (sign_ok p i (Stands x.0) w o.1 x.1) ll l
    (ap (λ y. at (with_sign (here p i) y (held_of p i)) Inside) (sym x.3) ∙ h) x.2 refl

past_referring : (p : Path) (i : Items) (e : Entity) (ds : List ℕ) (c : ℕ) (s : State) → Placed p i → Part_ok p i (PReferring e ds) → level_long (held_of p i) ≡ false → is_long s ≡ true → (x : Option Turn) → entity_step e c ≡ x
    → in_referring (here p i) (held_of p i) x ≡ Some s → Past p i (PReferring e ds) c
past_referring p i e ds c s o z ll l None g h = absurd (none_some h)
past_referring p i e ds c s o z ll l (Some x) g h = turn_past p i e ds c s o z.0 ll l x (entity_goes e ds c x z.1 g) h

-- one step

past : (p : Path) (i : Items) (a : Part) (c : ℕ) (s : State) → Placed p i → Part_ok p i a → (mode_long (mode_of (here p i) a) ≡ false) × (level_long (held_of p i) ≡ false) → is_long s ≡ true
    → step (after_all (here p i) (part_text a)) (state_of p i a) c ≡ Some s → Past p i a c
past p i PInside c s o z n l h = past_inside p i c s o n.1 l (class_of c) refl h
past p i (PReferring e ds) c s o z n l h = past_referring p i e ds c s o z n.1 l (entity_step e c) refl h
past p i PLess c s o z n l h = hush (in_opening (here p i) (held_of p i) c (class_of c)) s (quiet_less (here p i) (held_of p i) c n.1 (class_of c)) h l
past p i PBang c s o z n l h = hush (in_banged (held_of p i) (class_of c)) s (quiet_banged (held_of p i) n.1 (class_of c)) h l
past p i PBangDash c s o z n l h = hush (in_bang_dashed (held_of p i) (class_of c)) s (quiet_bang_dashed (held_of p i) n.1 (class_of c)) h l
past p i (PComment x) c s o z n l h = hush (in_commented (held_of p i) (class_of c)) s (quiet_commented (held_of p i) n.1 (class_of c)) h l
past p i (PDashed x) c s o z n l h = hush (in_dashed (held_of p i) (class_of c)) s (quiet_dashed (held_of p i) n.1 (class_of c)) h l
past p i (PDashDashed x) c s o z n l h = hush (in_dash_dashed (held_of p i) (class_of c)) s (quiet_dash_dashed (held_of p i) n.1 (class_of c)) h l
past p i PAsk c s o z n l h = hush (in_asked (held_of p i) c (class_of c)) s (quiet_asked (held_of p i) c n.1 (class_of c)) h l
past p i (PInstructing x) c s o z n l h = past_instructing p i x c s o z n.0 n.1 l (class_of c) refl h
past p i (PNameAsked x) c s o z n l h = hush (in_name_asked x (held_of p i) (class_of c)) s (quiet_name_asked x (held_of p i) n.1 (class_of c)) h l
past p i (PInstructed x y) c s o z n l h = hush (in_instructed x (encodes y) (held_of p i) c (class_of c)) s (quiet_instructed x (encodes y) (held_of p i) c n.1 (class_of c)) h l
past p i (PEndAsked x y) c s o z n l h = hush (in_end_asked x (encodes y) (held_of p i) c (class_of c)) s (quiet_end_asked x (encodes y) (held_of p i) c n.1 (class_of c)) h l
past p i (PNaming x) c s o z n l h = past_naming p i x c s o z n.0 n.1 l (class_of c) refl h
past p i (PSpaced t) c s o z n l h = hush (in_spaced (after_all (here p i) (tag_text t)) (head_of (here p i) t) (held_of p i) c (class_of c)) s (quiet_spaced (after_all (here p i) (tag_text t)) (head_of (here p i) t) (held_of p i) c n.1 (class_of c)) h l
past p i (PTight t) c s o z n l h = hush (in_tight (head_of (here p i) t) (held_of p i) (class_of c)) s (quiet_tight (head_of (here p i) t) (held_of p i) n.1 (class_of c)) h l
past p i (PKeyed t key) c s o z n l h = past_keyed p i t key c s o z n.0 n.1 l (class_of c) refl h
past p i (PKeySpaced t key w) c s o z n l h = hush (in_key_spaced (head_of (here p i) t) (after_all (here p i) (tag_text t)) key (held_of p i) (class_of c)) s (quiet_key_spaced (head_of (here p i) t) (after_all (here p i) (tag_text t)) key (held_of p i) n.1 (class_of c)) h l
past p i (PSigned t key w v) c s o z n l h = hush (in_signed (head_of (here p i) t) (after_all (here p i) (tag_text t)) key (held_of p i) (class_of c)) s (quiet_signed (head_of (here p i) t) (after_all (here p i) (tag_text t)) key (held_of p i) n.1 (class_of c)) h l
past p i (PQuoted t key w v u value) c s o z n l h = past_quoted p i t key w v u value c s o z n.0 n.1 l (class_of c) refl h
past p i (PValueReferring t key w v u value e ds) c s o z n l h = past_value_referring p i t key w v u value e ds c s o z n.0 n.1 l (entity_step e c) refl h
past p i (PSlashed t) c s o z n l h = hush (in_slashed (head_of (here p i) t) (held_of p i) (class_of c)) s (quiet_slashed (head_of (here p i) t) (held_of p i) (class_of c)) h l
past p i (PEnding said rest) c s o z n l h = hush (in_ending rest (held_of p i) c (class_of c)) s (quiet_ending rest (held_of p i) c n.1 (class_of c)) h l
past p i (PEnded x w) c s o z n l h = hush (in_ended (held_of p i) (class_of c)) s (quiet_ended (held_of p i) n.1 (class_of c)) h l

-- a step that passes the length
pub long_step : (text : List ℕ) (s : State) (c : ℕ) (s' : State) → Reached text s → step (after_all start text) s c ≡ Some s' → is_long s ≡ false → is_long s' ≡ true → PassesLength (text ++ (c ∷ [])) (sign_position (after_all start text) s.mode)
long_step text s c s' r h n l =
    let q : after_all start text ≡ after_all (here r.path r.items) (part_text r.part) = ap (after_all start) r.written ∙ zip_place r.path r.items r.part in
    let g : step (after_all (here r.path r.items) (part_text r.part)) (state_of r.path r.items r.part) c ≡ Some s' =
    ap (λ (y : Position). step y (state_of r.path r.items r.part) c) (sym q) ∙ (ap (λ (y : State). step (after_all start text) y c) r.is ∙ h) in
    let m = or_false (mode_long (mode_of (here r.path r.items) r.part)) (level_long (held_of r.path r.items)) (ap is_long r.is ∙ n) in
    let x = past r.path r.items r.part c s' (r.path_ok, r.items_ok) r.part_ok m l g in
    subst (λ (y : Position). PassesLength (text ++ (c ∷ [])) y) (ap (λ (y : Position). sign_position y (mode_of (here r.path r.items) r.part)) (sym q) ∙ ap (λ (y : State). sign_position (after_all start text) y.mode) r.is)
    (subst (λ y. PassesLength (y ++ (c ∷ [])) (sign_position (after_all (here r.path r.items) (part_text r.part)) (mode_of (here r.path r.items) r.part))) (sym r.written) x)

-- depth -------------------------------------------------------------------------------------------

pub depth_is : (p : Path) → stack_depth (stack_of p) ≡ depth_of p
depth_is Top = refl
depth_is (Within p i t) = ap suc (depth_is p)

naming_part : (q r : Position) (n : List ℕ) (a : Part) → mode_of q a ≡ Naming r n → (a ≡ PNaming n) × (q ≡ r)
naming_part q r n (PNaming m) e = (let h : m ≡ n = cc in ap (λ y. PNaming y) h, cc)
naming_part q r n a e = absurd (cc)

deep_is : (n : ℕ) → leb 128 n ≡ true → 128 ≤ n
deep_is n e = grind (arith, e)

pub deep_step : (text : List ℕ) (s : State) (q : Position) (n : List ℕ) → Reached text s → s.mode ≡ Naming q n → leb 128 (stack_depth s.held.stack) ≡ true → PassesDepth text q
deep_step text s q n r e d =
    let a = naming_part (here r.path r.items) q n r.part (ap (λ (y : State). y.mode) r.is ∙ e) in
    record {
      path = r.path;
      items = r.items;
      name = n;
      begun = record { path_ok = r.path_ok; items_ok = r.items_ok; part_ok = subst (λ (y : Part). Part_ok r.path r.items y) a.0 r.part_ok; written = r.written ∙ ap (λ (y : Part). zip_text r.path r.items y) a.0 };
      deep = deep_is (depth_of r.path) (ap (λ y. leb 128 y) (sym (depth_is r.path)) ∙ (ap (λ (y : State). leb 128 (stack_depth y.held.stack)) r.is ∙ d));
      position = sym a.1 ∙ sym (here_place r.path r.items);
    }
