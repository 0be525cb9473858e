-- Each beginning is completed by some more text: the piece at hand to its end, and then the open elements.
-- Above what is written; the longest prefix rests on it.
use Rattle.std.proofs.Common.{◌≡◌, ℕ, ◌+◌, ◌*◌, ◌<◌, ◌≤◌, Bool, true, false, ◌&&◌, ◌||◌, List, [], ◌∷◌, ◌++◌, Option, Some, None, length, refl, sym, ◌∙◌, ap, length-append, arith, suc, zero}
use lib.Dec.{eqb, leb}
use lib.Utf8.{encode}
use Rattle.fx_doc_grammar.specs.Characters.{class_of, Each, is_character}
use Rattle.fx_base.specs.Positions.{after_all}
use Rattle.fx_doc_grammar.specs.Grammar.{IsNamed, Tag, tag_text, Tag_ok, is_among, Items, Leaf, Branch, items_text, Top_ok, has_element, end_text, Head, value_of, head_of}
use Rattle.std.specs.Str.{bytes_eq}
use Rattle.fx_doc_grammar.specs.Machine.{decimal_digit, hexadecimal_digit, entity_step, Held, Inside, Referring, Keyed, Signed, Quoted, ValueReferring, Ending, Ended, State, at, with_sign, keys_of, is_fresh, step, run}
use Rattle.fx_doc_grammar.specs.Beginnings.{Path, Top, Within, Part, PInside, PReferring, PLess, PBang, PBangDash, PComment, PDashed, PDashDashed, PAsk, PInstructing, PNameAsked, PInstructed, PEndAsked, PNaming, PSpaced, PTight, PKeyed, PKeySpaced, PSigned, PQuoted, PValueReferring, PSlashed, PEnding, PEnded, Entity_ok, value_part, Items_ok, IsWithin, Path_ok, IsOpenName, Part_ok}
use Rattle.fx_doc_grammar.proofs.Runs.{after-append}
use Rattle.fx_doc_grammar.proofs.States.{place_at, here, held_of, state_of, room_begins, branch_ok}
use Rattle.fx_doc_grammar.proofs.Goes.{Goes, stays, seq, one, from, named_each, entity_over, entity_run}
use Rattle.fx_doc_grammar.proofs.Marks.{as_state}
use Rattle.fx_doc_grammar.proofs.TagGoes.{tag_goes, fresh_by, keyed_on, value_turned, if_fresh, eqb_refl}
use Rattle.fx_doc_grammar.proofs.Written.{referring_turned, leaf_goes, branch_end}
use Rattle.fx_doc_grammar.specs.declared.Quote.{Quote}
use Rattle.fx_doc_grammar.specs.declared.Quote.TheVariants.{Single, Double}
use Rattle.fx_doc_grammar.specs.declared.Entity.{Entity}
use Rattle.fx_doc_grammar.specs.declared.Entity.TheVariants.{Begun, A, Am, Amp, Ap, Apo, Apos, G, Gt, L, Lt, Q, Qu, Quo, Quot, Hash, Decimal, Hex, HexDigits}
use Rattle.fx_doc_grammar.specs.declared.Turn.{Turn}
use Rattle.fx_doc_grammar.specs.declared.Turn.TheVariants.{Further, Whole}
use Rattle.fx_base.specs.declared.positions.Position.{Position}
use Rattle.std.proofs.lemmas.Bool.{cond-true, le-leb}

-- references --------------------------------------------------------------------------------------

abbrev Finished : Entity → Type 0
Finished e = (cs : List ℕ) × (n : ℕ) × (entity_run (Some (Further e)) cs ≡ Some (Whole n))

below_character : (n : ℕ) → is_character n ≡ false → n ≤ 1114111 → 0 < n → (55296 ≤ n) × (n ≤ 57343)
unfolding is_character
below_character n e h k = (low n e h k, high n e h k)
  where
    low : (n : ℕ) → is_character n ≡ false → n ≤ 1114111 → 0 < n → 55296 ≤ n
    low n e h k = grind (arith, e)

    high : (n : ℕ) → is_character n ≡ false → n ≤ 1114111 → 0 < n → n ≤ 57343
    high n e h k = grind (arith, e)

high_character : (n : ℕ) → 57344 ≤ n → n ≤ 1114111 → is_character n ≡ true
unfolding is_character
high_character n h k = grind arith

decimal_zero : (n : ℕ) → n * 10 + 0 ≤ 1114111 → decimal_digit n 48 ≡ Some (Further (Decimal (n * 10 + 0)))
decimal_zero n h = cond-true (leb (n * 10 + 0) 1114111) (Some (Further (Decimal (n * 10 + 0)))) None (le-leb (n * 10 + 0) 1114111 h)

hexadecimal_zero : (n : ℕ) → n * 16 + 0 ≤ 1114111 → hexadecimal_digit n 48 ≡ Some (Further (HexDigits (n * 16 + 0)))
hexadecimal_zero n h = cond-true (leb (n * 16 + 0) 1114111) (Some (Further (HexDigits (n * 16 + 0)))) None (le-leb (n * 16 + 0) 1114111 h)

decimal_more : (n : ℕ) → is_character n ≡ false → n ≤ 1114111 → Finished (Decimal n)
unfolding is_character
decimal_more zero e h = (49 ∷ (59 ∷ []), 1, refl)
decimal_more (suc n) e h =
    let b = below_character (suc n) e h (omega arith) in
    let low : 55296 ≤ suc n = b.0 in
    let high : suc n ≤ 57343 = b.1 in
    let u : suc n * 10 + 0 ≤ 1114111 = omega arith in
    let l : 57344 ≤ suc n * 10 + 0 = omega arith in (
      48 ∷ (59 ∷ []),
      suc n * 10 + 0,
      ap (λ (y : Option Turn). entity_run y (59 ∷ [])) (decimal_zero (suc n) u) ∙ cond-true (is_character (suc n * 10 + 0)) (Some (Whole (suc n * 10 + 0))) None (high_character (suc n * 10 + 0) l u),
    )

hexadecimal_more : (n : ℕ) → is_character n ≡ false → n ≤ 1114111 → Finished (HexDigits n)
unfolding is_character
hexadecimal_more zero e h = (49 ∷ (59 ∷ []), 1, refl)
hexadecimal_more (suc n) e h =
    let b = below_character (suc n) e h (omega arith) in
    let low : 55296 ≤ suc n = b.0 in
    let high : suc n ≤ 57343 = b.1 in
    let u : suc n * 16 + 0 ≤ 1114111 = omega arith in
    let l : 57344 ≤ suc n * 16 + 0 = omega arith in (
      48 ∷ (59 ∷ []),
      suc n * 16 + 0,
      ap (λ (y : Option Turn). entity_run y (59 ∷ [])) (hexadecimal_zero (suc n) u) ∙ cond-true (is_character (suc n * 16 + 0)) (Some (Whole (suc n * 16 + 0))) None (high_character (suc n * 16 + 0) l u),
    )

decimal_finished : (n : ℕ) (b : Bool) → is_character n ≡ b → n ≤ 1114111 → Finished (Decimal n)
decimal_finished n true e h = (59 ∷ [], n, cond-true (is_character n) (Some (Whole n)) None e)
decimal_finished n false e h = decimal_more n e h

hexadecimal_finished : (n : ℕ) (b : Bool) → is_character n ≡ b → n ≤ 1114111 → Finished (HexDigits n)
hexadecimal_finished n true e h = (59 ∷ [], n, cond-true (is_character n) (Some (Whole n)) None e)
hexadecimal_finished n false e h = hexadecimal_more n e h

entity_finished : (e : Entity) (ds : List ℕ) → Entity_ok e ds → Finished e
unfolding is_character
entity_finished Begun ds o = (108 ∷ (116 ∷ (59 ∷ [])), 60, refl)
entity_finished A ds o = (109 ∷ (112 ∷ (59 ∷ [])), 38, refl)
entity_finished Am ds o = (112 ∷ (59 ∷ []), 38, refl)
entity_finished Amp ds o = (59 ∷ [], 38, refl)
entity_finished Ap ds o = (111 ∷ (115 ∷ (59 ∷ [])), 39, refl)
entity_finished Apo ds o = (115 ∷ (59 ∷ []), 39, refl)
entity_finished Apos ds o = (59 ∷ [], 39, refl)
entity_finished G ds o = (116 ∷ (59 ∷ []), 62, refl)
entity_finished Gt ds o = (59 ∷ [], 62, refl)
entity_finished L ds o = (116 ∷ (59 ∷ []), 60, refl)
entity_finished Lt ds o = (59 ∷ [], 60, refl)
entity_finished Q ds o = (117 ∷ (111 ∷ (116 ∷ (59 ∷ []))), 34, refl)
entity_finished Qu ds o = (111 ∷ (116 ∷ (59 ∷ [])), 34, refl)
entity_finished Quo ds o = (116 ∷ (59 ∷ []), 34, refl)
entity_finished Quot ds o = (59 ∷ [], 34, refl)
entity_finished Hash ds o = (49 ∷ (59 ∷ []), 1, refl)
entity_finished (Decimal n) ds o = decimal_finished n (is_character n) refl o.3
entity_finished Hex ds o = (49 ∷ (59 ∷ []), 1, refl)
entity_finished (HexDigits n) ds o = hexadecimal_finished n (is_character n) refl o.3

-- names that are longer than all others -----------------------------------------------------------

all_letters : List (List ℕ) → ℕ
all_letters [] = 0
all_letters (k ∷ ks) = length k + all_letters ks

pub and_false : (b : Bool) → (b && false) ≡ false
and_false true = refl
and_false false = refl

longer_other : (x k : List ℕ) → length k < length x → bytes_eq x k ≡ false
longer_other [] [] h = absurd (omega arith)
longer_other [] (b ∷ k) h = refl
longer_other (a ∷ x) [] h = refl
longer_other (a ∷ x) (b ∷ k) h = ap (λ y. eqb a b && y) (longer_other x k (let g : suc (length k) < suc (length x) = h in omega arith)) ∙ and_false (eqb a b)

longer_fresh : (x : List ℕ) (ks : List (List ℕ)) → all_letters ks < length x → is_among x ks ≡ false
unfolding all_letters
longer_fresh x [] h = refl
longer_fresh x (k ∷ ks) h =
    let g : length k + all_letters ks < length x = h in
    ap (λ y. y || is_among x ks) (longer_other x k (omega arith)) ∙ longer_fresh x ks (omega arith)

pads : ℕ → List ℕ
pads zero = []
pads (suc n) = 97 ∷ pads n

pads_length : (n : ℕ) → length (pads n) ≡ n
unfolding pads
pads_length zero = refl
pads_length (suc n) = ap suc (pads_length n)

pads_named : (n : ℕ) → Each IsNamed (pads n)
unfolding pads class_of
pads_named zero = tt
pads_named (suc n) = (refl, pads_named n)

padded_longer : (key : List ℕ) (n : ℕ) → n < length (key ++ pads (suc n))
padded_longer key n =
    let e : length (key ++ pads (suc n)) ≡ length key + length (pads (suc n)) = length-append key (pads (suc n)) in
    let f : length (pads (suc n)) ≡ suc n = pads_length (suc n) in
    omega arith

-- the piece at hand -------------------------------------------------------------------------------

pub record Finish (q : Position) (s : State) : Type 0 where
  pub more : List ℕ
  pub held : Held
  pub goes : Goes q s more (as_state held Inside)

by_refl : (q : Position) (s : State) (more : List ℕ) (h : Held) → run q (Some s) more ≡ Some (as_state h Inside) → Finish q s
by_refl q s more h e = record { more = more; held = h; goes = record { is = e } }

then_finish : {q : Position} {s s' : State} {a : List ℕ} → Goes q s a s' → ((p : Position) → Finish p s') → Finish q s
then_finish {q} {s} {s'} {a} g f = record { more = a ++ (f (after_all q a)).more; held = (f (after_all q a)).held; goes = seq g (f (after_all q a)).goes }

value_done : (h : Held) (head : Head) (r : Position) (key : List ℕ) (u : Quote) (v : List ℕ) (n : ℕ) (q : Position) → Finish q (as_state h (Quoted head r key u v n))
unfolding class_of
value_done h head r key Single v n q = by_refl q _ (39 ∷ (47 ∷ (62 ∷ []))) _ refl
value_done h head r key Double v n q = by_refl q _ (34 ∷ (47 ∷ (62 ∷ []))) _ refl

signed_done : (h : Held) (head : Head) (r : Position) (key : List ℕ) (q : Position) → Finish q (as_state h (Signed head r key))
unfolding class_of
signed_done h head r key q = by_refl q _ (34 ∷ (34 ∷ (47 ∷ (62 ∷ [])))) _ refl

equals_next : (h : Held) (head : Head) (r : Position) (key : List ℕ) → is_fresh key head ≡ true → (q : Position) → step q (as_state h (Keyed head r key)) 61 ≡ Some (as_state h (Signed head r key))
unfolding class_of
equals_next h head r key f q = if_fresh (is_fresh key head) (at h (Signed head r key)) f

keyed_done : (h : Held) (head : Head) (r : Position) (key : List ℕ) (q : Position) → Finish q (as_state h (Keyed head r key))
keyed_done h head r key q =
    let n : ℕ = all_letters (keys_of head.attributes) in
    let f : is_fresh (key ++ pads (suc n)) head ≡ true = fresh_by (key ++ pads (suc n)) head (keys_of head.attributes) refl (longer_fresh (key ++ pads (suc n)) (keys_of head.attributes) (padded_longer key n)) in
    then_finish (named_each (λ y. as_state h (Keyed head r y)) (λ t y d e. keyed_on h head r y d (class_of d) e) key (pads (suc n)) q (pads_named (suc n)))
    (λ t. then_finish (one (equals_next h head r (key ++ pads (suc n)) f t)) (λ t'. signed_done h head r (key ++ pads (suc n)) t'))

referring_done : (h : Held) (r : Position) (e : Entity) (ds : List ℕ) → Entity_ok e ds → (q : Position) → Finish q (as_state h (Referring r e))
referring_done h r e ds o q =
    let f = entity_finished e ds o in
    record { more = f.0; held = with_sign r f.1 h; goes = entity_over (λ y. as_state h (Referring r y)) (λ n. as_state (with_sign r n h) Inside) (λ t y c. referring_turned h r (entity_step y c)) f.0 e q f.1 f.2 }

value_referring_done : (h : Held) (head : Head) (k : Position) (key : List ℕ) (u : Quote) (v : List ℕ) (n : ℕ) (r : Position) (e : Entity) (ds : List ℕ) → Entity_ok e ds → (q : Position) → Finish q (as_state h (ValueReferring head k key u v n r e))
value_referring_done h head k key u v n r e ds o q =
    let f = entity_finished e ds o in
    then_finish (entity_over (λ y. as_state h (ValueReferring head k key u v n r y)) (λ x. as_state h (Quoted head k key u (v ++ encode x) (n + 1))) (λ t y c. value_turned h t head k key u v n r (entity_step y c)) f.0 e q f.1 f.2)
    (λ t. value_done h head k key u (v ++ encode f.1) (n + 1) t)

close_done : (p : Path) (i : Items) → IsWithin p → (q : Position) → Finish q (as_state (held_of p i) (Ending []))
unfolding class_of
close_done Top i w q = absurd w
close_done (Within p j t) i w q = by_refl q _ (62 ∷ []) _ refl

ending_done : (p : Path) (i : Items) (rest : List ℕ) → IsWithin p → (q : Position) → Finish q (as_state (held_of p i) (Ending rest))
ending_done p i [] w q = close_done p i w q
ending_done p i (c ∷ rest) w q = then_finish (one {p = q} {c = c} (if_fresh (eqb c c) (at (held_of p i) (Ending rest)) (eqb_refl c))) (λ t. ending_done p i rest w t)

ended_done : (p : Path) (i : Items) → IsWithin p → (q : Position) → Finish q (as_state (held_of p i) Ended)
unfolding class_of
ended_done Top i w q = absurd w
ended_done (Within p j t) i w q = by_refl q _ (62 ∷ []) _ refl

named_within : (p : Path) (n : List ℕ) → IsOpenName p n → IsWithin p
named_within Top n o = absurd o
named_within (Within p i t) n o = tt

pub finish : (p : Path) (i : Items) (a : Part) → Part_ok p i a → (q : Position) → Finish q (state_of p i a)
unfolding class_of
finish p i PInside o q = by_refl q _ [] _ refl
finish p i (PReferring e ds) o q = referring_done (held_of p i) (here p i) e ds o.1 q
finish p i PLess o q = by_refl q _ (33 ∷ (45 ∷ (45 ∷ (45 ∷ (45 ∷ (62 ∷ [])))))) _ refl
finish p i PBang o q = by_refl q _ (45 ∷ (45 ∷ (45 ∷ (45 ∷ (62 ∷ []))))) _ refl
finish p i PBangDash o q = by_refl q _ (45 ∷ (45 ∷ (45 ∷ (62 ∷ [])))) _ refl
finish p i (PComment x) o q = by_refl q _ (45 ∷ (45 ∷ (62 ∷ []))) _ refl
finish p i (PDashed x) o q = by_refl q _ (45 ∷ (62 ∷ [])) _ refl
finish p i (PDashDashed x) o q = by_refl q _ (62 ∷ []) _ refl
finish p i PAsk o q = by_refl q _ (97 ∷ (63 ∷ (62 ∷ []))) _ refl
finish p i (PInstructing n) o q = by_refl q _ (63 ∷ (62 ∷ [])) _ refl
finish p i (PNameAsked n) o q = by_refl q _ (62 ∷ []) _ refl
finish p i (PInstructed n x) o q = by_refl q _ (63 ∷ (62 ∷ [])) _ refl
finish p i (PEndAsked n x) o q = by_refl q _ (62 ∷ []) _ refl
finish p i (PNaming n) o q = by_refl q _ (47 ∷ (62 ∷ [])) _ refl
finish p i (PSpaced t) o q = by_refl q _ (47 ∷ (62 ∷ [])) _ refl
finish p i (PTight t) o q = by_refl q _ (47 ∷ (62 ∷ [])) _ refl
finish p i (PKeyed t key) o q = keyed_done (held_of p i) (head_of (here p i) t) (after_all (here p i) (tag_text t)) key q
finish p i (PKeySpaced t key w) o q = by_refl q _ (61 ∷ (34 ∷ (34 ∷ (47 ∷ (62 ∷ []))))) _ refl
finish p i (PSigned t key w v) o q = signed_done (held_of p i) (head_of (here p i) t) (after_all (here p i) (tag_text t)) key q
finish p i (PQuoted t key w v u value) o q = value_done (held_of p i) (head_of (here p i) t) (after_all (here p i) (tag_text t)) key u (value_of value) (length value) q
finish p i (PValueReferring t key w v u value e ds) o q = value_referring_done (held_of p i) (head_of (here p i) t) (after_all (here p i) (tag_text t)) key u (value_of value) (length value) (after_all (here p i) (value_part t key w v u value)) e ds o.4 q
finish p i (PSlashed t) o q = by_refl q _ (62 ∷ []) _ refl
finish p i (PEnding said rest) o q = ending_done p i rest (named_within p (said ++ rest) o) q
finish p i (PEnded n w) o q = ended_done p i (named_within p n o.0) q

-- the open elements -------------------------------------------------------------------------------

pub record Closed (p : Path) (i : Items) : Type 0 where
  pub more : List ℕ
  pub items : Items
  pub top : Top_ok items
  pub one : has_element items ≡ true
  pub goes : Goes (here p i) (state_of p i PInside) more (state_of Top items PInside)

simple : Tag
simple = record { name = 97 ∷ []; attributes = []; white = [] }

simple_ok : Tag_ok simple
unfolding simple class_of
simple_ok = ((refl, tt), tt, tt)

close_top : (i : Items) → Top_ok i → (b : Bool) → has_element i ≡ b → Closed Top i
close_top i o true e = record { more = []; items = i; top = o; one = e; goes = stays }
close_top i o false e = record { more = tag_text simple ++ (47 ∷ (62 ∷ [])); items = Leaf i simple; top = (o, e, simple_ok); one = refl; goes = leaf_goes Top i simple (tag_goes (held_of Top i) simple (room_begins Top i e) simple_ok (here Top i)) }

branch_place : (p : Path) (i : Items) (t : Tag) (inner : Items) (w : List ℕ) → after_all (here (Within p i t) inner) (end_text t.name w) ≡ here p (Branch i t inner w)
branch_place p i t inner w =
    sym (after-append (place_at (Within p i t)) (items_text inner) (end_text t.name w))
    ∙ (sym (after-append (here p i) (tag_text t ++ (62 ∷ [])) (items_text inner ++ end_text t.name w))
    ∙ sym (after-append (place_at p) (items_text i) ((tag_text t ++ (62 ∷ [])) ++ (items_text inner ++ end_text t.name w))))

pub closes_all : (p : Path) (i : Items) → Path_ok p → Items_ok p i → Closed p i
closes_all Top i o k = close_top i k (has_element i) refl
closes_all (Within p j t) i o k =
    let b = branch_ok p j t i [] o.1 o.2 o.3 k tt in
    let r = closes_all p (Branch j t i []) o.0 b in
    record {
      more = end_text t.name [] ++ r.more;
      items = r.items;
      top = r.top;
      one = r.one;
      goes = seq (branch_end p j t i [] tt (here (Within p j t) i)) (from (sym (branch_place p j t i [])) r.goes);
    }
