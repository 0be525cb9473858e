-- A beginning that passes a limit leads the machine to a state that does; so a text whose states pass none is within the limits.
-- Beside the lemmas from states to beginnings; code cites it.
use Rattle.std.proofs.Common.{◌≡◌, ℕ, ◌+◌, ◌≤◌, Bool, true, false, ◌||◌, List, [], ◌∷◌, ◌++◌, Some, length, refl, sym, ◌∙◌, ap, subst, append_assoc, append-nil, length-append, arith}
use lib.Dec.{ltb, leb}
use Rattle.fx_base.specs.Positions.{start, after_all}
use Rattle.fx_doc_grammar.specs.Grammar.{IsFilled, Sign, Tag, tag_text, Tag_ok, Items, Shown, items_text, head_of, level_of}
use Rattle.fx_doc_grammar.specs.Machine.{Spaced, State, initial, run, is_deep, level_long, is_long}
use Rattle.fx_doc_grammar.specs.Beginnings.{Path, Top, Within, Part, PInside, PInstructing, PNaming, PKeyed, PQuoted, part_text, path_text, IsRoom, IsWithin, keys, IsBegun, depth_of, run_count, PassesDepth, IsPast, InRun, InValue, InName, InKey, InInstruction, PassesLength, IsWithinLimits, IsTooDeep, IsTooLong}
use Rattle.fx_doc_grammar.proofs.States.{place_at, here, held_of, state_of, here_place, room_begins, keys_of_are}
use Rattle.fx_doc_grammar.proofs.Ends.{last_same, Back, Bare, Last, back}
use Rattle.fx_doc_grammar.proofs.Goes.{Goes, seq, from}
use Rattle.fx_doc_grammar.proofs.Marks.{as_state, instruction_first, instruction_name}
use Rattle.fx_doc_grammar.proofs.TagGoes.{tag_goes, name_goes, key_goes, value_open, fresh_by}
use Rattle.fx_doc_grammar.proofs.Steps.{some_same}
use Rattle.fx_doc_grammar.proofs.Written.{inside_goes}
use Rattle.fx_doc_grammar.specs.declared.Quote.{Quote}
use Rattle.fx_base.specs.declared.positions.Position.{Position}
use Rattle.fx_doc_grammar.proofs.Limits.{true_false, level_counts, depth_is}

or_true : (a b : Bool) → b ≡ true → (a || b) ≡ true
or_true true b e = refl
or_true false b e = e

or_first : (a b : Bool) → a ≡ true → (a || b) ≡ true
or_first true b e = refl
or_first false b e = true_false e refl

is_past : (n : ℕ) → n ≡ 4096 → ltb 4096 (n + 1) ≡ true
is_past n e = grind (arith, e)

one_past : {X : Type 0} (n : List X) (c : X) → length n ≡ 4096 → ltb 4096 (length (n ++ (c ∷ []))) ≡ true
one_past n c e = ap (λ y. ltb 4096 y) (length-append n (c ∷ [])) ∙ is_past (length n) e

-- the machine's state at a beginning that passes a limit

abbrev pub StateAt : List ℕ → State → Type 0
StateAt text s = run start (Some initial) text ≡ Some s

pub over_part : (text : List ℕ) (p : Path) (i : Items) (a : Part) (s : State) → IsBegun text p i a → Goes (here p i) (state_of p i PInside) (part_text a) s → StateAt text s
over_part text p i a s b g = ap (run start (Some initial)) b.written ∙ (seq (inside_goes p i b.path_ok b.items_ok) (from (sym (here_place p i)) g)).is

pub naming_at : (text : List ℕ) (p : Path) (i : Items) (n : List ℕ) → IsBegun text p i (PNaming n) → StateAt text (state_of p i (PNaming n))
naming_at text p i n b = over_part text p i (PNaming n) (state_of p i (PNaming n)) b (name_goes (held_of p i) n (room_begins p i b.part_ok.0) b.part_ok.1 (here p i))

pub instructing_at : (text : List ℕ) (p : Path) (i : Items) (n : List ℕ) → IsBegun text p i (PInstructing n) → StateAt text (state_of p i (PInstructing n))
instructing_at text p i n b = over_part text p i (PInstructing n) (state_of p i (PInstructing n)) b (seq (instruction_first (held_of p i) (here p i)) (instruction_name (held_of p i) n b.part_ok (after_all (here p i) (60 ∷ (63 ∷ [])))))

-- over a tag with white at its end
pub spaced_goes : (p : Path) (i : Items) (t : Tag) → IsRoom p i → Tag_ok t → IsFilled t.white → Goes (here p i) (state_of p i PInside) (tag_text t) (as_state (held_of p i) (Spaced (head_of (here p i) t)))
spaced_goes p i t r o f =
    let g = tag_goes (held_of p i) t (room_begins p i r) o (here p i) in
    record { is = g.goes.is ∙ ap (λ (y : State). Some y) (g.spaced f) }

pub keyed_at : (text : List ℕ) (p : Path) (i : Items) (t : Tag) (key : List ℕ) → IsBegun text p i (PKeyed t key) → StateAt text (state_of p i (PKeyed t key))
keyed_at text p i t key b =
    let z = b.part_ok.1 in
    over_part text p i (PKeyed t key) (state_of p i (PKeyed t key)) b (seq (spaced_goes p i t b.part_ok.0 z.0 z.1) (key_goes (held_of p i) (head_of (here p i) t) key z.2 (after_all (here p i) (tag_text t))))

pub quoted_at : (text : List ℕ) (p : Path) (i : Items) (t : Tag) (key w v : List ℕ) (u : Quote) (value : List Sign) → IsBegun text p i (PQuoted t key w v u value) → StateAt text (state_of p i (PQuoted t key w v u value))
quoted_at text p i t key w v u value b =
    let z = b.part_ok.1 in
    over_part text p i (PQuoted t key w v u value) (state_of p i (PQuoted t key w v u value)) b
    (seq (spaced_goes p i t b.part_ok.0 z.0.0 z.0.1)
    (value_open (held_of p i) (head_of (here p i) t) key w v u value z.0.2 (fresh_by key (head_of (here p i) t) (keys t.attributes) (keys_of_are (after_all (here p i) (60 ∷ t.name)) t.attributes) z.1) z.2 b.part_ok.2 b.part_ok.3 (after_all (here p i) (tag_text t))))

pub inside_at : (text : List ℕ) (p : Path) (i : Items) → IsBegun text p i PInside → StateAt text (state_of p i PInside)
inside_at text p i b = ap (run start (Some initial)) (b.written ∙ append-nil (path_text p ++ items_text i)) ∙ (inside_goes p i b.path_ok b.items_ok).is

deep_is : (n : ℕ) → 128 ≤ n → leb 128 n ≡ true
deep_is n e = grind arith

pub deep_state : (text : List ℕ) (p : Position) → PassesDepth text p → (s : State) × StateAt text s × (is_deep s ≡ true)
deep_state text p x = (state_of x.path x.items (PNaming x.name), naming_at text x.path x.items x.name x.begun, ap (λ y. leb 128 y) (depth_is x.path) ∙ deep_is (depth_of x.path) x.deep)

with_part : (text : List ℕ) (p : Path) (i : Items) (a b : Part) → a ≡ b → IsBegun text p i a → IsBegun text p i b
with_part text p i a b e x = subst (λ (y : Part). IsBegun text p i y) e x

run_is_long : (p : Path) (i : Items) (s : Sign) → IsWithin p → run_count i ≡ 4096 → is_long (state_of p (Shown i s) PInside) ≡ true
run_is_long Top i s w e = absurd w
run_is_long (Within p j t) i s w e = is_past (level_of (place_at (Within p j t)) i).count (level_counts (place_at (Within p j t)) i ∙ e)

long_at : (text : List ℕ) (p : Path) (i : Items) (a : Part) (before : List ℕ) → IsBegun text p i a → IsPast p i a before → (s : State) × StateAt text s × (is_long s ≡ true)
long_at text p i a before b (InRun j s w ei ea n q) = (
  state_of p (Shown j s) PInside,
  inside_at text p (Shown j s) (subst (λ (y : Items). IsBegun text p y PInside) ei (with_part text p i a PInside ea b)),
  run_is_long p j s w n,
)
long_at text p i a before b (InValue t key w v u value s e n q) = (
  state_of p i (PQuoted t key w v u (value ++ (s ∷ []))),
  quoted_at text p i t key w v u (value ++ (s ∷ [])) (with_part text p i a (PQuoted t key w v u (value ++ (s ∷ []))) e b),
  or_first (ltb 4096 (length (value ++ (s ∷ [])))) (level_long (held_of p i)) (one_past value s n),
)
long_at text p i a before b (InName m c e n q) =
    (state_of p i (PNaming (m ++ (c ∷ []))), naming_at text p i (m ++ (c ∷ [])) (with_part text p i a (PNaming (m ++ (c ∷ []))) e b), or_first (ltb 4096 (length (m ++ (c ∷ [])))) (level_long (held_of p i)) (one_past m c n))
long_at text p i a before b (InKey t key c e n q) =
    (state_of p i (PKeyed t (key ++ (c ∷ []))), keyed_at text p i t (key ++ (c ∷ [])) (with_part text p i a (PKeyed t (key ++ (c ∷ []))) e b), or_first (ltb 4096 (length (key ++ (c ∷ [])))) (level_long (held_of p i)) (one_past key c n))
long_at text p i a before b (InInstruction m c e n q) =
    (state_of p i (PInstructing (m ++ (c ∷ []))), instructing_at text p i (m ++ (c ∷ [])) (with_part text p i a (PInstructing (m ++ (c ∷ []))) e b), or_first (ltb 4096 (length (m ++ (c ∷ [])))) (level_long (held_of p i)) (one_past m c n))

pub long_state : (text : List ℕ) (p : Position) → PassesLength text p → (s : State) × StateAt text s × (is_long s ≡ true)
long_state text p x = long_at text x.path x.items x.part x.before x.begun x.past

-- texts within the limits

not_deep : {X : Type 0} (text : List ℕ) (s : State) (p : Position) → StateAt text s → is_deep s ≡ false → PassesDepth text p → X
not_deep text s p h n x = let d = deep_state text p x in true_false d.2 (ap is_deep (some_same (sym d.1 ∙ h)) ∙ n)

not_long : {X : Type 0} (text : List ℕ) (s : State) (p : Position) → StateAt text s → is_long s ≡ false → PassesLength text p → X
not_long text s p h n x = let d = long_state text p x in true_false d.2 (ap is_long (some_same (sym d.1 ∙ h)) ∙ n)

abbrev PassesNone : List ℕ → Position → Type 0
PassesNone text p = (PassesDepth text p → ⊥) × (PassesLength text p → ⊥)

none_at : (text : List ℕ) (s : State) (p : Position) → StateAt text s → is_deep s ≡ false → is_long s ≡ false → PassesNone text p
none_at text s p h d l = (not_deep text s p h d, not_long text s p h l)

within_go : (said : List ℕ) (c : ℕ) (s : State) → IsWithinLimits said → StateAt (said ++ (c ∷ [])) s → is_deep s ≡ false → is_long s ≡ false → (front more : List ℕ) (p : Position) → Back more → said ++ (c ∷ []) ≡ front ++ more → PassesNone front p
within_go said c s w h d l front more p Bare e = subst (λ y. PassesNone y p) (e ∙ append-nil front) (none_at (said ++ (c ∷ [])) s p h d l)
within_go said c s w h d l front more p (Last m x) e = w front m p (last_same said (front ++ m) c x (e ∙ sym (append_assoc front m (x ∷ [])))).0

pub within_more : (said : List ℕ) (c : ℕ) (s : State) → IsWithinLimits said → StateAt (said ++ (c ∷ [])) s → is_deep s ≡ false → is_long s ≡ false → IsWithinLimits (said ++ (c ∷ []))
within_more said c s w h d l front more p e = within_go said c s w h d l front more p (back more) e

within_empty : (front more : List ℕ) (p : Position) → [] ≡ front ++ more → PassesNone front p
within_empty [] more p e = none_at [] initial p refl refl refl
within_empty (x ∷ front) more p e = absurd (let h : [] ≡ x ∷ (front ++ more) = e in cc)

pub within_start : IsWithinLimits []
within_start front more p e = within_empty front more p e

-- a text that passes a limit is not within the limits
shift_last : (front more : List ℕ) (c : ℕ) (text : List ℕ) → text ≡ front ++ (c ∷ more) → text ≡ (front ++ (c ∷ [])) ++ more
shift_last front more c text e = e ∙ sym (append_assoc front (c ∷ []) more)

pub deep_not_within : (text : List ℕ) (p : Position) → IsTooDeep text p → IsWithinLimits text → ⊥
deep_not_within text p x w = (w (x.front ++ (x.last ∷ [])) x.more p (shift_last x.front x.more x.last text x.split)).0 x.passes

pub long_not_within : (text : List ℕ) (p : Position) → IsTooLong text p → IsWithinLimits text → ⊥
long_not_within text p x w = (w (x.front ++ (x.last ∷ [])) x.more p (shift_last x.front x.more x.last text x.split)).1 x.passes
