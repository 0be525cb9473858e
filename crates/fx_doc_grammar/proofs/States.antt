-- The state of the machine at each beginning, and what it shares with the grammar's reading.
-- Above the runs, below the steps.
use Rattle.std.proofs.Common.{◌≡◌, ℕ, Bool, true, false, cond, not, ◌&&◌, ◌||◌, List, [], ◌∷◌, ◌++◌, None, length, refl, sym, ◌∙◌, ap, append_assoc, append-nil}
use lib.Utf8.{encodes}
use Rattle.fx_doc_grammar.specs.Characters.{class_of, IsWhite, Each}
use Rattle.fx_base.specs.Positions.{start, after_all}
use Rattle.fx_doc_grammar.specs.Grammar.{IsNamed, IsName, IsFilled, Sign, Plain, sign_code, Sign_ok, is_plain, Value_ok, Value_sign_ok, Written, attribute_text, attributes_text, Attribute_ok, Attributes_ok, Tag, tag_text, Tag_ok, is_among, Items, Empty, Shown, Comment, Instruction, Leaf, Branch, items_text, IsComment, IsApart, Instruction_ok, Content_ok, has_element, Attr, Level, one_child, closed, value_of, attr_at, attributes_of, head_of, level_of, root_of, imports_of, listed}
use Rattle.fx_doc_grammar.specs.Machine.{Stack, Bottom, Opened, Held, Mode, Inside, Referring, Opening, Banged, BangDashed, Commented, Dashed, DashDashed, Asked, Instructing, NameAsked, Instructed, EndAsked, Naming, Spaced, Tight, Keyed, KeySpaced, Signed, Quoted, ValueReferring, Slashed, Ending, Ended, State, is_open, is_nothing, may_begin, with_sign, with_instruction, with_leaf, open_element, keys_of}
use Rattle.fx_doc_grammar.specs.Beginnings.{Path, Top, Within, Part, PInside, PReferring, PLess, PBang, PBangDash, PComment, PDashed, PDashDashed, PAsk, PInstructing, PNameAsked, PInstructed, PEndAsked, PNaming, PSpaced, PTight, PKeyed, PKeySpaced, PSigned, PQuoted, PValueReferring, PSlashed, PEnding, PEnded, value_part, part_text, path_text, zip_text, Items_ok, IsRoom, IsWithin, Path_ok, Part_ok, keys}
use Rattle.fx_doc_grammar.proofs.Runs.{after-append}
use Rattle.fx_doc_grammar.specs.declared.Class.TheVariants.{White}
use Rattle.fx_base.specs.declared.positions.Position.{Position}

abbrev pub place_at : Path → Position
place_at Top = start
place_at (Within p i t) = after_all (after_all (place_at p) (items_text i)) (tag_text t ++ (62 ∷ []))

abbrev pub here : Path → Items → Position
here p i = after_all (place_at p) (items_text i)

abbrev pub level_at : Path → Items → Level
level_at Top i = record { nodes = root_of start i; run = []; first = None; count = 0 }
level_at (Within p j t) i = level_of (place_at (Within p j t)) i

abbrev pub stack_of : Path → Stack
stack_of Top = Bottom
stack_of (Within p i t) = Opened (stack_of p) (level_at p i) (head_of (here p i) t)

abbrev pub imports_at : Path → Items → List (List ℕ)
imports_at Top i = imports_of i
imports_at (Within p j t) i = imports_at p j

abbrev pub held_of : Path → Items → Held
held_of p i = record { imports = imports_at p i; stack = stack_of p; level = level_at p i }

abbrev pub mode_of : Position → Part → Mode
mode_of q PInside = Inside
mode_of q (PReferring e ds) = Referring q e
mode_of q PLess = Opening q
mode_of q PBang = Banged
mode_of q PBangDash = BangDashed
mode_of q (PComment x) = Commented
mode_of q (PDashed x) = Dashed
mode_of q (PDashDashed x) = DashDashed
mode_of q PAsk = Asked
mode_of q (PInstructing n) = Instructing n
mode_of q (PNameAsked n) = NameAsked n
mode_of q (PInstructed n x) = Instructed n (encodes x)
mode_of q (PEndAsked n x) = EndAsked n (encodes x)
mode_of q (PNaming n) = Naming q n
mode_of q (PSpaced t) = Spaced (head_of q t)
mode_of q (PTight t) = Tight (head_of q t)
mode_of q (PKeyed t key) = Keyed (head_of q t) (after_all q (tag_text t)) key
mode_of q (PKeySpaced t key before) = KeySpaced (head_of q t) (after_all q (tag_text t)) key
mode_of q (PSigned t key before behind) = Signed (head_of q t) (after_all q (tag_text t)) key
mode_of q (PQuoted t key before behind quote value) = Quoted (head_of q t) (after_all q (tag_text t)) key quote (value_of value) (length value)
mode_of q (PValueReferring t key before behind quote value e ds) = ValueReferring (head_of q t) (after_all q (tag_text t)) key quote (value_of value) (length value) (after_all q (value_part t key before behind quote value)) e
mode_of q (PSlashed t) = Slashed (head_of q t)
mode_of q (PEnding said rest) = Ending rest
mode_of q (PEnded name white) = Ended

abbrev pub state_of : Path → Items → Part → State
state_of p i part = record { held = held_of p i; mode = mode_of (here p i) part }

-- the text is a beginning, and the machine's state there is s
pub record Reached (text : List ℕ) (s : State) : Type 0 where
  pub path : Path
  pub items : Items
  pub part : Part
  pub path_ok : Path_ok path
  pub items_ok : Items_ok path items
  pub part_ok : Part_ok path items part
  pub written : text ≡ zip_text path items part
  pub is : state_of path items part ≡ s

-- places

pub path_place : (p : Path) → after_all start (path_text p) ≡ place_at p
path_place Top = refl
path_place (Within p i t) =
    after-append start (path_text p ++ items_text i) (tag_text t ++ (62 ∷ []))
    ∙ ap (λ q. after_all q (tag_text t ++ (62 ∷ []))) (after-append start (path_text p) (items_text i) ∙ ap (λ q. after_all q (items_text i)) (path_place p))

pub here_place : (p : Path) (i : Items) → after_all start (path_text p ++ items_text i) ≡ here p i
here_place p i = after-append start (path_text p) (items_text i) ∙ ap (λ q. after_all q (items_text i)) (path_place p)

pub zip_place : (p : Path) (i : Items) (a : Part) → after_all start (zip_text p i a) ≡ after_all (here p i) (part_text a)
zip_place p i a = after-append start (path_text p ++ items_text i) (part_text a) ∙ ap (λ q. after_all q (part_text a)) (here_place p i)

-- what is held, at each kind of item

pub held_shown : (p : Path) (i : Items) (s : Sign) → held_of p (Shown i s) ≡ with_sign (here p i) (sign_code s) (held_of p i)
held_shown Top i s = refl
held_shown (Within p j t) i s = refl

pub held_comment : (p : Path) (i : Items) (x : List ℕ) → held_of p (Comment i x) ≡ held_of p i
held_comment Top i x = refl
held_comment (Within p j t) i x = refl

pub held_leaf : (p : Path) (i : Items) (t : Tag) → held_of p (Leaf i t) ≡ with_leaf (held_of p i) (head_of (here p i) t)
held_leaf Top i t = refl
held_leaf (Within p j u) i t = refl

pub held_open : (p : Path) (i : Items) (t : Tag) → held_of (Within p i t) Empty ≡ open_element (held_of p i) (head_of (here p i) t)
held_open Top i t = refl
held_open (Within p j u) i t = refl

pub held_branch : (p : Path) (i : Items) (t : Tag) (inner : Items) (w : List ℕ)
    → held_of p (Branch i t inner w) ≡ record { imports = imports_at (Within p i t) inner; stack = stack_of p; level = one_child (level_at p i) (head_of (here p i) t) (closed (level_at (Within p i t) inner)) }
held_branch Top i t inner w = refl
held_branch (Within p j u) i t inner w = refl

pub none_yet : (q : Position) (i : Items) → is_nothing (root_of q i) ≡ not (has_element i)
none_yet q Empty = refl
none_yet q (Shown i s) = none_yet q i
none_yet q (Comment i x) = none_yet q i
none_yet q (Instruction i n x) = none_yet q i
none_yet q (Leaf i t) = refl
none_yet q (Branch i t inner w) = refl

instruction_cond : (b c : Bool) (l : List (List ℕ)) → b ≡ not c → cond ((false || b) && not false) l [] ≡ cond c [] l
instruction_cond true true l e = cc
instruction_cond true false l e = refl
instruction_cond false true l e = refl
instruction_cond false false l e = cc

pub held_instruction : (p : Path) (i : Items) (n x : List ℕ) → held_of p (Instruction i n x) ≡ with_instruction (held_of p i) n (encodes x)
held_instruction Top i n x =
    ap (λ (z : List (List ℕ)). record { imports = imports_of i ++ z; stack = Bottom; level = level_at Top i })
    (sym (instruction_cond (is_nothing (root_of start i)) (has_element i) (listed n (encodes x)) (none_yet start i)))
held_instruction (Within p j t) i n x = sym (ap (λ (z : List (List ℕ)). record { imports = z; stack = stack_of (Within p j t); level = level_at (Within p j t) i }) (append-nil (imports_at p j)))

-- what may stand at a place

pub white_ok : (p : Path) (i : Items) (c : ℕ) → Items_ok p i → class_of c ≡ White → Items_ok p (Shown i (Plain c))
white_ok Top i c o e = (o, e)
white_ok (Within p j t) i c o e = (o, ap is_plain e)

pub sign_ok : (p : Path) (i : Items) (s : Sign) → IsWithin p → Items_ok p i → Sign_ok s → Items_ok p (Shown i s)
sign_ok Top i s w o e = absurd w
sign_ok (Within p j t) i s w o e = (o, e)

pub comment_ok : (p : Path) (i : Items) (x : List ℕ) → Items_ok p i → IsComment x → Items_ok p (Comment i x)
comment_ok Top i x o e = (o, e)
comment_ok (Within p j t) i x o e = (o, e)

pub instruction_ok : (p : Path) (i : Items) (n x : List ℕ) → Items_ok p i → Instruction_ok n x → Items_ok p (Instruction i n x)
instruction_ok Top i n x o e = (o, e)
instruction_ok (Within p j t) i n x o e = (o, e)

pub leaf_ok : (p : Path) (i : Items) (t : Tag) → Items_ok p i → IsRoom p i → Tag_ok t → Items_ok p (Leaf i t)
leaf_ok Top i t o r e = (o, r, e)
leaf_ok (Within p j u) i t o r e = (o, e)

pub branch_ok : (p : Path) (i : Items) (t : Tag) (inner : Items) (w : List ℕ) → Items_ok p i → IsRoom p i → Tag_ok t → Content_ok inner → Each IsWhite w → Items_ok p (Branch i t inner w)
branch_ok Top i t inner w o r e n ws = (o, r, e, n, ws)
branch_ok (Within p j u) i t inner w o r e n ws = (o, e, n, ws)

pub not_false : (b : Bool) → not b ≡ true → b ≡ false
not_false true e = cc
not_false false e = refl

pub room_at : (p : Path) (i : Items) → may_begin (held_of p i) ≡ true → IsRoom p i
room_at Top i e = not_false (has_element i) (sym (none_yet start i) ∙ e)
room_at (Within p j t) i e = tt

pub room_begins : (p : Path) (i : Items) → IsRoom p i → may_begin (held_of p i) ≡ true
room_begins Top i e = none_yet start i ∙ ap not e
room_begins (Within p j t) i e = refl

pub within_open : (p : Path) → is_open (stack_of p) ≡ true → IsWithin p
within_open Top e = absurd (let h : false ≡ true = e in cc)
within_open (Within p i t) e = tt

-- attributes

pub attributes_text-append : (a b : List Written) → attributes_text (a ++ b) ≡ attributes_text a ++ attributes_text b
attributes_text-append [] b = refl
attributes_text-append (x ∷ a) b = ap (λ z. attribute_text x ++ z) (attributes_text-append a b) ∙ sym (append_assoc (attribute_text x) (attributes_text a) (attributes_text b))

pub attributes_of-more : (p : Position) (ats : List Written) (a : Written) → attributes_of p (ats ++ (a ∷ [])) ≡ attributes_of p ats ++ (attr_at (after_all p (attributes_text ats)) a ∷ [])
attributes_of-more p [] a = refl
attributes_of-more p (x ∷ ats) a =
    ap (λ (z : List Attr). attr_at p x ∷ z) (attributes_of-more (after_all p (attribute_text x)) ats a
    ∙ ap (λ q. attributes_of (after_all p (attribute_text x)) ats ++ (attr_at q a ∷ [])) (sym (after-append p (attribute_text x) (attributes_text ats))))

pub keys_of_are : (p : Position) (ats : List Written) → keys_of (attributes_of p ats) ≡ keys ats
keys_of_are p [] = refl
keys_of_are p (a ∷ ats) = ap (λ (z : List (List ℕ)). a.key ∷ z) (keys_of_are (after_all p (attribute_text a)) ats)

pub attributes_more : (seen : List (List ℕ)) (ats : List Written) (a : Written) → Attributes_ok seen ats → Attribute_ok a → is_among a.key (seen ++ keys ats) ≡ false → Attributes_ok seen (ats ++ (a ∷ []))
attributes_more seen [] a o e f = (e, rw append-nil at f, tt)
attributes_more seen (x ∷ ats) a o e f = (o.0, o.1, attributes_more (seen ++ (x.key ∷ [])) ats a o.2 e (ap (λ z. is_among a.key z) (append_assoc seen (x.key ∷ []) (keys ats)) ∙ f))

pub value_more : (u : _) (v : List Sign) (s : Sign) → Value_ok u v → Value_sign_ok u s → Value_ok u (v ++ (s ∷ []))
value_more u [] s o e = (e, tt)
value_more u (x ∷ v) s o e = (o.0, value_more u v s o.1 e)

pub each_more : (P : ℕ → Type 0) (a : List ℕ) (c : ℕ) → Each P a → P c → Each P (a ++ (c ∷ []))
each_more P [] c x y = (y, tt)
each_more P (d ∷ a) c x y = (x.0, each_more P a c x.1 y)

pub name_more : (n : List ℕ) (c : ℕ) → IsName n → IsNamed c → IsName (n ++ (c ∷ []))
name_more [] c o e = absurd o
name_more (d ∷ n) c o e = (o.0, each_more IsNamed n c o.1 e)

pub filled_more : (x : List ℕ) (c : ℕ) → IsFilled (x ++ (c ∷ []))
filled_more [] c = tt
filled_more (d ∷ x) c = tt

pub apart_more : (x y : List ℕ) → IsFilled x → IsApart x → IsApart (x ++ y)
apart_more [] y f o = absurd f
apart_more (d ∷ x) y f o = o
