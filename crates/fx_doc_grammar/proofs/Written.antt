-- What is written the machine takes: items, open elements, and whole documents.
-- Above the goings over each piece.
use Rattle.std.proofs.Common.{◌≡◌, ℕ, Bool, true, false, not, List, [], ◌∷◌, ◌++◌, Option, Some, None, refl, sym, ◌∙◌, ap}
use Rattle.fx_doc_grammar.specs.Characters.{class_of, IsWhite, Each}
use Rattle.fx_base.specs.Positions.{start, after, after_all}
use Rattle.fx_doc_grammar.specs.Grammar.{Reference, reference_text, Reference_ok, stands_for, Sign, Plain, Stands, sign_text, is_plain, Tag, tag_text, Tag_ok, Items, Empty, Shown, Comment, Instruction, Leaf, Branch, items_text, IsComment, Instruction_ok, Content_ok, has_element, comment_text, instruction_text, end_text, Head, head_of, root_of, imports_of, Reading, Spells}
use Rattle.fx_doc_grammar.specs.Machine.{entity_step, Bottom, Held, Inside, Referring, Slashed, State, at, initial, is_nothing, with_sign, with_leaf, in_inside, in_referring, step, run, answer, answer_of}
use Rattle.fx_doc_grammar.specs.Beginnings.{Path, Top, Within, PInside, PReferring, path_text, Items_ok, IsRoom, IsWithin, Path_ok}
use Rattle.fx_doc_grammar.proofs.States.{place_at, here, level_at, stack_of, imports_at, held_of, state_of, path_place, here_place, held_shown, held_comment, held_leaf, held_open, held_branch, held_instruction, none_yet, room_begins}
use Rattle.fx_doc_grammar.proofs.Steps.{some_same}
use Rattle.fx_doc_grammar.proofs.Goes.{Goes, stays, seq, one_then, one, ends_at, over, from, turned, entity_over, reference_rest, reference_parts, reference_run}
use Rattle.fx_doc_grammar.proofs.Marks.{as_state, comment_goes, instruction_goes}
use Rattle.fx_doc_grammar.proofs.TagGoes.{TagGoes, tag_goes, end_goes}
use Rattle.fx_doc_grammar.specs.declared.Class.{Class}
use Rattle.fx_doc_grammar.specs.declared.Class.TheVariants.{White, Less, Ampersand}
use Rattle.fx_doc_grammar.specs.declared.Entity.TheVariants.{Begun}
use Rattle.fx_doc_grammar.specs.declared.Turn.{Turn}
use Rattle.fx_doc_grammar.specs.declared.Turn.TheVariants.{Further, Whole}
use Rattle.fx_base.specs.declared.positions.Position.{Position}

plain_inside : (p : Path) (i : Items) (c : ℕ) → IsWithin p → (k : Class) → is_plain k ≡ true → in_inside (here p i) (held_of p i) c k ≡ at (with_sign (here p i) c (held_of p i)) Inside
plain_inside Top i c w k e = absurd w
plain_inside (Within p j t) i c w White e = refl
plain_inside (Within p j t) i c w Less e = absurd (let f : false ≡ true = e in cc)
plain_inside (Within p j t) i c w Ampersand e = absurd (let f : false ≡ true = e in cc)
plain_inside (Within p j t) i c w k e = refl

plain_step : (p : Path) (i : Items) (c : ℕ) → Items_ok p (Shown i (Plain c)) → in_inside (here p i) (held_of p i) c (class_of c) ≡ at (with_sign (here p i) c (held_of p i)) Inside
plain_step Top i c o = ap (λ k. in_inside (here Top i) (held_of Top i) c k) o.1
plain_step (Within p j t) i c o = plain_inside (Within p j t) i c tt (class_of c) o.1

pub ampersand_inside : (p : Path) (i : Items) → IsWithin p → step (here p i) (state_of p i PInside) 38 ≡ Some (state_of p i (PReferring Begun []))
unfolding class_of
ampersand_inside Top i w = absurd w
ampersand_inside (Within p j t) i w = refl

pub referring_turned : (h : Held) (q : Position) (o : Option Turn) → in_referring q h o ≡ turned (λ e. as_state h (Referring q e)) (λ n. as_state (with_sign q n h) Inside) o
referring_turned h q (Some (Further e)) = refl
referring_turned h q (Some (Whole n)) = refl
referring_turned h q None = refl

pub reference_goes : (p : Path) (i : Items) (r : Reference) → IsWithin p → Reference_ok r → Goes (here p i) (state_of p i PInside) (reference_text r) (state_of p (Shown i (Stands r)) PInside)
reference_goes p i r w o = over (reference_parts r) (ends_at (ap (λ (y : Held). as_state y Inside) (sym (held_shown p i (Stands r))))
    (one_then (ampersand_inside p i w)
    (entity_over (λ e. as_state (held_of p i) (Referring (here p i) e)) (λ n. as_state (with_sign (here p i) n (held_of p i)) Inside)
    (λ t e c. referring_turned (held_of p i) (here p i) (entity_step e c)) (reference_rest r) Begun (after (here p i) 38) (stands_for r) (reference_run r o))))

top_reference : (p : Path) (i : Items) (r : Reference) → Items_ok p (Shown i (Stands r)) → IsWithin p × Reference_ok r
top_reference Top i r o = absurd o.1
top_reference (Within p j t) i r o = (tt, o.1)

pub sign_item_goes : (p : Path) (i : Items) (s : Sign) → Items_ok p (Shown i s) → Goes (here p i) (state_of p i PInside) (sign_text s) (state_of p (Shown i s) PInside)
sign_item_goes p i (Plain c) o = ends_at (ap (λ (y : Held). as_state y Inside) (sym (held_shown p i (Plain c)))) (one (plain_step p i c o))
sign_item_goes p i (Stands r) o = let w = top_reference p i r o in reference_goes p i r w.0 w.1

-- what came before is well written too

before_shown : (p : Path) (i : Items) (s : Sign) → Items_ok p (Shown i s) → Items_ok p i
before_shown Top i s o = o.0
before_shown (Within p j t) i s o = o.0

before_comment : (p : Path) (i : Items) (x : List ℕ) → Items_ok p (Comment i x) → Items_ok p i × IsComment x
before_comment Top i x o = o
before_comment (Within p j t) i x o = o

before_instruction : (p : Path) (i : Items) (n x : List ℕ) → Items_ok p (Instruction i n x) → Items_ok p i × Instruction_ok n x
before_instruction Top i n x o = o
before_instruction (Within p j t) i n x o = o

before_leaf : (p : Path) (i : Items) (t : Tag) → Items_ok p (Leaf i t) → Items_ok p i × IsRoom p i × Tag_ok t
before_leaf Top i t o = o
before_leaf (Within p j u) i t o = (o.0, tt, o.1)

before_branch : (p : Path) (i : Items) (t : Tag) (inner : Items) (w : List ℕ) → Items_ok p (Branch i t inner w) → Items_ok p i × IsRoom p i × Tag_ok t × Content_ok inner × Each IsWhite w
before_branch Top i t inner w o = o
before_branch (Within p j u) i t inner w o = (o.0, tt, o.1, o.2, o.3)

slashed_last : (h : Held) (head : Head) (p : Position) → step p (as_state h (Slashed head)) 62 ≡ Some (as_state (with_leaf h head) Inside)
unfolding class_of
slashed_last h head p = refl

pub leaf_goes : (p : Path) (i : Items) (t : Tag) → TagGoes (held_of p i) (here p i) t → Goes (here p i) (state_of p i PInside) (tag_text t ++ (47 ∷ (62 ∷ []))) (state_of p (Leaf i t) PInside)
leaf_goes p i t g = ends_at (ap (λ (y : Held). as_state y Inside) (sym (held_leaf p i t)))
    (seq g.goes (one_then (g.ready.slash (after_all (here p i) (tag_text t))) (one (slashed_last (held_of p i) (head_of (here p i) t) (after (after_all (here p i) (tag_text t)) 47)))))

pub open_goes : (p : Path) (i : Items) (t : Tag) → TagGoes (held_of p i) (here p i) t → Goes (here p i) (state_of p i PInside) (tag_text t ++ (62 ∷ [])) (state_of (Within p i t) Empty PInside)
open_goes p i t g = ends_at (ap (λ (y : Held). as_state y Inside) (sym (held_open p i t))) (seq g.goes (one (g.ready.greater (after_all (here p i) (tag_text t)))))

item_after : (p : Path) (i j : Items) (piece : List ℕ) → items_text j ≡ items_text i ++ piece → Goes (place_at p) (state_of p Empty PInside) (items_text i) (state_of p i PInside) → Goes (here p i) (state_of p i PInside) piece (state_of p j PInside)
    → Goes (place_at p) (state_of p Empty PInside) (items_text j) (state_of p j PInside)
item_after p i j piece e g h = over (sym e) (seq g h)

pub branch_end : (p : Path) (i : Items) (t : Tag) (inner : Items) (w : List ℕ) → Each IsWhite w → (q : Position) → Goes q (state_of (Within p i t) inner PInside) (end_text t.name w) (state_of p (Branch i t inner w) PInside)
branch_end p i t inner w o q = ends_at (ap (λ (y : Held). as_state y Inside) (sym (held_branch p i t inner w)))
    (end_goes (imports_at (Within p i t) inner) (stack_of p) (level_at p i) (head_of (here p i) t) (level_at (Within p i t) inner) w o q)

pub items_goes : (i : Items) (p : Path) → Items_ok p i → Goes (place_at p) (state_of p Empty PInside) (items_text i) (state_of p i PInside)
items_goes Empty p o = stays
items_goes (Shown i s) p o = item_after p i (Shown i s) (sign_text s) refl (items_goes i p (before_shown p i s o)) (sign_item_goes p i s o)
items_goes (Comment i x) p o =
    let b = before_comment p i x o in
    item_after p i (Comment i x) (comment_text x) refl (items_goes i p b.0) (ends_at (ap (λ (y : Held). as_state y Inside) (sym (held_comment p i x))) (comment_goes (held_of p i) x b.1 (here p i)))
items_goes (Instruction i n x) p o =
    let b = before_instruction p i n x o in
    item_after p i (Instruction i n x) (instruction_text n x) refl (items_goes i p b.0) (ends_at (ap (λ (y : Held). as_state y Inside) (sym (held_instruction p i n x))) (instruction_goes (held_of p i) n x b.1 (here p i)))
items_goes (Leaf i t) p o =
    let b = before_leaf p i t o in
    item_after p i (Leaf i t) (tag_text t ++ (47 ∷ (62 ∷ []))) refl (items_goes i p b.0) (leaf_goes p i t (tag_goes (held_of p i) t (room_begins p i b.1) b.2 (here p i)))
items_goes (Branch i t inner w) p o =
    let b = before_branch p i t inner w o in
    item_after p i (Branch i t inner w) ((tag_text t ++ (62 ∷ [])) ++ (items_text inner ++ end_text t.name w)) refl (items_goes i p b.0)
    (seq (open_goes p i t (tag_goes (held_of p i) t (room_begins p i b.1) b.2 (here p i)))
    (seq (items_goes inner (Within p i t) b.3) (branch_end p i t inner w b.4 (after_all (place_at (Within p i t)) (items_text inner)))))

pub path_goes : (p : Path) → Path_ok p → Goes start initial (path_text p) (state_of p Empty PInside)
path_goes Top o = stays
path_goes (Within p i t) o =
    seq (seq (path_goes p o.0) (from (sym (path_place p)) (items_goes i p o.1)))
    (from (sym (here_place p i)) (open_goes p i t (tag_goes (held_of p i) t (room_begins p i o.2) o.3 (here p i))))

-- up to the piece that is being written
pub inside_goes : (p : Path) (i : Items) → Path_ok p → Items_ok p i → Goes start initial (path_text p ++ items_text i) (state_of p i PInside)
inside_goes p i o k = seq (path_goes p o) (from (sym (path_place p)) (items_goes i p k))

-- whole documents

answer_is : (i : Items) (b : Bool) → is_nothing (root_of start i) ≡ b → b ≡ false → answer_of (held_of Top i) Bottom Inside (is_nothing (root_of start i)) ≡ Some (record { imports = imports_of i; root = root_of start i })
answer_is i b e f = ap (λ y. answer_of (held_of Top i) Bottom Inside y) (e ∙ f)

pub answer_top : (i : Items) → has_element i ≡ true → answer (state_of Top i PInside) ≡ Some (record { imports = imports_of i; root = root_of start i })
answer_top i e = answer_is i (is_nothing (root_of start i)) refl (none_yet start i ∙ ap not e)

pub complete : (text : List ℕ) (n : Reading) → Spells text n → (s : State) × (run start (Some initial) text ≡ Some s) × (answer s ≡ Some n)
complete text n w = (
  state_of Top w.items PInside,
  ap (λ y. run start (Some initial) y) w.written ∙ (items_goes w.items Top w.top).is,
  answer_top w.items w.one
      ∙ ap (λ (y : Reading). Some y) (λ i. record { imports = sym w.imports i; root = sym w.root i }),
)

-- no text spells two documents
pub one_document : (text : List ℕ) (m n : Reading) → Spells text m → Spells text n → m ≡ n
one_document text m n a b =
    let x = complete text m a in
    let y = complete text n b in
    some_same (sym x.2 ∙ (ap answer (some_same (sym x.1 ∙ y.1)) ∙ y.2))
