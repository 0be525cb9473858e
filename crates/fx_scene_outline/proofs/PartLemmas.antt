-- What parts of a document add, one part more at a time.
use Rattle.std.proofs.Common.{vec_len, Vec, Global, ◌≡◌, ◌<◌, ℕ, ◌+◌, List, [], ◌∷◌, ◌++◌, length, get_or, take, sym, ◌∙◌, ap, refl, append_assoc, eqb}
use Rattle.std.proofs.lemmas.List.{length-append, length-map, take_more}
use Rattle.fx_doc_grammar.specs.Grammar.{Nodes, Nothing}
use Rattle.fx_doc_grammar.specs.Machine.{is_nothing}
use Rattle.fx_doc.specs.Views.{Onto, content_step, element_step, nodes_of, onto, onto_element}
use Rattle.fx_doc_runs.specs.declared.document.Content.{Content}
use Rattle.fx_doc_runs.specs.declared.document.Content.TheOpen as o
use Rattle.fx_doc_runs.specs.declared.document.Content.TheFolds as f
use Rattle.fx_doc_runs.specs.declared.document.Content.TheViews as w
use Rattle.fx_doc_runs.specs.declared.document.Element.{Element}
use Rattle.fx_doc_runs.proofs.Trees.{element_node, nodes_of_push, nothing_is}
use Rattle.fx_scene_outline.specs.Edges.{earlier_in}
use Rattle.fx_scene_outline.specs.Entries.{listed}
use Rattle.fx_scene_outline.specs.Outlines.{pieces, root_pieces}
use Rattle.fx_scene_outline.specs.Pieces.{Piece as PlainPiece}
use Rattle.fx_scene_outline.specs.Views.{behind_part, content_of, element_pieces, head_of, part_pieces, piece_view, shown}
use Rattle.fx_scene_outline.specs.declared.edges.Earlier.{Earlier}
use Rattle.fx_scene_outline.specs.declared.pieces.Piece.{Piece}
use Rattle.fx_scene_outline.specs.declared.pieces.Room.{Room}
use Rattle.fx_scene_outline.specs.declared.pieces.Seat.TheVariants.{Aside, Root}

length_of : (v : Vec Content Global) → length v.items ≡ vec_len v
length_of v = cc

pub content_is : (e : Element) → eqb (vec_len (w.out-Element e).content) 0 ≡ is_nothing (content_of e)
content_is e = nothing_is (w.out-Element e).content.items (vec_len (w.out-Element e).content) (sym (length_of (w.out-Element e).content))

-- an opened part, behind what stands before it
abbrev pub opened : o.Content-F Content Element → Nodes → Nodes
opened x n = content_step (f.map-Content Content Element Onto Onto (f.fold-Content Onto Onto content_step element_step) (f.fold-Element Onto Onto content_step element_step) x) n

abbrev all_behind : Room → ℕ → Nodes → Nodes → List PlainPiece
all_behind room count before part =
    pieces room count before ++ part_pieces room (count + length (pieces room count before)) (earlier_in before) part

stepped : (room : Room) (count : ℕ) (x : o.Content-F Content Element) (n : Nodes)
    → pieces room count (opened x n) ≡ all_behind room count n (opened x Nothing)
unfolding pieces
stepped room count (o.Child e) n =
    ap (pieces room count) (element_node e n) ∙ ap (all_behind room count n) (sym (element_node e Nothing))
stepped room count (o.Chars t position) n = refl

joined : (room : Room) (count : ℕ) (before : Nodes) (c : Content)
    → pieces room count (onto c before) ≡ all_behind room count before (onto c Nothing)
joined room count before c =
    ap (λ (g : Onto). pieces room count (g before)) (f.fold_out-Content Onto Onto content_step element_step c)
    ∙ (stepped room count (w.out-Content c) before
    ∙ ap (λ (g : Onto). all_behind room count before (g Nothing)) (sym (f.fold_out-Content Onto Onto content_step element_step c)))

earlier_stepped : (x : o.Content-F Content Element) (n : Nodes)
    → earlier_in (opened x n) ≡ behind_part (opened x Nothing) (earlier_in n)
unfolding earlier_in
earlier_stepped (o.Child e) n =
    ap earlier_in (element_node e n) ∙ ap (λ y. behind_part y (earlier_in n)) (sym (element_node e Nothing))
earlier_stepped (o.Chars t position) n = refl

earlier_joined : (before : Nodes) (c : Content)
    → earlier_in (onto c before) ≡ behind_part (onto c Nothing) (earlier_in before)
earlier_joined before c =
    ap (λ (g : Onto). earlier_in (g before)) (f.fold_out-Content Onto Onto content_step element_step c)
    ∙ (earlier_stepped (w.out-Content c) before
    ∙ ap (λ (g : Onto). behind_part (g Nothing) (earlier_in before)) (sym (f.fold_out-Content Onto Onto content_step element_step c)))

pub nodes_more : (content : List Content) (i : ℕ) (x : Content) → i < length content → x ≡ get_or content i x
    → nodes_of (take (i + 1) content) ≡ onto x (nodes_of (take i content))
nodes_more content i x h is =
    ap nodes_of (take_more content i x h ∙ ap (λ y. take i content ++ (y ∷ [])) (sym is)) ∙ nodes_of_push (take i content) x

pub earlier_more : (content : List Content) (i : ℕ) (x : Content) (earlier next : Earlier) → i < length content
    → x ≡ get_or content i x → earlier ≡ earlier_in (nodes_of (take i content))
    → next ≡ behind_part (onto x Nothing) earlier → next ≡ earlier_in (nodes_of (take (i + 1) content))
earlier_more content i x earlier next h is now e =
    e ∙ (ap (behind_part (onto x Nothing)) now ∙ (sym (earlier_joined (nodes_of (take i content)) x)
    ∙ ap earlier_in (sym (nodes_more content i x h is))))

-- how many pieces there are behind others
counted : (old now : List Piece) (added : List PlainPiece) → shown now ≡ shown old ++ added
    → length now ≡ length old + length added
counted old now added e =
    sym (length-map now piece_view) ∙ (ap (λ ps. length ps) e ∙ (length-append (shown old) added
    ∙ ap (λ n. n + length added) (length-map old piece_view)))

-- one part more
pub part_more : (room : Room) (content : List Content) (i : ℕ) (x : Content) (earlier : Earlier)
    (old now new : List Piece) → i < length content → x ≡ get_or content i x
    → shown now ≡ shown old ++ pieces room (length old) (nodes_of (take i content))
    → earlier ≡ earlier_in (nodes_of (take i content))
    → shown new ≡ shown now ++ part_pieces room (length now) earlier (onto x Nothing)
    → shown new ≡ shown old ++ pieces room (length old) (nodes_of (take (i + 1) content))
part_more room content i x earlier old now new h is so_far before more =
    let done = pieces room (length old) (nodes_of (take i content)) in
    let count = counted old now done so_far in
    more
    ∙ (ap (λ n. shown now ++ part_pieces room n earlier (onto x Nothing)) count
    ∙ (ap (λ e. shown now ++ part_pieces room (length old + length done) e (onto x Nothing)) before
    ∙ (ap (λ ps. ps ++ part_pieces room (length old + length done) (earlier_in (nodes_of (take i content))) (onto x Nothing)) so_far
    ∙ (append_assoc (shown old) done (part_pieces room (length old + length done) (earlier_in (nodes_of (take i content))) (onto x Nothing))
    ∙ (ap (λ ps. shown old ++ ps) (sym (joined room (length old) (nodes_of (take i content)) x))
    ∙ ap (λ n. shown old ++ pieces room (length old) n) (sym (nodes_more content i x h is)))))))

-- the root by itself
root_is : (e : Element) → element_pieces 0 e (listed 0 Root (head_of e) (content_of e)) ≡ root_pieces (onto_element e Nothing)
root_is e = ap root_pieces (sym (element_node e Nothing))

pub root_alone : (e : Element) (old new : List Piece) → old ≡ []
    → shown new ≡ shown old ++ element_pieces (length old) e (listed (length old) Root (head_of e) (content_of e))
    → shown new ≡ root_pieces (onto_element e Nothing)
root_alone e old new none more =
    more ∙ (ap (λ ps. shown ps ++ element_pieces (length ps) e (listed (length ps) Root (head_of e) (content_of e))) none ∙ root_is e)

-- an element by itself
pub aside_alone : (e : Element) (old new : List Piece) → old ≡ []
    → shown new ≡ shown old ++ element_pieces (length old) e (listed (length old) Aside (head_of e) (content_of e))
    → shown new ≡ element_pieces 0 e (listed 0 Aside (head_of e) (content_of e))
aside_alone e old new none more =
    more ∙ ap (λ ps. shown ps ++ element_pieces (length ps) e (listed (length ps) Aside (head_of e) (content_of e))) none
