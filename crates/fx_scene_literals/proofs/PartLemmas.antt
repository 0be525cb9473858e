-- What is made behind some content, one part more at a time.
use Rattle.std.proofs.Common.{◌≡◌, ◌<◌, ℕ, ◌+◌, Bool, false, List, [], ◌∷◌, ◌++◌, length, get_or, take, refl, sym, ◌∙◌, ap}
use Rattle.std.proofs.lemmas.List.{take_more}
use Rattle.fx_base.specs.declared.positions.Position.{Position}
use Rattle.fx_doc_grammar.specs.Grammar.{Head, Nodes, Nothing, Letters, Node}
use Rattle.fx_doc_grammar.specs.Machine.{is_nothing}
use Rattle.fx_doc.specs.Views.{Onto, content_step, element_step, nodes_of, onto}
use Rattle.fx_doc_runs.specs.declared.document.Content.{Content}
use Rattle.fx_doc_runs.specs.declared.document.Content.TheOpen as o
use Rattle.fx_doc_runs.specs.declared.document.Content.TheFolds as f
use Rattle.fx_doc_runs.specs.declared.document.Content.TheViews as w
use Rattle.fx_doc_runs.specs.declared.document.Element.{Element}
use Rattle.fx_doc_runs.proofs.Trees.{element_head, element_node, nodes_of_push, onto_something}
use Rattle.fx_scene_instances.specs.declared.made.Found.{Found}
use Rattle.fx_scene_instances.specs.declared.made.Made.{Made}
use Rattle.fx_scene_literals.specs.Literals.{Told, read_in, told}
use Rattle.fx_scene_literals.specs.Views.{part_told}
use Rattle.fx_scene_literals.specs.declared.parts.Part.{Part}
use Rattle.fx_scene_things.specs.Names.{Names}
use Rattle.fx_scene_values.specs.Scopes.{Scope}

-- an opened part, behind what stands before it
abbrev opened : o.Content-F Content Element → Nodes → Nodes
opened x n = content_step (f.map-Content Content Element Onto Onto (f.fold-Content Onto Onto content_step element_step) (f.fold-Element Onto Onto content_step element_step) x) n

-- What is read of content part by part: `step` says it of what stands before a part, and of the part.
stepped : {R : Type 0} (read : Nodes → R) (step : Nodes → Nodes → R)
    → ((before : Nodes) (text : List ℕ) (spot : Position) → read (Letters before text spot) ≡ step before (Letters Nothing text spot))
    → ((before : Nodes) (head : Head) (inner : Nodes) → read (Node before head inner) ≡ step before (Node Nothing head inner))
    → (x : o.Content-F Content Element) (n : Nodes) → read (opened x n) ≡ step n (opened x Nothing)
stepped read step text element (o.Child e) n =
    ap read (element_node e n)
    ∙ (element n (element_head e) (nodes_of (w.out-Element e).content.items) ∙ ap (step n) (sym (element_node e Nothing)))
stepped read step text element (o.Chars t position) n = text n t position

joined : {R : Type 0} (read : Nodes → R) (step : Nodes → Nodes → R)
    → ((before : Nodes) (text : List ℕ) (spot : Position) → read (Letters before text spot) ≡ step before (Letters Nothing text spot))
    → ((before : Nodes) (head : Head) (inner : Nodes) → read (Node before head inner) ≡ step before (Node Nothing head inner))
    → (before : Nodes) (c : Content) → read (onto c before) ≡ step before (onto c Nothing)
joined read step text element before c =
    ap (λ (g : Onto). read (g before)) (f.fold_out-Content Onto Onto content_step element_step c)
    ∙ (stepped read step text element (w.out-Content c) before
    ∙ ap (λ (g : Onto). step before (g Nothing)) (sym (f.fold_out-Content Onto Onto content_step element_step c)))

nodes_more : (content : List Content) (i : ℕ) (x : Content) → i < length content → x ≡ get_or content i x
    → nodes_of (take (i + 1) content) ≡ onto x (nodes_of (take i content))
nodes_more content i x h is =
    ap nodes_of (take_more content i x h ∙ ap (λ y. take i content ++ (y ∷ [])) (sym is)) ∙ nodes_of_push (take i content) x

-- one part more, whatever is read of the parts
pub read_more : {R : Type 0} (read : Nodes → R) (step : Nodes → Nodes → R)
    → ((before : Nodes) (text : List ℕ) (spot : Position) → read (Letters before text spot) ≡ step before (Letters Nothing text spot))
    → ((before : Nodes) (head : Head) (inner : Nodes) → read (Node before head inner) ≡ step before (Node Nothing head inner))
    → (content : List Content) (i : ℕ) (x : Content) → i < length content → x ≡ get_or content i x
    → step (nodes_of (take i content)) (onto x Nothing) ≡ read (nodes_of (take (i + 1) content))
read_more read step text element content i x h is =
    sym (ap read (nodes_more content i x h is) ∙ joined read step text element (nodes_of (take i content)) x)

abbrev behind : Scope → Part → Made → Names → Nodes → Nodes → Told
behind scope part made names before item =
    part_told scope part (is_nothing before) (read_in scope part made names before) item

-- one part more
told_more : (scope : Scope) (part : Part) (made : Made) (old : Names) (content : List Content) (i : ℕ) (x : Content)
    (first : Bool) (found : Found) (names : Names) → i < length content → x ≡ get_or content i x
    → found ≡ (read_in scope part made old (nodes_of (take i content))).found
    → names ≡ (read_in scope part made old (nodes_of (take i content))).names
    → first ≡ is_nothing (nodes_of (take i content))
    → part_told scope part first (told found names) (onto x Nothing)
    ≡ read_in scope part made old (nodes_of (take (i + 1) content))
unfolding read_in
told_more scope part made old content i x first found names h is so_far known alone =
    let before = nodes_of (take i content) in
    ap (λ b. part_told scope part b (told found names) (onto x Nothing)) alone
    ∙ (ap (λ (f : Found). part_told scope part (is_nothing before) (told f names) (onto x Nothing)) so_far
    ∙ (ap (λ (n : Names). part_told scope part (is_nothing before) (told (read_in scope part made old before).found n) (onto x Nothing)) known
    ∙ read_more (read_in scope part made old) (behind scope part made old) (λ before text spot. refl)
    (λ before head inner. refl) content i x h is))

pub found_more : (scope : Scope) (part : Part) (made : Made) (old : Names) (content : List Content) (i : ℕ) (x : Content)
    (first : Bool) (found next : Found) (names : Names) → i < length content → x ≡ get_or content i x
    → found ≡ (read_in scope part made old (nodes_of (take i content))).found
    → names ≡ (read_in scope part made old (nodes_of (take i content))).names
    → first ≡ is_nothing (nodes_of (take i content))
    → next ≡ (part_told scope part first (told found names) (onto x Nothing)).found
    → next ≡ (read_in scope part made old (nodes_of (take (i + 1) content))).found
found_more scope part made old content i x first found next names h is so_far known alone more =
    more ∙ ap (λ (t : Told). t.found) (told_more scope part made old content i x first found names h is so_far known alone)

pub names_more : (scope : Scope) (part : Part) (made : Made) (old : Names) (content : List Content) (i : ℕ) (x : Content)
    (first : Bool) (found : Found) (names next : Names) → i < length content → x ≡ get_or content i x
    → found ≡ (read_in scope part made old (nodes_of (take i content))).found
    → names ≡ (read_in scope part made old (nodes_of (take i content))).names
    → first ≡ is_nothing (nodes_of (take i content))
    → next ≡ (part_told scope part first (told found names) (onto x Nothing)).names
    → next ≡ (read_in scope part made old (nodes_of (take (i + 1) content))).names
names_more scope part made old content i x first found names next h is so_far known alone more =
    more ∙ ap (λ (t : Told). t.names) (told_more scope part made old content i x first found names h is so_far known alone)

-- and then it isn't the first any more
pub no_first : (content : List Content) (i : ℕ) (x : Content) → i < length content → x ≡ get_or content i x
    → false ≡ is_nothing (nodes_of (take (i + 1) content))
no_first content i x h is =
    sym (ap is_nothing (nodes_more content i x h is) ∙ onto_something x (nodes_of (take i content)))
