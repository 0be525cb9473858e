-- The fold by which contracts see the tree: at a child, at a run, and at one more piece of content.
-- Below the answers on levels.
use Rattle.std.proofs.Common.{◌≡◌, ℕ, true, false, not, List, [], ◌∷◌, ◌++◌, map, length, refl, sym, ◌∙◌, ap, subst, nat_eq, arith, Option, Some, None, suc}
use Rattle.std.proofs.lemmas.Grind.{common_steps}
use Rattle.fx_base.specs.declared.positions.Position.{Position}
use Rattle.fx_doc_grammar.specs.Grammar.{IsRoot, Nodes, Nothing, Letters, Node, Reading as ReadingView, Level as LevelView, Head as HeadView, one_child, closed, with_run}
use Rattle.fx_doc_grammar.specs.Machine.{Stack, Bottom, Opened, Held as HeldView, is_nothing, is_open, close_in, at, Inside, State, answer, answer_of}
use Rattle.fx_doc_runs.specs.Views.{Onto, built, onto, nodes_of, onto_element, node_of, IsRun, AnswersRoot, content_step, element_step, attr_view, head_view, level_view, level_behind, stack_from, stack_view}
use Rattle.fx_doc_runs.specs.declared.document.Content.{Content}
use Rattle.fx_doc_runs.specs.declared.document.Element.{Element}
use Rattle.fx_doc_runs.specs.declared.document.Content.TheOpen as o
use Rattle.fx_doc_runs.specs.declared.document.Content.TheFolds as f
use Rattle.fx_doc_runs.specs.declared.document.Content.TheVariants as v
use Rattle.fx_doc_runs.specs.declared.document.Content.TheViews as w
use Rattle.fx_doc_runs.specs.declared.modes.Open.{Open}

built_push : (n : Nodes) (fs : List Onto) (g : Onto) → built n (fs ++ (g ∷ [])) ≡ g (built n fs)
built_push n [] g = refl
built_push n (f' ∷ fs) g = built_push (f' n) fs g

map_push : (cs : List Content) (c : Content) → map onto (cs ++ (c ∷ [])) ≡ map onto cs ++ (onto c ∷ [])
map_push [] c = refl
map_push (d ∷ cs) c = ap (λ y. onto d ∷ y) (map_push cs c)

pub nodes_of_push : (cs : List Content) (c : Content) → nodes_of (cs ++ (c ∷ [])) ≡ onto c (nodes_of cs)
nodes_of_push cs c = ap (built Nothing) (map_push cs c) ∙ built_push Nothing (map onto cs) (onto c)

pub onto_child : (e : Element) (n : Nodes) → onto (v.Child e) n ≡ Node n (record { name = (w.out-Element e).name; attributes = map attr_view (w.out-Element e).attributes; position = (w.out-Element e).position }) (nodes_of (w.out-Element e).content.items)
onto_child e n = ap (λ c. onto c n) (sym (v.rolls-Child e)) ∙ (ap (λ (g : Onto). g n) (f.fold-roll-Content Onto Onto content_step element_step (o.Child e)) ∙ ap (λ (g : Onto). g n) (f.fold_out-Element Onto Onto content_step element_step e))

pub onto_chars : (t : List ℕ) (p : Position) (n : Nodes) → onto (v.Chars t p) n ≡ Letters n t p
onto_chars t p n = ap (λ c. onto c n) (sym (v.rolls-Chars t p)) ∙ ap (λ (g : Onto). g n) (f.fold-roll-Content Onto Onto content_step element_step (o.Chars t p))

stack_from_push : (s : Stack) (os : List Open) (x : Open) → stack_from s (os ++ (x ∷ [])) ≡ Opened (stack_from s os) (level_view x.before) (head_view x.head)
stack_from_push s [] x = refl
stack_from_push s (y ∷ os) x = stack_from_push (Opened s (level_view y.before) (head_view y.head)) os x

pub stack_push : (os : List Open) (x : Open) → stack_view (os ++ (x ∷ [])) ≡ Opened (stack_view os) (level_view x.before) (head_view x.head)
stack_push os x = stack_from_push Bottom os x

something : (x : o.Content-F Content Element) (n : Nodes) → is_nothing (content_step (f.map-Content Content Element Onto Onto (f.fold-Content Onto Onto content_step element_step) (f.fold-Element Onto Onto content_step element_step) x) n) ≡ false
something (o.Child e) n = ap (λ (g : Onto). is_nothing (g n)) (f.fold_out-Element Onto Onto content_step element_step e)
something (o.Chars t p) n = refl

pub onto_something : (c : Content) (n : Nodes) → is_nothing (onto c n) ≡ false
onto_something c n = ap (λ (g : Onto). is_nothing (g n)) (f.fold_out-Content Onto Onto content_step element_step c) ∙ something (w.out-Content c) n

still_something : (cs : List Content) (n : Nodes) → is_nothing n ≡ false → is_nothing (built n (map onto cs)) ≡ false
still_something [] n e = e
still_something (c ∷ cs) n e = still_something cs (onto c n) (onto_something c n)

not_zero : (n : ℕ) → nat_eq (suc n) 0 ≡ false
not_zero n = grind (arith, common_steps)

-- the tests by which code looks at an empty vector
pub nothing_is : (cs : List Content) (n : ℕ) → n ≡ length cs → nat_eq n 0 ≡ is_nothing (nodes_of cs)
nothing_is [] n e = ap (λ y. nat_eq y 0) e
nothing_is (c ∷ cs) n e = ap (λ y. nat_eq y 0) e ∙ not_zero (length cs) ∙ sym (still_something cs (onto c Nothing) (onto_something c Nothing))

still_open : (s : Stack) (os : List Open) → is_open s ≡ true → is_open (stack_from s os) ≡ true
still_open s [] e = e
still_open s (x ∷ os) e = still_open (Opened s (level_view x.before) (head_view x.head)) os refl

pub open_is : (os : List Open) (n : ℕ) → n ≡ length os → not (nat_eq n 0) ≡ is_open (stack_view os)
open_is [] n e = ap (λ y. not (nat_eq y 0)) e
open_is (x ∷ os) n e = ap (λ y. not (nat_eq y 0)) e ∙ ap not (not_zero (length os)) ∙ sym (still_open (Opened Bottom (level_view x.before) (head_view x.head)) os refl)

abbrev pub held_by : List (List ℕ) → Stack → LevelView → HeldView
held_by a s l = record { imports = a; stack = s; level = l }

pub held_same : (a : List (List ℕ)) (s s' : Stack) (l l' : LevelView) → s ≡ s' → l ≡ l' → held_by a s l ≡ held_by a s' l'
held_same a s s' l l' e g = λ i. record { imports = a; stack = e i; level = g i }

pub closed_push : (cs ds : List Content) (t bytes : List ℕ) (first : Option Position) (p : Position) → ds ≡ cs ++ (v.Chars t p ∷ []) → t ≡ bytes → first ≡ Some p → nodes_of ds ≡ with_run first (nodes_of cs) bytes
closed_push cs ds t bytes first p e g h =
    ap nodes_of e ∙ (nodes_of_push cs (v.Chars t p) ∙ (onto_chars t p (nodes_of cs)
    ∙ (ap (λ y. Letters (nodes_of cs) y p) g ∙ ap (λ y. with_run y (nodes_of cs) bytes) (sym h))))

abbrev pub element_head : Element → HeadView
element_head e = record { name = (w.out-Element e).name; attributes = map attr_view (w.out-Element e).attributes; position = (w.out-Element e).position }

abbrev pub level_by : Nodes → List ℕ → Option Position → ℕ → LevelView
level_by n r p c = record { nodes = n; run = r; first = p; count = c }

pub kept_run : (cs ds : List Content) (t bytes run : List ℕ) (count : ℕ) (first : Option Position) (p : Position) → ds ≡ cs ++ (v.Chars t p ∷ []) → t ≡ bytes → first ≡ Some p → run ≡ [] → count ≡ 0
    → level_by (nodes_of ds) run None count ≡ level_behind (with_run first (nodes_of cs) bytes)
kept_run cs ds t bytes run count first p e g h r k =
    let n : nodes_of ds ≡ with_run first (nodes_of cs) bytes = closed_push cs ds t bytes first p e g h in
    λ i. level_by (n i) (r i) None (k i)

pub level_child : (cs ds : List Content) (e : Element) (run : List ℕ) (first : Option Position) (count : ℕ) (l : LevelView) (head : HeadView) → ds ≡ cs ++ (v.Child e ∷ []) → level_by (nodes_of cs) run first count ≡ level_behind (closed l) → element_head e ≡ head
    → level_by (nodes_of ds) run first count ≡ one_child l head (nodes_of (w.out-Element e).content.items)
level_child cs ds e run first count l head h1 h2 h3 =
    let n : nodes_of ds ≡ Node (closed l) head (nodes_of (w.out-Element e).content.items) =
    ap nodes_of h1 ∙ (nodes_of_push cs (v.Child e) ∙ (onto_child e (nodes_of cs)
    ∙ (ap (λ (y : LevelView). Node y.nodes (element_head e) (nodes_of (w.out-Element e).content.items)) h2 ∙ ap (λ (y : HeadView). Node (closed l) y (nodes_of (w.out-Element e).content.items)) h3))) in
    λ i. level_by (n i) (h2 i).run (h2 i).first (h2 i).count

pub close_is : (imports : List (List ℕ)) (s s' : Stack) (b : LevelView) (d : HeadView) (l l' : LevelView) (n : Nodes) → s ≡ Opened s' b d → l' ≡ one_child b d n → n ≡ closed l → at (held_by imports s' l') Inside ≡ close_in imports s l
close_is imports s s' b d l l' n e g h =
    ap (λ (y : LevelView). at (held_by imports s' y) Inside) (g ∙ ap (λ (y : Nodes). one_child b d y) h) ∙ ap (λ (y : Stack). close_in imports y l) (sym e)

pub element_node : (e : Element) (n : Nodes) → onto_element e n ≡ Node n (element_head e) (nodes_of (w.out-Element e).content.items)
element_node e n = ap (λ (g : Onto). g n) (f.fold_out-Element Onto Onto content_step element_step e)

-- the end of a text

abbrev pub end_state : List (List ℕ) → Stack → LevelView → State
end_state imports s l = record { held = held_by imports s l; mode = Inside }

end_answer : (imports : List (List ℕ)) (s : Stack) (l : LevelView) → is_open s ≡ false → is_nothing l.nodes ≡ false → answer (end_state imports s l) ≡ Some (record { imports = imports; root = l.nodes })
end_answer imports Bottom l e g = ap (λ y. answer_of (held_by imports Bottom l) Bottom Inside y) g
end_answer imports (Opened s b d) l e g = absurd (let h : true ≡ false = e in cc)

root_only : (n n' : Nodes) (h : HeadView) (inner : Nodes) → n ≡ Node n' h inner → IsRoot n → n' ≡ Nothing
root_only n n' h inner e r = subst IsRoot e r

pub end_child : (imports js : List (List ℕ)) (s : Stack) (l : LevelView) (cs ds : List Content) (c : Content) (e : Element) → is_open s ≡ false → l.nodes ≡ nodes_of cs → cs ≡ ds ++ (c ∷ []) → onto c ≡ onto_element e → js ≡ imports
    → AnswersRoot (end_state imports s l) → answer (end_state imports s l) ≡ Some (record { imports = js; root = node_of e })
end_child imports js s l cs ds c e h1 h2 h3 h4 h5 a =
    let n : l.nodes ≡ Node (nodes_of ds) (element_head e) (nodes_of (w.out-Element e).content.items) =
    h2 ∙ (ap nodes_of h3 ∙ (nodes_of_push ds c ∙ (ap (λ (g : Onto). g (nodes_of ds)) h4 ∙ element_node e (nodes_of ds)))) in
    let g = end_answer imports s l h1 (ap is_nothing n) in
    let r : nodes_of ds ≡ Nothing = root_only l.nodes (nodes_of ds) (element_head e) (nodes_of (w.out-Element e).content.items) n (a (record { imports = imports; root = l.nodes }) g) in
    let m : l.nodes ≡ node_of e = n ∙ (ap (λ (y : Nodes). Node y (element_head e) (nodes_of (w.out-Element e).content.items)) r ∙ sym (element_node e Nothing)) in
    g ∙ ap (λ (y : ReadingView). Some y) (λ i. record { imports = sym h5 i; root = m i })

pub end_run : (imports : List (List ℕ)) (s : Stack) (l : LevelView) (cs ds : List Content) (c : Content) → is_open s ≡ false → l.nodes ≡ nodes_of cs → cs ≡ ds ++ (c ∷ []) → IsRun c → AnswersRoot (end_state imports s l) → answer (end_state imports s l) ≡ None
end_run imports s l cs ds c h1 h2 h3 h4 a =
    let n : l.nodes ≡ onto c (nodes_of ds) = h2 ∙ (ap nodes_of h3 ∙ nodes_of_push ds c) in
    absurd (h4 (nodes_of ds) (subst IsRoot n (a (record { imports = imports; root = l.nodes }) (end_answer imports s l h1 (ap is_nothing n ∙ onto_something c (nodes_of ds))))))
