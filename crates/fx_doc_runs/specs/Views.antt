-- What contracts see of the reader and of the tree that it makes: the machine's state, and the grammar's nodes.
-- The tree is seen by a fold, since its values hold capacities and pointers.
use Rattle.std.specs.Prelude.{◌≡◌, ◌≤◌, ℕ, Bool, true, false, List, [], ◌∷◌, map, drop, Option, Some, None, Result, Ok, Err}
use Rattle.std.specs.String.{string_bytes}
use Rattle.fx_base.specs.declared.positions.Position.{Position}
use Rattle.fx_doc_grammar.specs.declared.Entity.TheVariants.{Begun}
use Rattle.fx_doc_grammar.specs.declared.Quote.{Quote}
use Rattle.fx_doc_grammar.specs.Grammar as grammar
use Rattle.fx_doc_grammar.specs.Machine as m
use Rattle.fx_doc_runs.specs.declared.document.Attribute.{Attribute}
use Rattle.fx_doc_runs.specs.declared.document.Content.{Content}
use Rattle.fx_doc_runs.specs.declared.document.Content.TheOpen.{Content-F, Element-F, Child, Chars}
use Rattle.fx_doc_runs.specs.declared.document.Content.TheFolds.{fold-Content, fold-Element}
use Rattle.fx_doc_runs.specs.declared.document.Element.{Element}
use Rattle.fx_doc_runs.specs.declared.document.Document.{Document}
use Rattle.fx_doc_drafts.specs.declared.drafts.Halt.{Halt}
use Rattle.fx_doc_drafts.specs.declared.drafts.Halt.TheVariants.{Long, Memory}
use Rattle.fx_doc_runs.specs.declared.modes.Head.{Head}
use Rattle.fx_doc_runs.specs.declared.modes.Level.{Level}
use Rattle.fx_doc_runs.specs.declared.modes.Open.{Open}
use Rattle.fx_doc_runs.specs.declared.modes.Held.{Held}
use Rattle.fx_doc_runs.specs.declared.modes.Mode.{Mode}
use Rattle.fx_doc_runs.specs.declared.modes.Mode.TheVariants as v
use Rattle.fx_doc_runs.specs.declared.modes.Reader.{Reader}

-- a piece of content puts itself behind what stands before it
abbrev pub Onto : Type 0
Onto = grammar.Nodes → grammar.Nodes

abbrev pub built : grammar.Nodes → List Onto → grammar.Nodes
built n [] = n
built n (f ∷ fs) = built (f n) fs

abbrev pub attr_view : Attribute → grammar.Attr
attr_view a = record { name = a.name; value = a.value; position = a.position }

abbrev pub element_step : Element-F Onto Onto → Onto
element_step e n =
    grammar.Node n (record { name = e.name; attributes = map attr_view e.attributes; position = e.position })
    (built grammar.Nothing e.content.items)

abbrev pub content_step : Content-F Onto Onto → Onto
content_step (Child e) = e
content_step (Chars t position) = λ n. grammar.Letters n t position

abbrev pub onto : Content → Onto
onto = fold-Content Onto Onto content_step element_step

-- what is read of pieces of content
abbrev pub nodes_of : List Content → grammar.Nodes
nodes_of cs = built grammar.Nothing (map onto cs)

abbrev pub level_view : Level → grammar.Level
level_view l = record {
  nodes = nodes_of l.content.items;
  run = string_bytes l.run.text;
  first = l.first;
  count = l.run.count;
}

-- a level behind these nodes, with an empty run
abbrev pub level_behind : grammar.Nodes → grammar.Level
level_behind n = record { nodes = n; run = []; first = None; count = 0 }

abbrev pub head_view : Head → grammar.Head
head_view h = record { name = h.name; attributes = map attr_view h.attributes.items; position = h.position }

abbrev pub stack_from : m.Stack → List Open → m.Stack
stack_from s [] = s
stack_from s (o ∷ os) = stack_from (m.Opened s (level_view o.before) (head_view o.head)) os

abbrev pub stack_view : List Open → m.Stack
stack_view os = stack_from m.Bottom os

abbrev pub held_view : Held → m.Held
held_view h = record { imports = h.imports.items; stack = stack_view h.stack.items; level = level_view h.level }

abbrev pub open_name : m.Stack → List ℕ
open_name m.Bottom = []
open_name (m.Opened s l h) = h.name

abbrev pub mode_view : m.Stack → Mode → m.Mode
mode_view s v.Inside = m.Inside
mode_view s (v.Referring p e) = m.Referring p e
mode_view s (v.Opening p) = m.Opening p
mode_view s v.Banged = m.Banged
mode_view s v.BangDashed = m.BangDashed
mode_view s v.Commented = m.Commented
mode_view s v.Dashed = m.Dashed
mode_view s v.DashDashed = m.DashDashed
mode_view s v.Asked = m.Asked
mode_view s (v.Instructing n) = m.Instructing (string_bytes n.text)
mode_view s (v.NameAsked n) = m.NameAsked (string_bytes n.text)
mode_view s (v.Instructed n x) = m.Instructed (string_bytes n.text) (string_bytes x)
mode_view s (v.EndAsked n x) = m.EndAsked (string_bytes n.text) (string_bytes x)
mode_view s (v.Naming p n) = m.Naming p (string_bytes n.text)
mode_view s (v.Spaced h) = m.Spaced (head_view h)
mode_view s (v.Tight h) = m.Tight (head_view h)
mode_view s (v.Keyed h p k) = m.Keyed (head_view h) p (string_bytes k.text)
mode_view s (v.KeySpaced h p k) = m.KeySpaced (head_view h) p (string_bytes k.text)
mode_view s (v.Signed h p k) = m.Signed (head_view h) p (string_bytes k.text)
mode_view s (v.Quoted x) = m.Quoted (head_view x.head) x.position (string_bytes x.key.text) x.quote
    (string_bytes x.value.text) x.value.count
mode_view s (v.ValueReferring x p e) = m.ValueReferring (head_view x.head) x.position (string_bytes x.key.text)
    x.quote (string_bytes x.value.text) x.value.count p e
mode_view s (v.Slashed h) = m.Slashed (head_view h)
mode_view s (v.Ending n) = m.Ending (drop n (open_name s))
mode_view s v.Ended = m.Ended

abbrev pub view : Reader → m.State
view r = record { held = held_view r.held; mode = mode_view (stack_view r.held.stack.items) r.mode }

-- the step leads past a limit on lengths
abbrev pub IsLongStep : Option m.State → Type 0
IsLongStep None = ⊥
IsLongStep (Some s) = m.is_long s ≡ true

-- the state of a reader that holds this in that mode
abbrev pub moved : Held → Option Mode → Option m.State
moved h None = None
moved h (Some mode) = m.at (held_view h) (mode_view (stack_view h.stack.items) mode)

-- what a mode answers to a character, where the reader holds h afterwards and the machine goes to o
abbrev pub Moves : Option m.State → Held → Result (Option Mode) Halt → Type 0
Moves o h (Ok r) = moved h r ≡ o
Moves o h (Err Long) = IsLongStep o
Moves o h (Err Memory) = Unit {0}

-- the state of a reader that went on
abbrev pub stepped : Reader → Bool → Option m.State
stepped r true = Some (view r)
stepped r false = None

-- what a step of the reader answers, where it is r afterwards and the machine goes to o
abbrev pub Steps : Option m.State → Reader → Result Bool Halt → Type 0
Steps o r (Ok b) = stepped r b ≡ o
Steps o r (Err Long) = IsLongStep o
Steps o r (Err Memory) = Unit {0}

-- a character that only makes a text longer is taken in place; every other leaves the reader as it is
abbrev pub Takes : Option m.State → Reader → Reader → Result Bool Halt → Type 0
Takes o r r' (Ok true) = Some (view r') ≡ o
Takes o r r' (Ok false) = r' ≡ r
Takes o r r' (Err Long) = IsLongStep o
Takes o r r' (Err Memory) = Unit {0}

-- states that several steps lead to
abbrev pub inside_state : m.Held → Option m.State
inside_state h = m.at h m.Inside

abbrev pub referring_state : m.Held → Position → Option m.State
referring_state h p = m.at h (m.Referring p Begun)

abbrev pub naming_state : m.Held → Position → List ℕ → Option m.State
naming_state h p n = m.at h (m.Naming p n)

abbrev pub instructing_state : m.Held → List ℕ → Option m.State
instructing_state h n = m.at h (m.Instructing n)

abbrev pub keyed_state : m.Held → grammar.Head → Position → List ℕ → Option m.State
keyed_state h head p n = m.at h (m.Keyed head p n)

abbrev pub key_spaced_state : m.Held → grammar.Head → Position → List ℕ → Option m.State
key_spaced_state h head p n = m.at h (m.KeySpaced head p n)

abbrev pub signed_state : m.Held → grammar.Head → Position → List ℕ → Option m.State
signed_state h head p n = m.at h (m.Signed head p n)

-- the tag of a name alone
abbrev pub bare_head : Position → List ℕ → grammar.Head
bare_head p n = record { name = n; attributes = []; position = p }

abbrev pub tight_state : m.Held → grammar.Head → Option m.State
tight_state h head = m.at h (m.Tight head)

abbrev pub quoted_state : m.Held → grammar.Head → Position → List ℕ → Quote → List ℕ → ℕ → Option m.State
quoted_state h head p k u b n = m.at h (m.Quoted head p k u b n)

-- an element begins at p within 128 open ones
abbrev pub IsDeepMode : m.Mode → Position → Type 0
IsDeepMode (m.Naming q n) p = q ≡ p
IsDeepMode _ p = ⊥

abbrev pub IsDeepAt : m.State → Position → Type 0
IsDeepAt s p = IsDeepMode s.mode p × (128 ≤ m.stack_depth s.held.stack)

abbrev pub onto_element : Element → Onto
onto_element = fold-Element Onto Onto content_step element_step

-- an element by itself
abbrev pub node_of : Element → grammar.Nodes
node_of e = onto_element e grammar.Nothing

-- what contracts see of a document
abbrev pub reading : Document → grammar.Reading
reading d = record { imports = d.imports; root = node_of d.root }

abbrev pub inside_view : Held → m.State
inside_view h = record { held = held_view h; mode = m.Inside }

-- what the machine would answer at s has one element as its root
abbrev pub AnswersRoot : m.State → Type 0
AnswersRoot s = (n : grammar.Reading) → m.answer s ≡ Some n → grammar.IsRoot n.root

-- a piece of content that is no element
abbrev pub IsRun : Content → Type 0
IsRun c = (n : grammar.Nodes) → grammar.IsRoot (onto c n) → ⊥
