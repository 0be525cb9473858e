-- A document as it is written, and what is read of it.
-- The public sources are XML 1.0 and Introduction to FXML; the language here is the part of XML that this file states,
-- with ASCII names.
use Rattle.std.specs.Prelude.{◌≡◌, ℕ, ◌+◌, ◌≤◌, Bool, true, false, ◌&&◌, if◌then◌else◌, List, [], ◌∷◌, ◌++◌, Option, Some, None, length, codes, nat_le}
use Rattle.std.specs.Char.{is_digit}
use Rattle.std.specs.List.{list_any}
use Rattle.std.specs.Str.{chars, bytes_eq}
use Rattle.std.specs.Str.Parse.{digits_value}
use lib.Utf8.{encode, encodes}
use Rattle.fx_text.specs.Characters as ascii
use Rattle.fx_text.specs.Trimming.{trimmed}
use Rattle.fx_base.specs.Positions.{start, after_all}
use Rattle.fx_base.specs.declared.positions.Position.{Position}
use Rattle.fx_doc_grammar.specs.Characters.{class_of, IsWhite, in_name, Each, is_character}
use Rattle.fx_doc_grammar.specs.declared.Class.{Class}
use Rattle.fx_doc_grammar.specs.declared.Class.TheVariants.{White, Less, Quotation, Apostrophe, Ampersand, Letter}
use Rattle.fx_doc_grammar.specs.declared.Quote.{Quote}
use Rattle.fx_doc_grammar.specs.declared.Quote.TheVariants.{Single, Double}

-- a name is a letter or `_`, and then letters, digits, `_`, `-`, `.` and `:`
abbrev pub IsNamed : ℕ → Type 0
IsNamed c = in_name (class_of c) ≡ true

abbrev pub IsName : List ℕ → Type 0
IsName [] = ⊥
IsName (c ∷ cs) = (class_of c ≡ Letter) × Each IsNamed cs

-- a reference, as written, and the character that it stands for
pub data Reference : Type 0 where
  ForLess : Reference
  ForGreater : Reference
  ForAmpersand : Reference
  ForQuotation : Reference
  ForApostrophe : Reference
  ByDecimal : List ℕ → Reference
  ByHexadecimal : List ℕ → Reference

abbrev pub reference_text : Reference → List ℕ
reference_text ForLess = codes "&lt;"
reference_text ForGreater = codes "&gt;"
reference_text ForAmpersand = codes "&amp;"
reference_text ForQuotation = codes "&quot;"
reference_text ForApostrophe = codes "&apos;"
reference_text (ByDecimal ds) = codes "&#" ++ (ds ++ codes ";")
reference_text (ByHexadecimal ds) = codes "&#x" ++ (ds ++ codes ";")

abbrev pub stands_for : Reference → ℕ
stands_for ForLess = ascii.less_than_sign
stands_for ForGreater = ascii.greater_than_sign
stands_for ForAmpersand = ascii.ampersand
stands_for ForQuotation = ascii.quotation_mark
stands_for ForApostrophe = ascii.apostrophe
stands_for (ByDecimal ds) = digits_value 10 ds
stands_for (ByHexadecimal ds) = digits_value 16 ds

abbrev pub IsDecimal : ℕ → Type 0
IsDecimal c = is_digit c 10 ≡ true

abbrev pub IsHexadecimal : ℕ → Type 0
IsHexadecimal c = is_digit c 16 ≡ true

abbrev pub Reference_ok : Reference → Type 0
Reference_ok (ByDecimal ds) = Each IsDecimal ds × (is_character (digits_value 10 ds) ≡ true)
Reference_ok (ByHexadecimal ds) = Each IsHexadecimal ds × (is_character (digits_value 16 ds) ≡ true)
Reference_ok ForLess = Unit {0}
Reference_ok ForGreater = Unit {0}
Reference_ok ForAmpersand = Unit {0}
Reference_ok ForQuotation = Unit {0}
Reference_ok ForApostrophe = Unit {0}

-- a sign of a text: a character as it is, or a reference
pub data Sign : Type 0 where
  Plain : ℕ → Sign
  Stands : Reference → Sign

abbrev pub sign_text : Sign → List ℕ
sign_text (Plain c) = c ∷ []
sign_text (Stands r) = reference_text r

abbrev pub sign_code : Sign → ℕ
sign_code (Plain c) = c
sign_code (Stands r) = stands_for r

abbrev pub signs_text : List Sign → List ℕ
signs_text [] = []
signs_text (s ∷ ss) = sign_text s ++ signs_text ss

-- no tag and no reference begins with a plain sign
abbrev pub is_plain : Class → Bool
is_plain Less = false
is_plain Ampersand = false
is_plain _ = true

abbrev pub Sign_ok : Sign → Type 0
Sign_ok (Plain c) = is_plain (class_of c) ≡ true
Sign_ok (Stands r) = Reference_ok r

-- an attribute, with the white before it and round its `=`
pub record Written : Type 0 where
  pub white : List ℕ
  pub key : List ℕ
  pub before : List ℕ
  pub behind : List ℕ
  pub quote : Quote
  pub value : List Sign

abbrev pub quote_code : Quote → ℕ
quote_code Single = ascii.apostrophe
quote_code Double = ascii.quotation_mark

abbrev pub attribute_text : Written → List ℕ
attribute_text a = a.white ++ (a.key ++ (a.before ++ (ascii.equals_sign ∷ (a.behind ++
    (quote_code a.quote ∷ (signs_text a.value ++ (quote_code a.quote ∷ [])))))))

abbrev pub attributes_text : List Written → List ℕ
attributes_text [] = []
attributes_text (a ∷ ats) = attribute_text a ++ attributes_text ats

-- a value holds any signs, but its quote as a reference alone
abbrev pub is_quote : Quote → Class → Bool
is_quote Single Apostrophe = true
is_quote Double Quotation = true
is_quote _ _ = false

abbrev pub Value_sign_ok : Quote → Sign → Type 0
Value_sign_ok q (Plain c) = (is_plain (class_of c) ≡ true) × (is_quote q (class_of c) ≡ false)
Value_sign_ok q (Stands r) = Reference_ok r

abbrev pub Value_ok : Quote → List Sign → Type 0
Value_ok q [] = Unit {0}
Value_ok q (s ∷ ss) = Value_sign_ok q s × Value_ok q ss

abbrev pub IsFilled : List ℕ → Type 0
IsFilled [] = ⊥
IsFilled (c ∷ cs) = Unit {0}

abbrev pub Attribute_ok : Written → Type 0
Attribute_ok a =
    IsFilled a.white × Each IsWhite a.white × IsName a.key × Each IsWhite a.before × Each IsWhite a.behind
    × Value_ok a.quote a.value

abbrev pub is_among : List ℕ → List (List ℕ) → Bool
is_among name names = list_any (bytes_eq name) names

-- the attributes of a tag behind attributes of these names: no name stands twice
abbrev pub Attributes_ok : List (List ℕ) → List Written → Type 0
Attributes_ok seen [] = Unit {0}
Attributes_ok seen (a ∷ ats) = Attribute_ok a × (is_among a.key seen ≡ false) × Attributes_ok (seen ++ (a.key ∷ [])) ats

-- a tag up to its end: `<`, its name, its attributes and white
pub record Tag : Type 0 where
  pub name : List ℕ
  pub attributes : List Written
  pub white : List ℕ

abbrev pub tag_text : Tag → List ℕ
tag_text t = (ascii.less_than_sign ∷ t.name) ++ (attributes_text t.attributes ++ t.white)

abbrev pub Tag_ok : Tag → Type 0
Tag_ok t = IsName t.name × Attributes_ok [] t.attributes × Each IsWhite t.white

-- what stands in a text, from left to right, with the last on the outside
pub data Items : Type 0 where
  Empty : Items
  Shown : Items → Sign → Items
  Comment : Items → List ℕ → Items
  -- before, name, and the text behind the name
  Instruction : Items → List ℕ → List ℕ → Items
  Leaf : Items → Tag → Items
  -- before, tag, content, and the white of the end tag
  Branch : Items → Tag → Items → List ℕ → Items

abbrev pub comment_text : List ℕ → List ℕ
comment_text inside = codes "<!--" ++ (inside ++ codes "-->")

abbrev pub instruction_text : List ℕ → List ℕ → List ℕ
instruction_text name inside = codes "<?" ++ (name ++ (inside ++ codes "?>"))

abbrev pub end_text : List ℕ → List ℕ → List ℕ
end_text name white = codes "</" ++ (name ++ (white ++ codes ">"))

abbrev pub items_text : Items → List ℕ
items_text Empty = []
items_text (Shown i s) = items_text i ++ sign_text s
items_text (Comment i inside) = items_text i ++ comment_text inside
items_text (Instruction i name inside) = items_text i ++ instruction_text name inside
items_text (Leaf i t) = items_text i ++ (tag_text t ++ codes "/>")
items_text (Branch i t inner w) = items_text i ++ ((tag_text t ++ codes ">") ++ (items_text inner ++ end_text t.name w))

-- the end that is written behind a text is the first end there: none is within the text, nor begins in it
abbrev pub IsComment : List ℕ → Type 0
IsComment s = (a b : List ℕ) → s ++ codes "--" ≡ a ++ (codes "-->" ++ b) → ⊥

abbrev pub IsInstructed : List ℕ → Type 0
IsInstructed s = (a b : List ℕ) → s ++ codes "?" ≡ a ++ (codes "?>" ++ b) → ⊥

-- behind the name of an instruction stands white, or its end
abbrev pub IsApart : List ℕ → Type 0
IsApart [] = Unit {0}
IsApart (c ∷ cs) = IsWhite c

abbrev pub Instruction_ok : List ℕ → List ℕ → Type 0
Instruction_ok name inside = IsName name × IsApart inside × IsInstructed inside

-- what stands between the tags of an element
abbrev pub Content_ok : Items → Type 0
Content_ok Empty = Unit {0}
Content_ok (Shown i s) = Content_ok i × Sign_ok s
Content_ok (Comment i inside) = Content_ok i × IsComment inside
Content_ok (Instruction i name inside) = Content_ok i × Instruction_ok name inside
Content_ok (Leaf i t) = Content_ok i × Tag_ok t
Content_ok (Branch i t inner w) = Content_ok i × Tag_ok t × Content_ok inner × Each IsWhite w

abbrev pub has_element : Items → Bool
has_element Empty = false
has_element (Shown i s) = has_element i
has_element (Comment i inside) = has_element i
has_element (Instruction i name inside) = has_element i
has_element (Leaf i t) = true
has_element (Branch i t inner w) = true

abbrev pub Is_plain_white : Sign → Type 0
Is_plain_white (Plain c) = IsWhite c
Is_plain_white (Stands r) = ⊥

-- a document: white, comments, instructions, and at most one element
abbrev pub Top_ok : Items → Type 0
Top_ok Empty = Unit {0}
Top_ok (Shown i s) = Top_ok i × Is_plain_white s
Top_ok (Comment i inside) = Top_ok i × IsComment inside
Top_ok (Instruction i name inside) = Top_ok i × Instruction_ok name inside
Top_ok (Leaf i t) = Top_ok i × (has_element i ≡ false) × Tag_ok t
Top_ok (Branch i t inner w) = Top_ok i × (has_element i ≡ false) × Tag_ok t × Content_ok inner × Each IsWhite w

-- What is read ------------------------------------------------------------------------------------

pub record Attr : Type 0 where
  pub name : List ℕ
  pub value : List ℕ
  pub position : Position

-- what stands before a tag's end: its name, its attributes, and the position of its `<`
pub record Head : Type 0 where
  pub name : List ℕ
  pub attributes : List Attr
  pub position : Position

pub data Nodes : Type 0 where
  Nothing : Nodes
  -- before, the UTF-8 of a run of characters, and the position of the first that isn't white
  Letters : Nodes → List ℕ → Position → Nodes
  -- before, the tag, and the content
  Node : Nodes → Head → Nodes → Nodes

-- what is read of the items of one element so far: the nodes, and the run behind them, with the position of its first
-- sign that isn't white and its count of signs
pub record Level : Type 0 where
  pub nodes : Nodes
  pub run : List ℕ
  pub first : Option Position
  pub count : ℕ

abbrev pub fresh_level : Level
fresh_level = record { nodes = Nothing; run = []; first = None; count = 0 }

abbrev pub first_shown : Option Position → Position → Class → Option Position
first_shown (Some q) p k = Some q
first_shown None p White = None
first_shown None p k = Some p

-- one more character in a run, written at p
abbrev pub one_sign : Position → ℕ → Level → Level
one_sign p c l =
    record { nodes = l.nodes; run = l.run ++ encode c; first = first_shown l.first p (class_of c); count = l.count + 1 }

-- the run goes among the nodes, unless it is blank
abbrev pub with_run : Option Position → Nodes → List ℕ → Nodes
with_run None n r = n
with_run (Some p) n r = Letters n r p

abbrev pub closed : Level → Nodes
closed l = with_run l.first l.nodes l.run

abbrev pub one_child : Level → Head → Nodes → Level
one_child l h n = record { nodes = Node (closed l) h n; run = []; first = None; count = 0 }

-- tab, CR and LF in a value become a space, but not as references
abbrev pub value_byte : Class → ℕ → List ℕ
value_byte White c = ascii.space ∷ []
value_byte _ c = encode c

abbrev pub sign_value : Sign → List ℕ
sign_value (Plain c) = value_byte (class_of c) c
sign_value (Stands r) = encode (stands_for r)

abbrev pub value_of : List Sign → List ℕ
value_of [] = []
value_of (s ∷ ss) = sign_value s ++ value_of ss

abbrev pub attr_at : Position → Written → Attr
attr_at p a = record { name = a.key; value = value_of a.value; position = after_all p a.white }

abbrev pub attributes_of : Position → List Written → List Attr
attributes_of p [] = []
attributes_of p (a ∷ ats) = attr_at p a ∷ attributes_of (after_all p (attribute_text a)) ats

abbrev pub head_of : Position → Tag → Head
head_of p t =
    let attributes = attributes_of (after_all p (ascii.less_than_sign ∷ t.name)) t.attributes in
    record { name = t.name; attributes = attributes; position = p }

abbrev pub level_of : Position → Items → Level
level_of p Empty = fresh_level
level_of p (Shown i s) = one_sign (after_all p (items_text i)) (sign_code s) (level_of p i)
level_of p (Comment i inside) = level_of p i
level_of p (Instruction i name inside) = level_of p i
level_of p (Leaf i t) = one_child (level_of p i) (head_of (after_all p (items_text i)) t) Nothing
level_of p (Branch i t inner w) = one_child (level_of p i) (head_of (after_all p (items_text i)) t)
    (closed (level_of (after_all (after_all p (items_text i)) (tag_text t ++ codes ">")) inner))

-- what is read at the top: the element there
abbrev pub root_of : Position → Items → Nodes
root_of p Empty = Nothing
root_of p (Shown i s) = root_of p i
root_of p (Comment i inside) = root_of p i
root_of p (Instruction i name inside) = root_of p i
root_of p (Leaf i t) = Node (root_of p i) (head_of (after_all p (items_text i)) t) Nothing
root_of p (Branch i t inner w) = Node (root_of p i) (head_of (after_all p (items_text i)) t)
    (closed (level_of (after_all (after_all p (items_text i)) (tag_text t ++ codes ">")) inner))

-- one element, and nothing before it
abbrev pub IsRoot : Nodes → Type 0
IsRoot (Node before head inner) = before ≡ Nothing
IsRoot _ = ⊥

-- what an instruction adds to the imports: the UTF-8 of its trimmed text, unless that is over 4,096 characters
abbrev pub listed : List ℕ → List ℕ → List (List ℕ)
listed name inside =
    if bytes_eq name (codes "import") && nat_le (length (chars (trimmed inside))) 4096 then trimmed inside ∷ [] else []

-- the imports before the first element
abbrev pub imports_of : Items → List (List ℕ)
imports_of Empty = []
imports_of (Shown i s) = imports_of i
imports_of (Comment i inside) = imports_of i
imports_of (Instruction i name inside) = imports_of i ++ (if has_element i then [] else listed name (encodes inside))
imports_of (Leaf i t) = imports_of i
imports_of (Branch i t inner w) = imports_of i

pub record Reading : Type 0 where
  pub imports : List (List ℕ)
  pub root : Nodes

-- the text is that of a document, and this is read of it
pub record Spells (text : List ℕ) (reading : Reading) : Type 0 where
  pub items : Items
  pub top : Top_ok items
  pub one : has_element items ≡ true
  pub written : text ≡ items_text items
  pub imports : reading.imports ≡ imports_of items
  pub root : reading.root ≡ root_of start items

-- some document begins with this
abbrev pub Begins : List ℕ → Type 0
Begins text = (more : List ℕ) × (reading : Reading) × Spells (text ++ more) reading

-- the text is no document, and p is the end of its longest prefix that some document begins with
pub record IsMarkup (text : List ℕ) (p : Position) : Type 0 where
  pub nothing : (reading : Reading) → Spells text reading → ⊥
  pub front : List ℕ
  pub rest : List ℕ
  pub split : text ≡ front ++ rest
  pub begins : Begins front
  pub longest : (longer more : List ℕ) → text ≡ longer ++ more → Begins longer → length longer ≤ length front
  pub position : p ≡ after_all start front
