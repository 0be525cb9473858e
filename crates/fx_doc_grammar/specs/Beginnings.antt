-- The beginnings of documents: what has been written up to a position, as a path of open elements and the part that is
-- being written there. The limits on depth and length are facts of beginnings, and not of documents.
use Rattle.std.specs.Prelude.{◌≡◌, ℕ, suc, ◌+◌, ◌≤◌, false, List, [], ◌∷◌, ◌++◌, length, codes}
use Rattle.std.specs.Str.Parse.{digits_value}
use Rattle.fx_text.specs.Characters as ascii
use Rattle.fx_base.specs.Positions.{start, after_all}
use Rattle.fx_base.specs.declared.positions.Position.{Position}
use Rattle.fx_doc_grammar.specs.Characters.{IsWhite, Each, last_code}
use Rattle.fx_doc_grammar.specs.Grammar as spec
use Rattle.fx_doc_grammar.specs.declared.Quote.{Quote}
use Rattle.fx_doc_grammar.specs.declared.Entity.{Entity}
use Rattle.fx_doc_grammar.specs.declared.Entity.TheVariants as entity

-- the open elements, the innermost outside, with what stands before each and its tag
pub data Path : Type 0 where
  Top : Path
  Within : Path → spec.Items → spec.Tag → Path

-- what has been written of the piece that is not yet whole
pub data Part : Type 0 where
  PInside : Part
  -- of a reference; with the digits that it has
  PReferring : Entity → List ℕ → Part
  PLess : Part
  PBang : Part
  PBangDash : Part
  PComment : List ℕ → Part
  PDashed : List ℕ → Part
  PDashDashed : List ℕ → Part
  PAsk : Part
  PInstructing : List ℕ → Part
  PNameAsked : List ℕ → Part
  PInstructed : List ℕ → List ℕ → Part
  PEndAsked : List ℕ → List ℕ → Part
  PNaming : List ℕ → Part
  PSpaced : spec.Tag → Part
  PTight : spec.Tag → Part
  PKeyed : spec.Tag → List ℕ → Part
  PKeySpaced : spec.Tag → List ℕ → List ℕ → Part
  PSigned : spec.Tag → List ℕ → List ℕ → List ℕ → Part
  PQuoted : spec.Tag → List ℕ → List ℕ → List ℕ → Quote → List spec.Sign → Part
  PValueReferring : spec.Tag → List ℕ → List ℕ → List ℕ → Quote → List spec.Sign → Entity → List ℕ → Part
  PSlashed : spec.Tag → Part
  -- of the name in an end tag: what is written, and what is left
  PEnding : List ℕ → List ℕ → Part
  PEnded : List ℕ → List ℕ → Part

abbrev pub entity_text : Entity → List ℕ → List ℕ
entity_text entity.Begun ds = codes "&"
entity_text entity.A ds = codes "&a"
entity_text entity.Am ds = codes "&am"
entity_text entity.Amp ds = codes "&amp"
entity_text entity.Ap ds = codes "&ap"
entity_text entity.Apo ds = codes "&apo"
entity_text entity.Apos ds = codes "&apos"
entity_text entity.G ds = codes "&g"
entity_text entity.Gt ds = codes "&gt"
entity_text entity.L ds = codes "&l"
entity_text entity.Lt ds = codes "&lt"
entity_text entity.Q ds = codes "&q"
entity_text entity.Qu ds = codes "&qu"
entity_text entity.Quo ds = codes "&quo"
entity_text entity.Quot ds = codes "&quot"
entity_text entity.Hash ds = codes "&#"
entity_text (entity.Decimal n) ds = codes "&#" ++ ds
entity_text entity.Hex ds = codes "&#x"
entity_text (entity.HexDigits n) ds = codes "&#x" ++ ds

abbrev pub Entity_ok : Entity → List ℕ → Type 0
Entity_ok (entity.Decimal n) ds = spec.IsFilled ds × Each spec.IsDecimal ds × (digits_value 10 ds ≡ n) × (n ≤ last_code)
Entity_ok (entity.HexDigits n) ds =
    spec.IsFilled ds × Each spec.IsHexadecimal ds × (digits_value 16 ds ≡ n) × (n ≤ last_code)
Entity_ok _ ds = Unit {0}

abbrev key_text : spec.Tag → List ℕ → List ℕ → List ℕ
key_text t key before = spec.tag_text t ++ (key ++ before)

abbrev sign_part : spec.Tag → List ℕ → List ℕ → List ℕ → List ℕ
sign_part t key before behind = spec.tag_text t ++ (key ++ (before ++ (ascii.equals_sign ∷ behind)))

abbrev pub value_part : spec.Tag → List ℕ → List ℕ → List ℕ → Quote → List spec.Sign → List ℕ
value_part t key before behind quote value =
    spec.tag_text t ++ (key ++ (before ++ (ascii.equals_sign ∷
    (behind ++ (spec.quote_code quote ∷ spec.signs_text value)))))

abbrev pub part_text : Part → List ℕ
part_text PInside = []
part_text (PReferring e ds) = entity_text e ds
part_text PLess = codes "<"
part_text PBang = codes "<!"
part_text PBangDash = codes "<!-"
part_text (PComment x) = codes "<!--" ++ x
part_text (PDashed x) = codes "<!--" ++ (x ++ codes "-")
part_text (PDashDashed x) = codes "<!--" ++ (x ++ codes "--")
part_text PAsk = codes "<?"
part_text (PInstructing n) = codes "<?" ++ n
part_text (PNameAsked n) = codes "<?" ++ (n ++ codes "?")
part_text (PInstructed n x) = codes "<?" ++ (n ++ x)
part_text (PEndAsked n x) = codes "<?" ++ (n ++ (x ++ codes "?"))
part_text (PNaming n) = ascii.less_than_sign ∷ n
part_text (PSpaced t) = spec.tag_text t
part_text (PTight t) = spec.tag_text t
part_text (PKeyed t key) = spec.tag_text t ++ key
part_text (PKeySpaced t key before) = key_text t key before
part_text (PSigned t key before behind) = sign_part t key before behind
part_text (PQuoted t key before behind quote value) = value_part t key before behind quote value
part_text (PValueReferring t key before behind quote value e ds) =
    value_part t key before behind quote value ++ entity_text e ds
part_text (PSlashed t) = spec.tag_text t ++ codes "/"
part_text (PEnding said rest) = codes "</" ++ said
part_text (PEnded name white) = codes "</" ++ (name ++ white)

abbrev pub path_text : Path → List ℕ
path_text Top = []
path_text (Within p i t) = (path_text p ++ spec.items_text i) ++ (spec.tag_text t ++ codes ">")

abbrev pub zip_text : Path → spec.Items → Part → List ℕ
zip_text p i part = (path_text p ++ spec.items_text i) ++ part_text part

abbrev pub Items_ok : Path → spec.Items → Type 0
Items_ok Top i = spec.Top_ok i
Items_ok (Within p j t) i = spec.Content_ok i

-- an element may begin here
abbrev pub IsRoom : Path → spec.Items → Type 0
IsRoom Top i = spec.has_element i ≡ false
IsRoom (Within p j t) i = Unit {0}

abbrev pub IsWithin : Path → Type 0
IsWithin Top = ⊥
IsWithin (Within p i t) = Unit {0}

abbrev pub Path_ok : Path → Type 0
Path_ok Top = Unit {0}
Path_ok (Within p i t) = Path_ok p × Items_ok p i × IsRoom p i × spec.Tag_ok t

abbrev pub IsOpenName : Path → List ℕ → Type 0
IsOpenName Top n = ⊥
IsOpenName (Within p i t) n = n ≡ t.name

-- no end of a comment, or of an instruction, has been written
abbrev pub HasNoEnd : List ℕ → List ℕ → Type 0
HasNoEnd e x = (a b : List ℕ) → x ≡ a ++ (e ++ (ascii.greater_than_sign ∷ b)) → ⊥

abbrev pub EndsOtherwise : ℕ → List ℕ → Type 0
EndsOtherwise c x = (a : List ℕ) → x ≡ a ++ (c ∷ []) → ⊥

abbrev pub keys : List spec.Written → List (List ℕ)
keys [] = []
keys (a ∷ ats) = a.key ∷ keys ats

abbrev Key_ok : spec.Tag → List ℕ → Type 0
Key_ok t key = spec.Tag_ok t × spec.IsFilled t.white × spec.IsName key

abbrev Fresh_key_ok : spec.Tag → List ℕ → List ℕ → Type 0
Fresh_key_ok t key before = Key_ok t key × (spec.is_among key (keys t.attributes) ≡ false) × Each IsWhite before

abbrev pub Part_ok : Path → spec.Items → Part → Type 0
Part_ok p i PInside = Unit {0}
Part_ok p i (PReferring e ds) = IsWithin p × Entity_ok e ds
Part_ok p i PLess = Unit {0}
Part_ok p i PBang = Unit {0}
Part_ok p i PBangDash = Unit {0}
Part_ok p i (PComment x) = HasNoEnd (codes "--") x × EndsOtherwise ascii.hyphen x
Part_ok p i (PDashed x) = HasNoEnd (codes "--") (x ++ codes "-") × EndsOtherwise ascii.hyphen x
Part_ok p i (PDashDashed x) = HasNoEnd (codes "--") (x ++ codes "--") × Unit {0}
Part_ok p i PAsk = Unit {0}
Part_ok p i (PInstructing n) = spec.IsName n
Part_ok p i (PNameAsked n) = spec.IsName n
Part_ok p i (PInstructed n x) =
    spec.IsName n × spec.IsFilled x × spec.IsApart x × HasNoEnd (codes "?") x × EndsOtherwise ascii.question_mark x
Part_ok p i (PEndAsked n x) = spec.IsName n × spec.IsFilled x × spec.IsApart x × HasNoEnd (codes "?") (x ++ codes "?")
Part_ok p i (PNaming n) = IsRoom p i × spec.IsName n
Part_ok p i (PSpaced t) = IsRoom p i × spec.Tag_ok t × spec.IsFilled t.white
Part_ok p i (PTight t) = IsRoom p i × spec.Tag_ok t × (t.white ≡ [])
Part_ok p i (PKeyed t key) = IsRoom p i × Key_ok t key
Part_ok p i (PKeySpaced t key before) = IsRoom p i × Fresh_key_ok t key before
Part_ok p i (PSigned t key before behind) = IsRoom p i × Fresh_key_ok t key before × Each IsWhite behind
Part_ok p i (PQuoted t key before behind quote value) =
    IsRoom p i × Fresh_key_ok t key before × Each IsWhite behind × spec.Value_ok quote value
Part_ok p i (PValueReferring t key before behind quote value e ds) =
    IsRoom p i × Fresh_key_ok t key before × Each IsWhite behind × spec.Value_ok quote value × Entity_ok e ds
Part_ok p i (PSlashed t) = IsRoom p i × spec.Tag_ok t
Part_ok p i (PEnding said rest) = IsOpenName p (said ++ rest)
Part_ok p i (PEnded name white) = IsOpenName p name × Each IsWhite white

-- the text is a beginning that is written so
pub record IsBegun (text : List ℕ) (path : Path) (items : spec.Items) (part : Part) : Type 0 where
  pub path_ok : Path_ok path
  pub items_ok : Items_ok path items
  pub part_ok : Part_ok path items part
  pub written : text ≡ zip_text path items part

-- Limits ------------------------------------------------------------------------------------------

-- how many elements are open
abbrev pub depth_of : Path → ℕ
depth_of Top = 0
depth_of (Within p i t) = suc (depth_of p)

-- the signs since the last tag
abbrev pub run_count : spec.Items → ℕ
run_count spec.Empty = 0
run_count (spec.Shown i s) = run_count i + 1
run_count (spec.Comment i x) = run_count i
run_count (spec.Instruction i n x) = run_count i
run_count (spec.Leaf i t) = 0
run_count (spec.Branch i t inner w) = 0

-- an element begins at p within 128 open ones
pub record PassesDepth (text : List ℕ) (p : Position) : Type 0 where
  pub path : Path
  pub items : spec.Items
  pub name : List ℕ
  pub begun : IsBegun text path items (PNaming name)
  pub deep : 128 ≤ depth_of path
  pub position : p ≡ after_all start (path_text path ++ spec.items_text items)

-- the last sign is the first past 4,096, of a run within an element, of a value or of a name; and what is written
-- before it
pub data IsPast (path : Path) (items : spec.Items) (part : Part) (before : List ℕ) : Type 0 where
  InRun : (i : spec.Items) (s : spec.Sign) → IsWithin path → items ≡ spec.Shown i s → part ≡ PInside
      → run_count i ≡ 4096 → before ≡ path_text path ++ spec.items_text i → IsPast path items part before
  InValue : (t : spec.Tag) (key w v : List ℕ) (u : Quote) (value : List spec.Sign) (s : spec.Sign)
      → part ≡ PQuoted t key w v u (value ++ (s ∷ [])) → length value ≡ 4096
      → before ≡ zip_text path items (PQuoted t key w v u value) → IsPast path items part before
  InName : (n : List ℕ) (c : ℕ) → part ≡ PNaming (n ++ (c ∷ [])) → length n ≡ 4096
      → before ≡ zip_text path items (PNaming n) → IsPast path items part before
  InKey : (t : spec.Tag) (key : List ℕ) (c : ℕ) → part ≡ PKeyed t (key ++ (c ∷ [])) → length key ≡ 4096
      → before ≡ zip_text path items (PKeyed t key) → IsPast path items part before
  InInstruction : (n : List ℕ) (c : ℕ) → part ≡ PInstructing (n ++ (c ∷ [])) → length n ≡ 4096
      → before ≡ zip_text path items (PInstructing n) → IsPast path items part before

-- a sign that begins at p is the first past 4,096
pub record PassesLength (text : List ℕ) (p : Position) : Type 0 where
  pub path : Path
  pub items : spec.Items
  pub part : Part
  pub before : List ℕ
  pub begun : IsBegun text path items part
  pub past : IsPast path items part before
  pub position : p ≡ after_all start before

-- no beginning of the text passes a limit
abbrev pub IsWithinLimits : List ℕ → Type 0
IsWithinLimits text = (front more : List ℕ) (p : Position) → text ≡ front ++ more
    → (PassesDepth front p → ⊥) × (PassesLength front p → ⊥)

-- the first limit that the text passes is the depth, at p; or the length
pub record IsTooDeep (text : List ℕ) (p : Position) : Type 0 where
  pub front : List ℕ
  pub last : ℕ
  pub more : List ℕ
  pub split : text ≡ front ++ (last ∷ more)
  pub before : IsWithinLimits front
  pub passes : PassesDepth (front ++ (last ∷ [])) p

pub record IsTooLong (text : List ℕ) (p : Position) : Type 0 where
  pub front : List ℕ
  pub last : ℕ
  pub more : List ℕ
  pub split : text ≡ front ++ (last ∷ more)
  pub before : IsWithinLimits front
  pub passes : PassesLength (front ++ (last ∷ [])) p

-- the text is no document, and passes no limit up to p, the end of its longest prefix that some document begins with
pub record IsStopped (text : List ℕ) (p : Position) : Type 0 where
  pub markup : spec.IsMarkup text p
  pub within : IsWithinLimits markup.front
