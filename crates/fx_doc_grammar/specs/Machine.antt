-- A machine that reads a document, one character at a time, with a stack of the open elements.
-- The theorem does not rest on it: code is proved to be this machine, and the machine to read what the grammar spells.
use Rattle.std.specs.Prelude.{ℕ, suc, ◌+◌, ◌*◌, Bool, true, false, not, ◌==◌, ◌&&◌, ◌||◌, if◌then◌else◌, List, [], ◌∷◌, ◌++◌, Option, Some, None, length, map, codes, nat_lt, nat_le}
use Rattle.std.specs.Char.{is_digit, digit_value}
use lib.Utf8.{encode}
use Rattle.fx_text.specs.Characters as ascii
use Rattle.fx_base.specs.Positions.{after}
use Rattle.fx_base.specs.declared.positions.Position.{Position}
use Rattle.fx_doc_grammar.specs.Characters.{class_of, in_name, is_character, last_code}
use Rattle.fx_doc_grammar.specs.Grammar as spec
use Rattle.fx_doc_grammar.specs.declared.Class.{Class}
use Rattle.fx_doc_grammar.specs.declared.Class.TheVariants as class
use Rattle.fx_doc_grammar.specs.declared.Quote.{Quote}
use Rattle.fx_doc_grammar.specs.declared.Quote.TheVariants.{Single, Double}
use Rattle.fx_doc_grammar.specs.declared.Entity.{Entity}
use Rattle.fx_doc_grammar.specs.declared.Entity.TheVariants as entities
use Rattle.fx_doc_grammar.specs.declared.Turn.{Turn}
use Rattle.fx_doc_grammar.specs.declared.Turn.TheVariants.{Further, Whole}

-- References --------------------------------------------------------------------------------------

-- the character that a text of one character is
abbrev pub letter : List ℕ → ℕ
letter [] = 0
letter (c ∷ cs) = c

abbrev pub expect : ℕ → Turn → ℕ → Option Turn
expect x t c = if c == x then Some t else None

abbrev pub begin_entity : ℕ → Option Turn
begin_entity c =
    if c == letter (codes "a") then Some (Further entities.A)
    else (if c == letter (codes "g") then Some (Further entities.G)
    else (if c == letter (codes "l") then Some (Further entities.L)
    else (if c == letter (codes "q") then Some (Further entities.Q)
    else (if c == ascii.number_sign then Some (Further entities.Hash) else None))))

abbrev pub after_a : ℕ → Option Turn
after_a c =
    if c == letter (codes "m") then Some (Further entities.Am)
    else (if c == letter (codes "p") then Some (Further entities.Ap) else None)

-- a number with one more digit, as long as it stays among the code points
abbrev pub with_digit : ℕ → (ℕ → Entity) → ℕ → ℕ → Option Turn
with_digit base entity n c =
    if is_digit c base && nat_le (n * base + digit_value c) last_code
    then Some (Further (entity (n * base + digit_value c))) else None

abbrev pub decimal_digit : ℕ → ℕ → Option Turn
decimal_digit n c = with_digit 10 entities.Decimal n c

abbrev pub hexadecimal_digit : ℕ → ℕ → Option Turn
hexadecimal_digit n c = with_digit 16 entities.HexDigits n c

abbrev pub number_end : ℕ → Option Turn
number_end n = if is_character n then Some (Whole n) else None

abbrev pub entity_step : Entity → ℕ → Option Turn
entity_step entities.Begun c = begin_entity c
entity_step entities.A c = after_a c
entity_step entities.Am c = expect (letter (codes "p")) (Further entities.Amp) c
entity_step entities.Amp c = expect ascii.semicolon (Whole ascii.ampersand) c
entity_step entities.Ap c = expect (letter (codes "o")) (Further entities.Apo) c
entity_step entities.Apo c = expect (letter (codes "s")) (Further entities.Apos) c
entity_step entities.Apos c = expect ascii.semicolon (Whole ascii.apostrophe) c
entity_step entities.G c = expect (letter (codes "t")) (Further entities.Gt) c
entity_step entities.Gt c = expect ascii.semicolon (Whole ascii.greater_than_sign) c
entity_step entities.L c = expect (letter (codes "t")) (Further entities.Lt) c
entity_step entities.Lt c = expect ascii.semicolon (Whole ascii.less_than_sign) c
entity_step entities.Q c = expect (letter (codes "u")) (Further entities.Qu) c
entity_step entities.Qu c = expect (letter (codes "o")) (Further entities.Quo) c
entity_step entities.Quo c = expect (letter (codes "t")) (Further entities.Quot) c
entity_step entities.Quot c = expect ascii.semicolon (Whole ascii.quotation_mark) c
entity_step entities.Hash c = if c == ascii.small_x then Some (Further entities.Hex) else decimal_digit 0 c
entity_step (entities.Decimal n) c = if c == ascii.semicolon then number_end n else decimal_digit n c
entity_step entities.Hex c = hexadecimal_digit 0 c
entity_step (entities.HexDigits n) c = if c == ascii.semicolon then number_end n else hexadecimal_digit n c

-- States ------------------------------------------------------------------------------------------

-- the open elements, the innermost outside, with what stands before each
pub data Stack : Type 0 where
  Bottom : Stack
  Opened : Stack → spec.Level → spec.Head → Stack

pub record Held : Type 0 where
  pub imports : List (List ℕ)
  pub stack : Stack
  pub level : spec.Level

pub data Mode : Type 0 where
  Inside : Mode
  Referring : Position → Entity → Mode
  Opening : Position → Mode
  Banged : Mode
  BangDashed : Mode
  Commented : Mode
  Dashed : Mode
  DashDashed : Mode
  Asked : Mode
  Instructing : List ℕ → Mode
  NameAsked : List ℕ → Mode
  Instructed : List ℕ → List ℕ → Mode
  EndAsked : List ℕ → List ℕ → Mode
  Naming : Position → List ℕ → Mode
  Spaced : spec.Head → Mode
  Tight : spec.Head → Mode
  Keyed : spec.Head → Position → List ℕ → Mode
  KeySpaced : spec.Head → Position → List ℕ → Mode
  Signed : spec.Head → Position → List ℕ → Mode
  -- the value so far, and its count of signs
  Quoted : spec.Head → Position → List ℕ → Quote → List ℕ → ℕ → Mode
  ValueReferring : spec.Head → Position → List ℕ → Quote → List ℕ → ℕ → Position → Entity → Mode
  Slashed : spec.Head → Mode
  -- what is left of the open name
  Ending : List ℕ → Mode
  Ended : Mode

pub record State : Type 0 where
  pub held : Held
  pub mode : Mode

abbrev pub at : Held → Mode → Option State
at h m = Some (record { held = h; mode = m })

abbrev pub some_if : Bool → Option State → Option State
some_if true s = s
some_if false s = None

abbrev pub initial : State
initial = record { held = record { imports = []; stack = Bottom; level = spec.fresh_level }; mode = Inside }

abbrev pub is_open : Stack → Bool
is_open Bottom = false
is_open (Opened s l h) = true

abbrev pub is_nothing : spec.Nodes → Bool
is_nothing spec.Nothing = true
is_nothing (spec.Letters n r p) = false
is_nothing (spec.Node n h inner) = false

-- an element may begin here: within another, or as the first
abbrev pub may_begin : Held → Bool
may_begin h = is_open h.stack || is_nothing h.level.nodes

abbrev pub with_level : Held → spec.Level → Held
with_level h l = record { imports = h.imports; stack = h.stack; level = l }

-- white outside the elements is not kept
abbrev pub sign_in : Stack → Position → ℕ → Held → Held
sign_in Bottom p c h = h
sign_in (Opened s l head) p c h = with_level h (spec.one_sign p c h.level)

abbrev pub with_sign : Position → ℕ → Held → Held
with_sign p c h = sign_in h.stack p c h

-- an instruction is whole: before the first element it may be an import
abbrev pub with_instruction : Held → List ℕ → List ℕ → Held
with_instruction h name inside =
    let imports = h.imports ++ (if may_begin h && not (is_open h.stack) then spec.listed name inside else []) in
    record { imports = imports; stack = h.stack; level = h.level }

abbrev pub with_leaf : Held → spec.Head → Held
with_leaf h head = with_level h (spec.one_child h.level head spec.Nothing)

abbrev pub open_element : Held → spec.Head → Held
open_element h head = record { imports = h.imports; stack = Opened h.stack h.level head; level = spec.fresh_level }

abbrev pub close_in : List (List ℕ) → Stack → spec.Level → Option State
close_in imports Bottom l = None
close_in imports (Opened s before head) l =
    at (record { imports = imports; stack = s; level = spec.one_child before head (spec.closed l) }) Inside

abbrev pub close : Held → Option State
close h = close_in h.imports h.stack h.level

abbrev pub begin_end : Stack → Held → Option State
begin_end Bottom h = None
begin_end (Opened s l head) h = at h (Ending head.name)

abbrev pub keys_of : List spec.Attr → List (List ℕ)
keys_of ats = map (λ (a : spec.Attr). a.name) ats

abbrev pub is_fresh : List ℕ → spec.Head → Bool
is_fresh key head = not (spec.is_among key (keys_of head.attributes))

abbrev pub with_attribute : spec.Head → Position → List ℕ → List ℕ → spec.Head
with_attribute head q key value =
    let attributes = head.attributes ++ (record { name = key; value = value; position = q } ∷ []) in
    record { name = head.name; attributes = attributes; position = head.position }

-- Steps, one function for each mode ---------------------------------------------------------------

abbrev pub in_inside : Position → Held → ℕ → Class → Option State
in_inside p h c class.White = at (with_sign p c h) Inside
in_inside p h c class.Less = at h (Opening p)
in_inside p h c class.Ampersand = some_if (is_open h.stack) (at h (Referring p entities.Begun))
in_inside p h c _ = some_if (is_open h.stack) (at (with_sign p c h) Inside)

abbrev pub in_referring : Position → Held → Option Turn → Option State
in_referring q h (Some (Further e)) = at h (Referring q e)
in_referring q h (Some (Whole n)) = at (with_sign q n h) Inside
in_referring q h None = None

abbrev pub in_opening : Position → Held → ℕ → Class → Option State
in_opening q h c class.Letter = some_if (may_begin h) (at h (Naming q (c ∷ [])))
in_opening q h c class.Bang = at h Banged
in_opening q h c class.Question = at h Asked
in_opening q h c class.Slash = begin_end h.stack h
in_opening q h c _ = None

abbrev pub in_banged : Held → Class → Option State
in_banged h class.Dash = at h BangDashed
in_banged h _ = None

abbrev pub in_bang_dashed : Held → Class → Option State
in_bang_dashed h class.Dash = at h Commented
in_bang_dashed h _ = None

abbrev pub in_commented : Held → Class → Option State
in_commented h class.Dash = at h Dashed
in_commented h _ = at h Commented

abbrev pub in_dashed : Held → Class → Option State
in_dashed h class.Dash = at h DashDashed
in_dashed h _ = at h Commented

abbrev pub in_dash_dashed : Held → Class → Option State
in_dash_dashed h class.Dash = at h DashDashed
in_dash_dashed h class.Greater = at h Inside
in_dash_dashed h _ = at h Commented

abbrev pub in_asked : Held → ℕ → Class → Option State
in_asked h c class.Letter = at h (Instructing (c ∷ []))
in_asked h c _ = None

abbrev pub in_instructing : List ℕ → Held → ℕ → Class → Option State
in_instructing n h c class.White = at h (Instructed n (encode c))
in_instructing n h c class.Question = at h (NameAsked n)
in_instructing n h c k = some_if (in_name k) (at h (Instructing (n ++ (c ∷ []))))

abbrev pub in_name_asked : List ℕ → Held → Class → Option State
in_name_asked n h class.Greater = at (with_instruction h n []) Inside
in_name_asked n h _ = None

abbrev pub in_instructed : List ℕ → List ℕ → Held → ℕ → Class → Option State
in_instructed n x h c class.Question = at h (EndAsked n x)
in_instructed n x h c _ = at h (Instructed n (x ++ encode c))

-- behind `?`, which belongs to the text unless `>` follows
abbrev pub in_end_asked : List ℕ → List ℕ → Held → ℕ → Class → Option State
in_end_asked n x h c class.Greater = at (with_instruction h n x) Inside
in_end_asked n x h c class.Question = at h (EndAsked n (x ++ codes "?"))
in_end_asked n x h c _ = at h (Instructed n ((x ++ codes "?") ++ encode c))

abbrev pub in_naming : Position → List ℕ → Held → ℕ → Class → Option State
in_naming q n h c class.White = at h (Spaced (record { name = n; attributes = []; position = q }))
in_naming q n h c class.Slash = at h (Slashed (record { name = n; attributes = []; position = q }))
in_naming q n h c class.Greater = at (open_element h (record { name = n; attributes = []; position = q })) Inside
in_naming q n h c k = some_if (in_name k) (at h (Naming q (n ++ (c ∷ []))))

abbrev pub in_spaced : Position → spec.Head → Held → ℕ → Class → Option State
in_spaced p head h c class.White = at h (Spaced head)
in_spaced p head h c class.Slash = at h (Slashed head)
in_spaced p head h c class.Greater = at (open_element h head) Inside
in_spaced p head h c class.Letter = at h (Keyed head p (c ∷ []))
in_spaced p head h c _ = None

-- behind a value: no attribute begins without white before it
abbrev pub in_tight : spec.Head → Held → Class → Option State
in_tight head h class.White = at h (Spaced head)
in_tight head h class.Slash = at h (Slashed head)
in_tight head h class.Greater = at (open_element h head) Inside
in_tight head h _ = None

abbrev pub in_keyed : spec.Head → Position → List ℕ → Held → ℕ → Class → Option State
in_keyed head q k h c class.White = some_if (is_fresh k head) (at h (KeySpaced head q k))
in_keyed head q k h c class.Equals = some_if (is_fresh k head) (at h (Signed head q k))
in_keyed head q k h c kind = some_if (in_name kind) (at h (Keyed head q (k ++ (c ∷ []))))

abbrev pub in_key_spaced : spec.Head → Position → List ℕ → Held → Class → Option State
in_key_spaced head q k h class.White = at h (KeySpaced head q k)
in_key_spaced head q k h class.Equals = at h (Signed head q k)
in_key_spaced head q k h _ = None

abbrev pub in_signed : spec.Head → Position → List ℕ → Held → Class → Option State
in_signed head q k h class.White = at h (Signed head q k)
in_signed head q k h class.Quotation = at h (Quoted head q k Double [] 0)
in_signed head q k h class.Apostrophe = at h (Quoted head q k Single [] 0)
in_signed head q k h _ = None

-- a character of a value that is no `<` and no `&`
abbrev pub in_value : Bool → spec.Head → Position → List ℕ → Quote → List ℕ → ℕ → Held → ℕ → Class → Option State
in_value true head q k u v n h c kind = at h (Tight (with_attribute head q k v))
in_value false head q k u v n h c kind = at h (Quoted head q k u (v ++ spec.value_byte kind c) (n + 1))

abbrev pub in_quoted : Position → spec.Head → Position → List ℕ → Quote → List ℕ → ℕ → Held → ℕ → Class → Option State
in_quoted p head q k u v n h c class.Less = None
in_quoted p head q k u v n h c class.Ampersand = at h (ValueReferring head q k u v n p entities.Begun)
in_quoted p head q k u v n h c kind = in_value (spec.is_quote u kind) head q k u v n h c kind

abbrev pub in_value_referring : spec.Head → Position → List ℕ → Quote → List ℕ → ℕ → Position → Held → Option Turn
    → Option State
in_value_referring head q k u v n r h (Some (Further e)) = at h (ValueReferring head q k u v n r e)
in_value_referring head q k u v n r h (Some (Whole x)) = at h (Quoted head q k u (v ++ encode x) (n + 1))
in_value_referring head q k u v n r h None = None

abbrev pub in_slashed : spec.Head → Held → Class → Option State
in_slashed head h class.Greater = at (with_leaf h head) Inside
in_slashed head h _ = None

abbrev pub in_ended : Held → Class → Option State
in_ended h class.White = at h Ended
in_ended h class.Greater = close h
in_ended h _ = None

abbrev pub in_ending : List ℕ → Held → ℕ → Class → Option State
in_ending [] h c k = in_ended h k
in_ending (x ∷ rest) h c k = some_if (c == x) (at h (Ending rest))

abbrev pub move : Position → Held → Mode → ℕ → Class → Option State
move p h Inside c k = in_inside p h c k
move p h (Referring q e) c k = in_referring q h (entity_step e c)
move p h (Opening q) c k = in_opening q h c k
move p h Banged c k = in_banged h k
move p h BangDashed c k = in_bang_dashed h k
move p h Commented c k = in_commented h k
move p h Dashed c k = in_dashed h k
move p h DashDashed c k = in_dash_dashed h k
move p h Asked c k = in_asked h c k
move p h (Instructing n) c k = in_instructing n h c k
move p h (NameAsked n) c k = in_name_asked n h k
move p h (Instructed n x) c k = in_instructed n x h c k
move p h (EndAsked n x) c k = in_end_asked n x h c k
move p h (Naming q n) c k = in_naming q n h c k
move p h (Spaced head) c k = in_spaced p head h c k
move p h (Tight head) c k = in_tight head h k
move p h (Keyed head q key) c k = in_keyed head q key h c k
move p h (KeySpaced head q key) c k = in_key_spaced head q key h k
move p h (Signed head q key) c k = in_signed head q key h k
move p h (Quoted head q key u v n) c k = in_quoted p head q key u v n h c k
move p h (ValueReferring head q key u v n r e) c k = in_value_referring head q key u v n r h (entity_step e c)
move p h (Slashed head) c k = in_slashed head h k
move p h (Ending rest) c k = in_ending rest h c k
move p h Ended c k = in_ended h k

abbrev pub step : Position → State → ℕ → Option State
step p s c = move p s.held s.mode c (class_of c)

abbrev pub next : Position → Option State → ℕ → Option State
next p None c = None
next p (Some s) c = step p s c

abbrev pub run : Position → Option State → List ℕ → Option State
run p o [] = o
run p o (c ∷ cs) = run (after p c) (next p o c) cs

-- what is read where the text ends
abbrev pub answer_of : Held → Stack → Mode → Bool → Option spec.Reading
answer_of h Bottom Inside false = Some (record { imports = h.imports; root = h.level.nodes })
answer_of h _ _ _ = None

abbrev pub answer : State → Option spec.Reading
answer s = answer_of s.held s.held.stack s.mode (is_nothing s.held.level.nodes)

-- Limits ------------------------------------------------------------------------------------------

abbrev pub stack_depth : Stack → ℕ
stack_depth Bottom = 0
stack_depth (Opened s l h) = suc (stack_depth s)

abbrev pub is_naming : Mode → Bool
is_naming (Naming q n) = true
is_naming _ = false

-- an element begins within 128 open ones
abbrev pub is_deep : State → Bool
is_deep s = is_naming s.mode && nat_le 128 (stack_depth s.held.stack)

abbrev pub mode_long : Mode → Bool
mode_long (Instructing n) = nat_lt 4096 (length n)
mode_long (Naming q n) = nat_lt 4096 (length n)
mode_long (Keyed head q key) = nat_lt 4096 (length key)
mode_long (Quoted head q key u v n) = nat_lt 4096 n
mode_long (ValueReferring head q key u v n r e) = nat_lt 4096 n
mode_long _ = false

-- the run at hand is too long
abbrev pub level_long : Held → Bool
level_long h = nat_lt 4096 h.level.count

abbrev pub is_long : State → Bool
is_long s = mode_long s.mode || level_long s.held

-- where the sign begins whose last character stands at p
abbrev pub sign_position : Position → Mode → Position
sign_position p (Referring q e) = q
sign_position p (ValueReferring head q key u v n r e) = r
sign_position p _ = p
