-- A script that was read is tame: its lines are what stands between line feeds, and what a line says, asks for or
-- defines are parts of its text.
use Rattle.std.proofs.Common.{◌≡◌, ◌≤◌, ◌+◌, ◌-◌, ℕ, Bool, true, false, cond, ◌&&◌, eqb, not, List, [], ◌∷◌, ◌++◌, length, take, Option, Some, None, All, refl, sym, subst, arith}
use Rattle.std.specs.Prelude.{IfSome, codes, nat_le}
use Rattle.std.specs.List.{find, list_all, onto_first, position, position_or_len, prefix_len, slice_index, slice_split}
use Rattle.std.specs.Option.{option_and_then, option_map, option_to_list}
use Rattle.std.specs.Str.{bytes_eq}
use Rattle.std.specs.Str.Lines.{lines, lines_of_parts, strip_carriage_return}
use Rattle.std.proofs.lemmas.List.Elements.{All-append, All-cons, All-drop, All-head, All-nil, All-tail, All-take, All-weaker}
use Rattle.fx_text.specs.Classes.{is_space}
use Rattle.fx_text.specs.Fronts.{behind}
use Rattle.fx_delta.specs.Stream.{is_line_feed}
use Rattle.fx_script_commands.specs.Commands.{action_name, binding, command_behind, expression_in, is_skipped, is_end, or_bad, request_behind}
use Rattle.fx_script_commands.specs.Requests.{Expression, Numbered, Request, asks, bad, binds, defines, requests_of}
use Rattle.fx_script_commands.specs.Scripts.{IsScript, action_of, body_from, body_in, body_of, inside_line, line_at, lines_from, opened, opens}
use Rattle.fx_script_lines.specs.Forms.{bond, focus, form, frame, input, instruction_behind, listener, look, node, property, time, tree}
use Rattle.fx_script_lines.specs.Keywords.{eight_letters, five_letters, four_letters, keyword_of, keywords, more_letters, seven_letters, six_letters, three_letters}
use Rattle.fx_script_lines.specs.Taking.{Reader, alone, behind_word, ended, has_shape, is_dot, is_name, is_over, is_word, label, names, names_in, pair, path, quadruple, rest, reverse, triple, word, word_in}
use Rattle.fx_script_lines.specs.declared.instructions.Instruction.{Instruction}
use Rattle.fx_script_lines.specs.declared.instructions.Instruction.TheVariants as line
use Rattle.fx_script_lines.specs.declared.shapes.Shape.{Shape}
use Rattle.fx_script_lines.specs.declared.shapes.Shape.TheVariants.{Any, Identifier, Ident, Integer, Place, Count, Notice, Kind, Switch}
use Rattle.fx_delta_runs.specs.Tame.{AreTame, AreTameLines, IsOneLine, IsOnePath, IsTame, IsTameInstruction, IsTameLine}

abbrev Calm : ℕ → Type 0
Calm c = is_line_feed c ≡ false

-- ---- parts of a text
one_behind : (text : List ℕ) → IsOneLine text → IsOneLine (behind is_space text)
one_behind text all = All-drop Calm (prefix_len is_space text) text all

one_word : (text : List ℕ) → IsOneLine text → IsOneLine (word_in text)
unfolding word_in
one_word text all =
    All-take Calm (position_or_len is_space (behind is_space text)) (behind is_space text) (one_behind text all)

one_rest : (text : List ℕ) → IsOneLine text → IsOneLine (behind_word text)
unfolding behind_word
one_rest text all =
    All-drop Calm (position_or_len is_space (behind is_space text) + 1) (behind is_space text) (one_behind text all)

onto_one : (c : ℕ) (parts : List (List ℕ)) → is_line_feed c ≡ false → IsOnePath parts
    → IsOnePath (onto_first c parts)
onto_one c [] h all =
    All-cons IsOneLine (c ∷ []) [] (All-cons Calm c [] h (All-nil Calm)) (All-nil IsOneLine)
onto_one c (part ∷ parts) h all =
    All-cons IsOneLine (c ∷ part) parts (All-cons Calm c part h (All-head IsOneLine part parts all))
    (All-tail IsOneLine part parts all)

-- the parts of a text that is cut at each line feed that it has, and maybe elsewhere
split_one : (cut : ℕ → Bool) (text : List ℕ) → All (λ (c : ℕ). cut c ≡ false → is_line_feed c ≡ false) text
    → IsOnePath (slice_split cut text)
split_one cut [] all = All-cons IsOneLine [] [] (All-nil Calm) (All-nil IsOneLine)
split_one cut (c ∷ cs) all =
    by (cut c) (All-head (λ (c : ℕ). cut c ≡ false → is_line_feed c ≡ false) c cs all)
    (split_one cut cs (All-tail (λ (c : ℕ). cut c ≡ false → is_line_feed c ≡ false) c cs all))
  where
    by : (t : Bool) → (t ≡ false → is_line_feed c ≡ false) → IsOnePath (slice_split cut cs)
        → IsOnePath (cond t ([] ∷ slice_split cut cs) (onto_first c (slice_split cut cs)))
    by true calm more = All-cons IsOneLine [] (slice_split cut cs) (All-nil Calm) more
    by false calm more = onto_one c (slice_split cut cs) (calm refl) more

-- ---- the lines of a file
all_cut : (text : List ℕ) → All (λ (c : ℕ). is_line_feed c ≡ false → is_line_feed c ≡ false) text
all_cut [] = All-nil (λ (c : ℕ). is_line_feed c ≡ false → is_line_feed c ≡ false)
all_cut (c ∷ cs) = All-cons (λ (c : ℕ). is_line_feed c ≡ false → is_line_feed c ≡ false) c cs (λ h. h) (all_cut cs)

strip_one : (text : List ℕ) → IsOneLine text → IsOneLine (strip_carriage_return text)
strip_one text all = by (eqb (slice_index text (length text - 1)) 13)
  where
    by : (t : Bool) → IsOneLine (cond t (take (length text - 1) text) text)
    by true = All-take Calm (length text - 1) text all
    by false = all

parts_one : (parts : List (List ℕ)) → IsOnePath parts → IsOnePath (lines_of_parts parts)
parts_one [] all = All-nil IsOneLine
parts_one (x ∷ []) all = by (eqb (length x) 0)
  where
    by : (t : Bool) → IsOnePath (cond t [] (x ∷ []))
    by true = All-nil IsOneLine
    by false = all
parts_one (x ∷ y ∷ more) all =
    All-cons IsOneLine (strip_carriage_return x) (lines_of_parts (y ∷ more))
    (strip_one x (All-head IsOneLine x (y ∷ more) all))
    (parts_one (y ∷ more) (All-tail IsOneLine x (y ∷ more) all))

lines_one : (bytes : List ℕ) → IsOnePath (lines bytes)
lines_one bytes = parts_one (slice_split is_line_feed bytes) (split_one is_line_feed bytes (all_cut bytes))

-- ---- readers
any_some : {A : Type 0} (o : Option A) → IfSome o (λ (a : A). Unit {0})
any_some None = tt
any_some (Some a) = tt

then_some : {A B : Type 0} (P : A → Type 0) (Q : B → Type 0) (o : Option A) (next : A → Option B) → IfSome o P
    → ((a : A) → P a → IfSome (next a) Q) → IfSome (option_and_then next o) Q
then_some P Q None next is each = tt
then_some P Q (Some a) next is each = each a is

map_some : {A B : Type 0} (P : A → Type 0) (Q : B → Type 0) (o : Option A) (f : A → B) → IfSome o P
    → ((a : A) → P a → Q (f a)) → IfSome (option_map f o) Q
map_some P Q None f is each = tt
map_some P Q (Some a) f is each = each a is

ended_some : {A : Type 0} (P : A → Type 0) (x : A) (text : List ℕ) → P x → IfSome (ended x text) P
ended_some {A} P x text is = by (is_over text)
  where
    by : (t : Bool) → IfSome (cond {A = Option A} t (Some x) None) P
    by true = is
    by false = tt

-- of a text without a line feed it takes what is so, and leaves a text without one
abbrev Reads : {A : Type 0} → (A → Type 0) → Reader A → Type 0
Reads {A} P r = (text : List ℕ) → IsOneLine text → IfSome (r text) (λ (x : A × List ℕ). P x.0 × IsOneLine x.1)

word_reads : (shape : Shape) → Reads (λ (w : List ℕ). Unit {0}) (word shape)
unfolding word
word_reads shape text one = by (is_word (word_in text) && has_shape shape (word_in text))
  where
    by : (t : Bool) → IfSome (cond {A = Option (List ℕ × List ℕ)} t (Some (word_in text, behind_word text)) None)
        (λ (x : List ℕ × List ℕ). Unit {0} × IsOneLine x.1)
    by true = (tt, one_rest text one)
    by false = tt

names_one : (text : List ℕ) → IsOneLine text → IfSome (names text) IsOnePath
unfolding names
names_one text one = by (list_all is_name (names_in text))
  where
    by : (t : Bool) → IfSome (cond {A = Option (List (List ℕ))} t (Some (names_in text)) None) IsOnePath
    by true =
        split_one is_dot text
        (All-weaker Calm (λ (c : ℕ). is_dot c ≡ false → is_line_feed c ≡ false) (λ c h d. h) text one)
    by false = tt

path_reads : Reads IsOnePath path
unfolding path
path_reads text one = by (is_word (word_in text))
  where
    Taken : Type 0
    Taken = List (List ℕ) × List ℕ

    by : (t : Bool)
        → IfSome (cond {A = Option Taken} t (option_map (λ ns. (ns, behind_word text)) (names (word_in text))) None)
        (λ (x : Taken). IsOnePath x.0 × IsOneLine x.1)
    by true =
        map_some IsOnePath (λ (x : Taken). IsOnePath x.0 × IsOneLine x.1) (names (word_in text))
        (λ ns. (ns, behind_word text)) (names_one (word_in text) (one_word text one))
        (λ ns are. (are, one_rest text one))
    by false = tt

alone_reads : {A : Type 0} (P : A → Type 0) (r : Reader A) (text : List ℕ) → Reads P r → IsOneLine text
    → IfSome (alone r text) P
alone_reads {A} P r text reads one =
    then_some (λ (x : A × List ℕ). P x.0 × IsOneLine x.1) P (r text) (λ x. ended x.0 x.1) (reads text one)
    (λ x is. ended_some P x.0 x.1 is.0)

-- what stands second of three
triple_reads : {A B C : Type 0} (Q : B → Type 0) (r : Reader A) (s : Reader B) (t : Reader C) (text : List ℕ)
    → Reads (λ (a : A). Unit {0}) r → Reads Q s → IsOneLine text
    → IfSome (triple r s t text) (λ (a : A × B × C). Q a.1)
triple_reads {A} {B} {C} Q r s t text first second one =
    then_some (λ (x : A × List ℕ). Unit {0} × IsOneLine x.1) Second (r text) _ (first text one) (λ x of_x.
    then_some (λ (y : B × List ℕ). Q y.0 × IsOneLine y.1) Second (s x.1) _ (second x.1 of_x.1) (λ y of_y.
    then_some (λ (z : C × List ℕ). Unit {0}) Second (t y.1) (λ z. ended (x.0, y.0, z.0) z.1) (any_some (t y.1))
    (λ z of_z. ended_some Second (x.0, y.0, z.0) z.1 of_y.0)))
  where
    Second : A × B × C → Type 0
    Second a = Q a.1

-- and of four
quadruple_reads : {A B C D : Type 0} (Q : B → Type 0) (r : Reader A) (s : Reader B) (t : Reader C) (u : Reader D)
    (text : List ℕ) → Reads (λ (a : A). Unit {0}) r → Reads Q s → IsOneLine text
    → IfSome (quadruple r s t u text) (λ (a : A × B × C × D). Q a.1)
quadruple_reads {A} {B} {C} {D} Q r s t u text first second one =
    then_some (λ (w : A × List ℕ). Unit {0} × IsOneLine w.1) Second (r text) _ (first text one) (λ w of_w.
    then_some (λ (x : B × List ℕ). Q x.0 × IsOneLine x.1) Second (s w.1) _ (second w.1 of_w.1) (λ x of_x.
    then_some (λ (y : C × List ℕ). Unit {0}) Second (t x.1) _ (any_some (t x.1)) (λ y of_y.
    then_some (λ (z : D × List ℕ). Unit {0}) Second (u y.1) (λ z. ended (w.0, x.0, y.0, z.0) z.1)
    (any_some (u y.1)) (λ z of_z. ended_some Second (w.0, x.0, y.0, z.0) z.1 of_x.0))))
  where
    Second : A × B × C × D → Type 0
    Second a = Q a.1

-- ---- lines of words
abbrev MaySay : Option Instruction → Type 0
MaySay read = IfSome read IsTameInstruction

-- a line that is tame whatever stands in it
others : {A : Type 0} (o : Option A) (f : A → Instruction) → ((a : A) → IsTameInstruction (f a))
    → MaySay (option_map f o)
others None f each = tt
others (Some a) f each = each a

-- what the rows of a table of first words ask for is tame
abbrev AllSay : {K : Type 0} → (K → Option Instruction) → List (List ℕ × K) → Type 0
AllSay form [] = Unit {0}
AllSay form (row ∷ rows) = MaySay (form row.1) × AllSay form rows

both_say : {K : Type 0} (form : K → Option Instruction) (front back : List (List ℕ × K)) → AllSay form front
    → AllSay form back → AllSay form (front ++ back)
both_say form [] back says more = more
both_say form (row ∷ rows) back says more = (says.0, both_say form rows back says.1 more)

found_says : {K : Type 0} (form : K → Option Instruction) (table : List (List ℕ × K)) (first : List ℕ)
    → AllSay form table
    → MaySay (option_and_then form (option_map (λ row. row.1) (find (λ row. bytes_eq row.0 first) table)))
found_says form [] first says = tt
found_says {K} form (row ∷ rows) first says = by (bytes_eq row.0 first) (found_says form rows first says.1)
  where
    found : List (List ℕ × K) → Option (List ℕ × K)
    found = find (λ r. bytes_eq r.0 first)

    by : (t : Bool) → MaySay (option_and_then form (option_map (λ r. r.1) (found rows)))
        → MaySay (option_and_then form (option_map (λ r. r.1) (cond t (Some row) (found rows))))
    by true more = says.0
    by false more = more

get_tame : (text : List ℕ) → IsOneLine text → MaySay (option_map line.Get (alone path text))
get_tame text one =
    map_some IsOnePath IsTameInstruction (alone path text) line.Get (alone_reads IsOnePath path text path_reads one)
    (λ p is. is)

listen_tame : (text : List ℕ) → IsOneLine text
    → MaySay (option_map (λ a. line.Listen a.0 a.1 a.2) (triple (word Notice) path label text))
listen_tame text one =
    map_some (λ (a : List ℕ × List (List ℕ) × Option (List ℕ)). IsOnePath a.1) IsTameInstruction
    (triple (word Notice) path label text) (λ a. line.Listen a.0 a.1 a.2)
    (triple_reads IsOnePath (word Notice) path label text (word_reads Notice) path_reads one) (λ a is. is)

watch_tame : (text : List ℕ) → IsOneLine text
    → MaySay (option_map (λ a. line.Watch a.0 a.1 a.2 a.3) (quadruple (word Notice) path (word Identifier) label text))
watch_tame text one =
    map_some (λ (a : List ℕ × List (List ℕ) × List ℕ × Option (List ℕ)). IsOnePath a.1) IsTameInstruction
    (quadruple (word Notice) path (word Identifier) label text) (λ a. line.Watch a.0 a.1 a.2 a.3)
    (quadruple_reads IsOnePath (word Notice) path (word Identifier) label text (word_reads Notice) path_reads one)
    (λ a is. is)

say_tame : (text : List ℕ) → IsOneLine text → MaySay (option_map line.Say (alone rest text))
unfolding rest
say_tame text one = one

-- the tables, row by row
onto : {A B : Type 0} → A → B → A × B
onto a b = (a, b)

three_say : (text : List ℕ) → IsOneLine text → AllSay (λ keyword. form keyword text) three_letters
unfolding property tree input focus frame
three_say text one =
    onto (others (pair path rest text) (λ a. line.Set a.0 a.1) (λ a. tt))
    (onto (get_tame text one)
    (onto (others (pair (word Any) (word Identifier) text) (λ a. line.New a.0 a.1) (λ a. tt))
    (onto (others (alone (word Any) text) line.Key (λ a. tt))
    (onto (ended_some IsTameInstruction line.Tab text tt)
    (onto (say_tame text one) tt)))))

four_say : (text : List ℕ) → IsOneLine text → AllSay (λ keyword. form keyword text) four_letters
unfolding property bond tree input time
four_say text one =
    onto (others (triple (word Identifier) (word Kind) rest text) (λ a. line.Prop a.0 a.1 a.2) (λ a. tt))
    (onto (others (pair path path text) (λ a. line.Pair a.0 a.1) (λ a. tt))
    (onto (others (alone path text) line.Drop (λ a. tt))
    (onto (others (pair (word Integer) (word Integer) text) (λ a. line.Move a.0 a.1) (λ a. tt))
    (onto (others (alone (word Identifier) text) line.Play (λ a. tt))
    (onto (others (alone (word Identifier) text) line.Stop (λ a. tt))
    (onto (others (alone (word Integer) text) line.Tick (λ a. tt)) tt))))))

five_say : (text : List ℕ) → IsOneLine text → AllSay (λ keyword. form keyword text) five_letters
unfolding bond listener look input focus frame
five_say text one =
    onto (others (alone (word Identifier) text) line.Owner (λ a. tt))
    (onto (watch_tame text one)
    (onto (others (pair path (word Any) text) (λ a. line.Class a.0 a.1) (λ a. tt))
    (onto (others (pair path rest text) (λ a. line.Style a.0 a.1) (λ a. tt))
    (onto (ended_some IsTameInstruction line.Press text tt)
    (onto (others (alone path text) line.Focus (λ a. tt))
    (onto (ended_some IsTameInstruction line.Pulse text tt) tt))))))

six_say : (text : List ℕ) → IsOneLine text → AllSay (λ keyword. form keyword text) six_letters
unfolding property bond listener tree look node frame
six_say text one =
    onto (others (alone path text) line.Unbind (λ a. tt))
    (onto (others (pair path path text) (λ a. line.Unpair a.0 a.1) (λ a. tt))
    (onto (listen_tame text one)
    (onto (others (triple path path (word Place) text) (λ a. line.Attach a.0 a.1 a.2) (λ a. tt))
    (onto (others (alone path text) line.Detach (λ a. tt))
    (onto (others (triple path (word Any) (word Switch) text) (λ a. line.Pseudo a.0 a.1 a.2) (λ a. tt))
    (onto (others (triple path (word Any) (word Identifier) text) (λ a. line.Handle a.0 a.1 a.2) (λ a. tt))
    (onto (others (triple path (word Any) (word Identifier) text) (λ a. line.Filter a.0 a.1 a.2) (λ a. tt))
    (onto (others (pair (word Integer) (word Integer) text) (λ a. line.Resize a.0 a.1) (λ a. tt)) tt))))))))

seven_say : (text : List ℕ) → IsOneLine text → AllSay (λ keyword. form keyword text) seven_letters
unfolding bond listener look node focus frame
seven_say text one =
    onto (others (alone (word Identifier) text) line.Release (λ a. tt))
    (onto (others (quadruple (word Notice) path (word Identifier) label text) (λ a. line.Unwatch a.0 a.1 a.2 a.3) (λ a. tt))
    (onto (others (pair path (word Any) text) (λ a. line.Unclass a.0 a.1) (λ a. tt))
    (onto (others (pair path (word Ident) text) (λ a. line.Explain a.0 a.1) (λ a. tt))
    (onto (ended_some IsTameInstruction line.Backtab text tt)
    (onto (ended_some IsTameInstruction line.Consume text tt) tt)))))

eight_say : (text : List ℕ) → IsOneLine text → AllSay (λ keyword. form keyword text) eight_letters
unfolding listener time
eight_say text one =
    onto (others (triple (word Notice) path label text) (λ a. line.Unlisten a.0 a.1 a.2) (λ a. tt))
    (onto (others (triple (word Identifier) (word Count) reverse text) (λ a. line.Timeline a.0 a.1 a.2) (λ a. tt))
    (onto (others (quadruple (word Identifier) (word Integer) path rest text) (λ a. line.Keyframe a.0 a.1 a.2 a.3) (λ a. tt)) tt))

more_say : (text : List ℕ) → IsOneLine text → AllSay (λ keyword. form keyword text) more_letters
unfolding node input
more_say text one =
    onto (others (triple path (word Any) rest text) (λ a. line.Constrain a.0 a.1 a.2) (λ a. tt))
    (onto (ended_some IsTameInstruction line.ReleaseButton text tt) tt)

all_say : (text : List ℕ) → IsOneLine text → AllSay (λ keyword. form keyword text) keywords
unfolding keywords
all_say text one =
    both_say (λ keyword. form keyword text) three_letters
    (four_letters ++ (five_letters ++ (six_letters ++ (seven_letters ++ (eight_letters ++ more_letters)))))
    (three_say text one)
    (both_say (λ keyword. form keyword text) four_letters
    (five_letters ++ (six_letters ++ (seven_letters ++ (eight_letters ++ more_letters)))) (four_say text one)
    (both_say (λ keyword. form keyword text) five_letters
    (six_letters ++ (seven_letters ++ (eight_letters ++ more_letters))) (five_say text one)
    (both_say (λ keyword. form keyword text) six_letters (seven_letters ++ (eight_letters ++ more_letters))
    (six_say text one)
    (both_say (λ keyword. form keyword text) seven_letters (eight_letters ++ more_letters) (seven_say text one)
    (both_say (λ keyword. form keyword text) eight_letters more_letters (eight_say text one) (more_say text one))))))

instruction_tame : (first text : List ℕ) → IsOneLine text → MaySay (instruction_behind first text)
unfolding instruction_behind keyword_of
instruction_tame first text one = found_says (λ keyword. form keyword text) keywords first (all_say text one)

-- ---- one line
or_tame : (o : Option Request) → IfSome o IsTame → IsTame (or_bad o)
or_tame None is = tt
or_tame (Some request) is = is

binding_tame : (text : List ℕ) → IfSome (binding text) IsTame
binding_tame text = by (path text)
  where
    bound : (name : List (List ℕ)) (read : Option Expression) → IfSome (option_map (binds name) read) IsTame
    bound name None = tt
    bound name (Some expression) = tt

    by : (taken : Option (List (List ℕ) × List ℕ))
        → IfSome (option_and_then (λ name. option_map (binds name.0) (expression_in name.1)) taken) IsTame
    by None = tt
    by (Some name) = bound name.0 (expression_in name.1)

command_tame : (first text : List ℕ) → IsOneLine text → IfSome (command_behind first text) IsTame
command_tame first text one = by (bytes_eq first (codes "bind"))
  where
    by : (t : Bool) → IfSome (cond t (binding text) (option_map asks (instruction_behind first text))) IsTame
    by true = binding_tame text
    by false =
        map_some IsTameInstruction IsTame (instruction_behind first text) asks (instruction_tame first text one)
        (λ instruction is. is)

-- a line that opens no action, which may stand there or not
barred_tame : (text : List ℕ) (barred : Bool) → IsOneLine text
    → IsTame (cond barred bad (or_bad (command_behind (word_in text) (behind_word text))))
barred_tame text true one = tt
barred_tame text false one =
    or_tame (command_behind (word_in text) (behind_word text))
    (command_tame (word_in text) (behind_word text) (one_rest text one))

-- ---- actions
inside_if : (n : ℕ) (request : Request) (skipped : Bool) → IsTame request
    → AreTameLines (option_to_list
    (cond {A = Option Numbered} skipped None (Some (record { number = n; request = request }))))
inside_if n request true tame = All-nil IsTameLine
inside_if n request false tame =
    All-cons IsTameLine (record { number = n; request = request }) [] tame (All-nil IsTameLine)

inside_tame : (n : ℕ) (text : List ℕ) → IsOneLine text → AreTameLines (option_to_list (inside_line n text))
unfolding inside_line request_behind
inside_tame n text one = inside_if n _ (is_skipped text) (barred_tame text _ one)

body_tame : (n : ℕ) (texts : List (List ℕ)) → IsOnePath texts → AreTameLines (body_from n texts)
unfolding body_from
body_tame n [] all = All-nil IsTameLine
body_tame n (text ∷ texts) all =
    All-append IsTameLine (option_to_list (inside_line n text)) (body_from (n + 1) texts)
    (inside_tame n text (All-head IsOneLine text texts all))
    (body_tame (n + 1) texts (All-tail IsOneLine text texts all))

few_tame : (n : ℕ) (texts : List (List ℕ)) → IsOnePath texts → IfSome (body_of n texts) AreTameLines
unfolding body_of
few_tame n texts all = by (nat_le (length (body_from n texts)) 1000)
  where
    by : (t : Bool) → IfSome (cond {A = Option (List Numbered)} t (Some (body_from n texts)) None) AreTameLines
    by true = body_tame n texts all
    by false = tt

front_one : (texts : List (List ℕ)) → IsOnePath texts → IfSome (body_in texts) IsOnePath
front_one texts all =
    map_some (λ (i : ℕ). Unit {0}) IsOnePath (position is_end texts) (λ i. take i texts)
    (any_some (position is_end texts)) (λ i any. All-take IsOneLine i texts all)

all_are : (lines : List Numbered) → AreTameLines lines → AreTame (requests_of lines)
all_are [] all = tt
all_are (l ∷ ls) all = (All-head IsTameLine l ls all, all_are ls (All-tail IsTameLine l ls all))

action_tame : (name : List ℕ) (n : ℕ) (behind : List (List ℕ)) → IsOnePath behind → IsTame (action_of name n behind)
action_tame name n behind all =
    or_tame (option_map (λ lines. defines name (requests_of lines)) (option_and_then (body_of n) (body_in behind)))
    (map_some AreTameLines IsTame (option_and_then (body_of n) (body_in behind))
    (λ lines. defines name (requests_of lines))
    (then_some IsOnePath AreTameLines (body_in behind) (body_of n) (front_one behind all) (few_tame n)) all_are)

-- ---- the lines of a script
opened_tame : (name : Option (List ℕ)) (n : ℕ) (text : List ℕ) (behind : List (List ℕ)) → IsOneLine text
    → IsOnePath behind → IsTame (opened name n text behind)
unfolding request_behind
opened_tame None n text behind one all = barred_tame text _ one
opened_tame (Some name) n text behind one all = action_tame name (n + 1) behind all

line_tame : (n : ℕ) (text : List ℕ) (behind : List (List ℕ)) → IsOneLine text → IsOnePath behind
    → IsTameLine (line_at n text behind)
unfolding line_at
line_tame n text behind one all = opened_tame (action_name text) n text behind one all

all_tame : (inside : Bool) (n : ℕ) (texts : List (List ℕ)) → IsOnePath texts
    → AreTameLines (lines_from inside n texts)
unfolding lines_from
all_tame true n [] all = All-nil IsTameLine
all_tame false n [] all = All-nil IsTameLine
all_tame true n (text ∷ texts) all =
    all_tame (not (is_end text)) (n + 1) texts (All-tail IsOneLine text texts all)
all_tame false n (text ∷ texts) all =
    let more : IsOnePath texts = All-tail IsOneLine text texts all in
    by (is_skipped text) (all_tame false (n + 1) texts more)
    (All-cons IsTameLine (line_at n text texts) (lines_from (opens text) (n + 1) texts)
    (line_tame n text texts (All-head IsOneLine text texts all) more) (all_tame (opens text) (n + 1) texts more))
  where
    by : (t : Bool) → AreTameLines (lines_from false (n + 1) texts)
        → AreTameLines (line_at n text texts ∷ lines_from (opens text) (n + 1) texts)
        → AreTameLines (cond t (lines_from false (n + 1) texts)
        (line_at n text texts ∷ lines_from (opens text) (n + 1) texts))
    by true skipped read = skipped
    by false skipped read = read

-- no more lines than the file has
pub few_lines : (inside : Bool) (n : ℕ) (texts : List (List ℕ)) → length (lines_from inside n texts) ≤ length texts
unfolding lines_from
few_lines true n [] = omega arith
few_lines false n [] = omega arith
few_lines true n (text ∷ texts) =
    let more = few_lines (not (is_end text)) (n + 1) texts in
    omega (arith, more)
few_lines false n (text ∷ texts) =
    let skipped = few_lines false (n + 1) texts in
    let read = few_lines (opens text) (n + 1) texts in
    by (is_skipped text) (omega (arith, skipped)) (omega (arith, read))
  where
    by : (t : Bool) → length (lines_from false (n + 1) texts) ≤ length (text ∷ texts)
        → length (line_at n text texts ∷ lines_from (opens text) (n + 1) texts) ≤ length (text ∷ texts)
        → length (cond t (lines_from false (n + 1) texts)
        (line_at n text texts ∷ lines_from (opens text) (n + 1) texts)) ≤ length (text ∷ texts)
    by true skipped read = skipped
    by false skipped read = read

pub file_tame : (bytes : List ℕ) → AreTameLines (lines_from false 1 (lines bytes))
file_tame bytes = all_tame false 1 (lines bytes) (lines_one bytes)

pub script_tame : (bytes : List ℕ) (read : List Numbered) → IsScript bytes read → AreTameLines read
script_tame bytes read is = subst AreTameLines (sym is.are) (file_tame bytes)
