-- The lines of a script, and of an action, one after another.
use Rattle.std.proofs.Common.{◌≡◌, ◌+◌, ◌≤◌, ◌<◌, ℕ, Bool, true, false, not, List, [], ◌∷◌, ◌++◌, Bor, length, map, take, drop, drop-cons, get_or, add-one, refl, ap, sym, ◌∙◌, append_assoc, arith, if◌then◌else◌, nat_le, nat_lt, Option, Some, None, codes}
use Rattle.std.specs.List.{position, prefix_len}
use Rattle.std.specs.Option.{option_map, option_to_list}
use Rattle.std.proofs.lemmas.List.{append-nil, drop_all, length-append, length-map, map-append, take-map}
use Rattle.std.proofs.lemmas.Bool.Decides.{nat_tests}
use Rattle.std.specs.Str.{bytes_eq}
use Rattle.fx_script_lines.specs.Taking.{alone, behind_word, word, word_in}
use Rattle.fx_script_lines.specs.declared.shapes.Shape.TheVariants.{Identifier}
use Rattle.fx_script_commands.specs.Adding.{Adds}
use Rattle.fx_script_commands.specs.Commands.{action_name, is_end, is_skipped, request_behind, request_of}
use Rattle.fx_script_commands.specs.Requests.{Numbered, Request, command_view, line_view, numbered}
use Rattle.fx_script_commands.specs.Scripts.{action_of, body_from, body_in, body_of, inside_line, line_at, lines_from, opens}
use Rattle.fx_script_commands.specs.declared.commands.Command.TheVariants as v
use Rattle.fx_script_commands.specs.declared.standing.Standing.TheVariants.{Outside}
use Rattle.fx_script_commands.proofs.CommandLemmas.{bad_action, bad_seen}
use Rattle.fx_script_commands.specs.declared.commands.Line.{Line}

-- a line within an action
pub line_within : (inside next : Bool) (text : List ℕ) (texts : List (List ℕ)) (n : ℕ) → inside ≡ true
    → next ≡ not (is_end text) → lines_from next (n + 1) texts ≡ lines_from inside n (text ∷ texts)
unfolding lines_from
line_within inside next text texts n i e = rw (i, e) refl

-- a line that is skipped
pub line_skipped : (inside : Bool) (text : List ℕ) (texts : List (List ℕ)) (n : ℕ) → inside ≡ false
    → is_skipped text ≡ true → lines_from false (n + 1) texts ≡ lines_from inside n (text ∷ texts)
unfolding lines_from
line_skipped inside text texts n i s = rw (i, s) refl

-- a line that is read
pub line_read : (inside next : Bool) (text : List ℕ) (texts : List (List ℕ)) (n : ℕ) (at : Numbered) → inside ≡ false
    → is_skipped text ≡ false → at ≡ line_at n text texts → next ≡ opens text
    → at ∷ lines_from next (n + 1) texts ≡ lines_from inside n (text ∷ texts)
unfolding lines_from
line_read inside next text texts n at i s is e = rw (i, s, is, e) refl

-- what a line asks for that is no action
line_alone : (n : ℕ) (text : List ℕ) (behind : List (List ℕ)) → action_name text ≡ None
    → line_at n text behind ≡ numbered n (request_of Outside text)
unfolding line_at
line_alone n text behind e = rw e refl

other_word : (text : List ℕ) → false ≡ bytes_eq (word_in text) (codes "action") → action_name text ≡ None
unfolding action_name
other_word text other = rw (← other) refl

pub adds_alone : (n : ℕ) (text first left : List ℕ) (behind : List (List ℕ)) (before after : List Line)
    → first ≡ word_in text → left ≡ behind_word text → false ≡ bytes_eq first (codes "action")
    → Adds before (numbered n (request_behind Outside first left)) after → Adds before (line_at n text behind) after
adds_alone n text first left behind before after w l other is =
    rw (line_alone n text behind (other_word text (rw (← w) other)), ← w, ← l) is

-- what an action asks for
line_action : (n : ℕ) (text name : List ℕ) (behind : List (List ℕ)) → true ≡ bytes_eq (word_in text) (codes "action")
    → alone (word Identifier) (behind_word text) ≡ Some name → line_at n text behind ≡ numbered n (action_of name (n + 1) behind)
unfolding line_at action_name
line_action n text name behind begins named = rw (← begins, named) refl

pub adds_action : (n : ℕ) (text first left name : List ℕ) (behind : List (List ℕ)) (asked : Request) (before after : List Line)
    → first ≡ word_in text → left ≡ behind_word text → true ≡ bytes_eq first (codes "action")
    → alone (word Identifier) left ≡ Some name → asked ≡ action_of name (n + 1) behind
    → Adds before (numbered n asked) after → Adds before (line_at n text behind) after
adds_action n text first left name behind asked before after w l begins named what is =
    rw (line_action n text name behind (rw (← w) begins) (rw (← l) named), ← what) is

-- what a line asks for that begins as an action, but is none
pub adds_bad : (n : ℕ) (text first left : List ℕ) (behind : List (List ℕ)) (before after : List Line)
    → first ≡ word_in text → left ≡ behind_word text → true ≡ bytes_eq first (codes "action")
    → alone (word Identifier) left ≡ None
    → Adds before (numbered n (command_view v.Bad)) after → Adds before (line_at n text behind) after
adds_bad n text first left behind before after w l begins none is =
    let known = bad_action text (rw (← w) begins) (rw (← l) none) in
    rw (line_alone n text behind known.0, ← known.1, ← bad_seen) is

listed : (line : Option Line) → map line_view (option_to_list line) ≡ option_to_list (option_map line_view line)
listed None = refl
listed (Some line) = refl

-- one line more, or none, in front of those that are left
pub pushed : (done new : List Line) (line : Option Line) (more left all : List Numbered)
    → new ≡ done ++ option_to_list line → option_to_list (option_map line_view line) ++ more ≡ left
    → map line_view done ++ left ≡ all → map line_view new ++ more ≡ all
pushed done new line more left all grows is e =
    ap (λ ls. map line_view ls ++ more) grows
    ∙ ap (λ (ls : List Numbered). ls ++ more) (map-append line_view done (option_to_list line))
    ∙ append_assoc (map line_view done) (map line_view (option_to_list line)) more
    ∙ ap (λ (ls : List Numbered). map line_view done ++ (ls ++ more)) (listed line)
    ∙ ap (λ (ls : List Numbered). map line_view done ++ ls) is ∙ e

-- what is seen of texts
abbrev pub seen : List (Bor (List ℕ)) → List (List ℕ)
seen texts = map (λ (text : Bor (List ℕ)). text.now) texts

seen_more : (texts : List (Bor (List ℕ))) (i : ℕ) (d : Bor (List ℕ)) → i < length texts
    → seen (drop i texts) ≡ (get_or texts i d).now ∷ seen (drop (i + 1) texts)
seen_more texts i d inside = rw add-one (ap seen (drop-cons texts i d inside))

body_step : (text : List ℕ) (texts : List (List ℕ)) (n : ℕ)
    → option_to_list (inside_line n text) ++ body_from (n + 1) texts ≡ body_from n (text ∷ texts)
unfolding body_from
body_step text texts n = refl

-- one line more of an action, or none
pub body_turn : (texts : List (Bor (List ℕ))) (i : ℕ) (d : Bor (List ℕ)) (n : ℕ) (done new : List Line)
    (line : Option Line) (all : List Numbered) → i < length texts
    → option_map line_view line ≡ inside_line n (get_or texts i d).now → new ≡ done ++ option_to_list line
    → map line_view done ++ body_from n (seen (drop i texts)) ≡ all
    → map line_view new ++ body_from (n + 1) (seen (drop (i + 1) texts)) ≡ all
body_turn texts i d n done new line all inside is grows e =
    pushed done new line (body_from (n + 1) (seen (drop (i + 1) texts))) (body_from n (seen (drop i texts))) all grows
    (ap (λ o. option_to_list o ++ body_from (n + 1) (seen (drop (i + 1) texts))) is
    ∙ body_step (get_or texts i d).now (seen (drop (i + 1) texts)) n
    ∙ sym (ap (body_from n) (seen_more texts i d inside)))
    e

-- a line of a script is gone by, which is within an action or skipped
pub line_passed : (done : List Numbered) (was now : Bool) (text : List ℕ) (texts : List (List ℕ)) (n : ℕ)
    → lines_from now (n + 1) texts ≡ lines_from was n (text ∷ texts)
    → done ++ lines_from now (n + 1) texts ≡ done ++ lines_from was n (text ∷ texts)
line_passed done was now text texts n e = ap (λ (ls : List Numbered). done ++ ls) e

-- one that is read stands behind the others
pub line_pushed : (done new : List Numbered) (was now : Bool) (text : List ℕ) (texts : List (List ℕ)) (n : ℕ)
    → new ≡ done ++ (line_at n text texts ∷ []) → was ≡ false → is_skipped text ≡ false → now ≡ opens text
    → new ++ lines_from now (n + 1) texts ≡ done ++ lines_from was n (text ∷ texts)
line_pushed done new was now text texts n grows out unskipped opening =
    ap (λ (ls : List Numbered). ls ++ lines_from now (n + 1) texts) grows
    ∙ append_assoc done (line_at n text texts ∷ []) (lines_from now (n + 1) texts)
    ∙ ap (λ (ls : List Numbered). done ++ ls) (line_read was now text texts n (line_at n text texts) out unskipped refl opening)

-- one turn more of a script
pub line_turn : (texts : List (Bor (List ℕ))) (i : ℕ) (d : Bor (List ℕ)) (n : ℕ) (was now : Bool)
    (done new : List Numbered) (behind : List (List ℕ)) (all : List Numbered) → i < length texts
    → behind ≡ seen (drop (i + 1) texts)
    → new ++ lines_from now (n + 1) behind ≡ done ++ lines_from was n ((get_or texts i d).now ∷ behind)
    → done ++ lines_from was n (seen (drop i texts)) ≡ all
    → new ++ lines_from now (n + 1) (seen (drop (i + 1) texts)) ≡ all
line_turn texts i d n was now done new behind all inside rest is e =
    ap (λ (ls : List (List ℕ)). new ++ lines_from now (n + 1) ls) (sym rest)
    ∙ is ∙ ap (λ (ls : List (List ℕ)). done ++ lines_from was n ((get_or texts i d).now ∷ ls)) rest
    ∙ sym (ap (λ (ls : List (List ℕ)). done ++ lines_from was n ls) (seen_more texts i d inside)) ∙ e

-- all lines of an action are read
by_few : (xs ys : List Numbered) → xs ≡ ys → length ys ≤ 1000
    → (if nat_le (length xs) 1000 then Some xs else None) ≡ Some ys
by_few xs ys same h = let yes : nat_le (length ys) 1000 ≡ true = grind (arith, nat_tests) in rw (same, yes) refl

pub body_whole : (number n i : ℕ) (left : List (Bor (List ℕ))) (texts : List (List ℕ)) (done : List Line)
    → length left ≤ i → length done ≤ 1000
    → map line_view done ++ body_from n (seen (drop i left)) ≡ body_from number texts
    → Some (map line_view done) ≡ body_of number texts
unfolding body_of body_from
body_whole number n i left texts done over few e =
    let nothing : seen (drop i left) ≡ [] = ap seen (drop_all i left over) in
    let all : map line_view done ≡ body_from number texts =
    sym (ap (λ (ls : List (List ℕ)). map line_view done ++ body_from n ls) nothing ∙ append-nil (map line_view done)) ∙ e in
    sym (by_few (body_from number texts) (map line_view done) (sym all) (simp length-map few))

-- there are more than 1,000
by_many : (xs : List Numbered) → 1000 < length xs → (if nat_le (length xs) 1000 then Some xs else None) ≡ None
by_many xs h = let no : nat_le (length xs) 1000 ≡ false = grind (arith, nat_tests) in rw no refl

pub body_full : (number : ℕ) (texts : List (List ℕ)) (done : List Line) (more : List Numbered)
    → 1000 < length done → map line_view done ++ more ≡ body_from number texts → None ≡ body_of number texts
unfolding body_of
body_full number texts done more full e =
    sym (by_many (body_from number texts) (omega (arith, simp (length-append, length-map) at (ap length e))))

-- a place among what is seen of elements
prefix_seen : {X Y : Type 0} (f : X → Y) (p : Y → Bool) (xs : List X) → prefix_len p (map f xs) ≡ prefix_len (λ x. p (f x)) xs
prefix_seen f p [] = refl
prefix_seen f p (x ∷ xs) = ap (λ (n : ℕ). if p (f x) then 1 + n else 0) (prefix_seen f p xs)

pub place_seen : {X Y : Type 0} (f : X → Y) (p : Y → Bool) (xs : List X) → position p (map f xs) ≡ position (λ x. p (f x)) xs
place_seen f p xs =
    ap (λ (n : ℕ). if nat_lt n (length (map f xs)) then Some n else None) (prefix_seen f (λ y. not (p y)) xs)
    ∙ ap (λ (m : ℕ). if nat_lt (prefix_len (λ x. not (p (f x))) xs) m then Some (prefix_len (λ x. not (p (f x))) xs) else None)
    (length-map xs f)

-- the lines in front of a place, seen
pub front_seen : (texts : List (Bor (List ℕ))) (end : Option ℕ) → end ≡ position (λ (text : Bor (List ℕ)). is_end text.now) texts
    → option_map (λ i. map (λ (text : Bor (List ℕ)). text.now) (take i texts)) end ≡ body_in (map (λ (text : Bor (List ℕ)). text.now) texts)
front_seen texts end e =
    by_end end ∙ ap (option_map (λ i. take i (map (λ (text : Bor (List ℕ)). text.now) texts))) (e ∙ sym (place_seen (λ (text : Bor (List ℕ)). text.now) is_end texts))
  where
    by_end : (o : Option ℕ) → option_map (λ i. map (λ (text : Bor (List ℕ)). text.now) (take i texts)) o
        ≡ option_map (λ i. take i (map (λ (text : Bor (List ℕ)). text.now) texts)) o
    by_end None = refl
    by_end (Some i) = ap (λ (ls : List (List ℕ)). Some ls) (sym (take-map (λ (text : Bor (List ℕ)). text.now) i texts))

-- no line is left of a script
pub lines_whole : (n i : ℕ) (within : Bool) (left : List (Bor (List ℕ))) (done : List Line) (all : List Numbered)
    → length left ≤ i → map line_view done ++ lines_from within n (seen (drop i left)) ≡ all → map line_view done ≡ all
unfolding lines_from
lines_whole n i within left done all over e =
    sym (ap (λ (ls : List (List ℕ)). map line_view done ++ lines_from within n ls) (ap seen (drop_all i left over))
    ∙ append-nil (map line_view done)) ∙ e
