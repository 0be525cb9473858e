-- A command line is read as what it asks for, and what is read is asked for.
use Rattle.std.proofs.Common.{◌≡◌, suc, List, [], ◌∷◌, ◌++◌, Option, Some, None, All, refl, ap, sym, ◌∙◌, append_assoc, arith}
use Rattle.std.specs.List.{flat_map, fold}
use Rattle.std.specs.Option.{option_and_then}
use Rattle.std.proofs.lemmas.List.{append-nil}
use Rattle.std.proofs.lemmas.List.Elements.{All-cons}
use Rattle.std.proofs.lemmas.List.Sums.{fold-append}
use Rattle.fx_words.specs.Asking.{Arguments, Asks, Word, Part, Positional, Summary, Apart, Joined, IsPart, arguments_of, name_of, no_arguments, run_of, tail_positionals, tail_words, with_part, with_positionals, with_value, words_of}
use Rattle.fx_words.specs.Reading.{accept, ended, next, read, sort_of, stepped, value_behind, word_step}
use Rattle.fx_words.specs.declared.runs.Run.{Run}
use Rattle.fx_words.specs.declared.sorts.Awaits.{Awaits}
use Rattle.fx_words.specs.declared.sorts.Awaits.TheVariants as awaits
use Rattle.fx_words.specs.declared.sorts.Sort.{Sort}
use Rattle.fx_words.specs.declared.sorts.Sort.TheVariants as sort
use Rattle.fx_words.proofs.SortLemmas.{Fits, fits, part_read}

-- positionals, and more of them
more_positionals : (a : Arguments) (xs ys : List Word)
    → with_positionals (with_positionals a xs) ys ≡ with_positionals a (xs ++ ys)
more_positionals a xs ys =
    ap (λ (ps : List Word). record a { positionals = ps }) (append_assoc a.positionals xs ys)

no_positionals : (a : Arguments) → with_positionals a [] ≡ a
no_positionals a = ap (λ (ps : List Word). record a { positionals = ps }) (append-nil a.positionals)

parts_read : (parts : List Part) (a : Arguments) → All IsPart parts
    → fold next (stepped a awaits.Any) (flat_map words_of parts) ≡ stepped (fold with_part a parts) awaits.Any
parts_read [] a sound = refl
parts_read (p ∷ ps) a sound =
    let first : IsPart p = sound 0 p (omega arith) in
    let others : All IsPart ps = λ k d lt. sound (suc k) d (omega arith) in
    fold-append next (stepped a awaits.Any) (words_of p) (flat_map words_of ps)
    ∙ ap (λ s. fold next s (flat_map words_of ps)) (part_read p a first) ∙ parts_read ps (with_part a p) others

plains_read : (words : List Word) (a : Arguments)
    → fold next (stepped a awaits.Positionals) words ≡ stepped (with_positionals a words) awaits.Positionals
plains_read [] a = ap (λ (b : Arguments). stepped b awaits.Positionals) (sym (no_positionals a))
plains_read (w ∷ ws) a =
    plains_read ws (with_positionals a (w ∷ []))
    ∙ ap (λ (b : Arguments). stepped b awaits.Positionals) (more_positionals a (w ∷ []) ws)

tail_read : (tail : Option (List Word)) (a : Arguments)
    → ended (fold next (stepped a awaits.Any) (tail_words tail)) ≡ Some (with_positionals a (tail_positionals tail))
unfolding sort_of
tail_read None a = ap Some (sym (no_positionals a))
tail_read (Some words) a = ap ended (plains_read words a)

line_read : (parts : List Part) (tail : Option (List Word)) → All IsPart parts
    → ended (read (flat_map words_of parts ++ tail_words tail)) ≡ Some (arguments_of parts tail)
line_read parts tail sound =
    ap ended (fold-append next (stepped no_arguments awaits.Any) (flat_map words_of parts) (tail_words tail)
    ∙ ap (λ s. fold next s (tail_words tail)) (parts_read parts no_arguments sound))
    ∙ tail_read tail (fold with_part no_arguments parts)

pub alone : (words : List Word) (run : Run) → Asks words run → accept words ≡ Some run
unfolding accept
alone words run asks =
    ap (λ ws. option_and_then run_of (ended (read ws))) asks.written
    ∙ ap (option_and_then run_of) (line_read asks.parts asks.tail asks.sound) ∙ asks.asked

-- a command line behind these arguments, and the arguments at its end
record Line (a : Arguments) (words : List Word) (b : Arguments) : Type 0 where
  parts : List Part
  tail : Option (List Word)
  sound : All IsPart parts
  written : words ≡ flat_map words_of parts ++ tail_words tail
  is : b ≡ with_positionals (fold with_part a parts) (tail_positionals tail)

abbrev Ends : Awaits → Arguments → List Word → Arguments → Type 0
Ends awaits.Any a words b = Line a words b
Ends (awaits.Value option) a words b =
    (value : Word) × ((rest : List Word) × ((words ≡ value ∷ rest) × Line (with_value a option value) rest b))
Ends awaits.Positionals a words b = b ≡ with_positionals a words

-- a part in front of a line
in_front : (p : Part) (a b : Arguments) (words all : List Word) → IsPart p → all ≡ words_of p ++ words
    → Line (with_part a p) words b → Line a all b
in_front p a b words all sound written line =
    let assoc = append_assoc (words_of p) (flat_map words_of line.parts) (tail_words line.tail) in
    record {
      parts = p ∷ line.parts;
      tail = line.tail;
      sound = All-cons IsPart p line.parts sound line.sound;
      written = written ∙ ap (λ ws. words_of p ++ ws) line.written ∙ sym assoc;
      is = line.is;
    }

word_asked : (w : Word) (ws : List Word) (a b : Arguments) (k : Sort) → Fits k w
    → ((aw : Awaits) (a : Arguments) → ended (fold next (stepped a aw) ws) ≡ Some b → Ends aw a ws b)
    → ended (fold next (word_step a w k) ws) ≡ Some b → Line a (w ∷ ws) b
word_asked w ws a b sort.Plain fit others e =
    in_front (Positional w) a b ws (w ∷ ws) fit refl (others awaits.Any (with_positionals a (w ∷ [])) e)
word_asked w ws a b sort.End fit others e =
    record {
      parts = [];
      tail = Some ws;
      sound = λ k d lt. absurd (omega arith);
      written = ap (λ (v : Word). v ∷ ws) fit;
      is = others awaits.Positionals a e;
    }
word_asked w ws a b sort.Summary fit others e =
    in_front Summary a b ws (w ∷ ws) tt (ap (λ (v : Word). v ∷ ws) fit) (others awaits.Any (with_part a Summary) e)
word_asked w ws a b (sort.Apart option) fit others e =
    let (value, (rest, (is, line))) = others (awaits.Value option) a e in
    in_front (Apart option value) a b rest (w ∷ ws) tt (ap (λ (v : Word). v ∷ ws) fit ∙ ap (λ (vs : List Word). name_of option ∷ vs) is) line
word_asked w ws a b (sort.Joined option) fit others e =
    in_front (Joined option (value_behind option w)) a b ws (w ∷ ws) tt (ap (λ (v : Word). v ∷ ws) fit)
    (others awaits.Any (with_value a option (value_behind option w)) e)
word_asked w ws a b sort.Unknown fit others e = absurd (none_left ws e) where
  none_left : (ws : List Word) → ended (fold next None ws) ≡ Some b → ⊥
  none_left [] e = cc
  none_left (v ∷ vs) e = none_left vs e

words_asked : (words : List Word) (b : Arguments) (aw : Awaits) (a : Arguments)
    → ended (fold next (stepped a aw) words) ≡ Some b → Ends aw a words b
words_asked [] b awaits.Any a e =
    record {
      parts = [];
      tail = None;
      sound = λ k d lt. absurd (omega arith);
      written = refl;
      is = some_same e ∙ sym (no_positionals a);
    } where
      some_same : Some a ≡ Some b → b ≡ a
      some_same e = cc
words_asked [] b (awaits.Value option) a e = cc
words_asked [] b awaits.Positionals a e = some_same e ∙ sym (no_positionals a) where
  some_same : Some a ≡ Some b → b ≡ a
  some_same e = cc
words_asked (w ∷ ws) b awaits.Any a e = word_asked w ws a b (sort_of w) (fits w) (words_asked ws b) e
words_asked (w ∷ ws) b (awaits.Value option) a e =
    (w, (ws, (refl, words_asked ws b awaits.Any (with_value a option w) e)))
words_asked (w ∷ ws) b awaits.Positionals a e =
    words_asked ws b awaits.Positionals (with_positionals a (w ∷ [])) e ∙ more_positionals a (w ∷ []) ws

asked_at : (words : List Word) (run : Run) (read : Option Arguments)
    → ended (fold next (stepped no_arguments awaits.Any) words) ≡ read → option_and_then run_of read ≡ Some run → Asks words run
asked_at words run None e h = cc
asked_at words run (Some b) e h =
    let line = words_asked words b awaits.Any no_arguments e in
    record {
      parts = line.parts;
      tail = line.tail;
      sound = line.sound;
      written = line.written;
      asked = ap run_of (sym line.is) ∙ h;
    }

pub asked : (words : List Word) (run : Run) → accept words ≡ Some run → Asks words run
unfolding accept
asked words run h = asked_at words run (ended (read words)) refl h
