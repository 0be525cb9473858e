-- What lines print is whole lines, of which none is taken for a line of a frame.
use Rattle.std.proofs.Common.{◌≡◌, ◌<◌, ◌+◌, ◌/◌, ◌%◌, ℕ, ℤ, pos, negsuc, zero, suc, Bool, true, false, cond, eqb, not, nat_lt, List, [], ◌∷◌, ◌++◌, get_or, Option, Some, None, All, append_assoc, append-nil, refl, sym, ap, ◌∙◌, arith}
use Rattle.std.specs.Prelude.{codes, nat_eq, unwrap_or}
use Rattle.std.specs.Fmt.{decimal, digit_glyph, digits, digits_onto, signed_decimal}
use Rattle.std.specs.List.{flat_map, list_all}
use Rattle.std.specs.Map.{lookup}
use Rattle.std.proofs.lemmas.Bool.{and_parts}
use Rattle.std.proofs.lemmas.Bool.Decides.{nat_tests}
use Rattle.std.proofs.lemmas.List.Elements.{All-append, All-cons, All-head, All-nil, All-tail}
use Rattle.std.proofs.lemmas.Grind.{flat_map-append}
use Rattle.fx_text.specs.Characters.{backslash, carriage_return, full_stop, line_feed, number_sign, space}
use Rattle.fx_base.specs.Constants.{constants_of}
use Rattle.fx_base.specs.Printing.{constant_at, escaped, printed, truth_text, two_digits}
use Rattle.fx_base.specs.declared.keys.Name.{Name}
use Rattle.fx_base.specs.declared.kinds.Family.{Family}
use Rattle.fx_base.specs.declared.kinds.Family.TheVariants.{Pos, Priority, HPos, VPos}
use Rattle.fx_base.specs.declared.positions.Place.{Place}
use Rattle.fx_base.specs.declared.values.Value.{Value}
use Rattle.fx_base.specs.declared.values.Value.TheVariants.{Int, Bool as Truth, Text, Choice, Color, Sides}
use Rattle.fx_delta.specs.Items.{ended}
use Rattle.fx_delta.specs.Stream.{is_line_feed}
use Rattle.fx_delta_laws.specs.Streams.{IsBetween}
use Rattle.fx_stage_text.specs.Printing.{Written, changed_line, invalid_line, notice_lines, outcome_lines, overrun_line, path_of, path_text, refused_line, said_line, value_line, value_lines, warning_line}
use Rattle.fx_stage_types.specs.Words.{word_of}
use Rattle.fx_stage_types.specs.declared.answers.Outcome.{Outcome}
use Rattle.fx_stage_types.specs.declared.refusals.Refusal.{Refusal}
use Rattle.fx_stage_types.specs.declared.refusals.Refusal.TheVariants as word
use Rattle.fx_store_model.specs.declared.changes.Notices.{Notices}
use Rattle.fx_delta_runs.specs.Frames.{AreLines}
use Rattle.fx_delta_runs.specs.Tame.{IsOneLine, IsOnePath}

abbrev Calm : ℕ → Type 0
Calm c = is_line_feed c ≡ false

-- ---- texts without a line feed
pub one_append : (a b : List ℕ) → IsOneLine a → IsOneLine b → IsOneLine (a ++ b)
one_append a b p q = All-append Calm a b p q

pub one_none : IsOneLine []
one_none = All-nil Calm

one_more : (c : ℕ) (text : List ℕ) → is_line_feed c ≡ false → IsOneLine text → IsOneLine (c ∷ text)
one_more c text h all = All-cons Calm c text h all

pub one_space : (text : List ℕ) → IsOneLine text → IsOneLine (space ∷ text)
one_space text all = one_more space text refl all

-- a text that is known
pub one_known : (text : List ℕ) → list_all (λ (c : ℕ). not (is_line_feed c)) text ≡ true → IsOneLine text
one_known [] e = one_none
one_known (c ∷ cs) e =
    let both = and_parts (not (is_line_feed c)) (list_all (λ (d : ℕ). not (is_line_feed d)) cs) e in
    one_more c cs (turned (is_line_feed c) both.0) (one_known cs both.1)
  where
    turned : (t : Bool) → not t ≡ true → t ≡ false
    turned true e = sym e
    turned false e = refl

pub one_flat : {A : Type 0} (f : A → List ℕ) (xs : List A) → ((x : A) → IsOneLine (f x)) → IsOneLine (flat_map f xs)
one_flat f [] each = one_none
one_flat f (x ∷ xs) each = one_append (f x) (flat_map f xs) (each x) (one_flat f xs each)

one_glyph : (d : ℕ) → is_line_feed (digit_glyph false d) ≡ false
one_glyph d = by (nat_lt d 10)
  where
    differ : (n : ℕ) → 10 < n → eqb n 10 ≡ false
    differ n h = grind (arith, nat_tests)

    by : (t : Bool) → is_line_feed (cond t (48 + d) (87 + d)) ≡ false
    by true = differ (48 + d) (omega arith)
    by false = differ (87 + d) (omega arith)

one_onto : (k n : ℕ) (behind : List ℕ) → IsOneLine behind → IsOneLine (digits_onto k 10 false n behind)
one_onto zero n behind all = all
one_onto (suc k) n behind all =
    let more : IsOneLine (digit_glyph false (n % 10) ∷ behind) =
    one_more (digit_glyph false (n % 10)) behind (one_glyph (n % 10)) all in
    by (eqb (n / 10) 0) more (one_onto k (n / 10) (digit_glyph false (n % 10) ∷ behind) more)
  where
    by : (t : Bool) → IsOneLine (digit_glyph false (n % 10) ∷ behind)
        → IsOneLine (digits_onto k 10 false (n / 10) (digit_glyph false (n % 10) ∷ behind))
        → IsOneLine
        (cond t (digit_glyph false (n % 10) ∷ behind)
        (digits_onto k 10 false (n / 10) (digit_glyph false (n % 10) ∷ behind)))
    by true last rest = last
    by false last rest = rest

pub one_decimal : (n : ℕ) → IsOneLine (decimal n)
unfolding digits
one_decimal n = one_onto 64 n [] one_none

one_signed : (z : ℤ) → IsOneLine (signed_decimal z)
one_signed (pos n) = one_decimal n
one_signed (negsuc n) = one_more 45 (decimal (suc n)) refl (one_decimal (suc n))

-- ---- values
one_digits : (n : ℕ) (text : List ℕ) → IsOneLine text → IsOneLine (two_digits n ++ text)
one_digits n text all =
    one_more (digit_glyph false (n / 16)) (digit_glyph false (n % 16) ∷ text) (one_glyph (n / 16))
    (one_more (digit_glyph false (n % 16)) text (one_glyph (n % 16)) all)

one_escaped : (byte : ℕ) → IsOneLine (escaped byte)
one_escaped byte = first (eqb byte backslash)
  where
    third : (t : Bool) → is_line_feed byte ≡ false → IsOneLine (cond t (codes "\\r") (byte ∷ []))
    third true e = one_known (codes "\\r") refl
    third false e = one_more byte [] e one_none

    second : (t : Bool) → is_line_feed byte ≡ t
        → IsOneLine (cond t (codes "\\n") (cond (eqb byte carriage_return) (codes "\\r") (byte ∷ [])))
    second true e = one_known (codes "\\n") refl
    second false e = third (eqb byte carriage_return) e

    first : (t : Bool) → IsOneLine (cond t (codes "\\\\")
        (cond (eqb byte line_feed) (codes "\\n") (cond (eqb byte carriage_return) (codes "\\r") (byte ∷ []))))
    first true = one_known (codes "\\\\") refl
    first false = second (eqb byte line_feed) refl

one_at : (texts : List (List ℕ)) (place : ℕ)
    → list_all (λ (text : List ℕ). list_all (λ (c : ℕ). not (is_line_feed c)) text) texts ≡ true
    → IsOneLine (get_or texts place [])
one_at [] place e = one_none
one_at (text ∷ texts) zero e =
    one_known text
    (and_parts (list_all (λ (c : ℕ). not (is_line_feed c)) text)
    (list_all (λ (text : List ℕ). list_all (λ (c : ℕ). not (is_line_feed c)) text) texts) e).0
one_at (text ∷ texts) (suc place) e =
    one_at texts place
    (and_parts (list_all (λ (c : ℕ). not (is_line_feed c)) text)
    (list_all (λ (text : List ℕ). list_all (λ (c : ℕ). not (is_line_feed c)) text) texts) e).1

one_constant : (family : Family) (place : ℕ) → IsOneLine (constant_at family place)
one_constant Pos place = one_at (constants_of Pos) place refl
one_constant Priority place = one_at (constants_of Priority) place refl
one_constant HPos place = one_at (constants_of HPos) place refl
one_constant VPos place = one_at (constants_of VPos) place refl

one_truth : (truth : Bool) → IsOneLine (truth_text truth)
one_truth true = one_known (codes "true") refl
one_truth false = one_known (codes "false") refl

pub one_printed : (value : Value) → IsOneLine (printed value)
one_printed (Int n) = one_signed n
one_printed (Truth b) = one_truth b
one_printed (Text t) = one_flat escaped t one_escaped
one_printed (Choice family place) = one_constant family place
one_printed (Color c) =
    one_more number_sign (two_digits c.r ++ (two_digits c.g ++ (two_digits c.b ++ two_digits c.a))) refl
    (one_digits c.r (two_digits c.g ++ (two_digits c.b ++ two_digits c.a))
    (one_digits c.g (two_digits c.b ++ two_digits c.a)
    (one_digits c.b (two_digits c.a) (one_digits c.a [] one_none))))
one_printed (Sides s) =
    one_append (signed_decimal s.top)
    (space ∷ (signed_decimal s.right ++ (space ∷ (signed_decimal s.bottom ++ (space ∷ signed_decimal s.left)))))
    (one_signed s.top)
    (one_space (signed_decimal s.right ++ (space ∷ (signed_decimal s.bottom ++ (space ∷ signed_decimal s.left))))
    (one_append (signed_decimal s.right) (space ∷ (signed_decimal s.bottom ++ (space ∷ signed_decimal s.left)))
    (one_signed s.right)
    (one_space (signed_decimal s.bottom ++ (space ∷ signed_decimal s.left))
    (one_append (signed_decimal s.bottom) (space ∷ signed_decimal s.left) (one_signed s.bottom)
    (one_space (signed_decimal s.left) (one_signed s.left))))))

-- ---- paths
pub one_path : (path : List (List ℕ)) → IsOnePath path → IsOneLine (path_text path)
one_path [] all = one_none
one_path (name ∷ names) all =
    one_append name (flat_map (λ (other : List ℕ). full_stop ∷ other) names) (All-head IsOneLine name names all)
    (rest names (All-tail IsOneLine name names all))
  where
    rest : (names : List (List ℕ)) → All IsOneLine names
        → IsOneLine (flat_map (λ (other : List ℕ). full_stop ∷ other) names)
    rest [] all = one_none
    rest (n ∷ ns) all =
        one_append (full_stop ∷ n) (flat_map (λ (other : List ℕ). full_stop ∷ other) ns)
        (one_more full_stop n refl (All-head IsOneLine n ns all)) (rest ns (All-tail IsOneLine n ns all))

abbrev pub AreOnePaths : Written → Type 0
AreOnePaths written = All (λ (entry : ℕ × List (List ℕ)). IsOnePath entry.1) written

one_written : (written : Written) (listener : ℕ) → AreOnePaths written → IsOnePath (path_of written listener)
one_written [] listener all = All-nil IsOneLine
one_written (entry ∷ more) listener all =
    by (nat_eq listener entry.0)
    (one_written more listener (All-tail (λ (entry : ℕ × List (List ℕ)). IsOnePath entry.1) entry more all))
  where
    by : (t : Bool) → IsOnePath (path_of more listener)
        → IsOnePath (unwrap_or (cond t (Some entry.1) (lookup (nat_eq listener) more)) [])
    by true rest = All-head (λ (entry : ℕ × List (List ℕ)). IsOnePath entry.1) entry more all
    by false rest = rest

-- ---- whole lines
pub no_lines : AreLines []
no_lines = record { lines = []; ended_so = refl; between = All-nil IsBetween }

pub lines_append : (a b : List ℕ) → AreLines a → AreLines b → AreLines (a ++ b)
lines_append a b p q =
    record {
      lines = p.lines ++ q.lines;
      ended_so = ap (λ (l : List ℕ). l ++ b) p.ended_so ∙ ap (λ (l : List ℕ). flat_map ended p.lines ++ l) q.ended_so
          ∙ sym (flat_map-append ended p.lines q.lines);
      between = All-append IsBetween p.lines q.lines p.between q.between;
    }

pub lines_flat : {A : Type 0} (f : A → List ℕ) (xs : List A) → ((x : A) → AreLines (f x)) → AreLines (flat_map f xs)
lines_flat f [] each = no_lines
lines_flat f (x ∷ xs) each = lines_append (f x) (flat_map f xs) (each x) (lines_flat f xs each)

pub one_line : (text printed : List ℕ) → printed ≡ ended text → IsBetween text → AreLines printed
one_line text printed e is =
    record {
      lines = text ∷ [];
      ended_so = e ∙ sym (append-nil (ended text));
      between = All-cons IsBetween text [] is (All-nil IsBetween);
    }

-- ---- the lines that tell of what a line did
one_word : (refusal : Refusal) → IsOneLine (word_of refusal)
one_word word.Syntax = one_known (codes "syntax") refl
one_word word.Unknown = one_known (codes "unknown") refl
one_word word.Property = one_known (codes "property") refl
one_word word.ReadOnly = one_known (codes "readonly") refl
one_word word.Stale = one_known (codes "stale") refl
one_word word.Kinds = one_known (codes "type") refl
one_word word.Value = one_known (codes "value") refl
one_word word.Exists = one_known (codes "exists") refl
one_word word.Bound = one_known (codes "bound") refl
one_word word.Mixed = one_known (codes "mixed") refl
one_word word.Same = one_known (codes "same") refl
one_word word.Cycle = one_known (codes "cycle") refl
one_word word.WouldLoop = one_known (codes "wouldloop") refl
one_word word.Parent = one_known (codes "parent") refl
one_word word.Attached = one_known (codes "attached") refl
one_word word.Place = one_known (codes "place") refl
one_word word.Depth = one_known (codes "depth") refl
one_word word.Used = one_known (codes "used") refl
one_word word.Button = one_known (codes "button") refl
one_word word.Full = one_known (codes "full") refl

pub two_ended : (a b : List ℕ) → a ++ (space ∷ ended b) ≡ ended (a ++ (space ∷ b))
two_ended a b = sym (append_assoc a (space ∷ b) (line_feed ∷ []))

pub refused_lines : (number : ℕ) (refusal : Refusal) → AreLines (refused_line number (word_of refusal))
unfolding refused_line
refused_lines number refusal =
    let rest : List ℕ = decimal number ++ (space ∷ word_of refusal) in
    one_line (codes "refused " ++ rest) (codes "refused " ++ (decimal number ++ (space ∷ ended (word_of refusal))))
    (ap (λ (l : List ℕ). codes "refused " ++ l) (two_ended (decimal number) (word_of refusal)))
    (record {
      one = one_append (codes "refused ") rest (one_known (codes "refused ") refl)
          (one_append (decimal number) (space ∷ word_of refusal) (one_decimal number)
          (one_space (word_of refusal) (one_word refusal)));
      no_frame = refl;
      no_row = refl;
      no_end = refl;
    })

pub said_lines : (text : List ℕ) → IsOneLine text → AreLines (said_line text)
unfolding said_line
said_lines text all =
    one_line (codes "say " ++ text) (codes "say " ++ ended text) refl
    (record {
      one = one_append (codes "say ") text (one_known (codes "say ") refl) all;
      no_frame = refl;
      no_row = refl;
      no_end = refl;
    })

pub overrun_lines : (number : ℕ) → AreLines (overrun_line number)
unfolding overrun_line
overrun_lines number =
    one_line (codes "overrun " ++ decimal number) (codes "overrun " ++ ended (decimal number)) refl
    (record {
      one = one_append (codes "overrun ") (decimal number) (one_known (codes "overrun ") refl) (one_decimal number);
      no_frame = refl;
      no_row = refl;
      no_end = refl;
    })

pub value_line_lines : (path : List (List ℕ)) (value : Value) → IsOnePath path → AreLines (value_line path value)
unfolding value_line
value_line_lines path value all =
    let rest : List ℕ = path_text path ++ (space ∷ printed value) in
    one_line (codes "value " ++ rest) (codes "value " ++ (path_text path ++ (space ∷ ended (printed value))))
    (ap (λ (l : List ℕ). codes "value " ++ l) (two_ended (path_text path) (printed value)))
    (record {
      one = one_append (codes "value ") rest (one_known (codes "value ") refl)
          (one_append (path_text path) (space ∷ printed value) (one_path path all)
          (one_space (printed value) (one_printed value)));
      no_frame = refl;
      no_row = refl;
      no_end = refl;
    })

warning_lines : (number : ℕ) (place : Place) → AreLines (warning_line number place)
unfolding warning_line
warning_lines number place =
    let column : List ℕ = decimal place.position.column in
    let rest : List ℕ = decimal number ++ (space ∷ column) in
    one_line (codes "warn inline " ++ rest) (codes "warn inline " ++ (decimal number ++ (space ∷ ended column)))
    (ap (λ (l : List ℕ). codes "warn inline " ++ l) (two_ended (decimal number) column))
    (record {
      one = one_append (codes "warn inline ") rest (one_known (codes "warn inline ") refl)
          (one_append (decimal number) (space ∷ column) (one_decimal number)
          (one_space column (one_decimal place.position.column)));
      no_frame = refl;
      no_row = refl;
      no_end = refl;
    })

invalid_lines : (written : Written) (notice : Name × ℕ) → AreOnePaths written → AreLines (invalid_line written notice)
unfolding invalid_line
invalid_lines written notice all =
    let path : List ℕ = path_text (path_of written notice.1) in
    one_line (codes "invalid " ++ path) (codes "invalid " ++ ended path) refl
    (record {
      one = one_append (codes "invalid ") path (one_known (codes "invalid ") refl)
          (one_path (path_of written notice.1) (one_written written notice.1 all));
      no_frame = refl;
      no_row = refl;
      no_end = refl;
    })

changed_lines : (written : Written) (notice : Name × ℕ × Value × Value) → AreOnePaths written
    → AreLines (changed_line written notice)
unfolding changed_line
changed_lines written notice all =
    let path : List ℕ = path_text (path_of written notice.1) in
    let old : List ℕ = printed notice.2 in
    let now : List ℕ = printed notice.3 in
    let rest : List ℕ = path ++ (space ∷ (old ++ (space ∷ now))) in
    one_line (codes "changed " ++ rest) (codes "changed " ++ (path ++ (space ∷ (old ++ (space ∷ ended now)))))
    (ap (λ (l : List ℕ). codes "changed " ++ (path ++ (space ∷ l))) (two_ended old now)
    ∙ ap (λ (l : List ℕ). codes "changed " ++ l) (two_ended path (old ++ (space ∷ now))))
    (record {
      one = one_append (codes "changed ") rest (one_known (codes "changed ") refl)
          (one_append path (space ∷ (old ++ (space ∷ now)))
          (one_path (path_of written notice.1) (one_written written notice.1 all))
          (one_space (old ++ (space ∷ now))
          (one_append old (space ∷ now) (one_printed notice.2) (one_space now (one_printed notice.3)))));
      no_frame = refl;
      no_row = refl;
      no_end = refl;
    })

pub notices_lines : (written : Written) (notices : Notices) → AreOnePaths written
    → AreLines (notice_lines written notices)
notices_lines written notices all =
    lines_append (flat_map (invalid_line written) notices.invalid) (flat_map (changed_line written) notices.changed)
    (lines_flat (invalid_line written) notices.invalid (λ notice. invalid_lines written notice all))
    (lines_flat (changed_line written) notices.changed (λ notice. changed_lines written notice all))

values_lines : (path : List (List ℕ)) (value : Option Value) → IsOnePath path → AreLines (value_lines path value)
values_lines path None all = no_lines
values_lines path (Some value) all = value_line_lines path value all

pub outcomes_lines : (written : Written) (number : ℕ) (path : List (List ℕ)) (outcome : Outcome)
    → AreOnePaths written → IsOnePath path → AreLines (outcome_lines written number path outcome)
outcomes_lines written number path outcome all one =
    lines_append (value_lines path outcome.value)
    (flat_map (warning_line number) outcome.warnings ++ notice_lines written outcome.notices)
    (values_lines path outcome.value one)
    (lines_append (flat_map (warning_line number) outcome.warnings) (notice_lines written outcome.notices)
    (lines_flat (warning_line number) outcome.warnings (warning_lines number))
    (notices_lines written outcome.notices all))
