-- The expression of a text: the one that it is written in, within the limits.
use Rattle.std.proofs.Common.{◌≡◌, ◌≤◌, ℕ, List, length, Option, Some, None, Result, Err, refl, ap, subst, arith}
use Rattle.std.specs.Str.{chars}
use Rattle.fx_expr.specs.Operands.{once, paths_in}
use Rattle.fx_expr.specs.Reading.{IsRead, IsThat, reading_of}
use Rattle.fx_expr.specs.Tree.{Tree}
use Rattle.fx_expr.specs.declared.reading.ExprError.{ExprError}
use Rattle.fx_expr.specs.declared.reading.ExprError.TheVariants as fault
use Rattle.fx_expr.proofs.GrammarLemmas.{whole_sound}
use Rattle.fx_expr.proofs.ReadingLemmas.{Found, Outcome, deep, fine, many, no_form, no_tokens, one_tree, outcome, read_operands, read_syntax, read_too_deep}
use Rattle.fx_script_lines.specs.declared.stops.Stop.{Stop}
use Rattle.fx_script_lines.specs.declared.stops.Stop.TheVariants.{Form, Memory}
use Rattle.fx_script_commands.specs.Commands.{expression_of, found_expression}
use Rattle.fx_script_commands.specs.Requests.{Expression, IsFound, expression_view}

abbrev pub expression : List (List (List ℕ)) → Tree → Expression
expression paths t = record { paths = paths; meaning = t }

of_fine : (text : List ℕ) (r : Result Found ExprError) → Outcome text r → (paths : List (List (List ℕ))) (t : Tree)
    → IsRead text paths t → length paths ≤ 256 → found_expression r ≡ Some (expression paths t)
of_fine text r (fine ts u s w l) paths t x short =
    let known : IsRead text (once (paths_in ts)) u = record { tokens = ts; spelled = s; listed = refl; grouped = whole_sound (once (paths_in ts)) ts u w } in
    let same = one_tree text (once (paths_in ts)) paths u t known x in
    rw (same.0, same.1) refl
of_fine text r (no_tokens f) paths t x short = absurd (f x.tokens x.spelled)
of_fine text r (no_form ts s f) paths t x short =
    absurd (read_syntax text r (no_form ts s f) refl (record { tokens = x.tokens; spelled = x.spelled; paths = paths; depth = 32; meant = t; grouped = x.grouped }))
of_fine text r (deep ts s f w) paths t x short = absurd (read_too_deep text r (deep ts s f w) refl paths t x)
of_fine text r (many ts u s w l) paths t x short =
    let known = read_operands text r (many ts u s w l) refl in
    let same = one_tree text known.0 paths known.1 t known.2 x in
    absurd (omega (arith, known.3, ap (λ (ps : List (List (List ℕ))). length ps) same.0))

-- what is written so is the expression of the text
pub written_is : (text : List ℕ) (paths : List (List (List ℕ))) (t : Tree) → IsRead (chars text) paths t
    → length paths ≤ 256 → expression_of text ≡ Some (expression paths t)
unfolding expression_of
written_is text paths t x short = of_fine (chars text) (reading_of (chars text)) (outcome (chars text)) paths t x short

by_outcome : (text : List ℕ) (r : Result Found ExprError) → Outcome text r → (found : Expression)
    → found_expression r ≡ Some found → IsRead text found.paths found.meaning × (length found.paths ≤ 256)
by_outcome text r (fine ts t s w l) found e =
    let known : IsRead text (once (paths_in ts)) t = record { tokens = ts; spelled = s; listed = refl; grouped = whole_sound (once (paths_in ts)) ts t w } in
    let same : expression (once (paths_in ts)) t ≡ found = same_found (expression (once (paths_in ts)) t) found e in
    subst (λ f. IsRead text f.paths f.meaning × (length f.paths ≤ 256)) same (known, l)
  where
    same_found : (x y : Expression) → Some x ≡ Some y → x ≡ y
    same_found x y h = cc
by_outcome text r (no_tokens f) found e = absurd (cc)
by_outcome text r (no_form ts s f) found e = absurd (cc)
by_outcome text r (deep ts s f w) found e = absurd (cc)
by_outcome text r (many ts t s w l) found e = absurd (cc)

-- the expression of a text is written so
pub is_written : (text : List ℕ) (found : Expression) → expression_of text ≡ Some found
    → IsRead (chars text) found.paths found.meaning × (length found.paths ≤ 256)
unfolding expression_of
is_written text found e = by_outcome (chars text) (reading_of (chars text)) (outcome (chars text)) found e

-- a refusal that isn't want of memory
is_none : (text : List ℕ) (e : ExprError)
    → ((paths : List (List (List ℕ))) (t : Tree) → IsRead (chars text) paths t → length paths ≤ 256 → IsThat t paths (Err e))
    → (e ≡ fault.Memory → ⊥) → expression_of text ≡ None
is_none text e only other = by_found (expression_of text) refl
  where
    by_found : (o : Option Expression) → expression_of text ≡ o → o ≡ None
    by_found None h = refl
    by_found (Some found) h = let w = is_written text found h in absurd (other (only found.paths found.meaning w.0 w.1))

-- the answer of the reader of expressions, where it refuses
pub refused : (text : List ℕ) (e : ExprError) (stop : Stop)
    → ((paths : List (List (List ℕ))) (t : Tree) → IsRead (chars text) paths t → length paths ≤ 256 → IsThat t paths (Err e))
    → (stop ≡ Form → e ≡ fault.Memory → ⊥) → IsFound expression_view (Err stop) (expression_of text)
refused text e Form only other = is_none text e only (other refl)
refused text e Memory only other = tt
