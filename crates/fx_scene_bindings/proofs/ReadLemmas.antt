-- What the answers of the reader of expressions say of a text.
use Rattle.std.proofs.Common.{◌≡◌, ◌<◌, ◌≤◌, ℕ, List, length, Result, Ok, Err, refl, ap, ◌∙◌, arith}
use Rattle.std.specs.Result.{IfOk}
use Rattle.fx_expr.specs.Operands.{once, paths_in}
use Rattle.fx_expr.specs.Reading.{HasForm, IsRead, reading_of}
use Rattle.fx_expr.specs.Tree.{Tree, tree}
use Rattle.fx_expr.specs.declared.tree.Parsed.{Parsed}
use Rattle.fx_scene_bindings.specs.Bindings.{Reads}
use Rattle.fx_expr.specs.declared.reading.ExprError.{ExprError}
use Rattle.fx_expr.specs.declared.reading.ExprError.TheVariants as fault
use Rattle.fx_expr.proofs.GrammarLemmas.{whole_sound}
use Rattle.fx_expr.proofs.ReadingLemmas.{Found, Outcome, deep, fine, found_at, many, no_form, no_tokens, one_tree, outcome, read_deep, read_operands, read_syntax, read_too_deep}

abbrev Answer : Type 0
Answer = Result Found ExprError

form_of_read : (text : List ℕ) (paths : List (List (List ℕ))) (t : Tree) → IsRead text paths t → HasForm text
form_of_read text paths t x = record { tokens = x.tokens; spelled = x.spelled; paths = paths; depth = 32; meant = t; grouped = x.grouped }

abbrev answer_of : Tree → List (List (List ℕ)) → Answer
answer_of t paths = Ok (found_at t paths)

by_read : (text : List ℕ) (r : Answer) → Outcome text r → (paths : List (List (List ℕ))) (t : Tree)
    → IsRead text paths t → length paths ≤ 256 → r ≡ answer_of t paths
by_read text r (fine ts u s w l) paths t x short =
    let known : IsRead text (once (paths_in ts)) u = record { tokens = ts; spelled = s; listed = refl; grouped = whole_sound (once (paths_in ts)) ts u w } in
    let same = one_tree text (once (paths_in ts)) paths u t known x in
    ap (answer_of u) same.0 ∙ ap (λ y. answer_of y paths) same.1
by_read text r (no_tokens f) paths t x short = absurd (f x.tokens x.spelled)
by_read text r (no_form ts s f) paths t x short = absurd (read_syntax text r (no_form ts s f) refl (form_of_read text paths t x))
by_read text r (deep ts s f w) paths t x short = absurd (read_too_deep text r (deep ts s f w) refl paths t x)
by_read text r (many ts u s w l) paths t x short =
    let known = read_operands text r (many ts u s w l) refl in
    let same = one_tree text known.0 paths known.1 t known.2 x in
    absurd (omega (arith, known.3, short, ap (λ (ps : List (List (List ℕ))). length ps) same.0))

pub reads_whole : (text : List ℕ) (paths : List (List (List ℕ))) (t : Tree) → IsRead text paths t → length paths ≤ 256
    → reading_of text ≡ answer_of t paths
reads_whole text paths t x short = by_read text (reading_of text) (outcome text) paths t x short

by_syntax : (text : List ℕ) (r : Answer) → Outcome text r → (HasForm text → ⊥) → r ≡ Err fault.Syntax
by_syntax text r (no_tokens f) none = refl
by_syntax text r (no_form ts s f) none = refl
by_syntax text r (deep ts s f w) none = absurd (none (read_deep text r (deep ts s f w) refl))
by_syntax text r (many ts u s w l) none =
    let known = read_operands text r (many ts u s w l) refl in absurd (none (form_of_read text known.0 known.1 known.2))
by_syntax text r (fine ts u s w l) none =
    let known : IsRead text (once (paths_in ts)) u = record { tokens = ts; spelled = s; listed = refl; grouped = whole_sound (once (paths_in ts)) ts u w } in
    absurd (none (form_of_read text (once (paths_in ts)) u known))

pub reads_nothing : (text : List ℕ) → (HasForm text → ⊥) → reading_of text ≡ Err fault.Syntax
reads_nothing text none = by_syntax text (reading_of text) (outcome text) none

by_depth : (text : List ℕ) (r : Answer) → Outcome text r → HasForm text
    → ((paths : List (List (List ℕ))) (t : Tree) → IsRead text paths t → ⊥) → r ≡ Err fault.Depth
by_depth text r (no_tokens f) form none = absurd (f form.tokens form.spelled)
by_depth text r (no_form ts s f) form none = absurd (read_syntax text r (no_form ts s f) refl form)
by_depth text r (deep ts s f w) form none = refl
by_depth text r (many ts u s w l) form none =
    let known = read_operands text r (many ts u s w l) refl in absurd (none known.0 known.1 known.2)
by_depth text r (fine ts u s w l) form none =
    absurd (none (once (paths_in ts)) u (record { tokens = ts; spelled = s; listed = refl; grouped = whole_sound (once (paths_in ts)) ts u w }))

pub reads_too_deep : (text : List ℕ) → HasForm text
    → ((paths : List (List (List ℕ))) (t : Tree) → IsRead text paths t → ⊥) → reading_of text ≡ Err fault.Depth
reads_too_deep text form none = by_depth text (reading_of text) (outcome text) form none

by_count : (text : List ℕ) (r : Answer) → Outcome text r → (paths : List (List (List ℕ))) (t : Tree)
    → IsRead text paths t → 256 < length paths → r ≡ Err fault.Operands
by_count text r (no_tokens f) paths t x long = absurd (f x.tokens x.spelled)
by_count text r (no_form ts s f) paths t x long = absurd (read_syntax text r (no_form ts s f) refl (form_of_read text paths t x))
by_count text r (deep ts s f w) paths t x long = absurd (read_too_deep text r (deep ts s f w) refl paths t x)
by_count text r (many ts u s w l) paths t x long = refl
by_count text r (fine ts u s w l) paths t x long =
    let known : IsRead text (once (paths_in ts)) u = record { tokens = ts; spelled = s; listed = refl; grouped = whole_sound (once (paths_in ts)) ts u w } in
    let same = one_tree text (once (paths_in ts)) paths u t known x in
    absurd (omega (arith, l, long, ap (λ (ps : List (List (List ℕ))). length ps) same.0))

pub reads_too_many : (text : List ℕ) (paths : List (List (List ℕ))) (t : Tree) → IsRead text paths t → 256 < length paths
    → reading_of text ≡ Err fault.Operands
reads_too_many text paths t x long = by_count text (reading_of text) (outcome text) paths t x long

-- the answer of the reader
pub reads_as : (text : List ℕ) (result : Result Parsed ExprError) → IfOk result (λ p. IsRead text p.paths (tree p.expr))
    → IfOk result (λ p. length p.paths ≤ 256) → (result ≡ Err fault.Syntax → HasForm text → ⊥)
    → (result ≡ Err fault.Depth → HasForm text)
    → (result ≡ Err fault.Depth → (paths : List (List (List ℕ))) (t : Tree) → IsRead text paths t → ⊥)
    → (result ≡ Err fault.Operands → (paths : List (List (List ℕ))) × (t : Tree) × IsRead text paths t × (256 < length paths))
    → Reads (reading_of text) result
reads_as text (Ok p) found few syntax depth too_deep operands = reads_whole text p.paths (tree p.expr) found few
reads_as text (Err fault.Syntax) found few syntax depth too_deep operands = reads_nothing text (syntax refl)
reads_as text (Err fault.Depth) found few syntax depth too_deep operands = reads_too_deep text (depth refl) (too_deep refl)
reads_as text (Err fault.Operands) found few syntax depth too_deep operands =
    let known = operands refl in reads_too_many text known.0 known.1 known.2 known.3
reads_as text (Err fault.Memory) found few syntax depth too_deep operands = tt
