-- Which answer a text has, and what it says.
use Rattle.std.proofs.Common.{◌≡◌, ◌<◌, ◌≤◌, ℕ, true, false, List, [], length, refl, ap, sym, ◌∙◌, subst, arith, cond, ltb, Option, None, Some, Result, Ok, Err}
use Rattle.std.proofs.lemmas.Bool.Decides.{Decides-ltb, nat_tests}
use Rattle.std.specs.Result.{IfOk}
use Rattle.std.specs.Bool.{IsTrue}
use Rattle.fx_expr.specs.declared.tokens.Token.{Token}
use Rattle.fx_expr.specs.declared.tree.Parsed.{Parsed}
use Rattle.fx_expr.specs.declared.reading.ExprError.{ExprError}
use Rattle.fx_expr.specs.declared.reading.ExprError.TheVariants as fault
use Rattle.fx_expr.specs.Tree.{Tree, tree, is_within}
use Rattle.fx_expr.specs.Operands.{paths_in, once}
use Rattle.fx_expr.specs.Spelling.{IsSpelled}
use Rattle.fx_expr.specs.Scanning.{tokens_of, after_white}
use Rattle.fx_expr.specs.Grammar.{Spells}
use Rattle.fx_expr.specs.Form.{has_form}
use Rattle.fx_expr.specs.Reading.{whole_of, IsRead, HasForm, IsThat, counted, nested, formed, reading_of, IsAnswer}
use Rattle.fx_expr.proofs.OperandLemmas.{once_lists}
use Rattle.fx_expr.proofs.GrammarLemmas.{whole_sound, whole_complete, any_paths, spelled_within}
use Rattle.fx_expr.proofs.FormLemmas.{form_of_spelled, spelled_of_form}
use Rattle.fx_expr.proofs.WordLemmas.{spelled_sound, spelled_complete}

abbrev pub Found : Type 0
Found = Tree × List (List (List ℕ))

abbrev pub found_at : Tree → List (List (List ℕ)) → Found
found_at t ps = (t, ps)

abbrev some_tokens : List Token → Option (List Token)
some_tokens ts = Some ts

abbrev some_tree : Tree → Option Tree
some_tree t = Some t

one_spelling : (text : List ℕ) (ts us : List Token) → IsSpelled text ts → IsSpelled text us → ts ≡ us
one_spelling text ts us s r = let e : some_tokens ts ≡ some_tokens us = sym (spelled_complete text ts s) ∙ spelled_complete text us r in cc

-- the ways that a text can be read
pub data Outcome (text : List ℕ) : Result Found ExprError → Type 0 where
  no_tokens : ((ts : List Token) → IsSpelled text ts → ⊥) → Outcome text (Err fault.Syntax)
  no_form : (ts : List Token) → IsSpelled text ts → has_form true 0 ts ≡ false → Outcome text (Err fault.Syntax)
  deep : (ts : List Token) → IsSpelled text ts → has_form true 0 ts ≡ true → whole_of (once (paths_in ts)) ts ≡ None → Outcome text (Err fault.Depth)
  many : (ts : List Token) (t : Tree) → IsSpelled text ts → whole_of (once (paths_in ts)) ts ≡ Some t → 256 < length (once (paths_in ts)) → Outcome text (Err fault.Operands)
  fine : (ts : List Token) (t : Tree) → IsSpelled text ts → whole_of (once (paths_in ts)) ts ≡ Some t → length (once (paths_in ts)) ≤ 256 → Outcome text (Ok (found_at t (once (paths_in ts))))

counted_outcome : (text : List ℕ) (ts : List Token) (t : Tree) → IsSpelled text ts → whole_of (once (paths_in ts)) ts ≡ Some t → Outcome text (counted t (once (paths_in ts)))
counted_outcome text ts t s w = (elim (ltb 256 (length (once (paths_in ts)))) as (λ b. ltb 256 (length (once (paths_in ts))) ≡ b → Outcome text (cond b (Err fault.Operands) (Ok (found_at t (once (paths_in ts)))))) [
  | true ↦ λ e. many ts t s w ((Decides-ltb 256 (length (once (paths_in ts)))).0 e)
  | false ↦ λ e. fine ts t s w (not_below 256 (length (once (paths_in ts))) e)
]) refl
  where
    not_below : (m n : ℕ) → ltb m n ≡ false → n ≤ m
    not_below m n e = grind (arith, nat_tests)

nested_outcome : (text : List ℕ) (ts : List Token) → IsSpelled text ts → has_form true 0 ts ≡ true → (o : Option Tree) → whole_of (once (paths_in ts)) ts ≡ o → Outcome text (nested o (once (paths_in ts)))
nested_outcome text ts s f None w = deep ts s f w
nested_outcome text ts s f (Some t) w = counted_outcome text ts t s w

formed_outcome : (text : List ℕ) (o : Option (List Token)) → tokens_of (length text) (after_white text) ≡ o → Outcome text (formed o)
formed_outcome text None e = no_tokens (λ ts s. let no : None ≡ some_tokens ts = sym e ∙ spelled_complete text ts s in cc)
formed_outcome text (Some ts) e = (elim (has_form true 0 ts) as (λ b. has_form true 0 ts ≡ b → Outcome text (cond b (nested (whole_of (once (paths_in ts)) ts) (once (paths_in ts))) (Err fault.Syntax))) [
  | true ↦ λ f. nested_outcome text ts (spelled_sound text ts e) f (whole_of (once (paths_in ts)) ts) refl
  | false ↦ λ f. no_form ts (spelled_sound text ts e) f
]) refl

pub outcome : (text : List ℕ) → Outcome text (reading_of text)
unfolding reading_of
outcome text = formed_outcome text (tokens_of (length text) (after_white text)) refl

-- what is read, where the answer is Ok
pub read_found : (text : List ℕ) (r : Result Found ExprError) (result : Result Parsed ExprError) → Outcome text r → IsAnswer r result → IfOk result (λ p. IsRead text p.paths (tree p.expr))
read_found text r (Err e) o a = tt
read_found text r (Ok p) (no_tokens f) a = absurd a
read_found text r (Ok p) (no_form ts s f) a = absurd a
read_found text r (Ok p) (deep ts s f w) a = absurd a
read_found text r (Ok p) (many ts t s w l) a = absurd a
read_found text r (Ok p) (fine ts t s w l) a =
    let known : IsRead text (once (paths_in ts)) t = record { tokens = ts; spelled = s; listed = refl; grouped = whole_sound (once (paths_in ts)) ts t w } in
    subst (λ q. IsRead text p.paths q) (sym a.0) (subst (λ q. IsRead text q t) (sym a.1) known)

pub read_few : (text : List ℕ) (r : Result Found ExprError) (result : Result Parsed ExprError) → Outcome text r → IsAnswer r result → IfOk result (λ p. length p.paths ≤ 256)
read_few text r (Err e) o a = tt
read_few text r (Ok p) (no_tokens f) a = absurd a
read_few text r (Ok p) (no_form ts s f) a = absurd a
read_few text r (Ok p) (deep ts s f w) a = absurd a
read_few text r (Ok p) (many ts t s w l) a = absurd a
read_few text r (Ok p) (fine ts t s w l) a = subst (λ q. length q ≤ 256) (sym a.1) l

pub read_within : (text : List ℕ) (r : Result Found ExprError) (result : Result Parsed ExprError) → Outcome text r → IsAnswer r result → IfOk result (λ p. IsTrue (is_within (tree p.expr) (length p.paths)))
read_within text r (Err e) o a = tt
read_within text r (Ok p) (no_tokens f) a = absurd a
read_within text r (Ok p) (no_form ts s f) a = absurd a
read_within text r (Ok p) (deep ts s f w) a = absurd a
read_within text r (Ok p) (many ts t s w l) a = absurd a
read_within text r (Ok p) (fine ts t s w l) a =
    let known : is_within t (length (once (paths_in ts))) ≡ true = spelled_within (once (paths_in ts)) 32 6 ts t (whole_sound (once (paths_in ts)) ts t w) (once_lists (paths_in ts)) in
    subst (λ q. is_within q (length p.paths) ≡ true) (sym a.0) (subst (λ q. is_within t (length q) ≡ true) (sym a.1) known)

read_whole : (text : List ℕ) (ts : List Token) (paths : List (List (List ℕ))) (t : Tree) → IsSpelled text ts → IsRead text paths t → (whole_of (once (paths_in ts)) ts ≡ Some t) × (once (paths_in ts) ≡ paths)
read_whole text ts paths t s r =
    let same : r.tokens ≡ ts = one_spelling text r.tokens ts r.spelled s in
    let listed : once (paths_in ts) ≡ paths = ap (λ us. once (paths_in us)) (sym same) ∙ sym r.listed in
    (whole_complete (once (paths_in ts)) ts t (subst (λ us. Spells (once (paths_in ts)) 32 6 us t) same (subst (λ ps. Spells ps 32 6 r.tokens t) (sym listed) r.grouped)), listed)

pub read_only : (text : List ℕ) (r : Result Found ExprError) (result : Result Parsed ExprError) → Outcome text r → IsAnswer r result → (paths : List (List (List ℕ))) (t : Tree) → IsRead text paths t → length paths ≤ 256 → IsThat t paths result
read_only text r (Ok p) (no_tokens f) a paths t x short = absurd a
read_only text r (Ok p) (no_form ts s f) a paths t x short = absurd a
read_only text r (Ok p) (deep ts s f w) a paths t x short = absurd a
read_only text r (Ok p) (many ts u s w l) a paths t x short = absurd a
read_only text r (Ok p) (fine ts u s w l) a paths t x short =
    let known = read_whole text ts paths t s x in
    let same : some_tree u ≡ some_tree t = sym w ∙ known.0 in
    (a.0 ∙ same_tree u t same, a.1 ∙ known.1)
  where
    same_tree : (u t : Tree) → some_tree u ≡ some_tree t → u ≡ t
    same_tree u t e = cc
read_only text r (Err e) (no_tokens f) a paths t x short = absurd (f x.tokens x.spelled)
read_only text r (Err e) (no_form ts s f) a paths t x short =
    let same : x.tokens ≡ ts = one_spelling text x.tokens ts x.spelled s in
    absurd (let yes : has_form true 0 ts ≡ true = form_of_spelled paths 32 ts t (subst (λ us. Spells paths 32 6 us t) same x.grouped) in cc)
read_only text r (Err e) (deep ts s f w) a paths t x short = absurd (let k = (read_whole text ts paths t s x).0 in let no : None ≡ some_tree t = sym w ∙ k in cc)
read_only text r (Err e) (many ts u s w l) a paths t x short = absurd (let k = ap (λ (ps : List (List (List ℕ))). length ps) (read_whole text ts paths t s x).1 in omega (arith, k))
read_only text r (Err e) (fine ts u s w l) a paths t x short = a

-- which refusal it is
pub read_syntax : (text : List ℕ) (r : Result Found ExprError) → Outcome text r → IsAnswer r (Err fault.Syntax) → HasForm text → ⊥
read_syntax text r (no_tokens f) a h = f h.tokens h.spelled
read_syntax text r (no_form ts s f) a h =
    let same : h.tokens ≡ ts = one_spelling text h.tokens ts h.spelled s in
    let yes : has_form true 0 ts ≡ true = form_of_spelled h.paths h.depth ts h.meant (subst (λ us. Spells h.paths h.depth 6 us h.meant) same h.grouped) in cc
read_syntax text r (deep ts s f w) a h = cc
read_syntax text r (many ts t s w l) a h = cc
read_syntax text r (fine ts t s w l) a h = cc

pub read_deep : (text : List ℕ) (r : Result Found ExprError) → Outcome text r → IsAnswer r (Err fault.Depth) → HasForm text
read_deep text r (no_tokens f) a = absurd (cc)
read_deep text r (no_form ts s f) a = absurd (cc)
read_deep text r (deep ts s f w) a = let m = spelled_of_form [] ts f in record { tokens = ts; spelled = s; paths = []; depth = m.0; meant = m.1; grouped = m.2 }
read_deep text r (many ts t s w l) a = absurd (cc)
read_deep text r (fine ts t s w l) a = absurd (cc)

pub read_too_deep : (text : List ℕ) (r : Result Found ExprError) → Outcome text r → IsAnswer r (Err fault.Depth) → (paths : List (List (List ℕ))) (t : Tree) → IsRead text paths t → ⊥
read_too_deep text r (no_tokens f) a paths t x = cc
read_too_deep text r (no_form ts s f) a paths t x = cc
read_too_deep text r (deep ts s f w) a paths t x = let k = (read_whole text ts paths t s x).0 in let no : None ≡ some_tree t = sym w ∙ k in cc
read_too_deep text r (many ts u s w l) a paths t x = cc
read_too_deep text r (fine ts u s w l) a paths t x = cc

pub read_operands : (text : List ℕ) (r : Result Found ExprError) → Outcome text r → IsAnswer r (Err fault.Operands) → (paths : List (List (List ℕ))) × (t : Tree) × IsRead text paths t × (256 < length paths)
read_operands text r (no_tokens f) a = absurd (cc)
read_operands text r (no_form ts s f) a = absurd (cc)
read_operands text r (deep ts s f w) a = absurd (cc)
read_operands text r (many ts t s w l) a = (once (paths_in ts), t, record { tokens = ts; spelled = s; listed = refl; grouped = whole_sound (once (paths_in ts)) ts t w }, l)
read_operands text r (fine ts t s w l) a = absurd (cc)

-- the answers of the reader
nothing_over : (ps qs : List (List (List ℕ))) (ts : List Token) → whole_of ps ts ≡ None → whole_of qs ts ≡ None
nothing_over ps qs ts e = by_other (whole_of qs ts) refl
  where
    by_other : (o : Option Tree) → whole_of qs ts ≡ o → o ≡ None
    by_other None i = refl
    by_other (Some t) i = let y = any_paths qs ps 32 6 ts t (whole_sound qs ts t i) in absurd (let no : None ≡ some_tree y.0 = sym e ∙ whole_complete ps ts y.0 y.1 in cc)

pub refused_deep : (text : List ℕ) (ts : List Token) (ps : List (List (List ℕ))) → tokens_of (length text) (after_white text) ≡ Some ts → has_form true 0 ts ≡ true → whole_of ps ts ≡ None → IsAnswer (reading_of text) (Err fault.Depth)
unfolding reading_of
refused_deep text ts ps e f w = rw (e, f, nothing_over ps (once (paths_in ts)) ts w) refl

pub refused_many : (text : List ℕ) (ts : List Token) (ps : List (List (List ℕ))) (t : Tree) → tokens_of (length text) (after_white text) ≡ Some ts → has_form true 0 ts ≡ true → whole_of ps ts ≡ Some t → 256 < length (once (paths_in ts))
    → IsAnswer (reading_of text) (Err fault.Operands)
unfolding reading_of
refused_many text ts ps t e f w l =
    let y = any_paths ps (once (paths_in ts)) 32 6 ts t (whole_sound ps ts t w) in
    let long : ltb 256 (length (once (paths_in ts))) ≡ true = (Decides-ltb 256 (length (once (paths_in ts)))).1 l in
    rw (e, f, whole_complete (once (paths_in ts)) ts y.0 y.1, long) refl

-- a text reads as one tree over one list of paths
pub one_tree : (text : List ℕ) (ps qs : List (List (List ℕ))) (t u : Tree) → IsRead text ps t → IsRead text qs u → (ps ≡ qs) × (t ≡ u)
one_tree text ps qs t u a b =
    let x = read_whole text a.tokens qs u a.spelled b in
    let y = read_whole text a.tokens ps t a.spelled a in
    (sym y.1 ∙ x.1, same_tree t u (sym y.0 ∙ x.0))
  where
    same_tree : (u t : Tree) → some_tree u ≡ some_tree t → u ≡ t
    same_tree u t e = cc
