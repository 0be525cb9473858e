-- What is read is within the limits, and each value fits its name.
-- Below the public answers.
use Rattle.std.proofs.Common.{◌≡◌, ℕ, zero, suc, ◌+◌, ◌<◌, ◌≤◌, Bool, true, false, cond, List, [], ◌∷◌, ◌++◌, map, length, length-append, take, drop, slice_get, refl, sym, ◌∙◌, ap, subst, arith, Option, Some, None, Result, Ok, Err, IfOk}
use Rattle.std.proofs.lemmas.List.{length-map, length-take}
use Rattle.std.proofs.lemmas.List.Elements.{All-nil, All-cons, All-head, All-tail, All-same}
use Rattle.std.proofs.lemmas.Bool.Decides.{nat_tests}
use Rattle.std.specs.Bool.{nat_le}
use Rattle.std.specs.List.{All, slice_split, flat_map, before_first, after_first, position_or_len}
use Rattle.std.specs.Option.{option_map, option_to_list}
use Rattle.fx_base.specs.declared.positions.Position.{Position}
use Rattle.fx_base.specs.Positions.{start, after_byte}
use Rattle.fx_text.proofs.FrontLemmas.{map_gives}
use Rattle.fx_css_types.specs.declared.declarations.Declaration.{Declaration}
use Rattle.fx_css_types.specs.declared.selectors.Selector.{Selector}
use Rattle.fx_css_types.specs.declared.sheets.Sheet.{Sheet}
use Rattle.fx_css_types.specs.Limits.{IsKeptDeclaration, IsKeptRule, IsWithinLimits}
use Rattle.fx_css_types.specs.Specificity.{part_count}
use Rattle.fx_css_marks.specs.declared.marks.Mark.{Mark}
use Rattle.fx_css_marks.specs.Marks.{quoted, quotation, comment, Marked, Ended, Plain, Comment, OpenComment, Quoted, OpenQuoted, bytes, signs, sign}
use Rattle.fx_css_parts.specs.declared.Selectors.{Selectors}
use Rattle.fx_css_parts.specs.declared.ReadDeclaration.{ReadDeclaration}
use Rattle.fx_css_parts.specs.Declaring.{declaration_in}
use Rattle.fx_css_parts.specs.Limits.{past_in_selectors, past_in_declaration}
use Rattle.fx_css_parts.specs.Selecting.{selectors_in}
use Rattle.fx_css_parts.proofs.Bounds.{selectors_past_within, declaration_past_within, selectors_short, declaration_fits}
use Rattle.fx_css_parts.proofs.DeclarationLaws.{declarations_read}
use Rattle.fx_css_parts.proofs.PastLayerLaws.{layers_tell}
use Rattle.fx_css_parts.proofs.PastSelectorLaws.{selectors_few}
use Rattle.fx_css_parts.proofs.SelectorLaws.{selectors_read}
use Rattle.fx_css.specs.declared.declarations.Kept.{Kept as Entry}
use Rattle.fx_css.specs.declared.errors.SheetError.{SheetError}
use Rattle.fx_css.specs.declared.parts.Numbered.{Numbered}
use Rattle.fx_css.specs.Numbered.{numbered_marks, bytes_of}
use Rattle.fx_css.specs.Pieces.{ends_declaration, first_shown, number_at, judged, shown_piece, piece_from, piece_of, kept, kept_in, past_declarations}
use Rattle.fx_css.specs.Rules.{is_open, is_close, selected, Reading, reading_of, past_rules, Reads, Ended, White, At, Leftover, Kept, Dropped}
use Rattle.fx_css.specs.Cutting.{block_length, at_rule_length}
use Rattle.fx_css.specs.Sheets.{IsSheetText, IsStyleText}
use Rattle.fx_css.proofs.Blocks.{block_only, at_only}
use Rattle.fx_css.proofs.NumberedLemmas.{length_numbered}
use Rattle.fx_css.proofs.Turns.{dropped_le}

-- lists in which nothing stands

none_both : {X : Type 0} (xs ys : List X) → xs ++ ys ≡ [] → (xs ≡ []) × (ys ≡ [])
none_both [] ys e = (refl, e)
none_both (x ∷ xs) ys e = absurd (cc)

none_of : {X : Type 0} (o : Option X) → option_to_list o ≡ [] → o ≡ None
none_of None e = refl
none_of (Some x) e = absurd (cc)

none_past : (n most first : ℕ) (b : Bool) → nat_le most n ≡ b → cond b (first ∷ []) [] ≡ [] → n < most
none_past n most first true h e = absurd (cc)
none_past n most first false h e = grind (arith, nat_tests, h)

none_mapped : {X Y : Type 0} (f : X → Y) (xs : List X) → [] ≡ map f xs → xs ≡ []
none_mapped f [] e = refl
none_mapped f (x ∷ xs) e = absurd (cc)

-- a place that no mark has is behind them

get_within : (ms : List Numbered) (i : ℕ) → i < length ms → option_map (λ (m : Numbered). m.number) (slice_get ms i) ≡ None → ⊥
get_within [] i l e = omega arith
get_within (m ∷ ms) zero l e = cc
get_within (m ∷ ms) (suc i) l e = get_within ms i (omega arith) e

none_within : (ms : List Numbered) (o : Option ℕ) → ((i : ℕ) → o ≡ Some i → i < length (bytes_of ms)) → number_at ms o ≡ None → o ≡ None
none_within ms None h e = refl
none_within ms (Some i) h e =
    let l : i < length (bytes_of ms) = h i refl in
    let same : length (bytes_of ms) ≡ length ms = length-map ms (λ (m : Numbered). m.byte) in
    absurd (get_within ms i (omega (arith, l, same)) e)

-- a declaration that is kept

abbrev IsGood : Entry → Type 0
IsGood k = k.past ≡ None → IsKeptDeclaration k.declaration

judged_good : (ms : List Numbered) (d : ReadDeclaration) → judged ms ≡ Some d → number_at ms d.past ≡ None → IsKeptDeclaration d.declaration
unfolding judged
judged_good ms d e past =
    let text : List ℕ = bytes_of ms in
    let h = map_gives (λ (x : Declaration). let r : ReadDeclaration = record { declaration = x; past = past_in_declaration text } in r) (declaration_in text) d e in
    let same : past_in_declaration text ≡ d.past = ap (λ (r : ReadDeclaration). r.past) h.2 in
    let none : d.past ≡ None = none_within ms d.past (λ i f. declaration_past_within text i (same ∙ f)) past in
    let spelled = declarations_read.sound text h.0 h.1 in
    subst IsKeptDeclaration (ap (λ (r : ReadDeclaration). r.declaration) h.2) (record {
      row = spelled.is_row;
      layers = (layers_tell text h.0 h.1).0 (same ∙ none);
      fits = declaration_fits text h.0 spelled;
    })

piece_good : (ms : List Numbered) (first : ℕ) (o : Option ReadDeclaration) → judged ms ≡ o → All IsGood (kept (shown_piece ms first o))
piece_good ms first None e = All-nil IsGood
piece_good ms first (Some d) e = All-cons IsGood _ [] (λ past. judged_good ms d e past) (All-nil IsGood)

pieces_good : (ms : List Numbered) (o : Option ℕ) → All IsGood (kept (piece_from ms o))
pieces_good ms None = All-nil IsGood
pieces_good ms (Some first) = piece_good ms first (judged ms) refl

all_both : {X : Type 0} (P : X → Type 0) (xs ys : List X) → All P xs → All P ys → All P (xs ++ ys)
all_both P [] ys a b = b
all_both P (x ∷ xs) ys a b = All-cons P x (xs ++ ys) (All-head P x xs a) (all_both P xs ys (All-tail P x xs a) b)

all_pieces : (parts : List (List Numbered)) → All IsGood (flat_map (λ ms. kept (piece_of ms)) parts)
unfolding piece_of
all_pieces [] = All-nil IsGood
all_pieces (ms ∷ parts) = all_both IsGood (kept (piece_of ms)) (flat_map (λ ms. kept (piece_of ms)) parts) (pieces_good ms (first_shown ms)) (all_pieces parts)

all_kept : (ks : List Entry) (n : ℕ) → n ≤ 256 → past_declarations n ks ≡ [] → All IsGood ks → (n + length ks ≤ 256) × All IsKeptDeclaration (map (λ k. k.declaration) ks)
all_kept [] n l e good = (omega arith, All-nil IsKeptDeclaration)
all_kept (k ∷ ks) n l e good =
    let outer = none_both (cond (nat_le 256 n) (k.start ∷ []) []) (option_to_list k.past ++ past_declarations (suc n) ks) e in
    let inner = none_both (option_to_list k.past) (past_declarations (suc n) ks) outer.1 in
    let fits : n < 256 = none_past n 256 k.start (nat_le 256 n) refl outer.0 in
    let rest = all_kept ks (suc n) (omega arith) inner.1 (All-tail IsGood k ks good) in
    let few = rest.0 in
    (omega (arith, few), All-cons IsKeptDeclaration k.declaration (map (λ k. k.declaration) ks) (All-head IsGood k ks good (none_of k.past inner.0)) rest.1)

body_kept : (body : List Numbered) → past_declarations 0 (kept_in body) ≡ [] → (length (kept_in body) ≤ 256) × All IsKeptDeclaration (map (λ k. k.declaration) (kept_in body))
unfolding kept_in
body_kept body e =
    let all = all_kept (kept_in body) 0 (omega arith) e (all_pieces (slice_split ends_declaration body)) in
    let few = all.0 in
    (omega (arith, few), all.1)

-- a rule that is kept

rule_kept : (first : ℕ) (heading : List Numbered) (s : Selectors) (body : List Numbered) → selected heading ≡ Some s → length heading ≤ 4194304
    → (reading_of first heading s body).past ≡ [] → IsKeptRule (reading_of first heading s body).rule
unfolding reading_of selected
rule_kept first heading s body e l past =
    let text : List ℕ = bytes_of heading in
    let h = map_gives (λ (ss : List Selector). let r : Selectors = record { selectors = ss; past = past_in_selectors text } in r) (selectors_in text) s e in
    let spelled = selectors_read.sound text h.0 h.1 in
    let parts = none_both (option_to_list (number_at heading s.past)) (past_declarations 0 (kept_in body)) past in
    let same : past_in_selectors text ≡ s.past = ap (λ (r : Selectors). r.past) h.2 in
    let none : s.past ≡ None = none_within heading s.past (λ i f. selectors_past_within text i (same ∙ f)) (none_of (number_at heading s.past) parts.0) in
    let are : h.0 ≡ s.selectors = ap (λ (r : Selectors). r.selectors) h.2 in
    let length_is : length text ≡ length heading = length-map heading (λ (m : Numbered). m.byte) in
    let short = selectors_short text h.0 4194304 spelled (omega (arith, l, length_is)) in
    let declared = body_kept body parts.1 in
    let few = declared.0 in
    let count = length-map (kept_in body) (λ k. k.declaration) in
    record {
      few = let few = selectors_few text h.0 spelled (same ∙ none) in
          (let most = few.0 in subst (λ (ss : List Selector). length ss ≤ 64) are most, subst (λ (ss : List Selector). All (λ (s : Selector). length s.compounds ≤ 16) ss) are few.1);
      short = subst (λ (ss : List Selector). All (λ (s : Selector). part_count s ≤ 4194304) ss) are short;
      declarations = omega (arith, few, count);
      each = declared.1;
    }

-- rules that are kept

taken_le : {X : Type 0} (n : ℕ) (xs : List X) → length (take n xs) ≤ length xs
taken_le n xs = let e = length-take n xs in grind (arith, e)

abbrev AreKept : ℕ → List Reading → Type 0
AreKept n rs = n ≤ 4096 → past_rules n rs ≡ [] → (n + length rs ≤ 4096) × All IsKeptRule (map (λ r. r.rule) rs)

more_kept : (n : ℕ) (r : Reading) (rs : List Reading) → (r.past ≡ [] → IsKeptRule r.rule) → ((k : ℕ) → AreKept k rs) → AreKept n (r ∷ rs)
more_kept n r rs here rest l e =
    let outer = none_both (cond (nat_le 4096 n) (r.start ∷ []) []) (r.past ++ past_rules (suc n) rs) e in
    let inner = none_both r.past (past_rules (suc n) rs) outer.1 in
    let fits : n < 4096 = none_past n 4096 r.start (nat_le 4096 n) refl outer.0 in
    let more = rest (suc n) (omega arith) inner.1 in
    let few = more.0 in
    (omega (arith, few), All-cons IsKeptRule r.rule (map (λ r. r.rule) rs) (here inner.0) more.1)

none_kept : (n : ℕ) → AreKept n []
none_kept n l e = (omega arith, All-nil IsKeptRule)

rules_kept : {ms : List Numbered} {rs : List Reading} {ws : List ℕ} → Reads ms rs ws → length ms ≤ 4194304 → (n : ℕ) → AreKept n rs
rules_kept Ended l n = none_kept n
rules_kept (White m e r) l n = rules_kept r (omega arith) n
rules_kept (At {ms = ms} m rest e f a r) l n =
    let k = dropped_le (at_rule_length ms) ms in
    let same : length rest ≡ length (drop (at_rule_length ms) ms) = ap length (at_only a) in
    rules_kept r (omega (arith, k, same)) n
rules_kept (Leftover m e f g) l n = none_kept n
rules_kept (Kept {ms = ms} {rs = rs} m s e f g h r) l n =
    let heading : List Numbered = before_first is_open (m ∷ ms) in
    let behind : List Numbered = after_first is_open (m ∷ ms) in
    let short = taken_le (position_or_len is_open (m ∷ ms)) (m ∷ ms) in
    let first = dropped_le (position_or_len is_open (m ∷ ms) + 1) (m ∷ ms) in
    let then = dropped_le (position_or_len is_close behind + 1) behind in
    more_kept n (reading_of m.number heading s (before_first is_close behind)) rs
    (λ past. rule_kept m.number heading s (before_first is_close behind) h (omega (arith, l, short)) past)
    (λ k. rules_kept r (omega (arith, l, first, then)) k)
rules_kept (Dropped {ms = ms} m rest e f g h b r) l n =
    let behind : List Numbered = after_first is_open (m ∷ ms) in
    let first = dropped_le (position_or_len is_open (m ∷ ms) + 1) (m ∷ ms) in
    let then = dropped_le (block_length 0 behind) behind in
    let same : length rest ≡ length (drop (block_length 0 behind) behind) = ap length (block_only b) in
    rules_kept r (omega (arith, l, first, then, same)) n

-- a text has no more marks than bytes

quoted_count : (p : Position) (x : List ℕ) → length (quoted p x) ≡ length x
quoted_count p [] = refl
quoted_count p (c ∷ x) = ap suc (quoted_count (after_byte p c) x)

marks_few : {p : Position} {text : List ℕ} {ms : List Mark} → Marked p text ms → length ms ≤ length text
marks_few Ended = omega arith
marks_few (Plain b e f m) = let h = marks_few m in omega (arith, h)
marks_few (Comment inside rest e f m) =
    let h = marks_few m in
    let all = ap length e ∙ length-append (comment inside) rest in
    omega (arith, h, all)
marks_few (OpenComment inside e f) = let all = ap length e in omega (arith, all)
marks_few (Quoted {p = p} {ms = ms} q inside rest k e f m) =
    let h = marks_few m in
    let all = ap length e ∙ length-append (quotation q inside) rest in
    let parts = length-append (quoted p (quotation q inside)) ms in
    let count = quoted_count p (quotation q inside) in
    omega (arith, h, all, parts, count)
marks_few (OpenQuoted {p = p} {bs = bs} q inside k e f) = let count = quoted_count p bs in omega (arith, count)

numbers_few : (p : Position) (text : List ℕ) (ms : List Mark) → Marked p text ms → length (numbered_marks ms) ≤ length text
numbers_few p text ms m =
    let few = marks_few m in
    let b = length-map ms (λ (m : Mark). m.byte) in
    let s = length-map ms sign in
    let count = length_numbered 0 (bytes ms) (signs ms) (b ∙ sym s) in
    omega (arith, few, b, count)

-- sheets and styles

sheet_within : (file : ℕ) (text : List ℕ) (sheet : Sheet) → length text ≤ 4194304 → IsSheetText file text sheet.rules sheet.warnings [] → IsWithinLimits sheet
sheet_within file text sheet l t =
    let few = numbers_few start text t.marks t.marked in
    let kept = rules_kept t.reads (omega (arith, few, l)) 0 (omega arith) (none_mapped _ (past_rules 0 t.readings) t.are_past) in
    let most = kept.0 in
    let count = length-map t.readings (λ r. r.rule) in
    let same : length sheet.rules ≡ length (map (λ r. r.rule) t.readings) = ap length t.are_rules in
    record { rules = omega (arith, most, count, same); each = All-same IsKeptRule sheet.rules (map (λ r. r.rule) t.readings) t.are_rules kept.1 }

style_within : (text : List ℕ) (sheet : Sheet) → IsStyleText text sheet.rules sheet.warnings [] → IsWithinLimits sheet
style_within text sheet t =
    let body : List Numbered = numbered_marks t.marks in
    let declared = body_kept body (none_mapped _ (past_declarations 0 (kept_in body)) t.are_past) in
    let few = declared.0 in
    let count = length-map (kept_in body) (λ k. k.declaration) in
    let one : length sheet.rules ≡ 1 = ap length t.are_rules in
    record {
      rules = omega (arith, one);
      each = All-same IsKeptRule sheet.rules _ t.are_rules (All-cons IsKeptRule _ []
          (record {
            few = (omega arith, All-nil (λ (s : Selector). length s.compounds ≤ 16));
            short = All-nil (λ (s : Selector). part_count s ≤ 4194304);
            declarations = omega (arith, few, count);
            each = declared.1;
          })
          (All-nil IsKeptRule));
    }

pub sheet_kept : (file : ℕ) (text : List ℕ) (r : Result Sheet SheetError) → length text ≤ 4194304 → IfOk r (λ sheet. IsSheetText file text sheet.rules sheet.warnings []) → IfOk r (λ sheet. IsWithinLimits sheet)
sheet_kept file text (Ok sheet) l t = sheet_within file text sheet l t
sheet_kept file text (Err e) l t = tt

pub style_kept : (text : List ℕ) (r : Result Sheet SheetError) → IfOk r (λ sheet. IsStyleText text sheet.rules sheet.warnings []) → IfOk r (λ sheet. IsWithinLimits sheet)
style_kept text (Ok sheet) t = style_within text sheet t
style_kept text (Err e) t = tt
