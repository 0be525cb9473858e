-- A sheet of a run is read in one way, and so are all of them.
use Rattle.std.proofs.Common.{◌≡◌, ◌∙◌, ℕ, ◌+◌, List, [], ◌∷◌, take, refl, sym, ap, subst, inl, inr, Result, Ok, Err}
use Rattle.std.specs.Str.{chars}
use Rattle.std.proofs.lemmas.Str.{utf8_valid_len-IsValidUpTo}
use Rattle.fx_base.specs.Positions.{after_all, start}
use Rattle.fx_base.specs.declared.positions.Position.{Position}
use Rattle.fx_css.proofs.OneReading.{one_text}
use Rattle.fx_css_laws.proofs.Readings.{sheet_apart, sheet_place}
use Rattle.fx_css_types.specs.declared.sheets.Sheet.{Sheet}
use Rattle.fx_load_parts.specs.Faults.{Fault, fault_at}
use Rattle.fx_load_parts.specs.Files.{fetched}
use Rattle.fx_load_parts.specs.Sheets.{AreSheetsFrom, IsSheetIn, IsSheetOfBytes, IsSheetOfText, later_refused, no_sheet, one_refused, one_sheet}
use Rattle.fx_port.specs.Files.{Files}
use Rattle.fx_scene_flaws.specs.declared.flaws.FaultKind.TheVariants.{Flawed, NotUtf8}
use Rattle.fx_scene_flaws.specs.declared.flaws.Flaw.TheVariants.{Limit}
use Rattle.fx_plain_laws.proofs.SlotLemmas.{first_or, nothing_there, others_of}
use Rattle.fx_plain_laws.proofs.AnswerLemmas.{both_err, both_ok, ok_err}

text_one : (file : ℕ) (name bytes : List ℕ) (answer other : Result Sheet Fault) → IsSheetOfText file name bytes answer
    → IsSheetOfText file name bytes other → answer ≡ other
text_one file name bytes (Ok sheet) (Ok also) one other =
    let same = one_text file bytes sheet.rules also.rules sheet.warnings also.warnings [] [] one.1 other.1 in
    ap Ok (λ i. record { rules = same.0 i; warnings = same.1 i })
text_one file name bytes (Ok sheet) (Err fault) one (inl bad) = absurd (bad.bad one.0)
text_one file name bytes (Ok sheet) (Err fault) one (inr past) =
    absurd (sheet_apart file bytes past.position (sheet.rules, sheet.warnings, one.1) past.past)
text_one file name bytes (Err fault) (Ok sheet) (inl bad) one = absurd (bad.bad one.0)
text_one file name bytes (Err fault) (Ok sheet) (inr past) one =
    absurd (sheet_apart file bytes past.position (sheet.rules, sheet.warnings, one.1) past.past)
text_one file name bytes (Err fault) (Err other) (inl bad) (inl also) =
    let count : bad.count ≡ also.count =
    sym (utf8_valid_len-IsValidUpTo bytes bad.count bad.valid) ∙ utf8_valid_len-IsValidUpTo bytes also.count also.valid in
    ap Err (bad.told ∙ (ap (λ (n : ℕ). fault_at NotUtf8 name (after_all start (chars (take n bytes)))) count ∙ sym also.told))
text_one file name bytes (Err fault) (Err other) (inl bad) (inr past) = absurd (bad.bad past.utf8)
text_one file name bytes (Err fault) (Err other) (inr past) (inl bad) = absurd (bad.bad past.utf8)
text_one file name bytes (Err fault) (Err other) (inr past) (inr also) =
    let place : past.position ≡ also.position =
    sheet_place file bytes past.position also.position past.past also.past in
    ap Err (past.told ∙ (ap (λ (p : Position). fault_at (Flawed Limit) name p) place ∙ sym also.told))

bytes_one : (file : ℕ) (name : List ℕ) (bytes : Result (List ℕ) Fault) (answer other : Result Sheet Fault)
    → IsSheetOfBytes file name bytes answer → IsSheetOfBytes file name bytes other → answer ≡ other
bytes_one file name (Ok bytes) answer other one also = text_one file name bytes answer other one also
bytes_one file name (Err fault) answer other one also = one ∙ sym also

pub sheet_one : (files : Files) (file : ℕ) (name : List ℕ) (answer other : Result Sheet Fault)
    → IsSheetIn files file name answer → IsSheetIn files file name other → answer ≡ other
sheet_one files file name answer other one also = bytes_one file name (fetched files file name) answer other one also

-- the same, of two files that are one
sheet_there : (files : Files) (file number : ℕ) (name title : List ℕ) (answer other : Result Sheet Fault) → file ≡ number
    → name ≡ title → IsSheetIn files file name answer → IsSheetIn files number title other → answer ≡ other
sheet_there files file number name title answer other place called one also =
    sheet_one files file name answer other one
    (subst (λ (at : ℕ × List ℕ). IsSheetIn files at.0 at.1 other) (λ i. (sym place i, sym called i)) also)

pub sheets_one : (files : Files) (file number : ℕ) (names others : List (List ℕ)) (answer reply : Result (List Sheet) Fault)
    (one : AreSheetsFrom files file names answer) (other : AreSheetsFrom files number others reply) → file ≡ number
    → names ≡ others → answer ≡ reply
sheets_one files file number names others answer reply (no_sheet f) (no_sheet g) at all = refl
sheets_one files file number names others answer reply (no_sheet f) (one_refused g m ms flaw is) at all =
    absurd (nothing_there m ms all)
sheets_one files file number names others answer reply (no_sheet f) (one_sheet g m ms sheet more is read) at all =
    absurd (nothing_there m ms all)
sheets_one files file number names others answer reply (no_sheet f) (later_refused g m ms sheet flaw is read) at all =
    absurd (nothing_there m ms all)
sheets_one files file number names others answer reply (one_refused f n ns fault is) (no_sheet g) at all =
    absurd (nothing_there n ns (sym all))
sheets_one files file number names others answer reply (one_refused f n ns fault is) (one_refused g m ms flaw also) at all =
    ap Err (both_err fault flaw (sheet_there files f g n m (Err fault) (Err flaw) at (ap (first_or n) all) is also))
sheets_one files file number names others answer reply (one_refused f n ns fault is) (one_sheet g m ms sheet more also read) at all =
    absurd (ok_err sheet fault (sym (sheet_there files f g n m (Err fault) (Ok sheet) at (ap (first_or n) all) is also)))
sheets_one files file number names others answer reply (one_refused f n ns fault is) (later_refused g m ms sheet flaw also read)
    at all =
    absurd (ok_err sheet fault (sym (sheet_there files f g n m (Err fault) (Ok sheet) at (ap (first_or n) all) is also)))
sheets_one files file number names others answer reply (one_sheet f n ns sheet more is read) (no_sheet g) at all =
    absurd (nothing_there n ns (sym all))
sheets_one files file number names others answer reply (one_sheet f n ns sheet more is read) (one_refused g m ms flaw also) at all =
    absurd (ok_err sheet flaw (sheet_there files f g n m (Ok sheet) (Err flaw) at (ap (first_or n) all) is also))
sheets_one files file number names others answer reply (one_sheet f n ns sheet more is read) (one_sheet g m ms page rest also reads)
    at all =
    let first : sheet ≡ page = both_ok sheet page (sheet_there files f g n m (Ok sheet) (Ok page) at (ap (first_or n) all) is also) in
    let later : more ≡ rest =
    both_ok more rest (sheets_one files (f + 1) (g + 1) ns ms (Ok more) (Ok rest) read reads (ap (λ (k : ℕ). k + 1) at) (ap others_of all)) in
    λ i. Ok (first i ∷ later i)
sheets_one files file number names others answer reply (one_sheet f n ns sheet more is read)
    (later_refused g m ms page flaw also reads) at all =
    absurd (ok_err more flaw
    (sheets_one files (f + 1) (g + 1) ns ms (Ok more) (Err flaw) read reads (ap (λ (k : ℕ). k + 1) at) (ap others_of all)))
sheets_one files file number names others answer reply (later_refused f n ns sheet fault is read) (no_sheet g) at all =
    absurd (nothing_there n ns (sym all))
sheets_one files file number names others answer reply (later_refused f n ns sheet fault is read) (one_refused g m ms flaw also) at all =
    absurd (ok_err sheet flaw (sheet_there files f g n m (Ok sheet) (Err flaw) at (ap (first_or n) all) is also))
sheets_one files file number names others answer reply (later_refused f n ns sheet fault is read)
    (one_sheet g m ms page rest also reads) at all =
    absurd (ok_err rest fault
    (sym (sheets_one files (f + 1) (g + 1) ns ms (Err fault) (Ok rest) read reads (ap (λ (k : ℕ). k + 1) at) (ap others_of all))))
sheets_one files file number names others answer reply (later_refused f n ns sheet fault is read)
    (later_refused g m ms page flaw also reads) at all =
    ap Err (both_err fault flaw
    (sheets_one files (f + 1) (g + 1) ns ms (Err fault) (Err flaw) read reads (ap (λ (k : ℕ). k + 1) at) (ap others_of all)))
