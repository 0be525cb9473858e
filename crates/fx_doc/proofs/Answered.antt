-- The answer on bytes, from that on their characters.
-- Below the answers on `read_document`.
use Rattle.std.proofs.Common.{◌≡◌, ℕ, true, false, cond, List, [], ◌∷◌, ◌++◌, length, refl, sym, ◌∙◌, ap, subst, append-nil, arith, Result, Ok, Err, suc, IfOk, IfErr, OnOk, ◌&&◌}
use lib.Dec.{eqb}
use lib.Utf8.{encode, scalar}
use Rattle.std.specs.Str.{chars, IsUtf8}
use Rattle.std.proofs.lemmas.Str.{chars-append, chars-encodes, IsUtf8-encode}
use Rattle.fx_doc_grammar.specs.Grammar.{Spells}
use Rattle.fx_doc_grammar.specs.Beginnings.{IsWithinLimits}
use Rattle.fx_doc_grammar.specs.Verdicts.{Verdict, Reads, Stops, Deep, Long as TooLong, IsVerdict}
use Rattle.fx_doc_grammar.proofs.Verdicts.{one_verdict}
use Rattle.fx_doc_runs.specs.Views.{reading}
use Rattle.fx_doc.specs.Reads.{IsRead, HasFault, IsGiven, IsRefused, IsAnswer}
use Rattle.fx_doc.specs.Judgements.{Tells}
use Rattle.fx_doc_grammar.specs.Judgements.{NoText, Judged, judgement, unmarked, document_text}
use Rattle.fx_doc_grammar.proofs.JudgementLemmas.{one_judgement}
use Rattle.fx_doc_runs.specs.declared.document.Document.{Document}
use Rattle.fx_doc_runs.specs.declared.document.DocError.{DocError}
use Rattle.fx_doc_runs.specs.declared.document.DocError.TheVariants.{NotUtf8, Markup, Depth, Long, Memory}

pub chars_first : (c : ℕ) (text rest : List ℕ) → scalar c ≡ true → text ≡ encode c ++ rest → chars text ≡ c ∷ chars rest
chars_first c text rest s e =
    let one : chars (encode c ++ []) ≡ c ∷ [] = chars-encodes (c ∷ []) (ap (λ y. y && true) s) in
    ap chars e ∙ (chars-append (encode c) rest (IsUtf8-encode c s) ∙ ap (λ y. y ++ chars rest) (ap chars (sym (append-nil (encode c))) ∙ one))

pub marked : (c : ℕ) (text rest : List ℕ) → scalar c ≡ true → text ≡ encode c ++ rest → eqb c 65279 ≡ true → chars rest ≡ unmarked (chars text)
marked c text rest s e m = ap (λ b. cond b (chars rest) (c ∷ chars rest)) (sym m) ∙ ap unmarked (sym (chars_first c text rest s e))

pub not_marked : (c : ℕ) (text rest : List ℕ) → scalar c ≡ true → text ≡ encode c ++ rest → eqb c 65279 ≡ false → chars text ≡ unmarked (chars text)
not_marked c text rest s e m = chars_first c text rest s e ∙ (ap (λ b. cond b (chars rest) (c ∷ chars rest)) (sym m) ∙ ap unmarked (sym (chars_first c text rest s e)))

no_text : (text : List ℕ) → length text ≡ 0 → text ≡ []
no_text [] e = refl
no_text (c ∷ text) e = absurd (let h : suc (length text) ≡ 0 = e in omega arith)

-- from an answer on the characters to one on the bytes
pub on_bytes : (bytes cs : List ℕ) (r : Result Document DocError) → cs ≡ document_text bytes → IsUtf8 bytes → IsRead cs r → IsAnswer bytes r
on_bytes bytes cs (Ok d) e u x = (u, subst (λ y. Spells y (reading d)) e x.0, subst IsWithinLimits e x.1)
on_bytes bytes cs (Err (Markup position)) e u x = (u, subst (λ y. IsRead y (Err (Markup position))) e x)
on_bytes bytes cs (Err (Depth position)) e u x = (u, subst (λ y. IsRead y (Err (Depth position))) e x)
on_bytes bytes cs (Err (Long position)) e u x = (u, subst (λ y. IsRead y (Err (Long position))) e x)
on_bytes bytes cs (Err (NotUtf8 n)) e u x = absurd x
on_bytes bytes cs (Err Memory) e u x = tt

pub read_by : (bytes : List ℕ) (r : Result Document DocError) → IsAnswer bytes r → IfOk r (λ d. Spells (document_text bytes) (reading d))
read_by bytes (Ok d) x = x.1
read_by bytes (Err e) x = tt

pub within_by : (bytes : List ℕ) (r : Result Document DocError) → IsAnswer bytes r → OnOk r (IsUtf8 bytes × IsWithinLimits (document_text bytes))
within_by bytes (Ok d) x = (x.0, x.2)
within_by bytes (Err e) x = tt

pub fault_by : (bytes : List ℕ) (r : Result Document DocError) → IsAnswer bytes r → IfErr r (HasFault bytes)
fault_by bytes (Ok d) x = tt
fault_by bytes (Err e) x = x

pub exact_by : (bytes : List ℕ) (r : Result Document DocError) → IsAnswer bytes r → (v : Verdict) → IsUtf8 bytes → IsVerdict (document_text bytes) v → IsGiven v r
exact_by bytes (Ok d) x v u y = one_verdict (document_text bytes) v (Reads (reading d)) y (x.1, x.2)
exact_by bytes (Err (NotUtf8 k)) x v u y = x.0 u
exact_by bytes (Err (Markup position)) x v u y = one_verdict (document_text bytes) v (Stops position) y x.1
exact_by bytes (Err (Depth position)) x v u y = one_verdict (document_text bytes) v (Deep position) y x.1
exact_by bytes (Err (Long position)) x v u y = one_verdict (document_text bytes) v (TooLong position) y x.1
exact_by bytes (Err Memory) x v u y = tt

pub refused_by : (bytes : List ℕ) (r : Result Document DocError) → IsAnswer bytes r → (IsUtf8 bytes → ⊥) → IsRefused r
refused_by bytes (Ok d) x n = n x.0
refused_by bytes (Err (NotUtf8 k)) x n = tt
refused_by bytes (Err (Markup position)) x n = n x.0
refused_by bytes (Err (Depth position)) x n = n x.0
refused_by bytes (Err (Long position)) x n = n x.0
refused_by bytes (Err Memory) x n = tt

pub mark_read : (c : ℕ) (text front rest behind : List ℕ) → c ≡ 65279 → front ≡ text → front ≡ encode c ++ rest → behind ≡ rest → chars behind ≡ unmarked (chars text)
mark_read c text front rest behind m f e b =
    ap chars b ∙ marked 65279 text rest refl (sym f ∙ (e ∙ ap (λ y. encode y ++ rest) m)) refl

-- the judgement is the answer
pub judged_by : (bytes : List ℕ) (r : Result Document DocError) → IsAnswer bytes r → Tells r (judgement bytes)
judged_by bytes (Ok d) x = one_judgement bytes (Judged (Reads (reading d))) (x.0, (x.1, x.2))
judged_by bytes (Err (NotUtf8 n)) x = one_judgement bytes (NoText n) x
judged_by bytes (Err (Markup position)) x = one_judgement bytes (Judged (Stops position)) x
judged_by bytes (Err (Depth position)) x = one_judgement bytes (Judged (Deep position)) x
judged_by bytes (Err (Long position)) x = one_judgement bytes (Judged (TooLong position)) x
judged_by bytes (Err Memory) x = tt
