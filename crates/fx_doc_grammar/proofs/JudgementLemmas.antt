-- The function's judgement on bytes is the grammar's, and no other is.
use Rattle.std.proofs.Common.{◌≡◌, ℕ, suc, zero, ◌<◌, ◌≤◌, Bool, true, false, cond, List, [], length, take, ◌⊎◌, inl, inr, refl, sym, ◌∙◌, ap, subst, arith}
use Rattle.std.specs.Str.{IsUtf8, IsValidUpTo, is_utf8}
use Rattle.std.specs.Str.Lossy.{valid_len_up_to, utf8_valid_len}
use Rattle.std.proofs.lemmas.Str.{IsUtf8-from_is_utf8, is_utf8-from_IsUtf8, utf8_valid_len-IsValidUpTo}
use Rattle.std.proofs.lemmas.List.{take_all}
use Rattle.std.proofs.Math.Nat.{eq-or-lt_of_le}
use Rattle.std.proofs.lemmas.Bool.{cases_order}
use Rattle.fx_doc_grammar.specs.Verdicts.{Verdict}
use Rattle.fx_doc_grammar.specs.Judging.{verdict_of}
use Rattle.fx_doc_grammar.specs.Judgements.{document_text, Judgement, NoText, Judged, IsJudgement, judgement}
use Rattle.fx_doc_grammar.proofs.JudgingLemmas.{judging}
use Rattle.fx_doc_grammar.proofs.Verdicts.{one_verdict}

no_text : (bytes : List ℕ) → is_utf8 bytes ≡ false → IsUtf8 bytes → ⊥
no_text bytes e u = let h : false ≡ true = sym e ∙ is_utf8-from_IsUtf8 bytes u in cc

not_text : (bytes : List ℕ) → (IsUtf8 bytes → ⊥) → is_utf8 bytes ≡ false
not_text bytes h = (elim (is_utf8 bytes) as (λ b. is_utf8 bytes ≡ b → is_utf8 bytes ≡ false) [
  | true ↦ λ e. absurd (h (IsUtf8-from_is_utf8 bytes e))
  | false ↦ λ e. e
]) refl

-- where no front from here on is a text, the longest is the one that the search finds
record Longest (bytes : List ℕ) (most found : ℕ) : Type 0 where
  within : found ≤ most
  front : IsUtf8 (take found bytes)
  longest : (m : ℕ) → found < m → m ≤ most → IsUtf8 (take m bytes) → ⊥

longest_by : (bytes : List ℕ) (n : ℕ) (b : Bool) → is_utf8 (take (suc n) bytes) ≡ b → Longest bytes n (valid_len_up_to bytes n)
    → Longest bytes (suc n) (cond b (suc n) (valid_len_up_to bytes n))
longest_by bytes n true e h =
    record { within = omega arith; front = IsUtf8-from_is_utf8 (take (suc n) bytes) e; longest = λ m p q. absurd (omega arith) }
longest_by bytes n false e h = record {
  within = let w = h.within in omega arith;
  front = h.front;
  longest = λ m p q u. (elim (eq-or-lt_of_le q) as (λ _. ⊥) [
    | inl l ↦ no_text (take (suc n) bytes) e (subst (λ k. IsUtf8 (take k bytes)) l u)
    | inr l ↦ h.longest m p (omega arith) u
  ]);
}

longest_found : (bytes : List ℕ) (n : ℕ) → Longest bytes n (valid_len_up_to bytes n)
longest_found bytes zero = record { within = omega arith; front = ([], (refl, refl)); longest = λ m p q. absurd (omega arith) }
longest_found bytes (suc n) = longest_by bytes n (is_utf8 (take (suc n) bytes)) refl (longest_found bytes n)

valid_up_to : (bytes : List ℕ) (n : ℕ) → (IsUtf8 bytes → ⊥) → Longest bytes (length bytes) n → IsValidUpTo bytes n
valid_up_to bytes n none h = record {
  short = (elim (eq-or-lt_of_le h.within) as (λ _. n < length bytes) [
    | inl e ↦ absurd (none (subst IsUtf8 (ap (λ k. take k bytes) e ∙ take_all (length bytes) bytes (omega arith)) h.front))
    | inr l ↦ l
  ]);
  front = h.front;
  longest = λ m p u. beyond m (cases_order m (length bytes)) p u;
}
  where
    beyond : (m : ℕ) → (m ≡ length bytes) ⊎ ((m < length bytes) ⊎ (length bytes < m)) → n < m → IsUtf8 (take m bytes) → ⊥
    beyond m (inl e) p u = none (subst IsUtf8 (take_all m bytes (omega arith)) u)
    beyond m (inr (inl l)) p u = h.longest m p (omega arith) u
    beyond m (inr (inr l)) p u = none (subst IsUtf8 (take_all m bytes (omega arith)) u)

judged_by : (bytes : List ℕ) (b : Bool) → is_utf8 bytes ≡ b
    → IsJudgement bytes (cond b (Judged (verdict_of (document_text bytes))) (NoText (valid_len_up_to bytes (length bytes))))
judged_by bytes true e = (IsUtf8-from_is_utf8 bytes e, judging (document_text bytes))
judged_by bytes false e = (no_text bytes e, valid_up_to bytes (valid_len_up_to bytes (length bytes)) (no_text bytes e) (longest_found bytes (length bytes)))

pub judgement_is : (bytes : List ℕ) → IsJudgement bytes (judgement bytes)
unfolding judgement utf8_valid_len
judgement_is bytes = judged_by bytes (is_utf8 bytes) refl

pub one_judgement : (bytes : List ℕ) (j : Judgement) → IsJudgement bytes j → judgement bytes ≡ j
unfolding judgement
one_judgement bytes (NoText n) x = rw (not_text bytes x.0) (ap (λ k. NoText k) (utf8_valid_len-IsValidUpTo bytes n x.1))
one_judgement bytes (Judged v) x =
    rw (is_utf8-from_IsUtf8 bytes x.0) (ap (λ (w : Verdict). Judged w) (one_verdict (document_text bytes) (verdict_of (document_text bytes)) v (judging (document_text bytes)) x.1))
