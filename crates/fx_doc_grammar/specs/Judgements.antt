-- What bytes are judged to be: no text, or a text with the grammar's verdict on it.
-- The layers above read documents through the function; that it is the relation is a law.
use Rattle.std.specs.Prelude.{ℕ, List, [], ◌∷◌, ◌==◌, if◌then◌else◌}
use Rattle.std.specs.Str.{chars, IsUtf8, IsValidUpTo, is_utf8}
use Rattle.std.specs.Str.Lossy.{utf8_valid_len}
use Rattle.fx_text.specs.Characters.{byte_order_mark}
use Rattle.fx_doc_grammar.specs.Judging.{verdict_of}
use Rattle.fx_doc_grammar.specs.Verdicts.{Verdict, IsVerdict}

-- the characters behind one byte order mark
abbrev pub unmarked : List ℕ → List ℕ
unmarked [] = []
unmarked (c ∷ cs) = if c == byte_order_mark then cs else c ∷ cs

-- the characters of a document's bytes
abbrev pub document_text : List ℕ → List ℕ
document_text bytes = unmarked (chars bytes)

pub data Judgement : Type 0 where
  NoText : ℕ → Judgement
  Judged : Verdict → Judgement

-- no text behind so many bytes that are, or a text with the grammar's verdict on it
abbrev pub IsJudgement : List ℕ → Judgement → Type 0
IsJudgement bytes (NoText n) = (IsUtf8 bytes → ⊥) × IsValidUpTo bytes n
IsJudgement bytes (Judged verdict) = IsUtf8 bytes × IsVerdict (document_text bytes) verdict

unfoldable pub judgement : List ℕ → Judgement
judgement bytes = if is_utf8 bytes then Judged (verdict_of (document_text bytes)) else NoText (utf8_valid_len bytes)
