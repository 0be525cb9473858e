-- The four ways in which a text is answered, and the law that each text is answered in one way at most.
-- The reader's contract is over these; the law is a theorem of its own.
use Rattle.std.specs.Prelude.{◌≡◌, ℕ, List}
use Rattle.fx_doc_grammar.specs.Grammar.{Reading, Spells}
use Rattle.fx_doc_grammar.specs.Beginnings.{IsWithinLimits, IsTooDeep, IsTooLong, IsStopped}
use Rattle.fx_base.specs.declared.positions.Position.{Position}

pub data Verdict : Type 0 where
  Reads : Reading → Verdict
  Stops : Position → Verdict
  Deep : Position → Verdict
  Long : Position → Verdict

abbrev pub IsVerdict : List ℕ → Verdict → Type 0
IsVerdict text (Reads n) = Spells text n × IsWithinLimits text
IsVerdict text (Stops p) = IsStopped text p
IsVerdict text (Deep p) = IsTooDeep text p
IsVerdict text (Long p) = IsTooLong text p

-- no text spells two documents
abbrev pub OneDocument : Type 0
OneDocument = (text : List ℕ) (m n : Reading) → Spells text m → Spells text n → m ≡ n

-- no text has two answers
abbrev pub OneVerdict : Type 0
OneVerdict = (text : List ℕ) (a b : Verdict) → IsVerdict text a → IsVerdict text b → a ≡ b
