-- What the reader answers: of one character, of a text, and of bytes.
-- The public contract cites these, over the grammar of `fx_doc_grammar`.
use Rattle.std.specs.Prelude.{◌≡◌, ℕ, true, false, List, Option, Some, None, Result, Ok, Err}
use Rattle.std.specs.Str.{IsUtf8, IsValidUpTo}
use Rattle.fx_base.specs.declared.positions.Position.{Position}
use Rattle.fx_doc_grammar.specs.Grammar.{Spells}
use Rattle.fx_doc_grammar.specs.Machine.{State, step, is_deep, is_long, sign_position}
use Rattle.fx_doc_grammar.specs.Beginnings.{IsWithinLimits, IsTooDeep, IsTooLong, IsStopped}
use Rattle.fx_doc_grammar.specs.Judgements.{document_text}
use Rattle.fx_doc_grammar.specs.Verdicts.{Verdict, Reads, Stops, Deep, Long as TooLong}
use Rattle.fx_doc_runs.specs.Views.{view, reading, IsDeepAt}
use Rattle.fx_doc_runs.specs.declared.document.Document.{Document}
use Rattle.fx_doc_runs.specs.declared.document.DocError.{DocError}
use Rattle.fx_doc_runs.specs.declared.document.DocError.TheVariants.{NotUtf8, Markup, Depth, Long, Memory}
use Rattle.fx_doc_runs.specs.declared.modes.Reader.{Reader}

-- one character further, where the machine goes to o and the reader is r: its next state, or why there is none; the
-- character stands at p, and its sign begins at sign
abbrev pub IsStep : Option State → Position → Position → Reader → Result (Unit {0}) DocError → Type 0
IsStep o p sign r (Ok _) = (o ≡ Some (view r)) × (is_deep (view r) ≡ false)
IsStep o p sign r (Err (Markup position)) = (o ≡ None) × (position ≡ p)
IsStep o p sign r (Err (Long position)) = (s : State) × (o ≡ Some s) × (is_long s ≡ true) × (position ≡ sign)
IsStep o p sign r (Err (Depth position)) = (s : State) × (o ≡ Some s) × IsDeepAt s position
IsStep o p sign r (Err (NotUtf8 n)) = ⊥
IsStep o p sign r (Err Memory) = Unit {0}

abbrev pub IsNext : State → Position → ℕ → Reader → Result (Unit {0}) DocError → Type 0
IsNext s p c r answer = IsStep (step p s c) p (sign_position p s.mode) r answer

-- what is read of characters, and where they are no document that can be read
abbrev pub IsRead : List ℕ → Result Document DocError → Type 0
IsRead cs (Ok d) = Spells cs (reading d) × IsWithinLimits cs
IsRead cs (Err (Markup position)) = IsStopped cs position
IsRead cs (Err (Depth position)) = IsTooDeep cs position
IsRead cs (Err (Long position)) = IsTooLong cs position
IsRead cs (Err (NotUtf8 n)) = ⊥
IsRead cs (Err Memory) = Unit {0}

-- why bytes are no document that can be read
abbrev pub HasFault : List ℕ → DocError → Type 0
HasFault bytes (NotUtf8 n) = (IsUtf8 bytes → ⊥) × IsValidUpTo bytes n
HasFault bytes (Markup position) = IsUtf8 bytes × IsStopped (document_text bytes) position
HasFault bytes (Depth position) = IsUtf8 bytes × IsTooDeep (document_text bytes) position
HasFault bytes (Long position) = IsUtf8 bytes × IsTooLong (document_text bytes) position
HasFault bytes Memory = Unit {0}

-- the answer that a text has is given, unless there is no memory
abbrev pub IsGiven : Verdict → Result Document DocError → Type 0
IsGiven v (Ok d) = v ≡ Reads (reading d)
IsGiven v (Err (Markup position)) = v ≡ Stops position
IsGiven v (Err (Depth position)) = v ≡ Deep position
IsGiven v (Err (Long position)) = v ≡ TooLong position
IsGiven v (Err (NotUtf8 n)) = ⊥
IsGiven v (Err Memory) = Unit {0}

-- bad bytes are refused as such, unless there is no memory
abbrev pub IsRefused : Result Document DocError → Type 0
IsRefused (Err (NotUtf8 n)) = Unit {0}
IsRefused (Err Memory) = Unit {0}
IsRefused r = ⊥

-- the whole answer on bytes
abbrev pub IsAnswer : List ℕ → Result Document DocError → Type 0
IsAnswer bytes (Ok d) = IsUtf8 bytes × Spells (document_text bytes) (reading d) × IsWithinLimits (document_text bytes)
IsAnswer bytes (Err e) = HasFault bytes e
