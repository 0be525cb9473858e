-- What the files of documents are read as.
use Rattle.std.specs.Prelude.{ℕ, List, take, Result, Ok, Err}
use Rattle.fx_base.specs.Positions.{after_all, start}
use Rattle.fx_doc_grammar.specs.Grammar.{Reading}
use Rattle.fx_doc_grammar.specs.Judgements.{Judgement, NoText, Judged, document_text, judgement}
use Rattle.fx_doc_grammar.specs.Verdicts.{Verdict, Reads, Stops, Deep, Long}
use Rattle.fx_load_parts.specs.Faults.{Fault, fault_at}
use Rattle.fx_load_parts.specs.Files.{fetched}
use Rattle.fx_port.specs.Files.{Files}
use Rattle.fx_scene_flaws.specs.declared.flaws.FaultKind.TheVariants.{NotUtf8, Markup, Flawed}
use Rattle.fx_scene_flaws.specs.declared.flaws.Flaw.TheVariants.{Limit}

-- a document is read; every other verdict has its fault at its place
abbrev pub read_by_verdict : List ℕ → Verdict → Result Reading Fault
read_by_verdict name (Reads document) = Ok document
read_by_verdict name (Stops position) = Err (fault_at Markup name position)
read_by_verdict name (Deep position) = Err (fault_at (Flawed Limit) name position)
read_by_verdict name (Long position) = Err (fault_at (Flawed Limit) name position)

-- the first byte that is no text stands behind the characters before it
abbrev pub read_by_judgement : List ℕ → List ℕ → Judgement → Result Reading Fault
read_by_judgement name bytes (NoText n) =
    Err (fault_at NotUtf8 name (after_all start (document_text (take n bytes))))
read_by_judgement name bytes (Judged verdict) = read_by_verdict name verdict

-- what the bytes of a file are read as
unfoldable pub document_of : List ℕ → List ℕ → Result Reading Fault
document_of name bytes = read_by_judgement name bytes (judgement bytes)

abbrev pub document_by : List ℕ → Result (List ℕ) Fault → Result Reading Fault
document_by name (Err fault) = Err fault
document_by name (Ok bytes) = document_of name bytes

-- the document in the file of this name, which is of this number behind the script
abbrev pub document_in : Files → ℕ → List ℕ → Result Reading Fault
document_in files file name = document_by name (fetched files file name)
