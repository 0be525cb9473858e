-- A set has just the names of a list.
use Rattle.std.specs.Prelude.{◌≡◌, ℕ, List, String}
use Rattle.std.specs.Global.{Global}
use Rattle.std.specs.String.{string_bytes, string_cmp}
use Rattle.std.specs.BTreeSet.{contains}
use Rattle.fx_doc_grammar.specs.Grammar.{is_among}
use Rattle.fx_doc_drafts.specs.declared.names.Names.{Names as NamesHere}

abbrev pub HasNames : NamesHere → List (List ℕ) → Type 0
HasNames set names = (name : String Global) → contains string_cmp set.names name ≡ is_among (string_bytes name) names
