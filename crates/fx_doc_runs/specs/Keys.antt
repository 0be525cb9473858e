-- The name of an attribute that stands ahead, with its `=` and its quote.
-- The reader's own steps cite these; no public clause does.
use Rattle.std.specs.Prelude.{◌≡◌, ◌≤◌, ℕ, true, List, ◌∷◌, ◌++◌, length, codes}
use Rattle.std.specs.List.{list_all}
use Rattle.fx_doc_grammar.specs.Grammar.{quote_code}
use Rattle.fx_doc_grammar.specs.declared.Quote.{Quote}
use Rattle.fx_doc_drafts.specs.Ahead.{is_named, is_gap, begins_name}

pub record IsNameAhead (text name rest : List ℕ) : Type 0 where
  pub split : text ≡ name ++ rest
  pub begins : begins_name name ≡ true
  pub named : list_all is_named name ≡ true
  pub short : length name ≤ 4096

pub record IsKey (text name : List ℕ) (quote : Quote) (behind : List ℕ) : Type 0 where
  pub before : List ℕ
  pub after : List ℕ
  pub written : text ≡ name ++ (before ++ (codes "=" ++ (after ++ (quote_code quote ∷ behind))))
  pub begins : begins_name name ≡ true
  pub named : list_all is_named name ≡ true
  pub short : length name ≤ 4096
  pub white_before : list_all is_gap before ≡ true
  pub white_after : list_all is_gap after ≡ true
