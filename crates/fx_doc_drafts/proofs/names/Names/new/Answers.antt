use Rattle.std.proofs.Common.{ap}
use Rattle.std.specs.List.{list_any}
use Rattle.std.specs.BTreeMap.{is_at}
use Rattle.std.specs.String.{string_cmp}
use Rattle.fx_doc_drafts.proofs.names.Names.new.Goals as goal

pub returns : goal.returns
returns c = λ k. ap (λ ks. list_any (is_at (string_cmp k)) ks) c.new.ensures.empty
