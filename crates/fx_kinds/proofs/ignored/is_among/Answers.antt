use Rattle.std.proofs.Common.{ℕ, List, ◌∙◌}
use Rattle.std.specs.Borrow.{Bor}
use Rattle.std.specs.Str.{bytes_eq}
use Rattle.fx_look.proofs.TableLemmas.{any-map}
use Rattle.fx_kinds.proofs.ignored.is_among.Goals as goal

pub returns : goal.returns
returns c = c.has_name.ensures ∙ any-map (λ (other : Bor (List ℕ)). other.now) (λ other. bytes_eq other c.args.name.now) c.args.names.now
