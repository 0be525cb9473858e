-- the answer of the reader of expressions
use Rattle.std.specs.Str.{chars}
use Rattle.fx_scene_bindings.proofs.ReadLemmas.{reads_as}
use Rattle.fx_scene_bindings.proofs.reading.read.Goals as goal

pub returns : goal.returns
returns c = record {
  reads =
      reads_as (chars c.args.text.now) c.read_expr.result c.read_expr.ensures.found c.read_expr.ensures.few
      c.read_expr.ensures.syntax c.read_expr.ensures.deep c.read_expr.ensures.too_deep c.read_expr.ensures.operands;
  within = c.read_expr.ensures.within;
}
