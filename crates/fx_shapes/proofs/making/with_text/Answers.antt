use Rattle.fx_shapes.proofs.WholeLemmas.{whole_drawn}
use Rattle.fx_shapes.proofs.making.with_text.Goals as goal

pub returns : goal.returns
returns c =
    whole_drawn c.args.look.now c.args.rect c.args.text.now _ c.args.shapes.items c.add_line.new.shapes.items c.block_of-block.result
    c.if-look.false c.requires.fills c.block_of-block.ensures.value c.in_ok-line.ensures c.in_ok-add_line.ensures
