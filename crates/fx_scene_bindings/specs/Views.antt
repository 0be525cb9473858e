-- Operands as definitions have them.
use Rattle.fx_kinds.specs.Listing.{listed_property}
use Rattle.fx_scene_bindings.specs.Bindings.{Operand as PlainOperand}
use Rattle.fx_scene_bindings.specs.declared.operands.Operand.{Operand}

abbrev pub operand_view : Operand → PlainOperand
operand_view o = record { node = o.node; property = listed_property o.property.now }
