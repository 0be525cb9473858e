-- What stands in a document, as definitions have it.
use Rattle.std.specs.Prelude.{ℕ}
use Rattle.fx_base.specs.declared.positions.Position.{Position}
use Rattle.fx_doc_grammar.specs.Grammar.{Head, Nodes}
use Rattle.fx_kinds.specs.declared.classes.Class.{Class}
use Rattle.fx_scene_flaws.specs.declared.flaws.Flaw.{Flaw}
use Rattle.fx_scene_outline.specs.declared.pieces.Seat.{Seat}

pub data Piece : Type 0 where
  -- an instance, where it stands
  Instance : Seat → Head → Piece
  -- an instance of before, by its name
  Reference : Seat → Head → Piece
  -- the root of another document
  Include : Seat → Head → Piece
  -- an instance in a definition that is no node, with its content
  Value : Head → Nodes → Piece
  -- a property element of the instance at this place, which is of this class, with its content
  Property : ℕ → Class → Head → Nodes → Piece
  -- something is wrong
  Wrong : Flaw → Position → Piece
