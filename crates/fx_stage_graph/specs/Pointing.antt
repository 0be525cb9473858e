-- What the pointer, the button and the focus are on.
use Rattle.fx_stage_graph.specs.declared.pointing.Pointing.{Pointing}
use Rattle.fx_stage_model.specs.Graphs.{Graph}

-- they are on other nodes than before
abbrev pub pointed : Pointing → Graph → Graph
pointed pointing graph =
    record graph {
      hover = pointing.hover.items;
      pressed = pointing.pressed.items;
      target = pointing.target;
      focus = pointing.focus;
    }
