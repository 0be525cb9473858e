-- none of the attributes so far has the name
use Rattle.std.proofs.Common.{◌≡◌, drop, map}
use Rattle.fx_doc.specs.Views.{attr_view}
use Rattle.fx_scene_elements.specs.Entries.{place_named}
use Rattle.fx_scene_elements.proofs.entries.place_named.Given as goal

abbrev pub invariant-loop-a : goal.invariant-loop-a
invariant-loop-a l =
    place_named (map attr_view (drop l.a-index l.attributes)) l.name l.other
    ≡ place_named (map attr_view l.attributes) l.name l.other
