-- includes stand in each other at most so deep, and what is left completes what is read
use Rattle.std.proofs.Common.{◌≡◌, ◌≤◌, ◌+◌, ◌*◌, ◌-◌, [], Some, drop, length, map, take}
use Rattle.fx_port.specs.Files.{Files}
use Rattle.fx_scene_course.specs.Views.{course_view, open_view}
use Rattle.fx_scene_load.specs.Views.{desk_view}
use Rattle.fx_scene_elements.specs.Elements.{Told}
use Rattle.fx_scene_course.specs.Courses.{Course}
use Rattle.fx_scene_load.specs.Reading.{IsToldRead}
use Rattle.fx_scene_outline.specs.Views.{defined_shown, piece_view, shown}
use Rattle.fx_scene_read.specs.Opening.{AreCounted}
use Rattle.fx_scene_things.specs.Known.{settled_view}
use Rattle.fx_scene_load.proofs.ReadLemmas.{Completes}
use Rattle.fx_scene_load.proofs.reading.+walk.Given as goal

abbrev pub decreases-read_whole : goal.decreases-read_whole
decreases-read_whole g l = 2000 * (17 - length l.here.now.around.items) + 1299

abbrev pub decreases-read_pieces : goal.decreases-read_pieces
decreases-read_pieces g l = 2000 * (17 - length l.here.now.around.items) + (10 * l.room + 9)

abbrev pub decreases-read_piece : goal.decreases-read_piece
decreases-read_piece g l = 2000 * (17 - length l.here.now.around.items) + (10 * l.room + 8)

abbrev pub decreases-read_plain : goal.decreases-read_plain
decreases-read_plain g l = 2000 * (17 - length l.here.now.around.items) + (10 * l.room + 7)

abbrev pub decreases-read_all_defined : goal.decreases-read_all_defined
decreases-read_all_defined g l = 2000 * (17 - length l.here.now.around.items) + (10 * l.room + 6)

abbrev pub decreases-read_next_defined : goal.decreases-read_next_defined
decreases-read_next_defined g l = 2000 * (17 - length l.here.now.around.items) + (10 * l.room + 5)

abbrev pub decreases-read_defined : goal.decreases-read_defined
decreases-read_defined g l = 2000 * (17 - length l.here.now.around.items) + (10 * l.room + 4)

abbrev pub decreases-read_included : goal.decreases-read_included
decreases-read_included g l = 2000 * (17 - length l.here.now.around.items) + 7

abbrev pub decreases-read_include : goal.decreases-read_include
decreases-read_include g l = 2000 * (17 - length l.here.now.around.items) + 6

abbrev pub decreases-read_wanted : goal.decreases-read_wanted
decreases-read_wanted g l = 2000 * (17 - length l.here.now.around.items) + 5

abbrev pub decreases-read_inner : goal.decreases-read_inner
decreases-read_inner g l = 2000 * (17 - length l.here.now.around.items) + 4

abbrev pub invariant-read_pieces-loop-index : goal.invariant-read_pieces-loop-index
invariant-read_pieces-loop-index g l =
    let shelf = g.F.Shelf in
    record {
      same : shelf.held l.shelf ≡ shelf.held l.fn.shelf;
      later : shelf.faults l.fn.shelf ≤ shelf.faults l.shelf;
      completes : (files : Files) → shelf.held l.fn.shelf ≡ Some files
          → Completes files (open_view l.here) l.room (desk_view [] l.fn.desk) (course_view l.fn.course) l.pieces
          (desk_view (shown (take l.index l.pieces)) l.desk) (course_view l.course) l.index;
      counted : AreCounted (shown (take l.index l.pieces)) l.counts.items;
    }

abbrev pub invariant-read_all_defined-loop-element : goal.invariant-read_all_defined-loop-element
invariant-read_all_defined-loop-element g l =
    let shelf = g.F.Shelf in
    record {
      same : shelf.held l.shelf ≡ shelf.held l.fn.shelf;
      later : shelf.faults l.fn.shelf ≤ shelf.faults l.shelf;
      completes : (files : Files) → shelf.held l.fn.shelf ≡ Some files → (told : Told) (last : Course)
          → IsToldRead files (open_view l.here) l.room (desk_view (shown l.before) l.desk) l.node (piece_view l.piece)
          (map settled_view l.progress.settled.items) l.progress.done (course_view l.course)
          (defined_shown (drop l.element-index l.defined)) told last
          → IsToldRead files (open_view l.here) l.room (desk_view (shown l.before) l.desk) l.node (piece_view l.piece)
          [] 0 (course_view l.fn.course) (defined_shown l.defined) told last;
    }
