-- what is left completes what is done
use Rattle.std.proofs.Common.{◌≡◌, ◌≤◌, Some, vec_len}
use Rattle.fx_port.specs.Files.{Files}
use Rattle.fx_scene_course.specs.Views.{course_view, open_view}
use Rattle.fx_scene_course.proofs.ActLemmas.{Completes}
use Rattle.fx_scene_course.proofs.making.do_acts.Given as goal

abbrev pub invariant-loop-act : goal.invariant-loop-act
invariant-loop-act g l =
    let shelf = g.F.Shelf in
    record {
      same : shelf.held l.shelf ≡ shelf.held l.fn.shelf;
      later : shelf.faults l.fn.shelf ≤ shelf.faults l.shelf;
      completes : (files : Files) → shelf.held l.fn.shelf ≡ Some files
          → Completes files (open_view l.here) (course_view l.fn.course) l.fn.acts.items (course_view l.course) l.left.items;
    }

abbrev pub decreases-loop-act : goal.decreases-loop-act
decreases-loop-act g l = vec_len l.left
