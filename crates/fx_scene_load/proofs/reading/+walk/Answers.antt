-- documents, their pieces and their includes
use Rattle.std.proofs.Common.{◌≡◌, ◌∙◌, ◌<◌, ◌-◌, ◌++◌, ◌∷◌, [], ap, refl, sym, subst, List, ℕ, Vec, Ok, Err, arith, drop, length, map, take}
use Rattle.std.specs.Prelude.{OnOk}
use Rattle.std.specs.Global.{Global}
use Rattle.std.specs.Option.{option_map}
use Rattle.fx_base.specs.declared.positions.Place.{Place}
use Rattle.fx_doc.specs.Views.{attr_view, reading}
use Rattle.fx_doc_runs.specs.declared.document.Attribute.{Attribute}
use Rattle.fx_doc_runs.specs.declared.document.Document.{Document}
use Rattle.fx_load_parts.specs.Says.{LoadSays}
use Rattle.fx_scene_load.specs.Asking.{asked_of}
use Rattle.fx_scene_course.specs.Courses.{with_class, with_file, with_flaw}
use Rattle.fx_scene_elements.specs.Elements.{Told}
use Rattle.fx_scene_flaws.specs.declared.flaws.Flaw.TheVariants as flaw
use Rattle.fx_scene_load.specs.Documents.{document_in}
use Rattle.fx_scene_load.specs.Made.{AreDefinedRead, IsInnerRead}
use Rattle.fx_scene_course.specs.Making.{acts_before}
use Rattle.fx_scene_course.specs.Opens.{inner_path}
use Rattle.fx_scene_load.specs.Reading.{IsIncludeRead, IsPieceRead, IsToldRead, IsWantedRead, stand_in, told_in, with_room}
use Rattle.fx_scene_course.specs.Views.{course_view, open_view}
use Rattle.fx_scene_load.specs.Views.{desk_view}
use Rattle.fx_scene_load.specs.declared.desks.Desk.{Desk}
use Rattle.fx_scene_outline.specs.Defined.{Defined}
use Rattle.fx_scene_outline.specs.Pieces.{Piece as PlainPiece}
use Rattle.fx_scene_outline.specs.Views.{defined_shown, defined_view, head_of, piece_view, shown}
use Rattle.fx_scene_read.specs.Opening.{stand_at}
use Rattle.fx_scene_read.specs.declared.opening.Stand.{Stand}
use Rattle.fx_scene_things.specs.Known.{known, settled_view}
use Rattle.fx_scene_things.specs.Names.{Names}
use Rattle.fx_scene_things.specs.Settled.{Settled}
use Rattle.fx_scene_things.specs.declared.settled.Settled.{Settled as HeldSettled}
use Rattle.fx_scene_course.proofs.ActLemmas.{counted, on_both, on_ok}
use Rattle.fx_scene_load.proofs.ReadLemmas.{asked_is_roomy, counted_on, deep_read, defined_more, ends, files_roomed, included_read, inner_read, inner_whole, inside_read, next_read, none_defined, plain_read, steps_on, stops, told_included, told_misplaced, told_refused, told_unread_on, told_wanted, whole_read}
use Rattle.fx_scene_load.proofs.reading.+walk.Goals as goal

pub read_include-read_wanted-requires : goal.read_include-read_wanted-requires
read_include-read_wanted-requires g n c = λ κs outlives.
    let IsFew : ℕ → Type 0 = λ count. count < 63 in
    let roomy = asked_is_roomy (open_view c.args.here.now) c.args.seat (head_of c.args.element.now) c.len.result
    c.in-Wanted.target (sym c.in-Wanted.is ∙ c.in_ok-flaw.ensures) in
    let same = files_roomed (course_view c.args.course.now) (course_view c.add_room-in-Wanted.new.course)
    c.place_in-place.result c.include_stand-stand-in-Wanted.result c.in_ok-add_room-in-Wanted.ensures.ok in
    let few : length c.args.course.now.files.items < 63 =
    subst IsFew (counted c.args.course.now.files c.len.result c.len.ensures) roomy.1 in
    (omega (arith, c.decreases), (outlives, (roomy.0, subst IsFew (sym same) few)))

pub read_include-returns-in_ok-add_flaw-in-Misplaced-clause-done : goal.read_include-returns-in_ok-add_flaw-in-Misplaced-clause-done
read_include-returns-in_ok-add_flaw-in-Misplaced-clause-done g n c = λ files e.
    told_misplaced files (open_view c.args.here.now) (desk_view (shown c.args.before.now) c.args.desk.now)
    (course_view c.args.course.now) (course_view c.add_flaw.new.course) c.args.seat (head_of c.args.element.now)
    c.in-Misplaced.flaw
    (sym c.in-Misplaced.is ∙ (c.in_ok-flaw.ensures
    ∙ ap (asked_of (open_view c.args.here.now) c.args.seat (head_of c.args.element.now))
    (counted c.args.course.now.files c.len.result c.len.ensures)))
    (c.in_ok-add_flaw-in-Misplaced.ensures.ok
    ∙ ap (λ (place : Place). with_flaw (course_view c.args.course.now) place c.in-Misplaced.flaw) c.place_in-place.ensures)

pub read_include-returns-in_ok-add_flaw-in-Refused-clause-done : goal.read_include-returns-in_ok-add_flaw-in-Refused-clause-done
read_include-returns-in_ok-add_flaw-in-Refused-clause-done g n c = λ files e.
    let here = open_view c.args.here.now in
    let stands : c.include_stand-stand.result
    ≡ stand_in here (stand_at (shown c.args.before.now) c.args.desk.now.nodes.items c.args.seat) =
    c.include_stand-stand.ensures
    ∙ ap (λ (nodes : List ℕ). stand_in here (stand_at (shown c.args.before.now) nodes c.args.seat)) c.as_slice.ensures.value in
    told_refused files here (desk_view (shown c.args.before.now) c.args.desk.now)
    (course_view c.args.course.now) (course_view c.add_room.new.course) (course_view c.add_flaw-in-Refused.new.course)
    c.args.seat (head_of c.args.element.now) c.in-Refused.flaw c.in-Refused.source
    (sym c.in-Refused.is ∙ (c.in_ok-flaw.ensures
    ∙ ap (asked_of here c.args.seat (head_of c.args.element.now))
    (counted c.args.course.now.files c.len.result c.len.ensures)))
    (c.in_ok-add_room-in-Refused.ensures.ok
    ∙ (λ i. with_room (course_view c.args.course.now) (c.place_in-place.ensures i) (stands i)))
    (c.in_ok-add_flaw-in-Refused.ensures.ok
    ∙ ap (λ (place : Place). with_flaw (course_view c.add_room.new.course) place c.in-Refused.flaw) c.place_in.ensures)

pub read_include-returns-in_ok-add_room-in-Wanted-clause-done : goal.read_include-returns-in_ok-add_room-in-Wanted-clause-done
read_include-returns-in_ok-add_room-in-Wanted-clause-done g n c = λ files e.
    let here = open_view c.args.here.now in
    let desk = desk_view (shown c.args.before.now) c.args.desk.now in
    let stands : c.include_stand-stand-in-Wanted.result
    ≡ stand_in here (stand_at (shown c.args.before.now) c.args.desk.now.nodes.items c.args.seat) =
    c.include_stand-stand-in-Wanted.ensures
    ∙ ap (λ (nodes : List ℕ). stand_in here (stand_at (shown c.args.before.now) nodes c.args.seat))
    c.as_slice-in-Wanted.ensures.value in
    let IsRead : Stand → Type 0 =
    λ spot. IsWantedRead files here desk spot (course_view c.add_room-in-Wanted.new.course) (head_of c.args.element.now)
    c.in-Wanted.target (known c.read_wanted.new.desk.names) (course_view c.read_wanted.new.course) in
    on_ok c.read_wanted.result
    (λ read. told_wanted files here desk (course_view c.args.course.now) (course_view c.add_room-in-Wanted.new.course)
    (course_view c.read_wanted.new.course) c.args.seat (head_of c.args.element.now) c.in-Wanted.target
    (known c.read_wanted.new.desk.names)
    (sym c.in-Wanted.is ∙ (c.in_ok-flaw.ensures
    ∙ ap (asked_of here c.args.seat (head_of c.args.element.now))
    (counted c.args.course.now.files c.len.result c.len.ensures)))
    (c.in_ok-add_room-in-Wanted.ensures.ok
    ∙ (λ i. with_room (course_view c.args.course.now) (c.place_in-place.ensures i) (stands i)))
    (subst IsRead stands read))
    (c.read_wanted.ensures.done files e (shown c.args.before.now))

pub read_included-returns-clause-done : goal.read_included-returns-clause-done
read_included-returns-clause-done g n c = λ files e room.
    let desk = desk_view (shown c.args.before.now) c.args.desk.now in
    let IsRead : Names → Type 0 =
    λ names. IsIncludeRead files (open_view c.args.here.now) desk (course_view c.args.course.now) c.args.seat
    (head_of c.args.element.now) names (course_view c.read_include.new.course) in
    included_read files (open_view c.args.here.now) room desk (course_view c.args.course.now)
    (course_view c.read_include.new.course) c.args.seat (head_of c.args.element.now) c.len-node.result
    (known c.push_node.new.desk.names) c.push_node.new.desk.lanes.items c.push_node.new.desk.nodes.items
    (counted c.args.course.now.classes c.len-node.result c.len-node.ensures)
    (ap (λ (d : Desk). d.lanes.items) c.in_ok-push_node.ensures.others
    ∙ ap (λ (d : Desk). d.lanes.items) c.in_ok-read_include.ensures.kept)
    (c.in_ok-push_node.ensures.ok
    ∙ ap (λ (d : Desk). d.nodes.items ++ (c.len-node.result ∷ [])) c.in_ok-read_include.ensures.kept)
    (subst IsRead (sym (ap (λ (d : Desk). known d.names) c.in_ok-push_node.ensures.others))
    (c.in_ok-read_include.ensures.done files e))

pub read_inner-returns-clause-done : goal.read_inner-returns-clause-done
read_inner-returns-clause-done g n c = λ files e before.
    let here = open_view c.args.here.now in
    let names = known c.args.desk.now.names in
    let head = head_of c.args.element.now in
    on_both c.read_root.result
    (λ named rest. inner_read files here (desk_view before c.args.desk.now) c.args.stand c.args.file c.args.target.now
    (course_view c.args.course.now) (course_view c.read_whole.new.course) (course_view c.read_root.new.course) head
    (reading c.args.document.now) (known c.read_root.new.desk.names) c.len-node.result
    (counted c.args.course.now.classes c.len-node.result c.len-node.ensures)
    (inner_whole files here names head.attributes c.args.stand c.args.file c.args.target.now
    (reading c.args.document.now) (course_view c.args.course.now) (course_view c.read_whole.new.course)
    c.as_slice-3.result.now c.in_ok-around.around.items
    (option_map (λ (path : Vec (List ℕ) Global). path.items) c.in_ok-path.path) c.as_slice-3.ensures
    (c.in_ok-around.ensures
    ∙ ap (λ (around : List (List ℕ)). around ++ (c.args.target.now ∷ [])) c.as_slice-2.ensures.value)
    (c.in_ok-path.ensures
    ∙ ap (λ (attributes : List Attribute). inner_path here names (map attr_view attributes)) c.as_slice.ensures)
    (c.in_ok-read_whole.ensures.done files e))
    named rest)
    c.read_root.ensures.names (c.read_root.ensures.done files (c.read_whole.ensures.held ∙ e) before)

pub read_pieces-returns-then-course-clause-done : goal.read_pieces-returns-then-course-clause-done
read_pieces-returns-then-course-clause-done g n c = λ files e.
    stops files (open_view c.args.here.now) c.args.room (desk_view [] c.args.desk.now)
    (desk_view (shown (take c.loop-index.index c.args.pieces.now)) c.loop-index.desk) (course_view c.args.course.now)
    (course_view c.loop-index.course) c.args.pieces.now c.loop-index.index (c.loop-index.invariant.completes files e)
    c.if-course.true

pub read_pieces-loop-index-preserved : goal.read_pieces-loop-index-preserved
read_pieces-loop-index-preserved g n c = record {
  same = c.read_piece.ensures.held ∙ c.loop-index.invariant.same;
  later = omega (arith, c.read_piece.ensures.cause.later, c.loop-index.invariant.later);
  completes = λ files e.
      steps_on files (open_view c.args.here.now) c.args.room (desk_view [] c.args.desk.now) c.loop-index.desk c.read_piece.new.desk
      (course_view c.args.course.now) (course_view c.loop-index.course) (course_view c.read_piece.new.course)
      c.args.pieces.now c.split_at.result.0.now c.loop-index.index c.index-pieces-index.result c.loop-index-test.true
      c.index-pieces-index.is c.split_at.ensures.front (c.loop-index.invariant.completes files e) c.if-course.false
      (c.in_ok-read_piece.ensures.done files (c.loop-index.invariant.same ∙ e));
  counted = counted_on c.args.pieces.now c.split_at.result.0.now c.loop-index.index c.index-pieces-index.result
      c.rank_of-rank.new.counts.items c.loop-index-test.true c.index-pieces-index.is c.split_at.ensures.front
      c.rank_of-rank.ensures.counted;
}

pub read_pieces-returns-clause-done : goal.read_pieces-returns-clause-done
read_pieces-returns-clause-done g n c = λ files e.
    ends files (open_view c.args.here.now) c.args.room (desk_view [] c.args.desk.now)
    (desk_view (shown (take c.loop-index.index c.args.pieces.now)) c.loop-index.desk) (course_view c.args.course.now)
    (course_view c.loop-index.course) c.args.pieces.now c.loop-index.index c.loop-index-test.false
    (c.loop-index.invariant.completes files e)

pub read_wanted-returns-in-Ok-clause-done : goal.read_wanted-returns-in-Ok-clause-done
read_wanted-returns-in-Ok-clause-done g n c = λ files e before.
    let here = open_view c.args.here.now in
    let desk = desk_view before c.args.desk.now in
    let head = head_of c.args.element.now in
    let document = reading c.in-Ok.document in
    let IsSaid : List ℕ → Type 0 = λ name. document_in files c.len-file.result name ≡ Ok document in
    let IsIn : List ℕ → Type 0 =
    λ name. IsInnerRead files here desk c.args.stand c.len-file.result name (course_view c.add_file.new.course) head document
    (known c.read_inner.new.desk.names) (course_view c.read_inner.new.course) in
    on_ok c.read_inner.result
    (λ read. told_included files here desk c.args.stand (course_view c.args.course.now) (course_view c.add_file.new.course)
    (course_view c.read_inner.new.course) head c.args.target c.len-file.result document
    (known c.read_inner.new.desk.names) (counted c.args.course.now.files c.len-file.result c.len-file.ensures)
    (subst IsSaid c.as_str.ensures (c.in-Ok.ensures.says files e))
    (c.in_ok-add_file.ensures.ok ∙ ap (with_file (course_view c.args.course.now)) c.in_ok-copy.ensures)
    (subst IsIn c.as_str-in-Ok.ensures read))
    (c.read_inner.ensures.done files (c.fetch_document.ensures.held ∙ e) before)

pub read_wanted-returns-clause-done : goal.read_wanted-returns-clause-done
read_wanted-returns-clause-done g n c = λ files e before.
    let IsSaid : List ℕ → Type 0 =
    λ name. LoadSays {A = Document} reading (Err c.in-Err.error) (document_in files c.len-file.result name) in
    told_unread_on {A = Document} files (open_view c.args.here.now) (desk_view before c.args.desk.now) c.args.stand
    (course_view c.args.course.now) (course_view c.add_file.new.course) (course_view c.keep_fault.new.course)
    (head_of c.args.element.now) c.args.target c.len-file.result reading c.in-Err.error c.keep_fault.result
    (counted c.args.course.now.files c.len-file.result c.len-file.ensures)
    (subst IsSaid c.as_str.ensures (c.in-Err.ensures.says files e))
    (c.in_ok-add_file.ensures.ok ∙ ap (with_file (course_view c.args.course.now)) c.in_ok-copy.ensures) c.keep_fault.ensures

pub read_whole-returns-clause-done : goal.read_whole-returns-clause-done
read_whole-returns-clause-done g n c = λ files e.
    whole_read files (open_view c.args.here.now) (course_view c.args.course.now) (course_view c.read_pieces.new.course)
    (course_view c.add_space.new.course) (reading c.args.document.now) (known c.read_pieces.new.desk.names)
    (desk_view [] c.empty_desk-desk.result) (shown c.as_slice.result.now) c.empty_desk-desk.ensures
    (ap shown c.as_slice.ensures.value ∙ c.in_ok-pieces.ensures) c.in_ok-add_space.ensures.ok
    (c.in_ok-read_pieces.ensures.done files e)

pub read_piece-returns-in-Include-clause-done : goal.read_piece-returns-in-Include-clause-done
read_piece-returns-in-Include-clause-done g n c = λ files e.
    let IsRead : PlainPiece → Type 0 =
    λ piece. OnOk c.read_included.result (IsPieceRead files (open_view c.args.here.now) c.args.room
    (desk_view (shown c.args.before.now) c.args.desk.now) (course_view c.args.course.now) piece
    (desk_view (shown c.args.before.now ++ (piece ∷ [])) c.read_included.new.desk)
    (course_view c.read_included.new.course)) in
    subst IsRead (ap piece_view (sym c.in-Include.is)) (c.read_included.ensures.done files e c.args.room)

pub read_plain-returns-clause-done : goal.read_plain-returns-clause-done
read_plain-returns-clause-done g n c = λ files e.
    let here = open_view c.args.here.now in
    let desk = desk_view (shown c.args.before.now) c.args.desk.now in
    let piece = piece_view c.args.piece.now in
    let settled = map settled_view c.in_ok-progress.progress.settled.items in
    let IsDefined : List Defined → Type 0 =
    λ nodes. AreDefinedRead files here c.args.room desk c.len-node.result piece nodes (course_view c.args.course.now)
    settled c.in_ok-progress.progress.done (course_view c.read_all_defined.new.course) in
    plain_read files here c.args.room desk (course_view c.args.course.now) (course_view c.read_all_defined.new.course)
    (course_view c.read_rest.new.course) (course_view c.add_class.new.course) piece c.len-node.result settled
    c.in_ok-progress.progress.done (known c.push_node.new.desk.names) c.push_node.new.desk.lanes.items
    c.push_node.new.desk.nodes.items c.requires.plain
    (counted c.args.course.now.classes c.len-node.result c.len-node.ensures)
    (subst IsDefined (ap defined_shown c.as_slice.ensures.value ∙ c.in_ok-defined.ensures)
    (c.in_ok-progress.ensures.done files e))
    (ap (λ (d : Desk). known d.names) c.in_ok-push_node.ensures.others ∙ c.in_ok-read_rest.ensures.names)
    (ap (λ (d : Desk). d.lanes.items) c.in_ok-push_node.ensures.others ∙ c.in_ok-read_rest.ensures.lanes)
    (c.in_ok-push_node.ensures.ok
    ∙ ap (λ (v : Vec ℕ Global). v.items ++ (c.len-node.result ∷ [])) c.in_ok-read_rest.ensures.nodes)
    (c.in_ok-read_rest.ensures.done files (c.read_all_defined.ensures.held ∙ e))
    (c.in_ok-add_class.ensures.ok ∙ ap (with_class (course_view c.read_rest.new.course)) c.class_of.ensures)

pub read_all_defined-loop-element-init : goal.read_all_defined-loop-element-init
read_all_defined-loop-element-init g n c =
    let here = open_view c.args.here.now in
    let desk = desk_view (shown c.args.before.now) c.args.desk.now in
    let piece = piece_view c.args.piece.now in
    record {
      same = refl;
      later = omega (arith);
      completes = λ files e told last read.
          subst (λ (nodes : List HeldSettled). IsToldRead files here c.args.room desk c.args.node piece
          (map settled_view nodes) 0 (course_view c.args.course.now) (defined_shown c.args.defined.now) told last)
          c.new.ensures.items read;
    }

pub read_all_defined-loop-element-preserved : goal.read_all_defined-loop-element-preserved
read_all_defined-loop-element-preserved g n c =
    let here = open_view c.args.here.now in
    let desk = desk_view (shown c.args.before.now) c.args.desk.now in
    let piece = piece_view c.args.piece.now in
    record {
      same = c.read_next_defined.ensures.held ∙ c.loop-element.invariant.same;
      later = omega (arith, c.read_next_defined.ensures.cause.later, c.loop-element.invariant.later);
      completes = λ files e told last read.
          c.loop-element.invariant.completes files e told last
          (defined_more files here c.args.room desk c.args.node piece c.args.defined.now c.loop-element.element-index
          c.element-item.result (map settled_view c.loop-element.progress.settled.items)
          (map settled_view c.read_next_defined.new.progress.settled.items) c.loop-element.progress.done
          c.read_next_defined.new.progress.done (course_view c.loop-element.course)
          (course_view c.read_next_defined.new.course) told last c.loop-element-test.true c.element-item.is
          (c.in_ok-read_next_defined.ensures.done files (c.loop-element.invariant.same ∙ e)) read);
    }

pub read_all_defined-returns-clause-done : goal.read_all_defined-returns-clause-done
read_all_defined-returns-clause-done g n c = λ files e told last read.
    let here = open_view c.args.here.now in
    let desk = desk_view (shown c.args.before.now) c.args.desk.now in
    let piece = piece_view c.args.piece.now in
    c.loop-element.invariant.completes files e told last
    (none_defined files here c.args.room desk c.args.node piece c.args.defined.now c.loop-element.element-index
    (map settled_view c.loop-element.progress.settled.items) c.loop-element.progress.done
    (course_view c.loop-element.course) told last c.loop-element-test.false read)

pub read_next_defined-returns-clause-done : goal.read_next_defined-returns-clause-done
read_next_defined-returns-clause-done g n c = λ files e.
    let here = open_view c.args.here.now in
    let before = shown c.args.before.now in
    let desk = desk_view before c.args.desk.now in
    let trial = desk_view before c.in_ok-trial.trial in
    let piece = piece_view c.args.piece.now in
    let settled = map settled_view c.args.progress.now.settled.items in
    let lent : map settled_view c.as_slice-settled.result.now ≡ settled =
    ap (λ (l : List HeldSettled). map settled_view l) c.as_slice-settled.ensures.value in
    let acts = c.in_ok-acts.acts.items in
    let done = c.args.progress.now.done in
    next_read files here c.args.room desk trial c.args.node piece (defined_view c.args.element.now) settled
    (map settled_view c.settle.new.progress.settled.items) done c.settle.new.progress.done
    (course_view c.args.course.now) (course_view c.do_acts.new.course) (course_view c.read_defined.new.course) acts
    c.in_ok-acts-2.acts.items (known c.tell_piece.new.desk.names) (known c.in_ok-names.names)
    (c.in_ok-trial.ensures before)
    (c.in_ok-acts.ensures.acts ∙ ap (λ (s : List Settled). (told_in here trial s c.args.node piece).acts) lent)
    (c.in_ok-acts.ensures.names ∙ ap (λ (s : List Settled). (told_in here trial s c.args.node piece).names) lent)
    (c.in_ok-settle.ensures.done ∙ (c.acts_before-count.ensures ∙ ap acts_before c.as_slice.ensures.value))
    (c.in_ok-acts-2.ensures ∙ ap (λ n. drop done (take n acts)) (sym c.in_ok-settle.ensures.done))
    (c.in_ok-do_acts.ensures.done files e) (c.in_ok-names.ensures.done files (c.do_acts.ensures.held ∙ e))
    c.in_ok-settle.ensures.settled

pub read_defined-returns-then-room-eq0-clause-done : goal.read_defined-returns-then-room-eq0-clause-done
read_defined-returns-then-room-eq0-clause-done g n c = λ files e.
    deep_read files (open_view c.args.here.now) c.args.room (known c.args.names) (course_view c.args.course.now)
    (course_view c.add_flaw.new.course) (defined_view c.args.element.now) (omega (arith, c.if-room-eq0.true))
    (c.in_ok-add_flaw.ensures.ok
    ∙ ap (λ (place : Place). with_flaw (course_view c.args.course.now) place flaw.Limit) c.place_in.ensures)

pub read_defined-returns-clause-done : goal.read_defined-returns-clause-done
read_defined-returns-clause-done g n c = λ files e.
    inside_read files (open_view c.args.here.now) c.args.room (c.args.room - 1) (known c.args.names)
    (known c.read_pieces.new.desk.names) (desk_view [] c.desk_with-desk.result) (course_view c.args.course.now)
    (course_view c.read_pieces.new.course) (defined_view c.args.element.now) (shown c.as_slice.result.now)
    (omega (arith, c.if-room-eq0.false)) c.desk_with-desk.ensures
    (ap shown c.as_slice.ensures.value ∙ c.in_ok-pieces.ensures) (c.in_ok-read_pieces.ensures.done files e)
