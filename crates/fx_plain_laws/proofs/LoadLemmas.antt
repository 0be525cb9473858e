-- The documents of a scene are read in one way, and the files of a run are loaded in one.
use Rattle.std.proofs.Common.{◌≡◌, ◌∙◌, ℕ, false, List, [], ◌∷◌, ◌++◌, drop, length, refl, sym, ap, Ok, Err, arith}
use Rattle.fx_base.specs.declared.positions.Position.{Position}
use Rattle.fx_doc_grammar.specs.Grammar.{Head, Reading}
use Rattle.fx_load.specs.Loading.{all_read, course_before, loaded_by, scene_refused, script_refused, sheet_refused}
use Rattle.fx_port.specs.Files.{Files}
use Rattle.fx_scene_acts.specs.declared.tasks.Task.{Task}
use Rattle.fx_scene_course.specs.Courses.{Course, place_in, with_class, with_fault_in, with_file, with_flaw, with_space}
use Rattle.fx_scene_course.specs.Making.{acts_before, acts_between}
use Rattle.fx_scene_course.specs.Opens.{Open, inner, outermost}
use Rattle.fx_scene_elements.specs.Elements.{Told}
use Rattle.fx_scene_flaws.specs.declared.flaws.Flaw.{Flaw}
use Rattle.fx_scene_flaws.specs.declared.flaws.Flaw.TheVariants as flaw
use Rattle.fx_scene_load.specs.Asking.{asked_of}
use Rattle.fx_scene_load.specs.Documents.{document_in}
use Rattle.fx_scene_load.specs.Reading.{ArePiecesRead, Desk, IsDefinedRead, IsDocumentRead, IsIncludeRead, IsPieceRead, IsSceneRead, IsToldRead, IsWantedRead, all_tasks, class_of, defined_read, desk_behind, desk_with, document_read, empty_desk, include_acts, include_names, include_piece, include_stand, included, is_include, misplaced, most_levels, no_pieces, one_piece, pieces_end, plain_piece, refused, roomed, scene_read, told_in, told_up_to, told_whole, too_deep, unread, wanted}
use Rattle.fx_scene_load.specs.declared.asking.Asked.{Asked}
use Rattle.fx_scene_load.specs.declared.asking.Asked.TheVariants.{Misplaced, Refused, Wanted}
use Rattle.fx_scene_outline.specs.Defined.{Defined, defined_nodes}
use Rattle.fx_scene_outline.specs.Outlines.{aside_outline, outline}
use Rattle.fx_scene_outline.specs.Pieces.{Include, Piece}
use Rattle.fx_scene_outline.specs.declared.pieces.Seat.{Seat}
use Rattle.fx_scene_read.specs.declared.opening.Stand.{Stand}
use Rattle.fx_scene_things.specs.Names.{Names}
use Rattle.fx_scene_things.specs.Settled.{Settled, settled_of}
use Rattle.fx_plain_laws.specs.Loadings.{OneLoading}
use Rattle.fx_plain_laws.proofs.ActLemmas.{acts_one, not_at_fault}
use Rattle.fx_plain_laws.proofs.AnswerLemmas.{both_err, both_ok, ok_err}
use Rattle.fx_plain_laws.proofs.SheetLemmas.{sheets_one}
use Rattle.fx_plain_laws.proofs.SlotLemmas.{first_or, nothing_there, others_of}

-- ---- what an include asks for, and where it stands
seat_or : Seat → Piece → Seat
seat_or default (Include seat head) = seat
seat_or default other = default

head_or : Head → Piece → Head
head_or default (Include seat head) = head
head_or default other = default

same_seat : (one other : Seat) (head also : Head) → Include one head ≡ Include other also → one ≡ other
unfolding seat_or
same_seat one other head also same = ap (seat_or one) same

same_head : (one other : Seat) (head also : Head) → Include one head ≡ Include other also → head ≡ also
unfolding head_or
same_head one other head also same = ap (head_or head) same

no_include : (piece : Piece) (seat : Seat) (head : Head) → is_include piece ≡ false → piece ≡ Include seat head → ⊥
no_include piece seat head not_one same =
    let flag : is_include piece ≡ is_include (Include seat head) = ap is_include same in absurd (cc)

abbrev misplaced_or : Flaw → Asked → Flaw
misplaced_or default (Misplaced mistake) = mistake
misplaced_or default other = default

abbrev refused_or : Flaw → Asked → Flaw
refused_or default (Refused mistake place) = mistake
refused_or default other = default

abbrev refused_at : Position → Asked → Position
refused_at default (Refused mistake place) = place
refused_at default other = default

abbrev wanted_or : List ℕ → Asked → List ℕ
wanted_or default (Wanted target) = target
wanted_or default other = default

-- what is read of a document: the names behind it, and the course
IsOneReading : Names → Names → Course → Course → Type 0
IsOneReading names called last end = (names ≡ called) × (last ≡ end)

mutual
  document_one : (files : Files) (here there : Open) (course start : Course) (document reading : Reading) (last end : Course)
      (one : IsDocumentRead files here course document last) (other : IsDocumentRead files there start reading end)
      → here ≡ there → course ≡ start → document ≡ reading → last ≡ end
  document_one files here there course start document reading last end (document_read h c l d names pieces)
      (document_read g b m e called parts) place same is =
      let read = pieces_one files h g most_levels most_levels empty_desk empty_desk c b (outline d) (outline e) names called l m pieces
      parts place refl refl same (ap outline is) in
      λ i. with_space (read.1 i) (place i).file (read.0 i)

  pieces_one : (files : Files) (here there : Open) (room space : ℕ) (desk table : Desk) (course start : Course)
      (pieces parts : List Piece) (names called : Names) (last end : Course)
      (one : ArePiecesRead files here room desk course pieces names last)
      (other : ArePiecesRead files there space table start parts called end) → here ≡ there → room ≡ space → desk ≡ table
      → course ≡ start → pieces ≡ parts → (names ≡ called) × (last ≡ end)
  pieces_one files here there room space desk table course start pieces parts names called last end (no_pieces h r d c)
      (no_pieces g s t b) place rooms desks same all =
      ((λ i. (desks i).names), same)
  pieces_one files here there room space desk table course start pieces parts names called last end (no_pieces h r d c)
      (pieces_end g s t b ps bad) place rooms desks same all =
      ((λ i. (desks i).names), same)
  pieces_one files here there room space desk table course start pieces parts names called last end (no_pieces h r d c)
      (one_piece g s t u b n e p ps called_by good read more) place rooms desks same all =
      absurd (nothing_there p ps all)
  pieces_one files here there room space desk table course start pieces parts names called last end (pieces_end h r d c ps bad)
      (no_pieces g s t b) place rooms desks same all =
      ((λ i. (desks i).names), same)
  pieces_one files here there room space desk table course start pieces parts names called last end (pieces_end h r d c ps bad)
      (pieces_end g s t b qs worse) place rooms desks same all =
      ((λ i. (desks i).names), same)
  pieces_one files here there room space desk table course start pieces parts names called last end (pieces_end h r d c ps bad)
      (one_piece g s t u b n e p qs called_by good read more) place rooms desks same all =
      absurd (not_at_fault c b bad good same)
  pieces_one files here there room space desk table course start pieces parts names called last end
      (one_piece h r d f c n l p ps known good read more) (no_pieces g s t b) place rooms desks same all =
      absurd (nothing_there p ps (sym all))
  pieces_one files here there room space desk table course start pieces parts names called last end
      (one_piece h r d f c n l p ps known good read more) (pieces_end g s t b qs bad) place rooms desks same all =
      absurd (not_at_fault b c bad good (sym same))
  pieces_one files here there room space desk table course start pieces parts names called last end
      (one_piece h r d f c n l p ps known good read more) (one_piece g s t u b m e q qs called_by well reads rest) place rooms desks
      same all =
      let first = piece_one files h g r s d t c b p q f u n m read reads place rooms desks same (ap (first_or p) all) in
      pieces_one files h g r s f u n m ps qs known called_by l e more rest place rooms first.0 first.1 (ap others_of all)

  piece_one : (files : Files) (here there : Open) (room space : ℕ) (desk table : Desk) (course start : Course)
      (piece part : Piece) (further beyond : Desk) (next behind : Course)
      (one : IsPieceRead files here room desk course piece further next)
      (other : IsPieceRead files there space table start part beyond behind) → here ≡ there → room ≡ space → desk ≡ table
      → course ≡ start → piece ≡ part → (further ≡ beyond) × (next ≡ behind)
  piece_one files here there room space desk table course start piece part further beyond next behind
      (plain_piece h r d c n p told plain read) (plain_piece g s t b m q tells not_one reads) place rooms desks same is =
      let all = told_one files h g r s d t (length c.classes) (length b.classes) p q [] [] 0 0 c b (defined_nodes p) (defined_nodes q)
      told tells n m read reads place rooms desks (λ i. length (same i).classes) is refl refl same (ap defined_nodes is) in (
        (λ i. desk_behind (desks i) (is i) (length (same i).classes) (all.0 i).names (all.0 i).lanes),
        (λ i. with_class (all.1 i) (class_of (is i))),
      )
  piece_one files here there room space desk table course start piece part further beyond next behind
      (plain_piece h r d c n p told plain read) (include_piece g s t b m seat head names reads) place rooms desks same is =
      absurd (no_include p seat head plain is)
  piece_one files here there room space desk table course start piece part further beyond next behind
      (include_piece h r d c n seat head names read) (plain_piece g s t b m q tells not_one reads) place rooms desks same is =
      absurd (no_include q seat head not_one (sym is))
  piece_one files here there room space desk table course start piece part further beyond next behind
      (include_piece h r d c n seat head names read) (include_piece g s t b m spot title called reads) place rooms desks same is =
      let all = include_one files h g d t c b seat spot head title names called n m read reads place desks same
      (same_seat seat spot head title is) (same_head seat spot head title is) in
      ((λ i. desk_behind (desks i) (is i) (length (same i).classes) (all.0 i) []), all.1)

  told_one : (files : Files) (here there : Open) (room space : ℕ) (desk table : Desk) (node key : ℕ) (piece part : Piece)
      (settled known : List Settled) (done made : ℕ) (course start : Course) (nodes others : List Defined) (told tells : Told)
      (last end : Course) (one : IsToldRead files here room desk node piece settled done course nodes told last)
      (other : IsToldRead files there space table key part known made start others tells end) → here ≡ there → room ≡ space
      → desk ≡ table → node ≡ key → piece ≡ part → settled ≡ known → done ≡ made → course ≡ start → nodes ≡ others
      → (told ≡ tells) × (last ≡ end)
  told_one files here there room space desk table node key piece part settled known done made course start nodes others told tells
      last end (told_whole h r d k p s n c l acts) (told_whole g v t j q y m b e deeds) place rooms desks keys is nodes_are counts same
      all =
      let words : told_in h d s k p ≡ told_in g t y j q = λ i. told_in (place i) (desks i) (nodes_are i) (keys i) (is i) in (
        words,
        acts_one files h g c b (drop n (told_in h d s k p).acts) (drop m (told_in g t y j q).acts) l e acts deeds place same
            (λ i. drop (counts i) (words i).acts),
      )
  told_one files here there room space desk table node key piece part settled known done made course start nodes others told tells
      last end (told_whole h r d k p s n c l acts) (told_up_to g v t j q y m b x z e node_of more names told_of deeds read reads) place
      rooms desks keys is nodes_are counts same all =
      absurd (nothing_there node_of more all)
  told_one files here there room space desk table node key piece part settled known done made course start nodes others told tells
      last end (told_up_to h r d k p s n c x z l node_of more names told_of acts read reads) (told_whole g v t j q y m b e deeds) place
      rooms desks keys is nodes_are counts same all =
      absurd (nothing_there node_of more (sym all))
  told_one files here there room space desk table node key piece part settled known done made course start nodes others told tells
      last end (told_up_to h r d k p s n c x z l node_of more names told_of acts read reads)
      (told_up_to g v t j q y m b u w e defined rest called tells_of deeds goes gone) place rooms desks keys is nodes_are counts same
      all =
      let words : told_in h d s k p ≡ told_in g t y j q = λ i. told_in (place i) (desks i) (nodes_are i) (keys i) (is i) in
      let one : node_of ≡ defined = ap (first_or node_of) all in
      let middle = acts_one files h g c b (acts_between n (told_in h d s k p).acts) (acts_between m (told_in g t y j q).acts) x u acts
      deeds place same (λ i. acts_between (counts i) (words i).acts) in
      let found = defined_one files h g r v (told_in h d s k p).names (told_in g t y j q).names x u node_of defined names called z w
      read goes place rooms (λ i. (words i).names) middle one in
      told_one files h g r v d t k j p q (s ++ (settled_of node_of.head.position names ∷ []))
      (y ++ (settled_of defined.head.position called ∷ [])) (acts_before (told_in h d s k p).acts)
      (acts_before (told_in g t y j q).acts) z w more rest told_of tells_of l e reads gone place rooms desks keys is
      (λ i. nodes_are i ++ (settled_of (one i).head.position (found.0 i) ∷ [])) (λ i. acts_before (words i).acts) found.1
      (ap others_of all)

  defined_one : (files : Files) (here there : Open) (room space : ℕ) (names called : Names) (course start : Course)
      (defined other_one : Defined) (behind beyond : Names) (last end : Course)
      (one : IsDefinedRead files here room names course defined behind last)
      (other : IsDefinedRead files there space called start other_one beyond end) → here ≡ there → room ≡ space
      → names ≡ called → course ≡ start → defined ≡ other_one → (behind ≡ beyond) × (last ≡ end)
  defined_one files here there room space names called course start defined other_one behind beyond last end (too_deep h n c d)
      (too_deep g m b e) place rooms known same is =
      (known, (λ i. with_flaw (same i) (place_in (place i).file (is i).head.position) flaw.Limit))
  defined_one files here there room space names called course start defined other_one behind beyond last end (too_deep h n c d)
      (defined_read g s m z b l e read) place rooms known same is =
      absurd (omega (arith, rooms))
  defined_one files here there room space names called course start defined other_one behind beyond last end
      (defined_read h r n y c l d read) (too_deep g m b e) place rooms known same is =
      absurd (omega (arith, rooms))
  defined_one files here there room space names called course start defined other_one behind beyond last end
      (defined_read h r n y c l d read) (defined_read g s m z b k e reads) place rooms known same is =
      pieces_one files h g r s (desk_with n) (desk_with m) c b (aside_outline d.head d.content) (aside_outline e.head e.content) y z l
      k read reads place (omega (arith, rooms)) (ap desk_with known) same (λ i. aside_outline (is i).head (is i).content)

  include_one : (files : Files) (here there : Open) (desk table : Desk) (course start : Course) (seat spot : Seat)
      (head title : Head) (names called : Names) (last end : Course)
      (one : IsIncludeRead files here desk course seat head names last)
      (other : IsIncludeRead files there table start spot title called end) → here ≡ there → desk ≡ table → course ≡ start
      → seat ≡ spot → head ≡ title → (names ≡ called) × (last ≡ end)
  include_one files here there desk table course start seat spot head title names called last end
      (misplaced h d c s t mistake is) (misplaced g e b u v error also) place desks same seats heads =
      let asks = sym is ∙ ((λ i. asked_of (place i) (seats i) (heads i) (length (same i).files)) ∙ also) in (
        (λ i. (desks i).names),
        (λ i. with_flaw (same i) (place_in (place i).file (heads i).position) (ap (misplaced_or mistake) asks i)),
      )
  include_one files here there desk table course start seat spot head title names called last end
      (misplaced h d c s t mistake is) (refused g e b u v error at also) place desks same seats heads =
      let asks = sym is ∙ ((λ i. asked_of (place i) (seats i) (heads i) (length (same i).files)) ∙ also) in absurd (cc)
  include_one files here there desk table course start seat spot head title names called last end
      (misplaced h d c s t mistake is) (wanted g e b l u v target known also read) place desks same seats heads =
      let asks = sym is ∙ ((λ i. asked_of (place i) (seats i) (heads i) (length (same i).files)) ∙ also) in absurd (cc)
  include_one files here there desk table course start seat spot head title names called last end
      (refused h d c s t mistake at is) (misplaced g e b u v error also) place desks same seats heads =
      let asks = sym is ∙ ((λ i. asked_of (place i) (seats i) (heads i) (length (same i).files)) ∙ also) in absurd (cc)
  include_one files here there desk table course start seat spot head title names called last end
      (refused h d c s t mistake at is) (refused g e b u v error where_at also) place desks same seats heads =
      let asks = sym is ∙ ((λ i. asked_of (place i) (seats i) (heads i) (length (same i).files)) ∙ also) in (
        (λ i. (desks i).names),
        (λ i. with_flaw (roomed (place i) (desks i) (same i) (seats i) (heads i))
            (place_in (place i).file (ap (refused_at at) asks i)) (ap (refused_or mistake) asks i)),
      )
  include_one files here there desk table course start seat spot head title names called last end
      (refused h d c s t mistake at is) (wanted g e b l u v target known also read) place desks same seats heads =
      let asks = sym is ∙ ((λ i. asked_of (place i) (seats i) (heads i) (length (same i).files)) ∙ also) in absurd (cc)
  include_one files here there desk table course start seat spot head title names called last end
      (wanted h d c l s t target known is read) (misplaced g e b u v error also) place desks same seats heads =
      let asks = sym is ∙ ((λ i. asked_of (place i) (seats i) (heads i) (length (same i).files)) ∙ also) in absurd (cc)
  include_one files here there desk table course start seat spot head title names called last end
      (wanted h d c l s t target known is read) (refused g e b u v error at also) place desks same seats heads =
      let asks = sym is ∙ ((λ i. asked_of (place i) (seats i) (heads i) (length (same i).files)) ∙ also) in absurd (cc)
  include_one files here there desk table course start seat spot head title names called last end
      (wanted h d c l s t target known is read) (wanted g e b m u v goal knows also reads) place desks same seats heads =
      let asks = sym is ∙ ((λ i. asked_of (place i) (seats i) (heads i) (length (same i).files)) ∙ also) in
      wanted_one files h g d e (include_stand h d s) (include_stand g e u) (roomed h d c s t) (roomed g e b u v) t v target goal known
      knows l m read reads place desks (λ i. include_stand (place i) (desks i) (seats i))
      (λ i. roomed (place i) (desks i) (same i) (seats i) (heads i)) heads (ap (wanted_or target) asks)

  wanted_one : (files : Files) (here there : Open) (desk table : Desk) (spot stands : Stand) (course start : Course)
      (head title : Head) (target goal : List ℕ) (names called : Names) (last end : Course)
      (one : IsWantedRead files here desk spot course head target names last)
      (other : IsWantedRead files there table stands start title goal called end) → here ≡ there → desk ≡ table
      → spot ≡ stands → course ≡ start → head ≡ title → target ≡ goal → (names ≡ called) × (last ≡ end)
  wanted_one files here there desk table spot stands course start head title target goal names called last end
      (unread h d s c t w fault is) (unread g e z b v x flaw_of also) place desks spots same heads targets =
      let same_fault : fault ≡ flaw_of =
      both_err fault flaw_of (sym is ∙ ((λ i. document_in files (length (same i).files) (targets i)) ∙ also)) in (
        (λ i. (desks i).names),
        (λ i. with_fault_in (with_file (same i) (targets i)) (length (same i).files) (same_fault i)),
      )
  wanted_one files here there desk table spot stands course start head title target goal names called last end
      (unread h d s c t w fault is) (included g e z b m l v x document also read done) place desks spots same heads targets =
      absurd (ok_err document fault (sym (sym is ∙ ((λ i. document_in files (length (same i).files) (targets i)) ∙ also))))
  wanted_one files here there desk table spot stands course start head title target goal names called last end
      (included h d s c m l t w document is read done) (unread g e z b v x fault also) place desks spots same heads targets =
      absurd (ok_err document fault (sym is ∙ ((λ i. document_in files (length (same i).files) (targets i)) ∙ also)))
  wanted_one files here there desk table spot stands course start head title target goal names called last end
      (included h d s c m l t w document is read done) (included g e z b n k v x reading also reads did) place desks spots same heads
      targets =
      let text : document ≡ reading =
      both_ok document reading (sym is ∙ ((λ i. document_in files (length (same i).files) (targets i)) ∙ also)) in
      let middle = document_one files (inner h d.names t.attributes s (length c.files) w document)
      (inner g e.names v.attributes z (length b.files) x reading) (with_file c w) (with_file b x) document reading m n read reads
      (λ i. inner (place i) (desks i).names (heads i).attributes (spots i) (length (same i).files) (targets i) (text i))
      (λ i. with_file (same i) (targets i)) text in (
        (λ i. include_names (desks i) (middle i) (length (same i).classes) (length (same i).files) (heads i)),
        acts_one files h g m n (include_acts h d m (length c.classes) t) (include_acts g e n (length b.classes) v) l k done did place
            middle (λ i. include_acts (place i) (desks i) (middle i) (length (same i).classes) (heads i)),
      )

scene_one : (files : Files) (file : ℕ) (name : List ℕ) (first start : Course) (document reading : Reading)
    (tasks works : List Task) (names called : List (List ℕ)) (one : IsSceneRead files file name first document tasks names)
    (other : IsSceneRead files file name start reading works called) → first ≡ start → document ≡ reading
    → (tasks ≡ works) × (names ≡ called)
scene_one files file name first start document reading tasks works names called (scene_read last read) (scene_read end reads) same is =
    let course = document_one files (outermost file name document) (outermost file name reading) first start document reading last end
    read reads (ap (outermost file name) is) same is in
    (ap all_tasks course, ap (λ (c : Course). c.files) course)

pub one_loading : OneLoading
one_loading run files answer other (script_refused fault is) (script_refused bad also) =
    ap Err (both_err fault bad (sym is ∙ also))
one_loading run files answer other (script_refused fault is) (sheet_refused lines bad also sheets) =
    absurd (ok_err lines fault (sym also ∙ is))
one_loading run files answer other (script_refused fault is) (scene_refused lines sheets bad also read wrong) =
    absurd (ok_err lines fault (sym also ∙ is))
one_loading run files answer other (script_refused fault is) (all_read lines sheets document tasks names also read text scene) =
    absurd (ok_err lines fault (sym also ∙ is))
one_loading run files answer other (sheet_refused lines fault is sheets) (script_refused bad also) =
    absurd (ok_err lines bad (sym is ∙ also))
one_loading run files answer other (sheet_refused lines fault is sheets) (sheet_refused others bad also pages) =
    ap Err (both_err fault bad (sheets_one files 0 0 run.sheets run.sheets (Err fault) (Err bad) sheets pages refl refl))
one_loading run files answer other (sheet_refused lines fault is sheets) (scene_refused others found bad also pages wrong) =
    absurd (ok_err found fault (sheets_one files 0 0 run.sheets run.sheets (Ok found) (Err fault) pages sheets refl refl))
one_loading run files answer other (sheet_refused lines fault is sheets) (all_read others found document tasks names also pages text scene) =
    absurd (ok_err found fault (sheets_one files 0 0 run.sheets run.sheets (Ok found) (Err fault) pages sheets refl refl))
one_loading run files answer other (scene_refused lines found fault is pages wrong) (script_refused bad also) =
    absurd (ok_err lines bad (sym is ∙ also))
one_loading run files answer other (scene_refused lines found fault is pages wrong) (sheet_refused others bad also sheets) =
    absurd (ok_err found bad (sheets_one files 0 0 run.sheets run.sheets (Ok found) (Err bad) pages sheets refl refl))
one_loading run files answer other (scene_refused lines found fault is pages wrong) (scene_refused others sheets bad also read faulty) =
    ap Err (both_err fault bad (sym wrong ∙ faulty))
one_loading run files answer other (scene_refused lines found fault is pages wrong) (all_read others sheets document tasks names also read text scene) =
    absurd (ok_err document fault (sym text ∙ wrong))
one_loading run files answer other (all_read lines found document tasks names is pages text scene) (script_refused bad also) =
    absurd (ok_err lines bad (sym is ∙ also))
one_loading run files answer other (all_read lines found document tasks names is pages text scene) (sheet_refused others bad also sheets) =
    absurd (ok_err found bad (sheets_one files 0 0 run.sheets run.sheets (Ok found) (Err bad) pages sheets refl refl))
one_loading run files answer other (all_read lines found document tasks names is pages text scene)
    (scene_refused others sheets bad also read faulty) =
    absurd (ok_err document bad (sym text ∙ faulty))
one_loading run files answer other (all_read lines found document tasks names is pages text scene)
    (all_read others sheets reading works called also read texts played) =
    let script : lines ≡ others = both_ok lines others (sym is ∙ also) in
    let all : found ≡ sheets =
    both_ok found sheets (sheets_one files 0 0 run.sheets run.sheets (Ok found) (Ok sheets) pages read refl refl) in
    let one : document ≡ reading = both_ok document reading (sym text ∙ texts) in
    let tasks_are = scene_one files (length run.sheets) run.scene (course_before run found) (course_before run sheets) document reading
    tasks works names called scene played (ap (course_before run) all) one in
    λ i. Ok (loaded_by (tasks_are.0 i) (tasks_are.1 i) (script i))
