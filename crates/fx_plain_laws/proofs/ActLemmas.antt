-- What is done for the acts of a document is one.
use Rattle.std.proofs.Common.{◌≡◌, ◌∙◌, ℕ, true, false, List, length, refl, sym, ap, subst, Option, Some, None, Ok, Err, arith}
use Rattle.fx_base.specs.declared.positions.Place.{Place}
use Rattle.fx_base.specs.declared.positions.Position.{Position}
use Rattle.fx_css_types.specs.declared.sheets.Sheet.{Sheet}
use Rattle.fx_port.specs.Files.{Files}
use Rattle.fx_scene_acts.specs.declared.acts.Act.{Act}
use Rattle.fx_scene_acts.specs.declared.acts.Deed.{Deed}
use Rattle.fx_scene_acts.specs.declared.acts.Deed.TheVariants as deed
use Rattle.fx_scene_flaws.specs.declared.flaws.Flaw.TheVariants as flaw
use Rattle.fx_scene_course.specs.Courses.{Course, place_in, with_binding, with_fault_in, with_file, with_flaw, with_step}
use Rattle.fx_scene_course.specs.Making.{AreActsDone, IsActDone, IsSheetAdded, acts_end, bad_location, binding_kept, flaw_told, no_acts, node_passed, one_act, one_too_many, sheet_located, sheet_named, sheet_read, sheet_refused, step_taken, with_read}
use Rattle.fx_scene_course.specs.Opens.{Open, step_in}
use Rattle.fx_scene_places.specs.Places.{joined}
use Rattle.fx_plain_laws.proofs.AnswerLemmas.{both_err, both_ok, ok_err}
use Rattle.fx_plain_laws.proofs.SheetLemmas.{sheet_one}
use Rattle.fx_plain_laws.proofs.SlotLemmas.{first_or, nothing_there, others_of}

added_one : (files : Files) (place : Place) (node : ℕ) (target : List ℕ) (course next other : Course)
    → IsSheetAdded files place node target course next → IsSheetAdded files place node target course other → next ≡ other
added_one files place node target course next other (one_too_many many) (one_too_many most) = refl
added_one files place node target course next other (one_too_many many) (sheet_refused fault few is) =
    absurd (omega (arith, many, few))
added_one files place node target course next other (one_too_many many) (sheet_read sheet few is) =
    absurd (omega (arith, many, few))
added_one files place node target course next other (sheet_refused fault few is) (one_too_many many) =
    absurd (omega (arith, many, few))
added_one files place node target course next other (sheet_refused fault few is) (sheet_refused bad less also) =
    ap (with_fault_in (with_file course target) (length course.files))
    (both_err fault bad (sheet_one files (length course.files) target (Err fault) (Err bad) is also))
added_one files place node target course next other (sheet_refused fault few is) (sheet_read sheet less also) =
    absurd (ok_err sheet fault (sheet_one files (length course.files) target (Ok sheet) (Err fault) also is))
added_one files place node target course next other (sheet_read sheet few is) (one_too_many many) =
    absurd (omega (arith, many, few))
added_one files place node target course next other (sheet_read sheet few is) (sheet_refused fault less also) =
    absurd (ok_err sheet fault (sheet_one files (length course.files) target (Ok sheet) (Err fault) is also))
added_one files place node target course next other (sheet_read sheet few is) (sheet_read page less also) =
    ap (λ (s : Sheet). with_read place node s (with_file course target))
    (both_ok sheet page (sheet_one files (length course.files) target (Ok sheet) (Ok page) is also))

-- what is done for an act, by its deed
abbrev Located : Files → Place → ℕ → Option (List ℕ) → Course → Course → Type 0
Located files place node None course next = next ≡ with_flaw course place flaw.Value
Located files place node (Some target) course next = IsSheetAdded files place node target course next

abbrev Does : Files → Open → Course → Position → Deed → Course → Type 0
Does files here course place (deed.Step step) next = next ≡ with_step course (place_in here.file place) (step_in here step)
Does files here course place (deed.Flaw mistake) next = next ≡ with_flaw course (place_in here.file place) mistake
Does files here course place (deed.Sheet node location) next =
    Located files (place_in here.file place) node (joined here.name location) course next
Does files here course place (deed.File node name) next =
    IsSheetAdded files (place_in here.file place) node name course next
Does files here course place (deed.Bind binding) next =
    next ≡ with_binding course (place_in here.file place) binding
Does files here course place deed.Node next = next ≡ course

done_does : (files : Files) (here : Open) (course : Course) (act : Act) (next : Course)
    → IsActDone files here course act next → Does files here course act.place act.deed next
done_does files here course act next (step_taken place step) = refl
done_does files here course act next (flaw_told place mistake) = refl
done_does files here course act next (binding_kept place binding) = refl
done_does files here course act next (bad_location place node location none) =
    subst (λ (found : Option (List ℕ)). Located files (place_in here.file place) node found course next) (sym none) refl
done_does files here course act next (sheet_located place node location target mid some added) =
    subst (λ (found : Option (List ℕ)). Located files (place_in here.file place) node found course mid) (sym some) added
done_does files here course act next (sheet_named place node name rest added) = added
done_does files here course act next (node_passed place) = refl

located_one : (files : Files) (place : Place) (node : ℕ) (found : Option (List ℕ)) (course next other : Course)
    → Located files place node found course next → Located files place node found course other → next ≡ other
located_one files place node None course next other one also = one ∙ sym also
located_one files place node (Some target) course next other one also =
    added_one files place node target course next other one also

does_one : (files : Files) (here : Open) (course : Course) (place : Position) (done : Deed) (next other : Course)
    → Does files here course place done next → Does files here course place done other → next ≡ other
does_one files here course place (deed.Step step) next other one also = one ∙ sym also
does_one files here course place (deed.Flaw mistake) next other one also = one ∙ sym also
does_one files here course place (deed.Sheet node location) next other one also =
    located_one files (place_in here.file place) node (joined here.name location) course next other one also
does_one files here course place (deed.File node name) next other one also =
    added_one files (place_in here.file place) node name course next other one also
does_one files here course place (deed.Bind binding) next other one also = one ∙ sym also
does_one files here course place deed.Node next other one also = one ∙ sym also

act_one : (files : Files) (here there : Open) (course start : Course) (act deeds : Act) (next other : Course) → here ≡ there
    → course ≡ start → act ≡ deeds → IsActDone files here course act next → IsActDone files there start deeds other
    → next ≡ other
act_one files here there course start act deeds next other place same is one also =
    let back = subst (λ (at : Open × Course × Act). IsActDone files at.0 at.1 at.2 other)
    (λ i. (sym place i, sym same i, sym is i)) also in
    does_one files here course act.place act.deed next other (done_does files here course act next one)
    (done_does files here course act other back)

pub not_at_fault : (course start : Course) → course.at_fault ≡ true → start.at_fault ≡ false → course ≡ start → ⊥
not_at_fault course start bad good same =
    let flag : course.at_fault ≡ start.at_fault = ap (λ (c : Course). c.at_fault) same in absurd (cc)

pub acts_one : (files : Files) (here there : Open) (course start : Course) (acts others : List Act) (last end : Course)
    (one : AreActsDone files here course acts last) (other : AreActsDone files there start others end) → here ≡ there
    → course ≡ start → acts ≡ others → last ≡ end
acts_one files here there course start acts others last end (no_acts c) (no_acts b) place same all = same
acts_one files here there course start acts others last end (no_acts c) (acts_end b acs bad) place same all = same
acts_one files here there course start acts others last end (no_acts c) (one_act b next fin act acs good did more) place same all =
    absurd (nothing_there act acs all)
acts_one files here there course start acts others last end (acts_end c acs bad) (no_acts b) place same all = same
acts_one files here there course start acts others last end (acts_end c acs bad) (acts_end b bs worse) place same all = same
acts_one files here there course start acts others last end (acts_end c acs bad) (one_act b next fin act bs good did more) place same all =
    absurd (not_at_fault c b bad good same)
acts_one files here there course start acts others last end (one_act c next fin act acs good done rest) (no_acts b) place same all =
    absurd (nothing_there act acs (sym all))
acts_one files here there course start acts others last end (one_act c next fin act acs good done rest) (acts_end b bs bad) place same all =
    absurd (not_at_fault b c bad good (sym same))
acts_one files here there course start acts others last end (one_act c next fin act acs good done rest)
    (one_act b mid stop deeds bs well did more) place same all =
    let first : next ≡ mid = act_one files here there c b act deeds next mid place same (ap (first_or act) all) done did in
    acts_one files here there next mid acs bs fin stop rest more place first (ap others_of all)
