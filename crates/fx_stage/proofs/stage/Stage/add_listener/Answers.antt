use Rattle.std.proofs.Common.{◌≡◌, ◌∙◌, ◌≤◌, ◌+◌, ℕ, All, Bool, List, Result, ap, nat_lt, subst, sym}
use Rattle.std.proofs.lemmas.Bool.{ltb-true}
use Rattle.fx_store_model.proofs.Leaving.{keeps_applied}
use Rattle.fx_stage_types.specs.declared.answers.Outcome.{Outcome}
use Rattle.fx_stage_types.specs.declared.answers.StageError.{StageError}
use Rattle.fx_stage_model.specs.Answers.{cost_of}
use Rattle.fx_stage_model.specs.Taking.{IsTaken}
use Rattle.fx_stage_model.specs.World.{World, is_listening, with_store}
use Rattle.fx_stage.specs.Kept.{seen}
use Rattle.fx_stage.specs.Noting.{added}
use Rattle.fx_stage_parts.specs.Noting.{has_listener_behind, run_if, written_if}
use Rattle.fx_stage_words.specs.Told.{told_as}
use Rattle.fx_stage.proofs.CostLemmas.{added_few, changed_few}
use Rattle.fx_stage.proofs.ListeningLemmas.{added_taken, first_true, has_new, listen_keeps, new_given, not_there, numbered_if, perhaps_noted, view_noted}
use Rattle.fx_stage.proofs.SoundLemmas.{sound_kept}
use Rattle.fx_stage.proofs.TakingLemmas.{changed_taken, given_settled, listening_from, settled, written_again}
use Rattle.fx_stage.proofs.WrittenLemmas.{still_twice}
use Rattle.fx_stage.proofs.stage.Stage.add_listener.Goals as goal

pub note_if-requires-clause-number : goal.note_if-requires-clause-number
note_if-requires-clause-number g c =
    λ there.
    ltb-true c.given-given.result 4294967295
    (first_true (nat_lt c.given-given.result 4294967295) (is_listening c.apply-answer.new.self.listeners (c.given-given.result + 1))
    (sym c.has_new-there.ensures ∙ there))

pub note_if-requires-clause-new : goal.note_if-requires-clause-new
note_if-requires-clause-new g c =
    subst (λ (n : ℕ). All (λ (e : ℕ × List (List ℕ)). e.0 ≤ n) c.reserve_note.new.written.entries) (sym c.given-given.ensures)
    (subst (λ (ws : List (ℕ × List (List ℕ))). All (λ (e : ℕ × List (List ℕ)). e.0 ≤ c.self.inside.store.given) ws)
    (sym c.reserve_note.ensures.written) c.self.invariant.numbered)

pub invariant_of-self-2 : goal.invariant_of-self-2
invariant_of-self-2 g c =
    let s = c.self.inside in
    let now = c.apply-answer.new.self in
    let change = c.args.change in
    let listens = c.requires.listens in
    let applied = c.apply-answer.ensures.applied in
    let keeps = keeps_applied change s.store now c.apply-answer.result _ _ (listen_keeps change listens) applied in
    let is = settled change s.store now c.apply-answer.result _ _ applied in
    let there = c.has_new-there.result in
    let there_is : there ≡ has_new s.store now =
    c.has_new-there.ensures ∙ ap (λ (n : ℕ). has_listener_behind n now.listeners) c.given-given.ensures in
    record {
      sound = sound_kept s.store.entries now.entries s.graph.table s.free.entries keeps.known c.self.invariant.sound;
      numbered = subst (λ (ws : List (ℕ × List (List ℕ))). All (λ (e : ℕ × List (List ℕ)). e.0 ≤ now.given) ws)
          (sym
          (c.note_if.ensures.written
          ∙ ap (λ (n : ℕ). written_if there n c.args.asked c.reserve_note.new.written.entries) c.given-given.ensures
          ∙ ap (written_if there s.store.given c.args.asked) c.reserve_note.ensures.written))
          (numbered_if there s.store.given now.given c.args.asked s.written.entries (given_settled change s.store now is)
          (λ yes. new_given change s.store now listens is c.laws.ensures.listeners.given (sym there_is ∙ yes))
          c.self.invariant.numbered);
    }

pub returns-clause-taken : goal.returns-clause-taken
returns-clause-taken g c =
    let s = c.self.inside in
    let now = c.apply-answer.new.self in
    let change = c.args.change in
    let asked = c.args.asked in
    let runs = c.args.runs in
    let listens = c.requires.listens in
    let applied = c.apply-answer.ensures.applied in
    let view : _ → List (List ℕ) → List (ℕ × List (List ℕ)) → World = λ store run written.
    seen store s.graph s.free.entries s.labels.entries s.actions.entries run written s.pointer s.button s.window in
    let w = view s.store s.run.items s.written.entries in
    let v = view now c.note_if.new.run.items c.note_if.new.written.entries in
    let is = settled change s.store now c.apply-answer.result _ _ applied in
    let again =
    still_twice s.store.listeners now.listeners s.store.given s.written.entries (listening_from change s.store now is)
    c.self.invariant.numbered in
    let fresh = not_there s.store.listeners s.store.given c.laws.ensures.listeners.given in
    let mid =
    changed_taken change w now _ _ (listen_keeps change listens) (written_again s.store.listeners s.written.entries)
    c.apply-answer.result applied in
    let taken = added_taken change asked runs w now _ _ listens fresh c.apply-answer.result applied mid in
    let there = c.has_new-there.result in
    let there_is : there ≡ has_new s.store now =
    c.has_new-there.ensures ∙ ap (λ (n : ℕ). has_listener_behind n now.listeners) c.given-given.ensures in
    let run_is = c.note_if.ensures.run ∙ ap (run_if there runs) c.reserve_note.ensures.run in
    let written_is =
    c.note_if.ensures.written
    ∙ ap (λ (n : ℕ). written_if there n asked c.reserve_note.new.written.entries) c.given-given.ensures
    ∙ ap (written_if there s.store.given asked) c.reserve_note.ensures.written in
    let seen_is : v ≡ perhaps_noted (has_new s.store now) (s.store.given + 1) asked runs (with_store now w) =
    ap (λ (run : List (List ℕ)). view now run c.note_if.new.written.entries) run_is
    ∙ ap (view now (run_if there runs s.run.items)) written_is
    ∙ view_noted s.store now s.graph s.free.entries s.labels.entries s.actions.entries s.run.items s.written.entries s.pointer
    s.button s.window again there asked runs there_is
    ∙ ap (λ (b : Bool). perhaps_noted b (s.store.given + 1) asked runs (with_store now w)) there_is in
    subst (λ (x : World). IsTaken (added change asked runs x) x v c.told.result) c.self.view_is
    (subst (λ (r : Result Outcome StageError). IsTaken (added change asked runs w) w v r) (sym c.told.ensures)
    (subst (λ (x : World). IsTaken (added change asked runs w) w x (told_as c.apply-answer.result)) (sym seen_is) taken))

pub returns-clause-few : goal.returns-clause-few
returns-clause-few g c =
    let s = c.self.inside in
    let change = c.args.change in
    let asked = c.args.asked in
    let runs = c.args.runs in
    let old = c.args.work.now.evaluated in
    let new = c.apply-answer.new.work.evaluated in
    let w : World = seen s.store s.graph s.free.entries s.labels.entries s.actions.entries s.run.items s.written.entries s.pointer s.button s.window in
    subst (λ (x : World). new ≤ old + cost_of (added change asked runs x)) c.self.view_is
    (added_few change asked runs w old new
    (changed_few change w c.apply-answer.new.self old new (listen_keeps change c.requires.listens) c.apply-answer.result
    c.apply-answer.ensures.applied))
