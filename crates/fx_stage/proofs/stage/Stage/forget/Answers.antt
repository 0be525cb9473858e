use Rattle.std.proofs.Common.{◌≡◌, ◌≤◌, ◌+◌, ◌∙◌, ℕ, List, Result, ap, slice_get, subst, sym}
use Rattle.fx_base.specs.declared.keys.Name.{Name}
use Rattle.fx_base.specs.declared.keys.NodeKey.{NodeKey}
use Rattle.fx_store_model.specs.Stored.{Stored}
use Rattle.fx_stage_types.specs.declared.answers.Outcome.{Outcome}
use Rattle.fx_stage_types.specs.declared.answers.StageError.{StageError}
use Rattle.fx_stage_model.specs.Answers.{cost_of}
use Rattle.fx_stage_model.specs.Graphs.{Graph}
use Rattle.fx_stage_model.specs.Nodes.{forgotten, names_of_all, properties_of_all}
use Rattle.fx_stage_model.specs.Sound.{IsSound}
use Rattle.fx_stage_model.specs.Taking.{IsTaken}
use Rattle.fx_stage_model.specs.World.{World, with_graph, with_store}
use Rattle.fx_stage_parts.specs.Dropping.{dropped_if}
use Rattle.fx_stage.specs.Kept.{seen}
use Rattle.fx_stage_words.specs.Told.{told_as}
use Rattle.fx_stage.proofs.DroppingLemmas.{all_known, forgotten_few, forgotten_taken, found_gone, settled_by, sound_by}
use Rattle.fx_stage.proofs.TakingLemmas.{all_below, given_settled, listening_from, written_again}
use Rattle.fx_stage.proofs.WrittenLemmas.{still_twice}
use Rattle.fx_stage.proofs.stage.Stage.forget.Goals as goal

pub invariant_of-self : goal.invariant_of-self
invariant_of-self g c =
    let s = c.self.inside in
    let now = c.apply-answer.new.self in
    let keys = c.args.keys.items in
    let gone = c.are_gone-gone.result in
    let names = c.from_vec.ensures ∙ c.requires.names ∙ ap (λ (x : World). names_of_all x.graph.table keys) (sym c.self.view_is) in
    let first = c.copied-first.ensures ∙ c.first.ensures.value ∙ ap (λ (ns : List Name). slice_get ns 0) (c.deref.ensures.value ∙ sym c.from_vec.ensures) in
    let found =
    found_gone (properties_of_all s.graph.table keys) c.from_vec.result s.store now c.apply-answer.result _ _ c.copied-first.result
    c.is_ok.result gone names first c.is_ok.ensures.value c.are_gone-gone.ensures
    (all_known s.store.entries s.graph.table s.free.entries keys c.self.invariant.sound) c.apply-answer.ensures.applied in
    let graph : c.drop_if.new.graph ≡ dropped_if gone c.args.key keys s.graph =
    c.drop_if.ensures ∙ ap (λ (ks : List NodeKey). dropped_if gone c.args.key ks s.graph) c.as_slice.ensures.value in
    record {
      sound = subst (λ (g : Graph). IsSound now.entries g.table s.free.entries) (sym graph)
          (sound_by s.store now c.args.key keys s.graph s.free.entries gone found.1.is_made c.self.invariant.sound);
      numbered = all_below s.store.given now.given s.written.entries
          (given_settled _ s.store now (settled_by _ s.store now gone found.1.is_made)) c.self.invariant.numbered;
    }

pub returns-clause-taken : goal.returns-clause-taken
returns-clause-taken g c =
    let s = c.self.inside in
    let now = c.apply-answer.new.self in
    let key = c.args.key in
    let keys = c.args.keys.items in
    let gone = c.are_gone-gone.result in
    let result = c.apply-answer.result in
    let names = c.from_vec.ensures ∙ c.requires.names ∙ ap (λ (x : World). names_of_all x.graph.table keys) (sym c.self.view_is) in
    let first = c.copied-first.ensures ∙ c.first.ensures.value ∙ ap (λ (ns : List Name). slice_get ns 0) (c.deref.ensures.value ∙ sym c.from_vec.ensures) in
    let found =
    found_gone (properties_of_all s.graph.table keys) c.from_vec.result s.store now result _ _ c.copied-first.result
    c.is_ok.result gone names first c.is_ok.ensures.value c.are_gone-gone.ensures
    (all_known s.store.entries s.graph.table s.free.entries keys c.self.invariant.sound) c.apply-answer.ensures.applied in
    let graph : c.drop_if.new.graph ≡ dropped_if gone key keys s.graph =
    c.drop_if.ensures ∙ ap (λ (ks : List NodeKey). dropped_if gone key ks s.graph) c.as_slice.ensures.value in
    let view : Stored → Graph → World = λ store graph.
    seen store graph s.free.entries s.labels.entries s.actions.entries s.run.items s.written.entries s.pointer s.button s.window in
    let w = view s.store s.graph in
    let v = view now c.drop_if.new.graph in
    let again =
    still_twice s.store.listeners now.listeners s.store.given s.written.entries
    (listening_from _ s.store now (settled_by _ s.store now gone found.1.is_made)) c.self.invariant.numbered in
    let taken =
    forgotten_taken key keys w now _ _ (written_again s.store.listeners s.written.entries) c.self.invariant.sound gone result found.0 found.1 in
    let mid : World = with_store now (with_graph (dropped_if gone key keys s.graph) w) in
    let there : IsTaken (forgotten key keys w) w (view now (dropped_if gone key keys s.graph)) (told_as result) =
    subst
    (λ (ws : List (ℕ × List (List ℕ))).
    IsTaken (forgotten key keys w) w (record mid { names = record mid.names { written = ws } }) (told_as result))
    again taken in
    subst (λ (x : World). IsTaken (forgotten key keys x) x v c.told.result) c.self.view_is
    (subst (λ (r : Result Outcome StageError). IsTaken (forgotten key keys w) w v r) (sym c.told.ensures)
    (subst (λ (x : Graph). IsTaken (forgotten key keys w) w (view now x) (told_as result)) (sym graph) there))

pub returns-clause-few : goal.returns-clause-few
returns-clause-few g c =
    let s = c.self.inside in
    let now = c.apply-answer.new.self in
    let key = c.args.key in
    let keys = c.args.keys.items in
    let gone = c.are_gone-gone.result in
    let result = c.apply-answer.result in
    let names = c.from_vec.ensures ∙ c.requires.names ∙ ap (λ (x : World). names_of_all x.graph.table keys) (sym c.self.view_is) in
    let first = c.copied-first.ensures ∙ c.first.ensures.value ∙ ap (λ (ns : List Name). slice_get ns 0) (c.deref.ensures.value ∙ sym c.from_vec.ensures) in
    let found =
    found_gone (properties_of_all s.graph.table keys) c.from_vec.result s.store now result _ _ c.copied-first.result
    c.is_ok.result gone names first c.is_ok.ensures.value c.are_gone-gone.ensures
    (all_known s.store.entries s.graph.table s.free.entries keys c.self.invariant.sound) c.apply-answer.ensures.applied in
    let w : World = seen s.store s.graph s.free.entries s.labels.entries s.actions.entries s.run.items s.written.entries s.pointer s.button s.window in
    subst (λ (x : World). c.apply-answer.new.work.evaluated ≤ c.args.work.now.evaluated + cost_of (forgotten key keys x)) c.self.view_is
    (forgotten_few key keys w now _ _ (written_again s.store.listeners s.written.entries) c.self.invariant.sound result found.0)
