use Rattle.std.proofs.Common.{◌∙◌, ℕ, Result, ap, arith, length, refl, subst, sym}
use Rattle.fx_base.specs.declared.keys.NodeKey.{NodeKey}
use Rattle.fx_kinds.specs.Properties.{rows_of}
use Rattle.fx_stage_rows.proofs.RowLemmas.{passed}
use Rattle.fx_stage_types.specs.declared.answers.Outcome.{Outcome}
use Rattle.fx_stage_types.specs.declared.answers.StageError.{StageError}
use Rattle.fx_stage_model.specs.Answers.{silently}
use Rattle.fx_stage_model.specs.Graphs.{Graph, is_full_of_nodes, with_born, with_path}
use Rattle.fx_stage_model.specs.Nodes.{has_no_room, next_key, with_name, with_node}
use Rattle.fx_stage_model.specs.Taking.{IsTaken}
use Rattle.fx_stage_model.specs.World.{World}
use Rattle.fx_store_model.specs.Stored.{Stored}
use Rattle.fx_stage.specs.Kept.{seen}
use Rattle.fx_stage.proofs.MakingLemmas.{taken_named, given_passed, none_refused, room_of, sound_answer, sound_passed}
use Rattle.fx_stage.proofs.SoundLemmas.{numbered_same}
use Rattle.fx_stage.proofs.stage.Stage.make_named.Goals as goal

pub invariant_of-self : goal.invariant_of-self
invariant_of-self c =
    let s = c.self.inside in
    let over = c.in_default.ensures.err in
    record {
      sound = sound_passed s.store c.declare_rows.new.store s.graph.table s.free.entries over c.self.invariant.sound;
      numbered = numbered_same s.store c.declare_rows.new.store s.written.entries
          (given_passed s.store c.declare_rows.new.store over) c.self.invariant.numbered;
    }

pub invariant_of-self-2 : goal.invariant_of-self-2
invariant_of-self-2 c =
    let s = c.self.inside in
    let class = c.args.class in
    let now = c.declare_rows.new.store in
    let first = c.in-Ok.first in
    let made : NodeKey → Graph = λ key. with_path c.args.path.items key (with_born class first key s.graph) in
    let room =
    room_of (is_full_of_nodes s.graph) (length s.store.entries) (length (rows_of class))
    (ap (has_no_room class) c.self.view_is ∙ c.requires.room) in
    record {
      sound = sound_answer class s.store now first s.graph c.make_named.new.self made s.free.entries c.in-Ok.ensures.ok
          c.in-Ok.ensures.first c.make_named.result (omega (arith, room.1)) (λ key. refl) c.make_named.ensures.ok
          c.make_named.ensures.err c.self.invariant.sound;
      numbered = numbered_same s.store now s.written.entries
          (given_passed s.store now (passed class (rows_of class) s.store now c.in-Ok.ensures.ok)) c.self.invariant.numbered;
    }

pub returns : goal.returns
returns c =
    let s = c.self.inside in
    let class = c.args.class in
    let now = c.declare_rows.new.store in
    let first = c.in-Ok.first in
    let made : NodeKey → Graph = λ key. with_path c.args.path.items key (with_born class first key s.graph) in
    let room =
    room_of (is_full_of_nodes s.graph) (length s.store.entries) (length (rows_of class))
    (ap (has_no_room class) c.self.view_is ∙ c.requires.room) in
    let view : Stored → Graph → World = λ store graph.
    seen store graph s.free.entries s.labels.entries s.actions.entries s.run.items s.written.entries s.pointer s.button s.window in
    let w = view s.store s.graph in
    let v = view now c.make_named.new.self in
    let taken =
    taken_named class s.store now first s.graph c.make_named.new.self made s.free.entries c.in-Ok.ensures.ok
    c.in-Ok.ensures.first s.labels.entries s.actions.entries s.run.items s.written.entries s.pointer s.button s.window c.args.path.items c.make_named.result
    (λ key. refl) (none_refused s.graph room.0) c.make_named.ensures.answer c.make_named.ensures.birth c.make_named.ensures.ok
    c.make_named.ensures.err in
    let IsMade : World → Result Outcome StageError → Type 0 = λ x r.
    (slot : ℕ) × IsTaken (silently (with_name c.args.path.items (next_key slot x) (with_node class (next_key slot x) x))) x v r in
    subst (λ (x : World). IsMade x c.made.result) c.self.view_is
    (subst (λ (r : Result Outcome StageError). IsMade w r) (sym c.made.ensures) taken)
