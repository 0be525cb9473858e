use Rattle.std.proofs.Common.{◌∙◌, ◌==◌, ℕ, List, ap, sym}
use Rattle.fx_listen.specs.declared.entries.Listener.{Listener}
use Rattle.fx_store_model.specs.Stored.{Stored, after_end}
use Rattle.fx_stage_model.specs.World.{World, with_store}
use Rattle.fx_stage.specs.Kept.{seen}
use Rattle.fx_stage.proofs.WrittenLemmas.{any_kept, still_twice}
use Rattle.fx_stage.proofs.stage.Stage.end_owner.Goals as goal

pub returns : goal.returns
returns c =
    let s = c.self.inside in
    let w : Stored → World = λ store.
    seen store s.graph s.free.entries s.labels.entries s.actions.entries s.run.items s.written.entries s.pointer s.button s.window in
    let ended = after_end c.args.owner s.store in
    let again =
    still_twice s.store.listeners ended.listeners s.store.given s.written.entries
    (λ n small there. any_kept (λ (l : Listener). l.number == n) _ s.store.listeners there) c.self.invariant.numbered in
    ap w c.release_owner.ensures.released
    ∙ sym (ap (λ (ws : List (ℕ × List (List ℕ))). record (w ended) { names = record (w ended).names { written = ws } }) again)
    ∙ ap (λ (x : World). with_store (after_end c.args.owner x.store) x) c.self.view_is
