use Rattle.std.proofs.Common.{◌≡◌, ◌∙◌, ◌||◌, ◌==◌, ℕ, List, Ok, length, is_some, ap, subst, sym}
use Rattle.std.specs.Str.{bytes_eq}
use Rattle.indexmap.specs.IndexMap.{insert_entry}
use Rattle.fx_handles.specs.declared.Owner.{Owner}
use Rattle.fx_handles.specs.Living.{after_make}
use Rattle.fx_store_model.specs.Making.{with_owners}
use Rattle.fx_store_model.specs.Refusals.{owner_refusal}
use Rattle.fx_store_model.specs.Stored.{Stored}
use Rattle.fx_stage_types.specs.declared.answers.Outcome.{Outcome}
use Rattle.fx_stage_types.specs.declared.refusals.Refusal.TheVariants as word
use Rattle.fx_stage_model.specs.Answers.{silently, unless}
use Rattle.fx_stage_model.specs.Listening.{next_owner, with_owner}
use Rattle.fx_stage_model.specs.Taking.{IsTaken}
use Rattle.fx_stage_model.specs.World.{World}
use Rattle.fx_stage.specs.Kept.{seen}
use Rattle.fx_stage.proofs.ListeningLemmas.{owner_made}
use Rattle.fx_stage.proofs.stage.Stage.add_owner.Goals as goal

pub returns : goal.returns
returns c =
    let s = c.self.inside in
    let owner = c.in-Ok-make_owner.owner in
    let label = c.args.label in
    let view : Stored → List (List ℕ × Owner) → World = λ store labels.
    seen store s.graph s.free.entries labels s.actions.entries s.run.items s.written.entries s.pointer s.button s.window in
    let w = view s.store s.labels.entries in
    let v = view c.make_owner.new.self c.put.new.self.entries in
    let labels = c.in-Ok-put.ensures.ok ∙ ap (λ (es : List (List ℕ × Owner)). insert_entry bytes_eq es label owner) c.reserve.ensures.same in
    let made : v ≡ with_owner label (next_owner owner.slot w) w =
    ap (λ (st : Stored). view st c.put.new.self.entries) c.in-Ok-make_owner.ensures.made
    ∙ ap (view (with_owners (after_make s.store.owners owner) s.store)) labels
    ∙ ap
    (λ (n : ℕ).
    let o : Owner = record { slot = owner.slot; birth = n } in
    view (with_owners (after_make s.store.owners o) s.store) (insert_entry bytes_eq s.labels.entries label o))
    c.in-Ok-make_owner.ensures.birth in
    let full = (length s.store.owners.living == 10000) || (s.store.owners.born == 4294967295) in
    let taken = owner_made full owner w (with_owner label (next_owner owner.slot w) w) v c.in-Ok-make_owner.ensures.answer made in (
      owner.slot,
      subst
          (λ (x : World).
          IsTaken
          (unless (is_some (owner_refusal x.store.owners)) word.Full (silently (with_owner label (next_owner owner.slot x) x)))
          x v (Ok c.nothing.result))
          c.self.view_is
          (subst
          (λ (o : Outcome).
          IsTaken
          (unless (is_some (owner_refusal w.store.owners)) word.Full (silently (with_owner label (next_owner owner.slot w) w)))
          w v (Ok o))
          (sym c.nothing.ensures) taken),
    )
