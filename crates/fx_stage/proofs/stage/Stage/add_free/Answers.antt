use Rattle.std.proofs.Common.{◌≡◌, ◌∷◌, ◌++◌, [], ℕ, List, ap, false, refl, subst, sym}
use Rattle.fx_base.specs.declared.keys.Name.{Name}
use Rattle.fx_graph_model.specs.declared.entries.Entry.{Entry}
use Rattle.fx_graph_model.specs.Changes.{new_entry}
use Rattle.fx_stage_model.specs.Sound.{IsSound}
use Rattle.fx_store_model.specs.Stored.{Stored}
use Rattle.fx_stage.proofs.DeclaringLemmas.{known_more, sound_more}
use Rattle.fx_stage.proofs.SoundLemmas.{numbered_same, sound_kept}
use Rattle.fx_stage.proofs.stage.Stage.add_free.Goals as goal

pub invariant_of-self-in_default-add : goal.invariant_of-self-in_default-add
invariant_of-self-in_default-add c =
    let s = c.self.inside in
    let es = s.store.entries in
    let entry = new_entry c.kind.result false c.args.value in
    let entries : c.declare.new.self.entries ≡ es ++ entry ∷ [] = ap (λ (st : Stored). st.entries) c.in-Ok.ensures.ok in
    let kept = sound_kept es (es ++ entry ∷ []) s.graph.table s.free.entries (known_more es entry) c.self.invariant.sound in
    record {
      sound = subst (λ (free : List (List ℕ × Name)). IsSound c.declare.new.self.entries s.graph.table free) (sym c.in_default-add.ensures.err)
          (subst (λ (now : List Entry). IsSound now s.graph.table s.free.entries) (sym entries) kept);
      numbered = numbered_same s.store c.declare.new.self s.written.entries (ap (λ (st : Stored). st.given) c.in-Ok.ensures.ok)
          c.self.invariant.numbered;
    }

pub invariant_of-self-2 : goal.invariant_of-self-2
invariant_of-self-2 c =
    let s = c.self.inside in
    let es = s.store.entries in
    let entry = new_entry c.kind.result false c.args.value in
    let entries : c.declare.new.self.entries ≡ es ++ entry ∷ [] = ap (λ (st : Stored). st.entries) c.in-Ok.ensures.ok in
    let more = sound_more es entry s.graph.table s.free.entries c.args.name c.in-Ok.property c.in-Ok.ensures.name refl c.self.invariant.sound in
    record {
      sound = subst (λ (free : List (List ℕ × Name)). IsSound c.declare.new.self.entries s.graph.table free) (sym c.in-Ok-add.ensures.ok)
          (subst (λ (now : List Entry). IsSound now s.graph.table (s.free.entries ++ (c.args.name, c.in-Ok.property) ∷ [])) (sym entries) more);
      numbered = numbered_same s.store c.declare.new.self s.written.entries (ap (λ (st : Stored). st.given) c.in-Ok.ensures.ok)
          c.self.invariant.numbered;
    }
