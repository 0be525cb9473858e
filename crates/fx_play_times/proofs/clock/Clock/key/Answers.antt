-- a value that the text doesn't spell, and one that it does
use Rattle.std.proofs.Common.{◌∙◌, ap, sym}
use Rattle.fx_base.specs.declared.kinds.Kind.{Kind}
use Rattle.fx_graph_model.specs.Refusals.{read_only_in}
use Rattle.fx_look.specs.Readings.{value_at}
use Rattle.fx_play_times.specs.Shown.{clock_of}
use Rattle.fx_stage.proofs.FoundLemmas.{found_known}
use Rattle.fx_store_model.specs.Stored.{Stored}
use Rattle.fx_play_times.proofs.TimeLemmas.{key_none, key_some}
use Rattle.fx_play_times.proofs.clock.Clock.key.Goals as goal

pub returns-in-Ok-None : goal.returns-in-Ok-None
returns-in-Ok-None c =
    let world = c.args.stage.now in
    let name = c.in-Ok-find_property.name in
    let there = sym c.find_property.ensures ∙ c.in-Ok-find_property.is in
    let known = found_known world c.laws.ensures name c.args.path.now there in
    key_none c.args.label.now c.args.time.now c.args.path.now c.args.text.now (clock_of c.args.self.now) world c.in-Ok.id name
    c.in-Some.at (sym c.find.ensures.found ∙ c.in-Ok.is) there (ap (λ (s : Stored). read_only_in s.entries name.0) (sym c.store.ensures) ∙ sym c.is_read_only.ensures ∙ c.if-is_read_only.false)
    (sym c.time_of.ensures.time ∙ c.in-Some.is)
    (sym c.in-Ok-None.field-0-is ∙ c.in-Ok-None.ensures ∙ ap (λ (k : Kind). value_at k c.args.text.now) (c.kind_of.ensures known))

pub returns : goal.returns
returns c =
    let world = c.args.stage.now in
    let name = c.in-Ok-find_property.name in
    let there = sym c.find_property.ensures ∙ c.in-Ok-find_property.is in
    let known = found_known world c.laws.ensures name c.args.path.now there in
    key_some c.args.label.now c.args.time.now c.args.path.now c.args.text.now (clock_of c.args.self.now)
    (clock_of c.put_key.new.self) world c.in-Ok.id name c.in-Some.at c.in-Ok-Some.value c.put_key.result
    (sym c.find.ensures.found ∙ c.in-Ok.is) there (ap (λ (s : Stored). read_only_in s.entries name.0) (sym c.store.ensures) ∙ sym c.is_read_only.ensures ∙ c.if-is_read_only.false)
    (sym c.time_of.ensures.time ∙ c.in-Some.is)
    (sym c.in-Ok-Some.field-0-is ∙ c.in-Ok-Some.ensures ∙ ap (λ (k : Kind). value_at k c.args.text.now) (c.kind_of.ensures known))
    c.put_key.ensures
