use Rattle.std.proofs.Common.{refl, sym, ◌∙◌}
use Rattle.std.specs.String.{string_bytes}
use Rattle.fx_doc_runs.specs.Reached.{TookFlat}
use Rattle.fx_doc_runs.specs.Views.{view}
use Rattle.fx_doc_runs.specs.declared.modes.Mode.TheVariants as v
use Rattle.fx_doc_runs.specs.declared.modes.Valued.{Valued}
use Rattle.fx_doc_runs.proofs.Carried.{turned}
use Rattle.fx_doc_runs.proofs.Keying.{key_taken}
use Rattle.fx_doc_runs.proofs.modes.Reader.take_key.Goals as goal

pub take_spaced-head-requires : goal.take_spaced-head-requires
take_spaced-head-requires c = (c.in-Spaced.head, c.in-Spaced.is)

pub returns-clause-took : goal.returns-clause-took
returns-clause-took c =
    let valued : Valued = record {
      head = c.take_spaced-head.result;
      position = c.args.position;
      key = c.in-Ok.key;
      quote = c.in-Some.ahead.quote;
      value = c.new.result;
    } in
    turned (TookFlat c.args.rest.now c.args.position (view c.args.self.now) c.in-Some.ahead.behind.now)
    c.args.self.now.held (v.Quoted valued) c.turn.new.self c.turn.ensures
    (key_taken c.args.self.now c.in-Spaced.head c.take_spaced-head.result valued c.args.rest.now
    c.in-Some.ahead.name.now c.in-Some.ahead.behind.now (string_bytes c.in-Ok.key.text) c.in-Some.ahead.quote
    c.args.position c.in-Spaced.is c.take_spaced-head.ensures.tag c.in-Some.ensures c.in-Ok.ensures.name
    (sym c.is_fresh.ensures ∙ c.if-not-is_fresh.false) refl refl refl refl c.new.ensures.bytes c.new.ensures.count)
