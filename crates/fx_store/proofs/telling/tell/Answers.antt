use Rattle.std.proofs.Common.{◌∙◌}
use Rattle.fx_base.specs.Names.{numbers}
use Rattle.fx_store.proofs.TellLemmas.{heard_read, tell_is}
use Rattle.fx_store.proofs.telling.tell.Goals as goal

pub tell_changed-requires-clause-known : goal.tell_changed-requires-clause-known
tell_changed-requires-clause-known g c =
    let watch = c.args.watch.now in
    (heard_read c.args.graph.now c.settle_all.new.self watch.heard.items c.as_slice-2.result.now watch.names.items c.as_slice.result.now
    c.requires.watch.1.more c.requires.known c.requires.watch.1.led c.as_slice.ensures.value c.as_slice-2.ensures.value
    c.in_ok-settle_all.ensures.ok).0

pub tell_changed-requires-clause-read : goal.tell_changed-requires-clause-read
tell_changed-requires-clause-read g c =
    let watch = c.args.watch.now in
    (heard_read c.args.graph.now c.settle_all.new.self watch.heard.items c.as_slice-2.result.now watch.names.items c.as_slice.result.now
    c.requires.watch.1.more c.requires.known c.requires.watch.1.led c.as_slice.ensures.value c.as_slice-2.ensures.value
    c.in_ok-settle_all.ensures.ok).1

pub returns-clause-changed : goal.returns-clause-changed
returns-clause-changed g c =
    let watch = c.args.watch.now in
    λ before values.
    c.from_vec-2.ensures
    ∙ tell_is c.args.graph.now c.settle_all.new.self watch.heard.items c.as_slice-2.result.now watch.before.items
    c.as_slice-3.result.now (numbers c.as_slice.result.now) c.in_ok-changed.changed.items c.in_ok-settle_all.ensures.ok
    c.as_slice-2.ensures.value c.as_slice-3.ensures.value c.in_ok-changed.ensures before values
