-- the files of a demo are played as a run over them
use Rattle.std.proofs.Common.{◌≡◌, List, [], ◌∷◌, Some, ap, refl, subst, ◌∙◌, ℕ}
use Rattle.fx_base.specs.declared.work.Work.{Work}
use Rattle.fx_plain.specs.CommandLine.{Plays}
use Rattle.fx_plain.specs.Demos.{demo_run, demo_scene, demo_script, demo_sheet}
use Rattle.fx_plain.specs.Works.{HasWorked, IsRunWork}
use Rattle.fx_plain_work.specs.Works.{Counted, counted}
use Rattle.fx_port.specs.Files.{Files, files_of}
use Rattle.fx_play.specs.Ends.{IsPlayed}
use Rattle.fx_play.proofs.RunLemmas.{demo_played}
use Rattle.fx_play.proofs.runs.play_demo.Goals as goal

pub returns-clause-played : goal.returns-clause-played
returns-clause-played g c =
    let sink = g.O.Sink in
    let held = files_of c.in-Ok.shelf.files.entries in
    let named : c.from_string.result ≡ demo_sheet = c.from_string.ensures ∙ c.in-Ok-from_str.ensures.ok in
    let IsSo : List ℕ → Type 0 =
    λ sheet. IsPlayed (Plays (record { scene = demo_scene; script = demo_script; sheets = sheet ∷ [] }) c.args.manner)
    (Some held) 0 0 (sink.faults c.args.out.now) (sink.faults c.play_run.new.out) (sink.written c.args.out.now)
    (sink.written c.play_run.new.out) c.play_run.result in
    demo_played c.args.number c.args.manner held (sink.faults c.args.out.now) (sink.faults c.play_run.new.out)
    (sink.written c.args.out.now) (sink.written c.play_run.new.out) c.play_run.result (ap files_of c.in-Ok.ensures)
    (subst IsSo named c.play_run.ensures.played)

pub returns-clause-work : goal.returns-clause-work
returns-clause-work g c done =
    let count : Work g.row.L.Denot → Counted = λ w. counted w.styled w.laid w.painted in
    let held = files_of c.in-Ok.shelf.files.entries in
    let named : c.from_string.result ≡ demo_sheet = c.from_string.ensures ∙ c.in-Ok-from_str.ensures.ok in
    let IsSo : List ℕ → Type 0 =
    λ sheet. HasWorked (λ bytes. IsRunWork (record { scene = demo_scene; script = demo_script; sheets = sheet ∷ [] })
    c.args.manner held bytes (count c.args.work.now) (count c.play_run.new.work)) (g.O.Sink.written c.args.out.now)
    (g.O.Sink.written c.play_run.new.out) c.args.work.now.evaluated c.play_run.new.work.evaluated in
    subst (λ (files : Files). HasWorked (λ bytes. IsRunWork demo_run c.args.manner files bytes (count c.args.work.now)
    (count c.play_run.new.work)) (g.O.Sink.written c.args.out.now) (g.O.Sink.written c.play_run.new.out)
    c.args.work.now.evaluated c.play_run.new.work.evaluated) (ap files_of c.in-Ok.ensures)
    (subst IsSo named (c.play_run.ensures.work held refl done))
