use Rattle.std.proofs.Common.{ap, ◌∙◌}
use Rattle.std.specs.String.{string_bytes}
use Rattle.fx_doc_drafts.specs.declared.drafts.Draft.{Draft}
use Rattle.fx_doc_runs.proofs.Trees.{kept_run}
use Rattle.fx_doc_runs.proofs.modes.Level.keep_run.Goals as goal

pub returns : goal.returns
returns c = kept_run c.args.self.now.content.items c.push.new.self.items c.into_text.result (string_bytes c.args.self.now.run.text) (string_bytes c.replace-run.new.dest.text) c.replace-run.new.dest.count c.args.self.now.first c.args.position
    c.in_ok-push.ensures.items (c.into_text.ensures ∙ ap (λ (d : Draft). string_bytes d.text) c.replace-run.ensures.value) c.requires
    (ap (λ (d : Draft). string_bytes d.text) c.replace-run.ensures.after ∙ c.new.ensures.bytes) (ap (λ (d : Draft). d.count) c.replace-run.ensures.after ∙ c.new.ensures.count)
