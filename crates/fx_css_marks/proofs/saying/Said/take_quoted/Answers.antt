use Rattle.fx_css_marks.proofs.Sayings.{took_quoted}
use Rattle.fx_css_marks.proofs.saying.Said.take_quoted.Goals as goal

pub returns-clause-took : goal.returns-clause-took
returns-clause-took c =
    took_quoted c.args.self.now c.quote.new.self c.quote-2.new.self c.args.quote c.args.text.now c.split_at.result.0.now c.split_at.result.1.now c.quoted_length.result
    c.requires c.quoted_length.ensures.length c.split_at.ensures.front c.split_at.ensures.back
    c.in_ok-quote.ensures.bytes c.in_ok-quote.ensures.signs c.in_ok-quote-2.ensures.bytes c.in_ok-quote-2.ensures.signs
