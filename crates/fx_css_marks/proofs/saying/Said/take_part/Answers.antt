use Rattle.std.proofs.Common.{sym, ◌∙◌}
use Rattle.fx_css_marks.proofs.Sayings.{took_comment, took_alone}
use Rattle.fx_css_marks.proofs.saying.Said.take_part.Goals as goal

pub returns-then-begins_comment-clause-took : goal.returns-then-begins_comment-clause-took
returns-then-begins_comment-clause-took c =
    took_comment c.args.self.now c.say.new.self c.args.first c.args.text.now c.split_at.result.1.now c.comment_rest.result
    (sym c.begins_comment.ensures ∙ c.if-begins_comment.true) c.comment_rest.ensures.length c.split_at.ensures.back c.in_ok-say.ensures.bytes c.in_ok-say.ensures.signs

pub returns-clause-took : goal.returns-clause-took
returns-clause-took c =
    took_alone c.args.self.now c.say-2.new.self c.args.first c.args.text.now (sym c.is_quote.ensures ∙ c.if-is_quote.false) (sym c.begins_comment.ensures ∙ c.if-begins_comment.false)
    c.in_ok-say-2.ensures.bytes c.in_ok-say-2.ensures.signs
