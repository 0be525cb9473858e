use Rattle.std.proofs.Common.{◌≡◌, ◌≤◌, ◌+◌, length, ap, arith}
use Rattle.fx_base.specs.declared.positions.Position.{Position}
use Rattle.fx_base.specs.Positions.{after_bytes}
use Rattle.fx_css_marks.proofs.Steps.{comment_step, all_line, all_column}
use Rattle.fx_css_marks.proofs.walking.next_comment.Goals as goal

pub invariant_of-walk : goal.invariant_of-walk
invariant_of-walk c =
    let line : (after_bytes c.after_byte.result c.split_at.result.0.now).line ≤ c.after_byte.result.line + length c.split_at.result.0.now = all_line c.split_at.result.0.now c.after_byte.result in
    let column : (after_bytes c.after_byte.result c.split_at.result.0.now).column ≤ c.after_byte.result.column + length c.split_at.result.0.now = all_column c.split_at.result.0.now c.after_byte.result in
    let is_line : c.after_bytes.result.line ≡ (after_bytes c.after_byte.result c.split_at.result.0.now).line = ap (λ (p : Position). p.line) c.after_bytes.ensures in
    let is_column : c.after_bytes.result.column ≡ (after_bytes c.after_byte.result c.split_at.result.0.now).column = ap (λ (p : Position). p.column) c.after_bytes.ensures in
    let first_line : c.after_byte.result.line ≡ c.args.position.line = ap (λ (p : Position). p.line) c.after_byte.ensures in
    let first_column : c.after_byte.result.column ≡ c.args.position.column + 1 = ap (λ (p : Position). p.column) c.after_byte.ensures in
    record { line = omega arith; column = omega arith }

pub returns : goal.returns
returns c =
    comment_step c.args.position c.after_byte.result c.after_bytes.result c.args.text.now c.split_at.result.0.now c.split_at.result.1.now c.comment_rest.result
    c.requires.begins c.comment_rest.ensures.length c.split_at.ensures.front c.split_at.ensures.back c.after_byte.ensures c.after_bytes.ensures
