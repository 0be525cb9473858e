use Rattle.std.proofs.Common.{◌≡◌, ◌≤◌, ◌+◌, length, ap, arith}
use Rattle.fx_base.specs.declared.positions.Position.{Position}
use Rattle.fx_base.specs.Positions.{after_bytes}
use Rattle.fx_css_marks.proofs.Steps.{pass_run, run_most_of, all_line, all_column}
use Rattle.fx_css_marks.proofs.walk.Walk.pass_run.Goals as goal

pub split_at-requires : goal.split_at-requires
split_at-requires c = (run_most_of c.args.self.quote c.calm_length-count.result c.args.most c.args.self.rest.now c.front.result.now c.front.ensures c.calm_length-count.ensures).1

pub invariant_of-walk : goal.invariant_of-walk
invariant_of-walk c =
    let line : (after_bytes c.args.self.position c.split_at.result.0.now).line ≤ c.args.self.position.line + length c.split_at.result.0.now = all_line c.split_at.result.0.now c.args.self.position in
    let column : (after_bytes c.args.self.position c.split_at.result.0.now).column ≤ c.args.self.position.column + length c.split_at.result.0.now = all_column c.split_at.result.0.now c.args.self.position in
    let is_line : c.after_bytes.result.line ≡ (after_bytes c.args.self.position c.split_at.result.0.now).line = ap (λ (p : Position). p.line) c.after_bytes.ensures in
    let is_column : c.after_bytes.result.column ≡ (after_bytes c.args.self.position c.split_at.result.0.now).column = ap (λ (p : Position). p.column) c.after_bytes.ensures in
    let room_line : c.args.self.position.line + length c.args.self.rest.now ≤ 4194305 = c.args.self.line in
    let room_column : c.args.self.position.column + length c.args.self.rest.now ≤ 4194305 = c.args.self.column in
    record { line = omega arith; column = omega arith }

pub returns-clause-passed : goal.returns-clause-passed
returns-clause-passed c =
    pass_run c.args.self.quote c.calm_length-count.result c.args.most c.args.self.position c.after_bytes.result c.args.self.rest.now c.front.result.now c.split_at.result.0.now c.split_at.result.1.now
    c.front.ensures c.calm_length-count.ensures c.split_at.ensures.front c.split_at.ensures.back c.after_bytes.ensures

pub returns-clause-within : goal.returns-clause-within
returns-clause-within c = (run_most_of c.args.self.quote c.calm_length-count.result c.args.most c.args.self.rest.now c.front.result.now c.front.ensures c.calm_length-count.ensures).0
