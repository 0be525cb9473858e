-- Bytes and meanings are cut at the same end.
use Rattle.std.proofs.Common.{◌≤◌, length, refl, sym, arith}
use Rattle.std.proofs.lemmas.List.{length-take-le}
use Rattle.fx_css.proofs.NumberedLemmas.{length_shown, length_signs, front_shown}
use Rattle.fx_css.proofs.parts.Part.front.Goals as goal

pub slice_bounds-result-end : goal.slice_bounds-result-end
slice_bounds-result-end c = sym (length-take-le c.args.end c.args.self.bytes.now (let h : c.args.end ≤ length c.args.self.bytes.now = omega (arith, c.requires, length_shown c.args.self) in h))

pub slice_bounds-result-end-2 : goal.slice_bounds-result-end-2
slice_bounds-result-end-2 c = sym (length-take-le c.args.end c.args.self.signs.now (let h : c.args.end ≤ length c.args.self.signs.now = omega (arith, c.requires, length_signs c.args.self) in h))

pub returns : goal.returns
returns c = front_shown c.args.self _ c.args.end refl refl refl
